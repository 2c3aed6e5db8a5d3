use Rattle.pdq_make.proofs.MadeStates.{is_first, is_made, is_opened, is_second, may_submit_third}
use Rattle.pdq_make.proofs.making.submitted.Goals as goal

pub submit-requires-3 : goal.submit-requires-3
submit-requires-3 c = record { may = may_submit_third _ (is_second _ _ (is_first _ _ (is_opened _ _ c.in_ok-manager.ensures.state c.open_session.ensures.state) c.submit.ensures.state) c.submit-2.ensures.state) }

pub returns : goal.returns
returns c = record { state = is_made _ _ (is_second _ _ (is_first _ _ (is_opened _ _ c.in_ok-manager.ensures.state c.open_session.ensures.state) c.submit.ensures.state) c.submit-2.ensures.state) c.submit-3.ensures.state }
