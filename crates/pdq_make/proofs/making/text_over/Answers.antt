use Rattle.pdq_make.proofs.Lines.{all_lines}
use Rattle.pdq_make.proofs.MadeStates.{ended_query, ready_first, ready_second, ready_third}
use Rattle.pdq_make.proofs.making.text_over.Goals as goal

pub run_query-requires-clause-ready : goal.run_query-requires-clause-ready
run_query-requires-clause-ready c = ready_first _ c.requires.state

pub run_query-requires-2-clause-ready : goal.run_query-requires-2-clause-ready
run_query-requires-2-clause-ready c = ready_second _ (ended_query _ _ _ 1 c.requires.state c.run_query.ensures.state)

pub run_query-requires-3-clause-ready : goal.run_query-requires-3-clause-ready
run_query-requires-3-clause-ready c = ready_third _ (ended_query _ _ _ 2 (ended_query _ _ _ 1 c.requires.state c.run_query.ensures.state) c.run_query-2.ensures.state)

pub returns : goal.returns
returns c = record {
  text =
      all_lines _ _ _ _ _ _ c.args.count _ _ c.new-text.ensures.items c.in_ok-add_first_line.ensures.text c.in_ok-run_query.ensures.text c.in_ok-run_query-2.ensures.text c.in_ok-run_query-3.ensures.text c.in_ok-add_last_line.ensures.text
      (ended_query _ _ _ 3 (ended_query _ _ _ 2 (ended_query _ _ _ 1 c.requires.state c.run_query.ensures.state) c.run_query-2.ensures.state) c.run_query-3.ensures.state);
}
