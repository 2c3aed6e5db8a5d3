use Rattle.std.proofs.Common.{refl}
use Rattle.std.specs.Prelude.{◌==◌}
use Rattle.pdq_model.specs.declared.rows.Waiting.{Waiting}
use Rattle.pdq_model.proofs.Soundness.{cancelled_active}
use Rattle.pdq_gate.specs.Board.{state_of}
use Rattle.pdq_gate.proofs.Lookups.{any_place}
use Rattle.pdq_gate.proofs.board.Board.withdraw_or_flag.Goals as goal

pub unreachable-requires : goal.unreachable-requires
unreachable-requires c = cancelled_active (state_of c.args.self.now) c.args.by c.args.id c.requires.may c.in-None.ensures.none c.in_default.ensures.none

pub returns-in-Some-clause-reply : goal.returns-in-Some-clause-reply
returns-in-Some-clause-reply c = rw (any_place (λ (w : Waiting). w.id == c.args.id) c.args.self.now.waiting, c.in-Some.ensures.place) refl

pub returns-in-Some-active_query-clause-reply : goal.returns-in-Some-active_query-clause-reply
returns-in-Some-active_query-clause-reply c = rw (any_place (λ (w : Waiting). w.id == c.args.id) c.args.self.now.waiting, c.in-None.ensures.none) refl
