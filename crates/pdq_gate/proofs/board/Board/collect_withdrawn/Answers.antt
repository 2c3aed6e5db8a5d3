use Rattle.std.proofs.Common.{◌∙◌, refl, sym}
use Rattle.pdq_gate.proofs.Granting.{next_fetched, admitted_fetched}
use Rattle.pdq_gate.proofs.board.Board.collect_withdrawn.Goals as goal

pub returns-clause-state : goal.returns-clause-state
returns-clause-state c =
    c.fetch.ensures.state ∙ sym (next_fetched c.args.self.now c.args.session c.args.id c.args.place c.args.row c.requires.settled c.requires.waits c.requires.active c.requires.place c.requires.there)

pub returns-clause-told : goal.returns-clause-told
returns-clause-told c =
    c.fetch.ensures.told ∙ sym (admitted_fetched c.args.self.now c.args.session c.args.id c.args.place c.args.row c.args.self.now.admitted.items c.requires.settled c.requires.waits c.requires.active c.requires.place c.requires.there)

pub returns-clause-granted : goal.returns-clause-granted
returns-clause-granted c =
    rw c.fetch.ensures.state (record { configuration = record { config = refl; pending = refl }; waiting = refl; active = refl; sessions = refl; entry = refl })
