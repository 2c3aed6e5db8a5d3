use Rattle.std.proofs.Common.{ℕ, sym, subst}
use Rattle.pdq_office.specs.Passes.{lock_in}
use Rattle.pdq_talk.specs.declared.replied.Replied.TheVariants as told
use Rattle.pdq_talk.specs.Lines as asked
use Rattle.pdq_talk.specs.Hand.{Comes}
use Rattle.pdq_talk.proofs.Plainly.{some_party, showing, no_room}
use Rattle.pdq_talk.proofs.plain.show_status.Goals as goal

pub returns-in-Ok : goal.returns-in-Ok
returns-in-Ok g c =
    let party = some_party c.args.standing.now.party c.requires.some in
    record {
      comes = subst (λ (k : ℕ). Comes (lock_in c.args.office.now) c.args.pass.now c.look.new.pass c.args.standing.now asked.Status (told.Shown k c.in-Ok.text)) (sym c.step.ensures.value)
          (showing (lock_in c.args.office.now) c.args.pass.now c.look.new.pass c.args.standing.now c.requires.hand party.0 c.look.new.into c.in-Ok.text party.1 c.in-Ok.ensures.text c.look.ensures.turn c.look.ensures.follows);
    }

pub returns-in-Err : goal.returns-in-Err
returns-in-Err g c = record { comes = no_room (lock_in c.args.office.now) c.args.pass.now c.look.new.pass c.args.standing.now c.requires.hand asked.Status c.look.ensures.follows }
