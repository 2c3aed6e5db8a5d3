use Rattle.std.proofs.Common.{sym, subst, Some, refl}
use Rattle.pdq_office.specs.Passes.{lock_in}
use Rattle.pdq_talk.specs.declared.replied.Replied.TheVariants as told
use Rattle.pdq_talk.specs.declared.commands.Plain.{Plain}
use Rattle.pdq_talk.specs.declared.commands.Plain.TheVariants as plain
use Rattle.pdq_talk.specs.Plain.{plain_asked}
use Rattle.pdq_talk.specs.Hand.{Comes}
use Rattle.pdq_talk.proofs.Plainly.{plainly}
use Rattle.pdq_talk.proofs.answers.answer_within.Goals as goal

pub returns-in-Nothing : goal.returns-in-Nothing
returns-in-Nothing g c = record {
  comes = subst (λ (l : Plain). Comes (lock_in c.args.office.now) c.args.pass.now c.args.pass.now c.args.standing.now (plain_asked l) told.Silent) (sym c.in-Nothing.is)
      (plainly (lock_in c.args.office.now) c.args.pass.now c.args.standing.now c.requires.hand (plain_asked plain.Nothing) told.Silent (Some c.args.party) c.requires.some c.requires.hand refl (λ k. refl));
}

pub returns-in-BadLine : goal.returns-in-BadLine
returns-in-BadLine g c = record {
  comes = subst (λ (l : Plain). Comes (lock_in c.args.office.now) c.args.pass.now c.args.pass.now c.args.standing.now (plain_asked l) (told.Error c.in-BadLine.fault)) (sym c.in-BadLine.is)
      (plainly (lock_in c.args.office.now) c.args.pass.now c.args.standing.now c.requires.hand (plain_asked (plain.BadLine c.in-BadLine.fault)) (told.Error c.in-BadLine.fault) (Some c.args.party) c.requires.some c.requires.hand refl (λ k. refl));
}

pub returns-in-Unresolved : goal.returns-in-Unresolved
returns-in-Unresolved g c = record {
  comes = subst (λ (l : Plain). Comes (lock_in c.args.office.now) c.args.pass.now c.args.pass.now c.args.standing.now (plain_asked l) (told.Error c.in-Unresolved.fault)) (sym c.in-Unresolved.is)
      (plainly (lock_in c.args.office.now) c.args.pass.now c.args.standing.now c.requires.hand (plain_asked (plain.Unresolved c.in-Unresolved.fault)) (told.Error c.in-Unresolved.fault) (Some c.args.party) c.requires.some c.requires.hand refl (λ k. refl));
}
