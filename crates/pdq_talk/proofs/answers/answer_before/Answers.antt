use Rattle.std.proofs.Common.{sym, subst, None, refl}
use Rattle.pdq_office.specs.Passes.{lock_in}
use Rattle.pdq_talk.specs.declared.replied.Replied.TheVariants as told
use Rattle.pdq_talk.specs.declared.commands.Plain.{Plain}
use Rattle.pdq_talk.specs.declared.commands.Plain.TheVariants as plain
use Rattle.pdq_talk.specs.Plain.{plain_asked}
use Rattle.pdq_talk.specs.Hand.{Comes}
use Rattle.pdq_talk.proofs.Plainly.{plainly}
use Rattle.pdq_talk.proofs.answers.answer_before.Goals as goal

pub returns-in-Nothing : goal.returns-in-Nothing
returns-in-Nothing g c = record {
  comes = subst (λ (l : Plain). Comes (lock_in c.args.office.now) c.args.pass.now c.args.pass.now c.args.standing.now (plain_asked l) told.Silent) (sym c.in-Nothing.is)
      (plainly (lock_in c.args.office.now) c.args.pass.now c.args.standing.now c.requires.hand (plain_asked plain.Nothing) told.Silent None c.requires.none c.requires.hand refl (λ k. refl));
}

pub returns-in-BadLine : goal.returns-in-BadLine
returns-in-BadLine g c = record {
  comes = subst (λ (l : Plain). Comes (lock_in c.args.office.now) c.args.pass.now c.args.pass.now c.args.standing.now (plain_asked l) (told.Error c.in-BadLine.fault)) (sym c.in-BadLine.is)
      (plainly (lock_in c.args.office.now) c.args.pass.now c.args.standing.now c.requires.hand (plain_asked (plain.BadLine c.in-BadLine.fault)) (told.Error c.in-BadLine.fault) None c.requires.none c.requires.hand refl (λ k. refl));
}

pub returns-in-Unresolved : goal.returns-in-Unresolved
returns-in-Unresolved g c = record {
  comes = subst (λ (l : Plain). Comes (lock_in c.args.office.now) c.args.pass.now c.args.pass.now c.args.standing.now (plain_asked l) told.NoSession) (sym c.in-Unresolved.is)
      (plainly (lock_in c.args.office.now) c.args.pass.now c.args.standing.now c.requires.hand (plain_asked (plain.Unresolved c.in-Unresolved.field-0)) told.NoSession None c.requires.none c.requires.hand refl (λ k. refl));
}

pub returns-in-Priority : goal.returns-in-Priority
returns-in-Priority g c = record {
  comes = subst (λ (l : Plain). Comes (lock_in c.args.office.now) c.args.pass.now c.args.pass.now c.args.standing.now (plain_asked l) told.NoSession) (sym c.in-Priority.is)
      (plainly (lock_in c.args.office.now) c.args.pass.now c.args.standing.now c.requires.hand (plain_asked (plain.Priority c.in-Priority.field-0)) told.NoSession None c.requires.none c.requires.hand refl (λ k. refl));
}

pub returns-in-Cancel : goal.returns-in-Cancel
returns-in-Cancel g c = record {
  comes = subst (λ (l : Plain). Comes (lock_in c.args.office.now) c.args.pass.now c.args.pass.now c.args.standing.now (plain_asked l) told.NoSession) (sym c.in-Cancel.is)
      (plainly (lock_in c.args.office.now) c.args.pass.now c.args.standing.now c.requires.hand (plain_asked (plain.Cancel c.in-Cancel.field-0)) told.NoSession None c.requires.none c.requires.hand refl (λ k. refl));
}

pub returns-in-Change : goal.returns-in-Change
returns-in-Change g c = record {
  comes = subst (λ (l : Plain). Comes (lock_in c.args.office.now) c.args.pass.now c.args.pass.now c.args.standing.now (plain_asked l) told.NoSession) (sym c.in-Change.is)
      (plainly (lock_in c.args.office.now) c.args.pass.now c.args.standing.now c.requires.hand (plain_asked (plain.Change c.in-Change.field-0)) told.NoSession None c.requires.none c.requires.hand refl (λ k. refl));
}

pub returns-in-Status : goal.returns-in-Status
returns-in-Status g c = record {
  comes = subst (λ (l : Plain). Comes (lock_in c.args.office.now) c.args.pass.now c.args.pass.now c.args.standing.now (plain_asked l) told.NoSession) (sym c.in-Status.is)
      (plainly (lock_in c.args.office.now) c.args.pass.now c.args.standing.now c.requires.hand (plain_asked plain.Status) told.NoSession None c.requires.none c.requires.hand refl (λ k. refl));
}

pub returns-in-Quit : goal.returns-in-Quit
returns-in-Quit g c = record {
  comes = subst (λ (l : Plain). Comes (lock_in c.args.office.now) c.args.pass.now c.args.pass.now c.args.standing.now (plain_asked l) told.Left) (sym c.in-Quit.is)
      (plainly (lock_in c.args.office.now) c.args.pass.now c.args.standing.now c.requires.hand (plain_asked plain.Quit) told.Left None c.requires.none c.requires.hand refl (λ k. refl));
}
