use Rattle.std.proofs.Common.{sym, ◌∙◌}
use Rattle.pdqd.proofs.Rules.{keeps_rules, said_form_keeps_rules}
use Rattle.pdqd.proofs.StoresKept.{none_fell}
use Rattle.pdqd.proofs.TableQuestions.{left_unread_by, nothing_done_by}
use Rattle.pdqd.proofs.run.run.Goals as goal

pub returns-in-Err-clause-part : goal.returns-in-Err-clause-part
returns-in-Err-clause-part g c = λ is. nothing_done_by _ _ _ _ _ _

pub returns-in-Err-clause-lawful : goal.returns-in-Err-clause-lawful
returns-in-Err-clause-lawful g c = said_form_keeps_rules _ c.in-Err.ensures.wanting

pub returns-in-Err-clause-untouched : goal.returns-in-Err-clause-untouched
returns-in-Err-clause-untouched g c = left_unread_by _ _

pub returns-clause-lawful : goal.returns-clause-lawful
returns-clause-lawful g c = keeps_rules _ c.in-Some.form (sym c.in-Some.is ∙ c.in-Ok.ensures.value) (rw c.in-Some.is at c.in-Ok.ensures.in_range)

pub returns-clause-stores_faults : goal.returns-clause-stores_faults
returns-clause-stores_faults g c = none_fell _ _ _ c.run_form.ensures.stores.count (λ i d within. (c.run_form.ensures.stores.each i d within).later)

pub returns-clause-stores_puts : goal.returns-clause-stores_puts
returns-clause-stores_puts g c = none_fell _ _ _ c.run_form.ensures.stores.count (λ i d within. (c.run_form.ensures.stores.each i d within).more)
