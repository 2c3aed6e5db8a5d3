use Rattle.std.proofs.Common.{◌≡◌, ◌∙◌, ap, arith, length, subst, sym}
use Rattle.std.specs.List.{AllZip}
use Rattle.std.proofs.lemmas.List.{with_items_is}
use Rattle.pdq_table.specs.Layout.{AreStored, IsRecoded, view_of}
use Rattle.pdq_table.proofs.Finishing.{finished-stored, finished-view}
use Rattle.pdq_table.proofs.storing.Stored.finish.Goals as goal

pub invariant_of-result : goal.invariant_of-result
invariant_of-result c =
    let ts = c.args.tables.items in
    let news = c.recode_tables.new.tables in
    let codes = c.in_ok-dict.codes.items in
    let recoded : AllZip (IsRecoded codes) ts news = rw (← c.deref.ensures.value, ← c.deref_mut.ensures.value) c.recode_tables.ensures.recoded in
    let as_many : length news ≡ c.args.tables.len = omega (arith, ap length c.deref_mut.ensures.value, c.recode_tables.auto.tables, c.args.tables.ok.0) in
    subst (AreStored c.args.schema c.in_ok-dict.dict) (sym (with_items_is c.args.tables news as_many))
    (finished-stored c.args.schema c.args.notes c.in_ok-dict.dict codes ts news c.requires.taken c.in_ok-dict.ensures.dict c.in_ok-dict.ensures.codes recoded)

pub returns : goal.returns
returns c =
    let ts = c.args.tables.items in
    let news = c.recode_tables.new.tables in
    let codes = c.in_ok-dict.codes.items in
    let recoded : AllZip (IsRecoded codes) ts news = rw (← c.deref.ensures.value, ← c.deref_mut.ensures.value) c.recode_tables.ensures.recoded in
    let as_many : length news ≡ c.args.tables.len = omega (arith, ap length c.deref_mut.ensures.value, c.recode_tables.auto.tables, c.args.tables.ok.0) in
    record {
      value = λ views taken. ap (view_of c.args.schema c.in_ok-dict.dict) (with_items_is c.args.tables news as_many)
          ∙ finished-view c.args.schema c.args.notes c.in_ok-dict.dict codes ts news c.requires.taken c.in_ok-dict.ensures.dict c.in_ok-dict.ensures.codes recoded views taken;
    }
