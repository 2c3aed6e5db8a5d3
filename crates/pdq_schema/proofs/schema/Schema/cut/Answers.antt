use Rattle.std.proofs.Common.{◌<◌, length, arith}
use Rattle.std.proofs.lemmas.List.{length-map}
use Rattle.pdq_schema.specs.Schemas.{cut_of}
use Rattle.pdq_schema.proofs.FragmentLaws.{few_at}
use Rattle.pdq_schema.proofs.schema.Schema.cut.Goals as goal

pub returns-clause-fragments : goal.returns-clause-fragments
returns-clause-fragments c =
    let table = rw (← c.self.view_is) at c.requires.table in
    let within : c.args.table < length c.self.inside.cuts.items = omega (arith, table, c.self.invariant.a_cut_each, length-map c.self.inside.cuts.items cut_of) in
    few_at _ c.self.inside.cuts.items c.args.table _ c.self.invariant.cuts within c.index.ensures
