use Rattle.std.proofs.Common.{◌≡◌, ◌++◌, [], ◌∷◌, rules}
use Rattle.pdq_mean.specs.Loops.{lists_of}
use Rattle.pdq_result.specs.Sources.{cells_from}
use Rattle.pdq_result.proofs.Gathered.{lists_of-more}
use Rattle.pdq_result.proofs.decoding.push_rows.Goals as goal

pub loop-i-preserved : goal.loop-i-preserved
loop-i-preserved c =
    let pushed : c.push.new.self.items ≡ c.loop-i.rows.items ++ c.in_ok-cells.cells ∷ [] = search rules in
    lists_of-more (cells_from c.args.dict.now c.args.sources.now) c.args.kept.now.rows c.loop-i.i c.row.result.now (lists_of c.args.rows.now.items) c.loop-i.rows.items c.push.new.self.items c.in_ok-cells.cells
    c.row.ensures.row pushed c.in_ok-cells.ensures.value c.loop-i.invariant
