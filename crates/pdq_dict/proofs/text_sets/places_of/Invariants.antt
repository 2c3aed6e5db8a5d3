use Rattle.std.proofs.Common.{◌≡◌, length}
use Rattle.pdq_dict.specs.Texts.{AreCodesBelow}
use Rattle.pdq_dict.proofs.text_sets.places_of.Given as goal

abbrev pub invariant-loop-place : goal.invariant-loop-place
invariant-loop-place l = record {
  count : length l.places.items ≡ length l.marks;
  codes : AreCodesBelow l.place l.marks l.places.items;
}
