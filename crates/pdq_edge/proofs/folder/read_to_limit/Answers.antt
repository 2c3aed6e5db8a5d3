use Rattle.std.proofs.Common.{◌≡◌, ◌+◌, ◌≤◌, ◌++◌, ℕ, List, Option, length, take, arith, ap, sym, ◌∙◌, append_assoc}
use Rattle.std.specs.Prelude.{Some, None}
use Rattle.std.specs.Io.KnownBytes.{Consumes}
use Rattle.std.proofs.lemmas.Grind.{common_steps}
use Rattle.pdq_edge.specs.Bytes.{Gave, GaveCount}
use Rattle.pdq_edge.proofs.folder.read_to_limit.Goals as goal

-- what two reads took
gave_both : (first middle last : Option (List ℕ)) (xs ys : List ℕ) → Consumes first middle xs → Consumes middle last ys → Gave first last (xs ++ ys)
gave_both None middle last xs ys one two = tt
gave_both (Some all) None last xs ys one two = absurd one
gave_both (Some all) (Some rest) None xs ys one two = absurd two
gave_both (Some all) (Some rest) (Some end) xs ys one two = one ∙ ap (λ bytes. xs ++ bytes) two ∙ sym (append_assoc xs ys end)

-- reads took one byte past the limit
one_past : (first middle last : Option (List ℕ)) (read piece : List ℕ) (n limit : ℕ) → Consumes first middle read → Consumes middle last (take n piece) → n ≤ length piece → length read + n ≡ limit + 1 → GaveCount first last (limit + 1)
one_past first middle last read piece n limit one two within count = record {
  bytes = read ++ take n piece;
  counted = grind (arith, common_steps);
  gave = gave_both first middle last read (take n piece) one two;
}

pub returns-then-room-n-clause-stops : goal.returns-then-room-n-clause-stops
returns-then-room-n-clause-stops g c =
    let within : c.in-Ok.n ≤ length c.read_on.new.into = grind (arith, c.in-Ok.ensures.bound) in
    let count : length c.pieces.read.items + c.in-Ok.n ≡ c.args.limit + 1 = grind (arith, common_steps) in
    λ _. one_past _ _ _ c.pieces.read.items c.read_on.new.into c.in-Ok.n c.args.limit c.pieces.invariant.took c.in-Ok.ensures.bytes.0 within count
