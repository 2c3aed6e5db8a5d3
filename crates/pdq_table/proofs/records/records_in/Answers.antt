use Rattle.std.proofs.Common.{ℕ, ◌≤◌, ◌∙◌, List, [], ◌∷◌, length, refl, inr, arith}
use Rattle.std.specs.Prelude.{Bool, true, false, cond}
use Rattle.csv.specs.Reading.{is_bom, strip_bom}
use Rattle.pdq_table.specs.Records.{records_left}
use Rattle.pdq_table.proofs.records.records_in.Goals as goal

either : (b : Bool) (xs ys : List ℕ) → length xs ≤ length ys → length (cond b xs ys) ≤ length ys
either true xs ys h = h
either false xs ys h = omega arith

strip_shorter : (xs : List ℕ) → length (strip_bom xs) ≤ length xs
unfolding strip_bom
strip_shorter [] = omega arith
strip_shorter (a ∷ []) = omega arith
strip_shorter (a ∷ b ∷ []) = omega arith
strip_shorter (a ∷ b ∷ c ∷ rest) = either (is_bom a b c) rest (a ∷ b ∷ c ∷ rest) (omega arith)

pub returns-clause-reading : goal.returns-clause-reading
returns-clause-reading c =
    let r = c.from_reader.ensures in
    let e = c.flexible.ensures in
    let h = c.has_headers.ensures in
    record {
      trim = rw (e, h) at r.trim ∙ c.new.ensures.trim;
      ready = inr (inr (rw (e, h) at r.has_headers, r.headers));
      config = rw (e, h) at r.config ∙ c.new.ensures.config;
      short = rw r.source (omega (arith, strip_shorter c.args.bytes.now, c.requires));
    }

pub returns-clause-left : goal.returns-clause-left
unfolding records_left
returns-clause-left c = rw (c.from_reader.ensures.state, c.from_reader.ensures.source) refl
