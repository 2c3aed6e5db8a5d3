-- Records of ASCII bytes alone, whose fields are all UTF-8.
use Rattle.std.proofs.Common.{ℕ, zero, suc, ◌≡◌, ◌<◌, ◌≤◌, ◌⊎◌, ◌+◌, ◌-◌, ◌∙◌, Bool, true, false, cond, List, [], ◌∷◌, None, Some, ap, arith, drop, get_or, inl, inr, refl, take}
use Rattle.std.specs.Prelude.{MatchBool}
use Rattle.std.specs.Str.{IsAscii, IsNotAscii, is_utf8}
use Rattle.std.proofs.lemmas.Bool.{cases_lt}
use Rattle.std.proofs.lemmas.List.{get_or-drop, get_or-take}
use Rattle.std.proofs.lemmas.Str.{IsUtf8-from_ascii, is_utf8-from_IsUtf8}
use Rattle.csv.specs.Records.{Row, cut_from, fields_of}
use Rattle.pdq_value.specs.PlainTable.{not_utf8_at}

past_end : (xs : List ℕ) (n i : ℕ) → n ≤ i → get_or (take n xs) i 0 ≡ 0
past_end [] zero i h = refl
past_end [] (suc n) i h = refl
past_end (x ∷ xs) zero i h = refl
past_end (x ∷ xs) (suc n) zero h = absurd (omega (arith, h))
past_end (x ∷ xs) (suc n) (suc i) h = past_end xs n i (omega (arith, h))

-- a part of ASCII bytes is ASCII
part_of_ascii : (bytes : List ℕ) (start n : ℕ) → IsAscii bytes → IsAscii (take n (drop start bytes))
part_of_ascii bytes start n ascii i = by (cases_lt i n)
  where
    by : (i < n) ⊎ (n ≤ i) → get_or (take n (drop start bytes)) i 0 < 128
    by (inl before) =
        let at : get_or (take n (drop start bytes)) i 0 ≡ get_or bytes (start + i) 0 = get_or-take n (drop start bytes) i 0 before ∙ get_or-drop start bytes i 0 in
        omega (arith, at, ascii (start + i))
    by (inr past) = omega (arith, past_end (drop start bytes) n i past)

cut_ascii : (column start : ℕ) (ends bytes : List ℕ) → IsAscii bytes → not_utf8_at column (cut_from start ends bytes) ≡ None
unfolding cut_from
cut_ascii column start [] bytes ascii = refl
cut_ascii column start (end ∷ ends) bytes ascii =
    let field : List ℕ = take (end - start) (drop start bytes) in
    let good : is_utf8 field ≡ true = is_utf8-from_IsUtf8 field (IsUtf8-from_ascii field (part_of_ascii bytes start (end - start) ascii)) in
    ap (λ (b : Bool). cond b (not_utf8_at (column + 1) (cut_from end ends bytes)) (Some column)) good ∙ cut_ascii (column + 1) end ends bytes ascii

-- where all bytes of a record are ASCII, no field is other than UTF-8
pub ascii_record : (row : Row) (b : Bool) → MatchBool b (IsAscii row.bytes) (IsNotAscii row.bytes) → b ≡ true → not_utf8_at 1 (fields_of row) ≡ None
ascii_record row true ascii is = cut_ascii 1 0 row.ends row.bytes ascii
ascii_record row false ascii is = absurd (cc)
