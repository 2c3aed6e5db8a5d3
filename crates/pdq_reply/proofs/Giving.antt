-- What the bytes at hand give.
use Rattle.std.proofs.Common.{suc, ◌≡◌, ℕ, ◌+◌, ◌<◌, ◌≤◌, Bool, true, false, List, [], ◌∷◌, ◌++◌, length, drop, take, refl, ap, sym, ◌∙◌, arith, Option, append_assoc, add-one, add-zero, ◌==◌, subst, ◌^◌, ◌-◌}
use Rattle.std.specs.Prelude.{Some, None, nat_lt, not, if◌then◌else◌}
use Rattle.std.proofs.lemmas.Bool.Decides.{nat_tests}
use Rattle.std.proofs.lemmas.List.{append-nil, length-append, take_at, take_all, drop_all, nil_from_length}
use Rattle.pdq_edge.specs.Bytes.{Gave, Gives}
use Rattle.pdq_reply.specs.declared.lines.LineOutcome.{LineOutcome}
use Rattle.pdq_reply.specs.declared.lines.LineOutcome.TheVariants as outcome
use Rattle.pdq_base.specs.Lines.{before_end, first_line, size_of, without_return}
use Rattle.pdq_reply.specs.Limits.{is_past_input, is_too_long}
use Rattle.pdq_reply.specs.Reading.{Reader, decided, given_from, bytes_of, GivesLine, Took, IsReading, IsUndecided, ReadsMore, Does, Reads, remaining}
use Rattle.pdq_reply.proofs.Splitting.{split_at_end, before_end_all}

abbrev choice : Bool → Bool → Bool → Option LineOutcome
choice past long ended = if past then Some outcome.InputTooLong else if long then Some outcome.LineTooLong else if ended then Some outcome.Line else None

chosen_line : (past long ended : Bool) → choice past long ended ≡ Some outcome.Line → (past ≡ false) × (long ≡ false) × (ended ≡ true)
chosen_line true long ended is = cc
chosen_line false true ended is = cc
chosen_line false false true is = (refl, refl, refl)
chosen_line false false false is = cc

chosen_none : (past long ended : Bool) → choice past long ended ≡ None → (past ≡ false) × (long ≡ false) × (ended ≡ false)
chosen_none true long ended is = cc
chosen_none false true ended is = cc
chosen_none false false true is = cc
chosen_none false false false is = (refl, refl, refl)

-- a line within the limits, with its end
pub line_decided : (before : ℕ) (bytes : List ℕ) → decided before bytes ≡ Some outcome.Line → (is_past_input before (first_line bytes) ≡ false) × (is_too_long (first_line bytes) ≡ false) × ((first_line bytes).ended ≡ true)
line_decided before bytes is = chosen_line (is_past_input before (first_line bytes)) (is_too_long (first_line bytes)) (first_line bytes).ended is

-- a part of a line within the limits
pub none_decided : (before : ℕ) (bytes : List ℕ) → decided before bytes ≡ None → (is_past_input before (first_line bytes) ≡ false) × (is_too_long (first_line bytes) ≡ false) × ((first_line bytes).ended ≡ false)
none_decided before bytes is = chosen_none (is_past_input before (first_line bytes)) (is_too_long (first_line bytes)) (first_line bytes).ended is

short_from : (n : ℕ) → nat_lt 8192 n ≡ false → n ≤ 8192
short_from n short = grind (arith, nat_tests)

-- what decides nothing is short
pub few_undecided : (before : ℕ) (bytes : List ℕ) → decided before bytes ≡ None → length bytes ≤ 8192
few_undecided before bytes is = let found = none_decided before bytes is in
    let all : before_end bytes ≡ bytes = before_end_all bytes found.2 in
    let size : length (before_end bytes) ≡ length bytes = ap length all in
    let short : length (before_end bytes) ≤ 8192 = short_from (length (before_end bytes)) found.1 in omega arith

whole_line : (bytes : List ℕ) → (first_line bytes).ended ≡ true → bytes ≡ bytes_of (first_line bytes) ++ drop (length (before_end bytes) + 1) bytes
whole_line bytes ended = split_at_end bytes ended ∙ sym (rw (ended, add-one) (append_assoc (before_end bytes) (10 ∷ []) (drop (suc (length (before_end bytes))) bytes)))

front_line : (bytes : List ℕ) (n : ℕ) → n ≡ length (before_end bytes) → (first_line bytes).ended ≡ true → take n bytes ≡ before_end bytes
front_line bytes n counted ended = ap (take n) (split_at_end bytes ended) ∙ take_at (before_end bytes) (10 ∷ drop (suc (length (before_end bytes))) bytes) n (sym counted)

size_ended : (bytes : List ℕ) → (first_line bytes).ended ≡ true → size_of (first_line bytes) ≡ length (before_end bytes) + 1
size_ended bytes ended = rw ended refl

size_unended : (bytes : List ℕ) → (first_line bytes).ended ≡ false → size_of (first_line bytes) ≡ length (before_end bytes)
size_unended bytes unended = rw unended (add-zero (length (before_end bytes)))

one_more : (n : ℕ) → (n == n + 1) ≡ false
one_more n = grind (arith, nat_tests)

itself : (n : ℕ) → (n == n) ≡ true
itself n = grind (arith, nat_tests)

-- a line with its end is given
gives_ended : (old : Reader) (count : ℕ) → count ≡ length (before_end old.buffered) → decided old.given old.buffered ≡ Some outcome.Line → GivesLine old.given old.buffered (given_from old count (count + 1))
gives_ended old count counted is = let found = line_decided old.given old.buffered is in
    let size : size_of (first_line old.buffered) ≡ count + 1 = size_ended old.buffered found.2 ∙ ap (λ n. n + 1) (sym counted) in
    let last : (count == count + 1) ≡ not (first_line old.buffered).ended = one_more count ∙ sym (ap not found.2) in record {
      line = first_line old.buffered;
      first = refl;
      whole = whole_line old.buffered found.2 ∙ ap (λ n. bytes_of (first_line old.buffered) ++ drop (n + 1) old.buffered) (sym counted);
      within = found.0;
      short = found.1;
      some = omega arith;
      given = ap (λ n. old.given + n) (sym size);
      says = ap without_return (front_line old.buffered count counted found.2);
      last = last;
      none_left = λ is_last. let ends : (count == count + 1) ≡ true = is_last in let goes : (count == count + 1) ≡ false = one_more count in cc;
    }

pub gives_line : (old new : Reader) (count : ℕ) → count ≡ length (before_end old.buffered) → decided old.given old.buffered ≡ Some outcome.Line → new ≡ given_from old count (count + 1) → GivesLine old.given old.buffered new
gives_line old new count counted is given = let P : Reader → Type 0 = GivesLine old.given old.buffered in subst P (sym given) (gives_ended old count counted is)

-- what is left at the end of the input is given as a line
gives_unended : (old : Reader) (count : ℕ) → count ≡ length old.buffered → 0 < count → decided old.given old.buffered ≡ None → GivesLine old.given old.buffered (given_from old count count)
gives_unended old count counted some is = let found = none_decided old.given old.buffered is in
    let all : before_end old.buffered ≡ old.buffered = before_end_all old.buffered found.2 in
    let size : size_of (first_line old.buffered) ≡ count = size_unended old.buffered found.2 ∙ ap length all ∙ sym counted in
    let empty : drop count old.buffered ≡ [] = drop_all count old.buffered (omega arith) in record {
      line = first_line old.buffered;
      first = refl;
      whole = rw (found.2, empty, all) (sym (append-nil (old.buffered ++ []) ∙ append-nil old.buffered));
      within = found.0;
      short = found.1;
      some = omega arith;
      given = ap (λ n. old.given + n) (sym size);
      says = ap without_return (take_all count old.buffered (omega arith) ∙ sym all);
      last = itself count ∙ sym (ap not found.2);
      none_left = λ is_last. empty;
    }

pub gives_rest : (old new : Reader) (count : ℕ) → count ≡ length old.buffered → 0 < count → decided old.given old.buffered ≡ None → new ≡ given_from old count count → GivesLine old.given old.buffered new
gives_rest old new count counted some is given = let P : Reader → Type 0 = GivesLine old.given old.buffered in subst P (sym given) (gives_unended old count counted some is)

-- one after another
gave_then : (a b c : Option (List ℕ)) (xs ys : List ℕ) → Gave a b xs → Gave b c ys → Gave a c (xs ++ ys)
gave_then None b c xs ys first second = tt
gave_then (Some left) None c xs ys first second = absurd first
gave_then (Some left) (Some between) None xs ys first second = absurd second
gave_then (Some left) (Some between) (Some rest) xs ys first second = first ∙ ap (λ zs. xs ++ zs) second ∙ sym (append_assoc xs ys rest)

counted_then : (s t u : ℕ) (xs ys : List ℕ) → (t < 2 ^ 64 - 1 → t ≡ s + length xs) → (u < 2 ^ 64 - 1 → u ≡ t + length ys) → u < 2 ^ 64 - 1 → u ≡ s + length (xs ++ ys)
counted_then s t u xs ys first second below = let more : u ≡ t + length ys = second below in let before : t ≡ s + length xs = first (omega arith) in rw length-append (omega arith)

pub took_then : (a b c : Option (List ℕ)) (s t u : ℕ) (xs ys : List ℕ) → Took a b s t xs → Took b c t u ys → Took a c s u (xs ++ ys)
took_then a b c s t u xs ys first second = record { gave = gave_then a b c xs ys first.gave second.gave; counted = counted_then s t u xs ys first.counted second.counted }

-- what was left when the input ended
pub read_rest : (which : LineOutcome) (a b c : Option (List ℕ)) (s t u : ℕ) (old mid held more new : Reader) (n : ℕ) → IsReading a b s t old mid → IsUndecided mid held → ReadsMore n b c t u held more → n ≡ 0 → Does which more.given more.buffered new → Reads which a c s u old new
read_rest which a b c s t u old mid held more new n reading undecided reads none does =
    let bytes : held.buffered ++ reads.bytes ≡ old.buffered ++ (reading.bytes ++ reads.bytes) = ap (λ xs. xs ++ reads.bytes) (undecided.kept.buffered ∙ reading.kept.buffered) ∙ append_assoc old.buffered reading.bytes reads.bytes in
    let all : more.buffered ≡ old.buffered ++ (reading.bytes ++ reads.bytes) = reads.kept.buffered ∙ bytes in
    let before : more.given ≡ old.given = reads.kept.given ∙ undecided.kept.given ∙ reading.kept.given in
    let P : ℕ → Type 0 = λ k. Does which k (old.buffered ++ (reading.bytes ++ reads.bytes)) new in
    let Q : List ℕ → Type 0 = λ xs. Does which more.given xs new in record {
      bytes = reading.bytes ++ reads.bytes;
      took = took_then a b c s t u reading.bytes reads.bytes reading.took reads.took;
      does = subst P before (subst Q all does);
    }

pub remaining_none : (a b c : Option (List ℕ)) (xs : List ℕ) → Gave a b xs → Gives b c [] → remaining a c ≡ []
remaining_none None b c xs gave gives = refl
remaining_none (Some all) None c xs gave gives = absurd gave
remaining_none (Some all) (Some left) None xs gave gives = absurd gives
remaining_none (Some all) (Some left) (Some rest) xs gave gives = sym gives.0 ∙ gives.1 refl

-- a read that gave nothing found nothing
pub none_left : (n : ℕ) (a b c : Option (List ℕ)) (s t u : ℕ) (old mid held new : Reader) → IsReading a b s t old mid → ReadsMore n b c t u held new → n ≡ 0 → remaining a c ≡ []
none_left n a b c s t u old mid held new reading reads none =
    let P : List ℕ → Type 0 = Gives b c in remaining_none a b c reading.bytes reading.took.gave (subst P (nil_from_length reads.bytes (reads.many ∙ none)) reads.gives)
