-- What a sink was told, line after line.
use Rattle.std.proofs.Common.{ℕ, suc, ◌≡◌, ◌∙◌, ◌+◌, ◌≤◌, List, [], ◌∷◌, ◌++◌, length, take, Option, sym, ap, subst, arith, length-append}
use Rattle.std.specs.Prelude.{Result, Ok, Err, OnOk, OnErr, min, ◌^◌, ◌-◌}
use Rattle.std.proofs.lemmas.Grind.{common_steps}
use Rattle.std.proofs.lemmas.List.{take-append-le}
use Rattle.pdq_edge.specs.Bytes.{Grows, GrewSome}
use Rattle.pdq_edge.specs.Causes.{Rose}
use Rattle.pdq_edge.proofs.Growing.{grows_then, grows_none}
use Rattle.pdq_talk.specs.Writing.{Wrote}
use Rattle.pdq_talk.specs.declared.telling.Break.{Break}
use Rattle.pdq_talk.specs.declared.telling.Break.TheVariants.{Write}

take_past : (xs ys : List ℕ) (n : ℕ) → take (length xs + n) (xs ++ ys) ≡ xs ++ take n ys
take_past [] ys n = let e : length {A = ℕ} [] + n ≡ n = omega arith in ap (λ k. take k ys) e
take_past (x ∷ xs) ys n = let e : length (x ∷ xs) + n ≡ suc (length xs + n) = omega arith in ap (λ k. take k (x ∷ xs ++ ys)) e ∙ ap (λ l. x ∷ l) (take_past xs ys n)

rose_after : (a b c : ℕ) → a ≤ b → Rose b c → Rose a c
rose_after a b c le rose = let r : min (b + 1) (2 ^ 64 - 1) ≤ c = rose in grind (arith, common_steps, r, le)

-- a line after lines that were all written
pub wrote_then : {T U : Type 0} (before mid after : Option (List ℕ)) (f g h : ℕ) (told : Result T Break) (first : T) (result : Result U Break) (so_far more : List ℕ)
    → told ≡ Ok first → Wrote before mid f g told so_far → Wrote mid after g h result more → Wrote before after f h result (so_far ++ more)
wrote_then {T} {U} before mid after f g h told first result so_far more is also b = joined (subst (λ (r : Result T Break). Wrote before mid f g r so_far) is also)
  where
    joined : Wrote {T = T} before mid f g (Ok first) so_far → Wrote before after f h result (so_far ++ more)
    joined a = record {
      whole = whole result b.whole;
      part = part result b.part;
      later = (let x : f ≤ g = a.later in let y : g ≤ h = b.later in omega arith);
      cause = λ e. rose_after f g h a.later (b.cause e);
    }
      where
        whole : (r : Result U Break) → OnOk r (Grows mid after more) → OnOk r (Grows before after (so_far ++ more))
        whole (Ok x) grew = grows_then before mid after so_far more a.whole grew
        whole (Err e) grew = grew

        part : (r : Result U Break) → OnErr r (GrewSome mid after more) → OnErr r (GrewSome before after (so_far ++ more))
        part (Ok x) grew = grew
        part (Err e) grew = record {
          count = length so_far + grew.count;
          within = (let w : grew.count ≤ length more = grew.within in omega (arith, length-append so_far more));
          grew = subst (λ (z : List ℕ). Grows before after z) (sym (take_past so_far more grew.count)) (grows_then before mid after so_far (take grew.count more) a.whole grew.grew);
        }

-- nothing more is written where it broke
pub wrote_stop : {T U : Type 0} (before mid : Option (List ℕ)) (f g : ℕ) (told : Result T Break) (broken : Result U Break) (e : Break) (so_far more : List ℕ) → told ≡ Err e → broken ≡ Err e
    → Wrote before mid f g told so_far → Wrote before mid f g broken (so_far ++ more)
wrote_stop {T} {U} before mid f g told broken e so_far more is also a =
    let w : Wrote {T = T} before mid f g (Err e) so_far = subst (λ (r : Result T Break). Wrote before mid f g r so_far) is a in
    subst (λ (r : Result U Break). Wrote before mid f g r (so_far ++ more)) (sym also) (record {
      whole = tt;
      part = record {
        count = w.part.count;
        within = (let l : w.part.count ≤ length so_far = w.part.within in omega (arith, length-append so_far more));
        grew = subst (λ (z : List ℕ). Grows before mid z) (sym (take-append-le w.part.count so_far more w.part.within)) w.part.grew;
      };
      later = w.later;
      cause = λ eq. w.cause (ap (λ (x : Break). Err x) (same_Err e Write eq));
    })
  where
    same_Err : (x y : Break) → ◌≡◌ {A = Result U Break} (Err x) (Err y) → x ≡ y
    same_Err x y eq = cc

-- want of memory for a line
pub wrote_short : {T U : Type 0} (before mid : Option (List ℕ)) (f g : ℕ) (told : Result T Break) (first : T) (result : Result U Break) (so_far more : List ℕ) → told ≡ Ok first → result ≡ Err Rattle.pdq_talk.specs.declared.telling.Break.TheVariants.Memory
    → Wrote before mid f g told so_far → Wrote before mid f g result (so_far ++ more)
wrote_short {T} {U} before mid f g told first result so_far more was is also = let a : Wrote {T = T} before mid f g (Ok first) so_far = subst (λ (r : Result T Break). Wrote before mid f g r so_far) was also in subst (λ (r : Result U Break). Wrote before mid f g r (so_far ++ more)) (sym is) (record {
  whole = tt;
  part = record {
    count = length so_far;
    within = omega (arith, length-append so_far more);
    grew = subst (λ (z : List ℕ). Grows before mid z) (all so_far more) a.whole;
  };
  later = a.later;
  cause = λ eq. absurd (apart eq);
})
  where
    all : (xs ys : List ℕ) → xs ≡ take (length xs) (xs ++ ys)
    all xs ys = grind (arith, common_steps)

    apart : ◌≡◌ {A = Result U Break} (Err Rattle.pdq_talk.specs.declared.telling.Break.TheVariants.Memory) (Err Write) → ⊥
    apart eq = cc

-- nothing was told yet
pub wrote_none : {T : Type 0} (before : Option (List ℕ)) (f : ℕ) (first : T) → Wrote {T = T} before before f f (Ok first) []
wrote_none {T} before f first = record { whole = grows_none before; part = tt; later = omega arith; cause = λ e. absurd (apart e) }
  where
    apart : ◌≡◌ {A = Result T Break} (Ok first) (Err Write) → ⊥
    apart e = cc
