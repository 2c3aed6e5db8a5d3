-- The order of texts is linear, and the test on texts tells them apart.
use Rattle.std.proofs.Common.{◌≡◌, ℕ, List, [], ◌∷◌, true, refl, sym, ap, ap₂, true≢false}
use Rattle.std.specs.Cmp.{IsEquivalence}
use Rattle.std.specs.Ordering.{is_eq, is_gt, is_lt}
use Rattle.std.specs.declared.cmp.Ordering.{Ordering}
use Rattle.std.specs.declared.cmp.Ordering.TheVariants.{Less, Equal, Greater}
use Rattle.std.proofs.lemmas.Cmp.{eq_by_cmp_equiv, nat_list_cmp_total, ranked}
use Rattle.pdq_base.specs.Sorting.{IsLinearOrder}
use Rattle.pdq_value.proofs.Orders.{both_tie}
use Rattle.pdq_dict.specs.Texts.{is_text, text_cmp}

same : (a b : List ℕ) → text_cmp a b ≡ Equal → a ≡ b
same [] [] e = refl
same [] (y ∷ ys) e = absurd (true≢false (ap is_lt e))
same (x ∷ xs) [] e = absurd (true≢false (ap is_gt e))
same (x ∷ xs) (y ∷ ys) e = let t = both_tie _ _ e in ap₂ (λ a us. a ∷ us) (ranked x y Equal (sym t.0)) (same xs ys t.1)

pub text_cmp-IsLinearOrder : IsLinearOrder text_cmp
text_cmp-IsLinearOrder = record { total = nat_list_cmp_total; same = same }

pub is_text-IsEquivalence : IsEquivalence is_text
is_text-IsEquivalence = eq_by_cmp_equiv nat_list_cmp_total

equal_from_is_eq : (r : Ordering) → is_eq r ≡ true → r ≡ Equal
equal_from_is_eq Less e = absurd (true≢false (sym e))
equal_from_is_eq Equal e = refl
equal_from_is_eq Greater e = absurd (true≢false (sym e))

-- a text that passes the test is the text
pub same_text : (a b : List ℕ) → is_text a b ≡ true → a ≡ b
same_text a b e = same a b (equal_from_is_eq (text_cmp a b) e)
