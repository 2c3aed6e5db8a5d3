-- Each part that is read takes a token at least.
use Rattle.std.proofs.Common.{◌≡◌, ℕ, suc, ◌<◌, Bool, true, false, cond, List, [], ◌∷◌, length, Option, Some, None, Result, Ok, Err, arith}
use Rattle.std.specs.Prelude.{◌&&◌}
use Rattle.pdq_sql.specs.declared.tokens.Mark.{Mark}
use Rattle.pdq_sql.specs.declared.tokens.Mark.TheVariants as mark
use Rattle.pdq_sql.specs.declared.tokens.Token.{Token}
use Rattle.pdq_sql.specs.declared.reading.Unread.{Unread}
use Rattle.pdq_sql.specs.declared.reading.Unread.TheVariants.{At}
use Rattle.pdq_sql.specs.Reading.{Parse, ◌>>=◌, is_mark, next_is, is_word_next, needed, name_in, comparison_in, literal_in, int_in, expect_of, name_of, compare_of, literal_of, number_of, column_of, bracketed_of, form_of, test_of, order_of, direction_of, item_of, table_of, cond_of, group_of, key_of}

-- fewer than n tokens are left of what was read
abbrev pub Below : {X : Type 0} → ℕ → Result (X × List Token) Unread → Type 0
Below n (Ok x) = length x.1 < n
Below n (Err e) = Unit {0}

below_then : {A B : Type 0} (n : ℕ) (r : Parse A) (f : A × List Token → Parse B) → Below n r → ((x : A × List Token) → length x.1 < n → Below n (f x)) → Below n (r >>= f)
below_then n (Ok x) f h k = k x h
below_then n (Err e) f h k = tt

below_if : {A : Type 0} (n : ℕ) (b : Bool) (x y : Parse A) → Below n x → Below n y → Below n (cond b x y)
below_if n true x y h k = h
below_if n false x y h k = k

below_less : {A : Type 0} (m n : ℕ) (r : Parse A) → m < n → Below m r → Below n r
below_less m n (Ok x) lt h = omega arith
below_less m n (Err e) lt h = tt

needed_below : {A : Type 0} (t : Token) (ts : List Token) (o : Option A) → Below (suc (length ts)) (needed t ts o)
needed_below t ts (Some x) = omega arith
needed_below t ts None = tt

pub expect_below : (m : Mark) (ts : List Token) → Below (length ts) (expect_of m ts)
expect_below m [] = tt
expect_below m (t ∷ ts) = below_if _ (is_mark m t.kind) (Ok (m, ts)) (Err (At t.place)) (omega arith) tt

pub name_below : (ts : List Token) → Below (length ts) (name_of ts)
name_below [] = tt
name_below (t ∷ ts) = needed_below t ts (name_in t.kind)

compare_below : (ts : List Token) → Below (length ts) (compare_of ts)
compare_below [] = tt
compare_below (t ∷ ts) = needed_below t ts (comparison_in t.kind)

literal_below : (ts : List Token) → Below (length ts) (literal_of ts)
literal_below [] = tt
literal_below (t ∷ ts) = needed_below t ts (literal_in t.kind)

number_below : (ts : List Token) → Below (length ts) (number_of ts)
number_below [] = tt
number_below (t ∷ ts) = needed_below t ts (int_in t.kind)

-- a step that reads on after another
on : {A : Type 0} (n : ℕ) (ts : List Token) (r : Parse A) → length ts < n → Below (length ts) r → Below n r
on n ts r lt h = below_less (length ts) n r lt h

pub column_below : (ts : List Token) → Below (length ts) (column_of ts)
unfolding column_of
column_below ts =
    below_then _ (name_of ts) _ (name_below ts) (λ x lt.
    below_if _ (next_is mark.Point x.1) _ _
    (below_then _ (expect_of mark.Point x.1) _ (on _ x.1 _ lt (expect_below mark.Point x.1)) (λ p lp.
    below_then _ (name_of p.1) _ (on _ p.1 _ lp (name_below p.1)) (λ y ly. ly)))
    lt)

bracketed_below : (fold : Mark) (ts : List Token) → Below (length ts) (bracketed_of fold ts)
unfolding bracketed_of
bracketed_below fold ts =
    below_then _ (expect_of fold ts) _ (expect_below fold ts) (λ f lf.
    below_then _ (expect_of mark.Open f.1) _ (on _ f.1 _ lf (expect_below mark.Open f.1)) (λ o lo.
    below_then _ (column_of o.1) _ (on _ o.1 _ lo (column_below o.1)) (λ c lc.
    below_then _ (expect_of mark.Close c.1) _ (on _ c.1 _ lc (expect_below mark.Close c.1)) (λ d ld. ld))))

pub form_below : (ts : List Token) → Below (length ts) (form_of ts)
unfolding form_of
form_below ts =
    below_if _ (next_is mark.Count ts) _ _
    (below_then _ (expect_of mark.Count ts) _ (expect_below mark.Count ts) (λ f lf.
    below_then _ (expect_of mark.Open f.1) _ (on _ f.1 _ lf (expect_below mark.Open f.1)) (λ o lo.
    below_then _ (expect_of mark.Star o.1) _ (on _ o.1 _ lo (expect_below mark.Star o.1)) (λ c lc.
    below_then _ (expect_of mark.Close c.1) _ (on _ c.1 _ lc (expect_below mark.Close c.1)) (λ d ld. ld)))))
    (below_if _ (next_is mark.Sum ts) _ _ (below_then _ (bracketed_of mark.Sum ts) _ (bracketed_below mark.Sum ts) (λ c lc. lc))
    (below_if _ (next_is mark.Avg ts) _ _ (below_then _ (bracketed_of mark.Avg ts) _ (bracketed_below mark.Avg ts) (λ c lc. lc))
    (below_if _ (next_is mark.Min ts) _ _ (below_then _ (bracketed_of mark.Min ts) _ (bracketed_below mark.Min ts) (λ c lc. lc))
    (below_if _ (next_is mark.Max ts) _ _ (below_then _ (bracketed_of mark.Max ts) _ (bracketed_below mark.Max ts) (λ c lc. lc))
    (below_then _ (column_of ts) _ (column_below ts) (λ c lc. lc))))))

pub test_below : (ts : List Token) → Below (length ts) (test_of ts)
unfolding test_of
test_below ts =
    below_then _ (column_of ts) _ (column_below ts) (λ l ll.
    below_then _ (compare_of l.1) _ (on _ l.1 _ ll (compare_below l.1)) (λ c lc.
    below_if _ (next_is mark.Equal l.1 && is_word_next c.1) _ _
    (below_then _ (column_of c.1) _ (on _ c.1 _ lc (column_below c.1)) (λ r lr. lr))
    (below_then _ (literal_of c.1) _ (on _ c.1 _ lc (literal_below c.1)) (λ v lv. lv))))

pub order_below : (ts : List Token) → Below (length ts) (order_of ts)
unfolding order_of
order_below ts =
    below_if _ (is_word_next ts) _ _
    (below_then _ (column_of ts) _ (column_below ts) (λ c lc. lc))
    (below_then _ (number_of ts) _ (number_below ts) (λ n ln. ln))

pub direction_below : (n : ℕ) (ts : List Token) → length ts < n → Below n (direction_of ts)
unfolding direction_of
direction_below n ts lt =
    below_if _ (next_is mark.Asc ts) _ _
    (below_then _ (expect_of mark.Asc ts) _ (on _ ts _ lt (expect_below mark.Asc ts)) (λ a la. la))
    (below_if _ (next_is mark.Desc ts) _ _
    (below_then _ (expect_of mark.Desc ts) _ (on _ ts _ lt (expect_below mark.Desc ts)) (λ a la. la))
    lt)

pub item_below : (ts : List Token) → Below (length ts) (item_of ts)
unfolding item_of
item_below ts = below_then _ (form_of ts) _ (form_below ts) (λ f lf. lf)

pub table_below : (ts : List Token) → Below (length ts) (table_of ts)
unfolding table_of
table_below ts = below_then _ (name_of ts) _ (name_below ts) (λ f lf. lf)

pub cond_below : (ts : List Token) → Below (length ts) (cond_of ts)
unfolding cond_of
cond_below ts = below_then _ (test_of ts) _ (test_below ts) (λ f lf. lf)

pub group_below : (ts : List Token) → Below (length ts) (group_of ts)
unfolding group_of
group_below ts = below_then _ (column_of ts) _ (column_below ts) (λ f lf. lf)

pub key_below : (ts : List Token) → Below (length ts) (key_of ts)
unfolding key_of
key_below ts = below_then _ (order_of ts) _ (order_below ts) (λ o lo. below_then _ (direction_of o.1) _ (direction_below _ o.1 lo) (λ d ld. ld))

-- what is left of what was read
pub below_at : {A : Type 0} (n : ℕ) (r : Parse A) (x : A × List Token) → Below n r → r ≡ Ok x → length x.1 < n
below_at n (Ok y) x h e = let same : y ≡ x = cc in rw (← same) h
below_at n (Err d) x h e = absurd cc
