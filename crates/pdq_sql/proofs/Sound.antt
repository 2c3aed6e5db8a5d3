-- What is read is in the grammar.
use Rattle.std.proofs.Common.{◌≡◌, ℕ, zero, suc, Bool, true, false, cond, List, [], ◌∷◌, length, Option, Some, None, Result, Ok, Err, refl, sym, ap, ◌∙◌, eqb}
use Rattle.std.specs.Prelude.{◌&&◌}
use Rattle.std.proofs.lemmas.Bool.{eqb-true}
use Rattle.pdq_sql.specs.declared.tokens.Mark.{Mark}
use Rattle.pdq_sql.specs.declared.tokens.Mark.TheVariants as mark
use Rattle.pdq_sql.specs.declared.tokens.TokenKind.{TokenKind}
use Rattle.pdq_sql.specs.declared.tokens.TokenKind.TheVariants.{Fixed, Word, Number, Quoted}
use Rattle.pdq_sql.specs.declared.tokens.Token.{Token}
use Rattle.pdq_sql.specs.declared.reading.Unread.{Unread}
use Rattle.pdq_sql.specs.declared.reading.Unread.TheVariants.{At}
use Rattle.pdq_sql.specs.declared.ast.AstColumn.{AstColumn}
use Rattle.pdq_sql.specs.declared.ast.AstLiteral.{AstLiteral}
use Rattle.pdq_sql.specs.declared.ast.AstLiteral.TheVariants as literal
use Rattle.pdq_query.specs.declared.query.Compare.{Compare}
use Rattle.pdq_sql.specs.Asts.{AstView}
use Rattle.pdq_sql.specs.Reading.{Parse, ◌>>=◌, code, same, is_mark, next_is, is_word_next, needed, name_in, comparison_in, literal_in, int_in, expect_of, name_of, compare_of, literal_of, number_of, column_of, bracketed_of, form_of, test_of, order_of, direction_of, item_of, table_of, cond_of, group_of, key_of, parts_within, parts_of, conds_of, groups_of, keys_of, select_of, at_end, whole_select_of}
use Rattle.pdq_sql.specs.Tokens.{comparison, int_of}
use Rattle.pdq_sql.specs.Grammar.{Next, IsColumn, bare, dotted, IsFold, fold, IsForm, plain, sum, avg, least, greatest, count, IsLiteral, words, IsTest, against, alike, IsOrder, IsDirection, unsaid, asc, desc, IsItem, item, IsTable, table, IsCond, IsGroup, group, IsKey, key, AreParts, last, more, AreConds, AreGroups, AreKeys, IsBody, IsSelect, select}
use Rattle.pdq_sql.specs.Grammar as grammar

-- what was read meets P
abbrev pub Holds : {A : Type 0} → (A → Type 0) → Result A Unread → Type 0
Holds P (Ok x) = P x
Holds P (Err e) = Unit {0}

pub then : {A B : Type 0} (P : A → Type 0) (Q : B → Type 0) (r : Result A Unread) (f : A → Result B Unread) → Holds P r → ((x : A) → P x → Holds Q (f x)) → Holds Q (r >>= f)
then P Q (Ok x) f h k = k x h
then P Q (Err e) f h k = tt

pub either : {A : Type 0} (P : A → Type 0) (b : Bool) (x y : Result A Unread) → Holds P x → Holds P y → Holds P (cond b x y)
either P true x y h k = h
either P false x y h k = k

pub weaken : {A : Type 0} (P Q : A → Type 0) (r : Result A Unread) → Holds P r → ((x : A) → P x → Q x) → Holds Q r
weaken P Q (Ok x) h k = k x h
weaken P Q (Err e) h k = tt

pub holds_at : {A : Type 0} (P : A → Type 0) (r : Result A Unread) (x : A) → Holds P r → r ≡ Ok x → P x
holds_at P (Ok y) x h e = let is : y ≡ x = cc in rw (← is) h
holds_at P (Err d) x h e = absurd cc

-- marks with one code are one
mark_of : ℕ → Mark
mark_of n = cond (eqb n 0) mark.Select (cond (eqb n 1) mark.From (cond (eqb n 2) mark.Where (cond (eqb n 3) mark.And (cond (eqb n 4) mark.Group (cond (eqb n 5) mark.Order (cond (eqb n 6) mark.By
    (cond (eqb n 7) mark.Asc (cond (eqb n 8) mark.Desc (cond (eqb n 9) mark.Sum (cond (eqb n 10) mark.Avg (cond (eqb n 11) mark.Min (cond (eqb n 12) mark.Max (cond (eqb n 13) mark.Count
    (cond (eqb n 14) mark.Open (cond (eqb n 15) mark.Close (cond (eqb n 16) mark.Comma (cond (eqb n 17) mark.Point (cond (eqb n 18) mark.Star (cond (eqb n 19) mark.Equal (cond (eqb n 20) mark.Unequal
    (cond (eqb n 21) mark.Less (cond (eqb n 22) mark.AtMost (cond (eqb n 23) mark.Greater (cond (eqb n 24) mark.AtLeast (cond (eqb n 25) mark.Statistics mark.End)))))))))))))))))))))))))

mark_of-code : (m : Mark) → mark_of (code m) ≡ m
unfolding mark_of
mark_of-code mark.Select = refl
mark_of-code _ = refl

pub same_is : (m n : Mark) → same m n ≡ true → m ≡ n
same_is m n e = sym (mark_of-code m) ∙ ap mark_of (eqb-true _ _ e) ∙ mark_of-code n

pub next_at : (k : TokenKind) (t : Token) (ts : List Token) → t.kind ≡ k → Next k (t ∷ ts) ts
next_at k t ts e = record { token = t; kind = e; spelled = refl }

-- a token that is needed
pub needed_at : {A : Type 0} (t : Token) (ts : List Token) (o : Option A) (P : A × List Token → Type 0) → ((x : A) → o ≡ Some x → P (x, ts)) → Holds P (needed t ts o)
needed_at t ts (Some x) P h = h x refl
needed_at t ts None P h = tt

is_mark_at : (m : Mark) (k : TokenKind) → is_mark m k ≡ true → k ≡ Fixed m
is_mark_at m (Fixed n) e = ap Fixed (same_is n m e)
is_mark_at m _ e = absurd cc

expect_at : (b : Bool) (m : Mark) (t : Token) (ts : List Token) → (b ≡ true → t.kind ≡ Fixed m) → Holds (λ (x : Mark × List Token). Next (Fixed m) (t ∷ ts) x.1) (cond b (Ok (m, ts)) (Err (At t.place)))
expect_at true m t ts h = next_at (Fixed m) t ts (h refl)
expect_at false m t ts h = tt

pub expect_sound : (m : Mark) (ts : List Token) → Holds (λ x. Next (Fixed m) ts x.1) (expect_of m ts)
expect_sound m [] = tt
expect_sound m (t ∷ ts) = expect_at (is_mark m t.kind) m t ts (is_mark_at m t.kind)

word_at : (k : TokenKind) (b : List ℕ) → name_in k ≡ Some b → k ≡ Word b
word_at (Word c) b e = cc
word_at _ b e = absurd cc

name_sound : (ts : List Token) → Holds (λ x. Next (Word x.0) ts x.1) (name_of ts)
name_sound [] = tt
name_sound (t ∷ ts) = needed_at t ts (name_in t.kind) (λ x. Next (Word x.0) (t ∷ ts) x.1) (λ b e. next_at (Word b) t ts (word_at t.kind b e))

column_sound : (ts : List Token) → Holds (λ x. IsColumn ts x.1 x.0) (column_of ts)
unfolding column_of
column_sound ts =
    then _ (λ x. IsColumn ts x.1 x.0) (name_of ts) _ (name_sound ts) (λ x nx.
    either _ (next_is mark.Point x.1) _ _
    (then _ _ (expect_of mark.Point x.1) _ (expect_sound mark.Point x.1) (λ p np.
    then _ _ (name_of p.1) _ (name_sound p.1) (λ y ny. dotted x.0 y.0 x.1 p.1 nx np ny)))
    (bare x.0 nx))

fold_sound : (m : Mark) (ts : List Token) → Holds (λ (x : AstColumn × List Token). IsFold m ts x.1 x.0) (bracketed_of m ts)
unfolding bracketed_of
fold_sound m ts =
    then _ (λ x. IsFold m ts x.1 x.0) (expect_of m ts) _ (expect_sound m ts) (λ f nf.
    then _ _ (expect_of mark.Open f.1) _ (expect_sound mark.Open f.1) (λ o no.
    then _ _ (column_of o.1) _ (column_sound o.1) (λ c nc.
    then _ _ (expect_of mark.Close c.1) _ (expect_sound mark.Close c.1) (λ d nd. fold f.1 o.1 c.1 nf no nc nd))))

form_sound : (ts : List Token) → Holds (λ x. IsForm ts x.1 x.0) (form_of ts)
unfolding form_of
form_sound ts =
    either (λ x. IsForm ts x.1 x.0) (next_is mark.Count ts) _ _
    (then _ _ (expect_of mark.Count ts) _ (expect_sound mark.Count ts) (λ f nf.
    then _ _ (expect_of mark.Open f.1) _ (expect_sound mark.Open f.1) (λ o no.
    then _ _ (expect_of mark.Star o.1) _ (expect_sound mark.Star o.1) (λ c nc.
    then _ _ (expect_of mark.Close c.1) _ (expect_sound mark.Close c.1) (λ d nd. count f.1 o.1 c.1 nf no nc nd)))))
    (either _ (next_is mark.Sum ts) _ _ (then _ _ (bracketed_of mark.Sum ts) _ (fold_sound mark.Sum ts) (λ c nc. sum c.0 nc))
    (either _ (next_is mark.Avg ts) _ _ (then _ _ (bracketed_of mark.Avg ts) _ (fold_sound mark.Avg ts) (λ c nc. avg c.0 nc))
    (either _ (next_is mark.Min ts) _ _ (then _ _ (bracketed_of mark.Min ts) _ (fold_sound mark.Min ts) (λ c nc. least c.0 nc))
    (either _ (next_is mark.Max ts) _ _ (then _ _ (bracketed_of mark.Max ts) _ (fold_sound mark.Max ts) (λ c nc. greatest c.0 nc))
    (then _ _ (column_of ts) _ (column_sound ts) (λ c nc. plain c.0 nc))))))

comparison_at : (k : TokenKind) (c : Compare) → comparison_in k ≡ Some c → (m : Mark) × (k ≡ Fixed m) × (comparison m ≡ Some c)
comparison_at (Fixed m) c e = (m, refl, e)
comparison_at _ c e = absurd cc

-- a comparison stands next
abbrev Compares : List Token → Compare × List Token → Type 0
Compares ts x = (m : Mark) × Next (Fixed m) ts x.1 × (comparison m ≡ Some x.0)

compare_sound : (ts : List Token) → Holds (Compares ts) (compare_of ts)
compare_sound [] = tt
compare_sound (t ∷ ts) = needed_at t ts (comparison_in t.kind) (Compares (t ∷ ts)) (λ c e. let a = comparison_at t.kind c e in (a.0, next_at (Fixed a.0) t ts a.1, a.2))

literal_at : (t : Token) (ts : List Token) (k : TokenKind) (v : AstLiteral) → t.kind ≡ k → literal_in k ≡ Some v → IsLiteral (t ∷ ts) ts v
literal_at t ts (Number b) v is e = let same : literal.Number b ≡ v = cc in rw (← same) (grammar.figure b (next_at (Number b) t ts is))
literal_at t ts (Quoted b) v is e = let same : literal.Words b ≡ v = cc in rw (← same) (words b (next_at (Quoted b) t ts is))
literal_at t ts _ v is e = absurd cc

literal_sound : (ts : List Token) → Holds (λ x. IsLiteral ts x.1 x.0) (literal_of ts)
literal_sound [] = tt
literal_sound (t ∷ ts) = needed_at t ts (literal_in t.kind) (λ x. IsLiteral (t ∷ ts) x.1 x.0) (λ v e. literal_at t ts t.kind v refl e)

equal_at : (b : List Token) (ts : List Token) → Next (Fixed mark.Equal) ts b → next_is mark.Equal ts ≡ true
equal_at b ts n = rw (n.spelled, n.kind) refl

next_of : (m : Mark) (t : Token) (ts : List Token) → is_mark m t.kind ≡ true → Next (Fixed m) (t ∷ ts) ts
next_of m t ts e = next_at (Fixed m) t ts (is_mark_at m t.kind e)

-- the marks of one token are one
rest_same : (j k : TokenKind) (ts a b : List Token) → Next j ts a → Next k ts b → a ≡ b
rest_same j k ts a b p q = let e : p.token ∷ a ≡ q.token ∷ b = sym p.spelled ∙ q.spelled in cc

is_equal : (ts b : List Token) (k : TokenKind) → Next k ts b → next_is mark.Equal ts ≡ true → Next (Fixed mark.Equal) ts b
is_equal [] b k n e = absurd cc
is_equal (t ∷ ts) b k n e = rw (rest_same k (Fixed mark.Equal) (t ∷ ts) b ts n (next_of mark.Equal t ts e)) (next_of mark.Equal t ts e)

-- two tests that hold
both_first : (a b : Bool) → (a && b) ≡ true → a ≡ true
both_first true b e = refl
both_first false b e = e

chosen : {A : Type 0} (P : A → Type 0) (b : Bool) (x y : Result A Unread) → (b ≡ true → Holds P x) → Holds P y → Holds P (cond b x y)
chosen P true x y h k = h refl
chosen P false x y h k = k

test_sound : (ts : List Token) → Holds (λ x. IsTest ts x.1 x.0) (test_of ts)
unfolding test_of
test_sound ts =
    then _ (λ x. IsTest ts x.1 x.0) (column_of ts) _ (column_sound ts) (λ l nl.
    then _ _ (compare_of l.1) _ (compare_sound l.1) (λ c nc.
    chosen _ (next_is mark.Equal l.1 && is_word_next c.1) _ _
    (λ e. then _ _ (column_of c.1) _ (column_sound c.1) (λ r nr. alike l.0 r.0 l.1 c.1 nl (is_equal l.1 c.1 (Fixed nc.0) nc.1 (both_first _ _ e)) nr))
    (then _ _ (literal_of c.1) _ (literal_sound c.1) (λ v nv. against l.0 nc.0 c.0 v.0 l.1 c.1 nl nc.1 nc.2 nv))))

-- a number stands next
abbrev pub Counts : List Token → ℕ × List Token → Type 0
Counts ts x = (b : List ℕ) × Next (Number b) ts x.1 × (int_of b ≡ Some x.0)

int_at : (k : TokenKind) (n : ℕ) → int_in k ≡ Some n → (b : List ℕ) × (k ≡ Number b) × (int_of b ≡ Some n)
int_at (Number b) n e = (b, refl, e)
int_at _ n e = absurd cc

pub number_sound : (ts : List Token) → Holds (Counts ts) (number_of ts)
number_sound [] = tt
number_sound (t ∷ ts) = needed_at t ts (int_in t.kind) (Counts (t ∷ ts)) (λ n e. let a = int_at t.kind n e in (a.0, next_at (Number a.0) t ts a.1, a.2))

order_sound : (ts : List Token) → Holds (λ x. IsOrder ts x.1 x.0) (order_of ts)
unfolding order_of
order_sound ts =
    either (λ x. IsOrder ts x.1 x.0) (is_word_next ts) _ _
    (then _ _ (column_of ts) _ (column_sound ts) (λ c nc. grammar.column c.0 nc))
    (then _ _ (number_of ts) _ (number_sound ts) (λ n nn. grammar.number nn.0 n.0 nn.1 nn.2))

direction_sound : (ts : List Token) → Holds (λ x. IsDirection ts x.1 x.0) (direction_of ts)
unfolding direction_of
direction_sound ts =
    either (λ x. IsDirection ts x.1 x.0) (next_is mark.Asc ts) _ _
    (then _ _ (expect_of mark.Asc ts) _ (expect_sound mark.Asc ts) (λ a na. asc na))
    (either _ (next_is mark.Desc ts) _ _
    (then _ _ (expect_of mark.Desc ts) _ (expect_sound mark.Desc ts) (λ d nd. desc nd))
    (unsaid refl))

item_sound : (ts : List Token) → Holds (λ x. IsItem ts x.1 x.0) (item_of ts)
unfolding item_of
item_sound ts = then _ (λ x. IsItem ts x.1 x.0) (form_of ts) _ (form_sound ts) (λ f nf. item f.0 nf)

table_sound : (ts : List Token) → Holds (λ x. IsTable ts x.1 x.0) (table_of ts)
unfolding table_of
table_sound ts = then _ (λ x. IsTable ts x.1 x.0) (name_of ts) _ (name_sound ts) (λ f nf. table f.0 nf)

cond_sound : (ts : List Token) → Holds (λ x. IsCond ts x.1 x.0) (cond_of ts)
unfolding cond_of
cond_sound ts = then _ (λ x. IsCond ts x.1 x.0) (test_of ts) _ (test_sound ts) (λ f nf. grammar.cond f.0 nf)

group_sound : (ts : List Token) → Holds (λ x. IsGroup ts x.1 x.0) (group_of ts)
unfolding group_of
group_sound ts = then _ (λ x. IsGroup ts x.1 x.0) (column_of ts) _ (column_sound ts) (λ f nf. group f.0 nf)

key_sound : (ts : List Token) → Holds (λ x. IsKey ts x.1 x.0) (key_of ts)
unfolding key_of
key_sound ts = then _ (λ x. IsKey ts x.1 x.0) (order_of ts) _ (order_sound ts) (λ o no. then _ _ (direction_of o.1) _ (direction_sound o.1) (λ d nd. key o.0 d.0 o.1 no nd))

parts_sound : {X : Type 0} (m : Mark) (part : List Token → Parse X) (R : List Token → List Token → X → Type 0) → ((ts : List Token) → Holds (λ (x : X × List Token). R ts x.1 x.0) (part ts))
    → (k : ℕ) (ts : List Token) → Holds (λ (x : List X × List Token). AreParts m R x.1 ts x.0) (parts_within m part k ts)
unfolding parts_within
parts_sound m part R h zero ts = tt
parts_sound m part R h (suc k) ts =
    then _ (λ x. AreParts m R x.1 ts x.0) (part ts) _ (h ts) (λ x nx.
    either _ (next_is m x.1) _ _
    (then _ _ (expect_of m x.1) _ (expect_sound m x.1) (λ s ns.
    then _ _ (parts_within m part k s.1) _ (parts_sound m part R h k s.1) (λ xs nxs. more ts x.1 s.1 x.0 xs.0 nx ns nxs)))
    (last ts x.0 nx))

conds_sound : (ts : List Token) → Holds (λ x. AreConds ts x.1 x.0) (conds_of ts)
unfolding conds_of
conds_sound ts =
    either (λ x. AreConds ts x.1 x.0) (next_is mark.Where ts) _ _
    (then _ _ (expect_of mark.Where ts) _ (expect_sound mark.Where ts) (λ w nw.
    weaken _ _ (parts_of mark.And cond_of w.1) (parts_sound mark.And cond_of IsCond cond_sound (suc (length w.1)) w.1) (λ x nx. grammar.conds x.0 w.1 nw nx)))
    (grammar.no_conds refl)

groups_sound : (ts : List Token) → Holds (λ x. AreGroups ts x.1 x.0) (groups_of ts)
unfolding groups_of
groups_sound ts =
    either (λ x. AreGroups ts x.1 x.0) (next_is mark.Group ts) _ _
    (then _ _ (expect_of mark.Group ts) _ (expect_sound mark.Group ts) (λ w nw.
    then _ _ (expect_of mark.By w.1) _ (expect_sound mark.By w.1) (λ b nb.
    weaken _ _ (parts_of mark.Comma group_of b.1) (parts_sound mark.Comma group_of IsGroup group_sound (suc (length b.1)) b.1) (λ x nx. grammar.groups x.0 w.1 b.1 nw nb nx))))
    (grammar.no_groups refl)

keys_sound : (ts : List Token) → Holds (λ x. AreKeys ts x.1 x.0) (keys_of ts)
unfolding keys_of
keys_sound ts =
    either (λ x. AreKeys ts x.1 x.0) (next_is mark.Order ts) _ _
    (then _ _ (expect_of mark.Order ts) _ (expect_sound mark.Order ts) (λ w nw.
    then _ _ (expect_of mark.By w.1) _ (expect_sound mark.By w.1) (λ b nb.
    weaken _ _ (parts_of mark.Comma key_of b.1) (parts_sound mark.Comma key_of IsKey key_sound (suc (length b.1)) b.1) (λ x nx. grammar.keys x.0 w.1 b.1 nw nb nx))))
    (grammar.no_keys refl)

pub body_sound : (ts : List Token) → Holds (λ x. IsBody ts x.1 x.0) (select_of ts)
unfolding select_of
body_sound ts =
    then _ (λ x. IsBody ts x.1 x.0) (expect_of mark.Select ts) _ (expect_sound mark.Select ts) (λ s ns.
    then _ _ (parts_of mark.Comma item_of s.1) _ (parts_sound mark.Comma item_of IsItem item_sound (suc (length s.1)) s.1) (λ i ni.
    then _ _ (expect_of mark.From i.1) _ (expect_sound mark.From i.1) (λ f nf.
    then _ _ (parts_of mark.Comma table_of f.1) _ (parts_sound mark.Comma table_of IsTable table_sound (suc (length f.1)) f.1) (λ t nt.
    then _ _ (conds_of t.1) _ (conds_sound t.1) (λ c nc.
    then _ _ (groups_of c.1) _ (groups_sound c.1) (λ g ng.
    then _ _ (keys_of g.1) _ (keys_sound g.1) (λ k nk.
    record { a = s.1; b = i.1; c = f.1; d = t.1; e = c.1; f = g.1; head = ns; items = ni; middle = nf; tables = nt; conds = nc; groups = ng; keys = nk })))))))

over : (ts : List Token) (s : AstView) (g rest : List Token) → IsBody ts g s → Next (Fixed mark.End) g rest → Holds (IsSelect ts) (at_end s rest)
over ts s g [] body end = select g body end
over ts s g (t ∷ rest) body end = tt

whole_sound : (ts : List Token) → Holds (IsSelect ts) (whole_select_of ts)
unfolding whole_select_of
whole_sound ts =
    then _ (IsSelect ts) (select_of ts) _ (body_sound ts) (λ s ns.
    then _ _ (expect_of mark.End s.1) _ (expect_sound mark.End s.1) (λ e ne. over ts s.0 s.1 e.1 ns ne))

-- what is read is a select
pub is_select : (ts : List Token) (s : AstView) → whole_select_of ts ≡ Ok s → IsSelect ts s
is_select ts s e = holds_at (IsSelect ts) (whole_select_of ts) s (whole_sound ts) e
