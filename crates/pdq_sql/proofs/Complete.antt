-- What is in the grammar is read.
use Rattle.std.proofs.Common.{◌≡◌, ℕ, zero, suc, ◌<◌, Bool, true, false, cond, List, [], ◌∷◌, length, Some, Ok, refl, ◌∙◌, arith, eq-eqb}
use Rattle.std.specs.Prelude.{◌&&◌}
use Rattle.pdq_sql.specs.declared.tokens.Mark.{Mark}
use Rattle.pdq_sql.specs.declared.tokens.Mark.TheVariants as mark
use Rattle.pdq_sql.specs.declared.tokens.TokenKind.{TokenKind}
use Rattle.pdq_sql.specs.declared.tokens.TokenKind.TheVariants.{Fixed, Word, Number}
use Rattle.pdq_sql.specs.declared.tokens.Token.{Token}
use Rattle.pdq_sql.specs.declared.ast.AstColumn.{AstColumn}
use Rattle.pdq_sql.specs.declared.ast.AstLiteral.{AstLiteral}
use Rattle.pdq_sql.specs.declared.ast.AstTest.{AstTest}
use Rattle.pdq_sql.specs.declared.ast.AstForm.{AstForm}
use Rattle.pdq_sql.specs.declared.ast.AstItem.{AstItem}
use Rattle.pdq_sql.specs.declared.ast.AstTable.{AstTable}
use Rattle.pdq_sql.specs.declared.ast.AstCond.{AstCond}
use Rattle.pdq_sql.specs.declared.ast.AstGroup.{AstGroup}
use Rattle.pdq_sql.specs.declared.ast.AstKey.{AstKey}
use Rattle.pdq_sql.specs.declared.ast.AstOrder.{AstOrder}
use Rattle.pdq_query.specs.declared.query.Compare.{Compare}
use Rattle.pdq_sql.specs.Asts.{AstView}
use Rattle.pdq_sql.specs.Reading.{Parse, code, same, next_is, is_word_next, expect_of, name_of, compare_of, literal_of, number_of, column_of, bracketed_of, form_of, test_of, order_of, direction_of, item_of, table_of, cond_of, group_of, key_of, parts_within, parts_of, conds_of, groups_of, keys_of, select_of, whole_select_of}
use Rattle.pdq_sql.specs.Tokens.{comparison, int_of}
use Rattle.pdq_sql.specs.Grammar.{Next, IsColumn, bare, dotted, IsFold, fold, IsForm, plain, sum, avg, least, greatest, count, IsLiteral, figure, words, IsTest, against, alike, IsOrder, IsDirection, unsaid, asc, desc, IsItem, item, IsTable, table, IsCond, IsGroup, group, IsKey, key, AreParts, last, more, AreConds, no_conds, conds, AreGroups, no_groups, groups, AreKeys, no_keys, keys, IsBody, IsSelect, select}
use Rattle.pdq_sql.specs.Grammar as grammar
use Rattle.pdq_sql.proofs.Below.{Below, below_at, item_below, table_below, cond_below, group_below, key_below}

-- ---- one token

same_self : (m : Mark) → same m m ≡ true
same_self m = eq-eqb (code m) (code m) refl

-- what stands next, by its kind
pub expects : (m : Mark) (ts rest : List Token) → Next (Fixed m) ts rest → expect_of m ts ≡ Ok (m, rest)
expects m ts rest n = rw (n.spelled, n.kind, same_self m) refl

pub names : (b : List ℕ) (ts rest : List Token) → Next (Word b) ts rest → name_of ts ≡ Ok (b, rest)
names b ts rest n = rw (n.spelled, n.kind) refl

pub is_next : (m k : Mark) (ts rest : List Token) → Next (Fixed m) ts rest → next_is k ts ≡ same m k
is_next m k ts rest n = rw (n.spelled, n.kind) refl

pub is_no_mark : (b : List ℕ) (k : Mark) (ts rest : List Token) → Next (Word b) ts rest → next_is k ts ≡ false
is_no_mark b k ts rest n = rw (n.spelled, n.kind) refl

word_next : (b : List ℕ) (ts rest : List Token) → Next (Word b) ts rest → is_word_next ts ≡ true
word_next b ts rest n = rw (n.spelled, n.kind) refl

number_next : (b : List ℕ) (ts rest : List Token) → Next (Number b) ts rest → is_word_next ts ≡ false
number_next b ts rest n = rw (n.spelled, n.kind) refl

shorter : (k : TokenKind) (ts rest : List Token) → Next k ts rest → length rest < length ts
shorter k ts rest n = rw n.spelled (omega arith)

-- ---- what does not follow

-- none of these is next
abbrev pub NoneNext : List Mark → List Token → Type 0
NoneNext [] ts = Unit {0}
NoneNext (m ∷ ms) ts = (next_is m ts ≡ false) × NoneNext ms ts

abbrev none_same : Mark → List Mark → Bool
none_same m [] = true
none_same m (k ∷ ks) = cond (same m k) false (none_same m ks)

split_cond : (b c : Bool) → cond b false c ≡ true → (b ≡ false) × (c ≡ true)
split_cond true c e = absurd cc
split_cond false c e = (refl, e)

none_next : (m : Mark) (ms : List Mark) (ts rest : List Token) → Next (Fixed m) ts rest → none_same m ms ≡ true → NoneNext ms ts
none_next m [] ts rest n e = tt
none_next m (k ∷ ks) ts rest n e =
    let s = split_cond (same m k) (none_same m ks) e in
    (is_next m k ts rest n ∙ s.0, none_next m ks ts rest n s.1)

-- after a part nothing stands that would make it longer
abbrev Free : List Token → Type 0
Free ts = NoneNext (mark.Point ∷ mark.Asc ∷ mark.Desc ∷ []) ts

-- ---- columns and items

column_whole : (ts rest : List Token) (c : AstColumn) → IsColumn ts rest c → next_is mark.Point rest ≡ false → column_of ts ≡ Ok (c, rest)
unfolding column_of
column_whole ts rest c (bare n nx) free = rw (names n ts rest nx, free) refl
column_whole ts rest c (dotted t n a b nx np ny) free = rw (names t ts a nx, is_next mark.Point mark.Point a b np, expects mark.Point a b np, names n b rest ny) refl

column_word : (ts rest : List Token) (c : AstColumn) → IsColumn ts rest c → (b : List ℕ) × (a : List Token) × Next (Word b) ts a
column_word ts rest c (bare n nx) = (n, rest, nx)
column_word ts rest c (dotted t n a b nx np ny) = (t, a, nx)

fold_whole : (m : Mark) (ts rest : List Token) (c : AstColumn) → IsFold m ts rest c → bracketed_of m ts ≡ Ok (c, rest)
unfolding bracketed_of
fold_whole m ts rest c (fold a b d n1 n2 col n3) =
    rw (expects m ts a n1, expects mark.Open a b n2, column_whole b d c col (is_next mark.Close mark.Point d rest n3), expects mark.Close d rest n3) refl

fold_next : (m k : Mark) (ts rest : List Token) (c : AstColumn) → IsFold m ts rest c → next_is k ts ≡ same m k
fold_next m k ts rest c (fold a b d n1 n2 col n3) = is_next m k ts a n1

form_whole : (ts rest : List Token) (f : AstForm) → IsForm ts rest f → Free rest → form_of ts ≡ Ok (f, rest)
unfolding form_of
form_whole ts rest f (plain c col) free =
    let w = column_word ts rest c col in
    rw (is_no_mark w.0 mark.Count ts w.1 w.2, is_no_mark w.0 mark.Sum ts w.1 w.2, is_no_mark w.0 mark.Avg ts w.1 w.2, is_no_mark w.0 mark.Min ts w.1 w.2, is_no_mark w.0 mark.Max ts w.1 w.2, column_whole ts rest c col free.0) refl
form_whole ts rest f (sum c fo) free = rw (fold_next mark.Sum mark.Count ts rest c fo, fold_next mark.Sum mark.Sum ts rest c fo, fold_whole mark.Sum ts rest c fo) refl
form_whole ts rest f (avg c fo) free = rw (fold_next mark.Avg mark.Count ts rest c fo, fold_next mark.Avg mark.Sum ts rest c fo, fold_next mark.Avg mark.Avg ts rest c fo, fold_whole mark.Avg ts rest c fo) refl
form_whole ts rest f (least c fo) free = rw (fold_next mark.Min mark.Count ts rest c fo, fold_next mark.Min mark.Sum ts rest c fo, fold_next mark.Min mark.Avg ts rest c fo, fold_next mark.Min mark.Min ts rest c fo, fold_whole mark.Min ts rest c fo) refl
form_whole ts rest f (greatest c fo) free = rw (fold_next mark.Max mark.Count ts rest c fo, fold_next mark.Max mark.Sum ts rest c fo, fold_next mark.Max mark.Avg ts rest c fo, fold_next mark.Max mark.Min ts rest c fo, fold_next mark.Max mark.Max ts rest c fo, fold_whole mark.Max ts rest c fo) refl
form_whole ts rest f (count a b c n1 n2 n3 n4) free = rw (is_next mark.Count mark.Count ts a n1, expects mark.Count ts a n1, expects mark.Open a b n2, expects mark.Star b c n3, expects mark.Close c rest n4) refl

-- ---- conditions

compares : (m : Mark) (c : Compare) (ts rest : List Token) → Next (Fixed m) ts rest → comparison m ≡ Some c → compare_of ts ≡ Ok (c, rest)
compares m c ts rest n e = rw (n.spelled, n.kind, e) refl

no_point : (m : Mark) (c : Compare) → comparison m ≡ Some c → same m mark.Point ≡ false
no_point mark.Point c e = absurd cc
no_point _ c e = refl

literal_whole : (ts rest : List Token) (v : AstLiteral) → IsLiteral ts rest v → literal_of ts ≡ Ok (v, rest)
literal_whole ts rest v (figure b n) = rw (n.spelled, n.kind) refl
literal_whole ts rest v (words b n) = rw (n.spelled, n.kind) refl

literal_no_word : (ts rest : List Token) (v : AstLiteral) → IsLiteral ts rest v → is_word_next ts ≡ false
literal_no_word ts rest v (figure b n) = rw (n.spelled, n.kind) refl
literal_no_word ts rest v (words b n) = rw (n.spelled, n.kind) refl

and_false : (b : Bool) → (b && false) ≡ false
and_false true = refl
and_false false = refl

test_whole : (ts rest : List Token) (t : AstTest) → IsTest ts rest t → Free rest → test_of ts ≡ Ok (t, rest)
unfolding test_of
test_whole ts rest t (against l m c v a b col n cmp lit) free =
    rw (column_whole ts a l col (is_next m mark.Point a b n ∙ no_point m c cmp), compares m c a b n cmp, literal_no_word b rest v lit, and_false (next_is mark.Equal a), literal_whole b rest v lit) refl
test_whole ts rest t (alike l r a b col n col2) free =
    let w = column_word b rest r col2 in
    rw (column_whole ts a l col (is_next mark.Equal mark.Point a b n), compares mark.Equal Compare.Eq a b n refl, is_next mark.Equal mark.Equal a b n, word_next w.0 b w.1 w.2, column_whole b rest r col2 free.0) refl

-- ---- keys

pub counts : (b : List ℕ) (x : ℕ) (ts rest : List Token) → Next (Number b) ts rest → int_of b ≡ Some x → number_of ts ≡ Ok (x, rest)
counts b x ts rest n e = rw (n.spelled, n.kind, e) refl

order_whole : (ts rest : List Token) (o : AstOrder) → IsOrder ts rest o → next_is mark.Point rest ≡ false → order_of ts ≡ Ok (o, rest)
unfolding order_of
order_whole ts rest o (grammar.number b x n e) free = rw (number_next b ts rest n, counts b x ts rest n e) refl
order_whole ts rest o (grammar.column c col) free =
    let w = column_word ts rest c col in
    rw (word_next w.0 ts w.1 w.2, column_whole ts rest c col free) refl

direction_whole : (ts rest : List Token) (d : Bool) → IsDirection ts rest d → Free rest → direction_of ts ≡ Ok (d, rest)
unfolding direction_of
direction_whole ts rest d (unsaid e) free = rw (e, free.1.0, free.1.1.0) refl
direction_whole ts rest d (asc n) free = rw (is_next mark.Asc mark.Asc ts rest n, expects mark.Asc ts rest n) refl
direction_whole ts rest d (desc n) free = rw (is_next mark.Desc mark.Asc ts rest n, is_next mark.Desc mark.Desc ts rest n, expects mark.Desc ts rest n) refl

direction_free : (ts rest : List Token) (d : Bool) → IsDirection ts rest d → Free rest → next_is mark.Point ts ≡ false
direction_free ts rest d (unsaid e) free = rw e free.0
direction_free ts rest d (asc n) free = is_next mark.Asc mark.Point ts rest n
direction_free ts rest d (desc n) free = is_next mark.Desc mark.Point ts rest n

-- ---- parts

item_whole : (ts rest : List Token) (x : AstItem) → IsItem ts rest x → Free rest → item_of ts ≡ Ok (x, rest)
unfolding item_of
item_whole ts rest x (item f nf) free = rw (form_whole ts rest f nf free) refl

table_whole : (ts rest : List Token) (x : AstTable) → IsTable ts rest x → Free rest → table_of ts ≡ Ok (x, rest)
unfolding table_of
table_whole ts rest x (table n nx) free = rw (names n ts rest nx) refl

cond_whole : (ts rest : List Token) (x : AstCond) → IsCond ts rest x → Free rest → cond_of ts ≡ Ok (x, rest)
unfolding cond_of
cond_whole ts rest x (grammar.cond t nt) free = rw (test_whole ts rest t nt free) refl

group_whole : (ts rest : List Token) (x : AstGroup) → IsGroup ts rest x → Free rest → group_of ts ≡ Ok (x, rest)
unfolding group_of
group_whole ts rest x (group c col) free = rw (column_whole ts rest c col free.0) refl

key_whole : (ts rest : List Token) (x : AstKey) → IsKey ts rest x → Free rest → key_of ts ≡ Ok (x, rest)
unfolding key_of
key_whole ts rest x (key o d a ord nd) free = rw (order_whole ts a o ord (direction_free a rest d nd free), direction_whole a rest d nd free) refl

module _ {X : Type 0} (m : Mark) (part : List Token → Parse X) (R : List Token → List Token → X → Type 0) (separates : none_same m (mark.Point ∷ mark.Asc ∷ mark.Desc ∷ []) ≡ true)
    (whole : (ts rest : List Token) (x : X) → R ts rest x → Free rest → part ts ≡ Ok (x, rest)) (below : (ts : List Token) → Below (length ts) (part ts)) where
  parts_whole : (k : ℕ) (ts rest : List Token) (xs : List X) → AreParts m R rest ts xs → length ts < k → Free rest → next_is m rest ≡ false → parts_within m part k ts ≡ Ok (xs, rest)
  unfolding parts_within
  parts_whole zero ts rest xs parts lt free over = absurd (omega arith)
  parts_whole (suc k) ts rest xs (last t x nx) lt free over = rw (whole ts rest x nx free, over) refl
  parts_whole (suc k) ts rest xs (more t a b x ys nx ns nys) lt free over =
      let read : part ts ≡ Ok (x, a) = whole ts a x nx (none_next m (mark.Point ∷ mark.Asc ∷ mark.Desc ∷ []) a b ns separates) in
      let fewer : length a < length ts = below_at _ (part ts) (x, a) (below ts) read in
      let again : parts_within m part k b ≡ Ok (ys, rest) = parts_whole k b rest ys nys (omega (arith, shorter (Fixed m) a b ns)) free over in
      rw (read, is_next m m a b ns, same_self m, expects m a b ns, again) refl

abbrev pub after_keys : List Mark
after_keys = mark.Point ∷ mark.Asc ∷ mark.Desc ∷ mark.Comma ∷ mark.And ∷ mark.Where ∷ mark.Group ∷ mark.Order ∷ []

abbrev after_groups : List Mark
after_groups = mark.Point ∷ mark.Asc ∷ mark.Desc ∷ mark.Comma ∷ mark.And ∷ mark.Where ∷ mark.Group ∷ []

abbrev after_conds : List Mark
after_conds = mark.Point ∷ mark.Asc ∷ mark.Desc ∷ mark.Comma ∷ mark.And ∷ mark.Where ∷ []

abbrev after_tables : List Mark
after_tables = mark.Point ∷ mark.Asc ∷ mark.Desc ∷ mark.Comma ∷ mark.And ∷ []

keys_whole : (ts rest : List Token) (xs : List AstKey) → AreKeys ts rest xs → NoneNext after_keys rest → keys_of ts ≡ Ok (xs, rest)
unfolding keys_of
keys_whole ts rest xs (no_keys e) (p, (a, (d, (c, (n, (w, (g, (o, u)))))))) = rw (e, o) refl
keys_whole ts rest xs (keys ys a b n1 n2 nys) (p, (s, (d, (c, others)))) =
    let read : parts_of mark.Comma key_of b ≡ Ok (xs, rest) = parts_whole mark.Comma key_of IsKey refl key_whole key_below (suc (length b)) b rest xs nys (omega arith) (p, (s, (d, tt))) c in
    rw (is_next mark.Order mark.Order ts a n1, expects mark.Order ts a n1, expects mark.By a b n2, read) refl

keys_after : (ts rest : List Token) (xs : List AstKey) → AreKeys ts rest xs → NoneNext after_keys rest → NoneNext after_groups ts
keys_after ts rest xs (no_keys e) (p, (a, (d, (c, (n, (w, (g, (o, u)))))))) = rw e (p, (a, (d, (c, (n, (w, (g, tt)))))))
keys_after ts rest xs (keys ys a b n1 n2 nys) free = none_next mark.Order after_groups ts a n1 refl

groups_whole : (ts rest : List Token) (xs : List AstGroup) → AreGroups ts rest xs → NoneNext after_groups rest → groups_of ts ≡ Ok (xs, rest)
unfolding groups_of
groups_whole ts rest xs (no_groups e) (p, (a, (d, (c, (n, (w, (g, u))))))) = rw (e, g) refl
groups_whole ts rest xs (groups ys a b n1 n2 nys) (p, (s, (d, (c, others)))) =
    let read : parts_of mark.Comma group_of b ≡ Ok (xs, rest) = parts_whole mark.Comma group_of IsGroup refl group_whole group_below (suc (length b)) b rest xs nys (omega arith) (p, (s, (d, tt))) c in
    rw (is_next mark.Group mark.Group ts a n1, expects mark.Group ts a n1, expects mark.By a b n2, read) refl

groups_after : (ts rest : List Token) (xs : List AstGroup) → AreGroups ts rest xs → NoneNext after_groups rest → NoneNext after_conds ts
groups_after ts rest xs (no_groups e) (p, (a, (d, (c, (n, (w, (g, u))))))) = rw e (p, (a, (d, (c, (n, (w, tt))))))
groups_after ts rest xs (groups ys a b n1 n2 nys) free = none_next mark.Group after_conds ts a n1 refl

conds_whole : (ts rest : List Token) (xs : List AstCond) → AreConds ts rest xs → NoneNext after_conds rest → conds_of ts ≡ Ok (xs, rest)
unfolding conds_of
conds_whole ts rest xs (no_conds e) (p, (a, (d, (c, (n, (w, u)))))) = rw (e, w) refl
conds_whole ts rest xs (conds ys a n1 nys) (p, (s, (d, (c, (n, others))))) =
    let read : parts_of mark.And cond_of a ≡ Ok (xs, rest) = parts_whole mark.And cond_of IsCond refl cond_whole cond_below (suc (length a)) a rest xs nys (omega arith) (p, (s, (d, tt))) n in
    rw (is_next mark.Where mark.Where ts a n1, expects mark.Where ts a n1, read) refl

conds_after : (ts rest : List Token) (xs : List AstCond) → AreConds ts rest xs → NoneNext after_conds rest → NoneNext after_tables ts
conds_after ts rest xs (no_conds e) (p, (a, (d, (c, (n, (w, u)))))) = rw e (p, (a, (d, (c, (n, tt)))))
conds_after ts rest xs (conds ys a n1 nys) free = none_next mark.Where after_tables ts a n1 refl

abbrev parts_free : List Mark
parts_free = mark.Point ∷ mark.Asc ∷ mark.Desc ∷ []

pub end_free : (g : List Token) → Next (Fixed mark.End) g [] → NoneNext after_keys g
end_free g n = none_next mark.End after_keys g [] n refl

-- a select is read
pub body_whole : (ts g : List Token) (s : AstView) → IsBody ts g s → NoneNext after_keys g → select_of ts ≡ Ok (s, g)
unfolding select_of
body_whole ts g s x k =
    let q : NoneNext after_groups x.f = keys_after x.f g s.keys x.keys k in
    let r : NoneNext after_conds x.e = groups_after x.e x.f s.groups x.groups q in
    let t : NoneNext after_tables x.d = conds_after x.d x.e s.conds x.conds r in
    let read_items : parts_of mark.Comma item_of x.a ≡ Ok (s.items, x.b) = parts_whole mark.Comma item_of IsItem refl item_whole item_below (suc (length x.a)) x.a x.b s.items x.items (omega arith) (none_next mark.From parts_free x.b x.c x.middle refl) (is_next mark.From mark.Comma x.b x.c x.middle) in
    let read_tables : parts_of mark.Comma table_of x.c ≡ Ok (s.tables, x.d) = parts_whole mark.Comma table_of IsTable refl table_whole table_below (suc (length x.c)) x.c x.d s.tables x.tables (omega arith) (t.0, (t.1.0, (t.1.1.0, tt))) t.1.1.1.0 in
    rw (expects mark.Select ts x.a x.head, read_items, expects mark.From x.b x.c x.middle, read_tables, conds_whole x.d x.e s.conds x.conds r, groups_whole x.e x.f s.groups x.groups q, keys_whole x.f g s.keys x.keys k) refl

pub reads_select : (ts : List Token) (s : AstView) → IsSelect ts s → whole_select_of ts ≡ Ok s
unfolding whole_select_of
reads_select ts s (select g body end) = rw (body_whole ts g s body (end_free g end), expects mark.End g [] end) refl
