-- What is resolved fits the shapes.
use Rattle.std.proofs.Common.{◌≡◌, ◌≢◌, ℕ, suc, ◌+◌, ◌^◌, ◌<◌, ◌≤◌, List, [], ◌∷◌, ◌++◌, Bool, true, false, cond, Option, Some, None, Result, Ok, Err, ℤ, length, get_or, take, refl, sym, ap, ap₂, ◌∙◌, subst, eqb, ltb, arith, length-append, All, AllPairs}
use Rattle.std.specs.Prelude.{pos, neg_ℤ, not, ◌&&◌, ◌||◌, nat_abs, nat_lt, nat_le, slice_get, Contains, option_and_then}
use Rattle.std.specs.List.{filter_map, list_any, position, prefix_len}
use Rattle.std.specs.Option.{ok_or, option_or}
use Rattle.std.specs.Str.{bytes_eq}
use Rattle.std.proofs.lemmas.Bool.{eqb-true, eqb-false, true≢false}
use Rattle.std.proofs.lemmas.Bool.Decides.{nat_tests}
use Rattle.std.proofs.lemmas.Int.{ints}
use Rattle.std.proofs.lemmas.List.{length-take, get_or-take}
use Rattle.std.proofs.lemmas.List.Elements.{All-nil, All-cons, All-head, All-tail, All-push, All-contains, All-weaker}
use Rattle.std.proofs.lemmas.List.Quantifiers.{all_pairs_push, position-Some}
use Rattle.std.proofs.lemmas.Option.{slice_get-get_or, slice_get_within, option_and_then_some, same_Some, get_or_from_slice_get}
use Rattle.pdq_value.specs.declared.numbers.NumberFault.{NumberFault}
use Rattle.pdq_value.specs.declared.shapes.Column.{Column}
use Rattle.pdq_value.specs.declared.shapes.Kind.{Kind}
use Rattle.pdq_value.specs.declared.shapes.Value.{Value}
use Rattle.pdq_query.specs.declared.query.Filter.{Filter}
use Rattle.pdq_value.specs.declared.shapes.Kind.TheVariants as kind
use Rattle.pdq_value.specs.Numbers.{bad_place, magnitude_of, number_read, signed_magnitude, is_negative}
use Rattle.pdq_value.specs.Tables.{IsKind, IsShape, IsValueOf, ShapeView}
use Rattle.pdq_query.specs.declared.query.At.{At}
use Rattle.pdq_query.specs.declared.query.Filter.TheVariants as filter
use Rattle.pdq_query.specs.declared.query.Item.{Item}
use Rattle.pdq_query.specs.declared.query.Item.TheVariants as item
use Rattle.pdq_query.specs.declared.query.Key.{Key}
use Rattle.pdq_query.specs.Fits.{column_at, HasKind, AreOfOneKind, FilterFits, JoinFits, IsColumn, IsNumberColumn, ItemFits, IsPlainInGroups, Fits, IsTied}
use Rattle.pdq_query.specs.Folds.{is_column, is_fold, is_grouped}
use Rattle.pdq_query.specs.Queries.{QueryView}
use Rattle.pdq_sql.specs.declared.ast.AstColumn.{AstColumn}
use Rattle.pdq_sql.specs.declared.ast.AstCond.{AstCond}
use Rattle.pdq_sql.specs.declared.ast.AstForm.{AstForm}
use Rattle.pdq_sql.specs.declared.ast.AstForm.TheVariants as form
use Rattle.pdq_sql.specs.declared.ast.AstGroup.{AstGroup}
use Rattle.pdq_sql.specs.declared.ast.AstItem.{AstItem}
use Rattle.pdq_sql.specs.declared.ast.AstKey.{AstKey}
use Rattle.pdq_sql.specs.declared.ast.AstLiteral.{AstLiteral}
use Rattle.pdq_sql.specs.declared.ast.AstLiteral.TheVariants as literal
use Rattle.pdq_sql.specs.declared.ast.AstOrder.{AstOrder}
use Rattle.pdq_sql.specs.declared.ast.AstOrder.TheVariants as order
use Rattle.pdq_sql.specs.declared.ast.AstTable.{AstTable}
use Rattle.pdq_sql.specs.declared.ast.AstTest.{AstTest}
use Rattle.pdq_sql.specs.declared.ast.AstTest.TheVariants as test
use Rattle.pdq_sql.specs.declared.faults.SqlFault.{SqlFault}
use Rattle.pdq_sql.specs.declared.faults.SqlWhy.{SqlWhy}
use Rattle.pdq_sql.specs.declared.faults.SqlWhy.TheVariants.{CountOverJoin, NotGrouped, NotJoined}
use Rattle.pdq_sql.specs.declared.resolving.Condition.{Condition}
use Rattle.pdq_sql.specs.declared.resolving.Condition.TheVariants.{Within, Between}
use Rattle.pdq_sql.specs.Asts.{AstView}
use Rattle.pdq_sql.specs.Resolving.{IsJoinOfFour}
use Rattle.pdq_sql.specs.Resolution.{Resolved, ◌>>=◌, Found, found, found_in, each, table_number, table_of, tables_of, column_named, column_in, dotted, columns_named, the_only, column_by, column_of, is_number, same_kind, number_column, any_column, form_of, item_of, items_of, number_value, literal_of, test_of, condition_of, conditions_of, filter_of, join_of, groups_of, is_plain_of, is_ungrouped, order_of, key_of, keys_of, named, resolution_of, is_count, first_count, first_ungrouped, first_untied, clusters_of, is_apart, fault_at, first_fault, unless}
use Rattle.pdq_sql.specs.Resolving.{IsUtf8Condition, IsUtf8Filter, IsUtf8Value}
use Rattle.pdq_sql.proofs.ResolutionTies.{length-clusters_of, tied}

-- what was resolved meets P
abbrev pub Holds : {A : Type 0} → (A → Type 0) → Resolved A → Type 0
Holds P (Ok x) = P x
Holds P (Err e) = Unit {0}

pub then : {A B : Type 0} (P : A → Type 0) (Q : B → Type 0) (r : Resolved A) (f : A → Resolved B) → Holds P r → ((x : A) → P x → Holds Q (f x)) → Holds Q (r >>= f)
then P Q (Ok x) f h k = k x h
then P Q (Err e) f h k = tt

pub either : {A : Type 0} (P : A → Type 0) (b : Bool) (x y : Resolved A) → (b ≡ true → Holds P x) → (b ≡ false → Holds P y) → Holds P (cond b x y)
either P true x y h k = h refl
either P false x y h k = k refl

pub some : {A : Type 0} (P : A → Type 0) (o : Option A) (e : SqlFault) → ((x : A) → o ≡ Some x → P x) → Holds P (ok_or o e)
some P (Some x) e h = h x refl
some P None e h = tt

pub weaken : {A : Type 0} (P Q : A → Type 0) (r : Resolved A) → Holds P r → ((x : A) → P x → Q x) → Holds Q r
weaken P Q (Ok x) h k = k x h
weaken P Q (Err e) h k = tt

pub both : {A : Type 0} (P Q : A → Type 0) (r : Resolved A) → Holds P r → Holds Q r → Holds (λ x. P x × Q x) r
both P Q (Ok x) h k = (h, k)
both P Q (Err e) h k = tt

pub holds_at : {A : Type 0} (P : A → Type 0) (r : Resolved A) (x : A) → Holds P r → r ≡ Ok x → P x
holds_at P (Ok y) x h e = let is : y ≡ x = cc in subst P is h
holds_at P (Err d) x h e = absurd cc

-- ---- parts one after the other

module _ {X Y : Type 0} (limit : ℕ) (place : X → ℕ) (one : List Y → X → Resolved Y) where
  pub each_holds : (P : List Y → Type 0) → ((done : List Y) (x : X) → P done → Holds (λ y. P (done ++ y ∷ [])) (one done x)) → (done : List Y) (xs : List X) → P done → Holds P (each limit place one done xs)
  unfolding each
  each_holds P step done [] h = h
  each_holds P step done (x ∷ xs) h = either P (eqb (length done) limit) _ _ (λ _. tt) (λ _. then _ P (one done x) _ (step done x h) (λ y k. each_holds P step (done ++ y ∷ []) xs k))

  pub each_length : (done : List Y) (xs : List X) → Holds (λ ys. length ys ≡ length done + length xs) (each limit place one done xs)
  unfolding each
  each_length done [] = omega arith
  each_length done (x ∷ xs) = either _ (eqb (length done) limit) _ _ (λ _. tt) (λ _. then (λ _. Unit {0}) _ (one done x) _ (anything (one done x)) (λ y _. same_length (each limit place one (done ++ y ∷ []) xs) (omega (arith, length-append done (y ∷ []))) (each_length (done ++ y ∷ []) xs)))
    where
      anything : {A : Type 0} (r : Resolved A) → Holds (λ _. Unit {0}) r
      anything (Ok x) = tt
      anything (Err e) = tt

      same_length : {n m : ℕ} (r : Resolved (List Y)) → n ≡ m → Holds (λ ys. length ys ≡ n) r → Holds (λ ys. length ys ≡ m) r
      same_length r e h = subst (λ k. Holds (λ ys. length ys ≡ k) r) e h

  pub each_bound : (done : List Y) (xs : List X) → length done ≤ limit → Holds (λ ys. length ys ≤ limit) (each limit place one done xs)
  unfolding each
  each_bound done [] h = h
  each_bound done (x ∷ xs) h = either _ (eqb (length done) limit) _ _ (λ _. tt) (λ free. then (λ _. Unit {0}) _ (one done x) _ (anything (one done x)) (λ y _. each_bound (done ++ y ∷ []) xs (room free y)))
    where
      anything : {A : Type 0} (r : Resolved A) → Holds (λ _. Unit {0}) r
      anything (Ok x) = tt
      anything (Err e) = tt

      room : eqb (length done) limit ≡ false → (y : Y) → length (done ++ y ∷ []) ≤ limit
      room free y = let ne : length done ≢ limit = eqb-false _ _ free in omega (arith, length-append done (y ∷ []))

-- ---- lists

All-at : {X : Type 0} (P : X → Type 0) (xs : List X) (i : ℕ) (x : X) → All P xs → slice_get xs i ≡ Some x → P x
All-at P xs i x h e = subst P (get_or_from_slice_get xs i x x e) (h i x (slice_get_within xs i x e))

-- ---- tables

or_false : (a b : Bool) → (a || b) ≡ false → (a ≡ false) × (b ≡ false)
or_false true b e = absurd (true≢false e)
or_false false b e = (refl, e)

pub none_such : {X : Type 0} (p : X → Bool) (xs : List X) → list_any p xs ≡ false → All (λ x. p x ≡ false) xs
none_such p [] e = All-nil (λ x. p x ≡ false)
none_such p (x ∷ xs) e = let h = or_false (p x) (list_any p xs) e in All-cons (λ x. p x ≡ false) x xs h.0 (none_such p xs h.1)

record TablesFit (shapes : List ShapeView) (tables : List ℕ) : Type 0 where
  there : All (λ t. t < length shapes) tables
  differ : AllPairs (λ s t. s ≢ t) tables

no_shape : ShapeView
no_shape = record { name = []; columns = [] }

table_sound : (shapes : List ShapeView) (before : List ℕ) (t : AstTable) → Holds (λ n. (n < length shapes) × All (λ m. eqb m n ≡ false) before) (table_of shapes before t)
unfolding table_of
table_sound shapes before t =
    then (λ n. n < length shapes) _ (ok_or (table_number shapes t.name) _) _ (some (λ n. n < length shapes) (table_number shapes t.name) _ (λ n e. (position-Some _ shapes n no_shape e).0)) (λ n lt.
    either _ (list_any (λ m. eqb m n) before) _ _ (λ _. tt) (λ new. (lt, none_such (λ m. eqb m n) before new)))

tables_sound : (shapes : List ShapeView) (ts : List AstTable) → Holds (TablesFit shapes) (tables_of shapes ts)
tables_sound shapes ts = each_holds 4 _ (table_of shapes) (TablesFit shapes)
    (λ done t h. weaken _ (λ n. TablesFit shapes (done ++ n ∷ [])) (table_of shapes done t) (table_sound shapes done t) (λ n k. record {
      there = All-push (λ m. m < length shapes) done n h.there k.0;
      differ = all_pairs_push (λ s t. s ≢ t) done n h.differ (λ i d in'. eqb-false _ _ (k.1 i d in'));
    }))
    [] ts (record { there = All-nil (λ m. m < length shapes); differ = λ i j d p q. absurd (omega arith) })

-- ---- columns

-- a column of this name, where the columns begin at a place
record IsNamed (place : ℕ) (cs : List Column) (r : ℕ × Kind) : Type 0 where
  at : ℕ
  column : Column
  where_it_is : r.0 ≡ place + at
  there : slice_get cs at ≡ Some column
  kind : column.kind ≡ r.1

named_if : (P : ℕ × Kind → Type 0) (b : Bool) (x : ℕ × Kind) (o : Option (ℕ × Kind)) → P x → ((r : ℕ × Kind) → o ≡ Some r → P r) → (r : ℕ × Kind) → cond b (Some x) o ≡ Some r → P r
named_if P true x o h k r e = let is : x ≡ r = same_Some x r e in subst P is h
named_if P false x o h k r e = k r e

column_named_sound : (name : List ℕ) (place : ℕ) (cs : List Column) (r : ℕ × Kind) → column_named name place cs ≡ Some r → IsNamed place cs r
column_named_sound name place [] r e = absurd cc
column_named_sound name place (c ∷ cs) r e = named_if (IsNamed place (c ∷ cs)) (bytes_eq c.name name) (place, c.kind) (column_named name (place + 1) cs)
    (record { at = 0; column = c; where_it_is = omega arith; there = refl; kind = refl })
    (λ r e. let h = column_named_sound name (place + 1) cs r e in let there : r.0 ≡ place + 1 + h.at = h.where_it_is in
    record { at = suc h.at; column = h.column; where_it_is = omega (arith, there); there = h.there; kind = h.kind }) r e

module _ (shapes : List ShapeView) (tables : List ℕ) where
  abbrev pub IsFound : Found → Type 0
  IsFound f = HasKind shapes tables f.0 f.1

  found_sound : (number place : ℕ) (name : List ℕ) (r : ℕ × Kind) → slice_get tables place ≡ Some number → column_in shapes number name ≡ Some r → IsFound (found place r)
  found_sound number place name r e g = option_and_then_some (λ (s : ShapeView). column_named name 0 s.columns) (slice_get shapes number) r g (λ s there named.
      let h = column_named_sound name 0 s.columns r named in
      let is : r.0 ≡ h.at = omega (arith, h.where_it_is) in
      (h.column, rw (e, there) (ap (slice_get s.columns) is ∙ h.there), h.kind))

  number_is : (number place : ℕ) → position (λ n. eqb n number) tables ≡ Some place → slice_get tables place ≡ Some number
  number_is number place e =
      let h = position-Some (λ n. eqb n number) tables place 0 e in
      slice_get-get_or tables place 0 h.0 ∙ ap Some (eqb-true _ _ h.1)

  dotted_sound : (place : ℕ) (t c : List ℕ) → Holds IsFound (dotted shapes tables place t c)
  unfolding dotted
  dotted_sound place t c =
      then (λ _. Unit {0}) _ (ok_or (table_number shapes t) _) _ (some _ (table_number shapes t) _ (λ n e. tt)) (λ number _.
      then (λ from. slice_get tables from ≡ Some number) _ (ok_or (position (λ n. eqb n number) tables) _) _ (some _ (position (λ n. eqb n number) tables) _ (λ from e. number_is number from e)) (λ from there.
      then (λ r. column_in shapes number c ≡ Some r) _ (ok_or (column_in shapes number c) _) _ (some _ (column_in shapes number c) _ (λ r e. e)) (λ r e. found_sound number from c r there e)))

  abbrev pub AreFound : List Found → Type 0
  AreFound [] = Unit {0}
  AreFound (f ∷ fs) = IsFound f × AreFound fs

  found_in_sound : (number place : ℕ) (name : List ℕ) (o : Option (ℕ × Kind)) (rest : List Found) → slice_get tables place ≡ Some number → column_in shapes number name ≡ o → AreFound rest → AreFound (found_in place o ++ rest)
  found_in_sound number place name None rest e g h = h
  found_in_sound number place name (Some r) rest e g h = (found_sound number place name r e g, h)

  columns_named_sound : (name : List ℕ) (place : ℕ) (ts : List ℕ) → ((k : ℕ) → slice_get tables (place + k) ≡ slice_get ts k) → AreFound (columns_named shapes name place ts)
  unfolding columns_named
  columns_named_sound name place [] there = tt
  columns_named_sound name place (t ∷ ts) there =
      let here : slice_get tables place ≡ Some t = ap (slice_get tables) (omega arith) ∙ there 0 in
      found_in_sound t place name (column_in shapes t name) _ here refl
      (columns_named_sound name (place + 1) ts (λ k. ap (slice_get tables) (omega arith) ∙ there (suc k)))

  the_only_sound : (place : ℕ) (fs : List Found) → AreFound fs → Holds IsFound (the_only place fs)
  the_only_sound place [] h = tt
  the_only_sound place (f ∷ []) h = h.0
  the_only_sound place (f ∷ g ∷ fs) h = tt

  column_by_sound : (place : ℕ) (o : Option (List ℕ)) (name : List ℕ) → Holds IsFound (column_by shapes tables place o name)
  column_by_sound place None name = the_only_sound place _ (columns_named_sound name 0 tables (λ k. ap (slice_get tables) (omega arith)))
  column_by_sound place (Some t) name = dotted_sound place t name

  pub column_sound : (place : ℕ) (c : AstColumn) → Holds IsFound (column_of shapes tables place c)
  unfolding column_of
  column_sound place c = column_by_sound place c.table c.column

  any_column_sound : (place : ℕ) (c : AstColumn) → Holds (IsColumn shapes tables) (any_column shapes tables place c)
  unfolding any_column
  any_column_sound place c = then IsFound _ (column_of shapes tables place c) _ (column_sound place c) (λ f h. (f.1, h))

  number_kind : (a : At) (k : Kind) → is_number k ≡ true → HasKind shapes tables a k → IsNumberColumn shapes tables a
  number_kind a (kind.Number s) e h = (s, h)
  number_kind a kind.Words e h = absurd (true≢false (sym e))

  number_column_sound : (place : ℕ) (c : AstColumn) → Holds (IsNumberColumn shapes tables) (number_column shapes tables place c)
  unfolding number_column
  number_column_sound place c = then IsFound _ (column_of shapes tables place c) _ (column_sound place c) (λ f h. either _ (is_number f.1) _ _ (λ e. number_kind f.0 f.1 e h) (λ _. tt))

  form_sound : (place : ℕ) (f : AstForm) → Holds (ItemFits shapes tables) (form_of shapes tables place f)
  form_sound place (form.Plain c) = then _ _ (any_column shapes tables place c) _ (any_column_sound place c) (λ a h. h)
  form_sound place (form.Sum c) = then _ _ (number_column shapes tables place c) _ (number_column_sound place c) (λ a h. h)
  form_sound place (form.Avg c) = then _ _ (number_column shapes tables place c) _ (number_column_sound place c) (λ a h. h)
  form_sound place (form.Min c) = then _ _ (any_column shapes tables place c) _ (any_column_sound place c) (λ a h. h)
  form_sound place (form.Max c) = then _ _ (any_column shapes tables place c) _ (any_column_sound place c) (λ a h. h)
  form_sound place form.Count = tt

  item_sound : (i : AstItem) → Holds (ItemFits shapes tables) (item_of shapes tables i)
  unfolding item_of
  item_sound i = form_sound i.place i.form

-- ---- literals

magnitude_small : (b : Bool) (text : List ℕ) (m : ℕ) → m < 10 ^ 18 → nat_abs (cond b (neg_ℤ (pos m)) (pos m)) < 10 ^ 18
magnitude_small true text m h = omega (arith, ints)
magnitude_small false text m h = h

signed_small : (text : List ℕ) (s : ℕ) → magnitude_of s text < 10 ^ 18 → nat_abs (signed_magnitude s text) < 10 ^ 18
unfolding signed_magnitude
signed_small text s h = magnitude_small (is_negative text) text (magnitude_of s text) h

read_small_at : (text : List ℕ) (s : ℕ) (z : ℤ) (o : Option ℕ) (b : Bool) → bad_place s text ≡ o → nat_lt (magnitude_of s text) (10 ^ 18) ≡ b → number_read text s ≡ Ok z → nat_abs z < 10 ^ 18
unfolding number_read
read_small_at text s z (Some place) b e f r = absurd (let bad = rw e at r in cc)
read_small_at text s z None false e f r = absurd (let bad = rw (e, f) at r in cc)
read_small_at text s z None true e f r =
    let good = rw (e, f) at r in
    let is : signed_magnitude s text ≡ z = cc in
    let small : magnitude_of s text < 10 ^ 18 = grind (arith, nat_tests) in
    subst (λ y. nat_abs y < 10 ^ 18) is (signed_small text s small)

value_small : (place : ℕ) (text : List ℕ) (s : ℕ) (r : Result ℤ NumberFault) → number_read text s ≡ r → Holds (IsValueOf (kind.Number s)) (number_value place r)
value_small place text s (Ok z) e = read_small_at text s z (bad_place s text) (nat_lt (magnitude_of s text) (10 ^ 18)) refl refl e
value_small place text s (Err f) e = tt

-- a value of this kind, if its text is UTF-8
abbrev MayBeOf : Kind → Value → Type 0
MayBeOf k v = IsUtf8Value v → IsValueOf k v

literal_sound : (place : ℕ) (k : Kind) (l : AstLiteral) → Holds (MayBeOf k) (literal_of place k l)
unfolding literal_of
literal_sound place (kind.Number s) (literal.Number text) = weaken (IsValueOf (kind.Number s)) (MayBeOf (kind.Number s)) (number_value place (number_read text s)) (value_small place text s (number_read text s) refl) (λ v h _. h)
literal_sound place (kind.Number s) (literal.Words text) = tt
literal_sound place kind.Words (literal.Number text) = tt
literal_sound place kind.Words (literal.Words text) = λ e. e

-- ---- the kind of a column that was found

kind_of_found : (shapes : List ShapeView) (tables : List ℕ) (a : At) (k : Kind) → All IsShape shapes → HasKind shapes tables a k → IsKind k
kind_of_found shapes tables a k small h =
    option_and_then_some (λ (s : ShapeView). slice_get s.columns a.column) (option_and_then (slice_get shapes) (slice_get tables a.table)) h.0 h.1 (λ s there here.
    option_and_then_some (slice_get shapes) (slice_get tables a.table) s there (λ number _ is.
    let fits : IsShape s = All-at IsShape shapes number s small is in
    subst IsKind h.2 (All-at (λ (c : Column). IsKind c.kind) s.columns a.column h.0 fits.kinds here)))

pub column_kind : (shapes : List ShapeView) (tables : List ℕ) (place : ℕ) (c : AstColumn) (f : Found) → All IsShape shapes → column_of shapes tables place c ≡ Ok f → IsKind f.1
column_kind shapes tables place c f small e = kind_of_found shapes tables f.0 f.1 small (holds_at (IsFound shapes tables) (column_of shapes tables place c) f (column_sound shapes tables place c) e)

-- ---- conditions

-- a condition on one table that fits, if its text is UTF-8
abbrev MayFit : List ShapeView → List ℕ → Filter → Type 0
MayFit shapes tables (filter.Literal a test v) = (k : Kind) × HasKind shapes tables a k × MayBeOf k v
MayFit shapes tables (filter.Columns a b) = (a.table ≡ b.table) × AreOfOneKind shapes tables a b

does_fit : (shapes : List ShapeView) (tables : List ℕ) (f : Filter) → MayFit shapes tables f → IsUtf8Filter f → FilterFits shapes tables f
does_fit shapes tables (filter.Literal a test v) h utf8 = (h.0, h.1, h.2 utf8)
does_fit shapes tables (filter.Columns a b) h utf8 = h

pub do_fit : (shapes : List ShapeView) (tables : List ℕ) (fs : List Filter) → All (MayFit shapes tables) fs → All IsUtf8Filter fs → All (FilterFits shapes tables) fs
do_fit shapes tables [] h utf8 = All-nil (FilterFits shapes tables)
do_fit shapes tables (f ∷ fs) h utf8 = All-cons (FilterFits shapes tables) f fs (does_fit shapes tables f (All-head (MayFit shapes tables) f fs h) (All-head IsUtf8Filter f fs utf8)) (do_fit shapes tables fs (All-tail (MayFit shapes tables) f fs h) (All-tail IsUtf8Filter f fs utf8))

-- the conditions on one table of conditions whose texts are UTF-8
pub utf8_filters : (cs : List Condition) → All IsUtf8Condition cs → All IsUtf8Filter (filter_map filter_of cs)
utf8_filters [] h = All-nil IsUtf8Filter
utf8_filters (Within f ∷ cs) h = All-cons IsUtf8Filter f _ (All-head IsUtf8Condition (Within f) cs h) (utf8_filters cs (All-tail IsUtf8Condition (Within f) cs h))
utf8_filters (Between a b ∷ cs) h = utf8_filters cs (All-tail IsUtf8Condition (Between a b) cs h)

abbrev ConditionFits : List ShapeView → List ℕ → Condition → Type 0
ConditionFits shapes tables (Within f) = MayFit shapes tables f
ConditionFits shapes tables (Between a b) = JoinFits shapes tables (a, b)

same_kind_is : (k l : Kind) → same_kind k l ≡ true → k ≡ l
same_kind_is (kind.Number s) (kind.Number t) e = ap kind.Number (eqb-true s t e)
same_kind_is (kind.Number s) kind.Words e = absurd (true≢false (sym e))
same_kind_is kind.Words (kind.Number t) e = absurd (true≢false (sym e))
same_kind_is kind.Words kind.Words e = refl

module _ (shapes : List ShapeView) (tables : List ℕ) where
  equal_columns_fit : (a b : At) (t : Bool) → eqb a.table b.table ≡ t → AreOfOneKind shapes tables a b → ConditionFits shapes tables (cond t (Within (filter.Columns a b)) (Between a b))
  equal_columns_fit a b true e h = (eqb-true _ _ e, h)
  equal_columns_fit a b false e h = (eqb-false _ _ e, h)

  alike : (a b : At) (k l : Kind) → k ≡ l → HasKind shapes tables a k → HasKind shapes tables b l → AreOfOneKind shapes tables a b
  alike a b k l e h g = (k, h, subst (HasKind shapes tables b) (sym e) g)

  test_sound : (place : ℕ) (t : AstTest) → Holds (ConditionFits shapes tables) (test_of shapes tables place t)
  test_sound place (test.Literal c compare l) =
      then (IsFound shapes tables) _ (column_of shapes tables place c) _ (column_sound shapes tables place c) (λ f h.
      then (MayBeOf f.1) _ (literal_of place f.1 l) _ (literal_sound place f.1 l) (λ v g. (f.1, h, g)))
  test_sound place (test.Columns c d) =
      then (IsFound shapes tables) _ (column_of shapes tables place c) _ (column_sound shapes tables place c) (λ f h.
      then (IsFound shapes tables) _ (column_of shapes tables place d) _ (column_sound shapes tables place d) (λ g k.
      either (ConditionFits shapes tables) (same_kind f.1 g.1) _ _ (λ e. equal_columns_fit f.0 g.0 (eqb f.0.table g.0.table) refl (alike f.0 g.0 f.1 g.1 (same_kind_is f.1 g.1 e) h k)) (λ _. tt)))

  condition_sound : (c : AstCond) → Holds (ConditionFits shapes tables) (condition_of shapes tables c)
  unfolding condition_of
  condition_sound c = test_sound c.place c.test

  filters_fit : (cs : List Condition) → All (ConditionFits shapes tables) cs → All (MayFit shapes tables) (filter_map filter_of cs)
  filters_fit [] h = All-nil (MayFit shapes tables)
  filters_fit (Within f ∷ cs) h = All-cons (MayFit shapes tables) f _ (All-head (ConditionFits shapes tables) (Within f) cs h) (filters_fit cs (All-tail (ConditionFits shapes tables) (Within f) cs h))
  filters_fit (Between a b ∷ cs) h = filters_fit cs (All-tail (ConditionFits shapes tables) (Between a b) cs h)

  joins_fit : (cs : List Condition) → All (ConditionFits shapes tables) cs → All (JoinFits shapes tables) (filter_map join_of cs)
  joins_fit [] h = All-nil (JoinFits shapes tables)
  joins_fit (Within f ∷ cs) h = joins_fit cs (All-tail (ConditionFits shapes tables) (Within f) cs h)
  joins_fit (Between a b ∷ cs) h = All-cons (JoinFits shapes tables) (a, b) _ (All-head (ConditionFits shapes tables) (Between a b) cs h) (joins_fit cs (All-tail (ConditionFits shapes tables) (Between a b) cs h))

parts_length : (cs : List Condition) → length (filter_map filter_of cs) + length (filter_map join_of cs) ≡ length cs
parts_length [] = refl
parts_length (Within f ∷ cs) = omega (arith, parts_length cs)
parts_length (Between a b ∷ cs) = omega (arith, parts_length cs)

-- ---- order keys

module _ (shapes : List ShapeView) (tables : List ℕ) (items : List Item) where
  order_sound : (place : ℕ) (o : AstOrder) → Holds (λ i. i < length items) (order_of shapes tables items place o)
  order_sound place (order.Number n) = either _ (nat_lt 0 n && nat_le n (length items)) _ _ (λ e. let h : (0 < n) × (n ≤ length items) = grind (arith, nat_tests) in omega arith) (λ _. tt)
  order_sound place (order.Column c) =
      then (IsFound shapes tables) _ (column_of shapes tables place c) _ (column_sound shapes tables place c) (λ f h.
      some (λ i. i < length items) (position (is_plain_of f.0) items) _ (λ i e. (position-Some (is_plain_of f.0) items i item.Count e).0))

  key_sound : (k : AstKey) → Holds (λ (x : Key). x.item < length items) (key_of shapes tables items k)
  unfolding key_of
  key_sound k = then (λ i. i < length items) _ (order_of shapes tables items k.place k.order) _ (order_sound k.place k.order) (λ i h. h)

-- ---- all parts

-- each element of a list of parts meets P
each_all : {X Y : Type 0} (limit : ℕ) (place : X → ℕ) (one : X → Resolved Y) (P : Y → Type 0) → ((x : X) → Holds P (one x)) → (xs : List X) → Holds (All P) (each limit place (λ before. one) [] xs)
each_all limit place one P step xs = each_holds limit place (λ before. one) (All P) (λ done x h. weaken P (λ y. All P (done ++ y ∷ [])) (one x) (step x) (λ y k. All-push P done y h k)) [] xs (All-nil P)

-- as many as there were, and no more than the limit
each_counts : {X Y : Type 0} (limit : ℕ) (place : X → ℕ) (one : List Y → X → Resolved Y) (xs : List X) → Holds (λ ys. (length ys ≡ length xs) × (length ys ≤ limit)) (each limit place one [] xs)
each_counts limit place one xs = both _ (λ ys. length ys ≤ limit) (each limit place one [] xs) (weaken _ (λ ys. length ys ≡ length xs) (each limit place one [] xs) (each_length limit place one [] xs) (λ ys h. omega (arith, h))) (each_bound limit place one [] xs (omega arith))

-- what the first five rules make sure of
pub record IsNamedWell (shapes : List ShapeView) (ast : AstView) (q : QueryView) : Type 0 where
  pub there : All (λ t. t < length shapes) q.tables
  pub differ : AllPairs (λ s t. s ≢ t) q.tables
  pub as_many_tables : length q.tables ≡ length ast.tables
  pub four_tables : length q.tables ≤ 4
  pub as_many_items : length q.items ≡ length ast.items
  pub sixteen_items : length q.items ≤ 16
  pub sixteen_conditions : length q.filters + length q.joins ≤ 16
  pub sixteen_groups : length q.groups ≤ 16
  pub sixteen_keys : length q.keys ≤ 16
  pub filters : All (MayFit shapes q.tables) q.filters
  pub joins : All (JoinFits shapes q.tables) q.joins
  pub items : All (ItemFits shapes q.tables) q.items
  pub groups : All (IsColumn shapes q.tables) q.groups
  pub keys : All (λ (k : Key). k.item < length q.items) q.keys

pub named_sound : (shapes : List ShapeView) (ast : AstView) → Holds (IsNamedWell shapes ast) (named shapes ast)
unfolding named
named_sound shapes ast =
    then (λ ts. TablesFit shapes ts × ((length ts ≡ length ast.tables) × (length ts ≤ 4))) _ (tables_of shapes ast.tables) _ (both (TablesFit shapes) _ (tables_of shapes ast.tables) (tables_sound shapes ast.tables) (each_counts 4 _ (table_of shapes) ast.tables)) (λ tables t.
    then (λ xs. All (ItemFits shapes tables) xs × ((length xs ≡ length ast.items) × (length xs ≤ 16))) _ (items_of shapes tables ast.items) _ (both (All (ItemFits shapes tables)) _ (items_of shapes tables ast.items) (each_all 16 _ (item_of shapes tables) (ItemFits shapes tables) (item_sound shapes tables) ast.items) (each_counts 16 _ (λ before. item_of shapes tables) ast.items)) (λ items i.
    then (λ xs. All (ConditionFits shapes tables) xs × ((length xs ≡ length ast.conds) × (length xs ≤ 16))) _ (conditions_of shapes tables ast.conds) _ (both (All (ConditionFits shapes tables)) _ (conditions_of shapes tables ast.conds) (each_all 16 _ (condition_of shapes tables) (ConditionFits shapes tables) (condition_sound shapes tables) ast.conds) (each_counts 16 _ (λ before. condition_of shapes tables) ast.conds)) (λ cs c.
    then (λ xs. All (IsColumn shapes tables) xs × ((length xs ≡ length ast.groups) × (length xs ≤ 16))) _ (groups_of shapes tables ast.groups) _ (both (All (IsColumn shapes tables)) _ (groups_of shapes tables ast.groups) (each_all 16 _ (λ (g : AstGroup). any_column shapes tables g.place g.column) (IsColumn shapes tables) (λ g. any_column_sound shapes tables g.place g.column) ast.groups) (each_counts 16 _ (λ before (g : AstGroup). any_column shapes tables g.place g.column) ast.groups)) (λ groups g.
    then (λ xs. All (λ (x : Key). x.item < length items) xs × ((length xs ≡ length ast.keys) × (length xs ≤ 16))) _ (keys_of shapes tables items ast.keys) _ (both (All (λ (x : Key). x.item < length items)) _ (keys_of shapes tables items ast.keys) (each_all 16 _ (key_of shapes tables items) (λ (x : Key). x.item < length items) (key_sound shapes tables items) ast.keys) (each_counts 16 _ (λ before. key_of shapes tables items) ast.keys)) (λ keys k.
    record {
      there = t.0.there;
      differ = t.0.differ;
      as_many_tables = t.1.0;
      four_tables = t.1.1;
      as_many_items = i.1.0;
      sixteen_items = i.1.1;
      sixteen_conditions = omega (arith, parts_length cs, c.1.1);
      sixteen_groups = g.1.1;
      sixteen_keys = k.1.1;
      filters = filters_fit shapes tables cs c.0;
      joins = joins_fit shapes tables cs c.0;
      items = i.0;
      groups = g.0;
      keys = k.0;
    })))))

-- ---- what the last three rules make sure of

module _ {X : Type 0} (p : X → Bool) where
  fail_step : (x : X) (xs : List X) (b : Bool) → p x ≡ b → length (x ∷ xs) ≤ prefix_len (λ y. not (p y)) (x ∷ xs) → (length xs ≤ prefix_len (λ y. not (p y)) xs → All (λ y. p y ≡ false) xs) → All (λ y. p y ≡ false) (x ∷ xs)
  fail_step x xs true e h rest = absurd (let g = rw e at h in omega (arith, g))
  fail_step x xs false e h rest = let g = rw e at h in All-cons (λ y. p y ≡ false) x xs e (rest (omega (arith, g)))

  all_fail : (xs : List X) → length xs ≤ prefix_len (λ y. not (p y)) xs → All (λ y. p y ≡ false) xs
  all_fail [] h = All-nil (λ y. p y ≡ false)
  all_fail (x ∷ xs) h = fail_step x xs (p x) refl h (all_fail xs)

  past_end : (n m : ℕ) (b : Bool) → ltb n m ≡ b → cond b (Some n) None ≡ None → m ≤ n
  past_end n m true e h = absurd cc
  past_end n m false e h = grind (arith, nat_tests)

  pub none_passes : (xs : List X) → position p xs ≡ None → All (λ y. p y ≡ false) xs
  none_passes xs e = all_fail xs (past_end (prefix_len (λ y. not (p y)) xs) (length xs) _ refl e)

  -- an element that passes
  Passing : List X → Type 0
  Passing xs = (x : X) × Contains xs x × (p x ≡ true)

  passing_step : (x : X) (xs : List X) (b : Bool) → p x ≡ b → (b || list_any p xs) ≡ true → (list_any p xs ≡ true → Passing xs) → Passing (x ∷ xs)
  unfolding Passing
  passing_step x xs true e h rest = (x, (0, omega arith, refl), e)
  passing_step x xs false e h rest = let r = rest h in (r.0, (suc r.1.0, omega (arith, r.1.1), r.1.2), r.2)

  some_passes : (xs : List X) → list_any p xs ≡ true → Passing xs
  some_passes [] e = absurd (true≢false (sym e))
  some_passes (x ∷ xs) e = passing_step x xs (p x) refl e (some_passes xs)

not_false : (b : Bool) → not b ≡ false → b ≡ true
not_false true e = refl
not_false false e = absurd (true≢false e)

same_column : (a b : At) → is_column a b ≡ true → b ≡ a
same_column a b e = let h : (a.table ≡ b.table) × (a.column ≡ b.column) = grind (arith, nat_tests) in ap₂ (λ t c. record { table = t; column = c }) (sym h.0) (sym h.1)

grouped_item : (groups : List At) (i : Item) → is_ungrouped groups i ≡ false → IsPlainInGroups groups i
unfolding Passing
grouped_item groups (item.Plain a) e = let h = some_passes (is_column a) groups (not_false _ e) in subst (Contains groups) (same_column a h.0 h.2) h.1
grouped_item groups (item.Sum a) e = tt
grouped_item groups (item.Avg a) e = tt
grouped_item groups (item.Min a) e = tt
grouped_item groups (item.Max a) e = tt
grouped_item groups item.Count e = tt

one_table : (q : QueryView) → first_count q ≡ None → 1 ≤ length q.tables → Contains q.items item.Count → length q.tables ≡ 1
unfolding first_count
one_table q e some h = at (nat_lt 1 (length q.tables)) refl
  where
    at : (b : Bool) → nat_lt 1 (length q.tables) ≡ b → length q.tables ≡ 1
    at true f = absurd (true≢false (All-contains (λ i. is_count i ≡ false) q.items item.Count (none_passes is_count q.items (rw f at e)) h))
    at false f = grind (arith, nat_tests)

grouped : (q : QueryView) → first_ungrouped q ≡ None → (is_grouped q || list_any is_fold q.items) ≡ true → All (IsPlainInGroups q.groups) q.items
unfolding first_ungrouped
grouped q e h = All-weaker (λ i. is_ungrouped q.groups i ≡ false) (IsPlainInGroups q.groups) (grouped_item q.groups) q.items (none_passes (is_ungrouped q.groups) q.items (rw h at e))

all_tied : (q : QueryView) → All IsJoinOfFour q.joins → length q.tables ≤ 4 → first_untied q ≡ None → (place : ℕ) → place < length q.tables → IsTied q.joins place
unfolding first_untied
all_tied q small four e place in' =
    let cs = clusters_of q.joins in
    let len : length cs ≡ 4 = length-clusters_of q.joins small in
    let taken : place < length (take (length q.tables) cs) = omega (arith, length-take (length q.tables) cs) in
    let here = none_passes (is_apart cs) (take (length q.tables) cs) e place 0 taken in
    let near : get_or (take (length q.tables) cs) place 0 ≡ get_or cs place 0 = get_or-take (length q.tables) cs place 0 in' in
    tied q.joins small place (omega arith) (sym near ∙ eqb-true _ _ (not_false _ here))

small_join : (shapes : List ShapeView) (tables : List ℕ) (j : At × At) → length tables ≤ 4 → JoinFits shapes tables j → IsJoinOfFour j
small_join shapes tables j four h = record { left = at j.0 h.1.1.0 h.1.1.1; right = at j.1 h.1.2.0 h.1.2.1 }
  where
    at : (a : At) (c : Column) → column_at shapes tables a ≡ Some c → a.table < 4
    at a c e = option_and_then_some (λ (s : ShapeView). slice_get s.columns a.column) (option_and_then (slice_get shapes) (slice_get tables a.table)) c e (λ s there _.
        option_and_then_some (slice_get shapes) (slice_get tables a.table) s there (λ number is _. let in' : a.table < length tables = slice_get_within _ _ _ is in omega arith))

pub small_joins : (shapes : List ShapeView) (ast : AstView) (q : QueryView) → IsNamedWell shapes ast q → All IsJoinOfFour q.joins
small_joins shapes ast q h = All-weaker (JoinFits shapes q.tables) IsJoinOfFour (λ j. small_join shapes q.tables j h.four_tables) q.joins h.joins

no_fault : (why : SqlWhy) (places : List ℕ) (o : Option ℕ) → fault_at why places o ≡ None → o ≡ None
no_fault why places None e = refl
no_fault why places (Some i) e = absurd cc

neither : (a b : Option SqlFault) → option_or a b ≡ None → (a ≡ None) × (b ≡ None)
neither None b e = (refl, e)
neither (Some f) b e = absurd cc

well_fits : (shapes : List ShapeView) (ast : AstView) (q : QueryView) → 1 ≤ length ast.items → 1 ≤ length ast.tables → IsNamedWell shapes ast q → All IsUtf8Filter q.filters → first_fault ast q ≡ None → Fits shapes q
well_fits shapes ast q some_item some_table h utf8 e =
    let one = neither (fault_at CountOverJoin _ (first_count q)) _ e in
    let two = neither (fault_at NotGrouped _ (first_ungrouped q)) (fault_at NotJoined _ (first_untied q)) one.1 in
    let counted = no_fault CountOverJoin _ (first_count q) one.0 in
    let ungrouped = no_fault NotGrouped _ (first_ungrouped q) two.0 in
    let untied = no_fault NotJoined _ (first_untied q) two.1 in
    let some : 1 ≤ length q.tables = omega (arith, h.as_many_tables) in
    record {
      some_table = some;
      four_tables = h.four_tables;
      tables = h.there;
      tables_differ = h.differ;
      some_item = omega (arith, h.as_many_items);
      sixteen_items = h.sixteen_items;
      sixteen_conditions = h.sixteen_conditions;
      sixteen_groups = h.sixteen_groups;
      sixteen_keys = h.sixteen_keys;
      filters = do_fit shapes q.tables q.filters h.filters utf8;
      joins = h.joins;
      items = h.items;
      groups = h.groups;
      keys = h.keys;
      grouped = grouped q ungrouped;
      counts_one_table = one_table q counted some;
      tied = all_tied q (small_joins shapes ast q h) h.four_tables untied;
    }

-- a query that fits, if its texts are UTF-8
abbrev MayQueryFit : List ShapeView → QueryView → Type 0
MayQueryFit shapes q = All IsUtf8Filter q.filters → Fits shapes q

unless_sound : (shapes : List ShapeView) (q : QueryView) (o : Option SqlFault) → (o ≡ None → MayQueryFit shapes q) → Holds (MayQueryFit shapes) (unless o q)
unless_sound shapes q None h = h refl
unless_sound shapes q (Some e) h = tt

-- what is resolved fits the shapes
pub resolution-Fits : (shapes : List ShapeView) (ast : AstView) (q : QueryView) → 1 ≤ length ast.items → 1 ≤ length ast.tables → resolution_of shapes ast ≡ Ok q → All IsUtf8Filter q.filters → Fits shapes q
unfolding resolution_of
resolution-Fits shapes ast q some_item some_table e = holds_at (MayQueryFit shapes) (resolution_of shapes ast) q
    (then (IsNamedWell shapes ast) (MayQueryFit shapes) (named shapes ast) _ (named_sound shapes ast) (λ r h. unless_sound shapes r (first_fault ast r) (λ none utf8. well_fits shapes ast r some_item some_table h utf8 none))) e

-- ---- what the code knows of parts that were resolved

pub four_tables : (shapes : List ShapeView) (ts : List AstTable) (tables : List ℕ) → tables_of shapes ts ≡ Ok tables → length tables ≤ 4
four_tables shapes ts tables e = holds_at (λ ys. length ys ≤ 4) (tables_of shapes ts) tables (each_bound 4 _ (table_of shapes) [] ts (omega arith)) e

pub sixteen_items : (shapes : List ShapeView) (tables : List ℕ) (xs : List AstItem) (items : List Item) → items_of shapes tables xs ≡ Ok items → length items ≤ 16
sixteen_items shapes tables xs items e = holds_at (λ ys. length ys ≤ 16) (items_of shapes tables xs) items (each_bound 16 _ (λ before. item_of shapes tables) [] xs (omega arith)) e

pub named_well : (shapes : List ShapeView) (ast : AstView) (q : QueryView) → named shapes ast ≡ Ok q → IsNamedWell shapes ast q
named_well shapes ast q e = holds_at (IsNamedWell shapes ast) (named shapes ast) q (named_sound shapes ast) e
