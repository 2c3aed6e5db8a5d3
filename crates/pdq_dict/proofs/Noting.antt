-- Texts noted one by one: which are there, and how many.
use Rattle.std.proofs.Common.{◌≡◌, map, ℕ, ◌+◌, ◌<◌, ◌≤◌, get_or, take, Bool, true, false, cond, ◌||◌, List, [], ◌∷◌, ◌++◌, length, refl, sym, ap, ◌∙◌, subst, arith, fold, sum_by, length-append}
use Rattle.std.specs.List.{flat_map, list_any}
use Rattle.std.proofs.lemmas.Bool.{cond_both, cond-true}
use Rattle.std.proofs.lemmas.List.Folds.{flat_map-map, list_any-append}
use Rattle.std.proofs.lemmas.List.Sums.{fold-append, sum_by-cons}
use Rattle.std.proofs.lemmas.List.{append-nil, take_all, take_more}
use Rattle.std.proofs.lemmas.List.Concat.{flat_map-append}
use Rattle.pdq_value.specs.declared.shapes.Value.{Value}
use Rattle.pdq_value.specs.declared.shapes.Value.TheVariants.{Null, Number, Words}
use Rattle.pdq_value.specs.Tables.{TableView}
use Rattle.pdq_dict.specs.Texts.{is_text, noted}
use Rattle.pdq_dict.specs.Dictionary.{cells_in, texts_of, texts_of_row, texts_of_table, texts_of_value}
use Rattle.pdq_dict.proofs.TextOrder.{same_text}

-- whether a text is among others
abbrev pub has : List (List ℕ) → List ℕ → Bool
has texts t = list_any (is_text t) texts

or_false : (b : Bool) → (b || false) ≡ b
or_false true = refl
or_false false = refl

already : (b : Bool) (xs : List (List ℕ)) (u t : List ℕ) → is_text t u ≡ b → has xs u ≡ true → has xs t ≡ (has xs t || b)
already true xs u t e h = let s : has xs t ≡ true = subst (λ v. has xs v ≡ true) (sym (same_text t u e)) h in rw s refl
already false xs u t e h = sym (or_false (has xs t))

-- a text that is there changes nothing
pub noted-there : (xs : List (List ℕ)) (u : List ℕ) → has xs u ≡ true → noted xs u ≡ xs
unfolding noted
noted-there xs u h = cond-true (has xs u) xs (xs ++ u ∷ []) h

-- a new one goes last
pub noted-new : (xs : List (List ℕ)) (u : List ℕ) → has xs u ≡ false → noted xs u ≡ xs ++ u ∷ []
unfolding noted
noted-new xs u h = ap (λ b. cond b xs (xs ++ u ∷ [])) h

has-noted : (xs : List (List ℕ)) (u t : List ℕ) → has (noted xs u) t ≡ (has xs t || is_text t u)
unfolding noted
has-noted xs u t = cond_both (has xs u) xs (xs ++ u ∷ []) (λ l. has l t ≡ (has xs t || is_text t u)) (λ h. already (is_text t u) xs u t refl h) (λ h. list_any-append (is_text t) xs (u ∷ []) ∙ ap (λ b. has xs t || b) (or_false (is_text t u)))

or_assoc : (a b c : Bool) → ((a || b) || c) ≡ (a || (b || c))
or_assoc true b c = refl
or_assoc false b c = refl

-- exactly the texts that were there and those that were noted are there
pub has-fold_noted : (xs ts : List (List ℕ)) (t : List ℕ) → has (fold noted xs ts) t ≡ (has xs t || has ts t)
has-fold_noted xs [] t = sym (or_false (has xs t))
has-fold_noted xs (u ∷ ts) t = has-fold_noted (noted xs u) ts t ∙ ap (λ b. b || has ts t) (has-noted xs u t) ∙ or_assoc (has xs t) (is_text t u) (has ts t)

length-noted : (xs : List (List ℕ)) (u : List ℕ) → length (noted xs u) ≤ length xs + 1
unfolding noted
length-noted xs u = cond_both (has xs u) xs (xs ++ u ∷ []) (λ l. length l ≤ length xs + 1) (λ _. omega arith) (λ _. omega (arith, length-append xs (u ∷ [])))

-- no more are there than were noted
pub length-fold_noted : (xs ts : List (List ℕ)) → length (fold noted xs ts) ≤ length xs + length ts
length-fold_noted xs [] = omega arith
length-fold_noted xs (u ∷ ts) = omega (arith, length-fold_noted (noted xs u) ts, length-noted xs u)

length-texts_of_value : (v : Value) → length (texts_of_value v) ≤ 1
length-texts_of_value Null = omega arith
length-texts_of_value (Number z) = omega arith
length-texts_of_value (Words t) = omega arith

length-texts_of_row : (vs : List Value) → length (texts_of_row vs) ≤ length vs
length-texts_of_row [] = omega arith
length-texts_of_row (v ∷ vs) = omega (arith, length-append (texts_of_value v) (texts_of_row vs), length-texts_of_value v, length-texts_of_row vs)

length-texts_of_rows : (rows : List (List Value)) → length (flat_map texts_of_row rows) ≤ sum_by length rows
length-texts_of_rows [] = omega arith
length-texts_of_rows (r ∷ rows) = omega (arith, length-append (texts_of_row r) (flat_map texts_of_row rows), length-texts_of_row r, length-texts_of_rows rows, sum_by-cons {X = List Value} length r rows)

-- there are no more texts than cells
pub length-texts_of : (tables : List TableView) → length (texts_of tables) ≤ cells_in tables
length-texts_of [] = omega arith
length-texts_of (t ∷ tables) = omega (arith, length-append (texts_of_table t) (texts_of tables), length-texts_of_rows t.rows, length-texts_of tables, sum_by-cons (λ (t : TableView). sum_by length t.rows) t tables)

-- one more element whose texts are noted
pub fold_noted_more : {X : Type 0} (f : X → List (List ℕ)) (a : List (List ℕ)) (xs : List X) (i : ℕ) (d : X) → i < length xs →
    fold noted a (flat_map f (take (i + 1) xs)) ≡ fold noted (fold noted a (flat_map f (take i xs))) (f (get_or xs i d))
fold_noted_more f a xs i d h =
    ap (λ l. fold noted a (flat_map f l)) (take_more xs i d h) ∙ ap (fold noted a) (flat_map-append f (take i xs) (get_or xs i d ∷ []) ∙ ap (λ l. flat_map f (take i xs) ++ l) (append-nil (f (get_or xs i d)))) ∙ fold-append noted a (flat_map f (take i xs)) (f (get_or xs i d))

-- one more element behind, whose texts are noted
pub fold_noted_push : {X : Type 0} (f : X → List (List ℕ)) (a : List (List ℕ)) (xs : List X) (x : X) → fold noted a (flat_map f (xs ++ x ∷ [])) ≡ fold noted (fold noted a (flat_map f xs)) (f x)
fold_noted_push f a xs x = ap (fold noted a) (flat_map-append f xs (x ∷ []) ∙ ap (λ l. flat_map f xs ++ l) (append-nil (f x))) ∙ fold-append noted a (flat_map f xs) (f x)

-- all elements, each seen by v
pub fold_noted_all : {X Y : Type 0} (f : Y → List (List ℕ)) (v : X → Y) (a : List (List ℕ)) (xs : List X) (i : ℕ) → length xs ≤ i → fold noted a (flat_map (λ x. f (v x)) (take i xs)) ≡ fold noted a (flat_map f (map v xs))
fold_noted_all f v a xs i h = ap (λ l. fold noted a (flat_map (λ x. f (v x)) l)) (take_all i xs h) ∙ ap (fold noted a) (sym (flat_map-map f v xs))
