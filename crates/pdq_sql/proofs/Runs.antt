-- Reading goes through the states.
use Rattle.std.proofs.Common.{◌≡◌, ℕ, zero, suc, ◌<◌, Bool, true, false, cond, List, [], ◌∷◌, length, Option, Some, None, Result, Ok, Err, refl, ap, ◌∙◌, arith}
use Rattle.std.specs.Prelude.{◌&&◌}
use Rattle.pdq_sql.specs.declared.tokens.Mark.{Mark}
use Rattle.pdq_sql.specs.declared.tokens.Mark.TheVariants as mark
use Rattle.pdq_sql.specs.declared.tokens.TokenKind.{TokenKind}
use Rattle.pdq_sql.specs.declared.tokens.Token.{Token}
use Rattle.pdq_sql.specs.declared.reading.Unread.{Unread}
use Rattle.pdq_sql.specs.declared.reading.Unread.TheVariants.{At, Ended}
use Rattle.pdq_query.specs.declared.query.Compare.{Compare}
use Rattle.pdq_sql.specs.Asts.{AstView}
use Rattle.pdq_sql.specs.Reading.{Parse, ◌>>=◌, is_mark, next_is, is_word, is_word_next, needed, name_in, comparison_in, literal_in, int_in, expect_of, name_of, compare_of, literal_of, number_of, column_of, bracketed_of, form_of, test_of, order_of, direction_of, item_of, table_of, cond_of, group_of, key_of, parts_within, parts_of, conds_of, groups_of, keys_of, select_of, at_end, whole_select_of}
use Rattle.pdq_sql.proofs.Below.{Below, expect_below, item_below, table_below, cond_below, group_below, key_below}
use Rattle.pdq_sql.proofs.States.{Spot, InItem, InFold, InLeft, InRight, InGroup, InKey, State, Start, ItemStart, CountOpen, CountStar, FoldClose, FoldOpen, Column, Named, Dotted, Done, AfterItems, TableStart, AfterTable, EqualRight, OtherRight, GroupBy, OrderBy, KeyStart, AfterKey, AfterTables, AfterConds, AfterGroups, AfterKeys, Final, moved, step, right_of, Run, final, on_step, run}

-- ---- steps

-- one step, and then another
pub next : {A B : Type 0} (K : B → Run) (r : Result A Unread) (f : A → Result B Unread) (total : Run) (G : A → Run) → total ≡ (r >>= G) → ((a : A) → G a ≡ (f a >>= K)) → total ≡ ((r >>= f) >>= K)
next K (Ok a) f total G h k = h ∙ k a
next K (Err e) f total G h k = h

-- one of two
pub pick : {B : Type 0} (K : B → Run) (b : Bool) (r s : Result B Unread) (total R S : Run) → total ≡ cond b R S → R ≡ (r >>= K) → S ≡ (s >>= K) → total ≡ (cond b r s >>= K)
pick K true r s total R S h p q = h ∙ p
pick K false r s total R S h p q = h ∙ q

-- a mark, where the test says so
abbrev found : Bool → Mark → ℕ → List Token → Parse Mark
found b m p ts = cond b (Ok (m, ts)) (Err (At p))

fork_at : (m : Mark) (b : Bool) (o : Option State) (p : ℕ) (ts : List Token) (s : State)
    → on_step (cond b (Some s) o) p (λ next. run next ts) ≡ cond b (found b m p ts >>= λ x. run s x.1) (on_step o p (λ next. run next ts))
fork_at m true o p ts s = refl
fork_at m false o p ts s = refl

only_at : (m : Mark) (b : Bool) (p : ℕ) (ts : List Token) (s : State)
    → on_step (cond b (Some s) None) p (λ next. run next ts) ≡ (found b m p ts >>= λ x. run s x.1)
only_at m true p ts s = refl
only_at m false p ts s = refl

takes_at : {A : Type 0} (o : Option A) (t : Token) (ts : List Token) (s : State)
    → on_step (moved o s) t.place (λ next. run next ts) ≡ (needed t ts o >>= λ x. run s x.1)
takes_at (Some a) t ts s = refl
takes_at None t ts s = refl

-- a token that may stand there, or else what another state takes
fork : (m : Mark) (s one other : State) → ((k : TokenKind) → step s k ≡ cond (is_mark m k) (Some one) (step other k)) → final s ≡ final other
    → (ts : List Token) → run s ts ≡ cond (next_is m ts) (expect_of m ts >>= λ x. run one x.1) (run other ts)
fork m s one other h ends [] = ends
fork m s one other h ends (t ∷ ts) = rw (h t.kind) (fork_at m (is_mark m t.kind) (step other t.kind) t.place ts one)

-- the token that must stand there
pub only : (m : Mark) (s one : State) → ((k : TokenKind) → step s k ≡ cond (is_mark m k) (Some one) None) → final s ≡ Err Ended
    → (ts : List Token) → run s ts ≡ (expect_of m ts >>= λ x. run one x.1)
only m s one h ends [] = ends
only m s one h ends (t ∷ ts) = rw (h t.kind) (only_at m (is_mark m t.kind) t.place ts one)

-- a token with a text
pub takes : {A : Type 0} (o : TokenKind → Option A) (part : List Token → Parse A) (s one : State) → ((k : TokenKind) → step s k ≡ moved (o k) one) → final s ≡ Err Ended
    → part [] ≡ Err Ended → ((t : Token) (ts : List Token) → part (t ∷ ts) ≡ needed t ts (o t.kind))
    → (ts : List Token) → run s ts ≡ (part ts >>= λ x. run one x.1)
takes o part s one h ends e c [] = rw e ends
takes o part s one h ends e c (t ∷ ts) = rw (c t ts, h t.kind) (takes_at (o t.kind) t ts one)

word_fork_at : (b : Bool) (o q : Option State) (p : ℕ) (f : State → Run) → on_step (cond b o q) p f ≡ cond b (on_step o p f) (on_step q p f)
word_fork_at true o q p f = refl
word_fork_at false o q p f = refl

-- a word, or else what another state takes
word_fork : (s one other : State) → ((k : TokenKind) → step s k ≡ cond (is_word k) (step one k) (step other k)) → final s ≡ final other
    → (ts : List Token) → run s ts ≡ cond (is_word_next ts) (run one ts) (run other ts)
word_fork s one other h ends [] = ends
word_fork s one other h ends (t ∷ ts) = rw (h t.kind) (word_fork_at (is_word t.kind) (step one t.kind) (step other t.kind) t.place (λ next. run next ts))

names : (s one : State) → ((k : TokenKind) → step s k ≡ moved (name_in k) one) → final s ≡ Err Ended → (ts : List Token) → run s ts ≡ (name_of ts >>= λ x. run one x.1)
names s one h ends = takes name_in name_of s one h ends refl (λ t ts. refl)

-- ---- columns

done_ends : (s : Spot) → final (Done s) ≡ Err Ended
done_ends s = refl

column_runs : (s : Spot) (ts : List Token) → run (Column s) ts ≡ (column_of ts >>= λ x. run (Done s) x.1)
unfolding column_of
column_runs s ts =
    next _ (name_of ts) _ _ (λ x. run (Named s) x.1) (names (Column s) (Named s) (λ k. refl) refl ts) (λ x.
    pick _ (next_is mark.Point x.1) _ _ _ (expect_of mark.Point x.1 >>= λ y. run (Dotted s) y.1) (run (Done s) x.1) (fork mark.Point (Named s) (Dotted s) (Done s) (λ k. refl) refl x.1)
    (next _ (expect_of mark.Point x.1) _ _ (λ y. run (Dotted s) y.1) refl (λ p.
    next _ (name_of p.1) _ _ (λ y. run (Done s) y.1) (names (Dotted s) (Done s) (λ k. refl) refl p.1) (λ y. refl)))
    refl)

-- ---- items

fold_runs : (m : Mark) (ts : List Token) → (expect_of m ts >>= λ x. run FoldOpen x.1) ≡ (bracketed_of m ts >>= λ x. run (Done InItem) x.1)
unfolding bracketed_of
fold_runs m ts =
    next _ (expect_of m ts) _ _ (λ x. run FoldOpen x.1) refl (λ f.
    next _ (expect_of mark.Open f.1) _ _ (λ x. run (Column InFold) x.1) (only mark.Open FoldOpen (Column InFold) (λ k. refl) refl f.1) (λ o.
    next _ (column_of o.1) _ _ (λ x. run (Done InFold) x.1) (column_runs InFold o.1) (λ c.
    next _ (expect_of mark.Close c.1) _ _ (λ x. run (Done InItem) x.1) (only mark.Close (Done InFold) (Done InItem) (λ k. refl) refl c.1) (λ d. refl))))

rename : {A B : Type 0} (r : Result A Unread) (f : A → B) (g : B → Run) (total : Run) → total ≡ (r >>= λ a. g (f a)) → total ≡ ((r >>= λ a. Ok (f a)) >>= g)
rename (Ok a) f g total h = h
rename (Err e) f g total h = h

fork_first : (m : Mark) (one : State) (other : Option State) (b : Bool) (p : ℕ) (ts : List Token) (rest : Run)
    → on_step other p (λ next. run next ts) ≡ rest
    → on_step (cond b (Some one) other) p (λ next. run next ts) ≡ cond b (found b m p ts >>= λ x. run one x.1) rest
fork_first m one other true p ts rest h = refl
fork_first m one other false p ts rest h = h

-- the first token of an item
item_fork : (ts : List Token) → run ItemStart ts ≡
    cond (next_is mark.Count ts) (expect_of mark.Count ts >>= λ x. run CountOpen x.1)
    (cond (next_is mark.Sum ts) (expect_of mark.Sum ts >>= λ x. run FoldOpen x.1)
    (cond (next_is mark.Avg ts) (expect_of mark.Avg ts >>= λ x. run FoldOpen x.1)
    (cond (next_is mark.Min ts) (expect_of mark.Min ts >>= λ x. run FoldOpen x.1)
    (cond (next_is mark.Max ts) (expect_of mark.Max ts >>= λ x. run FoldOpen x.1)
    (run (Column InItem) ts)))))
item_fork [] = refl
item_fork (t ∷ ts) =
    fork_first mark.Count CountOpen _ (is_mark mark.Count t.kind) t.place ts _
    (fork_first mark.Sum FoldOpen _ (is_mark mark.Sum t.kind) t.place ts _
    (fork_first mark.Avg FoldOpen _ (is_mark mark.Avg t.kind) t.place ts _
    (fork_first mark.Min FoldOpen _ (is_mark mark.Min t.kind) t.place ts _
    (fork_first mark.Max FoldOpen _ (is_mark mark.Max t.kind) t.place ts _ refl))))

form_runs : (ts : List Token) → run ItemStart ts ≡ (form_of ts >>= λ x. run (Done InItem) x.1)
unfolding form_of
form_runs ts =
    pick _ (next_is mark.Count ts) _ _ _ _ _ (item_fork ts)
    (next _ (expect_of mark.Count ts) _ _ (λ x. run CountOpen x.1) refl (λ f.
    next _ (expect_of mark.Open f.1) _ _ (λ x. run CountStar x.1) (only mark.Open CountOpen CountStar (λ k. refl) refl f.1) (λ o.
    next _ (expect_of mark.Star o.1) _ _ (λ x. run FoldClose x.1) (only mark.Star CountStar FoldClose (λ k. refl) refl o.1) (λ c.
    next _ (expect_of mark.Close c.1) _ _ (λ x. run (Done InItem) x.1) (only mark.Close FoldClose (Done InItem) (λ k. refl) refl c.1) (λ d. refl)))))
    (pick _ (next_is mark.Sum ts) _ _ _ _ _ refl (next _ (bracketed_of mark.Sum ts) _ _ (λ x. run (Done InItem) x.1) (fold_runs mark.Sum ts) (λ c. refl))
    (pick _ (next_is mark.Avg ts) _ _ _ _ _ refl (next _ (bracketed_of mark.Avg ts) _ _ (λ x. run (Done InItem) x.1) (fold_runs mark.Avg ts) (λ c. refl))
    (pick _ (next_is mark.Min ts) _ _ _ _ _ refl (next _ (bracketed_of mark.Min ts) _ _ (λ x. run (Done InItem) x.1) (fold_runs mark.Min ts) (λ c. refl))
    (pick _ (next_is mark.Max ts) _ _ _ _ _ refl (next _ (bracketed_of mark.Max ts) _ _ (λ x. run (Done InItem) x.1) (fold_runs mark.Max ts) (λ c. refl))
    (next _ (column_of ts) _ _ (λ x. run (Done InItem) x.1) (column_runs InItem ts) (λ c. refl))))))

-- ---- conditions

compare_at : (o : Option Compare) (t : Token) (ts : List Token) (s : State)
    → on_step (moved o s) t.place (λ next. run next ts) ≡ (needed t ts o >>= λ x. run s x.1)
compare_at (Some a) t ts s = refl
compare_at None t ts s = refl

compare_runs : (ts : List Token) → run (Done InLeft) ts ≡ (compare_of ts >>= λ x. run (right_of (next_is mark.Equal ts)) x.1)
compare_runs [] = refl
compare_runs (t ∷ ts) = compare_at (comparison_in t.kind) t ts (right_of (is_mark mark.Equal t.kind))

literals : (ts : List Token) → run OtherRight ts ≡ (literal_of ts >>= λ x. run (Done InRight) x.1)
literals ts = takes literal_in literal_of OtherRight (Done InRight) (λ k. refl) refl refl (λ t us. refl) ts

right_runs : (b : Bool) (ts : List Token) → run (right_of b) ts ≡ cond (b && is_word_next ts) (run (Column InRight) ts) (run OtherRight ts)
right_runs true ts = word_fork EqualRight (Column InRight) OtherRight (λ k. refl) refl ts
right_runs false ts = refl

test_runs : (ts : List Token) → run (Column InLeft) ts ≡ (test_of ts >>= λ x. run (Done InRight) x.1)
unfolding test_of
test_runs ts =
    next _ (column_of ts) _ _ (λ x. run (Done InLeft) x.1) (column_runs InLeft ts) (λ l.
    next _ (compare_of l.1) _ _ (λ x. run (right_of (next_is mark.Equal l.1)) x.1) (compare_runs l.1) (λ c.
    pick _ (next_is mark.Equal l.1 && is_word_next c.1) _ _ _ _ _ (right_runs (next_is mark.Equal l.1) c.1)
    (next _ (column_of c.1) _ _ (λ x. run (Done InRight) x.1) (column_runs InRight c.1) (λ r. refl))
    (next _ (literal_of c.1) _ _ (λ x. run (Done InRight) x.1) (literals c.1) (λ v. refl))))

-- ---- keys

order_fork_at : (t : Token) (ts : List Token) (k : TokenKind) → on_step (cond (is_word k) (moved (name_in k) (Named InKey)) (moved (int_in k) (Done InKey))) t.place (λ next. run next ts)
    ≡ cond (is_word k) (on_step (moved (name_in k) (Named InKey)) t.place (λ next. run next ts)) (needed t ts (int_in k) >>= λ x. run (Done InKey) x.1)
order_fork_at t ts k = word_fork_at (is_word k) _ _ t.place _ ∙ ap (λ r. cond (is_word k) (on_step (moved (name_in k) (Named InKey)) t.place (λ next. run next ts)) r) (takes_at (int_in k) t ts (Done InKey))

order_fork : (ts : List Token) → run KeyStart ts ≡ cond (is_word_next ts) (run (Column InKey) ts) (number_of ts >>= λ x. run (Done InKey) x.1)
order_fork [] = refl
order_fork (t ∷ ts) = order_fork_at t ts t.kind

order_runs : (ts : List Token) → run KeyStart ts ≡ (order_of ts >>= λ x. run (Done InKey) x.1)
unfolding order_of
order_runs ts =
    pick _ (is_word_next ts) _ _ _ _ _ (order_fork ts)
    (next _ (column_of ts) _ _ (λ x. run (Done InKey) x.1) (column_runs InKey ts) (λ c. refl))
    (next _ (number_of ts) _ _ (λ x. run (Done InKey) x.1) refl (λ n. refl))

direction_fork : (ts : List Token) → run (Done InKey) ts ≡
    cond (next_is mark.Asc ts) (expect_of mark.Asc ts >>= λ x. run AfterKey x.1)
    (cond (next_is mark.Desc ts) (expect_of mark.Desc ts >>= λ x. run AfterKey x.1) (run AfterKey ts))
direction_fork [] = refl
direction_fork (t ∷ ts) =
    fork_first mark.Asc AfterKey _ (is_mark mark.Asc t.kind) t.place ts _
    (fork_first mark.Desc AfterKey _ (is_mark mark.Desc t.kind) t.place ts _ refl)

direction_runs : (ts : List Token) → run (Done InKey) ts ≡ (direction_of ts >>= λ x. run AfterKey x.1)
unfolding direction_of
direction_runs ts =
    pick _ (next_is mark.Asc ts) _ _ _ _ _ (direction_fork ts)
    (next _ (expect_of mark.Asc ts) _ _ (λ x. run AfterKey x.1) refl (λ a. refl))
    (pick _ (next_is mark.Desc ts) _ _ _ _ _ refl
    (next _ (expect_of mark.Desc ts) _ _ (λ x. run AfterKey x.1) refl (λ a. refl))
    refl)

-- ---- parts

item_runs : (ts : List Token) → run ItemStart ts ≡ (item_of ts >>= λ x. run (Done InItem) x.1)
unfolding item_of
item_runs ts = next _ (form_of ts) _ _ (λ x. run (Done InItem) x.1) (form_runs ts) (λ c. refl)

table_runs : (ts : List Token) → run TableStart ts ≡ (table_of ts >>= λ x. run AfterTable x.1)
unfolding table_of
table_runs ts = next _ (name_of ts) _ _ (λ x. run AfterTable x.1) (names TableStart AfterTable (λ k. refl) refl ts) (λ c. refl)

cond_runs : (ts : List Token) → run (Column InLeft) ts ≡ (cond_of ts >>= λ x. run (Done InRight) x.1)
unfolding cond_of
cond_runs ts = next _ (test_of ts) _ _ (λ x. run (Done InRight) x.1) (test_runs ts) (λ c. refl)

group_runs : (ts : List Token) → run (Column InGroup) ts ≡ (group_of ts >>= λ x. run (Done InGroup) x.1)
unfolding group_of
group_runs ts = next _ (column_of ts) _ _ (λ x. run (Done InGroup) x.1) (column_runs InGroup ts) (λ c. refl)

key_runs : (ts : List Token) → run KeyStart ts ≡ (key_of ts >>= λ x. run AfterKey x.1)
unfolding key_of
key_runs ts = next _ (order_of ts) _ _ (λ x. run (Done InKey) x.1) (order_runs ts) (λ o. next _ (direction_of o.1) _ _ (λ x. run AfterKey x.1) (direction_runs o.1) (λ d. refl))

-- what was read leaves this parts_within tokens, or reading failed
with_below : {A : Type 0} (n : ℕ) (r : Parse A) (K K2 : A × List Token → Run) → Below n r → ((x : A × List Token) → length x.1 < n → K x ≡ K2 x) → (r >>= K) ≡ (r >>= K2)
with_below n (Ok x) K K2 h k = k x h
with_below n (Err e) K K2 h k = refl

next_below : {A B : Type 0} (n : ℕ) (K : B → Run) (r : Parse A) (f : A × List Token → Result B Unread) (total : Run) (G : A × List Token → Run) → Below n r
    → total ≡ (r >>= G) → ((a : A × List Token) → length a.1 < n → G a ≡ (f a >>= K)) → total ≡ ((r >>= f) >>= K)
next_below n K (Ok a) f total G b h k = h ∙ k a b
next_below n K (Err e) f total G b h k = h

module _ {X : Type 0} (m : Mark) (part : List Token → Parse X) (start after tail : State)
    (below : (ts : List Token) → Below (length ts) (part ts))
    (part_runs : (ts : List Token) → run start ts ≡ (part ts >>= λ x. run after x.1))
    (forks : (ts : List Token) → run after ts ≡ cond (next_is m ts) (expect_of m ts >>= λ x. run start x.1) (run tail ts)) where
  parts_run : (k : ℕ) (ts : List Token) → length ts < k → run start ts ≡ (parts_within m part k ts >>= λ x. run tail x.1)
  unfolding parts_within
  parts_run zero ts lt = absurd (omega arith)
  parts_run (suc k) ts lt =
      next_below (length ts) _ (part ts) _ _ (λ x. run after x.1) (below ts) (part_runs ts) (λ x lx.
      pick _ (next_is m x.1) _ _ _ _ _ (forks x.1)
      (next_below (length x.1) _ (expect_of m x.1) _ _ (λ y. run start y.1) (expect_below m x.1) refl (λ s ls.
      next _ (parts_within m part k s.1) _ _ (λ y. run tail y.1) (parts_run k s.1 (omega arith)) (λ xs. refl)))
      refl)

-- ---- the whole select

conds_run : (ts : List Token) → run AfterTables ts ≡ (conds_of ts >>= λ x. run AfterConds x.1)
unfolding conds_of
conds_run ts =
    pick _ (next_is mark.Where ts) _ _ _ _ _ (fork mark.Where AfterTables (Column InLeft) AfterConds (λ k. refl) refl ts)
    (next _ (expect_of mark.Where ts) _ _ (λ x. run (Column InLeft) x.1) refl (λ w.
    parts_run mark.And cond_of (Column InLeft) (Done InRight) AfterConds cond_below cond_runs (fork mark.And (Done InRight) (Column InLeft) AfterConds (λ k. refl) refl) (suc (length w.1)) w.1 (omega arith)))
    refl

groups_run : (ts : List Token) → run AfterConds ts ≡ (groups_of ts >>= λ x. run AfterGroups x.1)
unfolding groups_of
groups_run ts =
    pick _ (next_is mark.Group ts) _ _ _ _ _ (fork mark.Group AfterConds GroupBy AfterGroups (λ k. refl) refl ts)
    (next _ (expect_of mark.Group ts) _ _ (λ x. run GroupBy x.1) refl (λ w.
    next _ (expect_of mark.By w.1) _ _ (λ x. run (Column InGroup) x.1) (only mark.By GroupBy (Column InGroup) (λ k. refl) refl w.1) (λ b.
    parts_run mark.Comma group_of (Column InGroup) (Done InGroup) AfterGroups group_below group_runs (fork mark.Comma (Done InGroup) (Column InGroup) AfterGroups (λ k. refl) refl) (suc (length b.1)) b.1 (omega arith))))
    refl

keys_run : (ts : List Token) → run AfterGroups ts ≡ (keys_of ts >>= λ x. run AfterKeys x.1)
unfolding keys_of
keys_run ts =
    pick _ (next_is mark.Order ts) _ _ _ _ _ (fork mark.Order AfterGroups OrderBy AfterKeys (λ k. refl) refl ts)
    (next _ (expect_of mark.Order ts) _ _ (λ x. run OrderBy x.1) refl (λ w.
    next _ (expect_of mark.By w.1) _ _ (λ x. run KeyStart x.1) (only mark.By OrderBy KeyStart (λ k. refl) refl w.1) (λ b.
    parts_run mark.Comma key_of KeyStart AfterKey AfterKeys key_below key_runs (fork mark.Comma AfterKey KeyStart AfterKeys (λ k. refl) refl) (suc (length b.1)) b.1 (omega arith))))
    refl

pub select_runs : (ts : List Token) → run Start ts ≡ (select_of ts >>= λ x. run AfterKeys x.1)
unfolding select_of
select_runs ts =
    next _ (expect_of mark.Select ts) _ _ (λ x. run ItemStart x.1) (only mark.Select Start ItemStart (λ k. refl) refl ts) (λ s.
    next _ (parts_of mark.Comma item_of s.1) _ _ (λ x. run AfterItems x.1)
    (parts_run mark.Comma item_of ItemStart (Done InItem) AfterItems item_below item_runs (fork mark.Comma (Done InItem) ItemStart AfterItems (λ k. refl) refl) (suc (length s.1)) s.1 (omega arith)) (λ i.
    next _ (expect_of mark.From i.1) _ _ (λ x. run TableStart x.1) (only mark.From AfterItems TableStart (λ k. refl) refl i.1) (λ f.
    next _ (parts_of mark.Comma table_of f.1) _ _ (λ x. run AfterTables x.1)
    (parts_run mark.Comma table_of TableStart AfterTable AfterTables table_below table_runs (fork mark.Comma AfterTable TableStart AfterTables (λ k. refl) refl) (suc (length f.1)) f.1 (omega arith)) (λ t.
    next _ (conds_of t.1) _ _ (λ x. run AfterConds x.1) (conds_run t.1) (λ c.
    next _ (groups_of c.1) _ _ (λ x. run AfterGroups x.1) (groups_run c.1) (λ g.
    next _ (keys_of g.1) _ _ (λ x. run AfterKeys x.1) (keys_run g.1) (λ k. refl)))))))

-- whether it ends there
ends_at : (ts : List Token) (s : AstView) → run Final ts ≡ (at_end s ts >>= λ x. Ok tt)
ends_at [] s = refl
ends_at (t ∷ ts) s = refl

pub whole_runs : (ts : List Token) → run Start ts ≡ (whole_select_of ts >>= λ x. Ok tt)
unfolding whole_select_of
whole_runs ts =
    next _ (select_of ts) _ _ (λ x. run AfterKeys x.1) (select_runs ts) (λ s.
    next _ (expect_of mark.End s.1) _ _ (λ x. run Final x.1) (only mark.End AfterKeys Final (λ k. refl) refl s.1) (λ e. ends_at e.1 s.0))
