-- The stores of a run, and what a reply says of them.
use Rattle.std.proofs.Common.{◌≡◌, ◌≢◌, ℕ, zero, suc, ◌+◌, ◌-◌, ◌<◌, ◌≤◌, ◌^◌, ◌∙◌, Bool, true, false, List, [], ◌∷◌, length, map, refl, sym, ap, arith, All, Option, Some, None}
use Rattle.std.specs.Prelude.{IsSome, Ok, Err, is_some, ◌&&◌, slice_index_or, sum_by}
use Rattle.std.specs.List.{list_all}
use Rattle.std.proofs.lemmas.Bool.{false≢true}
use Rattle.std.proofs.lemmas.List.Elements.{All-cons, All-head, All-nil, All-tail}
use Rattle.std.proofs.lemmas.List.Sums.{sum-map, sum_by-cons}
use Rattle.pdq_edge.specs.Causes.{Rose}
use Rattle.pdq_value.specs.declared.cells.Cell.{Cell}
use Rattle.pdq_value.specs.Tables.{TableView}
use Rattle.pdq_query.specs.Answer.{answer}
use Rattle.pdq_query.specs.Queries.{QueryView}
use Rattle.pdq_answer.specs.declared.evaluating.Evaluated.{Evaluated}
use Rattle.pdq_answer.specs.declared.evaluating.Evaluated.TheVariants.{Rows, TooManyRows, StoreFailed, Stopped}
use Rattle.pdq_answer.specs.Evaluations.{IsAnswer, PutAtLeast}
use Rattle.pdq_ask.specs.Alone.{IsNotStopped, blocks_alone}
use Rattle.pdq_exec.specs.Runs.{AnyRose, AreStoresAfter, AreTold, rows_are}
use Rattle.pdqd.specs.Ask.{Answers, shown_answer}
use Rattle.pdqd.specs.Output.{Output}
use Rattle.pdqd.specs.Replying.{evaluated_output}
use Rattle.pdqd.specs.Run.{NoneFell}
use Rattle.pdqd.specs.Stores.{FewFailed, IsReplyTo, StoresView, stores_view}
use Rattle.pdqd.proofs.Statuses.{definition_is_right, none_is_few}

-- stores that are left alone are as they were
pub stores_same : {S : Type 0} (blocks : S → Option (List (List ℕ))) (faults puts : S → ℕ) (stores : List S) → AreStoresAfter blocks faults puts stores stores
stores_same blocks faults puts stores = record { count = refl; each = λ i d within. record { later = omega arith; more = omega arith; told = λ is. is } }

-- no count of these is greater than that at its place in those
abbrev AreLater : {S : Type 0} → (S → ℕ) → List S → List S → Type 0
AreLater {S} count old new = (i : ℕ) (d : S) → i < length old → count (slice_index_or old i d) ≤ count (slice_index_or new i d)

later_tail : {S : Type 0} (count : S → ℕ) (a b : S) (old new : List S) → AreLater count (a ∷ old) (b ∷ new) → AreLater count old new
later_tail count a b old new later i d within = later (suc i) d (omega (arith, within))

pub none_fell : {S : Type 0} (count : S → ℕ) (old new : List S) → length new ≡ length old → AreLater count old new → NoneFell (map count old) (map count new)
none_fell count [] [] same later place = omega arith
none_fell count [] (b ∷ new) same later place = absurd (omega (arith, same))
none_fell count (a ∷ old) [] same later place = absurd (omega (arith, same))
none_fell count (a ∷ old) (b ∷ new) same later zero = later 0 a (omega arith)
none_fell count (a ∷ old) (b ∷ new) same later (suc place) = none_fell count old new (omega (arith, same)) (later_tail count a b old new later) place

sums_rise : {S : Type 0} (count : S → ℕ) (old new : List S) → length new ≡ length old → AreLater count old new → sum_by count old ≤ sum_by count new
sums_rise count [] new same later = omega arith
sums_rise count (a ∷ old) [] same later = absurd (omega (arith, same))
sums_rise count (a ∷ old) (b ∷ new) same later =
    let first : count a ≤ count b = later 0 a (omega arith) in
    let rest : sum_by count old ≤ sum_by count new = sums_rise count old new (omega (arith, same)) (later_tail count a b old new later) in
    omega (arith, first, rest, sum_by-cons count a old, sum_by-cons count b new)

abbrev IsBelowEnd : ℕ → Type 0
IsBelowEnd count = count < 2 ^ 64 - 1

above : (a b : ℕ) → Rose a b → IsBelowEnd b → a + 1 ≤ b
above a b rose below = omega (arith, rose, below)

-- where one count rose and none is at its end, the sum rose
sum_rises : {S : Type 0} (count : S → ℕ) (old new : List S) (i : ℕ) → length new ≡ length old → AreLater count old new → i < length old → ((d : S) → Rose (count (slice_index_or old i d)) (count (slice_index_or new i d))) → All IsBelowEnd (map count new) → sum_by count old + 1 ≤ sum_by count new
sum_rises count [] new i same later within rose below = absurd (omega (arith, within))
sum_rises count (a ∷ old) [] i same later within rose below = absurd (omega (arith, same))
sum_rises count (a ∷ old) (b ∷ new) zero same later within rose below =
    let first : count a + 1 ≤ count b = above (count a) (count b) (rose a) (All-head IsBelowEnd (count b) (map count new) below) in
    let rest : sum_by count old ≤ sum_by count new = sums_rise count old new (omega (arith, same)) (later_tail count a b old new later) in
    omega (arith, first, rest, sum_by-cons count a old, sum_by-cons count b new)
sum_rises count (a ∷ old) (b ∷ new) (suc i) same later within rose below =
    let first : count a ≤ count b = later 0 a (omega arith) in
    let rest : sum_by count old + 1 ≤ sum_by count new = sum_rises count old new i (omega (arith, same)) (later_tail count a b old new later) (omega (arith, within)) rose (All-tail IsBelowEnd (count b) (map count new) below) in
    omega (arith, first, rest, sum_by-cons count a old, sum_by-cons count b new)

-- a query at which a store failed is one of few
one_failed : {S : Type 0} (faults : S → ℕ) (old new : List S) → length new ≡ length old → AreLater faults old new → AnyRose faults old new → FewFailed (map faults old) (map faults new) (true ∷ [])
one_failed faults old new same later rose below =
    let more : sum_by faults old + 1 ≤ sum_by faults new = sum_rises faults old new rose.0 same later rose.1 rose.2 below in
    omega (arith, more, sum-map faults old, sum-map faults new)

both_true : (a b : Bool) → (a && b) ≡ true → (a ≡ true) × (b ≡ true)
both_true true b e = (refl, e)
both_true false b e = absurd (false≢true e)

pub all_told : {S : Type 0} (blocks : S → Option (List (List ℕ))) (stores : List S) → list_all (λ s. is_some (blocks s)) stores ≡ true → AreTold blocks stores
all_told blocks [] told = All-nil (λ s. IsSome (blocks s))
all_told blocks (s ∷ stores) told =
    let t = both_true (is_some (blocks s)) (list_all (λ x. is_some (blocks x)) stores) told in
    All-cons (λ x. IsSome (blocks x)) s stores t.0 (all_told blocks stores t.1)

-- an answer that is given, and that of the definition where it is known to be that
answers_given : Bool → Option (List (List Cell)) → Answers
answers_given true rows = answer
answers_given false rows = λ tables q. rows

given_is : (told : Bool) (rows : Option (List (List Cell))) (tables : List TableView) (q : QueryView) → (told ≡ true → answer tables q ≡ rows) → answers_given told rows tables q ≡ rows
unfolding answers_given
given_is true rows tables q right = right refl
given_is false rows tables q right = refl

given_right : (told : Bool) (rows : Option (List (List Cell))) (tables : List TableView) (q : QueryView) → told ≡ true → answers_given told rows tables q ≡ answer tables q
unfolding answers_given
given_right true rows tables q is = refl
given_right false rows tables q is = absurd (false≢true is)

-- the reply that tells what a query came to
module _ {S : Type 0} (blocks : S → Option (List (List ℕ))) (faults puts : S → ℕ) (old new : List S) (tables : List TableView) (q : QueryView) where
  abbrev told : Bool
  told = list_all (λ s. is_some (blocks s)) old

  abbrev IsReply : Output → Type 0
  IsReply o = IsReplyTo (stores_view blocks faults puts old) (stores_view blocks faults puts new) (Ok (record { tables = tables; query = q })) o

  -- with an answer at which no store failed
  answered : (rows : Option (List (List Cell))) (o : Output) → o ≡ shown_answer false rows → (AreTold blocks old → answer tables q ≡ rows) → (o.status ≡ 0 → AreTold blocks old → sum_by puts old + blocks_alone tables q ≤ sum_by puts new) → IsReply o
  answered rows o is right enough = record {
    fails = false;
    answers = answers_given told rows;
    right = record { each = λ is_told ts p. given_right told rows ts p is_told };
    few = none_is_few (map faults old) (map faults new) (false ∷ []) refl;
    is = is ∙ ap (shown_answer false) (sym (given_is told rows tables q (λ is_told. right (all_told blocks old is_told))));
    puts = λ none is_told. omega (arith, enough none (all_told blocks old is_told), sum-map puts old, sum-map puts new);
  }

  refused_status : (o : Output) (n : ℕ) (text : List ℕ) → o ≡ record { text = text; status = n } → n ≢ 0 → o.status ≡ 0 → ⊥
  refused_status o n text is other none = other (sym (ap (λ (x : Output). x.status) is) ∙ none)

  pub reply_is : (e : Evaluated) (o : Output) → o ≡ evaluated_output e → (AreTold blocks old → IsAnswer (answer tables q) e) → IsNotStopped e → (e ≡ StoreFailed → AnyRose faults old new) → AreStoresAfter blocks faults puts old new
      → (AreTold blocks old → PutAtLeast (sum_by puts old) (sum_by puts new) (blocks_alone tables q) e) → IsReply o
  reply_is (Rows rows) o is right going failed after enough = answered (Some (rows_are rows)) o is right (λ none. enough)
  reply_is TooManyRows o is right going failed after enough = answered None o is right (λ none. absurd (refused_status o 65 _ is (omega arith) none))
  reply_is StoreFailed o is right going failed after enough = record {
    fails = true;
    answers = answer;
    right = definition_is_right (stores_view blocks faults puts old);
    few = one_failed faults old new after.count (λ i d within. (after.each i d within).later) (failed refl);
    is = is;
    puts = λ none. absurd (refused_status o 70 _ is (omega arith) none);
  }
  reply_is (Stopped step) o is right going failed after enough = absurd going

-- the reply that refuses what is asked, which touches no store
pub refusal_is : (stores : StoresView) (line : List ℕ) → IsReplyTo stores stores (Err line) (record { text = line; status = 65 })
refusal_is stores line = record {
  fails = false;
  answers = answer;
  right = definition_is_right stores;
  few = none_is_few stores.faults stores.faults (false ∷ []) refl;
  is = refl;
  puts = λ none. absurd (omega (arith, none));
}
