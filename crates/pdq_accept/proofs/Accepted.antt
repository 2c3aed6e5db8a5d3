-- How the numbers of a spawner and of a door go on.
use Rattle.std.proofs.Common.{ℕ, zero, suc, refl, length-append, ◌-◌, ◌^◌, ◌≡◌, ◌+◌, ◌≤◌, ◌<◌, List, ◌∷◌, [], ◌++◌, length, arith, subst, ap, sym, ◌∙◌}
use Rattle.std.specs.Prelude.{All, min}
use Rattle.std.proofs.Common.{append_assoc}
use Rattle.std.proofs.lemmas.List.{append-nil}
use mathlib.Core.List.{IsPrefix}
use Rattle.pdq_edge.specs.Bytes.{told_count}
use Rattle.pdq_accept.specs.Accepting.{GoesOn, IsAccepting, RoseAtLeast, RoseBy}
use Rattle.pdq_edge.specs.Causes.{Rose}
use Rattle.std.proofs.lemmas.Grind.{common_steps}

-- the first of jobs that all have one mark has it
pub marked_first : (mark m : List ℕ) (all rest : List (List ℕ)) → All (λ x. x ≡ mark) all → all ≡ m ∷ rest → m ≡ mark
marked_first mark m all rest h e =
    let P : List (List ℕ) → Type 0 = λ zs. All (λ (x : List ℕ). x ≡ mark) zs in
    let h' : All (λ (x : List ℕ). x ≡ mark) (m ∷ rest) = subst P e h in
    let small : 0 < length (m ∷ rest) = grind (arith, common_steps) in
    h' 0 [] small

-- and so have the others
pub marked_rest : (mark m : List ℕ) (all rest : List (List ℕ)) → All (λ x. x ≡ mark) all → all ≡ m ∷ rest → All (λ x. x ≡ mark) rest
marked_rest mark m all rest h e =
    let P : List (List ℕ) → Type 0 = λ zs. All (λ (x : List ℕ). x ≡ mark) zs in
    let h' : All (λ (x : List ℕ). x ≡ mark) (m ∷ rest) = subst P e h in
    λ k d below. h' (suc k) d (omega arith)

pub prefix_self : {A : Type 0} (xs : List A) → IsPrefix xs xs
prefix_self xs = ([], append-nil xs)

pub prefix_then : {A : Type 0} (xs ys zs : List A) → IsPrefix xs ys → IsPrefix ys zs → IsPrefix xs zs
prefix_then xs ys zs p q = (p.0 ++ q.0, sym (append_assoc xs p.0 q.0) ∙ ap (λ w. w ++ q.0) p.1 ∙ q.1)

-- one of so many was counted
pub one_counted : (served next l before total most : ℕ) → next ≡ min (served + 1) most → l ≡ before + 1 → min (served + l) most ≡ total → min (next + before) most ≡ total
one_counted served next l before total most a b c = omega (arith, a, b, c)

pub one_gathered : (g0 served next g g' most : ℕ) → next ≡ min (served + 1) most → (g < most → g ≡ g0 + served) → g' ≡ min (g + 1) most → g' < most → g' ≡ g0 + next
one_gathered g0 served next g g' most a b c below = omega (arith, a, b, c, below)

-- one in front
all_cons : (mark x : List ℕ) (xs : List (List ℕ)) → x ≡ mark → All (λ z. z ≡ mark) xs → All (λ z. z ≡ mark) (x ∷ xs)
all_cons mark x xs e h zero d below = e
all_cons mark x xs e h (suc k) d below = h k d (omega arith)

-- the last of a list, and those before it
all_more : (mark : List ℕ) (all : List (List ℕ)) → All (λ x. x ≡ mark) all → All (λ x. x ≡ mark) (all ++ mark ∷ [])
all_more mark [] h = λ k d below. (let z : k ≡ 0 = omega arith in rw z refl)
all_more mark (x ∷ xs) h = all_cons mark x (xs ++ mark ∷ []) (h 0 [] (omega arith)) (all_more mark xs (λ k d below. h (suc k) d (omega arith)))

-- one job more, of the same mark
pub marked_more : (mark : List ℕ) (all more : List (List ℕ)) → All (λ x. x ≡ mark) all → more ≡ all ++ mark ∷ [] → All (λ x. x ≡ mark) more
marked_more mark all more h e =
    let P : List (List ℕ) → Type 0 = λ zs. All (λ (x : List ℕ). x ≡ mark) zs in
    subst P (sym e) (all_more mark all h)

pub one_longer : (mark : List ℕ) (all more : List (List ℕ)) → more ≡ all ++ mark ∷ [] → length more ≡ length all + 1
one_longer mark all more e = ap length e ∙ (length-append all (mark ∷ []) ∙ ap (λ n. length all + n) (omega arith))

pub started_more : (s0 s s' l l' : ℕ) → RoseBy s0 s l → s' ≡ told_count s 1 → l' ≡ l + 1 → RoseBy s0 s' l'
started_more s0 s s' l l' h e f = λ below. (let h' : s < 2 ^ 64 - 1 → s ≡ s0 + l = h in omega (arith, h', e, f, below))

pub given_more : (g0 g g' l l' u v : ℕ) → RoseBy g0 g (l + u + v) → g' ≡ told_count g 1 → l' ≡ l + 1 → RoseBy g0 g' (l' + u + v)
given_more g0 g g' l l' u v h e f = λ below. (let h' : g < 2 ^ 64 - 1 → g ≡ g0 + (l + u + v) = h in omega (arith, h', e, f, below))

pub at_least_more : (f0 f f' u : ℕ) → RoseAtLeast f0 f u → f ≤ f' → RoseAtLeast f0 f' u
at_least_more f0 f f' u h later = λ below. (let h' : f < 2 ^ 64 - 1 → f0 + u ≤ f = h in omega (arith, h', later, below))

-- a session was started for the caller
pub goes_on_started : (mark : List ℕ) (ms ms' : List (List ℕ)) (s g f k u v s' g' f' k' : ℕ) → ms' ≡ ms ++ mark ∷ [] → s' ≡ told_count s 1 → g' ≡ g → f ≤ f' → k' ≡ told_count k 1 → GoesOn mark ms s g f k u v ms' s' g' f' k' u v
goes_on_started mark ms ms' s g f k u v s' g' f' k' a b c d e first h =
    let long : length ms' ≡ length ms + 1 = one_longer mark ms ms' a in
    record {
      marked = marked_more mark ms ms' h.marked a;
      started = started_more first.started s s' (length ms) (length ms') h.started b long;
      gathered = c ∙ h.gathered;
      given = given_more first.given k k' (length ms) (length ms') u v h.given e long;
      later = (let l : first.faults ≤ f = h.later in omega arith);
      unstarted = at_least_more first.faults f f' u h.unstarted d;
    }

all_same : (mark : List ℕ) (ms ms' : List (List ℕ)) → ms' ≡ ms → All (λ x. x ≡ mark) ms → All (λ x. x ≡ mark) ms'
all_same mark ms ms' e h =
    let P : List (List ℕ) → Type 0 = λ zs. All (λ (x : List ℕ). x ≡ mark) zs in
    subst P (sym e) h

started_same : (s0 s s' l l' : ℕ) → RoseBy s0 s l → s' ≡ s → l' ≡ l → RoseBy s0 s' l'
started_same s0 s s' l l' h e f = λ below. (let h' : s < 2 ^ 64 - 1 → s ≡ s0 + l = h in omega (arith, h', e, f, below))

-- a session was not started for it
pub goes_on_unstarted : (mark : List ℕ) (ms ms' : List (List ℕ)) (s g f k u v s' g' f' k' u' : ℕ) → ms' ≡ ms → s' ≡ s → g' ≡ g → Rose f f' → f ≤ f' → k' ≡ told_count k 1 → u' ≡ told_count u 1 → GoesOn mark ms s g f k u v ms' s' g' f' k' u' v
goes_on_unstarted mark ms ms' s g f k u v s' g' f' k' u' a b c d later e n first h = record {
  marked = all_same mark ms ms' a h.marked;
  started = started_same first.started s s' (length ms) (length ms') h.started b (ap length a);
  gathered = c ∙ h.gathered;
  given = λ below. (let h' : k < 2 ^ 64 - 1 → k ≡ first.given + (length ms + u + v) = h.given in let l : length ms' ≡ length ms = ap length a in omega (arith, h', l, e, n, below));
  later = (let l : first.faults ≤ f = h.later in omega arith);
  unstarted = λ below. (let h' : f < 2 ^ 64 - 1 → first.faults + u ≤ f = h.unstarted in omega (arith, h', d, n, below));
}

-- memory was wanting for it
pub goes_on_unanswered : (mark : List ℕ) (ms ms' : List (List ℕ)) (s g f k u v s' g' f' k' v' : ℕ) → ms' ≡ ms → s' ≡ s → g' ≡ g → f ≤ f' → k' ≡ told_count k 1 → v' ≡ told_count v 1 → GoesOn mark ms s g f k u v ms' s' g' f' k' u v'
goes_on_unanswered mark ms ms' s g f k u v s' g' f' k' v' a b c later e n first h = record {
  marked = all_same mark ms ms' a h.marked;
  started = started_same first.started s s' (length ms) (length ms') h.started b (ap length a);
  gathered = c ∙ h.gathered;
  given = λ below. (let h' : k < 2 ^ 64 - 1 → k ≡ first.given + (length ms + u + v) = h.given in let l : length ms' ≡ length ms = ap length a in omega (arith, h', l, e, n, below));
  later = (let l : first.faults ≤ f = h.later in omega arith);
  unstarted = at_least_more first.faults f f' u h.unstarted later;
}

-- no caller came
pub goes_on_quiet : (mark : List ℕ) (ms : List (List ℕ)) (s g f k u v k' : ℕ) → k' ≡ told_count k 0 → GoesOn mark ms s g f k u v ms s g f k' u v
goes_on_quiet mark ms s g f k u v k' e first h = record {
  marked = h.marked;
  started = h.started;
  gathered = h.gathered;
  given = λ below. (let h' : k < 2 ^ 64 - 1 → k ≡ first.given + (length ms + u + v) = h.given in omega (arith, h', e, below));
  later = h.later;
  unstarted = h.unstarted;
}

pub goes_on_same : (mark : List ℕ) (ms : List (List ℕ)) (s g f k u v k' : ℕ) → k' ≡ k → GoesOn mark ms s g f k u v ms s g f k' u v
goes_on_same mark ms s g f k u v k' e first h = record {
  marked = h.marked;
  started = h.started;
  gathered = h.gathered;
  given = λ below. (let h' : k < 2 ^ 64 - 1 → k ≡ first.given + (length ms + u + v) = h.given in omega (arith, h', e, below));
  later = h.later;
  unstarted = h.unstarted;
}

-- before the first caller
pub accepting_first : (mark : List ℕ) (ms : List (List ℕ)) (s g f k : ℕ) → ms ≡ [] → IsAccepting mark (record { started = s; gathered = g; faults = f; given = k }) ms s g f k 0 0
accepting_first mark ms s g f k e = record {
  marked = all_same mark [] ms e (λ i d below. absurd (omega arith));
  started = λ below. (let l : length ms ≡ 0 = ap length e in omega (arith, l));
  gathered = refl;
  given = λ below. (let l : length ms ≡ 0 = ap length e in omega (arith, l));
  later = omega arith;
  unstarted = λ below. omega arith;
}

-- all that were started were gathered
pub all_served : (s0 s s' l served n : ℕ) → RoseBy s0 s l → s' ≡ s → served ≡ told_count 0 l → n ≡ served → RoseBy s0 s' n
all_served s0 s s' l served n h e a b = λ below. (let h' : s < 2 ^ 64 - 1 → s ≡ s0 + l = h in omega (arith, h', e, a, b, below))

pub all_given : (k0 k l u v served n u' v' : ℕ) → RoseBy k0 k (l + u + v) → served ≡ told_count 0 l → n ≡ served → u' ≡ u → v' ≡ v → RoseBy k0 k (n + u' + v')
all_given k0 k l u v served n u' v' h a b c d = λ below. (let h' : k < 2 ^ 64 - 1 → k ≡ k0 + (l + u + v) = h in omega (arith, h', a, b, c, d, below))

pub all_gathered : (g0 g g' served n : ℕ) → g ≡ g0 → RoseBy g g' served → n ≡ served → RoseBy g0 g' n
all_gathered g0 g g' served n e h b = λ below. (let h' : g' < 2 ^ 64 - 1 → g' ≡ g + served = h in omega (arith, h', e, b, below))

pub all_unstarted : (f0 f f' u u' : ℕ) → RoseAtLeast f0 f u → f' ≡ f → u' ≡ u → RoseAtLeast f0 f' u'
all_unstarted f0 f f' u u' h e a = λ below. (let h' : f < 2 ^ 64 - 1 → f0 + u ≤ f = h in omega (arith, h', e, a, below))

-- before the first caller, where none was counted
pub accepting_from : (mark : List ℕ) (ms : List (List ℕ)) (s g f k u v : ℕ) → ms ≡ [] → u ≡ 0 → v ≡ 0 → IsAccepting mark (record { started = s; gathered = g; faults = f; given = k }) ms s g f k u v
accepting_from mark ms s g f k u v e a b = record {
  marked = all_same mark [] ms e (λ i d below. absurd (omega arith));
  started = λ below. (let l : length ms ≡ 0 = ap length e in omega (arith, l));
  gathered = refl;
  given = λ below. (let l : length ms ≡ 0 = ap length e in omega (arith, l, a, b));
  later = omega arith;
  unstarted = λ below. omega (arith, a);
}
