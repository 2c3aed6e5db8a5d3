-- Quanta, frames and scan threads are conserved.
use Rattle.std.proofs.Common.{◌≡◌, ◌∙◌, ℕ, ◌+◌, ◌*◌, ◌≤◌, List, [], ◌∷◌, ◌++◌, Option, None, Some, Bool, true, false, map, refl, sym, ap, subst, arith}
use Rattle.std.specs.Prelude.{sum_by, unwrap_or, if◌then◌else◌}
use Rattle.std.proofs.lemmas.List.Sums.{sum_by-cons, sum_by_push}
use Rattle.pdq_model.specs.declared.rows.Active.{Active}
use Rattle.pdq_model.specs.declared.events.Entry.{Entry}
use Rattle.pdq_model.specs.Configuration.{Configuration, frames_per_quantum}
use Rattle.pdq_frame.specs.Regions.{RegionView}
use Rattle.pdq_frame.specs.Pools.{PoolView, given_back}
use Rattle.pdq_gate.specs.declared.board.Board.{Board}
use Rattle.pdq_gate.specs.Board.{view_of, frames_in, frames_due, frames_standing}
use Rattle.pdq_gate.specs.Invariant.{IsSoundBoard}
use Rattle.pdq_gate.specs.Conservation.{quanta_lent_to, quanta_standing, Conserves}

-- the frames of one query stand in the manager or are lent
one_row : (f : ℕ) (r : Option RegionView) (a : Active) → frames_in r ≡ frames_due f a → unwrap_or (frames_in r) 0 + quanta_lent_to a * f ≡ a.quanta * f
one_row f r a due = rw due (go a.collected)
  where
    go : (c : Bool) → unwrap_or (if c then None else Some (a.quanta * f)) 0 + (if c then a.quanta else 0) * f ≡ a.quanta * f
    go true = omega arith
    go false = omega arith

pub all_rows : (f : ℕ) (regions : List (Option RegionView)) (active : List Active) → map frames_in regions ≡ map (frames_due f) active → frames_standing regions + sum_by quanta_lent_to active * f ≡ sum_by (λ (a : Active). a.quanta) active * f
all_rows f [] [] step = omega arith
all_rows f [] (a ∷ rows) step = cc
all_rows f (r ∷ rs) [] step = cc
all_rows f (r ∷ rs) (a ∷ rows) step =
    let tail : map frames_in rs ≡ map (frames_due f) rows = cc in
    let head : frames_in r ≡ frames_due f a = cc in
    rw (sum_by-cons (λ (o : Option RegionView). unwrap_or (frames_in o) 0) r rs, sum_by-cons quanta_lent_to a rows, sum_by-cons (λ (x : Active). x.quanta) a rows)
    (omega (arith, one_row f r a head, all_rows f rs rows tail))

-- all frames, from all quanta
all_frames : (f home standing lent reserved total : ℕ) → reserved + home ≡ total → standing + lent * f ≡ reserved * f → home * f + standing + lent * f ≡ total * f
all_frames f home standing lent reserved total quanta rows =
    let whole : (reserved + home) * f ≡ total * f = ap (λ (x : ℕ). x * f) quanta in omega (arith, whole, rows)

pub conserves : (opening : Configuration) (b : Board) (history : List Entry) → IsSoundBoard b → Conserves (view_of opening b history)
conserves opening b history sound =
    let P : ℕ → Type 0 = λ f. map frames_in b.regions.items ≡ map (frames_due f) b.active in
    let step = subst P sound.per_quantum sound.regions in record {
      quanta = sound.quanta;
      frames = all_frames (frames_per_quantum b.config) b.pool.home (frames_standing b.regions.items) (sum_by quanta_lent_to b.active) (sum_by (λ (a : Active). a.quanta) b.active) b.config.max_queries sound.quanta (all_rows (frames_per_quantum b.config) b.regions.items b.active step);
      scans = sound.model.scans;
      active = sound.model.few_active;
      overtaken = λ k d within. (sound.model.waiting k d within).overtaken;
    }

-- the last region is the one of the last query
pub last_rows : (f : ℕ) (regions : List (Option RegionView)) (active : List Active) (r : Option RegionView) (a : Active) → map frames_in (regions ++ r ∷ []) ≡ map (frames_due f) (active ++ a ∷ []) → (map frames_in regions ≡ map (frames_due f) active) × (frames_in r ≡ frames_due f a)
last_rows f [] [] r a step = (refl, cc)
last_rows f [] (b ∷ []) r a step = cc
last_rows f [] (b ∷ c ∷ rows) r a step = cc
last_rows f (q ∷ []) [] r a step = cc
last_rows f (q ∷ p ∷ regions) [] r a step = cc
last_rows f (q ∷ regions) (b ∷ active) r a step =
    let rest = last_rows f regions active r a (cc) in
    let head : frames_in q ≡ frames_due f b = cc in
    (cons_same head rest.0, rest.1)
  where
    cons_same : {X : Type 0} {x y : X} {xs ys : List X} → x ≡ y → xs ≡ ys → x ∷ xs ≡ y ∷ ys
    cons_same e g = cc

-- regions come home one after another
pub record AreComingHome (start now : PoolView) (active_then active : List Active) (regions : List (Option RegionView)) : Type 0 where
  pub made : now.made ≡ start.made
  pub per_quantum : now.frames_per_quantum ≡ start.frames_per_quantum
  pub due : map frames_in regions ≡ map (frames_due now.frames_per_quantum) active
  pub most : now.home + sum_by (λ (a : Active). a.quanta) active ≤ now.made
  pub home : now.home + sum_by (λ (a : Active). a.quanta) active + sum_by quanta_lent_to active_then ≡ start.home + sum_by (λ (a : Active). a.quanta) active_then + sum_by quanta_lent_to active

standing_or_lent : (a : Active) → quanta_standing a + quanta_lent_to a ≡ a.quanta
standing_or_lent a = go a.collected
  where
    go : (c : Bool) → (if c then 0 else a.quanta) + (if c then a.quanta else 0) ≡ a.quanta
    go true = omega arith
    go false = omega arith

pub home_more : (start now new : PoolView) (active_then active rest : List Active) (regions left : List (Option RegionView)) (r : Option RegionView) (a : Active) → AreComingHome start now active_then active regions → active ≡ rest ++ a ∷ [] → regions ≡ left ++ r ∷ [] → new ≡ given_back now (quanta_standing a) → AreComingHome start new active_then rest left
home_more start now new active_then active rest regions left r a going shorter less came =
    let due : map frames_in (left ++ r ∷ []) ≡ map (frames_due now.frames_per_quantum) (rest ++ a ∷ []) = sym (ap (map frames_in) less) ∙ going.due ∙ ap (map (frames_due now.frames_per_quantum)) shorter in
    let rows : sum_by (λ (x : Active). x.quanta) active ≡ sum_by (λ (x : Active). x.quanta) rest + a.quanta = ap (sum_by (λ (x : Active). x.quanta)) shorter ∙ sum_by_push (λ (x : Active). x.quanta) rest a in
    let lent : sum_by quanta_lent_to active ≡ sum_by quanta_lent_to rest + quanta_lent_to a = ap (sum_by quanta_lent_to) shorter ∙ sum_by_push quanta_lent_to rest a in
    rw came (record {
      made = going.made;
      per_quantum = going.per_quantum;
      due = (last_rows now.frames_per_quantum left rest r a due).0;
      most = omega (arith, going.most, rows, lent, standing_or_lent a);
      home = omega (arith, going.home, rows, lent, standing_or_lent a);
    })

pub last_due : (start now : PoolView) (active_then active rest : List Active) (regions left : List (Option RegionView)) (r : Option RegionView) (a : Active) → AreComingHome start now active_then active regions → active ≡ rest ++ a ∷ [] → regions ≡ left ++ r ∷ [] → frames_in r ≡ frames_due now.frames_per_quantum a
last_due start now active_then active rest regions left r a going shorter less =
    (last_rows now.frames_per_quantum left rest r a (sym (ap (map frames_in) less) ∙ going.due ∙ ap (map (frames_due now.frames_per_quantum)) shorter)).1

pub last_fits : (start now : PoolView) (active_then active rest : List Active) (regions : List (Option RegionView)) (a : Active) → AreComingHome start now active_then active regions → active ≡ rest ++ a ∷ [] → now.home + a.quanta ≤ now.made
last_fits start now active_then active rest regions a going shorter =
    omega (arith, going.most, ap (sum_by (λ (x : Active). x.quanta)) shorter ∙ sum_by_push (λ (x : Active). x.quanta) rest a)

pub starts_home : (pool : PoolView) (active : List Active) (regions : List (Option RegionView)) → map frames_in regions ≡ map (frames_due pool.frames_per_quantum) active → pool.home + sum_by (λ (a : Active). a.quanta) active ≤ pool.made → AreComingHome pool pool active active regions
starts_home pool active regions due most = record { made = refl; per_quantum = refl; due = due; most = most; home = refl }
