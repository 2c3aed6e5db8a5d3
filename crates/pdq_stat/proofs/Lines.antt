-- The blanks of a cell, and the lines of words in cells.
use Rattle.std.proofs.Common.{◌≡◌, ℕ, ◌-◌, [], ◌∷◌, min, take, drop, refl, arith}
use Rattle.std.specs.Prelude.{codes, replicate}
use Rattle.std.proofs.lemmas.List.{drop-replicate, take-replicate}
use Rattle.pdq_stat.specs.StatusText.{cell, label, line, word_row}

-- what is left of 12 blanks beside so many bytes
pub blanks_left : (size from : ℕ) → from ≡ min size 12 → take {A = ℕ} (12 - from) (drop from (replicate 12 32)) ≡ replicate (12 - size) 32
blanks_left size from e =
    let same : 12 - from ≡ 12 - size = omega arith in
    rw (drop-replicate {X = ℕ} from 12 32, take-replicate {X = ℕ} (12 - from) (12 - from) 32 (omega arith), same)

pub queries_head : word_row (label (codes "Queries:")) (codes "Active" ∷ codes "Ready" ∷ codes "Maximum" ∷ []) ≡ line (codes "Queries:          Active       Ready     Maximum")
unfolding word_row cell
queries_head = refl

pub memory_head : word_row (label (codes "Memory:")) (codes "Total" ∷ codes "Free" ∷ codes "Quantum" ∷ []) ≡ line (codes "Memory:            Total        Free     Quantum")
unfolding word_row cell
memory_head = refl

pub scans_head : word_row (label (codes "Scans:")) (codes "Total" ∷ codes "Free" ∷ codes "Quantum" ∷ []) ≡ line (codes "Scans:             Total        Free     Quantum")
unfolding word_row cell
scans_head = refl

pub gates_head : word_row (label (codes "Load:")) (codes "1 Memory" ∷ codes "2 Scans" ∷ codes "3 Priority" ∷ codes "4 Queries" ∷ codes "5 Reinit" ∷ []) ≡ line (codes "Load:           1 Memory     2 Scans  3 Priority   4 Queries    5 Reinit")
unfolding word_row cell
gates_head = refl

pub active_head : word_row [] (codes "Session" ∷ codes "Query" ∷ codes "Priority" ∷ codes "Memory" ∷ codes "Scans" ∷ []) ≡ line (codes "     Session       Query    Priority      Memory       Scans")
unfolding word_row cell
active_head = refl

pub ready_head : word_row [] (codes "Session" ∷ codes "Query" ∷ codes "Priority" ∷ codes "Overtaken" ∷ codes "Gate" ∷ []) ≡ line (codes "     Session       Query    Priority   Overtaken        Gate")
unfolding word_row cell
ready_head = refl
