-- What a status shows of a configuration and of a change that waits.
use Rattle.std.proofs.Common.{◌≡◌, ℕ, ◌*◌, ◌/◌, ◌≤◌, ap, arith}
use Rattle.std.specs.Prelude.{Option, None, Some, option_map}
use Rattle.std.proofs.Math.Nat.{mul-div-le}
use Rattle.pdq_model.specs.declared.rows.Pending.{Pending}
use Rattle.pdq_gate.specs.Showing.{change_shown}
use Rattle.pdq_stat.specs.StatusText.{change_text, pending_text}

-- all quanta are within the memory
pub quanta_within : (queries total : ℕ) → queries * (4 * (total / (4 * queries))) ≤ total
quanta_within queries total = omega (arith, mul-div-le total (4 * queries))

-- the text of a change is that of its three numbers
pub pending_text_some : (pending : Option Pending) (total queries scans : ℕ) → option_map change_shown pending ≡ Some (total, queries, scans) → pending_text pending ≡ change_text total queries scans
pending_text_some None total queries scans e = absurd cc
pending_text_some (Some change) total queries scans e =
    let same : change_shown change ≡ (total, queries, scans) = cc in
    ap (λ (p : ℕ × ℕ × ℕ). change_text p.0 p.1 p.2) same
