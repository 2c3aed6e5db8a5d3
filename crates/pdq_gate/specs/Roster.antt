-- How the active queries are kept.
use Rattle.std.specs.Prelude.{◌≡◌, ◌≤◌, sum_by, vec_capacity}
use Rattle.pdq_gate.specs.declared.roster.Roster.TheInside.{Inside}

-- the sums of quanta and of scan threads are those of the rows, and there is room for the most queries that are active
pub record IsTallied (r : Inside) : Type 0 where
  pub quanta : r.quanta ≡ sum_by (λ a. a.quanta) r.rows.items
  pub scans : r.scans ≡ sum_by (λ a. a.scans) r.rows.items
  pub room : 256 ≤ vec_capacity r.rows
