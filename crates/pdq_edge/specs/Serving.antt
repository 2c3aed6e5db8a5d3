-- How serving callers ends.
use Rattle.std.specs.Prelude.{ℕ, ◌+◌, Bool, true, false, is_some}
use Rattle.pdq_edge.specs.declared.serve_ends.ServeEnd.{ServeEnd}

abbrev pub one_if : Bool → ℕ
one_if true = 1
one_if false = 0

-- how many of the three causes are told
abbrev pub causes_told : {R : Type 0} → ServeEnd R → ℕ
causes_told e = one_if e.door_failed + one_if e.closed + one_if (is_some e.shut)

-- the callers that came: those served, those whose session was not started, and those that memory was wanting for
abbrev pub callers_counted : {R : Type 0} → ServeEnd R → ℕ
callers_counted e = e.served + e.unstarted + e.unanswered
