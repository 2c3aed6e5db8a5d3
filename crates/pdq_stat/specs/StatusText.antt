-- The text of `ONSTAT -g mgm`, line by line. The layout is our own, the names are those of the Informix guides.
use Rattle.std.specs.Prelude.{ℕ, ◌*◌, ◌-◌, ◌==◌, List, [], ◌∷◌, ◌++◌, Option, None, Some, codes, count_by, decimal, flat_map, if◌then◌else◌, length, map, replicate, sum_by}
use Rattle.pdq_model.specs.declared.rows.ActiveRow.{ActiveRow}
use Rattle.pdq_model.specs.declared.rows.WaitingRow.{WaitingRow}
use Rattle.pdq_model.specs.declared.rows.Pending.{Pending}
use Rattle.pdq_model.specs.Configuration.{Configuration, quantum_kb, unused_kb}
use Rattle.pdq_model.specs.StatusView.{StatusView}

-- a line ends with byte 10
abbrev pub line : List ℕ → List ℕ
line text = text ++ 10 ∷ []

-- right in 12 places; what is longer stands whole
unfoldable pub cell : List ℕ → List ℕ
cell text = replicate (12 - length text) 32 ++ text

-- left in 12 places
abbrev pub label : List ℕ → List ℕ
label text = text ++ replicate (12 - length text) 32

-- a line of words or of numbers in cells, behind a label or nothing
unfoldable pub word_row : List ℕ → List (List ℕ) → List ℕ
word_row before words = line (before ++ flat_map cell words)

unfoldable pub number_row : List ℕ → List ℕ → List ℕ
number_row before numbers = line (before ++ flat_map (λ n. cell (decimal n)) numbers)

-- a number behind its name; the same as a line; memory in KB
unfoldable pub named : List ℕ → ℕ → List ℕ
named name n = name ++ decimal n

unfoldable pub number_line : List ℕ → ℕ → List ℕ
number_line name n = line (named name n)

unfoldable pub memory_line : List ℕ → ℕ → List ℕ
memory_line name kb = line (named name kb ++ codes " KB")

-- the step and the title
unfoldable pub head_text : ℕ → List ℕ
head_text step = number_line (codes "STEP ") step ++ line (codes "Memory Grant Manager (MGM)")

unfoldable pub settings_text : Configuration → List ℕ
settings_text c =
    number_line (codes "MAX_PDQPRIORITY: ") c.max_priority
    ++ number_line (codes "DS_MAX_QUERIES: ") c.max_queries
    ++ number_line (codes "DS_MAX_SCANS: ") c.max_scans
    ++ memory_line (codes "DS_TOTAL_MEMORY: ") c.total_kb
    ++ memory_line (codes "DS_NONPDQ_QUERY_MEM: ") c.nonpdq_kb
    ++ memory_line (codes "Unused: ") (unused_kb c)

-- what a change that waits asks for, in the order of its parts
unfoldable pub change_text : ℕ → ℕ → ℕ → List ℕ
change_text total_kb max_queries max_scans =
    line (named (codes "Pending: DS_TOTAL_MEMORY ") total_kb
    ++ named (codes " DS_MAX_QUERIES ") max_queries
    ++ named (codes " DS_MAX_SCANS ") max_scans)

abbrev pub pending_text : Option Pending → List ℕ
pending_text None = line (codes "Pending: none")
pending_text (Some change) = change_text change.total_kb change.max_queries change.max_scans

-- what is not reserved for active queries
unfoldable pub free_quanta : StatusView → ℕ
free_quanta v = v.config.max_queries - sum_by (λ a. a.quanta) v.active

unfoldable pub free_scans : StatusView → ℕ
free_scans v = v.config.max_scans - sum_by (λ a. a.scans) v.active

unfoldable pub queries_text : StatusView → List ℕ
queries_text v =
    word_row (label (codes "Queries:")) (codes "Active" ∷ codes "Ready" ∷ codes "Maximum" ∷ [])
    ++ number_row (label []) (length v.active ∷ length v.waiting ∷ v.config.max_queries ∷ [])

-- quanta, in KB
unfoldable pub memory_text : StatusView → List ℕ
memory_text v =
    word_row (label (codes "Memory:")) (codes "Total" ∷ codes "Free" ∷ codes "Quantum" ∷ [])
    ++ number_row (label []) (v.config.max_queries * quantum_kb v.config ∷ free_quanta v * quantum_kb v.config ∷ quantum_kb v.config ∷ [])

unfoldable pub scans_text : StatusView → List ℕ
scans_text v =
    word_row (label (codes "Scans:")) (codes "Total" ∷ codes "Free" ∷ codes "Quantum" ∷ [])
    ++ number_row (label []) (v.config.max_scans ∷ free_scans v ∷ 1 ∷ [])

-- how many queries wait at this gate
abbrev pub queued_at : List WaitingRow → ℕ → ℕ
queued_at waiting gate = count_by (λ w. w.gate == gate) waiting

-- the five gates, and how many queries wait at each
unfoldable pub gates_text : List WaitingRow → List ℕ
gates_text waiting =
    word_row (label (codes "Load:")) (codes "1 Memory" ∷ codes "2 Scans" ∷ codes "3 Priority" ∷ codes "4 Queries" ∷ codes "5 Reinit" ∷ [])
    ++ number_row (label (codes "Queued:")) (map (queued_at waiting) (1 ∷ 2 ∷ 3 ∷ 4 ∷ 5 ∷ []))

-- how many rows there are, and where there are any, a line of words and a line for each row
abbrev pub table : {R : Type 0} → List ℕ → List (List ℕ) → (R → List ℕ) → List R → List ℕ
table name heads row rows =
    number_line name (length rows)
    ++ (if length rows == 0 then [] else word_row [] heads ++ flat_map row rows)

-- an active query, where a quantum has so many KB
unfoldable pub active_row : ℕ → ActiveRow → List ℕ
active_row quantum a = number_row [] (a.session ∷ a.id ∷ a.priority ∷ a.quanta * quantum ∷ a.scans ∷ [])

unfoldable pub active_text : Configuration → List ActiveRow → List ℕ
active_text c rows =
    table (codes "Active queries: ")
    (codes "Session" ∷ codes "Query" ∷ codes "Priority" ∷ codes "Memory" ∷ codes "Scans" ∷ [])
    (active_row (quantum_kb c)) rows

-- a waiting query
unfoldable pub ready_row : WaitingRow → List ℕ
ready_row w = number_row [] (w.session ∷ w.id ∷ w.priority ∷ w.overtaken ∷ w.gate ∷ [])

unfoldable pub ready_text : List WaitingRow → List ℕ
ready_text rows =
    table (codes "Ready queries: ")
    (codes "Session" ∷ codes "Query" ∷ codes "Priority" ∷ codes "Overtaken" ∷ codes "Gate" ∷ [])
    ready_row rows

unfoldable pub status_text : StatusView → List ℕ
status_text v =
    head_text v.step
    ++ settings_text v.config
    ++ pending_text v.pending
    ++ queries_text v
    ++ memory_text v
    ++ scans_text v
    ++ gates_text v.waiting
    ++ active_text v.config v.active
    ++ ready_text v.waiting
