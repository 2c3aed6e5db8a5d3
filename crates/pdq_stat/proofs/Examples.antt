-- A status text, computed from the definition.
use Rattle.std.specs.Prelude.{◌≡◌, [], ◌∷◌, None, Some, codes, decimal, flat_map, refl}
use Rattle.std.specs.Fmt.{digits}
use Rattle.pdq_model.specs.Configuration.{configuration}
use Rattle.pdq_model.specs.StatusView.{StatusView}
use Rattle.pdq_stat.specs.StatusText.{line, active_row, ready_row, word_row, number_row, cell, named, number_line, memory_line, head_text, settings_text, change_text, pending_text, free_quanta, free_scans, queries_text, memory_text, scans_text, gates_text, active_text, ready_text, status_text}

-- 4,000 KB for 10 queries and 10 scan threads; two queries are active and three wait
abbrev two_active_and_three_waiting : StatusView
two_active_and_three_waiting = record {
  step = 6;
  config = configuration 100 4000 10 10 128;
  pending = None;
  active =
      record { session = 1; id = 1; priority = 50; quanta = 5; scans = 4 }
      ∷ record { session = 1; id = 2; priority = 30; quanta = 3; scans = 2 } ∷ [];
  waiting =
      record { session = 1; id = 3; priority = 40; overtaken = 0; gate = 1 }
      ∷ record { session = 1; id = 4; priority = 20; overtaken = 0; gate = 3 }
      ∷ record { session = 1; id = 5; priority = 10; overtaken = 0; gate = 3 } ∷ [];
}

pub two_active_and_three_waiting-shown : status_text two_active_and_three_waiting ≡ flat_map line (
    codes "STEP 6"
    ∷ codes "Memory Grant Manager (MGM)"
    ∷ codes "MAX_PDQPRIORITY: 100"
    ∷ codes "DS_MAX_QUERIES: 10"
    ∷ codes "DS_MAX_SCANS: 10"
    ∷ codes "DS_TOTAL_MEMORY: 4000 KB"
    ∷ codes "DS_NONPDQ_QUERY_MEM: 128 KB"
    ∷ codes "Unused: 0 KB"
    ∷ codes "Pending: none"
    ∷ codes "Queries:          Active       Ready     Maximum"
    ∷ codes "                       2           3          10"
    ∷ codes "Memory:            Total        Free     Quantum"
    ∷ codes "                    4000         800         400"
    ∷ codes "Scans:             Total        Free     Quantum"
    ∷ codes "                      10           4           1"
    ∷ codes "Load:           1 Memory     2 Scans  3 Priority   4 Queries    5 Reinit"
    ∷ codes "Queued:                1           0           2           0           0"
    ∷ codes "Active queries: 2"
    ∷ codes "     Session       Query    Priority      Memory       Scans"
    ∷ codes "           1           1          50        2000           4"
    ∷ codes "           1           2          30        1200           2"
    ∷ codes "Ready queries: 3"
    ∷ codes "     Session       Query    Priority   Overtaken        Gate"
    ∷ codes "           1           3          40           0           1"
    ∷ codes "           1           4          20           0           3"
    ∷ codes "           1           5          10           0           3"
    ∷ [])
unfolding digits active_row ready_row word_row number_row cell named number_line memory_line head_text settings_text change_text free_quanta free_scans queries_text memory_text scans_text gates_text active_text ready_text status_text
two_active_and_three_waiting-shown = refl

-- thirteen digits stand whole
pub long_number-shown : cell (decimal 1234567890123) ≡ codes "1234567890123"
unfolding digits cell
long_number-shown = refl

pub change-shown : pending_text (Some (record { total_kb = 65536; max_queries = 16; max_scans = 4 })) ≡ line (codes "Pending: DS_TOTAL_MEMORY 65536 DS_MAX_QUERIES 16 DS_MAX_SCANS 4")
unfolding digits named change_text
change-shown = refl
