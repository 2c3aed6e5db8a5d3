-- The replies that sessions alone print, or that they print without a state of a script. Each line ends with byte 10.
use Rattle.std.specs.Prelude.{ℕ, List, [], ◌∷◌, ◌++◌, codes, decimal}
use Rattle.pdq_model.specs.declared.events.Why.{Why}
use Rattle.pdq_reply.specs.Replies.{refusal_text}
use Rattle.pdq_reply.specs.declared.replies.Refusal.TheVariants.{Manager, NotNow}

-- a query was collected that is active
abbrev pub granted_text : ℕ → ℕ → ℕ → ℕ → List ℕ
granted_text id step quanta scans = codes "GRANTED " ++ decimal id ++ codes " STEP " ++ decimal step ++ codes " QUANTA " ++ decimal quanta ++ codes " SCANS " ++ decimal scans ++ 10 ∷ []

-- the manager refused at a step
abbrev pub refused_text : Why → ℕ → List ℕ
refused_text reason step = refusal_text (Manager reason) step

-- a session is open already
abbrev pub not_now_text : ℕ → List ℕ
not_now_text step = refusal_text NotNow step

abbrev pub no_memory : List ℕ
no_memory = codes "ERROR 17 want of memory" ++ 10 ∷ []

abbrev pub line_too_long : List ℕ
line_too_long = codes "ERROR 19 line too long" ++ 10 ∷ []

abbrev pub no_session : List ℕ
no_session = codes "ERROR 21 no such session" ++ 10 ∷ []

abbrev pub out_of_range : List ℕ
out_of_range = codes "ERROR 24 out of range" ++ 10 ∷ []
