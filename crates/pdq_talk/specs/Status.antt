-- What ONSTAT shows.
use Rattle.std.specs.Prelude.{ℕ, List}
use Rattle.pdq_model.specs.State.{State}
use Rattle.pdq_model.specs.StatusView.{status_of}
use Rattle.pdq_stat.specs.StatusText.{status_text}

-- the text that shows a state
abbrev pub onstat : State → List ℕ
onstat s = status_text (status_of s)
