-- What a pass knows of the manager, from what it has seen and from its own entries.
use Rattle.std.specs.Prelude.{ℕ, ◌≡◌, ◌≢◌, ⊤, List, Option, None, Some, IsTrue, true, false}
use mathlib.Core.List.{IsPrefix}
use Rattle.pdq_model.specs.declared.events.Entry.{Entry}
use Rattle.pdq_model.specs.Configuration.{Configuration}
use Rattle.pdq_model.specs.State.{State}
use Rattle.pdq_model.specs.Step.{is_open}
use Rattle.pdq_model.specs.History.{IsLegal, replay}
use Rattle.pdq_model.specs.Laws.{queries_of}
use Rattle.pdq_turn.specs.LockRule.{own_entries, is_among}
use Rattle.pdq_turn.specs.declared.view.PassView.{PassView}
use Rattle.pdq_model.specs.Kept.{to_collect, IsLent}

-- the party of an entry is its session
abbrev pub party_of : Entry → ℕ
party_of e = e.session

-- a history that the pass can find: it is legal, begins with all that the pass has seen, and of the pass's sessions it has just the pass's own entries
pub record CanFind (c : Configuration) (v : PassView Entry Configuration) (found : List Entry) : Type 0 where
  pub origin : v.origin ≡ Some c
  pub legal : IsLegal c found
  pub seen : IsPrefix v.seen found
  pub mine : v.mine ≡ own_entries party_of v.parties found

-- this is true of every state that the pass can find
abbrev pub IsKnown : PassView Entry Configuration → (State → Type 0) → Type 0
IsKnown v P = (c : Configuration) (found : List Entry) → CanFind c v found → P (replay c found)

-- the session is one of the pass, and open
pub record HasSession (v : PassView Entry Configuration) (session : ℕ) : Type 0 where
  pub own : is_among session v.parties ≡ true
  pub stays : IsKnown v (λ s. IsTrue (is_open s session))

abbrev pub IsOpenIfAny : PassView Entry Configuration → Option ℕ → Type 0
IsOpenIfAny v None = ⊤
IsOpenIfAny v (Some session) = HasSession v session

-- a query of this session waits, is active and not collected, or was withdrawn
abbrev pub IsWaitedFor : PassView Entry Configuration → ℕ → ℕ → Type 0
IsWaitedFor v session id = IsKnown v (λ s. to_collect s session id ≢ 0)

-- a query of this session is active and collected, with a region of so many frames
abbrev pub IsOnLoan : PassView Entry Configuration → ℕ → ℕ → ℕ → Type 0
IsOnLoan v session id frames = IsKnown v (λ s. IsLent s session id frames)

-- this session has no queries but these
abbrev pub HasOnly : PassView Entry Configuration → ℕ → List ℕ → Type 0
HasOnly v session ids = IsKnown v (λ s. (id : ℕ) → is_among id ids ≡ false → queries_of s session id ≡ 0)
