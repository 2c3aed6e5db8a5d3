-- What becomes of a query in a session: how its turns and its lines fit together.
use Rattle.std.specs.Prelude.{ℕ, ◌≡◌, ◌≤◌, Option, Some, None, List, [], ◌∷◌, ◌++◌, length, Result, Ok, Err, IsOk, ⊤}
use mathlib.Core.List.{IsPrefix}
use Rattle.pdq_model.specs.declared.events.Entry.{Entry}
use Rattle.pdq_model.specs.declared.events.How.{How}
use Rattle.pdq_model.specs.declared.events.How.TheVariants.{Stopped}
use Rattle.pdq_model.specs.declared.events.Event.TheVariants.{Collect}
use Rattle.pdq_model.specs.declared.events.Reply.TheVariants as reply
use Rattle.pdq_office.specs.PassValue.{PassValue}
use Rattle.pdq_office.specs.Passes.{lock_at, known, session_of, IsHeld, IsTicket, Follows, AddsNone, Ends}
use Rattle.pdq_office.specs.declared.pass.Held.{Held}
use Rattle.pdq_office.specs.declared.answers.Grant.{Grant}
use Rattle.pdq_office.specs.declared.answers.Got.{Got}
use Rattle.pdq_office.specs.declared.answers.Got.TheVariants as got
use Rattle.pdq_office.specs.declared.pass.Ticket.{Ticket}
use Rattle.pdq_office.specs.Knowledge.{IsWaitedFor}
use Rattle.pdq_talk.specs.Lines.{Expected}
use Rattle.pdq_serve.specs.declared.fetching.Fetched.{Fetched}
use Rattle.pdq_serve.specs.declared.fetching.Fetched.TheVariants as fetched
use Rattle.std.specs.Global.{Vec}
use Rattle.pdq_talk.specs.declared.replied.Ran.{Ran}
use Rattle.pdq_talk.specs.declared.replied.Ran.TheVariants as aran
use Rattle.pdq_talk.specs.declared.replied.Came.{Came}
use Rattle.pdq_talk.specs.declared.replied.Came.TheVariants as acame
use Rattle.pdq_talk.specs.declared.replied.Replied.{Replied}
use Rattle.pdq_talk.specs.declared.replied.Replied.TheVariants as atold
use Rattle.pdq_office.specs.declared.answers.Placed.{Placed}
use Rattle.pdq_model.specs.Given.{WasCancelledAt}
use Rattle.pdq_talk.specs.History.{entry_of}
use Rattle.pdq_talk.specs.Lines.{ComesTo, IsAnswer, IsEntered, came_entries, came_step, ending_of, evaluated_text}
use Rattle.pdq_talk.specs.Lines.{RunsTo, ran_entries, ran_step}
use Rattle.pdq_talk.specs.Session.{IsCancelAtMost}
use Rattle.pdq_talk.specs.declared.telling.Break.{Break}

-- a later moment of the same pass, with its session
pub record Later (p q : PassValue) : Type 0 where
  pub lock : lock_at q ≡ lock_at p
  pub session : q.session ≡ p.session
  pub origin : (known q).origin ≡ (known p).origin
  pub seen : IsPrefix (known p).seen (known q).seen

-- a flag is the place of a Cancel entry of the query
abbrev pub IsFlag : List Entry → ℕ → Option ℕ → Type 0
IsFlag history id None = ⊤
IsFlag history id (Some by) = WasCancelledAt history by id

-- from one moment of a pass to another its query was collected and granted
pub record WasGrantedTo (p q : PassValue) (id : ℕ) (held : Held) (grant : Grant) : Type 0 where
  pub later : Later p q
  pub held_id : held.id ≡ id
  pub frames : held.frames ≡ grant.region.frames
  pub has : IsHeld q held
  pub adds : AddsNone p q
  pub mine : (known q).mine ≡ (known p).mine ++ (grant.step, entry_of (session_of p) (Collect id) (reply.Granted grant.quanta grant.scans grant.priority grant.flagged)) ∷ []
  pub entered : (last : ℕ) → last ≤ length (known p).seen → IsEntered (known q).seen last grant.step (entry_of (session_of p) (Collect id) (reply.Granted grant.quanta grant.scans grant.priority grant.flagged))
  pub step : grant.step ≤ length (known q).seen
  pub flag : IsFlag (known q).seen id grant.flagged
  pub some_scans : 1 ≤ grant.scans
  pub few_scans : grant.scans ≤ 16
  pub many_frames : 32 ≤ grant.region.frames

-- or it was collected as withdrawn
pub record WasWithdrawn (p q : PassValue) (id by step : ℕ) : Type 0 where
  pub later : Later p q
  pub ends : Ends id p q
  pub mine : (known q).mine ≡ (known p).mine ++ (step, entry_of (session_of p) (Collect id) (reply.Cancelled by)) ∷ []
  pub entered : (last : ℕ) → last ≤ length (known p).seen → IsEntered (known q).seen last step (entry_of (session_of p) (Collect id) (reply.Cancelled by))
  pub within : step ≤ length (known q).seen
  pub cause : WasCancelledAt (known q).seen by id

-- a granted query was run and finished
pub record WasRun (p q : PassValue) (id : ℕ) (answer : Expected) (flagged : Option ℕ) (ran : Ran) : Type 0 where
  pub later : Later p q
  pub ends : Ends id p q
  pub mine : (known q).mine ≡ (known p).mine ++ ran_entries (session_of p) id ran
  pub runs : (last : ℕ) → last ≤ length (known p).seen → RunsTo (known q).seen (session_of p) id answer last flagged ran
  pub step : ran_step ran ≤ length (known q).seen

-- a placed query came to its end; where its lines broke it may have been cancelled
pub record Followed {T : Type 0} (p q : PassValue) (id : ℕ) (answer : Expected) (came : Came) (told : Result T Break) : Type 0 where
  pub later : Later p q
  pub ends : Ends id p q
  pub cancel : List (ℕ × Entry)
  pub most : IsCancelAtMost (known q).seen cancel
  pub whole : IsOk told → cancel ≡ []
  pub mine : (known q).mine ≡ ((known p).mine ++ cancel) ++ came_entries (session_of p) id came
  pub comes : (last : ℕ) → last ≤ length (known p).seen → ComesTo (known q).seen (session_of p) id answer last came
  pub step : came_step came ≤ length (known q).seen

-- what one collection came to
abbrev pub IsGotBy : PassValue → PassValue → Ticket → Got → Type 0
IsGotBy p q t (got.Granted held grant) = WasGrantedTo p q t.id held grant
IsGotBy p q t (got.Waiting again gate step) = Follows p q × (again ≡ t) × IsTicket q again
IsGotBy p q t (got.Cancelled by step) = WasWithdrawn p q t.id by step

-- what a ticket came to in the end
abbrev pub IsFetched : PassValue → PassValue → ℕ → Fetched → Type 0
IsFetched p q id (fetched.Granted held grant) = WasGrantedTo p q id held grant
IsFetched p q id (fetched.Withdrawn by step) = WasWithdrawn p q id by step

-- where the lines broke the query was cancelled, or was cancelled already
pub record MayCancel {T : Type 0} (p q : PassValue) (told : Result T Break) : Type 0 where
  pub later : Later p q
  pub cancel : List (ℕ × Entry)
  pub most : IsCancelAtMost (known q).seen cancel
  pub whole : IsOk told → cancel ≡ []
  pub mine : (known q).mine ≡ (known p).mine ++ cancel
  pub adds : AddsNone p q
  pub tickets : (id : ℕ) → IsWaitedFor (known p) (session_of p) id → IsWaitedFor (known q) (session_of p) id

-- a granted query as its session has it: collected, with its region and with its flag in what was seen
pub record IsGrantedOf (p : PassValue) (id : ℕ) (held : Held) (grant : Grant) : Type 0 where
  pub number : held.id ≡ id
  pub frames : held.frames ≡ grant.region.frames
  pub has : IsHeld p held
  pub flag : IsFlag (known p).seen id grant.flagged
  pub some_scans : 1 ≤ grant.scans
  pub few_scans : grant.scans ≤ 16
  pub many_frames : 32 ≤ grant.region.frames

-- what became of it is its run
pub record IsRunOf (p q : PassValue) (id : ℕ) (answer : Expected) (grant : Grant) (came : Came) : Type 0 where
  pub ran : Ran
  pub is : came ≡ acame.WasGranted grant.step grant.quanta grant.scans grant.priority grant.flagged ran
  pub run : WasRun p q id answer grant.flagged ran

-- a placed query whose reply this is came to its end
pub record IsFollowedOf {T : Type 0} (p q : PassValue) (answer : Expected) (frags : ℕ) (placed : Placed) (reply : Replied) (told : Result T Break) : Type 0 where
  pub came : Came
  pub is : reply ≡ atold.Placed frags placed.id placed.step placed.priority placed.gate came
  pub followed : Followed p q placed.id answer came told
