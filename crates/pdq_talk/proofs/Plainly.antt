-- The replies to the lines that need no query are right.
use Rattle.std.proofs.Common.{ℕ, ◌≡◌, ◌∙◌, ◌≤◌, List, [], ◌∷◌, ◌++◌, length, Option, Some, None, Bool, true, false, refl, sym, ap, subst, arith, inl, inr}
use Rattle.std.specs.Prelude.{Result, Ok, Err, not, if◌then◌else◌, unwrap_or, MatchResult, IsSome, IsSomeAnd}
use Rattle.std.proofs.lemmas.Option.{none-some}
use Rattle.std.proofs.lemmas.List.{append-nil}
use Rattle.std.specs.Global.{Vec}
use Rattle.atomic_table.specs.Seated.{TableId}
use Rattle.pdq_model.specs.declared.events.Event.TheVariants.{OpenSession, CloseSession, Cancel}
use Rattle.pdq_model.specs.declared.events.Reply.TheVariants as reply
use Rattle.pdq_model.specs.declared.events.Answer.TheVariants.{Entered, Refuses}
use Rattle.pdq_model.specs.Configuration.{Configuration}
use Rattle.pdq_model.specs.State.{State, next_session}
use Rattle.pdq_model.specs.declared.events.Entry.{Entry}
use Rattle.pdq_model.specs.declared.events.Why.TheVariants as why
use Rattle.pdq_model.specs.Step.{decide, answer_to_open, most_sessions, is_full_for}
use Rattle.std.specs.Prelude.{nat_le}
use Rattle.std.proofs.lemmas.Bool.{false≢true}
use Rattle.std.proofs.lemmas.Bool.Decides.{nat_tests}
use Rattle.pdq_office.proofs.Following.{unfinished_follow}
use Rattle.pdq_model.specs.StatusView.{StatusView, status_of}
use Rattle.pdq_gate.specs.declared.answers.Refused.{Refused}
use Rattle.pdq_gate.specs.declared.answers.Opened.{Opened}
use Rattle.pdq_gate.specs.declared.answers.Cancelled.{Cancelled}
use Rattle.pdq_gate.specs.Answers.{IsOpened, IsCancelled}
use Rattle.pdq_office.specs.PassValue.{PassValue}
use Rattle.pdq_office.specs.Passes.{lock_at, known, session_of, Unfinished, Follows, AddsNone}
use Rattle.pdq_office.specs.Turns.{Makes, Looks}
use Rattle.pdq_talk.specs.declared.replied.Party.{Party}
use Rattle.pdq_talk.specs.declared.replied.Standing.{Standing}
use Rattle.pdq_talk.specs.declared.replied.Replied.{Replied}
use Rattle.pdq_talk.specs.declared.replied.Replied.TheVariants as told
use Rattle.pdq_talk.specs.History.{entry_of, state_at}
use Rattle.pdq_talk.specs.Lines as asked
use Rattle.pdq_talk.specs.Lines.{Asked, IsEntered, IsStep, RepliesBy, RepliesTo, cancel_reply, number_of, reply_entries, standing_after}
use Rattle.pdq_stat.specs.StatusText.{status_text}
use Rattle.pdq_talk.specs.Status.{onstat}
use Rattle.pdq_talk.specs.Hand.{IsInHand, Comes, session_in}
use Rattle.pdq_talk.specs.Replies.{opened_reply, cancelled_reply, priority_told}
use Rattle.pdq_talk.specs.Lines.{percent}
use Rattle.pdq_talk.specs.Writing.{EndsIn}
use Rattle.pdq_talk.specs.declared.telling.Break.{Break}
use Rattle.pdq_talk.proofs.Turns.{MadeEntry, MadeNone, turn_entered, turn_refused, turn_looked, turn_state, looked_step, went_longer}

opened_number : (s : State) (n : ℕ) → Entered (reply.Opened n) ≡ answer_to_open s → n ≡ next_session s
opened_number s n e = go (nat_le most_sessions (length s.sessions)) (is_full_for s 2) e
  where
    go : (a b : Bool) → Entered (reply.Opened n) ≡ (if a then Refuses why.TooManySessions else if b then Refuses why.JournalFull else Entered (reply.Opened (next_session s))) → n ≡ next_session s
    go true b e = cc
    go false true e = cc
    go false false e = cc

pub some_party : (o : Option Party) → IsSome o → (x : Party) × (o ≡ Some x)
some_party None h = absurd (false≢true h)
some_party (Some x) h = (x, refl)

pub user_party : (o : Option Party) → IsSomeAnd o (λ p. p.admin ≡ false) → (x : Party) × (o ≡ Some x) × (x.admin ≡ false)
user_party None h = absurd h
user_party (Some x) h = (x, refl, h)

flag_reply : (b : Bool) → (if b then reply.Flagged else reply.Withdrawn) ≡ cancel_reply (not b)
flag_reply true = refl
flag_reply false = refl

module _ (lock : TableId) (p q : PassValue) (s : Standing) (hand : IsInHand lock s p) where
  -- by whom the line is asked
  pub by_party : (line : Asked) (r : Replied) (party : Option Party) → s.party ≡ party → (c : Configuration) → RepliesBy c (known q).seen party s.priority s.step line r → RepliesTo c (known q).seen s line r
  by_party line r party is c h = inr (subst (λ (x : Option Party). RepliesBy c (known q).seen x s.priority s.step line r) (sym is) h)

  -- the number of the session that is open
  pub numbered : (party : Party) → s.party ≡ Some party → session_of p ≡ party.number
  numbered party is = ap (λ (o : Option ℕ). unwrap_or o 0) (hand.session ∙ ap session_in is)

  pub same_number : (party : Party) → s.party ≡ Some party → number_of s.party ≡ party.number
  same_number party is = ap number_of is

  -- a session that stays open, or closed
  pub stays : (step : ℕ) → step ≤ length (known q).seen → lock_at q ≡ lock_at p → q.session ≡ p.session → AddsNone p q → IsInHand lock (record { party = s.party; priority = s.priority; step = step }) q
  stays step within same session adds = record {
    lock = same ∙ hand.lock;
    session = session ∙ hand.session;
    step = within;
    finished = λ opens. adds [] (hand.finished (opens.0, sym session ∙ opens.1));
    priority = hand.priority;
  }

  -- HELLO and ADMIN
  pub opening : (admin : Bool) (outcome : Result Opened Refused) → s.party ≡ None → lock_at q ≡ lock_at p
      → Makes (known p) (known q) next_session (OpenSession admin) (λ x. decide x (next_session x) (OpenSession admin)) (λ x k. IsOpened (decide x (next_session x) (OpenSession admin)) k outcome)
      → MatchResult outcome (λ o. (q.session ≡ Some o.session) × Unfinished q []) (λ _. q.session ≡ None)
      → Comes lock p q s (asked.Open admin) (opened_reply admin outcome)
  opening admin (Ok o) none same makes is =
      let found : MadeEntry (known p) (known q) (next_session makes.manager.state) (OpenSession admin) (reply.Opened o.session)
      = turn_entered (known p) (known q) makes.manager (next_session makes.manager.state) (OpenSession admin) (decide makes.manager.state (next_session makes.manager.state) (OpenSession admin)) (reply.Opened o.session) makes.turn makes.told.told in
      let e : MadeEntry (known p) (known q) o.session (OpenSession admin) (reply.Opened o.session)
      = subst (λ (k : ℕ). MadeEntry (known p) (known q) k (OpenSession admin) (reply.Opened o.session)) (sym (opened_number makes.manager.state o.session makes.told.told)) found in
      let at : length (known q).seen ≡ o.step = sym makes.told.at in
      record {
        answered = record {
          right = λ c origin. by_party (asked.Open admin) (told.Opened o.session o.step admin) None none c
              (refl, subst (λ (k : ℕ). IsEntered (known q).seen s.step k (entry_of o.session (OpenSession admin) (reply.Opened o.session))) at (e.entered s.step hand.step));
          entries = e.mine ∙ ap (λ (k : ℕ). (known p).mine ++ (k, entry_of o.session (OpenSession admin) (reply.Opened o.session)) ∷ []) at;
          seen = e.went.seen;
          origin = e.went.origin;
        };
        hand = record { lock = same ∙ hand.lock; session = is.0; step = (let l : o.step ≤ length (known q).seen = omega (arith, at) in l); finished = λ opens. is.1; priority = hand.priority };
      }
  opening admin (Err r) none same makes is =
      let n : MadeNone (known p) (known q) (λ x. decide x (next_session x) (OpenSession admin) ≡ Refuses r.why)
      = turn_refused (known p) (known q) makes.manager (next_session makes.manager.state) (OpenSession admin) (decide makes.manager.state (next_session makes.manager.state) (OpenSession admin)) (λ x. decide x (next_session x) (OpenSession admin) ≡ Refuses r.why) r.why makes.turn makes.told.told (sym makes.told.told) in
      let at : length (known q).seen ≡ r.step = sym makes.told.at in
      record {
        answered = record {
          right = λ c origin. by_party (asked.Open admin) (told.Refused r.why r.step) None none c
              (subst (λ (k : ℕ). IsStep (known q).seen s.step k × (decide (state_at c (known q).seen k) (next_session (state_at c (known q).seen k)) (OpenSession admin) ≡ Refuses r.why)) at (n.at s.step hand.step, n.state c origin));
          entries = n.mine ∙ sym (append-nil (known p).mine);
          seen = n.went.seen;
          origin = n.went.origin;
        };
        hand = record { lock = same ∙ hand.lock; session = is ∙ ap session_in (sym none); step = (let l : r.step ≤ length (known q).seen = omega (arith, at) in l); finished = λ opens. absurd (none-some opens.0 (sym is ∙ opens.1)); priority = hand.priority };
      }

  -- CANCEL
  pub cancelling : (party : Party) (id : ℕ) (outcome : Result Cancelled Refused) → s.party ≡ Some party → (lock_at q ≡ lock_at p) × (q.session ≡ p.session)
      → Makes (known p) (known q) (λ x. session_of p) (Cancel id) (λ x. decide x (session_of p) (Cancel id)) (λ x k. IsCancelled (decide x (session_of p) (Cancel id)) k outcome)
      → AddsNone p q
      → Comes lock p q s (asked.CancelQuery id) (cancelled_reply id outcome)
  cancelling party id (Ok o) some same makes adds =
      let who : session_of p ≡ party.number = numbered party some in
      let found : MadeEntry (known p) (known q) (session_of p) (Cancel id) (cancel_reply (not o.active))
      = turn_entered (known p) (known q) makes.manager (session_of p) (Cancel id) (decide makes.manager.state (session_of p) (Cancel id)) (cancel_reply (not o.active)) makes.turn (ap Entered (sym (flag_reply o.active)) ∙ makes.told.told) in
      let e : MadeEntry (known p) (known q) party.number (Cancel id) (cancel_reply (not o.active))
      = subst (λ (k : ℕ). MadeEntry (known p) (known q) k (Cancel id) (cancel_reply (not o.active))) who found in
      let at : length (known q).seen ≡ o.step = sym makes.told.at in
      record {
        answered = record {
          right = λ c origin. by_party (asked.CancelQuery id) (told.Cancelled (not o.active) id o.step) (Some party) some c
              (refl, subst (λ (k : ℕ). IsEntered (known q).seen s.step k (entry_of party.number (Cancel id) (cancel_reply (not o.active)))) at (e.entered s.step hand.step));
          entries = e.mine ∙ (ap (λ (k : ℕ). (known p).mine ++ (k, entry_of party.number (Cancel id) (cancel_reply (not o.active))) ∷ []) at
              ∙ ap (λ (n : ℕ). (known p).mine ++ (o.step, entry_of n (Cancel id) (cancel_reply (not o.active))) ∷ []) (sym (same_number party some)));
          seen = e.went.seen;
          origin = e.went.origin;
        };
        hand = stays o.step (let l : o.step ≤ length (known q).seen = omega (arith, at) in l) same.0 same.1 adds;
      }
  cancelling party id (Err r) some same makes adds =
      let who : session_of p ≡ party.number = numbered party some in
      let n : MadeNone (known p) (known q) (λ x. decide x (session_of p) (Cancel id) ≡ Refuses r.why)
      = turn_refused (known p) (known q) makes.manager (session_of p) (Cancel id) (decide makes.manager.state (session_of p) (Cancel id)) (λ x. decide x (session_of p) (Cancel id) ≡ Refuses r.why) r.why makes.turn makes.told.told (sym makes.told.told) in
      let at : length (known q).seen ≡ r.step = sym makes.told.at in
      record {
        answered = record {
          right = λ c origin. by_party (asked.CancelQuery id) (told.Refused r.why r.step) (Some party) some c
              (subst (λ (k : ℕ). IsStep (known q).seen s.step k × (decide (state_at c (known q).seen k) party.number (Cancel id) ≡ Refuses r.why)) at
              (n.at s.step hand.step, subst (λ (w : ℕ). decide (state_at c (known q).seen (length (known q).seen)) w (Cancel id) ≡ Refuses r.why) who (n.state c origin)));
          entries = n.mine ∙ sym (append-nil (known p).mine);
          seen = n.went.seen;
          origin = n.went.origin;
        };
        hand = stays r.step (let l : r.step ≤ length (known q).seen = omega (arith, at) in l) same.0 same.1 adds;
      }

  -- QUIT, and SHUTDOWN of an administrator
  pub closing : (party : Party) (step : ℕ) (shuts : Bool) (line : Asked) → s.party ≡ Some party → lock_at q ≡ lock_at p
      → Makes (known p) (known q) (λ x. session_of p) CloseSession (λ x. decide x (session_of p) CloseSession) (λ x k. step ≡ k)
      → q.session ≡ None
      → ((c : Configuration) → asked.IsClosing c (known q).seen party.number s.step shuts (told.Closed party.number step shuts) → asked.RepliesWithin c (known q).seen party s.priority s.step line (told.Closed party.number step shuts))
      → Comes lock p q s line (told.Closed party.number step shuts)
  closing party step shuts line some same makes closed asks =
      let who : session_of p ≡ party.number = numbered party some in
      let found : MadeEntry (known p) (known q) (session_of p) CloseSession reply.Closed
      = turn_entered (known p) (known q) makes.manager (session_of p) CloseSession (Entered reply.Closed) reply.Closed makes.turn refl in
      let e : MadeEntry (known p) (known q) party.number CloseSession reply.Closed
      = subst (λ (k : ℕ). MadeEntry (known p) (known q) k CloseSession reply.Closed) who found in
      let at : length (known q).seen ≡ step = sym makes.told in
      record {
        answered = record {
          right = λ c origin. by_party line (told.Closed party.number step shuts) (Some party) some c
              (asks c (refl, refl, subst (λ (k : ℕ). IsEntered (known q).seen s.step k (entry_of party.number CloseSession reply.Closed)) at (e.entered s.step hand.step)));
          entries = e.mine ∙ (ap (λ (k : ℕ). (known p).mine ++ (k, entry_of party.number CloseSession reply.Closed) ∷ []) at
              ∙ ap (λ (n : ℕ). (known p).mine ++ (step, entry_of n CloseSession reply.Closed) ∷ []) (sym (same_number party some)));
          seen = e.went.seen;
          origin = e.went.origin;
        };
        hand = record { lock = same ∙ hand.lock; session = closed; step = (let l : step ≤ length (known q).seen = omega (arith, at) in l); finished = λ opens. absurd (none-some opens.0 (sym closed ∙ opens.1)); priority = hand.priority };
      }

  pub quitting : (party : Party) (step : ℕ) → s.party ≡ Some party → lock_at q ≡ lock_at p
      → Makes (known p) (known q) (λ x. session_of p) CloseSession (λ x. decide x (session_of p) CloseSession) (λ x k. step ≡ k)
      → q.session ≡ None → Comes lock p q s asked.Quit (told.Closed party.number step false)
  quitting party step some same makes closed = closing party step false asked.Quit some same makes closed (λ c is. is)

  pub shutting : (party : Party) (step : ℕ) → s.party ≡ Some party → party.admin ≡ true → lock_at q ≡ lock_at p
      → Makes (known p) (known q) (λ x. session_of p) CloseSession (λ x. decide x (session_of p) CloseSession) (λ x k. step ≡ k)
      → q.session ≡ None → Comes lock p q s asked.Shutdown (told.Closed party.number step true)
  shutting party step some admin same makes closed = closing party step true asked.Shutdown some same makes closed
      (λ c is. subst (λ (b : Bool). asked.IsShutting c (known q).seen b party.number s.step (told.Closed party.number step true)) (sym admin) is)

  follows_none : Follows p q → AddsNone p q
  follows_none f ids had = unfinished_follow p q ids f had

  -- a look at the step
  pub stepping : (step : ℕ) (l : Looks (known p) (known q) (λ x k. step ≡ k)) → IsStep (known q).seen s.step step
  stepping step l = let n : MadeNone (known p) (known q) (λ x. step ≡ length (known q).seen) = turn_looked (known p) (known q) (λ x k. step ≡ k) l in
      subst (λ (k : ℕ). IsStep (known q).seen s.step k) (sym l.told) (n.at s.step hand.step)

  looked : (line : Asked) (r : Replied) (step : ℕ) → Follows p q → step ≤ length (known q).seen → standing_after s r ≡ record { party = s.party; priority = s.priority; step = step } → reply_entries (number_of s.party) s.priority r ≡ []
      → ((c : Configuration) → (known p).origin ≡ Some c → RepliesTo c (known q).seen s line r) → Comes lock p q s line r
  looked line r step f within is none right = record {
    answered = record {
      right = right;
      entries = f.mine ∙ (sym (append-nil (known p).mine) ∙ ap (λ (l : List (ℕ × Entry)). (known p).mine ++ l) (sym none));
      seen = f.seen;
      origin = f.origin;
    };
    hand = subst (λ (x : Standing). IsInHand lock x q) (sym is) (stays step within f.lock f.session (follows_none f));
  }

  -- HELLO and ADMIN in an open session
  pub not_now : (party : Party) (admin : Bool) (step : ℕ) → s.party ≡ Some party → Looks (known p) (known q) (λ x k. step ≡ k) → Follows p q → Comes lock p q s (asked.Open admin) (told.NotNow step)
  not_now party admin step some l f =
      let at : step ≡ length (known q).seen = l.told in
      looked (asked.Open admin) (told.NotNow step) step f (omega (arith, at)) refl refl
      (λ c origin. by_party (asked.Open admin) (told.NotNow step) (Some party) some c (stepping step l))

  -- SHUTDOWN by a user
  pub not_allowed : (party : Party) (step : ℕ) → s.party ≡ Some party → party.admin ≡ false → Looks (known p) (known q) (λ x k. step ≡ k) → Follows p q → Comes lock p q s asked.Shutdown (told.NotAllowed step)
  not_allowed party step some user l f =
      let at : step ≡ length (known q).seen = l.told in
      looked asked.Shutdown (told.NotAllowed step) step f (omega (arith, at)) refl refl
      (λ c origin. by_party asked.Shutdown (told.NotAllowed step) (Some party) some c
      (subst (λ (b : Bool). asked.IsShutting c (known q).seen b party.number s.step (told.NotAllowed step)) (sym user) (stepping step l)))

  -- ONSTAT
  pub showing : (party : Party) (status : StatusView) (text : Vec ℕ) → s.party ≡ Some party → text.items ≡ status_text status → Looks (known p) (known q) (λ x k. status ≡ status_of x) → Follows p q
      → Comes lock p q s asked.Status (told.Shown status.step text)
  showing party status text some is l f =
      let n : MadeNone (known p) (known q) (λ x. status ≡ status_of x) = turn_state (known p) (known q) (λ x. status ≡ status_of x) l in
      let at : status.step ≡ length (known q).seen = ap (λ (v : StatusView). v.step) l.told ∙ looked_step (known p) (known q) (λ x k. status ≡ status_of x) l in
      looked asked.Status (told.Shown status.step text) status.step f (omega (arith, at)) refl refl
      (λ c origin. by_party asked.Status (told.Shown status.step text) (Some party) some c
      (subst (λ (k : ℕ). IsStep (known q).seen s.step k × (text.items ≡ onstat (state_at c (known q).seen k))) (sym at)
      (n.at s.step hand.step, is ∙ ap status_text (n.state c origin))))

  pub no_room : (line : Asked) → Follows p q → Comes lock p q s line told.NoRoom
  no_room line f =
      let longer : length (known p).seen ≤ length (known q).seen = went_longer (known p) (known q) (record { seen = f.seen; origin = f.origin }) in
      let step : s.step ≤ length (known p).seen = hand.step in
      looked line told.NoRoom s.step f (omega arith) refl refl (λ c origin. inl refl)

-- a line that makes no turn
module _ (lock : TableId) (p : PassValue) (s : Standing) (hand : IsInHand lock s p) where
  pub quiet : (line : Asked) (r : Replied) → IsInHand lock (standing_after s r) p → reply_entries (number_of s.party) s.priority r ≡ [] → ((c : Configuration) → RepliesTo c (known p).seen s line r) → Comes lock p p s line r
  quiet line r after none right = record {
    answered = record {
      right = λ c origin. right c;
      entries = sym (append-nil (known p).mine) ∙ ap (λ (l : List (ℕ × Entry)). (known p).mine ++ l) (sym none);
      seen = ([], append-nil (known p).seen);
      origin = refl;
    };
    hand = after;
  }

  -- one whose reply leaves all as it is
  pub plainly : (line : Asked) (r : Replied) (party : Option Party) → s.party ≡ party → IsInHand lock (standing_after s r) p → reply_entries (number_of s.party) s.priority r ≡ [] → ((c : Configuration) → RepliesBy c (known p).seen party s.priority s.step line r) → Comes lock p p s line r
  plainly line r party is after none right = quiet line r after none (λ c. by_party lock p p s hand line r party is c (right c))

  pub prioritised : (party : Party) (n : ℕ) → s.party ≡ Some party → Comes lock p p s (asked.Priority (percent n)) (priority_told (percent n))
  prioritised party n some = go (nat_le n 100) refl
    where
      go : (b : Bool) → nat_le n 100 ≡ b → Comes lock p p s (asked.Priority (if b then Some n else None)) (priority_told (if b then Some n else None))
      go true e = plainly (asked.Priority (Some n)) (told.PrioritySet n) (Some party) some
          (record { lock = hand.lock; session = hand.session; step = hand.step; finished = hand.finished; priority = (grind (arith, nat_tests, e)) }) refl (λ c. refl)
      go false e = plainly (asked.Priority None) told.OutOfRange (Some party) some hand refl (λ c. refl)

-- what a line comes to, where all of it is written in one piece
pub ends_from : {T : Type 0} (lock : TableId) (p q : PassValue) (s : Standing) (line : Asked) (r : Replied) (broke : Result T Break) → Comes lock p q s line r → EndsIn lock p q s line r broke
ends_from lock p q s line r broke h = record {
  right = h.answered.right;
  entries = record {
    front = reply_entries (number_of s.party) s.priority r;
    cancel = [];
    back = [];
    split = sym (append-nil (reply_entries (number_of s.party) s.priority r));
    mine = h.answered.entries ∙ (sym (append-nil ((known p).mine ++ spoken)) ∙ sym (append-nil (((known p).mine ++ spoken) ++ [])));
    most = tt;
    whole = λ ok. refl;
  };
  seen = h.answered.seen;
  origin = h.answered.origin;
  hand = h.hand;
}
  where
    spoken : List (ℕ × Entry)
    spoken = reply_entries (number_of s.party) s.priority r
