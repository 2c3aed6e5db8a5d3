-- What a collection tells the session.
use Rattle.std.proofs.Common.{ℕ, ◌≡◌, ◌∙◌, ◌≤◌, ◌*◌, List, [], ◌∷◌, ◌++◌, length, Option, refl, sym, ap, subst, arith, append_assoc}
use Rattle.std.specs.Prelude.{⊤, IsOk, unwrap_or, Result, Ok, Err, OnOk, is_err, true}
use Rattle.std.proofs.lemmas.Bool.{false≢true}
use Rattle.std.proofs.lemmas.List.{append-nil}
use mathlib.Core.List.{IsPrefix}
use Rattle.pdq_model.specs.declared.events.Entry.{Entry}
use Rattle.pdq_model.specs.declared.events.Event.{Event}
use Rattle.pdq_model.specs.declared.events.Event.TheVariants.{Collect, Cancel}
use Rattle.pdq_model.specs.declared.events.Reply.{Reply}
use Rattle.pdq_model.specs.declared.events.Reply.TheVariants as reply
use Rattle.pdq_model.specs.declared.events.Answer.{Answer}
use Rattle.pdq_model.specs.declared.events.Answer.TheVariants.{Entered, Waits}
use Rattle.pdq_model.specs.State.{State}
use Rattle.pdq_model.specs.Step.{decide}
use Rattle.pdq_model.specs.Configuration.{frames_per_quantum}
use Rattle.pdq_gate.specs.ManagerView.{ManagerView}
use Rattle.pdq_gate.specs.declared.answers.Refused.{Refused}
use Rattle.pdq_gate.specs.declared.answers.Cancelled.{Cancelled}
use Rattle.pdq_gate.specs.Answers.{IsCancelled}
use Rattle.pdq_office.specs.Answers.{IsGot, OnGot}
use Rattle.pdq_office.specs.PassValue.{PassValue}
use Rattle.pdq_office.specs.Passes.{lock_at, known, session_of, IsTicket, IsHeld, Follows, Keeps, AddsNone, Ends}
use Rattle.pdq_office.specs.Turns.{IsTurn, view_after, Makes}
use Rattle.pdq_office.specs.declared.answers.Got.{Got}
use Rattle.pdq_office.specs.declared.answers.Got.TheVariants as got
use Rattle.pdq_office.specs.declared.pass.Ticket.{Ticket}
use Rattle.pdq_model.specs.Given.{WasCancelledAt}
use Rattle.pdq_talk.specs.Lines.{Expected}
use Rattle.pdq_talk.specs.History.{entry_of}
use Rattle.pdq_talk.specs.Lines.{IsEntered, RunsTo, ran_entries}
use Rattle.pdq_serve.specs.Query.{Later, WasGrantedTo, WasWithdrawn, IsGotBy, MayCancel, Followed, IsRunOf}
use Rattle.pdq_office.specs.declared.pass.Held.{Held}
use Rattle.pdq_office.specs.declared.answers.Grant.{Grant}
use Rattle.pdq_talk.specs.declared.replied.Came.{Came}
use Rattle.pdq_talk.specs.declared.replied.Came.TheVariants as acame
use Rattle.pdq_talk.specs.Session.{IsCancelAtMost}
use Rattle.pdq_talk.specs.declared.telling.Break.{Break}
use Rattle.pdq_serve.specs.Watched.{follows_same}
use Rattle.pdq_talk.proofs.Turns.{longer_of, View, MadeEntry, MadeNone, turn_entered, turn_refused, prefix_on, Went}
use Rattle.pdq_serve.proofs.Cancellations.{granted_flag, cancelled_place, flag_stays}
use Rattle.pdq_talk.proofs.Growing.{places_stay, was_cancelled_stays}

pub later_of : (p q : PassValue) → lock_at q ≡ lock_at p → q.session ≡ p.session → Went (known p) (known q) → Later p q
later_of p q lock session w = record { lock = lock; session = session; origin = w.origin; seen = w.seen }

pub later_follows : (p q : PassValue) → Follows p q → Later p q
later_follows p q f = record { lock = f.lock; session = f.session; origin = f.origin; seen = f.seen }

pub later_on : (p q r : PassValue) → Later p q → Later q r → Later p r
later_on p q r a b = record { lock = b.lock ∙ a.lock; session = b.session ∙ a.session; origin = b.origin ∙ a.origin; seen = prefix_on (known p).seen (known q).seen (known r).seen a.seen b.seen }

pub same_number : (p q : PassValue) → q.session ≡ p.session → session_of q ≡ session_of p
same_number p q e = ap (λ (o : Option ℕ). unwrap_or o 0) e

-- the history that a turn found is the beginning of what was seen then
found_before : (v w : View) (m : ManagerView) (who : ℕ) (event : Event) (answer : Answer) (r : Reply) → IsTurn v w m who event answer → Entered r ≡ answer → IsPrefix m.history w.seen
found_before v w m who event answer r t is =
    (entry_of who event r ∷ [], sym (ap (λ (x : View). x.seen) (t.view ∙ ap (view_after v m.history who event) (sym is))))

waited : (v w : View) (m : ManagerView) (who : ℕ) (event : Event) (answer : Answer) (gate : ℕ) → IsTurn v w m who event answer → Waits gate ≡ answer → w ≡ record v { seen = m.history }
waited v w m who event answer gate t is = t.view ∙ ap (view_after v m.history who event) (sym is)

module _ (p q : PassValue) (t : Ticket) where
  pub got_by : (g : Got) → (lock_at q ≡ lock_at p) × (q.session ≡ p.session)
      → Makes (known p) (known q) (λ s. session_of p) (Collect t.id) (λ s. decide s (session_of p) (Collect t.id))
      (λ s k. IsGot (decide s (session_of p) (Collect t.id)) k g × OnGot g (λ h x. x.region.frames ≡ x.quanta * frames_per_quantum s.config) (λ _. ⊤) ⊤)
      → OnGot g (λ h x. (h.id ≡ t.id) × (h.frames ≡ x.region.frames) × IsHeld q h × AddsNone p q) (λ u. (u ≡ t) × IsTicket q u × AddsNone p q) (Ends t.id p q)
      → OnGot g (λ h x. (1 ≤ x.scans) × (x.scans ≤ 16) × (32 ≤ x.region.frames)) (λ _. ⊤) ⊤
      → IsGotBy p q t g
  got_by (got.Granted h x) same makes is shares =
      let m = makes.manager in
      let r : Reply = reply.Granted x.quanta x.scans x.priority x.flagged in
      let told : Entered r ≡ decide m.state (session_of p) (Collect t.id) = makes.told.0.told in
      let e : MadeEntry (known p) (known q) (session_of p) (Collect t.id) r = turn_entered (known p) (known q) m (session_of p) (Collect t.id) (decide m.state (session_of p) (Collect t.id)) r makes.turn told in
      let at : length (known q).seen ≡ x.step = sym makes.told.0.at in
      record {
        later = later_of p q same.0 same.1 e.went;
        held_id = is.0;
        frames = is.1;
        has = is.2;
        adds = is.3;
        mine = e.mine ∙ ap (λ (k : ℕ). (known p).mine ++ (k, entry_of (session_of p) (Collect t.id) r) ∷ []) at;
        entered = λ last within. subst (λ (k : ℕ). IsEntered (known q).seen last k (entry_of (session_of p) (Collect t.id) r)) at (e.entered last within);
        step = omega (arith, at);
        flag = flag_stays m.history (known q).seen (found_before (known p) (known q) m (session_of p) (Collect t.id) (decide m.state (session_of p) (Collect t.id)) r makes.turn told) t.id x.flagged
            (granted_flag m.opening m.history (session_of p) t.id x.quanta x.scans x.priority x.flagged makes.turn.finds.found.legal (told ∙ ap (λ (s : State). decide s (session_of p) (Collect t.id)) makes.turn.finds.replayed));
        some_scans = shares.0;
        few_scans = shares.1;
        many_frames = shares.2;
      }
  got_by (got.Waiting u gate step) same makes is shares =
      let m = makes.manager in
      let view : known q ≡ record (known p) { seen = m.history } = waited (known p) (known q) m (session_of p) (Collect t.id) (decide m.state (session_of p) (Collect t.id)) gate makes.turn makes.told.0.told in (
        record {
          lock = same.0;
          session = same.1;
          origin = ap (λ (v : View). v.origin) view;
          parties = ap (λ (v : View). v.parties) view;
          mine = ap (λ (v : View). v.mine) view;
          seen = subst (λ (h : List Entry). IsPrefix (known p).seen h) (sym (ap (λ (v : View). v.seen) view)) makes.turn.finds.found.seen;
        },
        is.0,
        is.1,
      )
  got_by (got.Cancelled by step) same makes is shares =
      let m = makes.manager in
      let r : Reply = reply.Cancelled by in
      let told : Entered r ≡ decide m.state (session_of p) (Collect t.id) = makes.told.0.told in
      let e : MadeEntry (known p) (known q) (session_of p) (Collect t.id) r = turn_entered (known p) (known q) m (session_of p) (Collect t.id) (decide m.state (session_of p) (Collect t.id)) r makes.turn told in
      let at : length (known q).seen ≡ step = sym makes.told.0.at in
      let stood : WasCancelledAt m.history by t.id = cancelled_place m.opening m.history (session_of p) t.id by makes.turn.finds.found.legal (told ∙ ap (λ (s : State). decide s (session_of p) (Collect t.id)) makes.turn.finds.replayed) in
      record {
        later = later_of p q same.0 same.1 e.went;
        ends = is;
        mine = e.mine ∙ ap (λ (k : ℕ). (known p).mine ++ (k, entry_of (session_of p) (Collect t.id) r) ∷ []) at;
        entered = λ last within. subst (λ (k : ℕ). IsEntered (known q).seen last k (entry_of (session_of p) (Collect t.id) r)) at (e.entered last within);
        within = omega (arith, at);
        cause = was_cancelled_stays m.history (known q).seen by t.id (found_before (known p) (known q) m (session_of p) (Collect t.id) (decide m.state (session_of p) (Collect t.id)) r makes.turn told) stood;
      }

-- a collection after turns that made no entry
module _ (p m q : PassValue) (f : Follows p m) where
  number : session_of m ≡ session_of p
  number = same_number p m f.session

  within : (last : ℕ) → last ≤ length (known p).seen → last ≤ length (known m).seen
  within last l = (let k : length (known p).seen ≤ length (known m).seen = longer_of (known p).seen (known m).seen f.seen in omega arith)

  pub granted_after : (id : ℕ) (held : Rattle.pdq_office.specs.declared.pass.Held.Held) (x : Rattle.pdq_office.specs.declared.answers.Grant.Grant) → WasGrantedTo m q id held x → WasGrantedTo p q id held x
  granted_after id held x w =
      let r : Reply = reply.Granted x.quanta x.scans x.priority x.flagged in
      record {
        later = later_on p m q (later_follows p m f) w.later;
        held_id = w.held_id;
        frames = w.frames;
        has = w.has;
        adds = λ ids had. w.adds ids (Rattle.pdq_office.proofs.Following.unfinished_follow p m ids f had);
        mine = w.mine ∙ (ap (λ (l : List (ℕ × Entry)). l ++ (x.step, entry_of (session_of m) (Collect id) r) ∷ []) f.mine ∙ ap (λ (n : ℕ). (known p).mine ++ (x.step, entry_of n (Collect id) r) ∷ []) number);
        entered = λ last l. subst (λ (n : ℕ). IsEntered (known q).seen last x.step (entry_of n (Collect id) r)) number (w.entered last (within last l));
        step = w.step;
        flag = w.flag;
        some_scans = w.some_scans;
        few_scans = w.few_scans;
        many_frames = w.many_frames;
      }

  pub withdrawn_after : (id by step : ℕ) → WasWithdrawn m q id by step → WasWithdrawn p q id by step
  withdrawn_after id by step w =
      record {
        later = later_on p m q (later_follows p m f) w.later;
        ends = λ ids had. w.ends ids (Rattle.pdq_office.proofs.Following.unfinished_follow p m ids f had);
        mine = w.mine ∙ (ap (λ (l : List (ℕ × Entry)). l ++ (step, entry_of (session_of m) (Collect id) (reply.Cancelled by)) ∷ []) f.mine ∙ ap (λ (n : ℕ). (known p).mine ++ (step, entry_of n (Collect id) (reply.Cancelled by)) ∷ []) number);
        entered = λ last l. subst (λ (n : ℕ). IsEntered (known q).seen last step (entry_of n (Collect id) (reply.Cancelled by))) number (w.entered last (within last l));
        within = w.within;
        cause = w.cause;
      }

pub err_of : {T : Type 0} (r : Result T Break) → is_err r ≡ true → (e : Break) × (r ≡ Err e)
err_of (Ok x) h = absurd (false≢true h)
err_of (Err e) h = (e, refl)

-- where nothing broke nothing is cancelled
pub not_cancelled : {T : Type 0} (p : PassValue) (told : Result T Break) → MayCancel p p told
not_cancelled p told = record {
  later = later_follows p p (follows_same p);
  cancel = [];
  most = tt;
  whole = λ ok. refl;
  mine = sym (append-nil (known p).mine);
  adds = λ ids had. had;
  tickets = λ id has. has;
}

-- where it broke the query is cancelled, by one entry at most
pub was_cancelled : {T : Type 0} (p q : PassValue) (id : ℕ) (told : Result T Break) (e : Break) (outcome : Result Cancelled Refused) → told ≡ Err e
    → (lock_at q ≡ lock_at p) × (q.session ≡ p.session)
    → Makes (known p) (known q) (λ x. session_of p) (Cancel id) (λ x. decide x (session_of p) (Cancel id)) (λ x k. IsCancelled (decide x (session_of p) (Cancel id)) k outcome)
    → Keeps p q → AddsNone p q → MayCancel p q told
was_cancelled {T} p q id told e (Ok o) is same makes keeps adds =
    let m = makes.manager in
    let r : Reply = Rattle.std.specs.Prelude.if◌then◌else◌ o.active reply.Flagged reply.Withdrawn in
    let x : MadeEntry (known p) (known q) (session_of p) (Cancel id) r = turn_entered (known p) (known q) m (session_of p) (Cancel id) (decide m.state (session_of p) (Cancel id)) r makes.turn makes.told.told in
    subst (λ (z : Result T Break). MayCancel p q z) (sym is) (record {
      later = later_of p q same.0 same.1 x.went;
      cancel = (length (known q).seen, entry_of (session_of p) (Cancel id) r) ∷ [];
      most = (session_of p, id, r, refl, (x.entered 0 (omega arith)).stands);
      whole = λ ok. absurd (false≢true ok);
      mine = x.mine;
      adds = adds;
      tickets = λ other has. keeps.tickets other has;
    })
was_cancelled {T} p q id told e (Err o) is same makes keeps adds =
    let m = makes.manager in
    let n : MadeNone (known p) (known q) (λ s. ⊤) = turn_refused (known p) (known q) m (session_of p) (Cancel id) (decide m.state (session_of p) (Cancel id)) (λ s. ⊤) o.why makes.turn makes.told.told tt in
    subst (λ (z : Result T Break). MayCancel p q z) (sym is) (record {
      later = later_of p q same.0 same.1 n.went;
      cancel = [];
      most = tt;
      whole = λ ok. absurd (false≢true ok);
      mine = n.mine ∙ sym (append-nil (known p).mine);
      adds = adds;
      tickets = λ other has. keeps.tickets other has;
    })

pub most_stays : (h k : List Entry) → IsPrefix h k → (cancel : List (ℕ × Entry)) → IsCancelAtMost h cancel → IsCancelAtMost k cancel
most_stays h k b [] m = tt
most_stays h k b ((step, e) ∷ []) m = (m.0, m.1, m.2, m.3, places_stay h k step e b m.4)
most_stays h k b (x ∷ y ∷ more) m = absurd m

pub entered_stays : (h k : List Entry) → IsPrefix h k → (last step : ℕ) (e : Entry) → IsEntered h last step e → IsEntered k last step e
entered_stays h k b last step e s = record { later = s.later; stands = places_stay h k step e b s.stands }

-- a placed query to its end, from what was done where its lines broke, and from its collection
module _ {T U : Type 0} (p m : PassValue) (told : Result T Break) (told_then : Result U Break) (c : MayCancel p m told) (kept : IsOk told_then → IsOk told) where
  number_then : session_of m ≡ session_of p
  number_then = same_number p m c.later.session

  seen_then : (last : ℕ) → last ≤ length (known p).seen → last ≤ length (known m).seen
  seen_then last l = (let k : length (known p).seen ≤ length (known m).seen = longer_of (known p).seen (known m).seen c.later.seen in omega arith)

  pub withdrawn_followed : (q : PassValue) (id by step : ℕ) (answer : Expected) → WasWithdrawn m q id by step → Followed p q id answer (acame.WasCancelled step by) told_then
  withdrawn_followed q id by step answer w = record {
    later = later_on p m q c.later w.later;
    ends = λ ids had. w.ends ids (c.adds ids had);
    cancel = c.cancel;
    most = most_stays (known m).seen (known q).seen w.later.seen c.cancel c.most;
    whole = λ ok. c.whole (kept ok);
    mine = w.mine ∙ (ap (λ (l : List (ℕ × Entry)). l ++ (step, entry_of (session_of m) (Collect id) (reply.Cancelled by)) ∷ []) c.mine
        ∙ ap (λ (n : ℕ). ((known p).mine ++ c.cancel) ++ (step, entry_of n (Collect id) (reply.Cancelled by)) ∷ []) number_then);
    comes = λ last l. (w.cause, subst (λ (n : ℕ). IsEntered (known q).seen last step (entry_of n (Collect id) (reply.Cancelled by))) number_then (w.entered last (seen_then last l)));
    step = w.within;
  }

  pub granted_followed : (q r : PassValue) (id : ℕ) (held : Held) (x : Grant) (answer : Expected) (came : Came) → WasGrantedTo m q id held x → IsRunOf q r id answer x came → Followed p r id answer came told_then
  granted_followed q r id held x answer came w run =
      subst (λ (z : Came). Followed p r id answer z told_then) (sym run.is) (record {
        later = later_on p m r c.later (later_on m q r w.later run.run.later);
        ends = λ ids had. run.run.ends ids (w.adds ids (c.adds ids had));
        cancel = c.cancel;
        most = most_stays (known m).seen (known r).seen (prefix_on (known m).seen (known q).seen (known r).seen w.later.seen run.run.later.seen) c.cancel c.most;
        whole = λ ok. c.whole (kept ok);
        mine = run.run.mine ∙ (ap (λ (l : List (ℕ × Entry)). l ++ ran_entries (session_of q) id run.ran) w.mine
            ∙ (append_assoc (known m).mine (collect (session_of m) ∷ []) (ran_entries (session_of q) id run.ran)
            ∙ (ap (λ (l : List (ℕ × Entry)). l ++ collect (session_of m) ∷ ran_entries (session_of q) id run.ran) c.mine
            ∙ (ap (λ (n : ℕ). ((known p).mine ++ c.cancel) ++ collect n ∷ ran_entries (session_of q) id run.ran) number_then
            ∙ ap (λ (n : ℕ). ((known p).mine ++ c.cancel) ++ collect (session_of p) ∷ ran_entries n id run.ran) number_last))));
        comes = λ last l. (
          entered_stays (known q).seen (known r).seen run.run.later.seen last x.step _
              (subst (λ (n : ℕ). IsEntered (known q).seen last x.step (entry_of n (Collect id) granted)) number_then (w.entered last (seen_then last l))),
          subst (λ (n : ℕ). RunsTo (known r).seen n id answer x.step x.flagged run.ran) number_last (run.run.runs x.step w.step),
        );
        step = run.run.step;
      })
    where
      granted : Reply
      granted = reply.Granted x.quanta x.scans x.priority x.flagged

      collect : ℕ → ℕ × Entry
      collect n = (x.step, entry_of n (Collect id) granted)

      number_last : session_of q ≡ session_of p
      number_last = same_number m q w.later.session ∙ number_then
