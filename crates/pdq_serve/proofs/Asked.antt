-- A QUERY line comes to a right reply.
use Rattle.std.proofs.Common.{ℕ, ◌≡◌, ◌∙◌, ◌≤◌, List, [], ◌∷◌, ◌++◌, length, Option, Some, refl, sym, ap, subst, arith}
use Rattle.std.specs.Prelude.{Result, Ok, Err, IsOk, ◌==◌, if◌then◌else◌}
use Rattle.std.proofs.lemmas.Bool.{eq-eqb}
use Rattle.std.proofs.lemmas.List.{append-nil}
use Rattle.atomic_table.specs.Seated.{TableId}
use Rattle.pdq_model.specs.declared.events.Entry.{Entry}
use Rattle.pdq_model.specs.declared.events.Event.TheVariants.{Submit}
use Rattle.pdq_model.specs.declared.events.Reply.TheVariants as reply
use Rattle.pdq_model.specs.declared.events.Answer.TheVariants.{Refuses}
use Rattle.pdq_model.specs.Step.{decide}
use Rattle.pdq_gate.specs.declared.answers.Refused.{Refused}
use Rattle.pdq_office.specs.Answers.{IsSent, OnSent}
use Rattle.pdq_office.specs.declared.answers.Sent.{Sent}
use Rattle.pdq_office.specs.declared.answers.Sent.TheVariants as sent
use Rattle.pdq_office.specs.declared.answers.Placed.{Placed}
use Rattle.pdq_office.specs.declared.pass.Ticket.{Ticket}
use Rattle.pdq_office.specs.PassValue.{PassValue}
use Rattle.pdq_office.specs.Passes.{lock_at, known, session_of, IsTicket, Unfinished, AddsNone, Adds, without}
use Rattle.pdq_office.specs.Turns.{Makes}
use Rattle.pdq_talk.specs.Lines.{Expected}
use Rattle.pdq_talk.specs.declared.replied.Party.{Party}
use Rattle.pdq_talk.specs.declared.replied.Standing.{Standing}
use Rattle.pdq_talk.specs.declared.replied.Replied.{Replied}
use Rattle.pdq_talk.specs.declared.replied.Replied.TheVariants as told
use Rattle.pdq_talk.specs.History.{entry_of, state_at}
use Rattle.pdq_talk.specs.Lines as asked
use Rattle.pdq_talk.specs.Lines.{IsEntered, IsStep, IsAnswer, ComesTo, RepliesBy, RepliesTo, came_entries, number_of, reply_entries, standing_after}
use Rattle.pdq_talk.specs.Hand.{IsInHand}
use Rattle.pdq_serve.specs.Query.{IsFollowedOf}
use Rattle.pdq_talk.specs.Writing.{Entered as Made, EndsIn}
use Rattle.pdq_talk.specs.declared.telling.Break.{Break}
use Rattle.pdq_talk.proofs.Turns.{MadeEntry, MadeNone, turn_entered, turn_refused, prefix_on}
use Rattle.pdq_talk.proofs.Plainly.{by_party, numbered, same_number, stays}
use Rattle.pdq_serve.proofs.Collected.{entered_stays}

module _ {T : Type 0} (lock : TableId) (p m q : PassValue) (s : Standing) (hand : IsInHand lock s p) (party : Party) (some : s.party ≡ Some party) (frags : ℕ) (answer : Expected) (broke : Result T Break)
    (same : (lock_at m ≡ lock_at p) × (m.session ≡ p.session)) where
  who : session_of p ≡ party.number
  who = numbered lock p m s hand party some

  none_cancelled : (mid : PassValue) → (known mid).mine ≡ (known p).mine → Made p mid [] broke
  none_cancelled mid mine = record {
    front = [];
    cancel = [];
    back = [];
    split = refl;
    mine = mine ∙ (sym (append-nil (known p).mine) ∙ (sym (append-nil ((known p).mine ++ [])) ∙ sym (append-nil (((known p).mine ++ []) ++ []))));
    most = tt;
    whole = λ ok. refl;
  }

  -- refused
  pub query_refused : (r : Refused) → Makes (known p) (known m) (λ x. session_of p) (Submit s.priority frags) (λ x. decide x (session_of p) (Submit s.priority frags)) (λ x k. IsSent (decide x (session_of p) (Submit s.priority frags)) k (Err r))
      → AddsNone p m → EndsIn lock p m s (asked.Query frags answer) (told.Refused r.why r.step) broke
  query_refused r makes adds =
      let n : MadeNone (known p) (known m) (λ x. decide x (session_of p) (Submit s.priority frags) ≡ Refuses r.why)
      = turn_refused (known p) (known m) makes.manager (session_of p) (Submit s.priority frags) (decide makes.manager.state (session_of p) (Submit s.priority frags)) (λ x. decide x (session_of p) (Submit s.priority frags) ≡ Refuses r.why) r.why makes.turn makes.told.told (sym makes.told.told) in
      let at : length (known m).seen ≡ r.step = sym makes.told.at in
      record {
        right = λ c origin. by_party lock p m s hand (asked.Query frags answer) (told.Refused r.why r.step) (Some party) some c
            (subst (λ (k : ℕ). IsStep (known m).seen s.step k × (decide (state_at c (known m).seen k) party.number (Submit s.priority frags) ≡ Refuses r.why)) at
            (n.at s.step hand.step, subst (λ (w : ℕ). decide (state_at c (known m).seen (length (known m).seen)) w (Submit s.priority frags) ≡ Refuses r.why) who (n.state c origin)));
        entries = none_cancelled m n.mine;
        seen = n.went.seen;
        origin = n.went.origin;
        hand = stays lock p m s hand r.step (let l : r.step ≤ length (known m).seen = omega (arith, at) in l) same.0 same.1 adds;
      }

  -- placed, and followed to its end
  pub query_placed : (t : Ticket) (x : Placed) (r : Replied)
      → Makes (known p) (known m) (λ y. session_of p) (Submit s.priority frags) (λ y. decide y (session_of p) (Submit s.priority frags)) (λ y k. IsSent (decide y (session_of p) (Submit s.priority frags)) k (Ok (sent.Ticket t x)))
      → Adds x.id p m → IsFollowedOf m q answer frags x r broke → EndsIn lock p q s (asked.Query frags answer) r broke
  query_placed t x r makes adds f = subst (λ (z : Replied). EndsIn lock p q s (asked.Query frags answer) z broke) (sym f.is) (record {
    right = λ c origin. by_party lock p q s hand (asked.Query frags answer) (told.Placed frags x.id x.step x.priority x.gate f.came) (Some party) some c (
      refl,
      entered_stays (known m).seen (known q).seen f.followed.later.seen s.step x.step (line party.number) (subst (λ (n : ℕ). IsEntered (known m).seen s.step x.step (line n)) who entered),
      subst (λ (n : ℕ). ComesTo (known q).seen n x.id answer x.step f.came) number_last (f.followed.comes x.step within),
    );
    entries = record {
      front = (x.step, line (number_of s.party)) ∷ [];
      cancel = f.followed.cancel;
      back = came_entries (number_of s.party) x.id f.came;
      split = refl;
      mine = f.followed.mine ∙ (ap (λ (l : List (ℕ × Entry)). (l ++ f.followed.cancel) ++ came_entries (session_of m) x.id f.came) mine
          ∙ ap (λ (n : ℕ). (((known p).mine ++ (x.step, line (number_of s.party)) ∷ []) ++ f.followed.cancel) ++ came_entries n x.id f.came) (number_last ∙ sym number_first));
      most = f.followed.most;
      whole = f.followed.whole;
    };
    seen = prefix_on (known p).seen (known m).seen (known q).seen e.went.seen f.followed.later.seen;
    origin = f.followed.later.origin ∙ e.went.origin;
    hand = record {
      lock = f.followed.later.lock ∙ (same.0 ∙ hand.lock);
      session = f.followed.later.session ∙ (same.1 ∙ hand.session);
      step = f.followed.step;
      finished = λ opens. subst (λ (ids : List ℕ). Unfinished q ids) (gone x.id) (f.followed.ends (x.id ∷ []) (adds [] (hand.finished (opens.0, sym (f.followed.later.session ∙ same.1) ∙ opens.1))));
      priority = hand.priority;
    };
  })
    where
      line : ℕ → Entry
      line n = entry_of n (Submit s.priority frags) (reply.Placed x.id x.priority x.gate)

      e : MadeEntry (known p) (known m) (session_of p) (Submit s.priority frags) (reply.Placed x.id x.priority x.gate)
      e = turn_entered (known p) (known m) makes.manager (session_of p) (Submit s.priority frags) (decide makes.manager.state (session_of p) (Submit s.priority frags)) (reply.Placed x.id x.priority x.gate) makes.turn makes.told.told

      at : length (known m).seen ≡ x.step
      at = sym makes.told.at

      within : x.step ≤ length (known m).seen
      within = omega (arith, at)

      entered : IsEntered (known m).seen s.step x.step (line (session_of p))
      entered = subst (λ (k : ℕ). IsEntered (known m).seen s.step k (line (session_of p))) at (e.entered s.step hand.step)

      number_first : number_of s.party ≡ party.number
      number_first = same_number lock p m s hand party some

      number_last : session_of m ≡ party.number
      number_last = ap (λ (o : Option ℕ). Rattle.std.specs.Prelude.unwrap_or o 0) same.1 ∙ who

      mine : (known m).mine ≡ (known p).mine ++ (x.step, line (number_of s.party)) ∷ []
      mine = e.mine ∙ (ap (λ (k : ℕ). (known p).mine ++ (k, line (session_of p)) ∷ []) at ∙ ap (λ (n : ℕ). (known p).mine ++ (x.step, line n) ∷ []) (who ∙ sym number_first))

      gone : (id : ℕ) → without id (id ∷ []) ≡ []
      gone id = rw (eq-eqb id id refl) refl

  -- the same where the call's answer is known to be this one
  pub was_placed : (outcome : Result Sent Refused) (t : Ticket) (x : Placed) (r : Replied) → outcome ≡ Ok (sent.Ticket t x)
      → Makes (known p) (known m) (λ y. session_of p) (Submit s.priority frags) (λ y. decide y (session_of p) (Submit s.priority frags)) (λ y k. IsSent (decide y (session_of p) (Submit s.priority frags)) k outcome)
      → OnSent outcome (λ u z. (u.id ≡ z.id) × IsTicket m u × Adds z.id p m) (AddsNone p m) → IsFollowedOf m q answer frags x r broke → EndsIn lock p q s (asked.Query frags answer) r broke
  was_placed outcome t x r is makes on f =
      query_placed t x r (subst (λ (o : Result Sent Refused). Makes (known p) (known m) (λ y. session_of p) (Submit s.priority frags) (λ y. decide y (session_of p) (Submit s.priority frags)) (λ y k. IsSent (decide y (session_of p) (Submit s.priority frags)) k o)) is makes)
      (subst (λ (o : Result Sent Refused). OnSent o (λ u z. (u.id ≡ z.id) × IsTicket m u × Adds z.id p m) (AddsNone p m)) is on).2 f

  pub was_refused : (outcome : Result Sent Refused) (x : Refused) (r : Replied) → outcome ≡ Err x
      → Makes (known p) (known m) (λ y. session_of p) (Submit s.priority frags) (λ y. decide y (session_of p) (Submit s.priority frags)) (λ y k. IsSent (decide y (session_of p) (Submit s.priority frags)) k outcome)
      → OnSent outcome (λ u z. (u.id ≡ z.id) × IsTicket m u × Adds z.id p m) (AddsNone p m) → r ≡ told.Refused x.why x.step → EndsIn lock p m s (asked.Query frags answer) r broke
  was_refused outcome x r is makes on eq =
      subst (λ (z : Replied). EndsIn lock p m s (asked.Query frags answer) z broke) (sym eq)
      (query_refused x (subst (λ (o : Result Sent Refused). Makes (known p) (known m) (λ y. session_of p) (Submit s.priority frags) (λ y. decide y (session_of p) (Submit s.priority frags)) (λ y k. IsSent (decide y (session_of p) (Submit s.priority frags)) k o)) is makes)
      (subst (λ (o : Result Sent Refused). OnSent o (λ u z. (u.id ≡ z.id) × IsTicket m u × Adds z.id p m) (AddsNone p m)) is on))
