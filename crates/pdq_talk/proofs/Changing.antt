-- A change that needs no pool comes to a right reply.
use Rattle.std.proofs.Common.{ℕ, ◌≡◌, ◌∙◌, ◌≤◌, List, [], ◌∷◌, ◌++◌, length, Some, Bool, true, false, refl, sym, ap, subst, arith}
use Rattle.std.specs.Prelude.{Result, Ok, Err, ◌&&◌, not, if◌then◌else◌}
use Rattle.std.proofs.lemmas.List.{append-nil}
use Rattle.atomic_table.specs.Seated.{TableId}
use Rattle.pdq_model.specs.declared.events.Entry.{Entry}
use Rattle.pdq_model.specs.declared.events.Event.TheVariants.{Onmode}
use Rattle.pdq_model.specs.declared.events.Reply.TheVariants as reply
use Rattle.pdq_model.specs.declared.events.Setting.{Setting}
use Rattle.pdq_model.specs.declared.events.Why.{Why}
use Rattle.pdq_model.specs.declared.events.Why.TheVariants as why
use Rattle.pdq_model.specs.declared.events.Answer.TheVariants.{Entered, Refuses}
use Rattle.pdq_model.specs.Configuration.{Configuration, is_valid}
use Rattle.pdq_model.specs.State.{State}
use Rattle.pdq_model.specs.Step.{PoolSize, answer_to_change, changed_reply, has_size, is_admin, is_full_for, needs_pool, pool_size_of, target_of}
use Rattle.pdq_gate.specs.declared.answers.Refused.{Refused}
use Rattle.pdq_gate.specs.declared.answers.Changed.{Changed}
use Rattle.pdq_gate.specs.Answers.{IsChanged}
use Rattle.pdq_office.specs.PassValue.{PassValue}
use Rattle.pdq_office.specs.Passes.{lock_at, known, session_of, AddsNone}
use Rattle.pdq_office.specs.Turns.{Makes}
use Rattle.pdq_reply.specs.Changes.{pool_made}
use Rattle.pdq_talk.specs.declared.replied.Party.{Party}
use Rattle.pdq_talk.specs.declared.replied.Standing.{Standing}
use Rattle.pdq_talk.specs.declared.replied.Replied.TheVariants as told
use Rattle.pdq_talk.specs.History.{entry_of, state_at}
use Rattle.pdq_talk.specs.Lines as asked
use Rattle.pdq_talk.specs.Lines.{HasPoolCause, IsEntered, IsStep, number_of}
use Rattle.pdq_talk.specs.Hand.{IsInHand, Comes}
use Rattle.pdq_talk.specs.Replies as told_of
use Rattle.pdq_talk.proofs.Turns.{MadeEntry, MadeNone, turn_entered, turn_refused}
use Rattle.pdq_talk.proofs.Plainly.{by_party, numbered, same_number, stays}

-- the pool does not matter
any_pool : (s : State) (who : ℕ) (setting : Setting) (a b : PoolSize) → needs_pool setting ≡ false → answer_to_change s who setting a ≡ answer_to_change s who setting b
any_pool s who setting a b none = rw none refl

-- nor is its size refused
no_cause : (h : List Entry) (who last step : ℕ) (s : State) (setting : Setting) (a : PoolSize) (reason : Why) → needs_pool setting ≡ false → answer_to_change s who setting a ≡ Refuses reason → HasPoolCause h who last step reason
no_cause h who last step s setting a (why.PoolSize quanta frames) none e = absurd (go (is_admin s who) (is_valid (target_of s setting)) (needs_pool setting) (is_full_for s 1) none e)
  where
    go : (x y z w : Bool) → z ≡ false → (if not x then Refuses why.NotAllowed else if not y then Refuses why.BadValue else if z && not (has_size a (pool_size_of s setting)) then Refuses (why.PoolSize (pool_size_of s setting).quanta (pool_size_of s setting).frames) else if w then Refuses why.JournalFull else Entered (changed_reply s who setting)) ≡ Refuses (why.PoolSize quanta frames) → ⊥
    go false y z w n e = cc
    go true false z w n e = cc
    go true true true w n e = cc
    go true true false true n e = cc
    go true true false false n e = cc
no_cause h who last step s setting a why.QueueFull none e = tt
no_cause h who last step s setting a why.JournalFull none e = tt
no_cause h who last step s setting a why.NotAllowed none e = tt
no_cause h who last step s setting a why.NoSuchQuery none e = tt
no_cause h who last step s setting a why.BadValue none e = tt
no_cause h who last step s setting a why.AlreadyCancelled none e = tt
no_cause h who last step s setting a why.TooManySessions none e = tt

module _ (lock : TableId) (p q : PassValue) (s : Standing) (hand : IsInHand lock s p) (party : Party) (some : s.party ≡ Some party) (setting : Setting) (size : PoolSize) (none : needs_pool setting ≡ false) where
  pub changing : (outcome : Result Changed Refused) → (lock_at q ≡ lock_at p) × (q.session ≡ p.session)
      → Makes (known p) (known q) (λ x. session_of p) (Onmode setting) (λ x. answer_to_change x (session_of p) setting size) (λ x k. IsChanged (answer_to_change x (session_of p) setting size) k outcome)
      → AddsNone p q → Comes lock p q s (asked.Change setting) (told_of.changed_reply setting outcome)
  changing (Ok o) same makes adds =
      let who : session_of p ≡ party.number = numbered lock p q s hand party some in
      let found : MadeEntry (known p) (known q) (session_of p) (Onmode setting) (reply.Changed o.pending)
      = turn_entered (known p) (known q) makes.manager (session_of p) (Onmode setting) (answer_to_change makes.manager.state (session_of p) setting size) (reply.Changed o.pending) makes.turn makes.told.told in
      let e : MadeEntry (known p) (known q) party.number (Onmode setting) (reply.Changed o.pending) = subst (λ (k : ℕ). MadeEntry (known p) (known q) k (Onmode setting) (reply.Changed o.pending)) who found in
      let at : length (known q).seen ≡ o.step = sym makes.told.at in
      record {
        answered = record {
          right = λ c origin. by_party lock p q s hand (asked.Change setting) (told.Changed setting o.pending o.step) (Some party) some c
              (refl, subst (λ (k : ℕ). IsEntered (known q).seen s.step k (entry_of party.number (Onmode setting) (reply.Changed o.pending))) at (e.entered s.step hand.step));
          entries = e.mine ∙ (ap (λ (k : ℕ). (known p).mine ++ (k, entry_of party.number (Onmode setting) (reply.Changed o.pending)) ∷ []) at
              ∙ ap (λ (n : ℕ). (known p).mine ++ (o.step, entry_of n (Onmode setting) (reply.Changed o.pending)) ∷ []) (sym (same_number lock p q s hand party some)));
          seen = e.went.seen;
          origin = e.went.origin;
        };
        hand = stays lock p q s hand o.step (let l : o.step ≤ length (known q).seen = omega (arith, at) in l) same.0 same.1 adds;
      }
  changing (Err r) same makes adds =
      let who : session_of p ≡ party.number = numbered lock p q s hand party some in
      let n : MadeNone (known p) (known q) (λ x. answer_to_change x (session_of p) setting size ≡ Refuses r.why)
      = turn_refused (known p) (known q) makes.manager (session_of p) (Onmode setting) (answer_to_change makes.manager.state (session_of p) setting size) (λ x. answer_to_change x (session_of p) setting size ≡ Refuses r.why) r.why makes.turn makes.told.told (sym makes.told.told) in
      let at : length (known q).seen ≡ r.step = sym makes.told.at in
      record {
        answered = record {
          right = λ c origin. by_party lock p q s hand (asked.Change setting) (told.ChangeRefused r.why r.step r.step) (Some party) some c
              (refused c r (subst (λ (k : ℕ). IsStep (known q).seen s.step k) at (n.at s.step hand.step))
              (subst (λ (k : ℕ). answer_to_change (state_at c (known q).seen k) party.number setting size ≡ Refuses r.why) at
              (subst (λ (w : ℕ). answer_to_change (state_at c (known q).seen (length (known q).seen)) w setting size ≡ Refuses r.why) who (n.state c origin))));
          entries = n.mine ∙ sym (append-nil (known p).mine);
          seen = n.went.seen;
          origin = n.went.origin;
        };
        hand = stays lock p q s hand r.step (let l : r.step ≤ length (known q).seen = omega (arith, at) in l) same.0 same.1 adds;
      }
    where
      refused : (c : Configuration) (r : Refused) → IsStep (known q).seen s.step r.step → answer_to_change (state_at c (known q).seen r.step) party.number setting size ≡ Refuses r.why
          → (s.step ≤ r.step) × (r.step ≤ r.step) × IsStep (known q).seen s.step r.step × (answer_to_change (state_at c (known q).seen r.step) party.number setting (pool_made (state_at c (known q).seen r.step) party.number setting) ≡ Refuses r.why) × HasPoolCause (known q).seen party.number s.step r.step r.why
      refused c r step is = (
        step.later,
        omega arith,
        step,
        any_pool (state_at c (known q).seen r.step) party.number setting (pool_made (state_at c (known q).seen r.step) party.number setting) size none ∙ is,
        no_cause (known q).seen party.number s.step r.step (state_at c (known q).seen r.step) setting size r.why none is,
      )
