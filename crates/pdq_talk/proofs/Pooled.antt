-- A change that comes with a pool comes to a right reply.
use Rattle.std.proofs.Common.{ℕ, ◌≡◌, ◌∙◌, ◌+◌, ◌≤◌, List, [], ◌∷◌, ◌++◌, length, Some, Bool, true, false, cond, refl, sym, ap, subst, arith, ⊎_elim, length-append}
use Rattle.std.specs.Prelude.{Result, Ok, Err, None, ◌&&◌, if◌then◌else◌}
use Rattle.std.proofs.lemmas.Bool.{both_ways}
use Rattle.std.proofs.lemmas.List.{append-nil}
use mathlib.Core.List.{IsPrefix}
use Rattle.atomic_table.specs.Seated.{TableId}
use Rattle.pdq_model.specs.declared.events.Entry.{Entry}
use Rattle.pdq_model.specs.declared.events.Event.TheVariants.{Onmode}
use Rattle.pdq_model.specs.declared.events.Reply.TheVariants as reply
use Rattle.pdq_model.specs.declared.events.Setting.{Setting}
use Rattle.pdq_model.specs.declared.events.Why.{Why}
use Rattle.pdq_model.specs.declared.events.Why.TheVariants as why
use Rattle.pdq_model.specs.declared.events.Answer.TheVariants.{Refuses}
use Rattle.pdq_model.specs.Configuration.{Configuration, is_valid}
use Rattle.pdq_model.specs.State.{State}
use Rattle.pdq_model.specs.StatusView.{StatusView, status_of}
use Rattle.pdq_model.specs.Step.{PoolSize, answer_to_change, is_admin, pool_size_of, target_of}
use Rattle.pdq_model.specs.History.{IsLegal, replay}
use Rattle.pdq_gate.specs.ManagerView.{ManagerView}
use Rattle.pdq_gate.specs.declared.answers.Refused.{Refused}
use Rattle.pdq_gate.specs.declared.answers.Changed.{Changed}
use Rattle.pdq_gate.specs.Answers.{IsChanged}
use Rattle.pdq_turn.specs.LockRule.{is_among, own_from, own_entries}
use Rattle.pdq_turn.proofs.History.{yes_or_no}
use Rattle.pdq_office.specs.Knowledge.{party_of}
use Rattle.pdq_office.specs.PassValue.{PassValue}
use Rattle.pdq_office.specs.Passes.{lock_at, known, session_of, AddsNone, Follows}
use Rattle.pdq_office.specs.Turns.{Finds, Makes, Looks, view_after}
use Rattle.pdq_office.proofs.Following.{unfinished_follow}
use Rattle.pdq_talk.specs.declared.replied.Party.{Party}
use Rattle.pdq_talk.specs.declared.replied.Standing.{Standing}
use Rattle.pdq_talk.specs.declared.replied.Replied.TheVariants as told
use Rattle.pdq_talk.specs.History.{IsChangedByAnother, entry_of, state_at}
use Rattle.pdq_talk.specs.Lines as asked
use Rattle.pdq_talk.specs.Lines.{HasPoolCause, IsEntered, IsStep, number_of}
use Rattle.pdq_talk.proofs.Growing.{states_stay, state_here}
use Rattle.pdq_reply.specs.Changes.{pool_for, pool_made}
use Rattle.pdq_talk.specs.Hand.{IsInHand, Comes}
use Rattle.pdq_talk.specs.Pooling.{size_made}
use Rattle.pdq_talk.specs.Replies.{pooled_reply}
use Rattle.pdq_talk.proofs.Turns.{View, MadeEntry, MadeNone, turn_entered, turn_refused, opening_is, looked_step, prefix_on}
use Rattle.pdq_talk.proofs.Plainly.{by_party, numbered, same_number, stays}
use Rattle.pdq_talk.proofs.Turns.{longer_of}
use Rattle.pdq_talk.proofs.PoolCauses.{AllOthers, pool_cause}

-- what a status shows is enough to make the pool
made_same : (s : State) (who : ℕ) (setting : Setting) → size_made (is_admin s who) (status_of s) setting ≡ pool_made s who setting
made_same s who setting = go (is_admin s who) (is_valid (target_of s setting))
  where
    no_pool : PoolSize
    no_pool = record { quanta = 0; frames = 1 }

    go : (a v : Bool) → (if a && v then pool_size_of s setting else no_pool) ≡ pool_for (if a then (if v then Some (target_of s setting) else None) else None)
    go false v = refl
    go true false = refl
    go true true = refl

own_from-split : (ps : List ℕ) (k : ℕ) (xs ys : List Entry) → own_from party_of ps k (xs ++ ys) ≡ own_from party_of ps k xs ++ own_from party_of ps (k + length xs) ys
own_from-split ps k [] ys = ap (λ n. own_from party_of ps n ys) (omega arith)
own_from-split ps k (x ∷ xs) ys =
    let i : own_from party_of ps (k + 1) (xs ++ ys) ≡ own_from party_of ps (k + 1) xs ++ own_from party_of ps (k + length (x ∷ xs)) ys
    = own_from-split ps (k + 1) xs ys ∙ ap (λ n. own_from party_of ps (k + 1) xs ++ own_from party_of ps n ys) (omega arith) in
    ⊎_elim (λ y. rw y (ap (λ l. (k, x) ∷ l) i)) (λ n. rw n i) (yes_or_no (is_among (party_of x) ps))

no_more : {A : Type 0} (xs zs : List A) → xs ≡ xs ++ zs → zs ≡ []
no_more xs [] e = refl
no_more xs (z ∷ zs) e = absurd (omega (arith, ap length e, length-append xs (z ∷ zs)))

-- entries that are none of these parties' are none of this one's
quiet_others : (ps : List ℕ) (k who : ℕ) (ys : List Entry) → is_among who ps ≡ true → own_from party_of ps k ys ≡ [] → AllOthers who ys
quiet_others ps k who [] own none = tt
quiet_others ps k who (y ∷ ys) own none = ⊎_elim
    (λ among. absurd (omega (arith, ap length (sym (ap (λ b. cond b ((k, y) ∷ own_from party_of ps (k + 1) ys) (own_from party_of ps (k + 1) ys)) among) ∙ none))))
    (λ apart. ((λ is. both_ways (is_among (party_of y) ps) apart (ap (λ n. is_among n ps) is ∙ own)), quiet_others ps (k + 1) who ys own (sym (ap (λ b. cond b ((k, y) ∷ own_from party_of ps (k + 1) ys) (own_from party_of ps (k + 1) ys)) apart) ∙ none)))
    (yes_or_no (is_among (party_of y) ps))

module _ (lock : TableId) (p m q : PassValue) (s : Standing) (hand : IsInHand lock s p) (party : Party) (some : s.party ≡ Some party) (setting : Setting) (size : PoolSize) (admin : Bool) (status : StatusView)
    (look : Looks (known p) (known m) (λ x k. (status ≡ status_of x) × (admin ≡ is_admin x (session_of p)))) (follows : Follows p m) (own : is_among (session_of p) (known p).parties ≡ true) (sized : size ≡ size_made admin status setting) where
  hand_then : IsInHand lock s m
  hand_then = stays lock p m s hand s.step (let l : s.step ≤ length (known p).seen = hand.step in let k : length (known p).seen ≤ length (known m).seen = longer_of (known p).seen (known m).seen follows.seen in omega arith) follows.lock follows.session (λ ids had. unfinished_follow p m ids follows had)

  who : session_of m ≡ party.number
  who = numbered lock m q s hand_then party some

  first_who : session_of p ≡ party.number
  first_who = numbered lock p m s hand party some

  seen_is : (known m).seen ≡ look.manager.history
  seen_is = ap (λ (v : View). v.seen) look.view

  stepped : status.step ≡ length (known m).seen
  stepped = ap (λ (v : StatusView). v.step) look.told.0 ∙ looked_step (known p) (known m) (λ x k. (status ≡ status_of x) × (admin ≡ is_admin x (session_of p))) look

  -- the size is that of the pool that the state looked at asks for
  made_by : size ≡ pool_made look.manager.state party.number setting
  made_by = sized ∙ (ap (λ (v : StatusView). size_made admin v setting) look.told.0 ∙ (ap (λ (b : Bool). size_made b (status_of look.manager.state) setting) look.told.1
      ∙ (ap (λ (n : ℕ). size_made (is_admin look.manager.state n) (status_of look.manager.state) setting) first_who ∙ made_same look.manager.state party.number setting)))

  pub pooled : (outcome : Result Changed Refused) → (lock_at q ≡ lock_at m) × (q.session ≡ m.session)
      → Makes (known m) (known q) (λ x. session_of m) (Onmode setting) (λ x. answer_to_change x (session_of m) setting size) (λ x k. IsChanged (answer_to_change x (session_of m) setting size) k outcome)
      → AddsNone m q → Comes lock p q s (asked.Change setting) (pooled_reply setting status.step outcome)
  pooled (Ok o) same makes adds =
      let found : MadeEntry (known m) (known q) (session_of m) (Onmode setting) (reply.Changed o.pending)
      = turn_entered (known m) (known q) makes.manager (session_of m) (Onmode setting) (answer_to_change makes.manager.state (session_of m) setting size) (reply.Changed o.pending) makes.turn makes.told.told in
      let e : MadeEntry (known m) (known q) party.number (Onmode setting) (reply.Changed o.pending) = subst (λ (k : ℕ). MadeEntry (known m) (known q) k (Onmode setting) (reply.Changed o.pending)) who found in
      let at : length (known q).seen ≡ o.step = sym makes.told.at in
      record {
        answered = record {
          right = λ c origin. by_party lock m q s hand_then (asked.Change setting) (told.Changed setting o.pending o.step) (Some party) some c
              (refl, subst (λ (k : ℕ). IsEntered (known q).seen s.step k (entry_of party.number (Onmode setting) (reply.Changed o.pending))) at (e.entered s.step hand_then.step));
          entries = e.mine ∙ (ap (λ l. l ++ (length (known q).seen, entry_of party.number (Onmode setting) (reply.Changed o.pending)) ∷ []) follows.mine
              ∙ (ap (λ (k : ℕ). (known p).mine ++ (k, entry_of party.number (Onmode setting) (reply.Changed o.pending)) ∷ []) at
              ∙ ap (λ (n : ℕ). (known p).mine ++ (o.step, entry_of n (Onmode setting) (reply.Changed o.pending)) ∷ []) (sym (same_number lock p q s hand party some))));
          seen = prefix_on (known p).seen (known m).seen (known q).seen follows.seen e.went.seen;
          origin = e.went.origin ∙ follows.origin;
        };
        hand = stays lock m q s hand_then o.step (let l : o.step ≤ length (known q).seen = omega (arith, at) in l) same.0 same.1 adds;
      }
  pooled (Err r) same makes adds =
      let n : MadeNone (known m) (known q) (λ x. answer_to_change x (session_of m) setting size ≡ Refuses r.why)
      = turn_refused (known m) (known q) makes.manager (session_of m) (Onmode setting) (answer_to_change makes.manager.state (session_of m) setting size) (λ x. answer_to_change x (session_of m) setting size ≡ Refuses r.why) r.why makes.turn makes.told.told (sym makes.told.told) in
      let at : length (known q).seen ≡ r.step = sym makes.told.at in
      record {
        answered = record {
          right = λ c origin. by_party lock m q s hand_then (asked.Change setting) (told.ChangeRefused r.why status.step r.step) (Some party) some c
              (refused c origin r n at makes.manager (ap (λ (v : View). v.seen) (makes.turn.view ∙ ap (view_after (known m) makes.manager.history (session_of m) (Onmode setting)) (sym makes.told.told))) makes.turn.finds);
          entries = n.mine ∙ (follows.mine ∙ sym (append-nil (known p).mine));
          seen = prefix_on (known p).seen (known m).seen (known q).seen follows.seen n.went.seen;
          origin = n.went.origin ∙ follows.origin;
        };
        hand = stays lock m q s hand_then r.step (let l : r.step ≤ length (known q).seen = omega (arith, at) in l) same.0 same.1 adds;
      }
    where
      refused : (c : Configuration) → (known p).origin ≡ Some c → (r : Refused) → MadeNone (known m) (known q) (λ x. answer_to_change x (session_of m) setting size ≡ Refuses r.why) → length (known q).seen ≡ r.step
          → (x : ManagerView) → (known q).seen ≡ x.history → Finds (known m) x
          → (s.step ≤ status.step) × (status.step ≤ r.step) × IsStep (known q).seen s.step r.step × (answer_to_change (state_at c (known q).seen r.step) party.number setting (pool_made (state_at c (known q).seen status.step) party.number setting) ≡ Refuses r.why) × HasPoolCause (known q).seen party.number s.step r.step r.why
      refused c origin r n at x e finds =
          let prefix : IsPrefix (known m).seen (known q).seen = n.went.seen in
          let more : List Entry = finds.found.seen.0 in
          let joined : (known m).seen ++ more ≡ (known q).seen = finds.found.seen.1 ∙ sym e in
          let opened : x.opening ≡ c = opening_is (known m) x finds c (follows.origin ∙ origin) in
          let first_opened : look.manager.opening ≡ c = opening_is (known p) look.manager look.finds c origin in
          let looked_at : look.manager.state ≡ replay c (known m).seen = look.finds.replayed ∙ (ap (λ (d : Configuration). replay d look.manager.history) first_opened ∙ ap (replay c) (sym seen_is)) in
          let there : state_at c (known q).seen status.step ≡ replay c (known m).seen =
          states_stay c (known m).seen (known q).seen status.step prefix (omega (arith, stepped)) ∙ (ap (state_at c (known m).seen) stepped ∙ state_here c (known m).seen) in
          let long : length (known m).seen ≤ length (known q).seen = longer_of (known m).seen (known q).seen prefix in
          let old : s.step ≤ length (known m).seen = hand_then.step in
          let made : size ≡ pool_made (replay c (known m).seen) party.number setting = made_by ∙ ap (λ (t : State). pool_made t party.number setting) looked_at in
          let answered : answer_to_change (state_at c (known q).seen (length (known q).seen)) party.number setting size ≡ Refuses r.why =
          subst (λ (w : ℕ). answer_to_change (state_at c (known q).seen (length (known q).seen)) w setting size ≡ Refuses r.why) who (n.state c (follows.origin ∙ origin)) in (
            omega (arith, stepped, old),
            omega (arith, stepped, long, at),
            subst (λ (k : ℕ). IsStep (known q).seen s.step k) at (n.at s.step old),
            subst (λ (k : ℕ). answer_to_change (state_at c (known q).seen k) party.number setting (pool_made (state_at c (known q).seen status.step) party.number setting) ≡ Refuses r.why) at
                (subst (λ (z : PoolSize). answer_to_change (state_at c (known q).seen (length (known q).seen)) party.number setting z ≡ Refuses r.why) (made ∙ ap (λ (t : State). pool_made t party.number setting) (sym there)) answered),
            cause c r.why r.step more joined old at
                (subst (λ (d : Configuration). IsLegal d ((known m).seen ++ more)) opened (subst (λ (h : List Entry). IsLegal x.opening h) (sym finds.found.seen.1) finds.found.legal))
                (others x more finds.found.seen.1 finds.found.mine)
                (subst (λ (t : State). answer_to_change t party.number setting (pool_made (replay c (known m).seen) party.number setting) ≡ Refuses r.why) (state_here c (known q).seen ∙ ap (replay c) (sym joined))
                (subst (λ (z : PoolSize). answer_to_change (state_at c (known q).seen (length (known q).seen)) party.number setting z ≡ Refuses r.why) made answered)),
          )
        where
          others : (x : ManagerView) (more : List Entry) → (known m).seen ++ more ≡ x.history → (known m).mine ≡ own_entries party_of (known m).parties x.history → AllOthers party.number more
          others x more is mine =
              let before : (known m).mine ≡ own_entries party_of (known m).parties (known m).seen =
              follows.mine ∙ (look.finds.found.mine ∙ (ap (λ (ps : List ℕ). own_entries party_of ps look.manager.history) (sym follows.parties) ∙ ap (own_entries party_of (known m).parties) (sym seen_is))) in
              let split : own_entries party_of (known m).parties (known m).seen ≡ own_entries party_of (known m).parties (known m).seen ++ own_from party_of (known m).parties (1 + length (known m).seen) more =
              sym before ∙ (mine ∙ (ap (own_entries party_of (known m).parties) (sym is) ∙ own_from-split (known m).parties 1 (known m).seen more)) in
              quiet_others (known m).parties (1 + length (known m).seen) party.number more
              (subst (λ (ps : List ℕ). is_among party.number ps ≡ true) (sym follows.parties) (subst (λ (k : ℕ). is_among k (known p).parties ≡ true) first_who own))
              (no_more (own_entries party_of (known m).parties (known m).seen) (own_from party_of (known m).parties (1 + length (known m).seen) more) split)

          cause : (c : Configuration) (reason : Why) (step : ℕ) (more : List Entry) → (known m).seen ++ more ≡ (known q).seen → s.step ≤ length (known m).seen → length (known q).seen ≡ step → IsLegal c ((known m).seen ++ more) → AllOthers party.number more
              → answer_to_change (replay c ((known m).seen ++ more)) party.number setting (pool_made (replay c (known m).seen) party.number setting) ≡ Refuses reason → HasPoolCause (known q).seen party.number s.step step reason
          cause c (why.PoolSize quanta frames) step more joined old at legal others e =
              subst (λ (k : ℕ). IsChangedByAnother (known q).seen party.number s.step k) at
              (subst (λ (h : List Entry). IsChangedByAnother h party.number s.step (length h)) joined (pool_cause c (known m).seen more party.number s.step quanta frames setting legal others old e))
          cause c why.QueueFull step more joined old at legal others e = tt
          cause c why.JournalFull step more joined old at legal others e = tt
          cause c why.NotAllowed step more joined old at legal others e = tt
          cause c why.NoSuchQuery step more joined old at legal others e = tt
          cause c why.BadValue step more joined old at legal others e = tt
          cause c why.AlreadyCancelled step more joined old at legal others e = tt
          cause c why.TooManySessions step more joined old at legal others e = tt
