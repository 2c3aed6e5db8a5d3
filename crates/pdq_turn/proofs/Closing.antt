-- The lock as it is made, and as it is closed.
use Rattle.std.proofs.Common.{◌⊎◌, inr, true, ◌<◌, ◌≤◌, ◌≡◌, ℕ, zero, suc, List, [], ◌∷◌, length, get_or, sym, refl, ap, ◌∙◌, subst, inl, ⊎_elim, arith, Option, Some, None}
use Rattle.std.proofs.lemmas.List.{append-nil}
use mathlib.Core.List.{IsPrefix}
use mathlib.Core.Option as maybe
use mathlib.Core.Option.{some, some-injective, some-ne-none}
use lib.ListN.{get_elem?}
use mathlib.Core.Logic.{dite}
use native.Mathlib.Decide.{dec_le}
use Rattle.pdq_turn.proofs.History.{yes_or_no}
use Rattle.pdq_turn.proofs.Tickets.{one_at}
use Rattle.pdq_turn.proofs.SplitsCounted.{split_weight-le-total, split_weight-other}
use Rattle.atomic_table.specs.Table.{opening, Final, Seen}
use Rattle.pdq_turn.specs.declared.view.PassView.{PassView}
use Rattle.pdq_turn.proofs.Quiet.{quiet_since_all_seen}
use Rattle.pdq_turn.specs.LockRule.{is_among, own_entries, ViewHolds, LockHolds, IsAtHome, first_view}
use Rattle.pdq_turn.proofs.Meets.{view_holds_spent}

only : {A : Type 0} (a b : A) (j : ℕ) → get_elem? (a ∷ []) j ≡ some b → (j ≡ 0) × (a ≡ b)
only a b zero e = (refl, some-injective a b e)
only a b (suc j) e = absurd (some-ne-none b (sym e))

below_or_not : (a b : ℕ) → (a < b) ⊎ (b ≤ a)
below_or_not a b = dite (dec_le b a) (λ y. inr y) (λ n. inl (omega arith))

pub at_get : (l : List ℕ) (i n : ℕ) → get_elem? l i ≡ some n → get_or l i 0 ≡ n
at_get [] i n e = absurd (some-ne-none n (sym e))
at_get (x ∷ xs) zero n e = some-injective x n e
at_get (x ∷ xs) (suc i) n e = at_get xs i n e

module _ {S E O : Type 0} (journal : S → List E) (party : E → ℕ) (origin : S → O) where
  pub opens : (x : S) → LockHolds journal party origin (origin x) (opening (0 ∷ 0 ∷ length (journal x) ∷ []) (Some x ∷ []) (first_view (origin x) (journal x)))
  opens x = let o : O = origin x in let log : List E = journal x in let v : PassView E O = first_view o log in let n = view_holds_spent party o log in
      let view_of : ViewHolds party o log v = record { origin = λ p e. cc e; seen = ([], append-nil log); other = n.other; whole = λ e. absurd (cc e); mine = n.mine; entered = n.entered; since = quiet_since_all_seen party log log [] [] refl n.since.had } in
      let T : PassView E O → Type 0 = λ u. u.ticket ≡ None in
      record {
        log = log;
        three = refl;
        tickets = record {
          order = omega arith;
          most = omega arith;
          within = λ j t u a e. absurd (cc (ap (λ (y : PassView E O). y.ticket) (only v u j a).1, e));
          one = λ i j t u y a b e f. (only v u i a).0 ∙ sym (only v y j b).0;
          each = λ t lo hi. absurd (omega arith);
          turn = λ j u a e. absurd (cc (ap (λ (y : PassView E O). y.out) (only v u j a).1, e));
        };
        counted = refl;
        views_hold = λ j u a. subst (ViewHolds party o log) (only v u j a).1 view_of;
        disjoint = λ i j p u y a b c d. (only v u i a).0 ∙ sym (only v y j b).0;
        splits = record {
          first = λ i j u y a b f g. (only v u i a).0 ∙ sym (only v y j b).0;
          few = λ j u a f. omega (arith, ap (λ (z : PassView E O). z.given) (only v u j a).1);
          spent = λ j u a e. absurd (cc (ap (λ (z : PassView E O). z.origin) (only v u j a).1, e));
        };
        ended_gone = λ i j p u y a b c. ap (λ (z : PassView E O). is_among p z.parties) (sym (only v y j b).1);
        home = inl (x, refl, refl, refl);
      }

  -- what is known of a lock that is closed with no ticket out
  pub record Ended (v : PassView E O) (homes : List (maybe.Option (Option S))) (xs : List (Option S)) : Type 0 where
    pub state : S
    pub at : get_elem? xs 0 ≡ some (Some state)
    pub home : get_elem? homes 0 ≡ some (some (Some state))
    pub seen : IsPrefix v.seen (journal state)
    pub mine : v.mine ≡ own_entries party v.parties (journal state)
    pub origin_is : (p : O) → v.origin ≡ Some p → origin state ≡ p
    pub no_ticket : v.ticket ≡ None

  -- the words that the table is closed with are those of its last state
  -- where the first pass has met all that it gave, and has no ticket, none is out
  pub closes_once_met : (o : O) (id : ℕ) (v : PassView E O) (ws : List ℕ) (xs : List (Option S)) (a b : ℕ) → Final (Seen (LockHolds journal party origin o) id v) ws xs → get_elem? ws 0 ≡ some a → get_elem? ws 1 ≡ some b
      → v.is_first ≡ true → v.given ≡ 0 → v.ticket ≡ None → a ≡ b
  closes_once_met o id v ws xs a b f at0 at1 is_first none_given no_ticket = let s = f.0 in let r = f.1.0 in let here = f.1.1 in
      let next : ℕ = get_or s.words 0 0 in let served : ℕ = get_or s.words 1 0 in
      let n : next ≡ a = ap (λ (l : List ℕ). get_or l 0 0) f.2 ∙ at_get ws 0 a at0 in
      let m : served ≡ b = ap (λ (l : List ℕ). get_or l 1 0) f.2 ∙ at_get ws 1 b at1 in
      let le = r.tickets.order in
      let none_out : served < next → ⊥ = λ lt. let h = r.tickets.each served (omega arith) lt in
      let few = r.splits.few id v here is_first in
      ⊎_elim
      (λ y. absurd (cc (no_ticket, ap (λ (z : PassView E O). z.ticket) (one_at s.views id v h.1 here (subst (λ (i : ℕ). get_elem? s.views i ≡ some h.1) (r.splits.first h.0 id h.1 v h.2 here y is_first) h.2)), h.3)))
      (λ g. live_one h.1.origin (λ e. absurd (cc ((r.splits.spent h.0 h.1 h.2 e).0, h.3))) (λ p e. let w = split_weight-other h.1 p g e in let has = split_weight-le-total s.views h.0 h.1 h.2 in absurd (omega (arith, few, none_given, w, has)))) (yes_or_no h.1.is_first) in
      ⊎_elim (λ lt. absurd (none_out lt)) (λ ge. omega (arith, le, n, m, ge)) (below_or_not served next)
    where
      live_one : (q : Option O) → (q ≡ None → ⊥) → ((p : O) → q ≡ Some p → ⊥) → ⊥
      live_one None h k = h refl
      live_one (Some p) h k = k p refl

  pub last_words : (o : O) (id : ℕ) (v : PassView E O) (ws : List ℕ) (xs : List (Option S)) (a b : ℕ) (f : Final (Seen (LockHolds journal party origin o) id v) ws xs) → get_elem? ws 0 ≡ some a → get_elem? ws 1 ≡ some b
      → (get_or f.0.words 0 0 ≡ a) × (get_or f.0.words 1 0 ≡ b)
  last_words o id v ws xs a b f at0 at1 = (ap (λ (l : List ℕ). get_or l 0 0) f.2 ∙ at_get ws 0 a at0, ap (λ (l : List ℕ). get_or l 1 0) f.2 ∙ at_get ws 1 b at1)

  pub closes : (o : O) (id : ℕ) (v : PassView E O) (ws : List ℕ) (xs : List (Option S)) (a b : ℕ) (f : Final (Seen (LockHolds journal party origin o) id v) ws xs) → get_elem? ws 0 ≡ some a → get_elem? ws 1 ≡ some b → a ≡ b → Ended v f.0.homes xs
  closes o id v ws xs a b f at0 at1 same = let s = f.0 in let r = f.1.0 in let here = f.1.1 in
      let next : ℕ = get_or s.words 0 0 in let served : ℕ = get_or s.words 1 0 in
      let all : next ≡ served = ap (λ (l : List ℕ). get_or l 0 0) f.2 ∙ (at_get ws 0 a at0 ∙ (same ∙ (sym (at_get ws 1 b at1) ∙ ap (λ (l : List ℕ). get_or l 1 0) (sym f.2)))) in
      let none_out : (j t : ℕ) (u : PassView E O) → get_elem? s.views j ≡ some u → u.ticket ≡ Some t → ⊥ = λ j t u at e. let w = r.tickets.within j t u at e in omega (arith, all, w.0, w.1) in
      let home : IsAtHome journal party origin o r.log s = ⊎_elim (λ h. h) (λ h. absurd (none_out h.0 served h.1 h.2 (r.tickets.turn h.0 h.1 h.2 h.3))) r.home in
      let k : ViewHolds party o r.log v = r.views_hold id v here in
      record {
        state = home.0;
        at = f.4 0 (Some home.0) home.1;
        home = home.1;
        seen = subst (IsPrefix v.seen) (sym home.2) k.seen;
        mine = k.mine ∙ ap (own_entries party v.parties) (sym home.2);
        origin_is = λ p e. home.3 ∙ sym (k.origin p e);
        no_ticket = no_ticket_of v.ticket (λ t e. none_out id t v here e);
      }
    where
      no_ticket_of : (q : Option ℕ) → ((t : ℕ) → q ≡ Some t → ⊥) → q ≡ None
      no_ticket_of None h = refl
      no_ticket_of (Some t) h = absurd (h t refl)
