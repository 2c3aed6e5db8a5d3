-- A pass is split, and two serves meet.
use Rattle.std.proofs.Common.{◌≡◌, ◌≢◌, ℕ, ◌+◌, ◌≤◌, List, [], ◌∷◌, ◌++◌, length, set, get_or, sym, refl, ap, ◌∙◌, subst, inl, inr, ⊎_elim, arith, Option, Some, None, true, false, length-set, get_or-set_other}
use Rattle.std.specs.Prelude.{nat_lt}
use Rattle.std.proofs.lemmas.List.{set-get_or, append-nil}
use mathlib.Core.List.{IsPrefix}
use mathlib.Core.Option.{some, none}
use lib.ListN.{get_elem?}
use Rattle.atomic_table.specs.Table.{Me, step, keeps, Allows, Splits, Joins}
use Rattle.atomic_table.proofs.Lists.{set_here, at_set, set_else, at_snoc, at_longer}
use Rattle.pdq_turn.specs.declared.view.PassView.{PassView}
use Rattle.pdq_turn.specs.LockRule.{is_among, own_entries, DisjointParties, TicketsHold, ViewHolds, LockHolds, IsAtHome, IsOut, split_view, view_after_split, longer, shorter, joined_view, spent_view, Compares}
use Rattle.pdq_turn.proofs.Tickets.{below_length, one_at, tickets_hold_same}
use Rattle.pdq_turn.proofs.History.{yes_or_no}
use Rattle.std.proofs.Common.{drop}
use Rattle.pdq_turn.proofs.Quiet.{is_quiet-no_parties, quiet_since_joined, ended_parties_gone_same, ended_parties_gone_split, ended_parties_gone_joined}
use Rattle.pdq_turn.proofs.SplitsCounted.{same_or_not, splits_counted_same, splits_counted_split, splits_counted_joined}
use Rattle.pdq_turn.proofs.Steps.{each_view_after, disjoint_parties_same}

pub prefix_shorter : {A : Type 0} (xs ys zs : List A) → IsPrefix xs zs → IsPrefix ys zs → length xs ≤ length ys → IsPrefix xs ys
prefix_shorter [] ys zs p q le = (ys, refl)
prefix_shorter (x ∷ xs) [] zs p q le = absurd (omega arith)
prefix_shorter (x ∷ xs) (y ∷ ys) [] p q le = absurd (cc (p.1))
prefix_shorter (x ∷ xs) (y ∷ ys) (z ∷ zs) p q le =
    let heads : x ≡ y = cc (p.1, q.1) in
    let rest = prefix_shorter xs ys zs (p.0, cc (p.1)) (q.0, cc (q.1)) (omega arith) in
    (rest.0, cc (heads, rest.1))

pub prefix_self : {A : Type 0} (xs : List A) → IsPrefix xs xs
prefix_self xs = ([], append-nil xs)

module _ {A : Type 0} (zs xs ys : List A) where
  pub longer_begins : IsPrefix xs zs → IsPrefix ys zs → IsPrefix (longer xs ys) zs
  longer_begins p q = ⊎_elim (λ y. rw y q) (λ n. rw n p) (yes_or_no (nat_lt (length xs) (length ys)))

  pub shorter_begins : IsPrefix xs zs → IsPrefix ys zs → IsPrefix (shorter xs ys) zs
  shorter_begins p q = ⊎_elim (λ y. rw y p) (λ n. rw n q) (yes_or_no (nat_lt (length xs) (length ys)))

module _ {A : Type 0} (xs ys : List A) where
  pub shorter_length : length (shorter xs ys) ≤ length (longer xs ys)
  shorter_length = ⊎_elim (λ y. rw y (grind arith)) (λ n. rw n (grind arith)) (yes_or_no (nat_lt (length xs) (length ys)))

  -- both begin the longer
  pub both_begin : IsPrefix (shorter xs ys) (longer xs ys) → IsPrefix xs (longer xs ys) × IsPrefix ys (longer xs ys)
  both_begin p = ⊎_elim
      (λ y. (rw y (let q : IsPrefix xs ys = rw y at p in q), rw y (prefix_self ys)))
      (λ n. (rw n (prefix_self xs), rw n (let q : IsPrefix ys xs = rw n at p in q))) (yes_or_no (nat_lt (length xs) (length ys)))

module _ {E O : Type 0} where
  -- a new seat with no ticket
  pub tickets_hold_split : (next served : ℕ) (views : List (PassView E O)) (w : PassView E O) → w.ticket ≡ None → w.out ≡ false → TicketsHold next served views → TicketsHold next served (views ++ w ∷ [])
  tickets_hold_split next served views w gone in_turn k =
      let old : (j t : ℕ) (u : PassView E O) → get_elem? (views ++ w ∷ []) j ≡ some u → u.ticket ≡ Some t → get_elem? views j ≡ some u = λ j t u a e.
      ⊎_elim (λ h. h) (λ h. absurd (cc (gone, ap (λ (y : PassView E O). y.ticket) h, e))) (at_snoc views w u j a) in
      record {
        order = k.order;
        most = k.most;
        within = λ j t u a e. k.within j t u (old j t u a e) e;
        one = λ i j t u x a b e f. k.one i j t u x (old i t u a e) (old j t x b f) e f;
        each = λ t lo hi. let h = k.each t lo hi in (h.0, h.1, at_longer views (w ∷ []) h.0 h.1 h.2, h.3);
        turn = λ j u a o. ⊎_elim (λ h. k.turn j u h o) (λ h. absurd (cc (in_turn, ap (λ (y : PassView E O). y.out) h, o))) (at_snoc views w u j a);
      }

  pub disjoint_parties_split : (views : List (PassView E O)) (w : PassView E O) → w.parties ≡ [] → DisjointParties views → DisjointParties (views ++ w ∷ [])
  disjoint_parties_split views w gone apart i j p u x a b c d =
      let old : (n : ℕ) (y : PassView E O) → get_elem? (views ++ w ∷ []) n ≡ some y → is_among p y.parties ≡ true → get_elem? views n ≡ some y = λ n y f g.
      ⊎_elim (λ h. h) (λ h. absurd (cc (ap (is_among p) (sym gone ∙ ap (λ (z : PassView E O). z.parties) h) ∙ g))) (at_snoc views w y n f) in
      apart i j p u x (old i u a c) (old j x b d) c d

  -- a seat that gives its parties up
  pub disjoint_parties_given_up : (views : List (PassView E O)) (id : ℕ) (w : PassView E O) → w.parties ≡ [] → DisjointParties views → DisjointParties (set views id w)
  disjoint_parties_given_up views id w gone apart i j p u x a b c d =
      let old : (n : ℕ) (y : PassView E O) → get_elem? (set views id w) n ≡ some y → is_among p y.parties ≡ true → get_elem? views n ≡ some y = λ n y f g.
      ⊎_elim (λ h. absurd (cc (ap (is_among p) (sym gone ∙ ap (λ (z : PassView E O). z.parties) h.1) ∙ g))) (λ h. h.1) (at_set views id n w y f) in
      apart i j p u x (old i u a c) (old j x b d) c d

  pub view_holds_spent : (party : E → ℕ) (o : O) (log : List E) → ViewHolds party o log spent_view
  view_holds_spent party o log = record { origin = λ p e. absurd (cc e); seen = (log, refl); other = (log, refl); whole = λ e. absurd (cc e); mine = sym (own_none 1 log); entered = λ p h. absurd (cc h); since = record { ended_quiet = is_quiet-no_parties party (drop 0 log); own_quiet = is_quiet-no_parties party (drop 0 log); had = λ p h. absurd (cc h) } }
    where
      own_none : (k : ℕ) (es : List E) → Rattle.pdq_turn.specs.LockRule.own_from party [] k es ≡ []
      own_none k [] = refl
      own_none k (x ∷ xs) = own_none (k + 1) xs

  pub view_holds_split : (party : E → ℕ) (o : O) (log : List E) (v : PassView E O) → ViewHolds party o log v → ViewHolds party o log (split_view v)
  view_holds_split party o log v k = let n = view_holds_spent party o log in
      record { origin = k.origin; seen = k.seen; other = n.other; whole = λ e. absurd (cc e); mine = n.mine; entered = n.entered; since = record { ended_quiet = is_quiet-no_parties party (drop (length v.seen) log); own_quiet = is_quiet-no_parties party (drop (length v.seen) log); had = n.since.had } }

module _ {S E O : Type 0} (journal : S → List E) (party : E → ℕ) (origin : S → O) (o : O) where
  pub splits : (id : ℕ) (v : PassView E O) (p : O) → v.origin ≡ Some p → v.is_first ≡ true → Splits (LockHolds journal party origin o) id v (view_after_split v) (split_view v)
  splits id v p live is_first s r at =
      let k = r.views_hold id v at in let g : PassView E O = view_after_split v in let views : List (PassView E O) = set s.views id g in
      let turn : g.out ≡ true → g.ticket ≡ Some (get_or s.words 1 0) = λ e. r.tickets.turn id v at e in
      let known1 : (j : ℕ) (u : PassView E O) → get_elem? views j ≡ some u → ViewHolds party o r.log u = each_view_after (ViewHolds party o r.log) s.views id g
      (record { origin = k.origin; seen = k.seen; other = k.other; whole = k.whole; mine = k.mine; entered = k.entered; since = k.since }) r.views_hold in
      record {
        log = r.log;
        three = r.three;
        tickets = tickets_hold_split (get_or s.words 0 0) (get_or s.words 1 0) views (split_view v) refl refl (tickets_hold_same (get_or s.words 0 0) (get_or s.words 1 0) id s.views v at r.tickets g refl turn);
        counted = r.counted;
        views_hold = λ j u a. ⊎_elim (λ h. known1 j u h) (λ h. subst (ViewHolds party o r.log) h (view_holds_split party o r.log v k)) (at_snoc views (split_view v) u j a);
        disjoint = disjoint_parties_split views (split_view v) refl (disjoint_parties_same s.views id v g at refl r.disjoint);
        ended_gone = ended_parties_gone_split views (split_view v) refl refl (ended_parties_gone_same s.views id v g at refl refl r.ended_gone);
        splits = splits_counted_split s.views id v at p live is_first r.splits;
        home = ⊎_elim (λ h. inl h) (λ h. ⊎_elim
            (λ (is : h.0 ≡ id). inr (id, g, at_longer views (split_view v ∷ []) id g (set_here s.views id g (below_length s.views id v at)), ap (λ (y : PassView E O). y.out) (one_at s.views id v h.1 at (subst (λ (i : ℕ). get_elem? s.views i ≡ some h.1) is h.2)) ∙ h.3))
            (λ (ne : h.0 ≢ id). inr (h.0, h.1, at_longer views (split_view v ∷ []) h.0 h.1 (set_else s.views id h.0 g ne ∙ h.2), h.3)) (same_or_not h.0 id)) r.home;
      }

  pub joins : (id : ℕ) (v : PassView E O) (other : ℕ) (w : PassView E O) → w.ticket ≡ None → (q : O) → w.origin ≡ Some q → w.out ≡ false → v.out ≡ false → Joins (LockHolds journal party origin o) id v other w (joined_view v w) spent_view
  joins id v other w gone q live w_in v_in s r at apart at' =
      let b : PassView E O = joined_view v w in
      let views' = set s.views id b in
      let theirs : get_elem? s.views other ≡ some w = sym (set_else s.views id other b apart) ∙ at' in
      let k = r.views_hold id v at in let l = r.views_hold other w theirs in
      let t1 : TicketsHold (get_or s.words 0 0) (get_or s.words 1 0) views' = tickets_hold_same (get_or s.words 0 0) (get_or s.words 1 0) id s.views v at r.tickets b refl (λ e. absurd (cc (v_in, e))) in
      let known1 : (j : ℕ) (u : PassView E O) → get_elem? views' j ≡ some u → ViewHolds party o r.log u = each_view_after (ViewHolds party o r.log) s.views id b
      (record { origin = k.origin; seen = longer_begins r.log v.seen w.seen k.seen l.seen; other = shorter_begins r.log v.seen w.seen k.seen l.seen; whole = λ e. absurd (cc (v_in, e)); mine = k.mine; entered = k.entered; since = quiet_since_joined party r.log v.seen w.seen v.parties v.ended w.parties w.ended l.entered k.since l.since }) r.views_hold in
      let apart1 : DisjointParties views' = disjoint_parties_same s.views id v b at refl r.disjoint in
      record {
        log = r.log;
        three = r.three;
        tickets = tickets_hold_same (get_or s.words 0 0) (get_or s.words 1 0) other views' w at' t1 spent_view (sym gone) (λ e. absurd (cc e));
        counted = r.counted;
        views_hold = each_view_after (ViewHolds party o r.log) views' other spent_view (view_holds_spent party o r.log) known1;
        disjoint = disjoint_parties_given_up views' other spent_view refl apart1;
        ended_gone = ended_parties_gone_joined s.views id v other w at theirs apart r.disjoint r.ended_gone;
        splits = splits_counted_joined s.views id v other w at theirs apart q live r.splits;
        home = ⊎_elim (λ h. inl h) (λ h.
            let not_id : h.0 ≢ id = λ is. absurd (cc (v_in, ap (λ (y : PassView E O). y.out) (one_at s.views id v h.1 at (subst (λ (i : ℕ). get_elem? s.views i ≡ some h.1) is h.2)), h.3)) in
            let not_other : h.0 ≢ other = λ is. absurd (cc (w_in, ap (λ (y : PassView E O). y.out) (one_at s.views other w h.1 theirs (subst (λ (i : ℕ). get_elem? s.views i ≡ some h.1) is h.2)), h.3)) in
            inr (h.0, h.1, set_else views' other h.0 spent_view not_other ∙ (set_else s.views id h.0 b not_id ∙ h.2), h.3)) r.home;
      }

  pub compares : (slots id : ℕ) (me : Me (Option S) (PassView E O)) → me.0.out ≡ false → length me.0.other ≤ length me.0.seen
      → Allows (LockHolds journal party origin o) slots id me 1 (λ n. n) (Compares {S = S} (step slots 1 0 0 none) me)
  compares slots id me v_in le s r long at small = let three = r.three in let k = r.views_hold id me.0 at in let n : ℕ = get_or s.words 1 0 in
      let w : PassView E O = record me.0 { other = [] } in (
        w,
        keeps,
        tt,
        record {
          log = r.log;
          three = length-set s.words 1 n ∙ three;
          tickets = subst (λ (q : List ℕ). TicketsHold (get_or q 0 0) (get_or q 1 0) (set s.views id w)) (sym (set-get_or s.words 1 0))
              (tickets_hold_same (get_or s.words 0 0) (get_or s.words 1 0) id s.views me.0 at r.tickets w refl (λ e. absurd (cc (v_in, e))));
          counted = get_or-set_other s.words 1 2 n 0 (omega arith) ∙ r.counted;
          views_hold = each_view_after (ViewHolds party o r.log) s.views id w (record { origin = k.origin; seen = k.seen; other = (r.log, refl); whole = k.whole; mine = k.mine; entered = k.entered; since = k.since }) r.views_hold;
          disjoint = disjoint_parties_same s.views id me.0 w at refl r.disjoint;
          ended_gone = ended_parties_gone_same s.views id me.0 w at refl refl r.ended_gone;
          splits = splits_counted_same s.views id me.0 w at refl refl refl (r.splits.spent id me.0 at) r.splits;
          home = ⊎_elim (λ h. inl h) (λ h. let other : h.0 ≢ id = λ is. absurd (cc (v_in, ap (λ (y : PassView E O). y.out) (one_at s.views id me.0 h.1 at (subst (λ (i : ℕ). get_elem? s.views i ≡ some h.1) is h.2)), h.3)) in
              inr (h.0, h.1, set_else s.views id h.0 w other ∙ h.2, h.3)) r.home;
        },
        (prefix_shorter me.0.other me.0.seen r.log k.other k.seen le, refl),
      )
