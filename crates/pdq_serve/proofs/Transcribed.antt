-- The end of a session, and its transcript.
use Rattle.std.proofs.Common.{ℕ, ◌≡◌, ◌∙◌, ◌≤◌, List, [], ◌∷◌, ◌++◌, length, take, Option, None, Some, true, refl, sym, ap, subst, append_assoc, inl, inr}
use Rattle.std.specs.Prelude.{Result, Ok, Err, IsOk}
use Rattle.std.proofs.lemmas.List.{append-nil}
use Rattle.std.proofs.lemmas.Option.{none-some}
use Rattle.atomic_table.specs.Seated.{TableId}
use Rattle.pdq_edge.specs.Bytes.{Grows, GrewSome}
use Rattle.pdq_model.specs.declared.events.Entry.{Entry}
use Rattle.pdq_model.specs.declared.events.Event.TheVariants.{CloseSession}
use Rattle.pdq_model.specs.declared.events.Reply.TheVariants as reply
use Rattle.pdq_model.specs.declared.events.Answer.TheVariants.{Entered}
use Rattle.pdq_model.specs.Configuration.{Configuration}
use Rattle.pdq_model.specs.Step.{decide}
use Rattle.pdq_office.specs.PassValue.{PassValue}
use Rattle.pdq_office.specs.Passes.{lock_at, known, session_of}
use Rattle.pdq_office.specs.Turns.{Makes}
use Rattle.pdq_talk.specs.declared.replied.Party.{Party}
use Rattle.pdq_talk.specs.declared.replied.Standing.{Standing}
use Rattle.pdq_talk.specs.History.{entry_of}
use Rattle.pdq_talk.specs.Lines.{Asked, IsEntered, number_of}
use Rattle.pdq_talk.specs.Session.{Exchange, AreReplies, IsEndedBy, IsClose, IsLast, IsAbandoned, LastLine, at_first, close_text, close_entries, entries_from, last_entries, last_text, standing_at, text_of}
use Rattle.pdq_talk.proofs.Growing.{replies_stay}
use Rattle.pdq_serve.specs.declared.standings.LinesEnd.{LinesEnd}
use Rattle.pdq_serve.specs.declared.standings.LinesEnd.TheVariants as lines_end
use Rattle.pdq_talk.specs.Hand.{IsInHand, session_in}
use Rattle.pdq_talk.specs.Writing.{Wrote}
use Rattle.pdq_serve.specs.Course.{IsOver, before_close, last_of, is_by_line, IsUnderWay, IsClosedBy, IsCloseTold, HasTranscript, HasCutShort, HasTold}
use Rattle.pdq_talk.specs.declared.telling.Break.{Break}
use Rattle.pdq_talk.specs.declared.telling.Break.TheVariants.{Write}
use Rattle.pdq_edge.specs.Causes.{Rose}
use Rattle.pdq_talk.proofs.Turns.{MadeEntry, turn_entered}
use Rattle.pdq_talk.proofs.Plainly.{numbered, same_number}
use Rattle.pdq_serve.proofs.Collected.{most_stays}
use Rattle.pdq_talk.proofs.Writing.{wrote_none, wrote_stop, wrote_then}

-- no session was open
pub closed_none : (at : TableId) (p : PassValue) (s : Standing) → IsInHand at s p → s.party ≡ None → IsClosedBy p p s None
closed_none at p s hand none = record { lock = refl; session = hand.session ∙ ap session_in none; close = none; none = λ e. refl; mine = sym (append-nil (known p).mine); seen = ([], append-nil (known p).seen); origin = refl }

-- one was
pub closed_some : (at : TableId) (p q : PassValue) (s : Standing) (party : Party) (step : ℕ) → IsInHand at s p → s.party ≡ Some party → lock_at q ≡ lock_at p
    → Makes (known p) (known q) (λ x. session_of p) CloseSession (λ x. decide x (session_of p) CloseSession) (λ x k. step ≡ k) → q.session ≡ None → IsClosedBy p q s (Some step)
closed_some at p q s party step hand some same makes closed =
    let found : MadeEntry (known p) (known q) (session_of p) CloseSession reply.Closed = turn_entered (known p) (known q) makes.manager (session_of p) CloseSession (Entered reply.Closed) reply.Closed makes.turn refl in
    let number : session_of p ≡ number_of s.party = numbered at p q s hand party some ∙ sym (same_number at p q s hand party some) in
    let e : MadeEntry (known p) (known q) (number_of s.party) CloseSession reply.Closed = subst (λ (k : ℕ). MadeEntry (known p) (known q) k CloseSession reply.Closed) number found in
    let stepped : length (known q).seen ≡ step = sym makes.told in
    record {
      lock = same;
      session = closed;
      close = subst (λ (k : ℕ). IsEntered (known q).seen s.step k (entry_of (number_of s.party) CloseSession reply.Closed)) stepped (e.entered s.step hand.step);
      none = λ none. absurd (none-some party (sym none ∙ some));
      mine = e.mine ∙ ap (λ (k : ℕ). (known p).mine ++ (k, entry_of (number_of s.party) CloseSession reply.Closed) ∷ []) stepped;
      seen = e.went.seen;
      origin = e.went.origin;
    }

module _ (at : TableId) (start p q : PassValue) (opening steps : ℕ) (s : Standing) (asked : List Asked) (b m a : Option (List ℕ)) (f g h : ℕ) (o : Option ℕ) (c : Configuration) (origin : (known start).origin ≡ Some c) (k : IsClosedBy p q s o) where
  first : Standing
  first = at_first opening steps

  module _ (by : LinesEnd) (told : Result (Unit {0}) Break) (u : IsUnderWay at start p (at_first opening steps) s asked b m f g told (is_by_line by)) where
    abbrev es : List Exchange
    es = u.exchanges

    replied : AreReplies c (known q).seen (at_first opening steps) u.exchanges
    replied = replies_stay c (known p).seen (known q).seen k.seen (at_first opening steps) u.exchanges (u.replies c origin)

    ended : (v : LinesEnd) → IsOver (is_by_line v) u.exchanges → IsEndedBy (last_of v o) u.exchanges
    ended lines_end.Quit is = is
    ended lines_end.Shutdown is = is
    ended lines_end.LineTooLong is = is
    ended other is = is

    lasts : (v : LinesEnd) → (is_by_line v ≡ true → s.party ≡ None) → IsLast (known q).seen s (last_of v o)
    lasts lines_end.Quit closed = closed refl
    lasts lines_end.Shutdown closed = closed refl
    lasts lines_end.LineTooLong closed = k.close
    lasts other closed = k.close

    texts : (v : LinesEnd) → (is_by_line v ≡ true → s.party ≡ None) → before_close v ++ close_text o s ≡ last_text (last_of v o) s
    texts lines_end.Quit closed = ap (λ (x : Option ℕ). close_text x s) (k.none (closed refl))
    texts lines_end.Shutdown closed = ap (λ (x : Option ℕ). close_text x s) (k.none (closed refl))
    texts lines_end.LineTooLong closed = refl
    texts other closed = refl

    speaks : (v : LinesEnd) → (is_by_line v ≡ true → s.party ≡ None) → close_entries o s ≡ last_entries (last_of v o) s
    speaks lines_end.Quit closed = ap (λ (x : Option ℕ). close_entries x s) (k.none (closed refl))
    speaks lines_end.Shutdown closed = ap (λ (x : Option ℕ). close_entries x s) (k.none (closed refl))
    speaks lines_end.LineTooLong closed = refl
    speaks other closed = refl

    spoken : List (ℕ × Entry)
    spoken = entries_from (at_first opening steps) u.exchanges

    made_whole : IsOk told → (known q).mine ≡ (known start).mine ++ (entries_from (at_first opening steps) u.exchanges ++ close_entries o s)
    made_whole ok = k.mine ∙ (ap (λ l. l ++ close_entries o s) before ∙ append_assoc (known start).mine (entries_from (at_first opening steps) u.exchanges) (close_entries o s))
      where
        before : (known p).mine ≡ (known start).mine ++ entries_from (at_first opening steps) u.exchanges
        before = u.entries.mine ∙ (ap (λ l. (((known start).mine ++ u.entries.front) ++ l) ++ u.entries.back) (u.entries.whole ok) ∙ (ap (λ l. l ++ u.entries.back) (append-nil ((known start).mine ++ u.entries.front))
            ∙ (append_assoc (known start).mine u.entries.front u.entries.back ∙ ap (λ l. (known start).mine ++ l) (sym u.entries.split))))

    -- all was written
    pub whole : IsOk told → Grows b a (text_of u.exchanges ++ (before_close by ++ close_text o s)) → HasTranscript c start q opening steps asked b a (last_of by o)
    whole ok grew = record {
      written = text_of u.exchanges ++ (before_close by ++ close_text o s);
      made = entries_from (at_first opening steps) u.exchanges ++ close_entries o s;
      grows = grew;
      mine = made_whole ok;
      is = record {
        exchanges = u.exchanges;
        lines = u.lines;
        replies = replied;
        ended = ended by u.ends;
        ends = subst (λ (z : Standing). IsLast (known q).seen z (last_of by o)) u.stands (lasts by u.closed);
        text = ap (λ l. text_of u.exchanges ++ l) (texts by u.closed ∙ ap (λ (z : Standing). last_text (last_of by o) z) u.stands);
        entries = ap (λ l. entries_from (at_first opening steps) u.exchanges ++ l) (speaks by u.closed ∙ ap (λ (z : Standing). last_entries (last_of by o) z) u.stands);
      };
    }

    -- the line of the close broke
    pub cut_at_close : IsOk told → GrewSome b a (text_of u.exchanges ++ (before_close by ++ close_text o s)) → HasCutShort c start q opening steps asked b a
    cut_at_close ok grew = record {
      written = take grew.count (text_of u.exchanges ++ (before_close by ++ close_text o s));
      made = entries_from (at_first opening steps) u.exchanges ++ close_entries o s;
      grows = grew.grew;
      mine = made_whole ok;
      is = record {
        exchanges = u.exchanges;
        begun = Some (last_of by o);
        front = entries_from (at_first opening steps) u.exchanges ++ close_entries o s;
        cancel = [];
        back = [];
        closed = [];
        count = grew.count;
        lines = u.lines;
        replies = replied;
        within = subst (λ (l : List ℕ). grew.count ≤ length (text_of u.exchanges ++ l)) line grew.within;
        text = ap (λ l. take grew.count (text_of u.exchanges ++ l)) line;
        spoken = ap (λ l. entries_from (at_first opening steps) u.exchanges ++ l) (sym entry) ∙ sym (append-nil (entries_from (at_first opening steps) u.exchanges ++ close_entries o s));
        cancelled = tt;
        ends = (subst (λ (z : Standing). IsLast (known q).seen z (last_of by o)) u.stands (lasts by u.closed), refl);
        entries = sym (append-nil _) ∙ (sym (append-nil _) ∙ sym (append-nil _));
      };
    }
      where
        line : before_close by ++ close_text o s ≡ last_text (last_of by o) (standing_at (at_first opening steps) u.exchanges)
        line = texts by u.closed ∙ ap (λ (z : Standing). last_text (last_of by o) z) u.stands

        entry : close_entries o s ≡ last_entries (last_of by o) (standing_at (at_first opening steps) u.exchanges)
        entry = speaks by u.closed ∙ ap (λ (z : Standing). last_entries (last_of by o) z) u.stands

    abandoned : (x : Option ℕ) (z : Standing) → IsClose (known q).seen z x → IsAbandoned (known q).seen z None (close_entries x z)
    abandoned None z is = inl (is, refl)
    abandoned (Some step) z is = inr (step, is, refl)

    -- a line before it broke
    pub cut_before : GrewSome b a (text_of u.exchanges) → HasCutShort c start q opening steps asked b a
    cut_before grew = record {
      written = take grew.count (text_of u.exchanges);
      made = ((u.entries.front ++ u.entries.cancel) ++ u.entries.back) ++ close_entries o s;
      grows = grew.grew;
      mine = k.mine ∙ (ap (λ l. l ++ close_entries o s) (u.entries.mine ∙ (ap (λ l. l ++ u.entries.back) (append_assoc (known start).mine u.entries.front u.entries.cancel) ∙ append_assoc (known start).mine (u.entries.front ++ u.entries.cancel) u.entries.back))
          ∙ append_assoc (known start).mine ((u.entries.front ++ u.entries.cancel) ++ u.entries.back) (close_entries o s));
      is = record {
        exchanges = u.exchanges;
        begun = None;
        front = u.entries.front;
        cancel = u.entries.cancel;
        back = u.entries.back;
        closed = close_entries o (standing_at (at_first opening steps) u.exchanges);
        count = grew.count;
        lines = u.lines;
        replies = replied;
        within = subst (λ (l : List ℕ). grew.count ≤ length l) (sym (append-nil (text_of u.exchanges))) grew.within;
        text = ap (take grew.count) (sym (append-nil (text_of u.exchanges)));
        spoken = append-nil (entries_from (at_first opening steps) u.exchanges) ∙ u.entries.split;
        cancelled = most_stays (known p).seen (known q).seen k.seen u.entries.cancel u.entries.most;
        ends = abandoned o (standing_at (at_first opening steps) u.exchanges) (subst (λ (z : Standing). IsClose (known q).seen z o) u.stands k.close);
        entries = ap (λ (z : Standing). ((u.entries.front ++ u.entries.cancel) ++ u.entries.back) ++ close_entries o z) u.stands;
      };
    }

  -- a session that has ended
  pub has_told : (by : LinesEnd) (told then : Result (Unit {0}) Break) → IsUnderWay at start p (at_first opening steps) s asked b m f g told (is_by_line by) → IsCloseTold told then m a g h (before_close by ++ close_text o s) → HasTold c start q opening steps asked b a (last_of by o) then
  has_told by (Ok x) (Ok y) u w = whole by (Ok x) u refl (wrote_then b m a f g h (Ok x) x (Ok y) (text_of u.exchanges) (before_close by ++ close_text o s) refl u.wrote w).whole
  has_told by (Ok x) (Err e) u w = cut_at_close by (Ok x) u refl (wrote_then b m a f g h (Ok x) x (Err e) (text_of u.exchanges) (before_close by ++ close_text o s) refl u.wrote w).part
  has_told by (Err e) (Ok y) u w = absurd (apart w.0)
    where
      apart : ◌≡◌ {A = Result (Unit {0}) Break} (Ok y) (Err e) → ⊥
      apart is = cc
  has_told by (Err e) (Err z) u w = cut_before by (Err e) u (subst (λ (x : Option (List ℕ)). GrewSome b x (text_of u.exchanges)) (sym w.1) u.wrote.part)

-- nothing was told at the close
pub close_nothing : (told : Result (Unit {0}) Break) (b : Option (List ℕ)) (f : ℕ) → IsCloseTold told told b b f f []
close_nothing (Ok x) b f = wrote_none b f x
close_nothing (Err e) b f = (refl, refl, refl)

-- one text after another
pub close_then : (told mid then : Result (Unit {0}) Break) (b m a : Option (List ℕ)) (f g h : ℕ) (text line : List ℕ) → IsCloseTold told mid b m f g text → IsCloseTold mid then m a g h line → IsCloseTold told then b a f h (text ++ line)
close_then (Ok x) (Ok y) then b m a f g h text line u w = wrote_then b m a f g h (Ok y) y then text line refl u w
close_then (Ok x) (Err e) then b m a f g h text line u w =
    subst (λ (z : Option (List ℕ)). Wrote b z f h then (text ++ line)) (sym w.1) (subst (λ (n : ℕ). Wrote b m f n then (text ++ line)) (sym w.2) (wrote_stop b m f g (Err e) then e text line refl w.0 u))
close_then (Err e) (Ok y) then b m a f g h text line u w = absurd (apart u.0)
  where
    apart : ◌≡◌ {A = Result (Unit {0}) Break} (Ok y) (Err e) → ⊥
    apart is = cc
close_then (Err e) (Err z) then b m a f g h text line u w = (w.0 ∙ u.0, w.1 ∙ u.1, w.2 ∙ u.2)

-- the same from an earlier moment at which the pass had the same entries
pub told_from : (c : Configuration) (p m q : PassValue) (opening steps : ℕ) (asked : List Asked) (b a : Option (List ℕ)) (last : LastLine) (told : Result (Unit {0}) Break) → (known m).mine ≡ (known p).mine → HasTold c m q opening steps asked b a last told → HasTold c p q opening steps asked b a last told
told_from c p m q opening steps asked b a last (Ok x) mine h = record { written = h.written; made = h.made; grows = h.grows; mine = h.mine ∙ ap (λ l. l ++ h.made) mine; is = h.is }
told_from c p m q opening steps asked b a last (Err e) mine h = record { written = h.written; made = h.made; grows = h.grows; mine = h.mine ∙ ap (λ l. l ++ h.made) mine; is = h.is }

-- writing breaks only where the count of faults rose
pub cause_of : (told then : Result (Unit {0}) Break) (b m a : Option (List ℕ)) (f g h : ℕ) (text line : List ℕ) → Wrote b m f g told text → IsCloseTold told then m a g h line → then ≡ Err Write → Rose f h
cause_of (Ok x) then b m a f g h text line u w e = (wrote_then b m a f g h (Ok x) x then text line refl u w).cause e
cause_of (Err z) then b m a f g h text line u w e = subst (λ (k : ℕ). Rose f k) (sym w.2) (u.cause (sym w.0 ∙ e))
