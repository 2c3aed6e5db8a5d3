-- A session goes on by one line.
use Rattle.std.proofs.Common.{ℕ, ◌≡◌, ◌∙◌, List, [], ◌∷◌, ◌++◌, length, map, Option, None, Some, Bool, true, false, refl, sym, ap, subst, arith, append_assoc, inl, inr}
use Rattle.std.specs.Prelude.{Result, Ok, Err, IsOk, is_err, ◌||◌}
use Rattle.std.proofs.lemmas.Bool.{false≢true}
use Rattle.std.proofs.lemmas.List.{append-nil}
use Rattle.atomic_table.specs.Seated.{TableId}
use Rattle.pdq_model.specs.declared.events.Entry.{Entry}
use Rattle.pdq_model.specs.Configuration.{Configuration}
use Rattle.pdq_office.specs.PassValue.{PassValue}
use Rattle.pdq_office.specs.Passes.{known}
use Rattle.std.specs.Prelude.{if◌then◌else◌}
use Rattle.std.proofs.lemmas.List.{take_all}
use Rattle.pdq_edge.specs.Bytes.{Grows}
use Rattle.pdq_query.specs.Answer.{answer}
use Rattle.pdq_table.specs.Storing.{StoredView}
use Rattle.pdq_talk.specs.declared.telling.Break.TheVariants as abreak
use Rattle.pdq_serve.specs.declared.standings.LinesEnd.{LinesEnd}
use Rattle.pdq_serve.specs.declared.standings.LinesEnd.TheVariants as lines_end
use Rattle.pdq_talk.specs.declared.replied.Evaluated.{Evaluated}
use Rattle.pdq_talk.specs.declared.replied.Evaluated.TheVariants as evaluated
use Rattle.pdq_talk.specs.declared.replied.Ran.{Ran}
use Rattle.pdq_talk.specs.declared.replied.Ran.TheVariants as aran
use Rattle.pdq_talk.specs.declared.replied.Came.{Came}
use Rattle.pdq_talk.specs.declared.replied.Came.TheVariants as acame
use Rattle.pdq_serve.specs.Commands.{Said, asked_of}
use Rattle.pdq_serve.specs.Commands.Said.{Simple, Select}
use Rattle.pdq_serve.specs.Questions.{all_tell, expected, expects, frags_of}
use Rattle.pdq_talk.specs.declared.replied.Party.{Party}
use Rattle.pdq_talk.specs.declared.replied.Standing.{Standing}
use Rattle.pdq_talk.specs.declared.replied.Replied.{Replied}
use Rattle.pdq_talk.specs.declared.replied.Replied.TheVariants as told
use Rattle.pdq_talk.specs.Lines as asked
use Rattle.pdq_talk.specs.Lines.{Asked, ComesTo, Expected, IsAnswer, RepliesTo, RepliesBy, RepliesWithin, RunsTo, number_of, reply_entries, reply_text, standing_after}
use Rattle.pdq_talk.specs.Session.{Exchange, AllGoOn, entries_from, standing_at, text_of, is_last_reply}
use Rattle.pdq_talk.proofs.Growing.{go_on, texts_go_on, entries_go_on}
use Rattle.pdq_talk.specs.Hand.{IsInHand}
use Rattle.pdq_talk.specs.Writing.{EndsIn, Wrote}
use Rattle.pdq_serve.specs.Course.{Answered, HasOrigin, IsOver, IsUnderWay, Rested, broken_by, end_after, ends_with, is_by_line, is_over}
use Rattle.pdq_talk.specs.declared.telling.Break.{Break}
use Rattle.pdq_talk.proofs.Turns.{prefix_on}
use Rattle.pdq_talk.proofs.Writing.{wrote_then, wrote_none}

-- no line of an open session is answered by leaving it
left_within : (c : Configuration) (h : List Entry) (who : Party) (p last : ℕ) (line : Asked) → RepliesWithin c h who p last line told.Left → ⊥
left_within c h who p last asked.Nothing is = cc
left_within c h who p last (asked.BadLine text) is = is
left_within c h who p last (asked.Unresolved text) is = is
left_within c h who p last (asked.Open admin) is = is
left_within c h who p last (asked.Priority None) is = cc
left_within c h who p last (asked.Priority (Some n)) is = cc
left_within c h who p last (asked.Query frags answer) is = is
left_within c h who p last (asked.CancelQuery id) is = is
left_within c h who p last (asked.Change setting) is = is
left_within c h who p last asked.Status is = is
left_within c h who p last asked.Quit is = is
left_within c h who p last asked.Shutdown is = shut who.admin is
  where
    shut : (b : Bool) → asked.IsShutting c h b who.number last told.Left → ⊥
    shut true x = x
    shut false x = x

left_before : (c : Configuration) (h : List Entry) (s : Standing) (line : Asked) → RepliesTo c h s line told.Left → s.party ≡ None
left_before c h s line (inl is) = absurd (apart is)
  where
    apart : told.Left ≡ told.NoRoom → ⊥
    apart e = cc
left_before c h s line (inr is) = go s.party refl is
  where
    go : (o : Option Party) → s.party ≡ o → RepliesBy c h o s.priority s.step line told.Left → s.party ≡ None
    go None e x = e
    go (Some who) e x = absurd (left_within c h who s.priority s.step line x)

-- a reply that ends the session leaves none open
closed_by : (c : Configuration) (h : List Entry) (s : Standing) (line : Asked) (r : Replied) → RepliesTo c h s line r → is_last_reply r ≡ true → (standing_after s r).party ≡ None
closed_by c h s line (told.Closed number step shuts) is last = refl
closed_by c h s line told.Left is last = left_before c h s line is
closed_by c h s line told.Silent is last = cc
closed_by c h s line (told.Error text) is last = cc
closed_by c h s line told.NoSession is last = cc
closed_by c h s line told.NoRoom is last = cc
closed_by c h s line (told.Opened number step admin) is last = cc
closed_by c h s line (told.NotNow step) is last = cc
closed_by c h s line (told.NotAllowed step) is last = cc
closed_by c h s line (told.Refused why step) is last = cc
closed_by c h s line (told.ChangeRefused why look step) is last = cc
closed_by c h s line (told.PrioritySet n) is last = cc
closed_by c h s line told.OutOfRange is last = cc
closed_by c h s line (told.Placed f id step priority gate came) is last = cc
closed_by c h s line (told.Cancelled waited id step) is last = cc
closed_by c h s line (told.Changed setting pending step) is last = cc
closed_by c h s line (told.Shown step text) is last = cc

all_go_on : (es : List Exchange) (e : Exchange) → AllGoOn es → is_last_reply e.replied ≡ false → AllGoOn (es ++ e ∷ [])
all_go_on [] e a last = (last, tt)
all_go_on (x ∷ xs) e a last = (a.0, all_go_on xs e a.1 last)

over_by : (es : List Exchange) (e : Exchange) (b : Bool) → is_last_reply e.replied ≡ b → AllGoOn es → IsOver b (es ++ e ∷ [])
over_by es e true is a = (es, e, refl, a, is)
over_by es e false is a = all_go_on es e a is

standing_then : (s : Standing) (es : List Exchange) (e : Exchange) → standing_at s (es ++ e ∷ []) ≡ standing_after (standing_at s es) e.replied
standing_then s [] e = refl
standing_then s (x ∷ xs) e = standing_then (standing_after s x.replied) xs e

asked_then : (es : List Exchange) (e : Exchange) → map (λ x. x.asked) (es ++ e ∷ []) ≡ map (λ x. x.asked) es ++ e.asked ∷ []
asked_then [] e = refl
asked_then (x ∷ xs) e = ap (λ l. x.asked ∷ l) (asked_then xs e)

-- before the first line
pub at_outset : {T : Type 0} (at : TableId) (p : PassValue) (s : Standing) (written : Option (List ℕ)) (faults : ℕ) (nothing : T) → s.party ≡ None → IsInHand at s p → IsUnderWay {T = T} at p p s s [] written written faults faults (Ok nothing) false
at_outset at p s written faults nothing none hand = record {
  exchanges = [];
  lines = refl;
  replies = λ c origin. tt;
  stands = refl;
  ends = tt;
  closed = λ e. none;
  entries = record { front = []; cancel = []; back = []; split = refl; mine = sym (append-nil (known p).mine) ∙ (sym (append-nil ((known p).mine ++ [])) ∙ sym (append-nil (((known p).mine ++ []) ++ []))); most = tt; whole = λ ok. refl };
  wrote = wrote_none written faults nothing;
  seen = ([], append-nil (known p).seen);
  origin = refl;
  hand = hand;
}

-- one line more
pub on_line : {T U : Type 0} (at : TableId) (start p q : PassValue) (first s : Standing) (lines : List Asked) (line : Asked) (r : Replied) (b m a : Option (List ℕ)) (f g h : ℕ) (so_far : Result T Break) (nothing : T) (broke : Result U Break)
    → so_far ≡ Ok nothing → HasOrigin start → IsUnderWay at start p first s lines b m f g so_far false → EndsIn at p q s line r broke → Wrote m a g h broke (reply_text r)
    → IsUnderWay at start q first (standing_after s r) (lines ++ line ∷ []) b a f h broke (is_last_reply r)
on_line at start p q first s lines line r b m a f g h so_far nothing broke ok has u e w = record {
  exchanges = u.exchanges ++ x ∷ [];
  lines = asked_then u.exchanges x ∙ ap (λ l. l ++ line ∷ []) u.lines;
  replies = λ c origin. go_on c (known p).seen (known q).seen first u.exchanges x e.seen (u.replies c origin)
      (subst (λ (z : Standing). RepliesTo c (known q).seen z line r) u.stands (e.right c (u.origin ∙ origin)));
  stands = ap (λ (z : Standing). standing_after z r) u.stands ∙ sym (standing_then first u.exchanges x);
  ends = over_by u.exchanges x (is_last_reply r) refl u.ends;
  closed = λ last. closed_by has.0 (known q).seen s line r (e.right has.0 (u.origin ∙ has.1)) last;
  entries = record {
    front = before ++ e.entries.front;
    cancel = e.entries.cancel;
    back = e.entries.back;
    split = entries_go_on first u.exchanges x ∙ (ap (λ (z : Standing). before ++ reply_entries (number_of z.party) z.priority r) (sym u.stands) ∙ (ap (λ l. before ++ l) e.entries.split ∙ sym (append_assoc before e.entries.front e.entries.back)));
    mine = e.entries.mine ∙ ap (λ l. (l ++ e.entries.cancel) ++ e.entries.back) (ap (λ l. l ++ e.entries.front) mine ∙ append_assoc (known start).mine before e.entries.front);
    most = e.entries.most;
    whole = e.entries.whole;
  };
  wrote = subst (λ (l : List ℕ). Wrote b a f h broke l) (sym (texts_go_on u.exchanges x)) (wrote_then b m a f g h so_far nothing broke (text_of u.exchanges) (reply_text r) ok u.wrote w);
  seen = prefix_on (known start).seen (known p).seen (known q).seen u.seen e.seen;
  origin = e.origin ∙ u.origin;
  hand = e.hand;
}
  where
    x : Exchange
    x = record { asked = line; replied = r }

    before : List (ℕ × Entry)
    before = entries_from first u.exchanges

    none : u.entries.cancel ≡ []
    none = u.entries.whole (ap Rattle.std.specs.Prelude.is_ok ok)

    mine : (known p).mine ≡ (known start).mine ++ before
    mine = u.entries.mine ∙ (ap (λ l. (((known start).mine ++ u.entries.front) ++ l) ++ u.entries.back) none ∙ (ap (λ l. l ++ u.entries.back) (append-nil ((known start).mine ++ u.entries.front))
        ∙ (append_assoc (known start).mine u.entries.front u.entries.back ∙ ap (λ l. (known start).mine ++ l) (sym u.entries.split))))

-- whether a line ended the session, by how the lines end
over_none : {T : Type 0} (broke : Result T Break) (last : Bool) → is_over (ends_with None broke last) ≡ false
over_none (Err e) last = refl
over_none (Ok x) true = refl
over_none (Ok x) false = refl

over_is : {T : Type 0} (r : Replied) (broke : Result T Break) (last : Bool) → is_over (ends_with (end_after r) broke last) ≡ is_last_reply r
over_is (told.Closed number step true) broke last = refl
over_is (told.Closed number step false) broke last = refl
over_is told.Left broke last = refl
over_is other broke last = over_none broke last

-- where nothing is known of an answer
any_is : (x : Expected) (e : Evaluated) → IsAnswer x e → IsAnswer asked.AnyAnswer e
any_is x (evaluated.Rows rows) is = tt
any_is x evaluated.TooManyRows is = tt
any_is x evaluated.StoreFailed is = tt
any_is x evaluated.NoMemory is = tt

any_ran : (h : List Entry) (who id : ℕ) (x : Expected) (last : ℕ) (flag : Option ℕ) (ran : Ran) → RunsTo h who id x last flag ran → RunsTo h who id asked.AnyAnswer last flag ran
any_ran h who id x last None (aran.Ended e step) is = (any_is x e is.0, is.1)
any_ran h who id x last (Some by) (aran.Ended e step) is = is
any_ran h who id x last None (aran.WasStopped step by) is = is
any_ran h who id x last (Some flag) (aran.WasStopped step by) is = is

any_came : (h : List Entry) (who id : ℕ) (x : Expected) (last : ℕ) (came : Came) → ComesTo h who id x last came → ComesTo h who id asked.AnyAnswer last came
any_came h who id x last (acame.WasCancelled step by) is = is
any_came h who id x last (acame.WasGranted step quanta scans priority flag ran) is = (is.0, any_ran h who id x step flag ran is.1)

any_queried : (c : Configuration) (h : List Entry) (who p last frags : ℕ) (x : Expected) (r : Replied) → asked.IsQueried c h who p last frags x r → asked.IsQueried c h who p last frags asked.AnyAnswer r
any_queried c h who p last frags x (told.Refused why step) is = is
any_queried c h who p last frags x (told.Placed f id step priority gate came) is = (is.0, is.1, any_came h who id x step came is.2)
any_queried c h who p last frags x other is = is

any_reply : (c : Configuration) (h : List Entry) (s : Standing) (frags : ℕ) (x : Expected) (r : Replied) → RepliesTo c h s (asked.Query frags x) r → RepliesTo c h s (asked.Query frags asked.AnyAnswer) r
any_reply c h s frags x r (inl none) = inl none
any_reply c h s frags x r (inr is) = inr (go s.party is)
  where
    go : (o : Option Party) → RepliesBy c h o s.priority s.step (asked.Query frags x) r → RepliesBy c h o s.priority s.step (asked.Query frags asked.AnyAnswer) r
    go None y = y
    go (Some who) y = any_queried c h who.number s.priority s.step frags x r y

-- what is known where the stores told at the start what they hold
known_then : (c : Configuration) (h : List Entry) (s : Standing) (frags : ℕ) (x : Expected) (r : Replied) (a b : Bool) → (a ≡ true → b ≡ true) → RepliesTo c h s (asked.Query frags (if b then x else asked.AnyAnswer)) r → RepliesTo c h s (asked.Query frags (if a then x else asked.AnyAnswer)) r
known_then c h s frags x r true true tell is = is
known_then c h s frags x r true false tell is = absurd (false≢true (tell refl))
known_then c h s frags x r false true tell is = any_reply c h s frags x r is
known_then c h s frags x r false false tell is = is

module _ {S : Type 0} (blocks : S → Option (List (List ℕ))) (first now : List S) (db : StoredView) (tell : all_tell blocks first ≡ true → all_tell blocks now ≡ true) where
  reply_at_first : (c : Configuration) (h : List Entry) (s : Standing) (said : Said) (r : Replied) → RepliesTo c h s (asked_of blocks now db said) r → RepliesTo c h s (asked_of blocks first db said) r
  unfolding expects
  reply_at_first c h s (Simple line) r is = is
  reply_at_first c h s (Select q) r is = known_then c h s (frags_of db q) (expected (answer db.tables q)) r (all_tell blocks first) (all_tell blocks now) tell is

  pub ends_at_first : {T : Type 0} (at : TableId) (p q : PassValue) (s : Standing) (said : Said) (r : Replied) (broke : Result T Break) → EndsIn at p q s (asked_of blocks now db said) r broke → EndsIn at p q s (asked_of blocks first db said) r broke
  ends_at_first at p q s said r broke e = record { right = λ c origin. reply_at_first c (known q).seen s said r (e.right c origin); entries = e.entries; seen = e.seen; origin = e.origin; hand = e.hand }

-- the reading of the source broke
pub broke_read : (at : TableId) (start p : PassValue) (first s : Standing) (lines : List Asked) (b m : Option (List ℕ)) (f g : ℕ) → IsUnderWay {T = Unit {0}} at start p first s lines b m f g (Ok tt) false → IsUnderWay {T = Unit {0}} at start p first s lines b m f g (Err abreak.Read) false
broke_read at start p first s lines b m f g u = record {
  exchanges = u.exchanges;
  lines = u.lines;
  replies = u.replies;
  stands = u.stands;
  ends = u.ends;
  closed = u.closed;
  entries = record { front = u.entries.front; cancel = u.entries.cancel; back = u.entries.back; split = u.entries.split; mine = u.entries.mine; most = u.entries.most; whole = λ ok. u.entries.whole refl };
  wrote = record {
    whole = tt;
    part = record { count = length (text_of u.exchanges); within = omega arith; grew = subst (λ (l : List ℕ). Grows b m l) (sym (take_all (length (text_of u.exchanges)) (text_of u.exchanges) (omega arith))) u.wrote.whole };
    later = u.wrote.later;
    cause = λ e. absurd (apart e);
  };
  seen = u.seen;
  origin = u.origin;
  hand = u.hand;
}
  where
    apart : ◌≡◌ {A = Result (Unit {0}) Break} (Err abreak.Read) (Err abreak.Write) → ⊥
    apart e = cc

-- so nothing more is written
pub way_broken : (at : TableId) (start p : PassValue) (first s : Standing) (lines : List Asked) (b m : Option (List ℕ)) (f g : ℕ) (by : LinesEnd) (told : Result (Unit {0}) Break) → IsUnderWay {T = Unit {0}} at start p first s lines b m f g told (is_by_line by)
    → IsUnderWay {T = Unit {0}} at start p first s lines b m f g (broken_by by told) (is_by_line by)
way_broken at start p first s lines b m f g lines_end.ReadFault (Ok x) u = broke_read at start p first s lines b m f g u
way_broken at start p first s lines b m f g lines_end.ReadFault (Err e) u = u
way_broken at start p first s lines b m f g lines_end.Quit told u = u
way_broken at start p first s lines b m f g lines_end.Shutdown told u = u
way_broken at start p first s lines b m f g lines_end.EndOfInput told u = u
way_broken at start p first s lines b m f g lines_end.LineTooLong told u = u
way_broken at start p first s lines b m f g lines_end.ByteLimit told u = u
way_broken at start p first s lines b m f g lines_end.Broken told u = u

-- the lines go on, or end, with a line that was answered
pub on_answered : (at : TableId) (start p q : PassValue) (first s t : Standing) (lines : List Asked) (line : Asked) (last : Bool) (b m a : Option (List ℕ)) (f g h : ℕ) (broke : Result (Unit {0}) Break) (e : Option LinesEnd)
    → HasOrigin start → IsUnderWay {T = Unit {0}} at start p first s lines b m f g (Ok tt) false → Answered at p q s t line last m a g h broke e → IsUnderWay {T = Unit {0}} at start q first t (lines ++ line ∷ []) b a f h broke (is_over e)
on_answered at start p q first s t lines line last b m a f g h broke e has u w =
    subst (λ (o : Bool). IsUnderWay {T = Unit {0}} at start q first t (lines ++ line ∷ []) b a f h broke o) (sym (over_is w.reply broke last) ∙ ap is_over (sym w.is))
    (subst (λ (z : Standing). IsUnderWay {T = Unit {0}} at start q first z (lines ++ line ∷ []) b a f h broke (is_last_reply w.reply)) (sym w.standing)
    (on_line at start p q first s lines line w.reply b m a f g h (Ok tt) tt broke refl has u w.ends w.wrote))

-- or where none came
pub on_rested : (at : TableId) (start p q : PassValue) (first s t : Standing) (lines : List Asked) (b m a : Option (List ℕ)) (f g h : ℕ) (broke : Result (Unit {0}) Break) (e : Option LinesEnd) (by : LinesEnd)
    → Rested p q s t m a g h e by → IsUnderWay {T = Unit {0}} at start p first s lines b m f g broke false → IsUnderWay {T = Unit {0}} at start q first t lines b a f h broke false
on_rested at start p q first s t lines b m a f g h broke e by r u =
    subst (λ (x : PassValue). IsUnderWay {T = Unit {0}} at start x first t lines b a f h broke false) (sym r.pass)
    (subst (λ (x : Standing). IsUnderWay {T = Unit {0}} at start p first x lines b a f h broke false) (sym r.standing)
    (subst (λ (x : Option (List ℕ)). IsUnderWay {T = Unit {0}} at start p first s lines b x f h broke false) (sym r.written)
    (subst (λ (x : ℕ). IsUnderWay {T = Unit {0}} at start p first s lines b m f x broke false) (sym r.faults) u)))
