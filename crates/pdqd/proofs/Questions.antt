-- From the reply to a question to what a run wrote.
use Rattle.std.proofs.Common.{◌≡◌, ◌≢◌, ℕ, ◌+◌, ◌<◌, ◌≤◌, ◌∙◌, Bool, true, false, List, [], ◌∷◌, ◌++◌, length, take, drop, Option, Some, None, refl, sym, ap, subst, arith, inl, inr, IsTrue, Result, Ok, Err}
use Rattle.std.specs.Prelude.{◌⊎◌, nat_lt, sum}
use Rattle.std.proofs.lemmas.Bool.Decides.{nat_tests}
use Rattle.std.proofs.lemmas.Grind.{common_steps}
use Rattle.std.proofs.lemmas.List.{append-nil, length-append}
use Rattle.pdq_edge.specs.Bytes.{Grows, GrewSome}
use Rattle.pdq_edge.proofs.Growing.{grows_none}
use Rattle.pdq_value.specs.declared.cells.Cell.{Cell}
use Rattle.pdq_value.specs.declared.loading.LoadWhy.TheVariants.{TooLong}
use Rattle.pdq_value.specs.PlainTable.{fault, plain_table_of}
use Rattle.pdq_query.specs.Answer.{answer}
use Rattle.pdq_session.specs.Progress.{SourceView, CanFollow}
use Rattle.pdq_session.specs.ScriptTranscript.{fails_now}
use Rattle.pdq_reply.specs.Reading.{remaining}
use Rattle.pdqd.specs.Ask.{Answers, Question, ask_question, blocks_of, question_over, shown, shown_answer}
use Rattle.pdq_load.specs.Files.{Contents}
use Rattle.pdqd.specs.Input.{GaveSome, IsInput}
use Rattle.pdqd.specs.Output.{Output}
use Rattle.pdqd.specs.declared.words.Form.TheVariants.{Ask}
use Rattle.pdqd.specs.Run.{IsWhole, IsCutOff, RanInPart, RanWhole, RunsToEnd}
use Rattle.pdqd.specs.Stores.{IsReplyTo, StoresView}
use Rattle.pdqd.proofs.Statuses.{definition_is_right, no_files, none_is_few}

-- nothing was written
pub wrote_nothing : (select : List ℕ) (contents : Contents) (f g : StoresView) (before now : SourceView) (w : Option (List ℕ)) → GaveSome before now → RanInPart (Ask select) contents before now w w f g
wrote_nothing select contents f g before now w gave = record {
  files = no_files;
  given = tt;
  answers = answer;
  right = definition_is_right f;
  wrote = record {
    bytes = gave.bytes;
    text = [];
    failed = [];
    few = none_is_few f.faults g.faults [] refl;
    came = gave.came;
    grew = grows_none w;
    begins = λ more later can. record { tail = (shown (fails_now later) answer (ask_question select (gave.bytes ++ more))).text; part = refl };
  };
}

-- a table that is too long is refused, whatever it says
long_table : (bytes : List ℕ) → 16777216 < length bytes → plain_table_of bytes ≡ Err (fault TooLong 0 0)
unfolding plain_table_of
long_table bytes long = let told : nat_lt 16777216 (length bytes) ≡ true = grind (arith, nat_tests, long) in rw told refl

longer : (bytes more : List ℕ) → 16777216 < length bytes → 16777216 < length (bytes ++ more)
longer bytes more long = omega (arith, long, length-append bytes more)

long_question : (select bytes : List ℕ) → 16777216 < length bytes → ask_question select bytes ≡ question_over select (Err (fault TooLong 0 0))
unfolding ask_question
long_question select bytes long = ap (question_over select) (long_table bytes long)

nothing_more : (before now : SourceView) (more : List ℕ) → IsTrue now.ended → remaining before.left now.left ≡ [] → CanFollow before now more → more ≡ []
nothing_more before now more ended none (inl rest) = rest ∙ none
nothing_more before now more ended none (inr is) = is ended

by_end : (select : List ℕ) (before now : SourceView) (bytes more : List ℕ) → (IsTrue now.ended × (remaining before.left now.left ≡ [])) ⊎ (16777216 < length bytes) → CanFollow before now more → ask_question select (bytes ++ more) ≡ ask_question select bytes
by_end select before now bytes more (inl end) can = ap (λ xs. ask_question select (bytes ++ xs)) (nothing_more before now more end.0 end.1 can) ∙ ap (ask_question select) (append-nil bytes)
by_end select before now bytes more (inr long) can = long_question select (bytes ++ more) (longer bytes more long) ∙ sym (long_question select bytes long)

-- whatever can follow an input, the question is the same
same_question : (select : List ℕ) (before now : SourceView) (bytes more : List ℕ) → IsInput before now bytes → CanFollow before now more → ask_question select (bytes ++ more) ≡ ask_question select bytes
same_question select before now bytes more input can = by_end select before now bytes more input.ends can

-- a reply that was written whole
pub wrote_reply : (select : List ℕ) (contents : Contents) (f g : StoresView) (status : ℕ) (before now : SourceView) (w v : Option (List ℕ)) (bytes text : List ℕ) (asked : Result Question (List ℕ)) → IsInput before now bytes → asked ≡ ask_question select bytes → IsReplyTo f g asked (record { text = text; status = status }) → Grows w v text → RanWhole (Ask select) contents before now w v f g status
wrote_reply select contents f g status before now w v bytes text asked input says reply grew = record {
  files = no_files;
  given = tt;
  answers = reply.answers;
  right = reply.right;
  wrote = record {
    bytes = bytes;
    text = text;
    failed = reply.fails ∷ [];
    few = reply.few;
    came = input.came;
    grew = grew;
    whole = λ more later can. ap (shown reply.fails reply.answers) (same_question select before now bytes more input can ∙ sym says) ∙ sym reply.is;
  };
  failures = tt;
  puts = λ none told. let P : Result Question (List ℕ) → Type 0 = λ a. sum f.puts + blocks_of a ≤ sum g.puts in subst P says (reply.puts none told);
}

pub two_parts : (n : ℕ) (text : List ℕ) → text ≡ take n text ++ drop n text
two_parts n text = grind (arith, common_steps)

-- a reply of which the first bytes were written
pub wrote_part : (select : List ℕ) (contents : Contents) (f g : StoresView) (status : ℕ) (before now : SourceView) (w v : Option (List ℕ)) (bytes text : List ℕ) (asked : Result Question (List ℕ)) → IsInput before now bytes → asked ≡ ask_question select bytes → IsReplyTo f g asked (record { text = text; status = status }) → GrewSome w v text → RanInPart (Ask select) contents before now w v f g
wrote_part select contents f g status before now w v bytes text asked input says reply some = record {
  files = no_files;
  given = tt;
  answers = reply.answers;
  right = reply.right;
  wrote = record {
    bytes = bytes;
    text = take some.count text;
    failed = reply.fails ∷ [];
    few = reply.few;
    came = input.came;
    grew = some.grew;
    begins = λ more later can. record { tail = drop some.count text; part = ap (λ (o : Output). o.text) (ap (shown reply.fails reply.answers) (same_question select before now bytes more input can ∙ sym says) ∙ sym reply.is) ∙ two_parts some.count text };
  };
}

-- a reply tells of a whole text
abbrev pub IsReply : Output → Type 0
IsReply o = IsWhole o.status

answer_is : (fails : Bool) (rows : Option (List (List Cell))) → IsReply (shown_answer fails rows)
answer_is true rows = inr (inr refl)
answer_is false None = inr (inl refl)
answer_is false (Some rows) = inl refl

asked_is : (fails : Bool) (answers : Answers) (asked : Result Question (List ℕ)) → IsReply (shown fails answers asked)
asked_is fails answers (Err line) = inr (inl refl)
asked_is fails answers (Ok q) = answer_is fails (answers q.tables q.query)

pub reply_status : (f g : StoresView) (asked : Result Question (List ℕ)) (status : ℕ) (text : List ℕ) → IsReplyTo f g asked (record { text = text; status = status }) → IsWhole status
reply_status f g asked status text reply = subst IsReply (sym reply.is) (asked_is reply.fails reply.answers asked)

-- the status of a run, from that of its reply
pub known_status : (r status : ℕ) → (r ≡ status) ⊎ (r ≡ 74) → IsWhole status → IsWhole r ⊎ IsCutOff r
known_status r status (inl e) z = inl (subst IsWhole (sym e) z)
known_status r status (inr e) z = inr (inr (inr e))

pub never_unread : (r status : ℕ) → (r ≡ status) ⊎ (r ≡ 74) → IsWhole status → r ≢ 66
never_unread r status (inl e) (inl z) is = omega (arith, e, z, is)
never_unread r status (inl e) (inr (inl z)) is = omega (arith, e, z, is)
never_unread r status (inl e) (inr (inr z)) is = omega (arith, e, z, is)
never_unread r status (inr e) z is = omega (arith, e, is)

pub whole_is_written : (r : ℕ) → IsWhole r → r ≢ 74
whole_is_written r (inl z) is = omega (arith, z, is)
whole_is_written r (inr (inl z)) is = omega (arith, z, is)
whole_is_written r (inr (inr z)) is = omega (arith, z, is)

-- a run that came to its end wrote its whole text
pub end_is_whole : (r : ℕ) → RunsToEnd r → IsWhole r
end_is_whole r (inl z) = inl z
end_is_whole r (inr z) = inr (inr z)

refused_too_long : (select : List ℕ) (f g : StoresView) (bytes text : List ℕ) (status : ℕ) (asked : Result Question (List ℕ)) → 16777216 < length bytes → asked ≡ ask_question select bytes → IsReplyTo f g asked (record { text = text; status = status }) → status ≡ 65
refused_too_long select f g bytes text status asked long says reply = ap (λ (o : Output). o.status) (reply.is ∙ ap (shown reply.fails reply.answers) (says ∙ long_question select bytes long))

never_refused : (status : ℕ) → RunsToEnd status → status ≡ 65 → ⊥
never_refused status (inl z) is = omega (arith, z, is)
never_refused status (inr z) is = omega (arith, z, is)

ended_by : (select : List ℕ) (f g : StoresView) (status : ℕ) (before now : SourceView) (bytes text : List ℕ) (asked : Result Question (List ℕ)) → (IsTrue now.ended × (remaining before.left now.left ≡ [])) ⊎ (16777216 < length bytes) → asked ≡ ask_question select bytes → IsReplyTo f g asked (record { text = text; status = status }) → RunsToEnd status → IsTrue now.ended
ended_by select f g status before now bytes text asked (inl end) says reply ends = end.0
ended_by select f g status before now bytes text asked (inr long) says reply ends = absurd (never_refused status ends (refused_too_long select f g bytes text status asked long says reply))

-- a question that is answered, or at which a store failed, was asked of a table whose bytes are all there
pub answered_ended : (select : List ℕ) (f g : StoresView) (status : ℕ) (before now : SourceView) (bytes text : List ℕ) (asked : Result Question (List ℕ)) → IsInput before now bytes → asked ≡ ask_question select bytes → IsReplyTo f g asked (record { text = text; status = status }) → RunsToEnd status → IsTrue now.ended
answered_ended select f g status before now bytes text asked input says reply ends = ended_by select f g status before now bytes text asked input.ends says reply ends

pub never_end : (r : ℕ) → (r ≡ 65) ⊎ (r ≡ 74) → RunsToEnd r → ⊥
never_end r (inl e) (inl z) = omega (arith, e, z)
never_end r (inl e) (inr z) = omega (arith, e, z)
never_end r (inr e) (inl z) = omega (arith, e, z)
never_end r (inr e) (inr z) = omega (arith, e, z)
