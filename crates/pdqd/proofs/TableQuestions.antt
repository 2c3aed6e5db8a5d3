-- From the reply over the tables of a schema to what a run wrote.
use Rattle.std.proofs.Common.{◌≡◌, ℕ, ◌+◌, ◌≤◌, ◌∙◌, List, [], ◌∷◌, take, drop, refl, sym, ap, subst}
use Rattle.std.specs.Prelude.{Option, Some, None, IfSome, Result, sum}
use Rattle.pdq_edge.specs.Bytes.{Grows, GrewSome}
use Rattle.pdq_edge.proofs.Growing.{grows_none}
use Rattle.pdq_session.specs.Progress.{SourceView}
use Rattle.pdq_load.specs.Files.{Contents, GivenFiles}
use Rattle.pdq_load.specs.Loaded.{Loaded, FilesGive as LoadGives}
use Rattle.pdq_load.proofs.FilesRead.{are_told, files_told}
use Rattle.pdqd.specs.declared.words.Form.{Form}
use Rattle.pdqd.specs.declared.words.Form.TheVariants.{Script, ScriptTables, Ask, AskTables, Make}
use Rattle.pdq_query.specs.Answer.{answer}
use Rattle.pdqd.specs.Ask.{Question, blocks_of, question_over_loaded, shown}
use Rattle.pdqd.specs.Files.{FilesGive}
use Rattle.pdqd.specs.Output.{Output}
use Rattle.pdqd.specs.Run.{LeavesUnread, RanInPart, RanWhole, WereGiven, WhereTold, run_output}
use Rattle.pdqd.specs.Stores.{IsReplyTo, StoresView}
use Rattle.pdqd.proofs.Inputs.{took_none}
use Rattle.pdqd.proofs.Questions.{two_parts}
use Rattle.pdqd.proofs.Statuses.{definition_is_right, no_files, none_is_few}

-- files that a form may have been given
files_for : Form → Contents → GivenFiles
files_for (Script config opening) contents = no_files
files_for (ScriptTables config opening schema) contents = files_told contents schema
files_for (Ask select) contents = no_files
files_for (AskTables select schema) contents = files_told contents schema
files_for (Make count) contents = no_files

were_given : (form : Form) (contents : Contents) → WereGiven form contents (files_for form contents)
unfolding files_for
were_given (Script config opening) contents = tt
were_given (ScriptTables config opening schema) contents = are_told contents schema
were_given (Ask select) contents = tt
were_given (AskTables select schema) contents = are_told contents schema
were_given (Make count) contents = tt

-- nothing was read of the source, and nothing was written
pub nothing_done : (form : Form) (contents : Contents) (f g : StoresView) (source : SourceView) (w : Option (List ℕ)) → RanInPart form contents source source w w f g
nothing_done form contents f g source w = record {
  files = files_for form contents;
  given = were_given form contents;
  answers = answer;
  right = definition_is_right f;
  wrote = record {
    bytes = [];
    text = [];
    failed = [];
    few = none_is_few f.faults g.faults [] refl;
    came = took_none source.left source.taken;
    grew = grows_none w;
    begins = λ more later can. record { tail = (run_output form (files_for form contents) more later answer).text; part = refl };
  };
}

where_told : (form : Form) (stores : StoresView) (X : Type 0) → X → WhereTold form stores X
where_told (Script config opening) stores X x = x
where_told (ScriptTables config opening schema) stores X x = λ told. x
where_told (Ask select) stores X x = x
where_told (AskTables select schema) stores X x = x
where_told (Make count) stores X x = x

pub nothing_done_by : (o : Option Form) (contents : Contents) (f g : StoresView) (source : SourceView) (w : Option (List ℕ)) → IfSome o (λ form. WhereTold form f (RanInPart form contents source source w w f g))
nothing_done_by None contents f g source w = tt
nothing_done_by (Some form) contents f g source w = where_told form f (RanInPart form contents source source w w f g) (nothing_done form contents f g source w)

left_unread : (form : Form) (source : SourceView) → LeavesUnread form source source
left_unread (Script config opening) source = tt
left_unread (ScriptTables config opening schema) source = tt
left_unread (Ask select) source = tt
left_unread (AskTables select schema) source = refl
left_unread (Make count) source = refl

pub left_unread_by : (o : Option Form) (source : SourceView) → IfSome o (λ form. LeavesUnread form source source)
left_unread_by None source = tt
left_unread_by (Some form) source = left_unread form source

abbrev Asks : Type 0
Asks = Result Question (List ℕ)

-- what is asked of the tables that were loaded
pub gives_loaded : (c : Contents) (select name : List ℕ) (found : Loaded) (asked : Asks) → LoadGives c name found → asked ≡ question_over_loaded select found → FilesGive c select name asked
gives_loaded c select name found asked gives is = record { files = gives.files; told = gives.told; is = is ∙ ap (question_over_loaded select) gives.is }

-- a reply that was written whole
pub wrote_tables : (c : Contents) (select name : List ℕ) (f g : StoresView) (status : ℕ) (source : SourceView) (w v : Option (List ℕ)) (text : List ℕ) (asked : Asks) → FilesGive c select name asked → IsReplyTo f g asked (record { text = text; status = status }) → Grows w v text → RanWhole (AskTables select name) c source source w v f g status
wrote_tables c select name f g status source w v text asked gives reply grew = record {
  files = gives.files;
  given = gives.told;
  answers = reply.answers;
  right = reply.right;
  wrote = record {
    bytes = [];
    text = text;
    failed = reply.fails ∷ [];
    few = reply.few;
    came = took_none source.left source.taken;
    grew = grew;
    whole = λ more later can. ap (shown reply.fails reply.answers) (sym gives.is) ∙ sym reply.is;
  };
  failures = tt;
  puts = λ none told. let P : Asks → Type 0 = λ a. sum f.puts + blocks_of a ≤ sum g.puts in subst P gives.is (reply.puts none told);
}

-- a reply of which the first bytes were written
pub wrote_tables_part : (c : Contents) (select name : List ℕ) (f g : StoresView) (status : ℕ) (source : SourceView) (w v : Option (List ℕ)) (text : List ℕ) (asked : Asks) → FilesGive c select name asked → IsReplyTo f g asked (record { text = text; status = status }) → GrewSome w v text → RanInPart (AskTables select name) c source source w v f g
wrote_tables_part c select name f g status source w v text asked gives reply some = record {
  files = gives.files;
  given = gives.told;
  answers = reply.answers;
  right = reply.right;
  wrote = record {
    bytes = [];
    text = take some.count text;
    failed = reply.fails ∷ [];
    few = reply.few;
    came = took_none source.left source.taken;
    grew = some.grew;
    begins = λ more later can. record { tail = drop some.count text; part = ap (λ (o : Output). o.text) (ap (shown reply.fails reply.answers) (sym gives.is) ∙ sym reply.is) ∙ two_parts some.count text };
  };
}
