-- What a line says: a select that was read has its parts, and a line that is run has no fault.
use Rattle.std.proofs.Common.{◌≡◌, ◌⊎◌, inl, inr, ℕ, ◌≤◌, Bool, List, [], ◌∙◌, length, refl, sym, ap, subst, arith, Option, None, Some, Result, Ok, Err, IfOk, IfErr, IfSome, option_map}
use Rattle.pdq_query.specs.Fits.{Fits}
use Rattle.pdq_query.specs.Queries.{QueryView}
use Rattle.pdq_sql.specs.declared.commands.LineHome.{LineHome}
use Rattle.pdq_sql.specs.declared.tokens.Mark.{Mark}
use Rattle.pdq_sql.specs.declared.tokens.Token.{Token}
use Rattle.pdq_sql.specs.declared.ast.Ast.{Ast}
use Rattle.pdq_sql.specs.declared.commands.Command.{Command}
use Rattle.pdq_sql.specs.declared.commands.Command.TheVariants as told
use Rattle.pdq_sql.specs.declared.faults.SqlFault.{SqlFault}
use Rattle.pdq_sql.specs.declared.faults.SqlWhy.{SqlWhy}
use Rattle.pdq_sql.specs.declared.faults.SqlWhy.TheVariants.{BadLine, Memory}
use Rattle.pdq_sql.specs.Reading.{IsRefusedAs}
use Rattle.pdq_sql.specs.Resolving.{no_memory}
use Rattle.pdq_sql.specs.Commands.{CommandView, command_of}
use Rattle.pdq_sql.specs.Commands as command
use Rattle.pdq_sql.specs.Grammar.{AreParts, last, more}
use Rattle.pdq_sql.specs.LineGrammar.{IsCommand, IsLine, line, query}
use Rattle.pdq_reply.specs.declared.replies.LineFault.TheVariants as fault
use Rattle.pdq_session.specs.declared.script_lines.Unread.{Unread}
use Rattle.pdq_session.specs.declared.script_lines.Unread.TheVariants as unread
use Rattle.pdq_session.specs.declared.script_lines.ScriptLine.{ScriptLine}
use Rattle.pdq_session.specs.declared.script_lines.ScriptLine.TheVariants as script
use Rattle.pdq_session.specs.Commands.{AsksNoTable, IsUnread, QueryHasParts, Said, said_as}
use Rattle.pdq_session.specs.ScriptLines.{IsLineOf, LineFits, SaysLine, line_step}
use Rattle.pdq_session.specs.ScriptStates.{AskedTables, ScriptState}
use Rattle.pdq_session.specs.ScriptSteps.{query_step}
use Rattle.pdq_session.specs.ScriptTranscript.{command_step, fault_of, fault_of_command, fault_of_query, script_step}

parts_some : {X : Type 0} (m : Mark) (R : List Token → List Token → X → Type 0) (rest ts : List Token) (xs : List X) → AreParts m R rest ts xs → 1 ≤ length xs
parts_some m R rest ts xs (last us x r) = omega arith
parts_some m R rest ts xs (more us a b x ys r next parts) = omega arith

command_parts : (home : LineHome) (ts rest : List Token) (c : CommandView) → IsCommand home ts rest c → QueryHasParts c
command_parts home ts rest c (query s a first body) = record { items = parts_some _ _ _ _ s.items body.items; tables = parts_some _ _ _ _ s.tables body.tables }
command_parts home ts rest c other = tt

pub line_parts : (home : LineHome) (ts : List Token) (c : CommandView) → IsLine home ts c → QueryHasParts c
line_parts home ts c (line g is end) = command_parts home ts g c is

pub none_fits : (q : QueryView) → Fits [] q → ⊥
none_fits q fits = let below = fits.tables 0 0 (omega (arith, fits.some_table)) in absurd (omega (arith, below))

-- a command that is neither QUERY nor RUN asks no table, and does not end the script
pub asks_none : (c : Command) → ((ast : Ast) → c ≡ told.Query ast → ⊥) → ((id : ℕ) → c ≡ told.Run id → ⊥) → AsksNoTable (command_of c)
asks_none (told.Query ast) differs other = absurd (differs ast refl)
asks_none (told.Run id) differs other = absurd (other id refl)
asks_none c differs other = tt

good_command : (asked : AskedTables) (c : CommandView) → AsksNoTable c → fault_of_command asked c ≡ None
good_command asked (command.Query ast) asks = absurd asks
good_command asked (command.Run id) asks = absurd asks
good_command asked c asks = refl

line_good : (asked : AskedTables) (said : Option CommandView) (l : ScriptLine) → IsLineOf asked said l → fault_of asked (Ok said) ≡ None
line_good asked said script.Blank is = ap (λ (o : Option CommandView). fault_of asked (Ok o)) is
line_good asked said (script.Query q) r = ap (λ (o : Option CommandView). fault_of asked (Ok o)) r.is ∙ ap fault_of_query r.resolves
line_good asked said (script.Run id) is = ap (λ (o : Option CommandView). fault_of asked (Ok o)) is
line_good asked said (script.Other c) o = ap (λ (o : Option CommandView). fault_of asked (Ok o)) o.is ∙ good_command asked (command_of c) o.asks

line_steps : (s : ScriptState) (failed : Bool) (said : Option CommandView) (l : ScriptLine) → IsLineOf s.asked said l → script_step s failed (Ok said) ≡ line_step s failed l
unfolding command_step
line_steps s failed said script.Blank is = ap (λ (o : Option CommandView). script_step s failed (Ok o)) is
line_steps s failed said (script.Query q) r = ap (λ (o : Option CommandView). script_step s failed (Ok o)) r.is ∙ ap (query_step s) r.resolves
line_steps s failed said (script.Run id) is = ap (λ (o : Option CommandView). script_step s failed (Ok o)) is
line_steps s failed said (script.Other c) o = ap (λ (o : Option CommandView). script_step s failed (Ok o)) o.is

-- a line that is run has no fault, and does what it says
pub says_good : (asked : AskedTables) (said : Said) (l : ScriptLine) → SaysLine asked said l → fault_of asked said ≡ None
says_good asked (Ok said) l is = line_good asked said l is
says_good asked (Err place) l is = absurd is

pub says_step : (s : ScriptState) (failed : Bool) (said : Said) (l : ScriptLine) → SaysLine s.asked said l → script_step s failed said ≡ line_step s failed l
says_step s failed (Ok said) l is = line_steps s failed said l is
says_step s failed (Err place) l is = absurd is

-- what it needs of its tables
line_fits : (asked : AskedTables) (said : Option CommandView) (l : ScriptLine) → IsLineOf asked said l → LineFits asked l
line_fits asked said script.Blank is = tt
line_fits asked said (script.Query q) r = r.fits
line_fits asked said (script.Run id) is = tt
line_fits asked said (script.Other c) o = o.asks

pub says_fits : (asked : AskedTables) (said : Said) (l : ScriptLine) → SaysLine asked said l → LineFits asked l
says_fits asked (Ok said) l is = line_fits asked said l is
says_fits asked (Err place) l is = absurd is

-- what was read of a line is a query with its parts, or none; what is run of it asks no table
pub some_parts : (home : LineHome) (ts : List Token) (o : Option Command) → IfSome o (λ c. IsLine home ts (command_of c)) → IfSome o (λ c. QueryHasParts (command_of c))
some_parts home ts None is = tt
some_parts home ts (Some c) is = line_parts home ts (command_of c) is

pub said_line : (asked : AskedTables) (r : Result ScriptLine Unread) (says : Said) (said : Option Command) → says ≡ said_as said → IfOk r (IsLineOf asked (option_map command_of said)) → IfOk r (SaysLine asked says)
said_line asked (Ok l) says said is same = let P : Said → Type 0 = λ x. SaysLine asked x l in subst P (sym is) same
said_line asked (Err u) says said is same = tt

pub said_bad : (asked : AskedTables) (r : Result ScriptLine Unread) (says : Said) (said : Option Command) → says ≡ said_as said → IfErr r (λ u. IsUnread u (fault_of asked (said_as said))) → IfErr r (λ u. IsUnread u (fault_of asked says))
said_bad asked (Ok l) says said is bad = tt
said_bad asked (Err u) says said is bad = let P : Said → Type 0 = λ x. IsUnread u (fault_of asked x) in subst P (sym is) bad

-- a query is refused as its resolution is, and a line as its reading is, unless memory was wanting
pub unread_query : (u : Unread) (e : SqlFault) (r : Result QueryView SqlFault) → IsUnread u (Some (fault.Refused e)) → (e.why ≡ Memory → u ≡ unread.Memory) → (e ≡ no_memory) ⊎ (r ≡ Err e) → IsUnread u (fault_of_query r)
unread_query unread.Memory e r value memory wrong = tt
unread_query (unread.Fault f) e r value memory (inl same) = let m : unread.Fault f ≡ unread.Memory = memory (ap (λ (x : SqlFault). x.why) same) in cc
unread_query (unread.Fault f) e r value memory (inr bad) = ap fault_of_query bad ∙ value

pub unread_line : (asked : AskedTables) (u : Unread) (e : SqlFault) (r : Said) → IsUnread u (Some (fault.Refused e)) → (e.why ≡ Memory → u ≡ unread.Memory) → IsRefusedAs e.why e.place r → IsUnread u (fault_of asked r)
unread_line asked unread.Memory e r value memory bad = tt
unread_line asked (unread.Fault f) e r value memory bad = go e.why refl bad
  where
    go : (why : SqlWhy) → e.why ≡ why → IsRefusedAs why e.place r → fault_of asked r ≡ Some f
    go BadLine is refused = ap (fault_of asked) refused ∙ ap (λ (w : SqlWhy). Some (fault.Refused (record { why = w; place = e.place }))) (sym is) ∙ value
    go Memory is refused = let m : unread.Fault f ≡ unread.Memory = memory is in cc
    go other is refused = absurd refused
