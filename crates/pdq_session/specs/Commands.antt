-- What a line of a script says.
use Rattle.std.specs.Prelude.{⊤, ℕ, ◌≡◌, ◌≤◌, List, Result, Ok, Option, Some, Bool, ◌&&◌, length, nat_le, option_map}
use Rattle.pdq_sql.specs.Asts.{AstView}
use Rattle.pdq_sql.specs.declared.commands.LineHome.TheVariants.{Script}
use Rattle.pdq_sql.specs.declared.commands.Command.{Command}
use Rattle.pdq_sql.specs.Commands.{CommandView, command_of}
use Rattle.pdq_sql.specs.Commands as command
use Rattle.pdq_reply.specs.declared.replies.LineFault.{LineFault}
use Rattle.pdq_session.specs.declared.script_lines.Unread.{Unread}
use Rattle.pdq_session.specs.declared.script_lines.Unread.TheVariants.{Memory, Fault}
use Rattle.pdq_sql.specs.LineReading.{line_reading}

-- a line as it is read: its command, none where it is blank or a comment, or its bad place
abbrev pub Said : Type 0
Said = Result (Option CommandView) ℕ

-- what was read of a line, as it is said
abbrev pub said_as : Option Command → Said
said_as o = Ok (option_map command_of o)

-- what a line of these bytes says
unfoldable pub line_of : List ℕ → Said
line_of bytes = line_reading Script bytes

-- whether a claim is in range: a priority of at most 100 percent, and 1 to 16 fragments
abbrev pub is_claim : ℕ → ℕ → Bool
is_claim p f = nat_le p 100 && nat_le 1 f && nat_le f 16

-- a command that asks no table
abbrev pub AsksNoTable : CommandView → Type 0
AsksNoTable (command.Query ast) = ⊥
AsksNoTable (command.Run id) = ⊥
AsksNoTable other = ⊤

-- a select of some item and some table
pub record HasParts (s : AstView) : Type 0 where
  pub items : 1 ≤ length s.items
  pub tables : 1 ≤ length s.tables

abbrev pub QueryHasParts : CommandView → Type 0
QueryHasParts (command.Query s) = HasParts s
QueryHasParts other = ⊤

-- why a line is not run is this fault, unless memory ran out
abbrev pub IsUnread : Unread → Option LineFault → Type 0
IsUnread Memory reason = ⊤
IsUnread (Fault e) reason = reason ≡ Some e
