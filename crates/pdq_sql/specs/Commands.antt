-- A command, with the plain lists of its select.
use Rattle.std.specs.Prelude.{ℕ, Bool}
use Rattle.pdq_sql.specs.Asts.{AstView, ast_of}
use Rattle.pdq_sql.specs.declared.commands.Letter.{Letter}
use Rattle.pdq_sql.specs.declared.commands.Level.{Level}
use Rattle.pdq_sql.specs.declared.commands.Command.{Command}
use Rattle.pdq_sql.specs.declared.commands.Command.TheVariants as command

pub data CommandView : Type 0 where
  SetPriority : Level → CommandView
  Query : AstView → CommandView
  Cancel : ℕ → CommandView
  Onstat : CommandView
  Onmode : Letter → ℕ → CommandView
  Claim : ℕ → ℕ → CommandView
  Run : ℕ → CommandView
  Done : ℕ → CommandView
  OpenSession : Bool → CommandView
  Choose : ℕ → CommandView
  CloseSession : ℕ → CommandView
  Hello : CommandView
  Admin : CommandView
  Quit : CommandView
  Shutdown : CommandView

abbrev pub command_of : Command → CommandView
command_of (command.SetPriority level) = SetPriority level
command_of (command.Query ast) = Query (ast_of ast)
command_of (command.Cancel id) = Cancel id
command_of command.Onstat = Onstat
command_of (command.Onmode letter value) = Onmode letter value
command_of (command.Claim priority frags) = Claim priority frags
command_of (command.Run id) = Run id
command_of (command.Done id) = Done id
command_of (command.OpenSession admin) = OpenSession admin
command_of (command.Choose number) = Choose number
command_of (command.CloseSession number) = CloseSession number
command_of command.Hello = Hello
command_of command.Admin = Admin
command_of command.Quit = Quit
command_of command.Shutdown = Shutdown
