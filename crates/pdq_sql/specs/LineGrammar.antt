-- The grammar of a line, by cases, beside that of select:
--
--     line      = SET PDQPRIORITY ( int | OFF | LOW | HIGH | DEFAULT ) | QUERY select | CANCEL int | ONSTAT -g MGM | ONMODE ( -D | -M | -Q | -S ) int
--               | CLAIM int int | RUN int | DONE int | OPEN ( USER | ADMIN ) | USE int | CLOSE int     in a script
--               | HELLO | ADMIN | QUIT | SHUTDOWN                                                      in a session
use Rattle.std.specs.Prelude.{◌≡◌, ℕ, List, [], Option, Some, None, Result, Ok, Err, true, false, codes}
use Rattle.pdq_sql.specs.declared.tokens.Mark.TheVariants as mark
use Rattle.pdq_sql.specs.declared.commands.Letter.{Letter}
use Rattle.pdq_sql.specs.declared.tokens.TokenKind.TheVariants.{Fixed, Word, Number, Switch}
use Rattle.pdq_sql.specs.declared.tokens.Token.{Token}
use Rattle.pdq_sql.specs.declared.commands.LineHome.{LineHome}
use Rattle.pdq_sql.specs.declared.commands.LineHome.TheVariants.{Script, Session}
use Rattle.pdq_sql.specs.declared.commands.Level.{Level}
use Rattle.pdq_sql.specs.declared.commands.Level.TheVariants as level
use Rattle.pdq_sql.specs.declared.commands.Command.{Command}
use Rattle.pdq_sql.specs.Commands.{CommandView, command_of}
use Rattle.pdq_sql.specs.Commands as command
use Rattle.pdq_sql.specs.declared.faults.SqlFault.{SqlFault}
use Rattle.pdq_sql.specs.declared.faults.SqlWhy.TheVariants.{Memory}
use Rattle.pdq_sql.specs.Asts.{AstView}
use Rattle.pdq_sql.specs.Tokens.{int_of}
use Rattle.pdq_sql.specs.Grammar.{Next, IsBody}

pub data IsInt (ts rest : List Token) (n : ℕ) : Type 0 where
  int : (b : List ℕ) → Next (Number b) ts rest → int_of b ≡ Some n → IsInt ts rest n

pub data IsLevel (ts rest : List Token) : Level → Type 0 where
  number : (n : ℕ) → IsInt ts rest n → IsLevel ts rest (level.Number n)
  off : Next (Word (codes "off")) ts rest → IsLevel ts rest level.Off
  low : Next (Word (codes "low")) ts rest → IsLevel ts rest level.Low
  high : Next (Word (codes "high")) ts rest → IsLevel ts rest level.High
  usual : Next (Word (codes "default")) ts rest → IsLevel ts rest level.Default

pub data IsCommand (home : LineHome) (ts rest : List Token) : CommandView → Type 0 where
  set : (l : Level) (a b : List Token) → Next (Word (codes "set")) ts a → Next (Word (codes "pdqpriority")) a b → IsLevel b rest l → IsCommand home ts rest (command.SetPriority l)
  query : (s : AstView) (a : List Token) → Next (Word (codes "query")) ts a → IsBody a rest s → IsCommand home ts rest (command.Query s)
  cancel : (n : ℕ) (a : List Token) → Next (Word (codes "cancel")) ts a → IsInt a rest n → IsCommand home ts rest (command.Cancel n)
  onstat : (a b : List Token) → Next (Word (codes "onstat")) ts a → Next (Fixed mark.Statistics) a b → Next (Word (codes "mgm")) b rest → IsCommand home ts rest command.Onstat
  onmode : (l : Letter) (n : ℕ) (a b : List Token) → Next (Word (codes "onmode")) ts a → Next (Switch l) a b → IsInt b rest n → IsCommand home ts rest (command.Onmode l n)
  claim : (p f : ℕ) (a b : List Token) → home ≡ Script → Next (Word (codes "claim")) ts a → IsInt a b p → IsInt b rest f → IsCommand home ts rest (command.Claim p f)
  run : (n : ℕ) (a : List Token) → home ≡ Script → Next (Word (codes "run")) ts a → IsInt a rest n → IsCommand home ts rest (command.Run n)
  done : (n : ℕ) (a : List Token) → home ≡ Script → Next (Word (codes "done")) ts a → IsInt a rest n → IsCommand home ts rest (command.Done n)
  open_user : (a : List Token) → home ≡ Script → Next (Word (codes "open")) ts a → Next (Word (codes "user")) a rest → IsCommand home ts rest (command.OpenSession false)
  open_admin : (a : List Token) → home ≡ Script → Next (Word (codes "open")) ts a → Next (Word (codes "admin")) a rest → IsCommand home ts rest (command.OpenSession true)
  choose : (n : ℕ) (a : List Token) → home ≡ Script → Next (Word (codes "use")) ts a → IsInt a rest n → IsCommand home ts rest (command.Choose n)
  close : (n : ℕ) (a : List Token) → home ≡ Script → Next (Word (codes "close")) ts a → IsInt a rest n → IsCommand home ts rest (command.CloseSession n)
  hello : home ≡ Session → Next (Word (codes "hello")) ts rest → IsCommand home ts rest command.Hello
  admin : home ≡ Session → Next (Word (codes "admin")) ts rest → IsCommand home ts rest command.Admin
  quit : home ≡ Session → Next (Word (codes "quit")) ts rest → IsCommand home ts rest command.Quit
  shutdown : home ≡ Session → Next (Word (codes "shutdown")) ts rest → IsCommand home ts rest command.Shutdown

-- a command and the end of the line
pub data IsLine (home : LineHome) (ts : List Token) (c : CommandView) : Type 0 where
  line : (g : List Token) → IsCommand home ts g c → Next (Fixed mark.End) g [] → IsLine home ts c

-- It is read as c, unless memory ran out.
abbrev pub AcceptsLine : Result (Option Command) SqlFault → CommandView → Type 0
AcceptsLine (Ok (Some a)) c = command_of a ≡ c
AcceptsLine (Ok None) c = ⊥
AcceptsLine (Err e) c = e.why ≡ Memory
