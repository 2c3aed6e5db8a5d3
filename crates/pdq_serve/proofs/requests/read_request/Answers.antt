use Rattle.pdq_sql.specs.Commands.{command_of}
use Rattle.pdq_sql.specs.Tokens.{tokens_of}
use Rattle.pdq_sql.specs.declared.commands.LineHome.TheVariants.{Session}
use Rattle.pdq_serve.proofs.Asking.{line_parts}
use Rattle.pdq_serve.proofs.requests.read_request.Goals as goal

pub request_of-requires : goal.request_of-requires
request_of-requires c = record { parts = line_parts Session (tokens_of c.args.line.now) (command_of c.in-Ok-Some.command) (rw c.in-Ok-Some.field-0-is at c.in-Ok-Some.ensures.found) }
