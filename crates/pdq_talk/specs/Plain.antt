-- What a line that is no query asks for.
use Rattle.pdq_talk.specs.Lines as asked
use Rattle.pdq_talk.specs.Lines.{Asked, percent}
use Rattle.pdq_talk.specs.declared.commands.Plain.{Plain}
use Rattle.pdq_talk.specs.declared.commands.Plain.TheVariants as plain

abbrev pub plain_asked : Plain → Asked
plain_asked plain.Nothing = asked.Nothing
plain_asked (plain.BadLine e) = asked.BadLine e
plain_asked (plain.Unresolved e) = asked.Unresolved e
plain_asked (plain.Open admin) = asked.Open admin
plain_asked (plain.Priority n) = asked.Priority (percent n)
plain_asked (plain.Cancel id) = asked.CancelQuery id
plain_asked (plain.Change setting) = asked.Change setting
plain_asked plain.Status = asked.Status
plain_asked plain.Quit = asked.Quit
plain_asked plain.Shutdown = asked.Shutdown
