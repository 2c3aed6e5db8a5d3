-- What the command line is to its parser, and the form of the words that a parse finds.
use Rattle.std.specs.Prelude.{ℕ, true, codes, List, Option, Some, None, if◌then◌else◌, option_and_then}
use Rattle.std.specs.Str.{bytes_eq}
use Rattle.clap.specs.Words.{App, Row, Rule, Text, first_of, new_app, new_rule, with_rule, with_subcommand}
use Rattle.clap.specs.Simple.{on_top}
use Rattle.pdqd.specs.declared.words.Form.{Form}
use Rattle.pdqd.specs.declared.words.Form.TheVariants.{Ask, AskTables}
use Rattle.pdqd.specs.Words.{make_of, number_of, over_tables, script_of}

-- a word that must be there
abbrev pub required : Text → Rule
required id = record (new_rule id) { required = true }

-- `ask SELECT`, and the name of a schema file that may follow
abbrev pub ask_command : App
ask_command = with_rule (with_rule (new_app (codes "ask")) (required (codes "select"))) (new_rule (codes "schema"))

-- `script T Q S m p`, and the name of a schema file that may follow
abbrev pub script_command : App
script_command = with_rule (with_rule (with_rule (with_rule (with_rule (with_rule (new_app (codes "script")) (required (codes "total_memory"))) (required (codes "max_queries"))) (required (codes "max_scans"))) (required (codes "max_priority"))) (required (codes "opening"))) (new_rule (codes "schema"))

-- `make N`
abbrev pub make_command : App
make_command = with_rule (new_app (codes "make")) (required (codes "count"))

-- none knows a word for help, and one of them is wanted
abbrev pub command_line : App
command_line = with_subcommand (with_subcommand (with_subcommand (on_top (λ s. record s { no_binary_name = true; disable_help_flag = true; disable_help_subcommand = true; subcommand_required = true }) (new_app (codes "pdqd"))) ask_command.top) script_command.top) make_command.top

-- the number that the word of this name says
abbrev pub number_in : List Row → Text → Option ℕ
number_in rows name = option_and_then number_of (first_of name rows)

abbrev pub numbers_found : List Row → Option Form
numbers_found rows = script_of (number_in rows (codes "total_memory")) (number_in rows (codes "max_queries")) (number_in rows (codes "max_scans")) (number_in rows (codes "max_priority")) (number_in rows (codes "opening"))

abbrev pub script_with : Option Form → Option Text → Option Form
script_with form None = form
script_with form (Some schema) = over_tables schema form

abbrev pub script_found : List Row → Option Form
script_found rows = script_with (numbers_found rows) (first_of (codes "schema") rows)

abbrev pub question_of : Option Text → Option Text → Option Form
question_of None schema = None
question_of (Some select) None = Some (Ask select)
question_of (Some select) (Some schema) = Some (AskTables select schema)

abbrev pub ask_found : List Row → Option Form
ask_found rows = question_of (first_of (codes "select") rows) (first_of (codes "schema") rows)

abbrev pub make_found : List Row → Option Form
make_found rows = make_of (number_in rows (codes "count"))

abbrev pub found_beside_ask : Text → List Row → Option Form
found_beside_ask name rows = if bytes_eq name (codes "make") then make_found rows else script_found rows

-- the form of the command that a parse found, with its words by their names
abbrev pub form_found : Option (Text × List Row) → Option Form
form_found None = None
form_found (Some p) = if bytes_eq p.0 (codes "ask") then ask_found p.1 else found_beside_ask p.0 p.1
