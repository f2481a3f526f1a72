-- The arguments that the program takes. Assumes nothing.
use Rattle.std.specs.Prelude.{codes}
use Rattle.clap.specs.Words.{App, new_rule, with_rule}
use Rattle.command_line.specs.Program.{program_app}
use Rattle.receiver_options.specs.Options.{option_with_default, flag, with_receiver_options}

-- a command with `--from`, `--places`, `--candidates` and `--why` behind what it has
abbrev pub with_text_options : App → App
with_text_options command = with_rule
    (with_rule
    (with_rule (with_rule command (option_with_default (codes "from") (codes "record"))) (flag (codes "places")))
    (flag (codes "candidates"))) (flag (codes "why"))

-- the options of a receiver, those of the text, and the file
abbrev pub receive_app : App
receive_app = with_rule (with_text_options (with_receiver_options (program_app (codes "receive")))) (new_rule (codes "FILE"))
