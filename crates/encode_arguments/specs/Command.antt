-- The arguments that the program takes. Assumes nothing.
use Rattle.std.specs.Prelude.{codes}
use Rattle.clap.specs.Words.{App, Rule, Text, new_rule, with_rule}
use Rattle.command_line.specs.Program.{program_app}
use Rattle.receiver_options.specs.Options.{flag}

-- a word that is no option
abbrev pub word : Text → Rule
word id = record (new_rule id) { value_names = 1 }

-- the option `--random`, and two words
abbrev pub encode_app : App
encode_app = with_rule
    (with_rule (with_rule (program_app (codes "encode")) (flag (codes "random"))) (word (codes "word")))
    (word (codes "file"))
