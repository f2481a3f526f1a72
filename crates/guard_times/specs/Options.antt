-- The options as a command has them. Assumes nothing.
use Rattle.std.specs.Prelude.{codes}
use Rattle.clap.specs.Words.{App, with_rule}
use Rattle.receiver_options.specs.Options.{option, option_with_default, flag}

-- a command with these options behind what it has
abbrev pub with_guard_options : App → App
with_guard_options command = with_rule
    (with_rule (with_rule (with_rule command (option_with_default (codes "limit") (codes "1,10,37,147"))) (option (codes "mode"))) (option (codes "rate")))
    (flag (codes "csv"))
