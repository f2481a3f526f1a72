-- The options as a command has them. Assumes nothing.
use Rattle.std.specs.Prelude.{[], ◌∷◌, Some, codes}
use Rattle.clap.specs.Words.{App, Rule, Text, new_rule, with_rule}
use Rattle.clap.specs.declared.builder.action.ArgAction.TheVariants.{SetTrue}

-- an option of this name that takes a value
abbrev pub option : Text → Rule
option name = record (new_rule name) { long = Some name; value_names = 1 }

-- the same where it has this value unless it is given
abbrev pub option_with_default : Text → Text → Rule
option_with_default name value = record (option name) { defaults = value ∷ [] }

-- an option of this name that takes none
abbrev pub flag : Text → Rule
flag name = record (new_rule name) { long = Some name; action = Some SetTrue }

-- a command with the options of a receiver behind what it has
abbrev pub with_receiver_options : App → App
with_receiver_options command = with_rule
    (with_rule
    (with_rule (with_rule command (option (codes "mode")))
    (option_with_default (codes "limit") (codes "37")))
    (option_with_default (codes "cells") (codes "37"))) (flag (codes "random"))
