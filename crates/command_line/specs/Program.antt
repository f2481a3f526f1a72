-- What each program's command has. Assumes nothing.
use Rattle.std.specs.Prelude.{true}
use Rattle.clap.specs.Simple.{on_top}
use Rattle.clap.specs.Words.{App, Text, new_app}

-- a command of this name with a version, and no arguments yet
abbrev pub program_app : Text → App
program_app name = on_top (λ top. record top { has_version = true }) (new_app name)
