-- What the options ask for. Assumes nothing.
use Rattle.std.specs.Prelude.{◌≡◌, ℕ, Option, Some, None, codes, unwrap_or, if◌then◌else◌}
use Rattle.std.specs.Option.{option_map}
use Rattle.std.specs.Str.{bytes_eq}
use Rattle.clap.specs.Words.{Text, first_value, found_of}
use Rattle.clap.specs.declared.parser.matches.ArgMatches.{ArgMatches}
use Rattle.bch.specs.declared.Mode.{Mode}
use Rattle.bch.specs.declared.Mode.TheVariants.{Correcting, Detecting}
use Rattle.randomizer.specs.declared.Randomizer.{Randomizer}
use Rattle.randomizer.specs.declared.Randomizer.TheVariants.{On, Off}
use Rattle.cltu.specs.Limit.{codeblocks_allowed}
use Rattle.command_line.specs.Number.{WritesWithin}
use Rattle.receiver_options.specs.declared.options.ReceiverOptions.{ReceiverOptions}

-- the value of an option, if it has one
abbrev pub value : ArgMatches → Text → Option Text
value matches name = first_value (found_of matches) name

abbrev pub mode_name : Mode → Text
mode_name Correcting = codes "correcting"
mode_name Detecting = codes "detecting"

-- the modes that are asked for are this one, or neither alone
abbrev pub AsksMode : ArgMatches → Option Mode → Type 0
AsksMode matches mode = option_map mode_name mode ≡ value matches (codes "mode")

-- the limit, 37 where none is asked for
abbrev pub AsksLimit : ArgMatches → ℕ → Type 0
AsksLimit matches = WritesWithin 1 147 (unwrap_or (value matches (codes "limit")) (codes "37"))

-- the number of cells, 37 where none is asked for
abbrev pub AsksCells : ArgMatches → ℕ → Type 0
AsksCells matches = WritesWithin 0 65535 (unwrap_or (value matches (codes "cells")) (codes "37"))

abbrev pub asked_randomizer : Option Text → Randomizer
asked_randomizer None = Off
asked_randomizer (Some text) = if bytes_eq text (codes "true") then On else Off

-- the receiver that is asked for: correcting where no mode is
pub record Asks (matches : ArgMatches) (options : ReceiverOptions) : Type 0 where
  pub mode : (mode : Option Mode) × AsksMode matches mode × (options.mode ≡ unwrap_or mode Correcting)
  pub limit : AsksLimit matches (codeblocks_allowed options.limit)
  pub cells : AsksCells matches options.cells
  pub randomizer : options.randomizer ≡ asked_randomizer (value matches (codes "random"))
