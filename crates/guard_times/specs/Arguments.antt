-- What the arguments ask for. Assumes nothing.
use Rattle.std.specs.Prelude.{◌≡◌, ◌==◌, false, List, [], ◌∷◌, All, Option, Some, None, codes, unwrap_or, if◌then◌else◌}
use Rattle.std.specs.List.{AllZip, slice_split, join_with_byte}
use Rattle.std.specs.Str.{bytes_eq}
use Rattle.clap.specs.Words.{Text, found_of, first_value}
use Rattle.clap.specs.declared.parser.matches.ArgMatches.{ArgMatches}
use Rattle.cltu.specs.Limit.{codeblocks_allowed}
use Rattle.cltu.specs.declared.limit.CodeblockLimit.{CodeblockLimit}
use Rattle.command_line.specs.Number.{WritesWithin}
use Rattle.receiver_options.specs.Asked.{AsksMode}
use Rattle.guard_times.specs.declared.bit_rate.BitRate.{BitRate}
use Rattle.guard_times.specs.declared.asked.Asked.{Asked}
use Rattle.guard_times.specs.declared.asked.Form.{Form}
use Rattle.guard_times.specs.declared.asked.Form.TheVariants.{Table, Csv}
use Rattle.guard_times.specs.Rate.{bits_a_second}

-- the texts between the commas of a text
abbrev pub between_commas : Text → List Text
between_commas text = slice_split (λ b. b == 44) text

-- they have no comma, and with a comma between each two they are the text
pub record CommasPart : Type 0 where
  pub joined : (text : Text) → join_with_byte 44 (between_commas text) ≡ text
  pub alone : (text : Text) → All (λ b. (b == 44) ≡ false) text → between_commas text ≡ text ∷ []

-- the limits as they are written: 1, 10, 37 and 147 where none are
abbrev pub limits_text : ArgMatches → Text
limits_text matches = unwrap_or (first_value (found_of matches) (codes "limit")) (codes "1,10,37,147")

-- a text writes a limit; and texts write limits, in order
abbrev pub WritesLimit : Text → CodeblockLimit → Type 0
WritesLimit text limit = WritesWithin 1 147 text (codeblocks_allowed limit)

abbrev pub WriteLimits : List Text → List CodeblockLimit → Type 0
WriteLimits texts limits = AllZip WritesLimit texts limits

abbrev pub AsksLimits : ArgMatches → List CodeblockLimit → Type 0
AsksLimits matches limits = WriteLimits (between_commas (limits_text matches)) limits

-- a text writes a rate; and where there is one, a rate is asked for
abbrev pub WritesRate : Text → BitRate → Type 0
WritesRate text rate = WritesWithin 1 4000000 text (bits_a_second rate)

abbrev pub WritesAnyRate : Option Text → Option BitRate → Type 0
WritesAnyRate None None = Unit {0}
WritesAnyRate None (Some rate) = ⊥
WritesAnyRate (Some text) None = ⊥
WritesAnyRate (Some text) (Some rate) = WritesRate text rate

abbrev pub AsksRate : ArgMatches → Option BitRate → Type 0
AsksRate matches rate = WritesAnyRate (first_value (found_of matches) (codes "rate")) rate

abbrev pub form_for : Option Text → Form
form_for None = Table
form_for (Some text) = if bytes_eq text (codes "true") then Csv else Table

abbrev pub form_asked : ArgMatches → Form
form_asked matches = form_for (first_value (found_of matches) (codes "csv"))

-- what is asked for
pub record Asks (matches : ArgMatches) (asked : Asked) : Type 0 where
  pub limits : AsksLimits matches asked.limits.items
  pub mode : AsksMode matches asked.mode
  pub rate : AsksRate matches asked.rate
  pub form : asked.form ≡ form_asked matches
