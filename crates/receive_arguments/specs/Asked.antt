-- What the arguments ask for. Assumes nothing.
use Rattle.std.specs.Prelude.{◌≡◌, Bool, true, false, Option, Some, None, codes, unwrap_or, option_map}
use Rattle.std.specs.Str.{bytes_eq}
use Rattle.clap.specs.Words.{Text}
use Rattle.clap.specs.declared.parser.matches.ArgMatches.{ArgMatches}
use Rattle.command_line.specs.Input.{file_of}
use Rattle.receiver_options.specs.Asked.{value, Asks as AsksReceiver}
use Rattle.receiver_options.specs.declared.options.ReceiverOptions.{ReceiverOptions}
use Rattle.receive_lines.specs.declared.form.Form.{Form}
use Rattle.receive_lines.specs.declared.form.Form.TheVariants.{Packed, Bits, Levels}
use Rattle.receive_lines.specs.declared.setup.Setup.{Setup}
use Rattle.receive_lines.specs.declared.view.View.{View}
use Rattle.receive_lines.specs.declared.view.View.TheVariants.{Plain, Places, Candidates}
use Rattle.receive_arguments.specs.declared.arguments.ReceiveArguments.{ReceiveArguments}

-- whether an option that takes no value is given
abbrev pub is_true : Option Text → Bool
is_true None = false
is_true (Some text) = bytes_eq text (codes "true")

abbrev pub given : ArgMatches → Text → Bool
given matches name = is_true (value matches name)

-- what is to be printed, unless both options are given
abbrev pub view_for : (places candidates : Bool) → Option View
view_for false false = Some Plain
view_for true false = Some Places
view_for false true = Some Candidates
view_for true true = None

abbrev pub view_asked : ArgMatches → Option View
view_asked matches = view_for (given matches (codes "places")) (given matches (codes "candidates"))

-- what the input is, by name: a record where none is given
abbrev pub form_name : Option Form → Text
form_name None = codes "record"
form_name (Some Packed) = codes "packed"
form_name (Some Bits) = codes "bits"
form_name (Some Levels) = codes "levels"

abbrev pub AsksForm : ArgMatches → Option Form → Type 0
AsksForm matches form = form_name form ≡ unwrap_or (value matches (codes "from")) (codes "record")

abbrev pub options_of : Setup → ReceiverOptions
options_of setup = record {
  mode = setup.settings.mode;
  limit = setup.settings.limit;
  cells = setup.cells;
  randomizer = setup.randomizer;
}

pub record Asks (matches : ArgMatches) (asked : ReceiveArguments) : Type 0 where
  pub receiver : AsksReceiver matches (options_of asked.setup)
  pub view : view_asked matches ≡ Some asked.view
  pub form : AsksForm matches asked.form
  pub why : asked.why ≡ given matches (codes "why")
  pub file : option_map (λ name. name.now) asked.file ≡ file_of matches
