-- How a run ends. Assumes nothing.
use Rattle.std.specs.Prelude.{◌≡◌, ◌≤◌, ℕ, List, Result, Ok, Err, IfOk, IfErr, true, map, string_bytes, String, Vec, vec_items}
use Rattle.std.specs.Fn.{Once, FnOnceReturnsAt}
use Rattle.std.specs.IoError.{error_kind}
use Rattle.std.specs.declared.io.Error.{Error as IoError}
use Rattle.std.specs.declared.io.ErrorKind.{ErrorKind as IoErrorKind}
use Rattle.std.specs.declared.io.ErrorKind.TheVariants.{InvalidData}
use Rattle.clap.specs.Faults.{fault_of, is_simple_and_free}
use Rattle.clap.specs.Words.{FailsBy, HasMatchesOf, IsParsedFrom, Text, app_of, kind_of, takes}
use Rattle.clap.specs.declared.builder.command.Command.{Command}
use Rattle.clap.specs.declared.error.Error.{Error}
use Rattle.clap.specs.declared.error.kind.ErrorKind.{ErrorKind}
use Rattle.clap.specs.declared.error.kind.ErrorKind.TheVariants.{DisplayHelp, DisplayVersion, OutOfMemory}
use Rattle.clap.specs.declared.parser.matches.ArgMatches.{ArgMatches}
use Rattle.command_line.specs.Status.{status_of}
use Rattle.command_line.specs.declared.failure.Failure.{Failure}
use denote.Ref.{Bor}

-- the status where the words could not be read: 2 where one of them is no text
abbrev pub unread_status : IoErrorKind → ℕ
unread_status InvalidData = 2
unread_status _ = 1

-- the status where the words give no matches: help and version are printed if they can be, and memory may run
-- out; otherwise the arguments are wrong
abbrev pub EndsWithout : ErrorKind → ℕ → Type 0
EndsWithout DisplayHelp status = status ≤ 1
EndsWithout DisplayVersion status = status ≤ 1
EndsWithout OutOfMemory status = status ≡ 1
EndsWithout _ status = status ≡ 2

-- what a parse of the words by the command may answer
pub record IsParse (command : Command) (words : List Text) (parse : Result ArgMatches Error) : Type 0 where
  pub checked : IfOk parse (IsParsedFrom command)
  pub matches : IfOk parse (HasMatchesOf (app_of command) words)
  pub taken : IfErr parse (λ e. takes (app_of command) words ≡ true → kind_of e ≡ OutOfMemory)
  pub kinds : is_simple_and_free (app_of command) ≡ true → FailsBy (fault_of (app_of command) words) parse

module _ {W : Type 0} (works : Once W (Bor ArgMatches × Unit {0}) (Result (Unit {0}) Failure)) (work : W) where
  -- the status after a parse: where there are matches, the work was done on them, and decides
  abbrev pub EndsAfter : Result ArgMatches Error → ℕ → Type 0
  EndsAfter (Err e) status = EndsWithout (kind_of e) status
  EndsAfter (Ok matches) status =
      (done : Result (Unit {0}) Failure) × FnOnceReturnsAt works work matches done × (status ≡ status_of done)

  -- the status of a program with this command on these words
  abbrev pub EndsOn : {A B : Type 0} → Command → Result (Vec (String A) B) IoError → ℕ → Type 0
  EndsOn command (Err e) status = status ≡ unread_status (error_kind e)
  EndsOn command (Ok words) status = (parse : Result ArgMatches Error)
      × IsParse command (map string_bytes (vec_items words)) parse × EndsAfter parse status

  -- the same where the command may lack the memory to be made
  abbrev pub Ends : {A B E : Type 0} → Result Command E → Result (Vec (String A) B) IoError → ℕ → Type 0
  Ends (Err _) words status = status ≡ 1
  Ends (Ok command) words status = EndsOn command words status
