-- What the words that are no options ask for. Assumes nothing.
use Rattle.std.specs.Prelude.{◌≡◌, Bool, true, false, Option, Some, None, codes, if◌then◌else◌, option_map, option_and_then}
use Rattle.std.specs.Str.{bytes_eq}
use Rattle.clap.specs.Words.{Text}
use Rattle.clap.specs.declared.parser.matches.ArgMatches.{ArgMatches}
use Rattle.randomizer.specs.declared.Randomizer.{Randomizer}
use Rattle.randomizer.specs.declared.Randomizer.TheVariants.{On, Off}
use Rattle.command_line.specs.Input.{file_of_word}
use Rattle.receiver_options.specs.Asked.{asked_randomizer, value}
use Rattle.encode_arguments.specs.declared.arguments.EncodeArguments.{EncodeArguments}

-- the first word is `random`
abbrev pub is_random : Option Text → Bool
is_random (Some word) = bytes_eq word (codes "random")
is_random None = false

-- the word for the file: the second behind `random`, and otherwise the only one
abbrev pub file_word : Option Text → Option Text → Option Text
file_word first second = if is_random first then second else first

-- two words stand, and the first is not `random`
abbrev pub is_one_too_many : Option Text → Option Text → Bool
is_one_too_many (Some first) (Some second) = if is_random (Some first) then false else true
is_one_too_many _ _ = false

-- the randomizer is on where an option or a word says so
abbrev pub either_on : Randomizer → Bool → Randomizer
either_on On _ = On
either_on Off true = On
either_on Off false = Off

module _ (matches : ArgMatches) where
  abbrev pub first_word : Option Text
  first_word = value matches (codes "word")

  abbrev pub second_word : Option Text
  second_word = value matches (codes "file")

  -- what is asked for
  pub record Asks (asked : EncodeArguments) : Type 0 where
    pub one_file : is_one_too_many first_word second_word ≡ false
    pub randomizer : asked.randomizer
        ≡ either_on (asked_randomizer (value matches (codes "random"))) (is_random first_word)
    pub file : option_map (λ name. name.now) asked.file
        ≡ option_and_then file_of_word (file_word first_word second_word)
