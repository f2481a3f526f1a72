-- Which file a program reads. Assumes nothing.
use Rattle.std.specs.Prelude.{Option, Some, None, codes, if◌then◌else◌, option_and_then}
use Rattle.std.specs.Str.{bytes_eq}
use Rattle.clap.specs.Words.{Text, first_value, found_of}
use Rattle.clap.specs.declared.parser.matches.ArgMatches.{ArgMatches}

-- the file that a word names: none where the word is `-`, which stands for standard input
abbrev pub file_of_word : Text → Option Text
file_of_word word = if bytes_eq word (codes "-") then None else Some word

-- the file that the arguments name: none where no word stands for it
abbrev pub file_of : ArgMatches → Option Text
file_of matches = option_and_then file_of_word (first_value (found_of matches) (codes "FILE"))
