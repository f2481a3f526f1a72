-- Guard times as a table to be read. Assumes nothing.
use Rattle.std.specs.Prelude.{ℕ, ◌-◌, List, [], ◌++◌, length, replicate, Option, Some, None, codes, decimal}
use Rattle.std.specs.List.{flat_map}
use Rattle.cltu.specs.Limit.{codeblocks_allowed}
use Rattle.guard_times.specs.declared.bit_rate.BitRate.{BitRate}
use Rattle.guard_times.specs.declared.row.Row.{Row}
use Rattle.guard_times.specs.Rate.{bits_a_second}
use Rattle.guard_times.specs.Csv.{mode_name}

-- a text in a column of this width: blanks stand before it, or behind it
abbrev pub at_the_right : (width : ℕ) → List ℕ → List ℕ
at_the_right width text = replicate (width - length text) 32 ++ text

abbrev pub at_the_left : (width : ℕ) → List ℕ → List ℕ
at_the_left width text = text ++ replicate (width - length text) 32

-- milliseconds have a column where there is a rate
abbrev pub heading : Option BitRate → List ℕ
heading None = codes "limit  mode        bits  octets\n"
heading (Some rate) = codes "limit  mode        bits  octets  milliseconds\n"

abbrev pub milliseconds_column : Option ℕ → List ℕ
milliseconds_column None = []
milliseconds_column (Some milliseconds) = codes "  " ++ at_the_right 12 (decimal milliseconds)

-- the limit, the mode, the bits and the octets, each in its column
abbrev pub columns : Row → List ℕ
columns row =
    at_the_right 5 (decimal (codeblocks_allowed row.guard.limit)) ++ (codes "  "
    ++ (at_the_left 10 (mode_name row.guard.mode) ++ (codes "  "
    ++ (at_the_right 4 (decimal row.bits) ++ (codes "  " ++ at_the_right 6 (decimal row.octets))))))

abbrev pub table_line : Row → List ℕ
table_line row = columns row ++ (milliseconds_column row.milliseconds ++ codes "\n")

-- what the rows tell
abbrev pub what_it_is : List ℕ
what_it_is =
    codes "\nGuard time between two commands: the idle that has to lie between them, undamaged and with the carrier up\n"
    ++ (codes "throughout, so that a receiver of that mode and limit is back in SEARCH before the second begins, whatever\n"
    ++ (codes "became of the first and whichever bit the idle begins with. The limit is the greatest count of codeblocks\n"
    ++ codes "that the receiver takes in a CLTU. Octets are rounded up.\n"))

abbrev pub what_milliseconds_are : Option BitRate → List ℕ
what_milliseconds_are None = []
what_milliseconds_are (Some rate) =
    codes "Milliseconds are what the bits take at " ++ (decimal (bits_a_second rate)
    ++ codes " bits a second, rounded up.\n")

abbrev pub note : Option BitRate → List ℕ
note rate =
    what_it_is ++ (what_milliseconds_are rate
    ++ codes "After carrier up none is needed: the first command may begin at once.\n")

abbrev pub table_text : Option BitRate → List Row → List ℕ
table_text rate rows = heading rate ++ (flat_map table_line rows ++ note rate)
