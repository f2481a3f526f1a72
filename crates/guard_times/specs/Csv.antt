-- Guard times as values parted by commas. Assumes nothing.
use Rattle.std.specs.Prelude.{ℕ, List, [], ◌++◌, Option, Some, None, codes, decimal}
use Rattle.std.specs.List.{flat_map}
use Rattle.bch.specs.declared.Mode.{Mode}
use Rattle.bch.specs.declared.Mode.TheVariants.{Detecting, Correcting}
use Rattle.cltu.specs.Limit.{codeblocks_allowed}
use Rattle.guard_times.specs.declared.row.Row.{Row}

abbrev pub mode_name : Mode → List ℕ
mode_name Detecting = codes "detecting"
mode_name Correcting = codes "correcting"

-- nothing without a rate
abbrev pub milliseconds_field : Option ℕ → List ℕ
milliseconds_field None = []
milliseconds_field (Some milliseconds) = decimal milliseconds

-- the limit, the mode, the bits, the octets and the milliseconds
abbrev pub csv_line : Row → List ℕ
csv_line row =
    decimal (codeblocks_allowed row.guard.limit) ++ (codes "," ++ (mode_name row.guard.mode ++ (codes ","
    ++ (decimal row.bits ++ (codes "," ++ (decimal row.octets ++ (codes ","
    ++ (milliseconds_field row.milliseconds ++ codes "\n"))))))))

abbrev pub csv_text : List Row → List ℕ
csv_text rows = codes "limit,mode,bits,octets,milliseconds\n" ++ flat_map csv_line rows
