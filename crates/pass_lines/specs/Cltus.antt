-- The CLTUs that the lines of an input give, in order. Assumes nothing.
use Rattle.std.specs.Prelude.{ℕ, ◌+◌, List, [], ◌∷◌, Option, Some, None, Ok, Err, Result, map, vec_items}
use Rattle.std.specs.Global.{Vec}
use Rattle.answered_lines.specs.Lines.{lines_of}
use Rattle.cltu.specs.declared.Sender.{Sender}
use Rattle.pass_lines.specs.Given.{line_given}
use Rattle.pass_lines.specs.declared.line.LineFault.{LineFault}
use Rattle.pass_lines.specs.declared.error.PassError.{PassError}
use Rattle.pass_lines.specs.declared.error.PassError.TheVariants.{BadLine}

-- a CLTU in front of those of further lines
abbrev pub in_front : List ℕ → Result (List (List ℕ)) PassError → Result (List (List ℕ)) PassError
in_front cltu (Ok cltus) = Ok (cltu ∷ cltus)
in_front cltu (Err e) = Err e

-- what the line of a number gives, and the lines behind it
abbrev pub joined : (number : ℕ) → Result (Option (List ℕ)) LineFault → Result (List (List ℕ)) PassError
    → Result (List (List ℕ)) PassError
joined number (Ok None) further = further
joined number (Ok (Some cltu)) further = in_front cltu further
joined number (Err fault) further = Err (BadLine number fault)

-- the CLTUs that lines give, of which the first has this number; or the first line that is bad
abbrev pub lines_given : Sender → (number : ℕ) → List (List ℕ) → Result (List (List ℕ)) PassError
lines_given sender number [] = Ok []
lines_given sender number (line ∷ lines) =
    joined number (line_given sender line) (lines_given sender (number + 1) lines)

-- those of the lines of an input, of which the first is line 1
abbrev pub cltus_given : Sender → List ℕ → Result (List (List ℕ)) PassError
cltus_given sender input = lines_given sender 1 (lines_of input)

-- the octets of CLTUs
abbrev pub octets_of_each : List (Vec ℕ) → List (List ℕ)
octets_of_each cltus = map vec_items cltus
