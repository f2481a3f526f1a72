-- The longest frame and the longest CLTU. Assumes nothing.
use Rattle.std.proofs.Common.{◌≡◌, ◌*◌, ◌==◌, ◌||◌, false, length, nat_lt, arith}
use Rattle.std.proofs.lemmas.Bool.{or_parts, ltb-false}
use Rattle.std.proofs.lemmas.Bool.Decides.{nat_tests}
use Rattle.bch.specs.Codeblock.{information_octets}
use Rattle.cltu.specs.Cltu.{longest_frame}
use Rattle.cltu.specs.Writing.{RefusesNoFrame, NoCltuIsLonger, IsNeverTooShort}
use Rattle.cltu.proofs.Places.{length_cltu}

pub refuses_no_frame : RefusesNoFrame 147
refuses_no_frame octets some few = grind (arith, nat_tests)

pub no_cltu_is_longer : NoCltuIsLonger 1186
no_cltu_is_longer sender frame taken =
    let octets = length frame in
    let limit = sender.limit.count in
    let few : nat_lt longest_frame octets ≡ false = (or_parts (nat_lt longest_frame octets) (nat_lt (information_octets * limit) octets) (or_parts (octets == 0) (nat_lt longest_frame octets || nat_lt (information_octets * limit) octets) taken).1).0 in
    omega (arith, length_cltu sender.randomizer frame, ltb-false longest_frame octets few)

pub is_never_too_short : IsNeverTooShort 1186
is_never_too_short sender frame memory long = grind (arith, nat_tests, length_cltu, no_cltu_is_longer)
