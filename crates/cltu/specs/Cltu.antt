-- The CLTU of a frame: the start sequence, the codeblocks of the filled frame, and the tail sequence. Assumes nothing.
use Rattle.std.specs.Prelude.{ℕ, zero, suc, ◌+◌, ◌-◌, ◌*◌, ◌/◌, ◌≤◌, List, [], ◌∷◌, ◌++◌, length, take, drop, replicate}
use Rattle.bch.specs.Codeblock.{information_octets, codeblock}
use Rattle.randomizer.specs.declared.Randomizer.{Randomizer}
use Rattle.randomizer.specs.Sequence.{randomized}

-- a frame has at most 1,024 octets
abbrev pub longest_frame : ℕ
longest_frame = 1024

-- how many codeblocks hold a frame of n octets, seven octets each
abbrev pub codeblocks_for : ℕ → ℕ
codeblocks_for n = (n + 6) / 7

-- count is the least number of codeblocks that holds n octets
abbrev pub LeastThatHolds : ℕ → ℕ → Type 0
LeastThatHolds n count =
    (n ≤ information_octets * count) × ((other : ℕ) → n ≤ information_octets * other → count ≤ other)

-- fill octets lengthen a frame to whole codeblocks
abbrev pub fill_octet : ℕ
fill_octet = 0x55

abbrev pub fill_for : ℕ → ℕ
fill_for n = information_octets * codeblocks_for n - n

abbrev pub filled : List ℕ → List ℕ
filled frame = frame ++ replicate (fill_for (length frame)) fill_octet

-- the codeblocks of that many times seven octets, one after the other
abbrev pub coded : ℕ → List ℕ → List ℕ
coded zero octets = []
coded (suc count) octets = codeblock (take information_octets octets) ++ coded count (drop information_octets octets)

abbrev pub start_sequence : List ℕ
start_sequence = 0xEB ∷ 0x90 ∷ []

abbrev pub tail_sequence : List ℕ
tail_sequence = 0xC5 ∷ 0xC5 ∷ 0xC5 ∷ 0xC5 ∷ 0xC5 ∷ 0xC5 ∷ 0xC5 ∷ 0x79 ∷ []

abbrev pub cltu : Randomizer → List ℕ → List ℕ
cltu randomizer frame =
    start_sequence ++ (coded (codeblocks_for (length frame)) (randomized randomizer (filled frame)) ++ tail_sequence)
