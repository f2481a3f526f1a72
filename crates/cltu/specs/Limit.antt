-- How many codeblocks CLTUs may have: what a limit allows, and which numbers are a limit. Assumes nothing.
use Rattle.std.specs.Prelude.{◌≡◌, ℕ, cond, ◌&&◌, Ok, Err, Result, nat_le}
use Rattle.refusals.specs.declared.Refusal.{Refusal}
use Rattle.refusals.specs.declared.Refusal.TheVariants.{CodeblockLimit as OutOfRange}
use Rattle.cltu.specs.declared.limit.CodeblockLimit.{CodeblockLimit}

-- how many codeblocks a limit allows a CLTU
abbrev pub codeblocks_allowed : CodeblockLimit → ℕ
codeblocks_allowed limit = limit.count

-- what was made, by how many codeblocks it allows
abbrev pub made_count : Result CodeblockLimit Refusal → Result ℕ Refusal
made_count (Ok limit) = Ok (codeblocks_allowed limit)
made_count (Err refusal) = Err refusal

-- a CLTU has at most 147 codeblocks
abbrev pub most_codeblocks : ℕ
most_codeblocks = 147

-- from 1 to that many, and anything else is refused
abbrev pub limit_answer : ℕ → Result ℕ Refusal
limit_answer count = cond (nat_le 1 count && nat_le count most_codeblocks) (Ok count) (Err OutOfRange)

-- a conversion of a count made what its value answers
abbrev pub MadeOf : ℕ → Result CodeblockLimit Refusal → Type 0
MadeOf count made = made_count made ≡ limit_answer count
