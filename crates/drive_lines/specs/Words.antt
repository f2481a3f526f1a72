-- The words of a line, and what a word writes. Octets are given by their codes in ASCII. Assumes nothing.
use Rattle.std.specs.Prelude.{ℕ, ◌+◌, ◌-◌, ◌*◌, Bool, true, false, cond, ◌==◌, ◌||◌, nat_le, List, [], ◌∷◌, length, take, filter, slice_index, Option, Some, None, ℤ, pos, neg_ℤ}
use Rattle.std.specs.Char.{is_ascii_digit}
use Rattle.std.specs.List.{slice_split}
use Rattle.std.specs.Option.{option_map}

-- a blank or a tab
abbrev pub is_gap : ℕ → Bool
is_gap octet = octet == 32 || octet == 9

abbrev pub is_word : List ℕ → Bool
is_word [] = false
is_word (x ∷ further) = true

-- what stands between blanks and tabs
abbrev pub words : List ℕ → List (List ℕ)
words line = filter is_word (slice_split is_gap line)

-- a carriage return at the end is not of the line
abbrev pub strip_return : List ℕ → List ℕ
strip_return line = cond (slice_index line (length line - 1) == 13) (take (length line - 1) line) line

-- the number that decimal digits write behind those of n, if they are digits
abbrev pub value_behind : ℕ → List ℕ → Option ℕ
value_behind n [] = Some n
value_behind n (x ∷ further) = cond (is_ascii_digit x) (value_behind (10 * n + (x - 48)) further) None

abbrev pub at_most : ℕ → Option ℕ → Option ℕ
at_most most None = None
at_most most (Some n) = cond (nat_le n most) (Some n) None

-- the number that decimal digits alone write, if it is not too large
abbrev pub number : (most : ℕ) → List ℕ → Option ℕ
number most word = cond (is_word word) (at_most most (value_behind 0 word)) None

abbrev pub bit : ℕ → Option Bool
bit octet = cond (octet == 48) (Some false) (cond (octet == 49) (Some true) None)

-- all of them, if each writes one
abbrev pub before : {X : Type 0} → Option X → Option (List X) → Option (List X)
before None further = None
before (Some x) further = option_map (λ xs. x ∷ xs) further

abbrev pub all_written : {X Y : Type 0} → (X → Option Y) → List X → Option (List Y)
all_written f [] = Some []
all_written f (x ∷ further) = before (f x) (all_written f further)

-- a digit a bit
abbrev pub bits : List ℕ → Option (List Bool)
bits word = all_written bit word

-- a minus, or none, and digits: from -128 to 127
abbrev pub level : List ℕ → Option ℤ
level [] = None
level (x ∷ digits) =
    cond (x == 45) (option_map (λ n. neg_ℤ (pos n)) (number 128 digits)) (option_map pos (number 127 (x ∷ digits)))

-- between commas
abbrev pub levels : List ℕ → Option (List ℤ)
levels word = all_written level (slice_split (λ x. x == 44) word)
