-- The words of lines that `encode` prints. Assumes nothing.
use Rattle.std.proofs.Common.{◌≡◌, ◌≢◌, ℕ, zero, suc, ◌+◌, ◌-◌, ◌*◌, ◌/◌, ◌%◌, ◌^◌, ◌<◌, ◌≤◌, Bool, true, false, not, cond, ◌==◌, ◌&&◌, List, [], ◌∷◌, ◌++◌, length, take, drop, get_or, Some, None, Ok, codes, decimal, nat_lt, nat_le, refl, sym, ap, ap₂, subst, ◌∙◌, ne_eqb, arith}
use Rattle.std.specs.Char.{is_ascii_digit}
use Rattle.std.specs.List.{position_or_len, before_first, after_first, list_all, AllByRecursion}
use Rattle.std.specs.Result.{result_ok}
use Rattle.std.specs.Str.{bytes_eq}
use Rattle.std.specs.Str.Parse.{AllDigits}
use Rattle.std.proofs.lemmas.Bool.Decides.{nat_tests}
use Rattle.std.proofs.lemmas.Fmt.{decimal_is_IsNumeral, decimal_digit}
use Rattle.std.proofs.lemmas.Slice.Eq.{bytes_eq-Decides}
use Rattle.std.proofs.lemmas.Str.Parse.{digit_from_value}
use Rattle.hex.specs.Hex.{decode_of}
use Rattle.cltu.specs.declared.Sender.{Sender}
use Rattle.encode_lines.specs.Lines.{cltu_text}
use Rattle.pass_lines.specs.Given.{is_blank, front_word, behind_word, is_number, is_end_line, told_digits, told_fill, is_printed, tells, if_tells, told_cltu, told_or_none, if_read, octets_written, line_given}
use Rattle.pass_lines.specs.LinesLaw.{PrintedLinesGive}

-- a word: no blank is in it
abbrev Word : List ℕ → Type 0
Word w = AllByRecursion (λ x. (x == 32) ≡ false) w

one_plus : (n : ℕ) → 1 + n ≡ suc n
one_plus n = omega arith

-- the first blank of a word and more stands behind the word
place : (w rest : List ℕ) → Word w → position_or_len is_blank (w ++ 32 ∷ rest) ≡ length w
place [] rest all = refl
place (x ∷ w) rest all =
    ap (λ b. cond (not b) (1 + position_or_len is_blank (w ++ 32 ∷ rest)) 0) all.0 ∙ one_plus (position_or_len is_blank (w ++ 32 ∷ rest)) ∙ ap suc (place w rest all.1)

dropped : (w rest : List ℕ) (x : ℕ) → drop (length w + 1) (w ++ x ∷ rest) ≡ rest
dropped [] rest x = refl
dropped (y ∷ w) rest x =
    let next : suc (length w) + 1 ≡ suc (length w + 1) = omega arith in
    ap (λ m. drop m (y ∷ (w ++ x ∷ rest))) next ∙ dropped w rest x

taken : (w rest : List ℕ) → take (length w) (w ++ rest) ≡ w
taken [] rest = refl
taken (y ∷ w) rest = ap (λ l. y ∷ l) (taken w rest)

behind : (w rest : List ℕ) → Word w → behind_word (w ++ 32 ∷ rest) ≡ rest
behind w rest all = ap (λ n. drop (n + 1) (w ++ 32 ∷ rest)) (place w rest all) ∙ dropped w rest 32

front : (w rest : List ℕ) → Word w → front_word (w ++ 32 ∷ rest) ≡ w
front w rest all = ap (λ n. take n (w ++ 32 ∷ rest)) (place w rest all) ∙ taken w (32 ∷ rest)

-- decimal digits are a word and a number
digit_word : (x : ℕ) → 48 ≤ x → x ≤ 57 → (x == 32) ≡ false
digit_word x low high = ne_eqb x 32 (λ e. omega arith)

digit_is : (x : ℕ) → 48 ≤ x → x ≤ 57 → is_ascii_digit x ≡ true
digit_is x low high = grind (arith, nat_tests)

digits_word : (ds : List ℕ) → AllDigits 10 ds → Word ds
digits_word [] all = tt
digits_word (x ∷ ds) all = let range = digit_from_value x all.0 in (digit_word x range.0 range.1, digits_word ds all.1)

digits_are : (ds : List ℕ) → AllDigits 10 ds → list_all is_ascii_digit ds ≡ true
digits_are [] all = refl
digits_are (x ∷ ds) all = let range = digit_from_value x all.0 in ap₂ (λ a b. a && b) (digit_is x range.0 range.1) (digits_are ds all.1)

some_length : (n : ℕ) → 0 < n → nat_lt 0 n ≡ true
some_length n h = grind (arith, nat_tests)

number : (n : ℕ) → n < 2 ^ 64 → is_number (decimal n) ≡ true
number n small = let is = (decimal_is_IsNumeral n small).0 in ap₂ (λ a b. a && b) (some_length (length (decimal n)) is.0) (digits_are (decimal n) is.1)

word : (n : ℕ) → n < 2 ^ 64 → Word (decimal n)
word n small = digits_word (decimal n) (decimal_is_IsNumeral n small).0.1

module _ (lines cltus : ℕ) (few : lines < 2 ^ 64) (fewer : cltus < 2 ^ 64) where
  abbrev last_line : List ℕ
  last_line = codes "end " ++ (decimal lines ++ (codes " " ++ decimal cltus))

  numbers : behind_word last_line ≡ decimal lines ++ 32 ∷ decimal cltus
  numbers = behind (codes "end") (decimal lines ++ 32 ∷ decimal cltus) (refl, (refl, (refl, tt)))

  is_last : is_end_line last_line ≡ true
  is_last =
      ap₂ (λ a b. is_number (front_word a) && is_number (behind_word b)) numbers numbers
      ∙ ap₂ (λ a b. is_number a && is_number b) (front (decimal lines) (decimal cltus) (word lines few)) (behind (decimal lines) (decimal cltus) (word lines few))
      ∙ ap₂ (λ a b. a && b) (number lines few) (number cltus fewer)

  pub end_given : (sender : Sender) → line_given sender last_line ≡ Ok None
  end_given sender = ap (λ b. cond b (Ok None) (if_read sender (octets_written last_line))) is_last

module _ (codeblocks fill : ℕ) (digits octets : List ℕ) (written : decode_of digits ≡ Ok octets) (whole : length octets ≡ 10 + 8 * codeblocks) (less : fill < 7) (small : length octets < 2 ^ 64) where
  abbrev line : List ℕ
  line = cltu_text codeblocks fill (length octets) digits

  abbrev third : List ℕ
  third = decimal fill ++ 32 ∷ (decimal (length octets) ++ 32 ∷ digits)

  second_behind : behind_word line ≡ decimal codeblocks ++ 32 ∷ third
  second_behind = behind (codes "cltu") (decimal codeblocks ++ 32 ∷ third) (refl, (refl, (refl, (refl, tt))))

  third_behind : behind_word (behind_word line) ≡ third
  third_behind = ap behind_word second_behind ∙ behind (decimal codeblocks) third (word codeblocks (omega arith))

  digits_told : told_digits line ≡ digits
  digits_told =
      ap (λ l. behind_word (behind_word l)) third_behind
      ∙ ap behind_word (behind (decimal fill) (decimal (length octets) ++ 32 ∷ digits) (word fill (omega arith)))
      ∙ behind (decimal (length octets)) digits (word (length octets) small)

  fill_told : told_fill line ≡ fill
  fill_told =
      let begin : get_or third 0 0 ≡ 48 + fill = ap (λ d. get_or (d ++ 32 ∷ (decimal (length octets) ++ 32 ∷ digits)) 0 0) (decimal_digit fill (omega arith)) in
      ap (λ l. get_or l 0 0 - 48) third_behind ∙ ap (λ x. x - 48) begin ∙ minus fill
    where
      minus : (n : ℕ) → 48 + n - 48 ≡ n
      minus n = omega arith

  printed_so : is_printed line (length octets) fill digits ≡ true
  printed_so =
      let ten : nat_le 10 (length octets) ≡ true = grind (arith, nat_tests) in
      let two : (length octets % 8 == 2) ≡ true = let e : length octets % 8 ≡ 2 = omega arith in ap (λ n. n == 2) e in
      let seven : nat_lt fill 7 ≡ true = grind (arith, nat_tests) in
      let count : (length octets - 10) / 8 ≡ codeblocks = omega arith in
      let same : bytes_eq line (cltu_text ((length octets - 10) / 8) fill (length octets) digits) ≡ true =
      (bytes_eq-Decides line (cltu_text ((length octets - 10) / 8) fill (length octets) digits)).1 (ap (λ n. cltu_text n fill (length octets) digits) (sym count)) in
      ap₂ (λ a b. a && b) (ap₂ (λ a b. a && b) ten (ap₂ (λ a b. a && b) two seven)) same

  told : tells line octets ≡ true
  told = ap₂ (λ f d. is_printed line (length octets) f d) fill_told digits_told ∙ printed_so

  pub cltu_given : (sender : Sender) → line_given sender line ≡ Ok (Some octets)
  cltu_given sender =
      ap (λ d. told_or_none (if_tells line (octets_written d))) digits_told
      ∙ ap (λ r. told_or_none (if_tells line (result_ok r))) written
      ∙ ap (λ b. told_or_none (cond b (Some octets) None)) told

pub printed_lines_give : PrintedLinesGive
printed_lines_give = record {
  cltu = λ sender codeblocks fill digits octets written whole less small. cltu_given codeblocks fill digits octets written whole less small sender;
  end = λ sender lines cltus few fewer. end_given lines cltus few fewer sender;
}
