-- What a format with a width writes. Assumes nothing.
use Rattle.std.proofs.Common.{◌≡◌, ℕ, zero, suc, ◌-◌, ◌^◌, false, List, [], ◌∷◌, ◌++◌, length, replicate, ap, ap₂, refl, ◌∙◌, append-nil, arith}
use Rattle.std.specs.List.{repeat}
use Rattle.std.specs.Fmt.{padded_integral, format_spec, padded, take_chars, char_count}
use Rattle.bch.specs.declared.Mode.{Mode}
use Rattle.bch.specs.declared.Mode.TheVariants.{Detecting, Correcting}
use Rattle.guard_times.specs.Csv.{mode_name}
use Rattle.guard_times.specs.Table.{at_the_right, at_the_left}

abbrev blank : List ℕ
blank = 32 ∷ []

blanks : (n : ℕ) → repeat n blank ≡ replicate n 32
blanks zero = refl
blanks (suc n) = ap (λ l. 32 ∷ l) (blanks n)

-- so many blanks, no sign, no prefix and no zeros before the digits, and no blanks behind them
before : (p q n : ℕ) (digits : List ℕ) → p ≡ n → q ≡ 0
    → (((repeat p blank ++ []) ++ []) ++ []) ++ (digits ++ repeat q blank) ≡ replicate n 32 ++ digits
before p q n digits same none =
    let filled = repeat p blank in
    let alone = append-nil ((filled ++ []) ++ []) ∙ append-nil (filled ++ []) ∙ append-nil filled in
    ap₂ (λ a b. a ++ b) (alone ∙ blanks p ∙ ap (λ m. replicate m 32) same) (ap (λ m. digits ++ repeat m blank) none ∙ append-nil digits)

pub right : (width : ℕ) (digits : List ℕ) → padded_integral (format_spec 32 3 0 width (2 ^ 64 - 1)) false [] digits ≡ at_the_right width digits
unfolding padded_integral char_count lib.Utf8.encode
right width digits =
    let p = width - length digits - 0 - 0 in
    before p (p - p) (width - length digits) digits (omega arith) (omega arith)

pub left : (mode : Mode) → padded (format_spec 32 1 0 10 (2 ^ 64 - 1)) (mode_name mode) ≡ at_the_left 10 (mode_name mode)
unfolding padded take_chars char_count lib.Utf8.encode
left Detecting = refl
left Correcting = refl
