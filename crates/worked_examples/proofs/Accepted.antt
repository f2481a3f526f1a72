-- A codeblock is accepted as it was sent. Assumes nothing.
use Rattle.std.proofs.Common.{◌≡◌, ℕ, ◌/◌, ◌<◌, ◌^◌, List, length, get_or, sym, subst, ap, ◌∙◌, arith}
use lib.Bits.{xor_self}
use Rattle.std.specs.Int.Digits.{number_from_digits, AllBelowBase}
use Rattle.std.proofs.lemmas.Int.Digits.{number_lt}
use Rattle.std.proofs.ByRecursion.{All-take, All-from_get_or}
use Rattle.std.proofs.lemmas.List.{length-take-le}
use Rattle.bch.specs.Polynomial.{weight}
use Rattle.bch.specs.Codeblock.{codeblock_octets, Information}
use Rattle.bch.specs.Reception.{wrong_bits}
use Rattle.bch.proofs.Weights.{weight_zero}
use Rattle.bch.proofs.Laws.{undamaged_is_accepted}
use Rattle.worked_examples.specs.Vectors.{information_in, IsCodeblock, IsAcceptedByBothModes}

-- a word differs from itself in no bit
none_wrong : (word : ℕ) → wrong_bits word word ≡ 0
none_wrong word = ap (λ x. weight 63 (x / 2)) (xor_self word) ∙ weight_zero 63

pub accepted_as_sent :
    (vector : List ℕ) → length vector ≡ codeblock_octets → ((k : ℕ) → get_or vector k 0 < 256) → IsCodeblock vector
    → IsAcceptedByBothModes vector
accepted_as_sent vector n octets is mode =
    let word = number_from_digits 256 vector in
    let below : AllBelowBase 256 vector = All-from_get_or (λ x. x < 256) vector 0 (λ k _. octets k) in
    let few : word < 2 ^ 64 = subst (λ x. word < 256 ^ x) n (number_lt 256 vector below) in
    let h : Information (information_in vector) =
    (length-take-le 7 vector (omega arith), All-take (λ x. x < 256) 7 vector below)
    in
    undamaged_is_accepted mode word few (information_in vector) h
    (ap (λ x. wrong_bits (number_from_digits 256 x) word) (sym is) ∙ none_wrong word)
