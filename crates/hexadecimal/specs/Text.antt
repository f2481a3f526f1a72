-- The octets that a text of hexadecimal digits in ASCII writes. Assumes nothing.
use Rattle.std.specs.Prelude.{◌≡◌, ℕ, List, map, Some, Option}
use Rattle.std.specs.Char.{to_ascii_uppercase}
use Rattle.std.specs.Result.{result_ok}
use Rattle.hex.specs.Hex.{IsBytes, decode_of, encode_lower, encode_upper}

-- the octets that a text decodes to, or None where it is not whole octets of digits
abbrev pub octets_written : List ℕ → Option (List ℕ)
octets_written text = result_ok (decode_of text)

-- the law that ties reading and writing: octets are read from their digits, in capitals and in small letters; the case
-- of a letter makes no difference; and a text that is read is, in capitals, the digits of the octets that it gives
pub record DigitsReadBack : Type 0 where
  pub capitals : (octets : List ℕ) → IsBytes octets → octets_written (encode_upper octets) ≡ Some octets
  pub small_letters : (octets : List ℕ) → IsBytes octets → octets_written (encode_lower octets) ≡ Some octets
  pub either_case : (text : List ℕ) → octets_written (map to_ascii_uppercase text) ≡ octets_written text
  pub only_so : (text octets : List ℕ) → octets_written text ≡ Some octets
      → map to_ascii_uppercase text ≡ encode_upper octets
