-- The layer's showing keeps octets apart. Assumes nothing.
use Rattle.std.specs.Prelude.{◌≡◌, ℕ, ◌<◌, bit_xor}
use Rattle.std.proofs.Common.{sym, ap, ◌∙◌}
use Rattle.std.specs.Int.Bits.{xor_assoc, xor_self, xor_zero_r}
use Rattle.std.proofs.lemmas.Nat.{xor_lt}
use Rattle.randomizer.specs.Sequence.{sequence_octet}
use Rattle.randomizer.proofs.Laws.{sequence_octet_lt}
use Rattle.hold.specs.Candidates.{Showing, ShowsApart}
use Rattle.derandomizing.specs.Derandomized.{derandomized}

-- the sequence added twice is gone
pub twice : (x s : ℕ) → bit_xor (bit_xor x s) s ≡ x
twice x s = xor_assoc x s s ∙ ap (bit_xor x) (xor_self s) ∙ xor_zero_r x

-- an octet with the sequence added at its place
abbrev added : (place x : ℕ) → ℕ
added place x = bit_xor x (sequence_octet place)

below_256 : (place x : ℕ) → x < 256 → added place x < 256
below_256 place x h = xor_lt 8 x (sequence_octet place) h (sequence_octet_lt place)

module _ (below : Showing) where
  pub shows_apart : ShowsApart below → ShowsApart (derandomized below)
  shows_apart law =
      record {
        octets = λ place x h. law.octets place (added place x) (below_256 place x h);
        apart = λ place x y hx hy e.
            let s = sequence_octet place in
            let fx = below_256 place x hx in
            let fy = below_256 place y hy in
            let same = law.apart place (added place x) (added place y) fx fy e in
            sym (twice x s) ∙ ap (λ z. bit_xor z s) same ∙ twice y s;
      }
