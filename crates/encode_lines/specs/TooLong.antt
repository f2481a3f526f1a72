-- Frames that are too long are answered alike. Assumes nothing.
use Rattle.std.proofs.Common.{◌≡◌, ℕ, ◌<◌, Bool, true, false, cond, List, ◌++◌, length, take, Result, Ok, Err, codes, refl, sym, ap, ◌∙◌, nat_lt, arith}
use Rattle.std.proofs.lemmas.List.{take_all, length-take-le}
use Rattle.std.proofs.lemmas.Bool.Decides.{nat_tests}
use Rattle.refusals.specs.declared.Refusal.{Refusal}
use Rattle.refusals.specs.declared.Refusal.TheVariants.{FrameLength}
use Rattle.cltu.specs.declared.Sender.{Sender}
use Rattle.cltu.specs.Writing.{frame_refused, length_answer, cltu_octets}
use Rattle.answered_lines.specs.Meaning.{FurtherOctetsChangeNothing}
use Rattle.encode_lines.specs.Lines.{frame_line, cltus, encode_meaning}

-- any frame of more than 1,024 octets is refused
refused : (limit octets : ℕ) → 1024 < octets → frame_refused limit octets ≡ true
refused limit octets long = grind (arith, nat_tests)

too_long : (sender : Sender) (octets : ℕ) → 1024 < octets → length_answer sender octets ≡ Err FrameLength
too_long sender octets long =
    ap (λ b. cond b (Err FrameLength) (Ok (cltu_octets octets))) (refused sender.limit.count octets long)

-- the answer to a frame where its length is answered so
abbrev text_for : Sender → List ℕ → Result ℕ Refusal → List ℕ
text_for sender frame answer = frame_line sender frame answer ++ codes "\n"

-- either all octets are kept, or both frames are too long
module _ (sender : Sender) (frame : List ℕ) where
  kept_too_long : 1025 < length frame → length_answer sender (length (take 1025 frame)) ≡ Err FrameLength
  kept_too_long long =
      too_long sender (length (take 1025 frame)) (omega (arith, length-take-le 1025 frame (omega arith)))

  same_text : (b : Bool) → nat_lt 1025 (length frame) ≡ b
      → (encode_meaning sender).text (take 1025 frame) ≡ (encode_meaning sender).text frame
  same_text true long =
      let more : 1025 < length frame = grind (arith, nat_tests) in
      ap (text_for sender (take 1025 frame)) (kept_too_long more)
      ∙ sym (ap (text_for sender frame) (too_long sender (length frame) (omega arith)))
  same_text false short = ap (encode_meaning sender).text (take_all 1025 frame (grind (arith, nat_tests)))

  same_count : (b : Bool) → nat_lt 1025 (length frame) ≡ b
      → (encode_meaning sender).count (take 1025 frame) ≡ (encode_meaning sender).count frame
  same_count true long =
      let more : 1025 < length frame = grind (arith, nat_tests) in
      ap cltus (kept_too_long more ∙ sym (too_long sender (length frame) (omega arith)))
  same_count false short = ap (encode_meaning sender).count (take_all 1025 frame (grind (arith, nat_tests)))

pub further_octets : (sender : Sender) → FurtherOctetsChangeNothing (encode_meaning sender)
further_octets sender = record {
  text = λ frame. same_text sender frame (nat_lt 1025 (length frame)) refl;
  count = λ frame. same_count sender frame (nat_lt 1025 (length frame)) refl;
}
