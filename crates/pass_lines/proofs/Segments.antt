-- Symbols in segments, and all of them. Assumes nothing.
use Rattle.std.proofs.Common.{◌≡◌, ◌≢◌, ℕ, zero, suc, ◌+◌, ◌*◌, Bool, true, false, not, List, [], ◌∷◌, ◌++◌, length, map, take, drop, refl, sym, ap, ap₂, ◌∙◌, append-nil, length-append, arith}
use Rattle.std.specs.List.{flat_map}
use Rattle.std.proofs.lemmas.List.{take_at, drop_at}
use Rattle.std.proofs.lemmas.Grind.{flat_map-append}
use Rattle.bch.specs.Bits.{octet_bits, bits_of}
use Rattle.reception.specs.Runs.{idle}
use Rattle.pass_lines.specs.Symbols.{with_guard, segments_sent, inverted_at, segments_received, all_symbols, parts, parts_length}
use Rattle.pass_lines.proofs.Receiving.{length-inverted_at, inverted_at-append}

length_idle : (first : Bool) (n : ℕ) → length (idle first n) ≡ n
length_idle first zero = refl
length_idle first (suc n) = ap suc (length_idle (not first) n)

length_bits_of : (octets : List ℕ) → length (bits_of octets) ≡ 8 * length octets
length_bits_of [] = refl
length_bits_of (x ∷ octets) = omega (arith, length-append (octet_bits x) (bits_of octets), length_bits_of octets)

module _ (first : Bool) (guard : ℕ) where
  abbrev one : List ℕ → List Bool
  one cltu = with_guard first guard cltu

  pub length_one : (cltu : List ℕ) → length (with_guard first guard cltu) ≡ guard + 8 * length cltu
  length_one cltu = omega (arith, length-append (idle first guard) (bits_of cltu), length_idle first guard, length_bits_of cltu)

  pub length_all : (cltus : List (List ℕ)) → length (flat_map (with_guard first guard) cltus) ≡ parts_length guard cltus
  length_all [] = refl
  length_all (cltu ∷ cltus) = length-append (one cltu) (flat_map one cltus) ∙ ap₂ ◌+◌ (length_one cltu) (length_all cltus)

  pub parts_received : (wrong : List ℕ) (place : ℕ) (cltus : List (List ℕ)) → parts guard cltus (inverted_at wrong place (flat_map (with_guard first guard) cltus)) ≡ segments_received wrong place (map (with_guard first guard) cltus)
  parts_received wrong place [] = refl
  parts_received wrong place (cltu ∷ cltus) =
      let here = guard + 8 * length cltu in
      let mine = inverted_at wrong place (one cltu) in
      let others = inverted_at wrong (place + length (one cltu)) (flat_map one cltus) in
      let long : length mine ≡ here = length-inverted_at wrong place (one cltu) ∙ length_one cltu in
      let both : inverted_at wrong place (one cltu ++ flat_map one cltus) ≡ mine ++ others = inverted_at-append wrong place (one cltu) (flat_map one cltus) in
      ap (parts guard (cltu ∷ cltus)) both
      ∙ ap₂ (λ l m. l ∷ parts guard cltus m) (take_at mine others here long) (drop_at mine others here long)
      ∙ ap (λ l. mine ∷ l) (parts_received wrong (place + length (one cltu)) cltus)

  pub together : (wrong : List ℕ) (cltus : List (List ℕ)) → cltus ≢ [] → inverted_at wrong 0 (flat_map (with_guard first guard) cltus) ∷ [] ≡ segments_received wrong 0 (segments_sent false first guard cltus)
  together wrong [] some = absurd (some refl)
  together wrong (cltu ∷ cltus) some = refl

  pub all_sent : (apart : Bool) (cltus : List (List ℕ)) → all_symbols (segments_sent apart first guard cltus) ≡ flat_map (with_guard first guard) cltus
  all_sent true [] = refl
  all_sent true (cltu ∷ cltus) = ap (λ l. one cltu ++ l) (all_sent true cltus)
  all_sent false [] = refl
  all_sent false (cltu ∷ cltus) = append-nil (flat_map one (cltu ∷ cltus))

pub all_received : (wrong : List ℕ) (place : ℕ) (segments : List (List Bool)) → all_symbols (segments_received wrong place segments) ≡ inverted_at wrong place (all_symbols segments)
all_received wrong place [] = refl
all_received wrong place (segment ∷ segments) =
    ap (λ l. inverted_at wrong place segment ++ l) (all_received wrong (place + length segment) segments) ∙ sym (inverted_at-append wrong place segment (all_symbols segments))

pub length_received : (wrong : List ℕ) (segments : List (List Bool)) → length (all_symbols (segments_received wrong 0 segments)) ≡ length (all_symbols segments)
length_received wrong segments = ap length (all_received wrong 0 segments) ∙ length-inverted_at wrong 0 (all_symbols segments)
