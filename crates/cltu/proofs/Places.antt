-- Where the octets of a CLTU stand. Assumes nothing.
use Rattle.std.proofs.Common.{◌≡◌, ℕ, zero, suc, ◌+◌, ◌-◌, ◌*◌, ◌<◌, ◌≤◌, List, [], ◌∷◌, ◌++◌, length, get_or, take, drop, sym, refl, ◌∙◌, suc-add, zero-add, add-zero, arith, lit<}
use lib.Bits.{bit_xor}
use Rattle.std.proofs.lemmas.Grind.{common_steps}
use Rattle.std.proofs.lemmas.List.{append-nil, append_assoc, length-append, length-replicate, length-drop, length-take-le, get_or-take, get_or-drop, take_at, drop_at, drop-drop}
use Rattle.std.proofs.lemmas.Simd.{pick_l_whole}
use Rattle.bch.specs.Codeblock.{codeblock}
use Rattle.randomizer.specs.declared.Randomizer.{Randomizer}
use Rattle.randomizer.specs.Sequence.{added_at, randomized}
use Rattle.randomizer.proofs.Laws.{length_randomized_from, get_or_randomized_from}
use Rattle.cltu.specs.Cltu.{codeblocks_for, filled, coded, cltu}

pub length_filled : (frame : List ℕ) → length (filled frame) ≡ 7 * codeblocks_for (length frame)
length_filled frame = simp (length-append, length-replicate) (omega arith)

filled_at : (frame : List ℕ) (place : ℕ) → place < 7 * codeblocks_for (length frame) → get_or (filled frame) place 0 ≡ get_or frame place 0x55
filled_at frame place h = grind (arith, common_steps)

pub length_codeblock : (xs : List ℕ) → length xs ≡ 7 → length (codeblock xs) ≡ 8
length_codeblock xs h = omega (arith, length-append {A = ℕ})

pub length_coded : (k : ℕ) (xs : List ℕ) → 7 * k ≤ length xs → length (coded k xs) ≡ 8 * k
length_coded zero xs h = refl
length_coded (suc k) xs h = grind (arith, length_coded k (drop 7 xs), length-append, length-drop, length-take-le, length_codeblock)

-- one codeblock more
pub coded_more : (k : ℕ) (xs : List ℕ) → coded (k + 1) xs ≡ coded k xs ++ codeblock (take 7 (drop (7 * k) xs))
coded_more zero xs = append-nil (codeblock (take 7 xs))
coded_more (suc k) xs =
    let there : 7 + 7 * k ≡ 7 * suc k = omega arith in
    simp (suc-add, coded_more k (drop 7 xs), drop-drop, there, append_assoc)

-- the octets that are coded
module _ (r : Randomizer) (frame : List ℕ) where
  pub length_sent : length (randomized r (filled frame)) ≡ 7 * codeblocks_for (length frame)
  length_sent = length_randomized_from r 0 (filled frame) ∙ length_filled frame

  pub sent_at : (place : ℕ) → place < 7 * codeblocks_for (length frame) → bit_xor (get_or frame place 0x55) (added_at r place) ≡ get_or (randomized r (filled frame)) place 0
  sent_at place h = grind (arith, get_or_randomized_from, filled_at, length_filled, zero-add)

  -- seven of them, one by one
  pub seven_sent : (index : ℕ) → index < codeblocks_for (length frame) →
      let xs = randomized r (filled frame) in
      let first = 7 * index in
      get_or xs first 0 ∷ get_or xs (first + 1) 0 ∷ get_or xs (first + 2) 0 ∷ get_or xs (first + 3) 0 ∷ get_or xs (first + 4) 0 ∷ get_or xs (first + 5) 0 ∷ get_or xs (first + 6) 0 ∷ []
      ≡ take 7 (drop first xs)
  seven_sent index within =
      let rest = drop (7 * index) (randomized r (filled frame)) in
      let there : (k : ℕ) → k < 7 → get_or (randomized r (filled frame)) (7 * index + k) 0 ≡ get_or (take 7 rest) k 0 = λ k h. sym (get_or-take 7 rest k 0 h ∙ get_or-drop (7 * index) _ k 0) in
      (λ j. (rw add-zero at (there 0 (lit< tt))) j ∷ there 1 (lit< tt) j ∷ there 2 (lit< tt) j ∷ there 3 (lit< tt) j ∷ there 4 (lit< tt) j ∷ there 5 (lit< tt) j ∷ there 6 (lit< tt) j ∷ [])
      ∙ pick_l_whole 0 (take 7 rest) 7 (length-take-le 7 rest (omega (arith, length-drop {A = ℕ}, length_sent)))

  pub length_cltu : length (cltu r frame) ≡ 10 + 8 * codeblocks_for (length frame)
  length_cltu = grind (arith, length-append, length_coded, length_sent)

  -- memory in whose front the first codeblocks of a frame stand: the next one is put right behind them
  pub one_more : (was memory block : List ℕ) (index : ℕ) → index < codeblocks_for (length frame) →
      let xs = randomized r (filled frame) in
      memory ≡ coded index xs ++ drop (8 * index) was → block ≡ codeblock (take 7 (drop (7 * index) xs)) →
      take (8 * index) memory ++ (block ++ drop (8 * index + 8 - 8 * index) (drop (8 * index) memory)) ≡ coded (index + 1) xs ++ drop (8 * (index + 1)) was
  one_more was memory block index within e put = grind (arith, coded_more, length_coded, length_sent, take_at, drop_at, drop-drop, append_assoc)
