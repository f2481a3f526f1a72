-- What is cut of frames that were sent. Assumes nothing.
use Rattle.std.proofs.Common.{◌≡◌, ℕ, zero, suc, ◌+◌, ◌<◌, ◌≤◌, Bool, true, false, cond, List, [], ◌∷◌, ◌++◌, length, take, drop, replicate, Some, None, ◌==◌, nat_le, sym, refl, ap, ◌∙◌, ap₂, zero-add, add_assoc, append_assoc, arith}
use Rattle.std.specs.Int.Digits.{number_from_digits}
use Rattle.std.specs.List.{list_all, AllByRecursion}
use Rattle.std.proofs.lemmas.Bool.{and_parts, and_from, le-leb, eq-eqb}
use Rattle.std.proofs.lemmas.List.{length-append, length-replicate, take_at, drop_at, drop_all, take-append-le, take-append-drop}
use Rattle.std.proofs.lemmas.Option.{none-some}
use Rattle.cltu.specs.Cltu.{fill_for}
use Rattle.cutting.specs.Cutting.{bits, version, length_by_header, is_fill, is_frame_in_front, frame_part, frame, fill, Part, part, part_in_front, Cutting, cut_from}
use Rattle.cutting.specs.Laws.{IsFrame, IsFill, Neither, frames_from, fill_from, end_to_end, SentComesBack}
use Rattle.cutting.proofs.Parts.{each_is_55, cut_behind_part}

-- octets that begin with five octets 55 have a header of version 01
version_01 : (octets : List ℕ) → 5 ≤ length octets → AllByRecursion (λ x. x ≡ 0x55) octets → version octets ≡ 1
version_01 (a ∷ b ∷ c ∷ d ∷ e ∷ rest) long all = omega (arith, all.0, all.1.0, all.1.1.0, all.1.1.1.0, all.1.1.1.1.0)
version_01 [] long all = absurd (omega arith)
version_01 (a ∷ []) long all = absurd (omega arith)
version_01 (a ∷ b ∷ []) long all = absurd (omega arith)
version_01 (a ∷ b ∷ c ∷ []) long all = absurd (omega arith)
version_01 (a ∷ b ∷ c ∷ d ∷ []) long all = absurd (omega arith)

-- a frame, with further octets behind it
module _ (place : ℕ) (octets more : List ℕ) (is : IsFrame octets) where
  abbrev all : List ℕ
  all = octets ++ more

  same_header : take 5 all ≡ take 5 octets
  same_header = take-append-le 5 octets more is.least

  version_same : version all ≡ 0
  version_same = ap (λ five. bits 0 1 (number_from_digits 256 five)) same_header ∙ is.version_00

  told_same : length_by_header all ≡ length octets
  told_same = ap (λ five. bits 22 31 (number_from_digits 256 five) + 1) same_header ∙ is.told

  longer : length all ≡ length octets + length more
  longer = length-append octets more

  not_fill : (t : Bool) → is_fill all ≡ t → is_fill all ≡ false
  not_fill false e = e
  not_fill true e =
      let each : list_all (λ x. x == 0x55) all ≡ true = (and_parts (nat_le (length all) 6) (list_all (λ x. x == 0x55) all) e).1 in
      let one : version all ≡ 1 = version_01 all (omega (arith, longer, is.least)) (each_is_55 all each) in
      absurd (omega (arith, one, version_same))

  frame_there : is_frame_in_front all ≡ true
  frame_there =
      and_from _ _ (eq-eqb (version all) 0 version_same)
      (and_from _ _ (le-leb 5 (length_by_header all) (omega (arith, told_same, is.least))) (le-leb (length_by_header all) (length all) (omega (arith, told_same, longer))))

  pub frame_in_front : part_in_front place all ≡ Some (part frame place octets)
  frame_in_front =
      ap₂ (λ f t. cond f (Some (part fill place all)) (frame_part place all (cond t (Some (length_by_header all)) None))) (not_fill (is_fill all) refl) frame_there
      ∙ ap (λ n. Some (part frame place (take n all))) told_same ∙ ap (λ o. Some (part frame place o)) (take_at octets more (length octets) refl)

-- octets 55 pass the test of each octet
all_55 : (xs : List ℕ) → AllByRecursion (λ x. x ≡ 0x55) xs → list_all (λ x. x == 0x55) xs ≡ true
all_55 [] all = refl
all_55 (x ∷ xs) all = and_from (x == 0x55) _ (eq-eqb x 0x55 all.0) (all_55 xs all.1)

-- fill in front is a part
fill_in_front : (place : ℕ) (octets : List ℕ) → IsFill octets → part_in_front place octets ≡ Some (part fill place octets)
fill_in_front place octets is =
    let test : is_fill octets ≡ true = and_from _ _ (le-leb (length octets) 6 is.most) (all_55 octets is.each) in
    ap (λ t. cond t (Some (part fill place octets)) (frame_part place octets (cond (is_frame_in_front octets) (Some (length_by_header octets)) None))) test

-- octets that begin with no part by the tests begin with neither
pub neither : (place : ℕ) (octets : List ℕ) → part_in_front place octets ≡ None → Neither octets
neither place octets none =
    record {
      no_fill = λ is. none-some (part fill place octets) (sym none ∙ fill_in_front place octets is);
      no_frame = λ count is.
          none-some (part frame place (take count octets))
          (sym none ∙ ap (part_in_front place) (sym (take-append-drop count octets)) ∙ frame_in_front place (take count octets) (drop count octets) is);
    }

-- what is put before a cutting
abbrev before : List Part → Cutting → Cutting
before parts rest = record { parts = parts ++ rest.parts; refused_at = rest.refused_at }

-- frames in front of further octets are cut, and then these
cut_frames : (place : ℕ) (frames : List (List ℕ)) (more : List ℕ) → AllByRecursion IsFrame frames →
    cut_from place 0 (end_to_end frames ++ more) ≡ before (frames_from place frames) (cut_from (place + length (end_to_end frames)) 0 more)
cut_frames place [] more all = let e : place ≡ place + 0 = omega arith in ap (λ p. cut_from p 0 more) e
cut_frames place (octets ∷ frames) more all =
    let behind = end_to_end frames ++ more in
    let first = part frame place octets in
    let some : 0 < length octets = omega (arith, all.0.least) in
    ap (cut_from place 0) (append_assoc octets (end_to_end frames) more)
    ∙ cut_behind_part place (octets ++ behind) first (omega (arith, length-append octets behind)) (frame_in_front place octets behind all.0) some
    ∙ ap (λ l. before (first ∷ []) (cut_from (place + length octets) 0 l)) (drop_at octets behind (length octets) refl)
    ∙ ap (before (first ∷ [])) (cut_frames (place + length octets) frames more all.1)
    ∙ ap (λ n. before (frames_from place (octets ∷ frames)) (cut_from n 0 more)) (add_assoc place (length octets) (length (end_to_end frames)) ∙ ap (λ n. place + n) (sym (length-append octets (end_to_end frames))))

-- each octet of repeated octets 55 is 55
each_55 : (n : ℕ) → AllByRecursion {X = ℕ} (λ x. x ≡ 0x55) (replicate n 0x55)
each_55 zero = tt
each_55 (suc n) = (refl, each_55 n)

-- fill alone is cut as fill, or as nothing
cut_fill : (place n : ℕ) → n ≤ 6 → cut_from place 0 (replicate n 0x55) ≡ record { parts = fill_from place (replicate n 0x55); refused_at = None }
cut_fill place zero h = refl
cut_fill place (suc n) h =
    let octets = replicate (suc n) 0x55 in
    let size : length octets ≡ suc n = length-replicate (suc n) 0x55 in
    let front = fill_in_front place octets (record { some = omega (arith, size); most = omega (arith, size); each = each_55 (suc n) }) in
    cut_behind_part place octets (part fill place octets) (omega (arith, size)) front (omega (arith, size))
    ∙ ap (λ l. before (part fill place octets ∷ []) (cut_from (place + length octets) 0 l)) (drop_all (length octets) octets (omega arith))

pub sent_comes_back : SentComesBack
sent_comes_back frames all =
    let sent = end_to_end frames in
    let n = fill_for (length sent) in
    cut_frames 0 frames (replicate n 0x55) all
    ∙ ap (λ p. before (frames_from 0 frames) (cut_from p 0 (replicate n 0x55))) (zero-add (length sent))
    ∙ ap (before (frames_from 0 frames)) (cut_fill (length sent) n (omega arith))
