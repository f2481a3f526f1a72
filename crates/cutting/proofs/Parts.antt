-- The part that octets begin with, and the cutting behind it. Assumes nothing.
use Rattle.std.proofs.Common.{◌≡◌, ℕ, zero, suc, ◌+◌, ◌-◌, ◌<◌, ◌≤◌, Bool, true, false, cond, List, [], ◌∷◌, length, take, drop, Option, Some, None, IfSome, ◌==◌, sym, refl, ap, ◌∙◌, subst, ap₂, arith}
use Rattle.std.specs.Int.Digits.{number_from_digits}
use Rattle.std.specs.List.{list_all, AllByRecursion}
use Rattle.std.specs.Option.{option_map}
use Rattle.std.proofs.lemmas.Bool.{and_parts, eqb-true, leb-true}
use Rattle.std.proofs.lemmas.List.{length-take-le, length-drop, take_all, take-take, drop-drop}
use Rattle.std.proofs.lemmas.Option.{none-some}
use Rattle.cutting.specs.Cutting.{bits, version, length_by_header, is_fill, is_frame_in_front, frame, fill, Part, part, frame_part, part_in_front, cut_behind, cut_from}
use Rattle.cutting.specs.declared.Item.{Item}
use Rattle.cutting.specs.declared.cutter.Cutter.{Cutter}
use Rattle.cutting.specs.Items.{part_of, rest_to_come, ComesNext}
use Rattle.cutting.specs.Laws.{IsOfKind}

frame≢fill : frame ≡ fill → ⊥
frame≢fill e = cc

pub some_same : {A : Type 0} {x y : A} → Some x ≡ Some y → x ≡ y
some_same e = cc

-- each octet is 55 where the test of each says so
pub each_is_55 : (xs : List ℕ) → list_all (λ x. x == 0x55) xs ≡ true → AllByRecursion (λ x. x ≡ 0x55) xs
each_is_55 [] e = tt
each_is_55 (x ∷ xs) e =
    let parts = and_parts (x == 0x55) (list_all (λ x. x == 0x55) xs) e in
    (eqb-true x 0x55 parts.0, each_is_55 xs parts.1)

-- what is true of the part that octets left at a place begin with
pub record StandsInFront (place : ℕ) (left : List ℕ) (p : Part) : Type 0 where
  pub at : p.place ≡ place
  pub some : 0 < length p.octets
  pub within : length p.octets ≤ length left
  pub front : p.octets ≡ take (length p.octets) left
  pub kind : IsOfKind p.kind p.octets
  pub all : p.kind ≡ fill → length p.octets ≡ length left

module _ (place : ℕ) (left : List ℕ) (some : 0 < length left) where
  fill_stands : is_fill left ≡ true → StandsInFront place left (part fill place left)
  fill_stands e =
      let parts = and_parts _ _ e in
      record {
        at = refl;
        some = some;
        within = omega arith;
        front = sym (take_all (length left) left (omega arith));
        kind = record { some = some; most = leb-true (length left) 6 parts.0; each = each_is_55 left parts.1 };
        all = λ _. refl;
      }

  -- the header of a frame stands within it
  header_within : (count : ℕ) → 5 ≤ count → take 5 (take count left) ≡ take 5 left
  header_within count h = take-take 5 count left h

  frame_stands : is_frame_in_front left ≡ true → StandsInFront place left (part frame place (take (length_by_header left) left))
  frame_stands e =
      let tests = and_parts _ _ e in
      let bounds = and_parts _ _ tests.1 in
      let least : 5 ≤ length_by_header left = leb-true 5 (length_by_header left) bounds.0 in
      let most : length_by_header left ≤ length left = leb-true (length_by_header left) (length left) bounds.1 in
      let long : length (take (length_by_header left) left) ≡ length_by_header left = length-take-le (length_by_header left) left most in
      let same : take 5 (take (length_by_header left) left) ≡ take 5 left = header_within (length_by_header left) least in
      record {
        at = refl;
        some = omega arith;
        within = omega arith;
        front = ap (λ n. take n left) (sym long);
        kind = record {
          version_00 = ap (λ five. bits 0 1 (number_from_digits 256 five)) same ∙ eqb-true (version left) 0 tests.0;
          least = omega arith;
          told = ap (λ five. bits 22 31 (number_from_digits 256 five) + 1) same ∙ sym long;
        };
        all = λ k. absurd (frame≢fill k);
      }

  by_kind : (p : Part) (is_f is_fr : Bool) → is_fill left ≡ is_f → is_frame_in_front left ≡ is_fr →
      cond is_f (Some (part fill place left)) (frame_part place left (cond is_fr (Some (length_by_header left)) None)) ≡ Some p → StandsInFront place left p
  by_kind p true is_fr f fr e = subst (StandsInFront place left) (some_same e) (fill_stands f)
  by_kind p false true f fr e = subst (StandsInFront place left) (some_same e) (frame_stands fr)
  by_kind p false false f fr e = absurd (none-some p e)

  -- whichever of the two the part is
  pub part_stands : (p : Part) → part_in_front place left ≡ Some p → StandsInFront place left p
  part_stands p e = by_kind p (is_fill left) (is_frame_in_front left) refl refl e

-- octets that belong to a part that is cut already are passed over
pub cut_later : (place done : ℕ) (octets : List ℕ) → cut_from place done octets ≡ cut_from (place + done) 0 (drop done octets)
cut_later place zero octets = let e : place ≡ place + 0 = omega arith in ap (λ p. cut_from p 0 octets) e
cut_later place (suc done) [] = refl
cut_later place (suc done) (x ∷ octets) = let e : suc place + done ≡ place + suc done = omega arith in cut_later (suc place) done octets ∙ ap (λ p. cut_from p 0 (drop done octets)) e

-- the cutting of octets that begin with a part: this part, and the cutting of what is behind it
pub cut_behind_part : (place : ℕ) (left : List ℕ) (p : Part) → 0 < length left → part_in_front place left ≡ Some p → 0 < length p.octets →
    let rest = cut_from (place + length p.octets) 0 (drop (length p.octets) left) in
    cut_from place 0 left ≡ record { parts = p ∷ rest.parts; refused_at = rest.refused_at }
cut_behind_part place [] p some e long = absurd (omega arith)
cut_behind_part place (x ∷ octets) p some e long =
    let count = length p.octets in
    let there : suc place + (count - 1) ≡ place + count = omega arith in
    let next : suc (count - 1) ≡ count = omega arith in
    let behind = λ (n : ℕ). cut_from (suc place) (n - 1) octets in
    let same : behind count ≡ cut_from (place + count) 0 (drop count (x ∷ octets)) =
    cut_later (suc place) (count - 1) octets ∙ ap₂ (λ at n. cut_from at 0 (drop n (x ∷ octets))) there next in
    ap (cut_behind behind place) e ∙ ap (λ rest. record { parts = p ∷ rest.parts; refused_at = rest.refused_at }) same

-- cutting is refused where octets begin with no part
pub cut_refused : (place : ℕ) (left : List ℕ) → 0 < length left → part_in_front place left ≡ None → cut_from place 0 left ≡ record { parts = []; refused_at = Some place }
cut_refused place [] some e = absurd (omega arith)
cut_refused place (x ∷ octets) some e = ap (cut_behind (λ n. cut_from (suc place) (n - 1) octets) place) e

-- what is known of the item that a cutter comes to
pub comes_next : (cutter : Cutter) (item : Option Item) → cutter.place < length cutter.candidate.now → option_map part_of item ≡ part_in_front cutter.place (drop cutter.place cutter.candidate.now) →
    IfSome item (ComesNext cutter)
comes_next cutter None left front = tt
comes_next cutter (Some item) left front =
    let place = cutter.place in
    let octets = drop place cutter.candidate.now in
    let p = part_of item in
    let some : 0 < length octets = omega (arith, length-drop place cutter.candidate.now) in
    let stands = part_stands place octets some p (sym front) in
    record {
      some = stands.some;
      behind = sym
          (ap rest_to_come (cut_behind_part place octets p some (sym front) stands.some)
          ∙ ap (cut_from (place + length p.octets) 0) (drop-drop (length p.octets) place cutter.candidate.now));
    }
