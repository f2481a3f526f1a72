-- Cells as candidates: their octets, one more candidate behind others, and the oldest of them. Assumes nothing.
use Rattle.std.proofs.Common.{◌≡◌, ℕ, zero, suc, ◌-◌, ◌*◌, ◌/◌, ◌%◌, ◌<◌, ◌≤◌, true, leb, List, [], ◌∷◌, ◌++◌, length, get_or, take, drop, sym, refl, ap, ◌∙◌, ap₂, arith}
use Rattle.std.proofs.lemmas.Grind.{common_steps}
use Rattle.std.proofs.lemmas.List.{length-append, length-drop, take_all, drop_all, drop_more, take-append-le, drop-append-le}
use Rattle.std.proofs.lemmas.Bool.{and_from, le-leb, eq-eqb, eqb-true}
use Rattle.cells.specs.declared.cell.Cell.{Cell}
use Rattle.cells.specs.Cells.{octets_in, octets_of, first_count, grouped, parted}
use Rattle.cells.specs.Sound.{Parts, parts}

pub octets_in_seven : (cell : Cell) → length cell.octets ≡ 7 → octets_in cell ≡ cell.octets
octets_in_seven cell seven = grind (arith, common_steps, drop_more, drop_all)

-- the octet at a place is in the cell that comes a seventh as far
pub get_or_octets_of : (cells : List Cell) (place : ℕ) (d : Cell) → place < 7 * length cells → get_or (octets_of cells) place 0 ≡ get_or (get_or cells (place / 7) d).octets (place % 7) 0
get_or_octets_of [] place d h = absurd (omega arith)
get_or_octets_of (cell ∷ cells) zero d h = refl
get_or_octets_of (cell ∷ cells) (suc zero) d h = refl
get_or_octets_of (cell ∷ cells) (suc (suc zero)) d h = refl
get_or_octets_of (cell ∷ cells) (suc (suc (suc zero))) d h = refl
get_or_octets_of (cell ∷ cells) (suc (suc (suc (suc zero)))) d h = refl
get_or_octets_of (cell ∷ cells) (suc (suc (suc (suc (suc zero))))) d h = refl
get_or_octets_of (cell ∷ cells) (suc (suc (suc (suc (suc (suc zero)))))) d h = refl
get_or_octets_of (cell ∷ cells) (suc (suc (suc (suc (suc (suc (suc place))))))) d h =
    let over = suc (suc (suc (suc (suc (suc (suc place)))))) in
    let quotient : over / 7 ≡ suc (place / 7) = omega arith in
    let rest : over % 7 ≡ place % 7 = omega arith in
    get_or_octets_of cells place d (omega arith)
    ∙ sym (ap₂ (λ i j. get_or (get_or (cell ∷ cells) i d).octets j 0) quotient rest)

pub length_grouped : (n : ℕ) (cells : List Cell) → length (grouped n cells) ≡ n
length_grouped zero cells = refl
length_grouped (suc n) cells = ap suc (length_grouped n (drop (first_count cells) cells))

-- each candidate has a cell
pub few_parts : (n : ℕ) (cells : List Cell) → parted n cells ≡ true → n ≤ length cells
few_parts zero cells whole = omega arith
few_parts (suc n) cells whole =
    let p = parts n cells whole in
    omega (arith, few_parts n (drop (first_count cells) cells) p.rest, length-drop (first_count cells) cells)

made_parts : (n : ℕ) (cells : List Cell) → Parts n cells → parted (suc n) cells ≡ true
made_parts n cells p =
    let c = first_count cells in
    and_from (leb 1 c) _ (le-leb 1 c p.some) (and_from (leb c (length cells)) _ (le-leb c (length cells) p.within) p.rest)

-- one more candidate behind the others
pub record Behind (n : ℕ) (cells last : List Cell) : Type 0 where
  pub candidates : grouped (suc n) (cells ++ last) ≡ grouped n cells ++ octets_of last ∷ []
  pub whole : parted (suc n) (cells ++ last) ≡ true

module _ (last : List Cell) (some : 0 < first_count last) (counted : first_count last ≡ length last) where
  pub behind : (n : ℕ) (cells : List Cell) → parted n cells ≡ true → Behind n cells last
  behind zero [] whole =
      record {
        candidates = ap (λ l. octets_of l ∷ []) (take_all (first_count last) last (omega arith));
        whole = made_parts 0 last (record { some = some; within = omega arith; rest = eq-eqb (length (drop (first_count last) last)) 0 (omega (arith, length-drop (first_count last) last)) });
      }
  behind zero (cell ∷ cells) whole = absurd (omega (arith, eqb-true (suc (length cells)) 0 whole))
  behind (suc n) [] whole = absurd (omega (arith, (parts n [] whole).some))
  behind (suc n) (cell ∷ cells) whole =
      let p = parts n (cell ∷ cells) whole in
      let c = cell.codeblocks in
      let rest = behind n (drop c (cell ∷ cells)) p.rest in
      let dropped = drop-append-le c (cell ∷ cells) last p.within in
      record {
        candidates = ap₂ ◌∷◌ (ap octets_of (take-append-le c (cell ∷ cells) last p.within)) (ap (grouped (suc n)) dropped ∙ rest.candidates);
        whole = made_parts (suc n) ((cell ∷ cells) ++ last)
            (record {
              some = p.some;
              within = omega (arith, p.within, length-append (cell ∷ cells) last);
              rest = ap (parted (suc n)) dropped ∙ rest.whole;
            });
      }

-- the oldest candidate and those behind it
pub record First (n : ℕ) (cells : List Cell) : Type 0 where
  pub some : 0 < first_count cells
  pub within : first_count cells ≤ length cells
  pub candidates : grouped n cells ≡ octets_of (take (first_count cells) cells) ∷ grouped (n - 1) (drop (first_count cells) cells)
  pub whole : parted (n - 1) (drop (first_count cells) cells) ≡ true

pub first_of : (n : ℕ) (cells : List Cell) → 0 < n → parted n cells ≡ true → First n cells
first_of zero cells h whole = absurd (omega arith)
first_of (suc n) cells h whole =
    let p = parts n cells whole in
    let c = first_count cells in
    let less : n ≡ suc n - 1 = omega arith in
    record {
      some = p.some;
      within = p.within;
      candidates = ap (λ k. octets_of (take c cells) ∷ grouped k (drop c cells)) less;
      whole = ap (λ k. parted k (drop c cells)) (sym less) ∙ p.rest;
    }
