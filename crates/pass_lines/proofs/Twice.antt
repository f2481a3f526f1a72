-- A place that is named twice, or none. Assumes nothing.
use Rattle.std.proofs.Common.{◌≡◌, ◌≢◌, ℕ, zero, suc, ◌<◌, Bool, true, false, cond, ◌==◌, ◌||◌, List, [], ◌∷◌, length, get_or, Some, None, Option, refl, sym, ap, ◌∙◌, subst, ne_eqb, arith}
use Rattle.std.specs.List.{list_any}
use Rattle.std.proofs.lemmas.Bool.{eqb-true}
use Rattle.pass_lines.specs.Places.{named_twice, NamedTwice}

abbrev among : List ℕ → ℕ → Bool
among places place = list_any (λ one. one == place) places

found : (places : List ℕ) (place : ℕ) → among places place ≡ true → (k : ℕ) × (k < length places) × (get_or places k 0 ≡ place)
found [] place e = cc e
found (one ∷ places) place e = by (found places place) (one == place) refl (ap (λ b. b || among places place) refl ∙ e)
  where
    by : (among places place ≡ true → (k : ℕ) × (k < length places) × (get_or places k 0 ≡ place)) → (b : Bool) → (one == place) ≡ b → ((one == place) || among places place) ≡ true
        → (k : ℕ) × (k < suc (length places)) × (get_or (one ∷ places) k 0 ≡ place)
    by rest true same any = (0, omega arith, eqb-true one place same)
    by rest false differs any =
        let (k, within, is) = rest (ap (λ b. b || among places place) (sym differs) ∙ any) in
        (suc k, omega arith, is)

not_found : (places : List ℕ) (place : ℕ) → among places place ≡ false → (k : ℕ) → k < length places → get_or places k 0 ≢ place
not_found [] place e k h = absurd (omega arith)
not_found (one ∷ places) place e k h = by (not_found places place) (one == place) refl k h
  where
    by : (among places place ≡ false → (k : ℕ) → k < length places → get_or places k 0 ≢ place) → (b : Bool) → (one == place) ≡ b → (k : ℕ) → k < suc (length places) → get_or (one ∷ places) k 0 ≢ place
    by rest true same k h = let no : true ≡ false = ap (λ b. b || among places place) (sym same) ∙ e in cc
    by rest false differs zero h = λ is. let no : (place == place) ≡ false = subst (λ x. (x == place) ≡ false) is differs in absurd (self place no)
      where
        self : (x : ℕ) → (x == x) ≡ false → ⊥
        self x bad = grind arith
    by rest false differs (suc k) h = rest (ap (λ b. b || among places place) (sym differs) ∙ e) k (omega arith)

none_of : (places : List ℕ) → named_twice places ≡ None → (i j : ℕ) → i < j → j < length places → get_or places i 0 ≢ get_or places j 0
none_of [] e = λ i j h l. absurd (omega arith)
none_of (place ∷ places) e = by (none_of places) (among places place) refl e
  where
    by : (named_twice places ≡ None → (i j : ℕ) → i < j → j < length places → get_or places i 0 ≢ get_or places j 0) → (b : Bool) → among places place ≡ b → cond b (Some place) (named_twice places) ≡ None
        → (i j : ℕ) → i < j → j < suc (length places) → get_or (place ∷ places) i 0 ≢ get_or (place ∷ places) j 0
    by rest true is e i j h l = cc e
    by rest false is e i zero h l = absurd (omega arith)
    by rest false is e zero (suc j) h l = λ same. not_found places place is j (omega arith) (sym same)
    by rest false is e (suc i) (suc j) h l = rest e i j (omega arith) (omega arith)

abbrev Again : List ℕ → ℕ → Type 0
Again places place = (i : ℕ) × (j : ℕ) × (i < j) × (j < length places) × (get_or places i 0 ≡ place) × (get_or places j 0 ≡ place)

some_of : (places : List ℕ) (place : ℕ) → named_twice places ≡ Some place → Again places place
some_of [] place e = cc e
some_of (one ∷ places) place e = by (some_of places place) (among places one) refl e
  where
    by : (named_twice places ≡ Some place → Again places place) → (b : Bool) → among places one ≡ b → cond b (Some one) (named_twice places) ≡ Some place → Again (one ∷ places) place
    by rest true is e =
        let same : one ≡ place = cc in
        let (k, within, there) = found places one is in
        (0, suc k, omega arith, omega arith, same, there ∙ same)
    by rest false is e =
        let (i, j, order, within, first, second) = rest e in
        (suc i, suc j, omega arith, omega arith, first, second)

pub named_twice_tells : (places : List ℕ) → NamedTwice places
named_twice_tells places = record { none = none_of places; some = some_of places }
