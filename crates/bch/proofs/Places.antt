-- The wrong place that is found is the wrong place, and is absent only at the number 0. Assumes nothing.
use Rattle.std.proofs.Common.{◌≡◌, ℕ, zero, suc, ◌+◌, ◌<◌, ◌≤◌, Bool, true, cond, ltb, ◌≢◌, map, get_or, is_some, Some, None, Option, sym, refl, ap, ◌∙◌, subst, ⊎_elim, zero-add, arith}
use Rattle.std.specs.List.{range_with_len}
use Rattle.std.proofs.lemmas.List.FromFn.{get_or-map-range_with_len}
use Rattle.std.proofs.lemmas.Bool.{eq-eqb, ne_eqb, cases_eq}
use Rattle.bch.specs.Polynomial.{divided}
use Rattle.bch.specs.Reception.{power_remainder, place_from, wrong_place}
use Rattle.bch.specs.Laws.{IsTheWrongPlace, AbsentOnlyAtZero}

place_again : ℕ → Option ℕ
place_again d = wrong_place (power_remainder d)

-- computed over the 63 degrees together
each_found : map place_again (range_with_len 0 63) ≡ map Some (range_with_len 0 63)
unfolding place_again divided place_from
each_found = refl

-- each power of X below X^63 has a remainder of its own, at which its place is found
pub place_of_power : (d : ℕ) → d < 63 → wrong_place (power_remainder d) ≡ Some d
unfolding place_again
place_of_power d below =
    sym (get_or-map-range_with_len place_again 0 63 d d None below (zero-add d)) ∙ ap (λ l. get_or l d None) each_found
    ∙ get_or-map-range_with_len Some 0 63 d d None below (zero-add d)

-- one step of the search
pub place_here : (d k n : ℕ) → power_remainder d ≡ n → place_from d (suc k) n ≡ Some d
unfolding place_from
place_here d k n e = ap (λ b. cond b (Some d) (place_from (suc d) k n)) (eq-eqb (power_remainder d) n e)

pub place_later : (d k n : ℕ) → power_remainder d ≢ n → place_from d (suc k) n ≡ place_from (suc d) k n
unfolding place_from
place_later d k n ne = ap (λ b. cond b (Some d) (place_from (suc d) k n)) (ne_eqb (power_remainder d) n ne)

-- what the search from d on says, of the degrees from d on
abbrev Found : (d k n : ℕ) → Option ℕ → Type 0
Found d k n None = (e : ℕ) → d ≤ e → e < d + k → power_remainder e ≢ n
Found d k n (Some e) = (e < d + k) × (power_remainder e ≡ n)

found : (k d n : ℕ) → Found d k n (place_from d k n)
unfolding place_from
found zero d n = λ e from to. absurd (omega arith)
found (suc k) d n =
    ⊎_elim
    (λ here. subst (Found d (suc k) n) (sym (place_here d k n here)) (omega arith, here))
    (λ later. subst (Found d (suc k) n) (sym (place_later d k n later)) (widen (place_from (suc d) k n) (found k (suc d) n) later))
    (cases_eq (power_remainder d) n)
  where
    widen : (o : Option ℕ) → Found (suc d) k n o → power_remainder d ≢ n → Found d (suc k) n o
    widen None none not-here = λ e from to.
        ⊎_elim (λ same. subst (λ x. power_remainder x ≢ n) same not-here) (λ other. none e (omega arith) (omega arith)) (cases_eq d e)
    widen (Some e) at not-here = (omega arith, at.1)

pub same_some : (e d : ℕ) → Some e ≡ Some d → e ≡ d
same_some e d s = cc

pub is_the_wrong_place : (n : ℕ) → IsTheWrongPlace n (wrong_place n)
is_the_wrong_place n = at (wrong_place n) refl (found 63 0 n)
  where
    at : (o : Option ℕ) → wrong_place n ≡ o → Found 0 63 n o → IsTheWrongPlace n o
    at None is none = λ d below. none d (omega arith) (omega arith)
    at (Some d) is some = (omega arith, some.1, λ e below same. same_some e d (sym (place_of_power e below) ∙ ap wrong_place same ∙ is))

present : (n : ℕ) → Bool
present n = is_some (wrong_place n)

-- computed over the 64 numbers together
all_present : map present (range_with_len 0 64) ≡ map (ltb 0) (range_with_len 0 64)
unfolding present divided place_from
all_present = refl

pub absent_only_at_zero : (n : ℕ) → AbsentOnlyAtZero n (wrong_place n)
unfolding present
absent_only_at_zero n below =
    sym (get_or-map-range_with_len present 0 64 n n true below (zero-add n)) ∙ ap (λ l. get_or l n true) all_present
    ∙ get_or-map-range_with_len (ltb 0) 0 64 n n true below (zero-add n)
