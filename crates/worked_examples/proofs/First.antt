-- There is one place at which vectors fail first, or none. Assumes nothing.
use Rattle.std.proofs.Common.{◌≡◌, ℕ, ◌<◌, ◌≤◌, List, [], Option, Some, None, length, take, get_or, slice_get, refl, ap, subst, arith, ⊎_elim}
use Rattle.std.specs.Option.{IsSomeAnd}
use Rattle.std.specs.List.{All}
use Rattle.std.proofs.lemmas.List.{length-take, get_or-take}
use Rattle.std.proofs.lemmas.Option.{slice_get_past, slice_get-get_or}
use Rattle.std.proofs.lemmas.Bool.{cases_lt}
use Rattle.worked_examples.specs.Vectors.{IsCodeblock, FailsFirst}

abbrev Fails : Option (List ℕ) → Type 0
Fails vector = IsSomeAnd vector (λ v. ¬ IsCodeblock v)

-- where a vector fails there is one, and it is no codeblock
there : (vectors : List (List ℕ)) (k : ℕ) → Fails (slice_get vectors k) → (k < length vectors) × ¬ IsCodeblock (get_or vectors k [])
there vectors k fails =
    ⊎_elim
    (λ within. (within, subst Fails (slice_get-get_or vectors k [] within) fails))
    (λ past. absurd (subst Fails (slice_get_past vectors k past) fails))
    (cases_lt k (length vectors))

not_before : (vectors : List (List ℕ)) (j k : ℕ) → All IsCodeblock (take k vectors) → Fails (slice_get vectors j) → k ≤ j
not_before vectors j k before fails =
    let found = there vectors j fails in
    ⊎_elim
    (λ less.
    let within : j < length (take k vectors) = omega (arith, length-take k vectors) in
    absurd (found.1 (subst IsCodeblock (get_or-take k vectors j [] less) (before j [] within))))
    (λ more. more)
    (cases_lt j k)

none_of_codeblocks : (vectors : List (List ℕ)) (k : ℕ) → All IsCodeblock vectors → ¬ Fails (slice_get vectors k)
none_of_codeblocks vectors k all fails = let found = there vectors k fails in found.1 (all k [] found.0)

pub fails_first_once : (vectors : List (List ℕ)) (a b : Option ℕ) → FailsFirst vectors a → FailsFirst vectors b → a ≡ b
fails_first_once vectors None None f g = refl
fails_first_once vectors None (Some k) f g = absurd (none_of_codeblocks vectors k f g.1)
fails_first_once vectors (Some j) None f g = absurd (none_of_codeblocks vectors j g f.1)
fails_first_once vectors (Some j) (Some k) f g =
    let low : k ≤ j = not_before vectors j k g.0 f.1 in
    let high : j ≤ k = not_before vectors k j f.0 g.1 in
    ap Some (omega arith)
