-- Symbols that are packed octet by octet. Assumes nothing.
use Rattle.std.proofs.Common.{◌≡◌, ℕ, ◌+◌, ◌-◌, ◌*◌, Bool, List, [], ◌∷◌, ◌++◌, map, take, drop, length, sym, ap, ◌∙◌, zero-add, arith}
use Rattle.std.specs.List.{range_with_len}
use Rattle.std.proofs.lemmas.List.{take_all, length-drop}
use Rattle.std.proofs.lemmas.List.FromFn.{map-range_with_len_more}
use Rattle.pass_record.specs.Record.{octet_of}

pub one_more_octet : (symbols : List Bool) (k octet : ℕ) (before after : List ℕ) → octet ≡ octet_of (take (length symbols - 8 * k) (drop (8 * k) symbols))
    → before ≡ map (λ k. octet_of (drop (8 * k) symbols)) (range_with_len 0 k) → after ≡ before ++ octet ∷ []
    → after ≡ map (λ k. octet_of (drop (8 * k) symbols)) (range_with_len 0 (k + 1))
one_more_octet symbols k octet before after is so_far more =
    let whole : octet ≡ octet_of (drop (8 * k) symbols) = is ∙ ap octet_of (take_all (length symbols - 8 * k) (drop (8 * k) symbols) (omega (arith, length-drop (8 * k) symbols))) in
    more ∙ ap (λ l. l ++ octet ∷ []) so_far ∙ ap (λ o. map (λ k. octet_of (drop (8 * k) symbols)) (range_with_len 0 k) ++ o ∷ []) whole
    ∙ sym (map-range_with_len_more (λ k. octet_of (drop (8 * k) symbols)) 0 k k (zero-add k))
