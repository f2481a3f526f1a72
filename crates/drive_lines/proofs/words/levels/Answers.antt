-- One level more. Assumes nothing.
use Rattle.std.proofs.Common.{◌≡◌, ℕ, ◌+◌, ◌<◌, List, ◌++◌, ◌∷◌, [], map, length, drop, get_or, Some, Bor, to_z, of_z, w8, FitsSigned, sym, ap, ◌∙◌, add-one, drop-cons, rules, arith}
use Rattle.std.specs.Option.{option_map}
use Rattle.std.proofs.lemmas.Int.{to_z-of_z}
use Rattle.drive_lines.specs.Words.{all_written, level}
use Rattle.drive_lines.proofs.Written.{none_before, one_more}
use Rattle.drive_lines.proofs.words.levels.Goals as goal

pub loop-part-init : goal.loop-part-init
loop-part-init c =
    ap (λ l. option_map (λ xs. l ++ xs) (all_written level (map (λ (w : Bor (List ℕ)). w.now) c.deref-part-items.result.now))) c.new-levels.ensures.items
    ∙ none_before _ ∙ ap (λ l. all_written level (map (λ (w : Bor (List ℕ)). w.now) l)) c.deref-part-items.ensures.value ∙ ap (all_written level) c.in_ok-parts.ensures

pub loop-part-preserved : goal.loop-part-preserved
loop-part-preserved c =
    let parts = c.deref-part-items.result.now in
    let i = c.loop-part.part-index in
    let here = get_or parts i (record { ref_ptr = (0, 0); now = [] }) in
    let done = c.loop-part.levels.items in
    let within : i < length parts = omega arith in
    let next : drop i parts ≡ here ∷ drop (i + 1) parts = rw add-one (drop-cons parts i (record { ref_ptr = (0, 0); now = [] }) within) in
    let fits : FitsSigned w8 c.in-Some.level = search rules in
    let written : level here.now ≡ Some (to_z w8 (of_z w8 c.in-Some.level)) =
    sym c.level.ensures ∙ c.in-Some.is ∙ ap Some (sym (to_z-of_z w8 c.in-Some.level fits)) in
    let further = map (λ (w : Bor (List ℕ)). w.now) (drop (i + 1) parts) in
    ap (λ l. option_map (λ xs. l ++ xs) (all_written level further)) c.in_ok-push.ensures.items
    ∙ one_more level done here.now (to_z w8 (of_z w8 c.in-Some.level)) further written
    ∙ ap (λ l. option_map (λ xs. done ++ xs) (all_written level (map (λ (w : Bor (List ℕ)). w.now) l))) (sym next)
    ∙ c.loop-part.invariant
