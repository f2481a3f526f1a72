-- A line that is read without a newline. Assumes nothing.
use Rattle.std.proofs.Common.{◌≡◌, ℕ, ◌-◌, ◌<◌, Bool, true, false, not, List, [], ◌∷◌, ◌++◌, length, take, get_or, Option, Some, None, Bor, refl, sym, ap, ◌∙◌, subst, inl, inr, arith}
use Rattle.std.specs.Prelude.{All, IfSome, IsSome, ◌==◌, if◌then◌else◌}
use Rattle.std.specs.Option.{option_eq}
use Rattle.std.specs.Io.KnownBytes.{IsAtEnd}
use Rattle.std.specs.Io.BufRead.{take_through, drop_through}
use Rattle.std.proofs.lemmas.Bool.{cases_lt, ne_eqb, eq-eqb, true≢false}
use Rattle.std.proofs.lemmas.List.{get_or-take, get_or_default, length-take}
use Rattle.std.proofs.lemmas.List.Elements.{All-head, All-tail}

abbrev NoNewline : List ℕ → Type 0
NoNewline line = All (λ x. (x == 10) ≡ false) line

-- no octet in front of the last is a newline, and neither is the last
pub no_newline : (line : List ℕ) → ((k d : ℕ) → k < length (take (length line - 1) line) → get_or (take (length line - 1) line) k d ≡ 10 → ⊥) →
    (0 < length line → get_or line (length line - 1) 0 ≡ 10 → ⊥) → NoNewline line
no_newline line front last k d within =
    elim (cases_lt k (length line - 1)) [
      | inl below ↦ ne_eqb (get_or line k d) 10 (λ e. front k d (omega (arith, length-take (length line - 1) line)) (get_or-take (length line - 1) line k d below ∙ e))
      | inr top ↦
          let is_last : k ≡ length line - 1 = omega arith in
          ne_eqb (get_or line k d) 10 (λ e. last (omega arith) (ap (λ i. get_or line i 0) (sym is_last) ∙ get_or_default line k 0 d within ∙ e))
    ]

-- the last octet differs from a newline
pub last_differs : (line : List ℕ) (o : Option (Bor ℕ)) (b : Bor ℕ) → IfSome o (λ x. x.now ≡ get_or line (length line - 1) x.now) →
    (0 < length line → IsSome o) → b.now ≡ 10 → true ≡ not (option_eq (λ x y. x.now == y.now) o (Some b)) →
    0 < length line → get_or line (length line - 1) 0 ≡ 10 → ⊥
last_differs line None b is some ten differs within e = true≢false (sym (some within))
last_differs line (Some x) b is some ten differs within e =
    let same : x.now ≡ b.now = is ∙ get_or_default line (length line - 1) x.now 0 (omega arith) ∙ e ∙ sym ten in
    true≢false (differs ∙ ap not (eq-eqb x.now b.now same))

drained : (octets : List ℕ) → NoNewline (take_through 10 octets) → drop_through 10 octets ≡ []
drained [] none = refl
drained (x ∷ octets) none = by (x == 10) refl none (drained octets)
  where
    by : (newline : Bool) → (x == 10) ≡ newline → NoNewline (if newline then x ∷ [] else x ∷ take_through 10 octets) →
        (NoNewline (take_through 10 octets) → drop_through 10 octets ≡ []) → (if newline then octets else drop_through 10 octets) ≡ []
    by true is none rest = absurd (true≢false (sym is ∙ All-head (λ y. (y == 10) ≡ false) x [] none))
    by false is none rest = rest (All-tail (λ y. (y == 10) ≡ false) x (take_through 10 octets) none)

-- such a line is the last
pub at_end : (input input_after : Option (List ℕ)) (line : List ℕ) → IfSome input (λ octets. line ≡ take_through 10 octets) →
    IfSome input (λ octets. input_after ≡ Some (drop_through 10 octets)) → NoNewline line → IfSome input (λ _. IsAtEnd input_after)
at_end None input_after line is rest none = tt
at_end (Some octets) input_after line is rest none =
    subst IsAtEnd (sym rest) (drained octets (subst NoNewline is none))
