-- Segments that are cut off one after the other. Assumes nothing.
use Rattle.std.proofs.Common.{◌≡◌, ℕ, ◌+◌, ◌-◌, ◌*◌, ◌<◌, ◌≤◌, Bool, List, [], ◌∷◌, ◌++◌, length, map, take, drop, get_or, refl, sym, ap, ap₂, ◌∙◌, append_assoc, vec_items, Bor, arith}
use Rattle.std.specs.Global.{Vec}
use Rattle.std.proofs.lemmas.List.{drop_more, length-drop, map-append}
use Rattle.pass_lines.specs.Cltus.{octets_of_each}
use Rattle.pass_lines.specs.Symbols.{parts, parts_length}
use Rattle.pass_lines.specs.Forms.{segment_symbols}

module _ (guard : ℕ) (cltus : List (Vec ℕ)) (i : ℕ) (cltu : Vec ℕ) (within : i < length cltus) (is : cltu ≡ get_or cltus i cltu) where
  abbrev here : ℕ
  here = guard + 8 * length (vec_items cltu)

  abbrev left : ℕ → List (List ℕ)
  left n = octets_of_each (drop n cltus)

  next : left i ≡ vec_items cltu ∷ left (i + 1)
  next = ap octets_of_each (drop_more cltus i cltu within ∙ ap (λ x. x ∷ drop (i + 1) cltus) (sym is))

  pub long_enough : (rest : List Bool) → length rest ≡ parts_length guard (left i) → here ≤ length rest
  long_enough rest all = let sum = all ∙ ap (parts_length guard) next in omega (arith, sum)

  pub left_more : (rest further : List Bool) → length rest ≡ parts_length guard (left i) → further ≡ drop here rest → length further ≡ parts_length guard (left (i + 1))
  left_more rest further all behind =
      let sum = all ∙ ap (parts_length guard) next in
      omega (arith, sum, ap length behind, length-drop here rest)

  pub cut_more : (result : List (List Bool)) (segments : List (Bor (List Bool))) (segment : Bor (List Bool)) (rest further : List Bool) → segment.now ≡ take here rest → further ≡ drop here rest
      → result ≡ segment_symbols segments ++ parts guard (left i) rest → result ≡ segment_symbols (segments ++ segment ∷ []) ++ parts guard (left (i + 1)) further
  cut_more result segments segment rest further front behind so_far =
      so_far ∙ ap (λ l. segment_symbols segments ++ parts guard l rest) next
      ∙ ap₂ (λ s f. segment_symbols segments ++ (s ∷ parts guard (left (i + 1)) f)) (sym front) (sym behind)
      ∙ sym (append_assoc (segment_symbols segments) (segment.now ∷ []) (parts guard (left (i + 1)) further))
      ∙ ap (λ l. l ++ parts guard (left (i + 1)) further) (sym (map-append (λ s. s.now) segments (segment ∷ [])))
