-- The first line of a text. Assumes nothing.
use Rattle.std.proofs.Common.{◌≡◌, ◌≢◌, ℕ, suc, ◌+◌, ◌-◌, ◌<◌, Bool, true, false, not, cond, ◌==◌, ◌⊎◌, inl, inr, ⊎_elim, List, [], ◌∷◌, ◌++◌, length, take, drop, get_or, refl, sym, ap, ◌∙◌, subst, length-append, append-nil, append_assoc, arith}
use Rattle.std.specs.List.{position_or_len, before_first, after_first}
use Rattle.std.specs.Str.Lines.{strip_carriage_return}
use Rattle.std.proofs.lemmas.List.{drop_more, drop_all, take-append-drop}
use Rattle.std.proofs.lemmas.Bool.{cases_eq, eqb-true}
use Rattle.answered_lines.specs.Lines.{lines_of, NoNewline}
use Rattle.answered_lines.proofs.LinesOf.{lines_end, no_newline_front}

abbrev newline : ℕ → Bool
newline x = x == 10

not_newline : (x : ℕ) → (x == 10) ≡ false → x ≢ 10
not_newline x e is = let other : (10 == 10) ≡ false = subst (λ y. (y == 10) ≡ false) is e in cc

-- no newline stands in a text, or the first stands behind a line
abbrev None_in : List ℕ → Type 0
None_in text = NoNewline text × (before_first newline text ≡ text) × (after_first newline text ≡ [])

abbrev Found : List ℕ → Type 0
Found text = (line : List ℕ) × (further : List ℕ) × (text ≡ line ++ 10 ∷ further) × NoNewline line × (before_first newline text ≡ line) × (after_first newline text ≡ further)

abbrev place : List ℕ → ℕ
place text = position_or_len newline text

one_plus : (n : ℕ) → 1 + n ≡ suc n
one_plus n = omega arith

one_on : (x n : ℕ) (text : List ℕ) → drop (suc n + 1) (x ∷ text) ≡ drop (n + 1) text
one_on x n text =
    let e : suc n + 1 ≡ suc (n + 1) = omega arith in
    ap (λ m. drop m (x ∷ text)) e

view : (text : List ℕ) → None_in text ⊎ Found text
view [] = inl (tt, refl, refl)
view (x ∷ text) = by (view text) (x == 10) refl
  where
    further : (x == 10) ≡ false → None_in text ⊎ Found text → None_in (x ∷ text) ⊎ Found (x ∷ text)
    further e (inl none) =
        let at : position_or_len newline (x ∷ text) ≡ suc (place text) = ap (λ b. cond (not b) (1 + place text) 0) e ∙ one_plus (place text) in
        inl ((not_newline x e, none.0), ap (λ n. take n (x ∷ text)) at ∙ ap (λ l. x ∷ l) none.1, ap (λ n. drop (n + 1) (x ∷ text)) at ∙ one_on x (place text) text ∙ none.2)
    further e (inr (line, rest, is, none, front, behind)) =
        let at : position_or_len newline (x ∷ text) ≡ suc (place text) = ap (λ b. cond (not b) (1 + place text) 0) e ∙ one_plus (place text) in
        inr (x ∷ line, rest, ap (λ l. x ∷ l) is, (not_newline x e, none), ap (λ n. take n (x ∷ text)) at ∙ ap (λ l. x ∷ l) front, ap (λ n. drop (n + 1) (x ∷ text)) at ∙ one_on x (place text) text ∙ behind)

    by : None_in text ⊎ Found text → (b : Bool) → (x == 10) ≡ b → None_in (x ∷ text) ⊎ Found (x ∷ text)
    by rest true e =
        let at : position_or_len newline (x ∷ text) ≡ 0 = ap (λ b. cond (not b) (1 + place text) 0) e in
        inr ([], text, ap (λ y. y ∷ text) (eqb-true x 10 e), tt, ap (λ n. take n (x ∷ text)) at, ap (λ n. drop (n + 1) (x ∷ text)) at)
    by rest false e = further e rest

-- a list with its last element apart
snoc : (l : List ℕ) → 0 < length l → l ≡ take (length l - 1) l ++ get_or l (length l - 1) 0 ∷ []
snoc l some =
    sym (take-append-drop (length l - 1) l)
    ∙ ap (λ r. take (length l - 1) l ++ r) (drop_more l (length l - 1) 0 (omega arith) ∙ ap (λ r. get_or l (length l - 1) 0 ∷ r) (drop_all (length l - 1 + 1) l (omega arith)))

some_of : (l : List ℕ) → l ≢ [] → 0 < length l
some_of [] other = absurd (other refl)
some_of (x ∷ l) other = omega arith

alone : (text : List ℕ) → text ≢ [] → NoNewline text → lines_of text ≡ text ∷ []
alone text some none =
    let is = snoc text (some_of text some) in
    ap lines_of is ∙ lines_end.without_end (take (length text - 1) text) (get_or text (length text - 1) 0) (subst NoNewline is none) ∙ ap (λ l. l ∷ []) (sym is)

module _ (line further : List ℕ) (none : NoNewline line) where
  abbrev front : List ℕ
  front = take (length line - 1) line

  abbrev last : ℕ
  last = get_or line (length line - 1) 0

  by_last : 0 < length line → (b : Bool) → (last == 13) ≡ b → lines_of (line ++ 10 ∷ further) ≡ cond b front line ∷ lines_of further
  by_last some true e =
      let is = snoc line some in
      let ends : line ≡ front ++ 13 ∷ [] = is ∙ ap (λ x. front ++ x ∷ []) (eqb-true last 13 e) in
      ap (λ l. lines_of (l ++ 10 ∷ further)) ends ∙ ap lines_of (append_assoc front (13 ∷ []) (10 ∷ further))
      ∙ lines_end.both front further (no_newline_front front last (subst NoNewline is none)).0
  by_last some false e =
      let is = snoc line some in
      let other : last ≢ 13 = λ same. let no : (13 == 13) ≡ false = subst (λ y. (y == 13) ≡ false) same e in cc in
      ap (λ l. lines_of (l ++ 10 ∷ further)) is ∙ lines_end.newline front last further (subst NoNewline is none) other ∙ ap (λ l. l ∷ lines_of further) (sym is)

  before_newline : lines_of (line ++ 10 ∷ further) ≡ strip_carriage_return line ∷ lines_of further
  before_newline =
      ⊎_elim
      (λ empty. ap (λ l. lines_of (l ++ 10 ∷ further)) (nothing line empty) ∙ ap (λ l. strip_carriage_return l ∷ lines_of further) (sym (nothing line empty)))
      (λ some. by_last (omega arith) (last == 13) refl)
      (cases_eq (length line) 0)
    where
      nothing : (l : List ℕ) → length l ≡ 0 → l ≡ []
      nothing [] e = refl
      nothing (x ∷ l) e = absurd (omega arith)

module _ (text line further : List ℕ) (front : line ≡ before_first newline text) (behind : further ≡ after_first newline text) where
  longer : Found text → length line ≢ length text
  longer (l, rest, is, none, before, after) same =
      omega (arith, ap length is, length-append l (10 ∷ rest), ap length (front ∙ before))

  pub whole : text ≢ [] → length line ≡ length text → lines_of text ≡ line ∷ lines_of further
  whole some same =
      ⊎_elim
      (λ none. alone text some none.0 ∙ ap (λ l. l ∷ []) (sym (front ∙ none.1)) ∙ ap (λ l. line ∷ lines_of l) (sym (behind ∙ none.2)))
      (λ found. absurd (longer found same))
      (view text)

  pub stripped : (length line ≡ length text → ⊥) → lines_of text ≡ strip_carriage_return line ∷ lines_of further
  stripped other =
      ⊎_elim
      (λ none. absurd (other (ap length (front ∙ none.1))))
      (λ found.
      ap lines_of found.2 ∙ before_newline found.0 found.1 found.3
      ∙ ap (λ l. strip_carriage_return l ∷ lines_of found.1) (sym (front ∙ found.4)) ∙ ap (λ l. strip_carriage_return line ∷ lines_of l) (sym (behind ∙ found.5)))
      (view text)
