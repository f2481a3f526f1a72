-- The lines of octets that stand behind one another. Assumes nothing.
use Rattle.std.proofs.Common.{◌≡◌, ◌≢◌, ℕ, Bool, true, false, cond, ◌&&◌, ◌==◌, ne_eqb, List, [], ◌∷◌, ◌++◌, refl, sym, ap, subst, ◌∙◌, append_assoc, append-nil, arith}
use Rattle.answered_lines.specs.Lines.{newline_in_front, in_first_line, in_front, lines_of, NoNewline, LinesEnd}
use Rattle.answered_lines.specs.declared.lines.Last.{Last}
use Rattle.answered_lines.specs.declared.lines.Last.TheVariants.{Newline, CarriageReturn, Other}
use Rattle.answered_lines.specs.Taken.{waiting, CameLast}

-- an octet of a line, before something else than a newline
of_the_line : (x : ℕ) (lines : List (List ℕ)) → x ≢ 10 → in_front x false lines ≡ in_first_line x lines
of_the_line x lines differs = ap (λ b. cond b ([] ∷ lines) (cond (x == 13 && false) lines (in_first_line x lines))) (ne_eqb x 10 differs) ∙ no_return (x == 13)
  where
    no_return : (b : Bool) → cond (b && false) lines (in_first_line x lines) ≡ in_first_line x lines
    no_return true = refl
    no_return false = refl

-- or one that is no carriage return, before anything
no_return_of_the_line : (x : ℕ) (before_newline : Bool) (lines : List (List ℕ)) → x ≢ 10 → x ≢ 13 → in_front x before_newline lines ≡ in_first_line x lines
no_return_of_the_line x before_newline lines differs differs' =
    ap (λ b. cond b ([] ∷ lines) (cond (x == 13 && before_newline) lines (in_first_line x lines))) (ne_eqb x 10 differs)
    ∙ ap (λ b. cond (b && before_newline) lines (in_first_line x lines)) (ne_eqb x 13 differs')

module _ (further first : List ℕ) (lines : List (List ℕ)) (no_newline_next : newline_in_front further ≡ false) (are : lines_of further ≡ first ∷ lines) where
  none_in_front : (line : List ℕ) → NoNewline line → newline_in_front (line ++ further) ≡ false
  none_in_front [] all = no_newline_next
  none_in_front (x ∷ line) all = ne_eqb x 10 all.0

  -- octets in front of a line, none of them a newline, are of that line
  pub in_front_of : (line : List ℕ) → NoNewline line → lines_of (line ++ further) ≡ (line ++ first) ∷ lines
  in_front_of [] all = are
  in_front_of (x ∷ line) all =
      ap (λ b. in_front x b (lines_of (line ++ further))) (none_in_front line all.1) ∙ of_the_line x (lines_of (line ++ further)) all.0 ∙ ap (in_first_line x) (in_front_of line all.1)

pub no_newline_front : (front : List ℕ) (x : ℕ) → NoNewline (front ++ x ∷ []) → NoNewline front × (x ≢ 10)
no_newline_front [] x all = (tt, all.0)
no_newline_front (y ∷ front) x all = let further = no_newline_front front x all.1 in ((all.0, further.0), further.1)

-- a newline ends the open line: a carriage return that waits is of its end
pub newline_ends : (last : Last) (line further : List ℕ) → NoNewline line → CameLast last line → lines_of ((line ++ waiting last) ++ 10 ∷ further) ≡ line ∷ lines_of further
newline_ends Newline line further all is = ap (λ l. lines_of ((l ++ []) ++ 10 ∷ further)) is ∙ ap (λ l. l ∷ lines_of further) (sym is)
newline_ends CarriageReturn line further all is =
    ap lines_of (append_assoc line (13 ∷ []) (10 ∷ further)) ∙ in_front_of (13 ∷ 10 ∷ further) [] (lines_of further) refl refl line all ∙ ap (λ l. l ∷ lines_of further) (append-nil line)
newline_ends Other line further all (front, x, is, differs) =
    let parts = no_newline_front front x (subst NoNewline is all) in
    ap (λ l. lines_of (l ++ 10 ∷ further)) (append-nil line ∙ is) ∙ ap lines_of (append_assoc front (x ∷ []) (10 ∷ further))
    ∙ in_front_of (x ∷ 10 ∷ further) (x ∷ []) (lines_of further) (ne_eqb x 10 parts.1) (no_return_of_the_line x true ([] ∷ lines_of further) parts.1 differs) front parts.0 ∙ ap (λ l. l ∷ lines_of further) (sym is)

-- the line that is open where nothing comes behind it, if one is: a carriage return that waits is of the line
abbrev pub open_lines : Last → List ℕ → List (List ℕ)
open_lines Newline line = []
open_lines CarriageReturn line = (line ++ 13 ∷ []) ∷ []
open_lines Other line = (line ++ []) ∷ []

pub ends : (last : Last) (line : List ℕ) → NoNewline line → CameLast last line → lines_of (line ++ waiting last) ≡ open_lines last line
ends Newline line all is = ap (λ l. lines_of (l ++ [])) is
ends CarriageReturn line all is = in_front_of (13 ∷ []) (13 ∷ []) [] refl refl line all
ends Other line all (front, x, is, differs) =
    let parts = no_newline_front front x (subst NoNewline is all) in
    let whole : line ++ [] ≡ front ++ x ∷ [] = append-nil line ∙ is in
    ap lines_of whole ∙ in_front_of (x ∷ []) (x ∷ []) [] (ne_eqb x 10 parts.1) (no_return_of_the_line x false [] parts.1 differs) front parts.0 ∙ ap (λ l. l ∷ []) (sym whole)

pub opened : (last : Last) (line : List ℕ) → last ≢ Newline → open_lines last line ≡ (line ++ waiting last) ∷ []
opened Newline line another = absurd (another refl)
opened CarriageReturn line another = refl
opened Other line another = refl

pub no_newline_waits : (last : Last) → NoNewline (waiting last)
no_newline_waits Newline = tt
no_newline_waits CarriageReturn = (λ e. omega (arith, e), tt)
no_newline_waits Other = tt

pub no_newline_append : (line more : List ℕ) → NoNewline line → NoNewline more → NoNewline (line ++ more)
no_newline_append [] more all also = also
no_newline_append (x ∷ line) more all also = (all.0, no_newline_append line more all.1 also)

pub lines_end : LinesEnd
lines_end = record {
  newline = λ line x further all differs.
      let whole = line ++ x ∷ [] in
      ap (λ l. lines_of (l ++ 10 ∷ further)) (sym (append-nil whole)) ∙ newline_ends Other whole further all (line, x, refl, differs);
  newline_alone = λ further. refl;
  both = λ line further all. ap lines_of (sym (append_assoc line (13 ∷ []) (10 ∷ further))) ∙ newline_ends CarriageReturn line further all tt;
  without_end = λ line x all.
      let parts = no_newline_front line x all in
      in_front_of (x ∷ []) (x ∷ []) [] (ne_eqb x 10 parts.1) (of_the_line x [] parts.1) line parts.0;
  nothing = refl;
}
