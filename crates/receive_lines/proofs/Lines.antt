-- Lines put together, and what determines them. Assumes nothing.
use Rattle.std.proofs.Common.{◌≡◌, ◌≢◌, ℕ, Bool, true, false, List, [], ◌∷◌, ◌++◌, map, length, sym, refl, ap, ◌∙◌, subst, ap₂}
use Rattle.std.proofs.lemmas.List.{map-append}
use Rattle.hold.specs.Candidates.{Candidate}
use Rattle.reception.specs.declared.Report.{Report}
use Rattle.receive_lines.specs.declared.view.View.{View}
use Rattle.receive_lines.specs.declared.view.View.TheVariants.{Plain, Places, Candidates}
use Rattle.receive_lines.specs.Lines.{Told, told_at, Line, report_line, frame_line, line_text, text_of, told_among, reports_in, reports_among, frames_among, is_closed, AFrameBehindEachClosed, last_line, whole_text}
use Rattle.receive_lines.specs.Pass.{place_in}
use Rattle.receive_lines.specs.Sent.{anywhere, without_place, TextApartFromPlaces}
use Rattle.receive_lines.specs.Answers.{OneText}

pub told_among_append : (a b : List Line) → told_among (a ++ b) ≡ told_among a ++ told_among b
told_among_append [] b = refl
told_among_append (report_line one ∷ a) b = ap (λ l. one ∷ l) (told_among_append a b)
told_among_append (frame_line candidate ∷ a) b = told_among_append a b

pub frames_among_append : (a b : List Line) → frames_among (a ++ b) ≡ frames_among a ++ frames_among b
frames_among_append [] b = refl
frames_among_append (report_line one ∷ a) b = frames_among_append a b
frames_among_append (frame_line candidate ∷ a) b = ap (λ l. candidate ∷ l) (frames_among_append a b)

pub order_append : (due : Bool) (a b : List Line) → AFrameBehindEachClosed due a → AFrameBehindEachClosed false b →
    AFrameBehindEachClosed due (a ++ b)
order_append due [] b none more = subst (λ d. AFrameBehindEachClosed d b) (sym none) more
order_append due (report_line one ∷ a) b rest more = (rest.0, order_append (is_closed one.report.reason) a b rest.1 more)
order_append due (frame_line candidate ∷ a) b rest more = (rest.0, order_append false a b rest.1 more)

contrary : {due : Bool} → due ≡ false → due ≡ true → ⊥
contrary f t = cc

-- by what they tell and show, and by their order
pub lines_are_determined : (due : Bool) (a b : List Line) → AFrameBehindEachClosed due a → AFrameBehindEachClosed due b →
    told_among a ≡ told_among b → frames_among a ≡ frames_among b → a ≡ b
lines_are_determined due [] [] first second told shown = refl
lines_are_determined due [] (report_line y ∷ b) first second told shown = cc
lines_are_determined due [] (frame_line y ∷ b) first second told shown = cc
lines_are_determined due (report_line x ∷ a) [] first second told shown = cc
lines_are_determined due (frame_line x ∷ a) [] first second told shown = cc
lines_are_determined due (report_line x ∷ a) (frame_line y ∷ b) first second told shown = absurd (contrary first.0 second.0)
lines_are_determined due (frame_line x ∷ a) (report_line y ∷ b) first second told shown = absurd (contrary second.0 first.0)
lines_are_determined due (report_line x ∷ a) (report_line y ∷ b) first second told shown =
    let same : x ≡ y = cc in
    let later : told_among a ≡ told_among b = cc in
    ap₂ (λ one lines. report_line one ∷ lines) same
    (lines_are_determined (is_closed x.report.reason) a b first.1 (subst (λ one. AFrameBehindEachClosed (is_closed one.report.reason) b) (sym same) second.1) later shown)
lines_are_determined due (frame_line x ∷ a) (frame_line y ∷ b) first second told shown =
    let same : x ≡ y = cc in
    let later : frames_among a ≡ frames_among b = cc in
    ap₂ (λ candidate lines. frame_line candidate ∷ lines) same (lines_are_determined false a b first.1 second.1 told later)

pub one_text : OneText
one_text setup view segments a b first second =
    first.written ∙ ap (whole_text view)
    (lines_are_determined false first.lines second.lines first.are.order second.are.order (first.are.told ∙ sym second.are.told) (first.are.frames ∙ sym second.are.frames))
    ∙ sym second.written

-- ---- lines apart from their places

nowhere : Report → Told
nowhere one = told_at (place_in 0 0) one

told_without : (lines : List Line) → told_among (map without_place lines) ≡ map (told_at (place_in 0 0)) (reports_among lines)
told_without [] = refl
told_without (report_line one ∷ lines) = ap (λ l. told_at (place_in 0 0) one.report ∷ l) (told_without lines)
told_without (frame_line candidate ∷ lines) = told_without lines

frames_without : (lines : List Line) → frames_among (map without_place lines) ≡ frames_among lines
frames_without [] = refl
frames_without (report_line one ∷ lines) = frames_without lines
frames_without (frame_line candidate ∷ lines) = ap (λ l. candidate ∷ l) (frames_without lines)

order_without : (due : Bool) (lines : List Line) → AFrameBehindEachClosed due lines → AFrameBehindEachClosed due (map without_place lines)
order_without due [] order = order
order_without due (report_line one ∷ lines) order = (order.0, order_without (is_closed one.report.reason) lines order.1)
order_without due (frame_line candidate ∷ lines) order = (order.0, order_without false lines order.1)

counts_without : (lines : List Line) → length (told_among (map without_place lines)) ≡ length (told_among lines)
counts_without [] = refl
counts_without (report_line one ∷ lines) = cc (counts_without lines)
counts_without (frame_line candidate ∷ lines) = counts_without lines

text_without : (view : View) (lines : List Line) → view ≢ Places → text_of view (map without_place lines) ≡ text_of view lines
text_without view [] other = refl
text_without Plain (report_line one ∷ lines) other = ap (λ t. line_text Plain (report_line one) ++ t) (text_without Plain lines other)
text_without Plain (frame_line candidate ∷ lines) other = ap (λ t. line_text Plain (frame_line candidate) ++ t) (text_without Plain lines other)
text_without Places (x ∷ lines) other = absurd (other refl)
text_without Candidates (report_line one ∷ lines) other = text_without Candidates lines other
text_without Candidates (frame_line candidate ∷ lines) other = ap (λ t. line_text Candidates (frame_line candidate) ++ t) (text_without Candidates lines other)

whole_without : (view : View) (lines : List Line) → view ≢ Places → whole_text view (map without_place lines) ≡ whole_text view lines
whole_without view lines other =
    ap₂ ◌++◌ (text_without view lines other) (ap₂ (last_line view) (counts_without lines) (ap length (frames_without lines)))

-- lines whose reports and frames these are
pub apart_from_places : (view : View) (lines expected : List Line) (text : List ℕ) → text ≡ whole_text view lines → map without_place expected ≡ expected →
    AFrameBehindEachClosed false lines → AFrameBehindEachClosed false expected → reports_among lines ≡ reports_among expected → frames_among lines ≡ frames_among expected →
    TextApartFromPlaces view expected text
apart_from_places view lines expected text written plain order due reports frames =
    let same : map without_place lines ≡ expected =
    lines_are_determined false (map without_place lines) expected (order_without false lines order) due
    (told_without lines ∙ ap (map (told_at (place_in 0 0))) reports ∙ sym (told_without expected) ∙ ap told_among plain)
    (frames_without lines ∙ frames) in
    record {
      lines = lines;
      written = written;
      same = same;
      without_places = λ other. written ∙ sym (whole_without view lines other) ∙ ap (whole_text view) same;
    }
