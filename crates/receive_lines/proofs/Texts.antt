-- What a receiver over an empty ring writes is the text. Assumes nothing.
use Rattle.std.proofs.Common.{◌≡◌, ℕ, ◌≤◌, Bool, List, [], ◌∷◌, Some, None, Option, min, refl, ap, ap₂, ◌∙◌, subst, sym, slice_get, arith}
use Rattle.std.specs.List.{AllByRecursion}
use Rattle.hold.specs.Candidates.{Candidate, Showing}
use Rattle.reception.specs.Rules.{State, INACTIVE, state}
use Rattle.reception.proofs.Decoding.{held}
use Rattle.reception.specs.Runs.{reports_of}
use Rattle.reception.specs.Finished.{new_candidates}
use Rattle.receive_lines.specs.declared.setup.Setup.{Setup}
use Rattle.receive_lines.specs.declared.view.View.{View}
use Rattle.receive_lines.specs.Lines.{reports_in, whole_text}
use Rattle.receive_lines.specs.Pass.{pass_events, placed_pass, rules_for, showing_for, over_cells, ready_for}
use Rattle.receive_lines.specs.Released.{with_releases}
use Rattle.receive_lines.specs.declared.form.Form.{Form}
use Rattle.receive_lines.specs.Answers.{AreLinesOf, IsTextOf}
use Rattle.receive_lines.specs.Forms.{symbols_in_octets}
use Rattle.receive_lines.specs.Printing.{PrintsAll, PrintsFrom}
use Rattle.receive_lines.specs.Releasing.{lines_of}
use Rattle.receive_lines.proofs.Released.{told_reports, first_at}
use Rattle.receive_lines.proofs.Passes.{events_placed}
use Rattle.receive_lines.proofs.Emptied.{NotFull, lines_fit, never_filled}

module _ (setup : Setup) where
  abbrev start : State
  start = over_cells setup.cells

  pub are_lines_of : (segments : List (List Bool)) → AreLinesOf setup segments (lines_of (rules_for setup) (showing_for setup.randomizer) start (placed_pass segments))
  are_lines_of segments =
      let rules = rules_for setup in
      let showing = showing_for setup.randomizer in
      let events = pass_events segments in
      let ps = placed_pass segments in
      let fits = lines_fit rules showing start ps refl refl in
      let same = events_placed segments in
      let reports = ap reports_in fits.told ∙ told_reports rules showing start ps ∙ ap (λ es. reports_of rules showing start (with_releases rules showing start es)) same in
      let frames = fits.frames ∙ ap (λ es. new_candidates rules showing start (with_releases rules showing start es)) same in
      record {
        reports = reports;
        frames = frames;
        order = fits.order;
        told = fits.told;
        places = λ number one is. first_at rules showing start ps number one (ap (λ l. slice_get l number) (sym fits.told) ∙ is);
        never_filled = λ enough.
            let as_if = never_filled rules showing setup.cells enough (ready_for events) events refl (omega arith) in
            record { reports = reports ∙ as_if.reports; frames = frames ∙ as_if.new; never_full = subst (AllByRecursion NotFull) (sym (reports ∙ as_if.reports)) as_if.never_full };
      }

  pub is_text_of : (view : View) (segments : List (List Bool)) (text : List ℕ) (showing : Showing) (s : State) → showing ≡ showing_for setup.randomizer → s ≡ start →
      text ≡ whole_text view (lines_of (rules_for setup) showing s (placed_pass segments)) → IsTextOf setup view segments text
  is_text_of view segments text showing s shows same written =
      record {
        lines = lines_of (rules_for setup) (showing_for setup.randomizer) start (placed_pass segments);
        written = written ∙ ap₂ (λ sh t. whole_text view (lines_of (rules_for setup) sh t (placed_pass segments))) shows same;
        are = are_lines_of segments;
      }

-- a ring of these cells, empty, under a receiver
pub over_ring : (k n cells : ℕ) (finished : List Candidate) → k ≡ min n 65535 → n ≡ cells → cells ≤ 65535 → finished ≡ [] → state INACTIVE (held k finished None) ≡ over_cells cells
over_ring k n cells finished capacity long few none = ap₂ (λ c f. state INACTIVE (held c f None)) (omega (arith, capacity, long, few)) none

-- and what is printed of it is all
pub prints_all : (setup : Setup) (view : View) (form : Form) (input input_after output output_after : Option (List ℕ)) (showing : Showing) (s : State) →
    showing ≡ showing_for setup.randomizer → s ≡ over_cells setup.cells → PrintsFrom view form input input_after output output_after (rules_for setup) showing s →
    PrintsAll view form input input_after output output_after setup
prints_all setup view form input input_after output output_after showing s shows same prints =
    let segments = symbols_in_octets form prints.octets ∷ [] in
    let text = whole_text view (lines_of (rules_for setup) showing s (placed_pass segments)) in
    record {
      octets = prints.octets;
      given = prints.given;
      all = prints.all;
      form_kept = prints.form_kept;
      text = text;
      is_text = is_text_of setup view segments text showing s shows same refl;
      printed = prints.printed;
    }
