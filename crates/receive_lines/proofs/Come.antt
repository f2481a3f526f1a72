-- What a receiver has come to, when some of what it wrote was printed already. Assumes nothing.
use Rattle.std.proofs.Common.{◌≡◌, ℕ, ◌+◌, Bool, List, [], ◌∷◌, ◌++◌, length, sym, refl, ap, ◌∙◌, subst, ap₂, append_assoc, append-nil, string_bytes, arith}
use Rattle.std.proofs.lemmas.List.{length-append}
use Rattle.std.proofs.lemmas.Grind.{flat_map-append}
use Rattle.hold.specs.declared.Hold.{Ghosts}
use Rattle.reception.specs.Decoding.{Settings}
use Rattle.reception.specs.Rules.{State, carrier_up, carrier_down}
use Rattle.decoding.specs.Meaning.{rules_of}
use Rattle.receiver.specs.Meaning.{settings_of, state_of}
use Rattle.receive_lines.specs.declared.view.View.{View}
use Rattle.receive_lines.specs.declared.receiving.Receiving.{Receiving}
use Rattle.receive_lines.specs.Lines.{line_text, text_of, told_among, frames_among, last_line, whole_text}
use Rattle.receive_lines.specs.Pass.{Placed, placed, place_in, placed_symbols, placed_segment, placed_pass}
use Rattle.receive_lines.specs.Releasing.{after_run, lines_of, last_of, Passed, PassedSymbols}
use Rattle.receive_lines.proofs.Lines.{told_among_append, frames_among_append}
use Rattle.receive_lines.proofs.Passes.{after_run_append, lines_of_append, placed_append}

module _ {X : Type 0} (hold : Ghosts X) (rules : Settings) (s : State) (view : View) where
  -- by events from a state on, with this text printed already
  pub record HasCome (events : List Placed) (text : List ℕ) (receiving : Receiving X hold) : Type 0 where
    pub rules_are : rules_of (settings_of receiving.receiver) ≡ rules
    pub come : state_of hold receiving.receiver ≡ after_run rules hold.showing s events
    pub view_is : receiving.log.view ≡ view
    pub text_is : text ++ string_bytes receiving.log.text ≡ text_of view (lines_of rules hold.showing s events)
    pub reports : receiving.log.reports ≡ length (told_among (lines_of rules hold.showing s events))
    pub frames : receiving.log.frames ≡ length (frames_among (lines_of rules hold.showing s events))

  pub come_then : (events more : List Placed) (text : List ℕ) (a b : Receiving X hold) → HasCome events text a → Passed hold more a b → HasCome (events ++ more) text b
  come_then events more text a b has passed =
      let first = lines_of rules hold.showing s events in
      let there = after_run rules hold.showing s events in
      let further = lines_of rules hold.showing there more in
      let both = lines_of_append rules hold.showing events more s in
      let here : lines_of (rules_of (settings_of a.receiver)) hold.showing (state_of hold a.receiver) more ≡ further =
      ap₂ (λ r t. lines_of r hold.showing t more) has.rules_are has.come in
      let wrote = passed.written in
      record {
        rules_are = ap rules_of passed.settings ∙ has.rules_are;
        come = passed.come ∙ ap₂ (λ r t. after_run r hold.showing t more) has.rules_are has.come ∙ sym (after_run_append rules hold.showing events more s);
        view_is = wrote.view ∙ has.view_is;
        text_is = ap (λ t. text ++ t) wrote.text ∙ sym (append_assoc text (string_bytes a.log.text) _)
            ∙ ap₂ (λ t l. t ++ l) has.text_is (ap₂ (λ v l. text_of v l) has.view_is here)
            ∙ sym (flat_map-append (line_text view) first further) ∙ ap (text_of view) (sym both);
        reports = omega (arith, wrote.reports, has.reports, ap (λ l. length (told_among l)) here, ap (λ l. length (told_among l)) both, ap length (told_among_append first further), length-append (told_among first) (told_among further));
        frames = omega (arith, wrote.frames, has.frames, ap (λ l. length (frames_among l)) here, ap (λ l. length (frames_among l)) both, ap length (frames_among_append first further), length-append (frames_among first) (frames_among further));
      }

  -- a segment so far: the carrier is up, and these symbols came
  abbrev pub so_far : List Bool → List Placed
  so_far bits = placed (place_in 1 0) carrier_up ∷ placed_symbols (place_in 1 0) bits

  pub record InSegment (bits : List Bool) (text : List ℕ) (receiving : Receiving X hold) : Type 0 where
    pub has_come : HasCome (so_far bits) text receiving
    pub place_is : receiving.place ≡ place_in 1 (length bits)

  pub further : (bits more : List Bool) (text : List ℕ) (a b : Receiving X hold) → InSegment bits text a → PassedSymbols hold more a b → InSegment (bits ++ more) text b
  further bits more text a b has passed =
      let at_last : place_in 1 (length bits) ≡ last_of (place_in 1 0) bits = ap (place_in 1) (omega arith) in
      let same : placed_symbols (place_in 1 0) bits ++ placed_symbols a.place more ≡ placed_symbols (place_in 1 0) (bits ++ more) =
      ap (λ p. placed_symbols (place_in 1 0) bits ++ placed_symbols p more) (has.place_is ∙ at_last) ∙ sym (placed_append (place_in 1 0) bits more) in
      record {
        has_come = subst (λ l. HasCome (placed (place_in 1 0) carrier_up ∷ l) text b) same
            (come_then (so_far bits) (placed_symbols a.place more) text a b has.has_come passed.goes);
        place_is = passed.place ∙ ap (λ p. last_of p more) has.place_is ∙ ap (place_in 1) (omega (arith, length-append bits more));
      }

  -- what was written is printed
  pub printed_too : (bits : List Bool) (text : List ℕ) (a b : Receiving X hold) → InSegment bits text a → b.receiver ≡ a.receiver → b.place ≡ a.place → b.log.view ≡ a.log.view →
      b.log.reports ≡ a.log.reports → b.log.frames ≡ a.log.frames → string_bytes b.log.text ≡ [] → InSegment bits (text ++ string_bytes a.log.text) b
  printed_too bits text a b has receiver place view_same reports frames clear =
      let was = has.has_come in
      record {
        has_come = record {
          rules_are = ap (λ r. rules_of (settings_of r)) receiver ∙ was.rules_are;
          come = ap (state_of hold) receiver ∙ was.come;
          view_is = view_same ∙ was.view_is;
          text_is = ap (λ t. (text ++ string_bytes a.log.text) ++ t) clear ∙ append-nil (text ++ string_bytes a.log.text) ∙ was.text_is;
          reports = reports ∙ was.reports;
          frames = frames ∙ was.frames;
        };
        place_is = place ∙ has.place_is;
      }

  -- the segment ends, and the last line is written
  pub segment_ends : (bits : List Bool) (text : List ℕ) (a b : Receiving X hold) → InSegment bits text a → Passed hold (placed a.place carrier_down ∷ []) a b →
      text ++ (string_bytes b.log.text ++ last_line b.log.view b.log.reports b.log.frames) ≡ whole_text view (lines_of rules hold.showing s (placed_pass (bits ∷ [])))
  segment_ends bits text a b has down =
      let events = placed_pass (bits ∷ []) in
      let same : so_far bits ++ placed a.place carrier_down ∷ [] ≡ events =
      ap (λ p. so_far bits ++ placed p carrier_down ∷ []) has.place_is ∙ sym (append-nil (placed_segment 1 bits)) in
      let all = subst (λ l. HasCome l text b) same (come_then (so_far bits) (placed a.place carrier_down ∷ []) text a b has.has_come down) in
      sym (append_assoc text (string_bytes b.log.text) (last_line b.log.view b.log.reports b.log.frames))
      ∙ ap₂ ◌++◌ all.text_is (ap₂ (λ v n. last_line v n b.log.frames) all.view_is all.reports ∙ ap (λ n. last_line view (length (told_among (lines_of rules hold.showing s events))) n) all.frames)

  -- the carrier is up
  pub begins : (a b : Receiving X hold) → rules_of (settings_of a.receiver) ≡ rules → state_of hold a.receiver ≡ s → a.log.view ≡ view → string_bytes a.log.text ≡ [] → a.log.reports ≡ 0 → a.log.frames ≡ 0 →
      b.place ≡ place_in 1 0 → Passed hold (placed (place_in 1 0) carrier_up ∷ []) a b → InSegment [] [] b
  begins a b rules_are come view_is clear reports frames place up =
      record {
        has_come = come_then [] (placed (place_in 1 0) carrier_up ∷ []) [] a b
            (record { rules_are = rules_are; come = come; view_is = view_is; text_is = clear; reports = reports; frames = frames }) up;
        place_is = place;
      }
