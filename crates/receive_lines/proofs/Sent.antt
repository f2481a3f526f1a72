-- What arrives within the allowance is written. Assumes nothing.
use Rattle.std.proofs.Common.{◌≡◌, ℕ, suc, ◌+◌, ◌≤◌, Bool, true, false, List, [], ◌∷◌, ◌++◌, map, length, None, bit_xor, sym, refl, ap, ◌∙◌, subst, ap₂, append-nil, arith}
use Rattle.std.specs.List.{flat_map, AllByRecursion}
use Rattle.std.proofs.lemmas.List.{length-append, map-append}
use Rattle.std.specs.Int.Digits.{AllBelowBase}
use Rattle.bch.specs.declared.Mode.{Mode}
use Rattle.bch.specs.declared.Mode.TheVariants.{Detecting}
use Rattle.bch.specs.Bits.{bits_of}
use Rattle.randomizer.specs.declared.Randomizer.{Randomizer}
use Rattle.randomizer.specs.declared.Randomizer.TheVariants.{On, Off}
use Rattle.randomizer.specs.Sequence.{randomized, randomized_from, added_at}
use Rattle.randomizer.proofs.Laws.{octets_stay_octets}
use Rattle.cltu.specs.Cltu.{codeblocks_for, filled, cltu}
use Rattle.hold.specs.Candidates.{Candidate, Showing, shown_from, open_codeblocks}
use Rattle.hold.specs.Plain.{plain_showing}
use Rattle.hold.proofs.Plain.{shown_plain}
use Rattle.derandomizing.specs.Derandomized.{derandomized}
use Rattle.reception.specs.declared.Report.{Report}
use Rattle.reception.specs.declared.Reason.TheVariants.{Closed}
use Rattle.reception.specs.Decoding.{Settings, settings, Held, room, report}
use Rattle.reception.specs.Rules.{Phase, INACTIVE, SEARCH, DECODE, State, state, Event, carrier_down}
use Rattle.reception.specs.Runs.{after_events, idle}
use Rattle.reception.specs.Calls.{symbol_events}
use Rattle.reception.specs.Allowance.{BlocksWithin, wrong_in, symbols_of, undamaged}
use Rattle.reception.proofs.Brings.{Goes, goes_then}
use Rattle.reception.proofs.Joined.{runs_are_joined}
use Rattle.reception.proofs.Kept.{Kept, KeptState}
use Rattle.reception.proofs.Sent.{idle_gap, one_cltu, under_filled}
use Rattle.reception.proofs.Undamaged.{as_sent_is_within_the_allowance}
use Rattle.pass_record.specs.Record.{IsRecord, OneListOfSegments}
use Rattle.receiver.proofs.Decided.{events_append}
use Rattle.receive_lines.specs.declared.setup.Setup.{Setup}
use Rattle.receive_lines.specs.declared.view.View.{View}
use Rattle.receive_lines.specs.Lines.{Line, frame_line, reports_among, frames_among, AFrameBehindEachClosed}
use Rattle.receive_lines.specs.Pass.{segment_events, pass_events, rules_for, showing_for, ready_for}
use Rattle.receive_lines.specs.Sent.{SentCltu, SentSegment, symbols_before, segment_of, ArrivesWithin, AllArriveWithin, report_of, anywhere, taken_off, without_place, lines_of_cltu, all_cltus, lines_of_sent, TextApartFromPlaces}
use Rattle.receive_lines.specs.Answers.{IsTextOf, lines_alone, Answers}
use Rattle.receive_lines.proofs.Lines.{apart_from_places}
use Rattle.receive_lines.proofs.Emptied.{taken, takes_few}

length_events : (bits : List Bool) → length (symbol_events bits) ≡ length bits
length_events [] = refl
length_events (b ∷ bits) = ap suc (length_events bits)

-- codeblocks have more symbols than one each
long_blocks : (mode : Mode) (octets : List ℕ) (blocks : List (List Bool)) → BlocksWithin mode octets blocks → length blocks ≤ length (flat_map (λ block. block) blocks)
long_blocks mode octets [] within = omega arith
long_blocks mode octets (block ∷ blocks) within =
    omega (arith, within.0, long_blocks mode _ blocks within.2, length-append block (flat_map (λ b. b) blocks))

-- the showing takes the sequence off, if it is to
shown_randomized : (place : ℕ) (xs : List ℕ) → shown_from (derandomized plain_showing) place xs ≡ randomized_from On place xs
shown_randomized place [] = refl
shown_randomized place (x ∷ xs) = ap (λ l. bit_xor x (added_at On place) ∷ l) (shown_randomized (suc place) xs)

shown_for : (randomizer : Randomizer) (xs : List ℕ) → shown_from (showing_for randomizer) 0 xs ≡ taken_off randomizer xs
shown_for On xs = shown_randomized 0 xs
shown_for Off xs = shown_plain 0 xs

abbrev shown_by : Showing → SentCltu → Candidate
shown_by showing c = shown_from showing 0 c.information

module _ (rules : Settings) (showing : Showing) where
  long_cltu : (c : SentCltu) → ArrivesWithin rules c → length c.received.blocks ≤ length (symbols_of c.received)
  long_cltu c w =
      let blocks = flat_map (λ block. block) c.received.blocks in
      omega (arith, long_blocks rules.mode c.information c.received.blocks w.within.blocks_right, length-append c.received.start (blocks ++ c.received.tail), length-append blocks c.received.tail)

  -- what is not taken is free
  room_left : (p : Phase) (h : Held) → Kept rules.limit p h → h.capacity ≤ room h + taken (state p h)
  room_left INACTIVE h kept = omega (arith, ap open_codeblocks kept)
  room_left (SEARCH count window) h kept = omega (arith, ap open_codeblocks kept.0)
  room_left (DECODE r) h kept = omega (arith, kept.held)

  abbrev run : State → List Event → State
  run = after_events rules showing

  -- a run that ends in SEARCH with none open
  record Searches (s : State) (es : List Event) (new : List Candidate) (told : List Report) : Type 0 where
    count : ℕ
    window : ℕ
    hold : Held
    opened : hold.opened ≡ None
    goes : Goes rules showing s es (state (SEARCH count window) hold) new told

  -- with the free space that so many events behind it need
  abbrev Spacious : State → ℕ → Type 0
  Spacious s events = KeptState rules.limit s × (taken s + events ≤ s.held.capacity)

  spacious_after : (s : State) (es fs : List Event) → Spacious s (length (es ++ fs)) → Spacious (run s es) (length fs)
  spacious_after s es fs space =
      let t = takes_few rules showing rules.limit (omega arith) s es space.0 (omega (arith, space.1, length-append es fs)) in
      (t.kept, omega (arith, t.few, t.same, space.1, length-append es fs))

  -- the events of a CLTU in front of others
  parts : (c : SentCltu) (rest : List Bool) →
      symbol_events (idle c.first c.bits ++ (symbols_of c.received ++ rest)) ≡ symbol_events (idle c.first c.bits) ++ (symbol_events (symbols_of c.received) ++ symbol_events rest)
  parts c rest = events_append (idle c.first c.bits) (symbols_of c.received ++ rest) ∙ ap (λ l. symbol_events (idle c.first c.bits) ++ l) (events_append (symbols_of c.received) rest)

  cltus_come : (cs : List SentCltu) (first : Bool) (bits : ℕ) (h : Held) → AllByRecursion (ArrivesWithin rules) cs → h.opened ≡ None →
      Spacious (state (SEARCH 0 0) h) (length (symbol_events (symbols_before (idle first bits) cs))) →
      Searches (state (SEARCH 0 0) h) (symbol_events (symbols_before (idle first bits) cs)) (map (shown_by showing) cs) (map report_of cs)
  cltus_come [] first bits h within none space =
      let joined = runs_are_joined rules showing in
      let w = idle_gap rules showing (symbol_events (idle first bits)) h none (joined.up_called (idle first bits), (first, bits, joined.symbols_called (idle first bits))) in
      record { count = w.count; window = w.window; hold = w.hold; opened = w.opened; goes = record { after = w.after; news = w.new; reports = w.told } }
  cltus_come (c ∷ cs) first bits h within none space =
      let joined = runs_are_joined rules showing in
      let s = state (SEARCH 0 0) h in
      let gap = symbol_events (idle c.first c.bits) in
      let cltu = symbol_events (symbols_of c.received) in
      let rest = symbol_events (symbols_before (idle first bits) cs) in
      let whole = parts c (symbols_before (idle first bits) cs) in
      let space_here = subst (λ l. Spacious s (length l)) whole space in
      let w = idle_gap rules showing gap h none (joined.up_called (idle c.first c.bits), (c.first, c.bits, joined.symbols_called (idle c.first c.bits))) in
      let there = state (SEARCH w.count w.window) w.hold in
      let space_there = subst (λ t. Spacious t (length (cltu ++ rest))) w.after (spacious_after s gap (cltu ++ rest) space_here) in
      let fits : length c.received.blocks ≤ room w.hold =
      omega (arith, room_left (SEARCH w.count w.window) w.hold space_there.0, space_there.1, length-append cltu rest, length_events (symbols_of c.received), long_cltu c within.0) in
      let one = one_cltu rules showing w.next w.count w.window w.hold c.information c.received cltu w.opened w.calm within.0.octets
      (joined.up_called (symbols_of c.received)) (joined.symbols_called (symbols_of c.received)) within.0.within fits in
      let space_then = subst (λ t. Spacious t (length rest)) one.goes.after (spacious_after there cltu rest space_there) in
      let more = cltus_come cs first bits one.hold within.1 one.opened space_then in
      record {
        count = more.count;
        window = more.window;
        hold = more.hold;
        opened = more.opened;
        goes = goes_then rules showing {u = state (SEARCH more.count more.window) more.hold} {fs = gap} {gs = cltu ++ rest} whole (record { after = w.after; news = w.new; reports = w.told })
            (goes_then rules showing {u = state (SEARCH more.count more.window) more.hold} {fs = cltu} {gs = rest} refl one.goes more.goes);
      }

  -- a segment, and all
  record Passes (s : State) (es : List Event) (new : List Candidate) (told : List Report) : Type 0 where
    hold : Held
    opened : hold.opened ≡ None
    goes : Goes rules showing s es (state INACTIVE hold) new told

  segment_comes : (segment : SentSegment) (h : Held) → AllArriveWithin rules segment → h.opened ≡ None → Spacious (state INACTIVE h) (length (segment_events (segment_of segment))) →
      Passes (state INACTIVE h) (segment_events (segment_of segment)) (map (shown_by showing) segment.cltus) (map report_of segment.cltus)
  segment_comes segment h within none space =
      let es = symbol_events (segment_of segment) in
      let w = cltus_come segment.cltus segment.first segment.bits h within none ((none, omega arith), omega (arith, space.1, length-append es (carrier_down ∷ []))) in
      let down : Goes rules showing (state (SEARCH w.count w.window) w.hold) (carrier_down ∷ []) (state INACTIVE w.hold) [] [] = record { after = refl; news = refl; reports = refl } in
      let all = goes_then rules showing {u = state INACTIVE w.hold} {fs = es} {gs = carrier_down ∷ []} refl w.goes down in
      record {
        hold = w.hold;
        opened = w.opened;
        goes = record { after = all.after; news = all.news ∙ append-nil (map (shown_by showing) segment.cltus); reports = all.reports ∙ append-nil (map report_of segment.cltus) };
      }

  segments_come : (sent : List SentSegment) (h : Held) → AllByRecursion (AllArriveWithin rules) sent → h.opened ≡ None → Spacious (state INACTIVE h) (length (pass_events (map segment_of sent))) →
      Passes (state INACTIVE h) (pass_events (map segment_of sent)) (map (shown_by showing) (all_cltus sent)) (map report_of (all_cltus sent))
  segments_come [] h within none space = record { hold = h; opened = none; goes = record { after = refl; news = refl; reports = refl } }
  segments_come (segment ∷ sent) h within none space =
      let s = state INACTIVE h in
      let es = segment_events (segment_of segment) in
      let fs = pass_events (map segment_of sent) in
      let one = segment_comes segment h within.0 none (space.0, omega (arith, space.1, length-append es fs)) in
      let rest = segments_come sent one.hold within.1 one.opened (subst (λ t. Spacious t (length fs)) one.goes.after (spacious_after s es fs space)) in
      let all = goes_then rules showing {u = state INACTIVE rest.hold} {fs = es} {gs = fs} refl one.goes rest.goes in
      record {
        hold = rest.hold;
        opened = rest.opened;
        goes =
            record {
              after = all.after;
              news = all.news ∙ sym (map-append (shown_by showing) segment.cltus (all_cltus sent));
              reports = all.reports ∙ sym (map-append report_of segment.cltus (all_cltus sent));
            };
      }

-- the lines that come of CLTUs
module _ (randomizer : Randomizer) where
  tells_sent : (cs : List SentCltu) → reports_among (flat_map (lines_of_cltu randomizer) cs) ≡ map report_of cs
  tells_sent [] = refl
  tells_sent (c ∷ cs) = ap (λ l. report_of c ∷ l) (tells_sent cs)

  shows_sent : (cs : List SentCltu) → frames_among (flat_map (lines_of_cltu randomizer) cs) ≡ map (shown_by (showing_for randomizer)) cs
  shows_sent [] = refl
  shows_sent (c ∷ cs) = ap₂ ◌∷◌ (sym (shown_for randomizer c.information)) (shows_sent cs)

  sent_in_order : (cs : List SentCltu) → AFrameBehindEachClosed false (flat_map (lines_of_cltu randomizer) cs)
  sent_in_order [] = refl
  sent_in_order (c ∷ cs) = (refl, (refl, sent_in_order cs))

  nowhere_sent : (cs : List SentCltu) → map without_place (flat_map (lines_of_cltu randomizer) cs) ≡ flat_map (lines_of_cltu randomizer) cs
  nowhere_sent [] = refl
  nowhere_sent (c ∷ cs) = ap (λ l. anywhere (report_of c) ∷ frame_line (taken_off randomizer c.information) ∷ l) (nowhere_sent cs)

module _ (setup : Setup) (view : View) (enough : (rules_for setup).limit ≤ setup.cells) where
  pub what_is_sent_is_written : (sent : List SentSegment) (text : List ℕ) → AllByRecursion (AllArriveWithin (rules_for setup)) sent → IsTextOf setup view (map segment_of sent) text →
      TextApartFromPlaces view (lines_of_sent setup.randomizer sent) text
  what_is_sent_is_written sent text within is =
      let r = setup.randomizer in
      let events = pass_events (map segment_of sent) in
      let all = segments_come (rules_for setup) (showing_for r) sent (ready_for events).held within refl (refl, omega arith) in
      let cs = all_cltus sent in
      let as_if = is.are.never_filled enough in
      apart_from_places view is.lines (lines_of_sent r sent) text is.written (nowhere_sent r cs) is.are.order (sent_in_order r cs)
      (as_if.reports ∙ all.goes.reports ∙ sym (tells_sent r cs)) (as_if.frames ∙ all.goes.news ∙ sym (shows_sent r cs))

-- ---- a frame alone

-- none wrong where none may be
none_wrong : (octets : List ℕ) (blocks : List (List Bool)) → BlocksWithin Detecting octets blocks → wrong_in octets blocks ≡ 0
none_wrong octets [] within = refl
none_wrong octets (block ∷ blocks) within = omega (arith, within.1, none_wrong _ blocks within.2)

alone : Randomizer → List ℕ → SentSegment
alone randomizer frame =
    record {
      cltus = record { first = true; bits = 0; information = randomized randomizer (filled frame); received = undamaged randomizer frame } ∷ [];
      first = true;
      bits = 0;
    }

pub an_undamaged_frame_is_written : (setup : Setup) (view : View) (enough : (rules_for setup).limit ≤ setup.cells) (randomizer : Randomizer) (frame text : List ℕ) →
    AllBelowBase 256 frame → 1 ≤ length frame → codeblocks_for (length frame) ≤ (rules_for setup).limit →
    IsTextOf setup view (bits_of (cltu randomizer frame) ∷ []) text → TextApartFromPlaces view (lines_alone setup.randomizer randomizer frame) text
unfolding alone
an_undamaged_frame_is_written setup view enough randomizer frame text octets some few is =
    let rules = rules_for setup in
    let information = randomized randomizer (filled frame) in
    let received = undamaged randomizer frame in
    let sound = as_sent_is_within_the_allowance rules randomizer frame octets some few in
    let exact = as_sent_is_within_the_allowance (settings Detecting rules.limit) randomizer frame octets some few in
    let symbols : bits_of (cltu randomizer frame) ≡ symbols_of received ++ [] = sym sound.1 ∙ sym (append-nil (symbols_of received)) in
    let within : ArrivesWithin rules (record { first = true; bits = 0; information = information; received = received }) =
    record { octets = octets_stay_octets randomizer 0 (filled frame) (under_filled frame octets); within = sound.0 } in
    let last = frame_line (taken_off setup.randomizer information) in
    subst (λ lines. TextApartFromPlaces view lines text)
    (ap₂ (λ m k. anywhere (report Closed m k) ∷ last ∷ []) sound.2 (none_wrong information received.blocks exact.0.blocks_right))
    (what_is_sent_is_written setup view enough (alone randomizer frame ∷ []) text ((within, tt), tt) (subst (λ l. IsTextOf setup view (l ∷ []) text) symbols is))

-- the text of the one list of segments that octets are a record of
pub answers_of : (setup : Setup) (view : View) (octets text : List ℕ) (segments : List (List Bool)) → IsRecord octets segments → OneListOfSegments octets → IsTextOf setup view segments text →
    Answers setup view octets text
answers_of setup view octets text segments record_of one is =
    let is_of = λ (other : List (List Bool)) (record_too : IsRecord octets other). subst (λ l. IsTextOf setup view l text) (one segments other record_of record_too) is in
    record {
      read = is_of;
      sent = λ sent enough within record_too. what_is_sent_is_written setup view enough sent text within (is_of (map segment_of sent) record_too);
      alone = λ randomizer frame enough below some few record_too.
          an_undamaged_frame_is_written setup view enough randomizer frame text below some few (is_of (bits_of (cltu randomizer frame) ∷ []) record_too);
      refused = λ none. absurd (none segments record_of);
    }
