-- What is heard is received. Assumes nothing.
use Rattle.std.proofs.Common.{◌≡◌, ℕ, ◌+◌, ◌≤◌, Bool, true, false, List, [], ◌∷◌, ◌++◌, map, length, Some, None, Option, sym, refl, ap, ap₂, ◌∙◌, subst, append_assoc, append-nil, arith}
use Rattle.std.specs.Int.Digits.{AllBelowBase}
use Rattle.std.specs.List.{flat_map, AllByRecursion}
use Rattle.std.proofs.lemmas.List.{map-append, replicate-append-replicate}
use Rattle.bch.specs.Bits.{bits_of}
use Rattle.randomizer.specs.declared.Randomizer.{Randomizer}
use Rattle.randomizer.specs.Sequence.{randomized}
use Rattle.cltu.specs.Cltu.{codeblocks_for, filled, cltu}
use Rattle.cltu.proofs.Places.{length_sent}
use Rattle.hold.specs.Candidates.{Candidate, Showing, Matches, finished_codeblocks}
use Rattle.reception.specs.Decoding.{Settings, Held, room}
use Rattle.reception.specs.Rules.{Phase, INACTIVE, SEARCH, DECODE, State, state, Event, carrier_up, carrier_down, symbol, made}
use Rattle.reception.specs.Runs.{after_events, symbols_in, CarrierStaysUp, Clear}
use Rattle.reception.specs.Allowance.{undamaged}
use Rattle.reception.specs.Finished.{new_candidates}
use Rattle.reception.specs.Gaps.{CarrierStaysDown}
use Rattle.reception.specs.Sent.{as_shown, Transmission, WellSent}
use Rattle.reception.proofs.Brings.{after_append, new_append}
use Rattle.reception.proofs.Decoding.{length_shown_from}
use Rattle.reception.proofs.Finished.{run_keeps}
use Rattle.reception.proofs.Kept.{KeptState, kept_from_making, none_open_in_inactive}
use Rattle.reception.proofs.Sent.{idle_gap, away_comes, one_well_sent, under_filled, shown_back}
use Rattle.reception.proofs.Undamaged.{as_sent_is_within_the_allowance}
use Rattle.procedures.specs.Stretch.{idle_octet, repeated, idle_behind, Parameters, sent_octets, Writing, idles, sends, octets_in, stretch_octets, frames_in}
use Rattle.procedures.specs.Signals.{Signal, goes_up, bit, goes_down, signals_of_octets, SentStretch, Stretches, frames_of_closed, frames_of_opened, frames_on, PlacedCltu, closed_signals, signals_of_opened, cltus_in, cltus_of, cltus_of_closed, cltus_of_opened, heard, up_after}
use Rattle.procedures.specs.Reception.{FramesWithin, codeblocks_of, ReceivedStretch, events_of_stretch, BroughtUndamaged, frames_of, as_sent, one_open, Adds, SpaceAt, SpaceInTime, EndsIn, WhatIsHeardInTimeIsReceived, SpaceForAllIsSpaceInTime, AStretchInTimeIsReceived, AStretchIsReceived, ASessionInTimeIsReceived, ASessionIsReceived, SessionPromise, AHigherLimitTakesTheSameFrames}
use Rattle.procedures.proofs.Hearing.{signals_append, heard_append, up_append, symbols_heard, heard_up, heard_down, stays_down, stays_up, goes_up_at, goes_down_at, more_heard, none_heard}
use Rattle.procedures.proofs.Stretches.{idle_events, repeated_on, cltu_first, a_stretch_is_cltus_with_idle_between}
use Rattle.procedures.proofs.Rooms.{room_left, capacity_stays}
use Rattle.procedures.proofs.Seen.{space_seen_is_space_at}

pub within_both : (limit : ℕ) (frames others : List (List ℕ)) → FramesWithin limit frames → FramesWithin limit others → FramesWithin limit (frames ++ others)
within_both limit [] others within more = more
within_both limit (frame ∷ frames) others within more = (within.0, within.1, within.2, within_both limit frames others within.3 more)

within_front : (limit : ℕ) (frames others : List (List ℕ)) → FramesWithin limit (frames ++ others) → FramesWithin limit frames
within_front limit [] others within = tt
within_front limit (frame ∷ frames) others within = (within.0, within.1, within.2, within_front limit frames others within.3)

within_back : (limit : ℕ) (frames others : List (List ℕ)) → FramesWithin limit (frames ++ others) → FramesWithin limit others
within_back limit [] others within = within
within_back limit (frame ∷ frames) others within = within_back limit frames others within.3

codeblocks_of_both : (frames others : List (List ℕ)) → codeblocks_of (frames ++ others) ≡ codeblocks_of frames + codeblocks_of others
codeblocks_of_both [] others = omega arith
codeblocks_of_both (frame ∷ frames) others = omega (arith, codeblocks_of_both frames others)

all_front : {X : Type 0} (P : X → Type 0) (xs ys : List X) → AllByRecursion P (xs ++ ys) → AllByRecursion P xs
all_front P [] ys all = tt
all_front P (x ∷ xs) ys all = (all.0, all_front P xs ys all.1)

all_back : {X : Type 0} (P : X → Type 0) (xs ys : List X) → AllByRecursion P (xs ++ ys) → AllByRecursion P ys
all_back P [] ys all = all
all_back P (x ∷ xs) ys all = all_back P xs ys all.1

all_both : {X : Type 0} (P : X → Type 0) (xs ys : List X) → AllByRecursion P xs → AllByRecursion P ys → AllByRecursion P (xs ++ ys)
all_both P [] ys all more = more
all_both P (x ∷ xs) ys all more = (all.0, all_both P xs ys all.1 more)

none_open : (p : Phase) (h : Held) → Clear p h → h.opened ≡ None
none_open INACTIVE h clear = absurd clear
none_open (SEARCH count window) h clear = clear.0
none_open (DECODE r) h clear = absurd clear

module _ (settings : Settings) (showing : Showing) (randomizer : Randomizer) where
  abbrev run : State → List Event → State
  run = after_events settings showing

  abbrev news : State → List Event → List Candidate
  news = new_candidates settings showing

  abbrev shown : List ℕ → Candidate
  shown frame = as_shown showing randomizer frame

  abbrev ClearState : State → Type 0
  ClearState s = Clear s.phase s.held

  codeblocks_shown : (frame : List ℕ) → finished_codeblocks (shown frame ∷ []) ≡ codeblocks_for (length frame)
  codeblocks_shown frame = omega (arith, length_shown_from showing 0 (randomized randomizer (filled frame)), length_sent randomizer frame)

  codeblocks_of_shown : (frames : List (List ℕ)) → finished_codeblocks (map shown frames) ≡ codeblocks_of frames
  codeblocks_of_shown [] = refl
  codeblocks_of_shown (frame ∷ frames) = omega (arith, codeblocks_shown frame, codeblocks_of_shown frames)

  as_filled : (frames : List (List ℕ)) → FramesWithin settings.limit frames → Matches showing randomizer → map shown frames ≡ map filled frames
  as_filled [] within matches = refl
  as_filled (frame ∷ frames) within matches = ap₂ ◌∷◌ (shown_back showing randomizer matches 0 (filled frame) (under_filled frame within.0)) (as_filled frames within.3 matches)

  pub adds : (frames : List (List ℕ)) (s : State) (es : List Event) → KeptState settings.limit s → FramesWithin settings.limit frames → news s es ≡ map shown frames → Adds settings showing randomizer frames s es
  adds frames s es kept within new = record { shown = new; filled_frames = λ matches. new ∙ as_filled frames within matches; added = run_keeps settings showing s es kept }

  -- an undamaged CLTU that is given space
  well_sent : (s : State) (t : Transmission) → t.received ≡ undamaged randomizer t.frame → CarrierStaysUp t.events → symbols_in t.events ≡ bits_of (cltu randomizer t.frame) →
      AllBelowBase 256 t.frame → 1 ≤ length t.frame → codeblocks_for (length t.frame) ≤ settings.limit → codeblocks_for (length t.frame) ≤ room s.held → WellSent settings showing randomizer s t
  well_sent s t is up symbols octets some few space =
      let sent = as_sent_is_within_the_allowance settings randomizer t.frame octets some few in
      subst (λ r. WellSent settings showing randomizer s (record { gap = t.gap; frame = t.frame; received = r; events = t.events })) (sym is)
      (record { octets = octets; carrier = up; symbols = symbols ∙ sym sent.1; within = sent.0; space = omega (arith, sent.2) })

module _ (settings : Settings) (showing : Showing) (parameters : Parameters) (start : State) (all : List Event) where
  abbrev r : Randomizer
  r = parameters.randomizer

  abbrev from_start : List Event → State
  from_start = after_events settings showing start

  abbrev Space : PlacedCltu → Type 0
  Space = SpaceAt settings showing r start all

  -- from the start these frames were added, and no candidate is open
  pub record In (frames : List (List ℕ)) (es : List Event) : Type 0 where
    pub clear : ClearState settings showing r (from_start es)
    pub new : new_candidates settings showing start es ≡ map (shown settings showing r) frames

  -- what is known behind events that were heard
  pub record Known (p : Phase) (up : Bool) (done : List Event) (h : Held) (earlier : List (List ℕ)) (before : List Signal) : Type 0 where
    pub at : from_start done ≡ state p h
    pub none : h.opened ≡ None
    pub signals : heard false done ≡ before
    pub carrier : up_after false done ≡ up
    pub new : new_candidates settings showing start done ≡ map (shown settings showing r) earlier
    pub within : FramesWithin settings.limit earlier

  -- more idle behind signals that end with idle
  more_idle : (before until : List Signal) (a b : ℕ) → before ++ signals_of_octets (repeated parameters.idle a) ≡ until →
      before ++ signals_of_octets (repeated parameters.idle (a + b)) ≡ until ++ signals_of_octets (repeated parameters.idle b)
  more_idle before until a b e =
      let own = repeated parameters.idle a in
      let more = repeated parameters.idle b in
      ap (λ l. before ++ signals_of_octets l) (sym (replicate-append-replicate a b (idle_octet parameters.idle)))
      ∙ ap (λ l. before ++ l) (signals_append own more) ∙ sym (append_assoc before (signals_of_octets own) (signals_of_octets more)) ∙ ap (λ l. l ++ signals_of_octets more) e

  -- what is left of a stretch, behind what was heard of it, with so many idle octets first
  inside : (writings : List Writing) (idle : ℕ) (done events rest es : List Event) (h : Held) (earlier : List (List ℕ)) (before until : List Signal) →
      KeptState settings.limit start → es ≡ done ++ events → all ≡ es ++ rest → Known (SEARCH 0 0) true done h earlier before → before ++ signals_of_octets (repeated parameters.idle idle) ≡ until →
      CarrierStaysUp events → symbols_in events ≡ bits_of (repeated parameters.idle idle ++ flat_map (octets_in parameters) writings) → FramesWithin settings.limit (frames_in writings) →
      AllByRecursion Space (cltus_in parameters until earlier writings) → In (earlier ++ frames_in writings) es
  inside [] idle done events rest es h earlier before until kept is whole known until-is up symbols few space =
      let w = idle_gap settings showing events h known.none (idle_events parameters.idle idle events up (symbols ∙ ap bits_of (append-nil (repeated parameters.idle idle)))) in
      let there = ap from_start is ∙ after_append settings showing done events start ∙ ap (λ u. after_events settings showing u events) known.at ∙ w.after in
      record {
        clear = subst (ClearState settings showing r) (sym there) (w.opened, (w.next, w.calm));
        new = ap (new_candidates settings showing start) is ∙ new_append settings showing done events start ∙ ap₂ ◌++◌ known.new (ap (λ u. new_candidates settings showing u events) known.at ∙ w.new)
            ∙ sym (map-append (shown settings showing r) earlier []);
      }
  inside (idles octets ∷ writings) idle done events rest es h earlier before until kept is whole known until-is up symbols few space =
      inside writings (idle + octets) done events rest es h earlier before (until ++ signals_of_octets (repeated parameters.idle octets)) kept is whole known
      (more_idle before until idle octets until-is) up (symbols ∙ ap bits_of (repeated_on parameters.idle idle octets (flat_map (octets_in parameters) writings))) few space
  inside (sends frame ∷ writings) idle done events rest es h earlier before until kept is whole known until-is up symbols few space =
      let more = flat_map (octets_in parameters) writings in
      let c = cltu_first parameters frame idle more events up symbols in
      let own = cltu r frame in
      let tail = repeated parameters.idle (idle_behind parameters.plop) in
      let to_first = done ++ c.gap in
      let gap = idle_gap settings showing c.gap h known.none (idle_events parameters.idle idle c.gap c.gap_up c.gap_symbols) in
      let at = after_append settings showing done c.gap start ∙ ap (λ u. after_events settings showing u c.gap) known.at ∙ gap.after in
      let new = new_append settings showing done c.gap start ∙ ap₂ ◌++◌ known.new (ap (λ u. new_candidates settings showing u c.gap) known.at ∙ gap.new) ∙ append-nil (map (shown settings showing r) earlier) in
      let calm : ClearState settings showing r (from_start to_first) = subst (ClearState settings showing r) (sym at) (gap.opened, (gap.next, gap.calm)) in
      let hears = more_heard done c.gap before (bits_of (repeated parameters.idle idle)) known.signals known.carrier c.gap_up c.gap_symbols in
      let parted = whole ∙ ap (λ l. l ++ rest) (is ∙ ap (λ l. done ++ l) c.begins ∙ sym (append_assoc done c.gap (symbol c.first ∷ c.later))) ∙ append_assoc to_first (symbol c.first ∷ c.later) rest in
      let fits = space.0 to_first (c.later ++ rest) c.first parted (hears.0 ∙ until-is) calm (adds settings showing r earlier start to_first kept known.within new) in
      let t : Transmission = record { gap = c.gap; frame = frame; received = undamaged r frame; events = c.own } in
      let well = well_sent settings showing r (from_start to_first) t refl c.up c.symbols few.0 few.1 few.2 fits in
      let one = one_well_sent settings showing r (from_start to_first) gap.next gap.count gap.window gap.hold t at gap.opened gap.calm well in
      let hears-own = more_heard to_first c.own until (bits_of own) (hears.0 ∙ until-is) hears.1 c.up c.symbols in
      let came : from_start (to_first ++ c.own) ≡ state (SEARCH 0 0) one.hold = after_append settings showing to_first c.own start ∙ one.goes.after in
      let behind : Known (SEARCH 0 0) true (to_first ++ c.own) one.hold (earlier ++ frame ∷ []) (until ++ signals_of_octets own) =
      record {
        at = came;
        none = one.opened;
        signals = hears-own.0;
        carrier = hears-own.1;
        new = new_append settings showing to_first c.own start ∙ ap₂ ◌++◌ new one.goes.news ∙ sym (map-append (shown settings showing r) earlier (frame ∷ []));
        within = within_both settings.limit earlier (frame ∷ []) known.within (few.0, few.1, few.2, tt);
      } in
      let last = inside writings (idle_behind parameters.plop) (to_first ++ c.own) c.behind rest es one.hold (earlier ++ frame ∷ []) (until ++ signals_of_octets own) (until ++ signals_of_octets (own ++ tail)) kept
      (is ∙ ap (λ l. done ++ l) c.whole ∙ sym (append_assoc done c.gap (c.own ++ c.behind)) ∙ sym (append_assoc to_first c.own c.behind)) whole behind
      (append_assoc until (signals_of_octets own) (signals_of_octets tail) ∙ ap (λ l. until ++ l) (sym (signals_append own tail))) c.stays c.rest few.3 space.1 in
      subst (λ frames. In frames es) (append_assoc earlier (frame ∷ []) (frames_in writings)) last

  -- the carrier goes up
  pub record Up (done : List Event) (earlier : List (List ℕ)) (before : List Signal) : Type 0 where
    pub hold : Held
    pub known : Known (SEARCH 0 0) true done hold earlier before

  comes_up : (done away : List Event) (h : Held) (earlier : List (List ℕ)) (before : List Signal) → Known INACTIVE false done h earlier before → CarrierStaysDown away →
      Up (done ++ (away ++ (carrier_up ∷ []))) earlier (before ++ (goes_up ∷ []))
  comes_up done away h earlier before known down =
      let w = away_comes settings showing away h down in
      let own = heard_down away down in
      let es = away ++ (carrier_up ∷ []) in
      record {
        hold = w.hold;
        known =
            record {
              at = after_append settings showing done es start ∙ ap (λ u. after_events settings showing u es) known.at ∙ after_append settings showing away (carrier_up ∷ []) (state INACTIVE h)
                  ∙ ap (λ u. after_events settings showing u (carrier_up ∷ [])) w.after;
              none = w.opened ∙ known.none;
              signals = none_heard done es before known.signals known.carrier (goes_up ∷ []) (heard_append false away (carrier_up ∷ []) ∙ ap₂ ◌++◌ own.0 (ap (λ u. heard u (carrier_up ∷ [])) own.1));
              carrier = up_append false done es ∙ up_append (up_after false done) away (carrier_up ∷ []);
              new = new_append settings showing done es start
                  ∙ ap₂ ◌++◌ known.new (ap (λ u. new_candidates settings showing u es) known.at ∙ new_append settings showing away (carrier_up ∷ []) (state INACTIVE h)
                  ∙ ap₂ (λ (l : List Candidate) (u : State). l ++ new_candidates settings showing u (carrier_up ∷ [])) w.new w.after)
                  ∙ append-nil (map (shown settings showing r) earlier);
              within = known.within;
            };
      }

  -- and down
  pub record Down (s : State) : Type 0 where
    pub hold : Held
    pub after : after_events settings showing s (carrier_down ∷ []) ≡ state INACTIVE hold
    pub none : hold.opened ≡ None
    pub new : new_candidates settings showing s (carrier_down ∷ []) ≡ []

  comes_down : (s : State) → ClearState settings showing r s → Down s
  comes_down s clear = by s.phase s.held clear
    where
      by : (p : Phase) (h : Held) → Clear p h → Down (state p h)
      by INACTIVE h c = absurd c
      by (SEARCH count window) h c = record { hold = h; after = refl; none = c.0; new = refl }
      by (DECODE reading) h c = absurd c

  regroup : (done away behind : List Event) (e : Event) → done ++ (away ++ (e ∷ behind)) ≡ (done ++ (away ++ (e ∷ []))) ++ behind
  regroup done away behind e = sym (append_assoc done (away ++ (e ∷ [])) behind ∙ ap (λ l. done ++ l) (append_assoc away (e ∷ []) behind))

  pub record Through (opened : Option SentStretch) (frames : List (List ℕ)) : Type 0 where
    pub ends : EndsIn settings showing opened (from_start all)
    pub new : new_candidates settings showing start all ≡ map (shown settings showing r) frames

  -- a stretch, from where the carrier goes up
  one_stretch : (one : SentStretch) (done during rest es : List Event) (earlier : List (List ℕ)) (before : List Signal) → KeptState settings.limit start → es ≡ done ++ during → all ≡ es ++ rest →
      Up done earlier (before ++ (goes_up ∷ [])) → CarrierStaysUp during → symbols_in during ≡ bits_of (stretch_octets parameters one.acquisition one.writings) → FramesWithin settings.limit (frames_in one.writings) →
      AllByRecursion Space (cltus_of parameters before earlier one) → In (earlier ++ frames_in one.writings) es
  one_stretch one done during rest es earlier before kept is whole up stays symbols few space =
      let own = signals_of_octets (repeated parameters.idle one.acquisition) in
      inside one.writings one.acquisition done during rest es up.hold earlier (before ++ (goes_up ∷ [])) (before ++ (goes_up ∷ own)) kept is whole up.known (append_assoc before (goes_up ∷ []) own) stays symbols few space

  through : (closed : List SentStretch) (opened : Option SentStretch) (done events : List Event) (h : Held) (earlier before-open : List (List ℕ)) (before until : List Signal) → KeptState settings.limit start →
      all ≡ done ++ events → Known INACTIVE false done h earlier before → heard false events ≡ flat_map (closed_signals parameters) closed ++ signals_of_opened parameters opened →
      FramesWithin settings.limit (frames_of_closed closed) → FramesWithin settings.limit (frames_of_opened opened) → AllByRecursion Space (cltus_of_closed parameters before earlier closed) →
      until ≡ before ++ flat_map (closed_signals parameters) closed → before-open ≡ earlier ++ frames_of_closed closed → AllByRecursion Space (cltus_of_opened parameters until before-open opened) →
      Through opened (earlier ++ (frames_of_closed closed ++ frames_of_opened opened))
  through [] None done events h earlier before-open before until kept whole known hears few few-open space until-is open-is space-open =
      let w = away_comes settings showing events h (stays_down events hears) in
      let there = ap from_start whole ∙ after_append settings showing done events start ∙ ap (λ u. after_events settings showing u events) known.at ∙ w.after in
      record {
        ends = ap (λ u. u.phase) there;
        new = ap (new_candidates settings showing start) whole ∙ new_append settings showing done events start ∙ ap₂ ◌++◌ known.new (ap (λ u. new_candidates settings showing u events) known.at ∙ w.new)
            ∙ sym (map-append (shown settings showing r) earlier []);
      }
  through [] (Some one) done events h earlier before-open before until kept whole known hears few few-open space until-is open-is space-open =
      let g = goes_up_at events _ hears in
      let stays = stays_up g.behind (bits_of (stretch_octets parameters one.acquisition one.writings)) g.rest in
      let up = done ++ (g.away ++ (carrier_up ∷ [])) in
      let here = subst (λ l. AllByRecursion Space l) (ap₂ (λ (b : List Signal) (e : List (List ℕ)). cltus_of parameters b e one) (until-is ∙ append-nil before) (open-is ∙ append-nil earlier)) space-open in
      let own = one_stretch one up g.behind [] all earlier before kept (whole ∙ ap (λ l. done ++ l) g.whole ∙ regroup done g.away g.behind carrier_up) (sym (append-nil all))
      (comes_up done g.away h earlier before known g.down) stays.0 stays.1 few-open here in
      record { ends = own.clear; new = own.new }
  through (one ∷ more) opened done events h earlier before-open before until kept whole known hears few few-open space until-is open-is space-open =
      let own = signals_of_octets (stretch_octets parameters one.acquisition one.writings) in
      let behind = flat_map (closed_signals parameters) more in
      let last = signals_of_opened parameters opened in
      let g = goes_up_at events _ hears in
      let d = goes_down_at g.behind (bits_of (stretch_octets parameters one.acquisition one.writings)) (behind ++ last)
      (g.rest ∙ ap (λ l. l ++ last) (append_assoc own (goes_down ∷ []) behind) ∙ append_assoc own (goes_down ∷ behind) last) in
      let up = done ++ (g.away ++ (carrier_up ∷ [])) in
      let es = up ++ d.during in
      let rest = carrier_down ∷ d.behind in
      let parted = whole ∙ ap (λ l. done ++ l) g.whole ∙ regroup done g.away g.behind carrier_up ∙ ap (λ l. up ++ l) d.whole ∙ sym (append_assoc up d.during rest) in
      let is-up = comes_up done g.away h earlier before known g.down in
      let frames = frames_in one.writings in
      let its = cltus_of parameters before earlier one in
      let others = cltus_of_closed parameters (before ++ closed_signals parameters one) (earlier ++ frames) more in
      let few-one = within_front settings.limit frames (frames_of_closed more) few in
      let inner = one_stretch one up d.during rest es earlier before kept refl parted is-up d.up d.symbols few-one (all_front Space its others space) in
      let down = comes_down (from_start es) inner.clear in
      let hears-own = more_heard up d.during (before ++ (goes_up ∷ [])) (bits_of (stretch_octets parameters one.acquisition one.writings)) is-up.known.signals is-up.known.carrier d.up d.symbols in
      let known-next : Known INACTIVE false (es ++ (carrier_down ∷ [])) down.hold (earlier ++ frames) (before ++ closed_signals parameters one) =
      record {
        at = after_append settings showing es (carrier_down ∷ []) start ∙ down.after;
        none = down.none;
        signals = heard_append false es (carrier_down ∷ []) ∙ ap₂ ◌++◌ hears-own.0 (ap (λ u. heard u (carrier_down ∷ [])) hears-own.1) ∙ append_assoc (before ++ (goes_up ∷ [])) own (goes_down ∷ []) ∙ append_assoc before (goes_up ∷ []) (own ++ (goes_down ∷ []));
        carrier = up_append false es (carrier_down ∷ []);
        new = new_append settings showing es (carrier_down ∷ []) start ∙ ap₂ ◌++◌ inner.new down.new ∙ append-nil (map (shown settings showing r) (earlier ++ frames));
        within = within_both settings.limit earlier frames known.within few-one;
      } in
      let next = through more opened (es ++ (carrier_down ∷ [])) d.behind down.hold (earlier ++ frames) before-open (before ++ closed_signals parameters one) until kept
      (parted ∙ sym (append_assoc es (carrier_down ∷ []) d.behind)) known-next d.rest (within_back settings.limit frames (frames_of_closed more) few) few-open (all_back Space its others space)
      (until-is ∙ sym (append_assoc before (closed_signals parameters one) behind)) (open-is ∙ sym (append_assoc earlier frames (frames_of_closed more))) space-open in
      subst (λ l. Through opened l) (append_assoc earlier frames (frames_of_closed more ++ frames_of_opened opened) ∙ ap (λ l. earlier ++ l) (sym (append_assoc frames (frames_of_closed more) (frames_of_opened opened)))) next

  -- ---- space for all of them

  space_by_count : (one : PlacedCltu) → KeptState settings.limit start → start.held.opened ≡ None → codeblocks_of one.earlier + codeblocks_for (length one.frame) ≤ room start.held → Space one
  space_by_count one kept none few before after b parted hears clear added =
      let here = from_start before in
      let left = room_left settings showing start before kept none (none_open here.phase here.held clear) in
      omega (arith, left, ap finished_codeblocks added.shown, codeblocks_of_shown settings showing r one.earlier)

  module _ (kept : KeptState settings.limit start) (none : start.held.opened ≡ None) where
    space_in : (writings : List Writing) (before : List Signal) (earlier : List (List ℕ)) → codeblocks_of earlier + codeblocks_of (frames_in writings) ≤ room start.held →
        AllByRecursion Space (cltus_in parameters before earlier writings)
    space_in [] before earlier few = tt
    space_in (idles octets ∷ writings) before earlier few = space_in writings (before ++ signals_of_octets (repeated parameters.idle octets)) earlier few
    space_in (sends frame ∷ writings) before earlier few = (
      space_by_count (record { before = before; earlier = earlier; frame = frame }) kept none (omega arith),
      space_in writings (before ++ signals_of_octets (sent_octets parameters frame)) (earlier ++ frame ∷ []) (omega (arith, codeblocks_of_both earlier (frame ∷ []))),
    )

    space_closed : (closed : List SentStretch) (before : List Signal) (earlier : List (List ℕ)) → codeblocks_of earlier + codeblocks_of (frames_of_closed closed) ≤ room start.held →
        AllByRecursion Space (cltus_of_closed parameters before earlier closed)
    space_closed [] before earlier few = tt
    space_closed (one ∷ more) before earlier few =
        let frames = frames_in one.writings in
        let both = codeblocks_of_both frames (frames_of_closed more) in
        all_both Space (cltus_of parameters before earlier one) (cltus_of_closed parameters (before ++ closed_signals parameters one) (earlier ++ frames) more)
        (space_in one.writings (before ++ (goes_up ∷ signals_of_octets (repeated parameters.idle one.acquisition))) earlier (omega (arith, both)))
        (space_closed more (before ++ closed_signals parameters one) (earlier ++ frames) (omega (arith, both, codeblocks_of_both earlier frames)))

    space_opened : (opened : Option SentStretch) (before : List Signal) (earlier : List (List ℕ)) → codeblocks_of earlier + codeblocks_of (frames_of_opened opened) ≤ room start.held →
        AllByRecursion Space (cltus_of_opened parameters before earlier opened)
    space_opened None before earlier few = tt
    space_opened (Some one) before earlier few = space_in one.writings (before ++ (goes_up ∷ signals_of_octets (repeated parameters.idle one.acquisition))) earlier few

    pub space_for_both : (on : Stretches) → codeblocks_of (frames_on on) ≤ room start.held → SpaceInTime settings showing parameters start all on
    space_for_both on few =
        let both = codeblocks_of_both (frames_of_closed on.closed) (frames_of_opened on.opened) in
        all_both Space (cltus_of_closed parameters [] [] on.closed) (cltus_of_opened parameters (flat_map (closed_signals parameters) on.closed) (frames_of_closed on.closed) on.opened)
        (space_closed on.closed [] [] (omega (arith, both)))
        (space_opened on.opened (flat_map (closed_signals parameters) on.closed) (frames_of_closed on.closed) (omega (arith, both)))

module _ (settings : Settings) (showing : Showing) where
  pub what_is_heard_in_time_is_received : WhatIsHeardInTimeIsReceived settings showing
  what_is_heard_in_time_is_received parameters on hold earlier events inactive hears few space =
      let then = after_events settings showing (made hold) earlier in
      let kept = kept_from_making settings showing hold earlier in
      let closed = cltus_of_closed parameters [] [] on.closed in
      let opened = cltus_of_opened parameters (flat_map (closed_signals parameters) on.closed) (frames_of_closed on.closed) on.opened in
      let P = SpaceAt settings showing parameters.randomizer then events in
      let known : Known settings showing parameters then events INACTIVE false [] then.held [] [] =
      record { at = ap (λ p. state p then.held) inactive; none = none_open_in_inactive settings showing hold earlier inactive; signals = refl; carrier = refl; new = refl; within = tt } in
      let both = through settings showing parameters then events on.closed on.opened [] events then.held [] (frames_of_closed on.closed) [] (flat_map (closed_signals parameters) on.closed) kept refl known hears
      (within_front settings.limit (frames_of_closed on.closed) (frames_of_opened on.opened) few) (within_back settings.limit (frames_of_closed on.closed) (frames_of_opened on.opened) few)
      (all_front P closed opened space) refl refl (all_back P closed opened space) in
      (both.ends, adds settings showing parameters.randomizer (frames_on on) then events kept few both.new)

  pub space_for_all_is_space_in_time : SpaceForAllIsSpaceInTime settings showing
  space_for_all_is_space_in_time parameters on hold earlier events inactive few =
      space_for_both settings showing parameters (after_events settings showing (made hold) earlier) events (kept_from_making settings showing hold earlier) (none_open_in_inactive settings showing hold earlier inactive) on few

  pub a_stretch_in_time_is_received : AStretchInTimeIsReceived settings showing
  a_stretch_in_time_is_received parameters acquisition writings hold earlier later inactive up symbols few space =
      what_is_heard_in_time_is_received parameters (one_open acquisition writings) hold earlier (carrier_up ∷ later) inactive
      (ap (λ l. goes_up ∷ l) ((heard_up later up).0 ∙ ap (map bit) symbols)) few space

  pub a_stretch_is_received : AStretchIsReceived settings showing
  a_stretch_is_received parameters acquisition writings hold earlier later inactive up symbols few space =
      a_stretch_in_time_is_received parameters acquisition writings hold earlier later inactive up symbols few
      (space_for_all_is_space_in_time parameters (one_open acquisition writings) hold earlier (carrier_up ∷ later) inactive space)

  -- ---- a session of closed stretches

  frames_sent : (stretches : List ReceivedStretch) → frames_on (as_sent stretches) ≡ frames_of stretches
  frames_sent [] = refl
  frames_sent (one ∷ more) = append_assoc (frames_in one.writings) (frames_of_closed (as_sent more).closed) [] ∙ ap (λ l. frames_in one.writings ++ l) (frames_sent more)

  session_heard : (parameters : Parameters) (stretches : List ReceivedStretch) → BroughtUndamaged parameters stretches →
      heard false (flat_map events_of_stretch stretches) ≡ flat_map (closed_signals parameters) (as_sent stretches).closed
  session_heard parameters [] brought = refl
  session_heard parameters (one ∷ more) brought =
      let own = heard_up one.during brought.0 in
      let gone = heard_down one.away brought.2 in
      let behind = flat_map events_of_stretch more in
      let rest = heard_append false one.away behind ∙ ap₂ ◌++◌ gone.0 (ap (λ u. heard u behind) gone.1 ∙ session_heard parameters more brought.3) in
      ap (λ l. goes_up ∷ l) (
      ap (heard true) (append_assoc one.during (carrier_down ∷ one.away) behind) ∙ heard_append true one.during (carrier_down ∷ (one.away ++ behind))
      ∙ ap₂ ◌++◌ (own.0 ∙ ap (map bit) brought.1) (ap (λ u. heard u (carrier_down ∷ (one.away ++ behind))) own.1 ∙ ap (λ l. goes_down ∷ l) rest)
      ∙ sym (append_assoc (signals_of_octets (stretch_octets parameters one.acquisition one.writings)) (goes_down ∷ []) (flat_map (closed_signals parameters) (as_sent more).closed))
      )

  pub a_session_in_time_is_received : ASessionInTimeIsReceived settings showing
  a_session_in_time_is_received parameters stretches hold earlier inactive brought few space =
      let frames = frames_sent stretches in
      let then = after_events settings showing (made hold) earlier in
      let events = flat_map events_of_stretch stretches in
      let both = what_is_heard_in_time_is_received parameters (as_sent stretches) hold earlier events inactive
      (session_heard parameters stretches brought ∙ sym (append-nil (flat_map (closed_signals parameters) (as_sent stretches).closed)))
      (subst (λ l. FramesWithin settings.limit l) (sym frames) few) space in
      (both.0, subst (λ l. Adds settings showing parameters.randomizer l then events) frames both.1)

  pub a_session_is_received : ASessionIsReceived settings showing
  a_session_is_received parameters stretches hold earlier inactive brought few space =
      a_session_in_time_is_received parameters stretches hold earlier inactive brought few
      (space_for_all_is_space_in_time parameters (as_sent stretches) hold earlier (flat_map events_of_stretch stretches) inactive (omega (arith, space, ap codeblocks_of (frames_sent stretches))))

pub a_higher_limit_takes_the_same_frames : AHigherLimitTakesTheSameFrames
a_higher_limit_takes_the_same_frames limit higher [] more within = tt
a_higher_limit_takes_the_same_frames limit higher (frame ∷ frames) more within =
    (within.0, within.1, omega (arith, within.2), a_higher_limit_takes_the_same_frames limit higher frames more within.3)

pub session_promise : SessionPromise
session_promise =
    record {
      cltus = a_stretch_is_cltus_with_idle_between;
      stretch = a_stretch_is_received;
      stretch_in_time = a_stretch_in_time_is_received;
      session = a_session_is_received;
      session_in_time = a_session_in_time_is_received;
      heard_in_time = what_is_heard_in_time_is_received;
      space_for_all = space_for_all_is_space_in_time;
      space_seen = space_seen_is_space_at;
      capacity = capacity_stays;
      higher_limit = a_higher_limit_takes_the_same_frames;
      heard_together = heard_append;
      up_together = up_append;
      heard_symbols = symbols_heard;
    }
