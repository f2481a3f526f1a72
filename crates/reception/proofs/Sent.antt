-- Every list of CLTUs within the allowance is received, with idle, a carrier break or nothing between them. Assumes nothing.
use Rattle.std.proofs.Common.{◌≡◌, ℕ, zero, suc, ◌-◌, ◌*◌, ◌%◌, ◌^◌, ◌≤◌, min, Bool, true, false, not, ◌⊎◌, List, [], ◌∷◌, ◌++◌, map, length, replicate, Some, None, Option, sym, refl, ap, ◌∙◌, subst, ap₂, inl, inr, append-nil, add-zero, mul-one, arith}
use Rattle.std.specs.Int.Digits.{AllBelowBase}
use Rattle.std.specs.List.{flat_map}
use Rattle.bch.specs.Reception.{rejected, verdict}
use Rattle.randomizer.specs.declared.Randomizer.{Randomizer}
use Rattle.randomizer.specs.Sequence.{randomized_from}
use Rattle.randomizer.proofs.Laws.{octets_stay_octets}
use Rattle.cltu.specs.Cltu.{fill_for, filled}
use Rattle.hold.specs.Candidates.{Candidate, Showing, shown_from, Matches, open_codeblocks, after_open, open_after_finish}
use Rattle.reception.specs.declared.Reason.TheVariants.{Closed}
use Rattle.reception.specs.Searching.{next_count, next_window, is_start}
use Rattle.reception.specs.Decoding.{Settings, Held, opening, finishing, room, reading, begun, closing, decoded_by, report}
use Rattle.reception.specs.Rules.{Phase, INACTIVE, SEARCH, DECODE, State, state, Event, carrier_up, carrier_down, symbol, release, at_window, at_decoded, reporting, searching, at_up, made}
use Rattle.reception.specs.declared.Report.{Report}
use Rattle.reception.specs.Runs.{after_events, reports_of, symbols_in, CarrierStaysUp, NothingButIdle, Clear, idle, idle_before}
use Rattle.reception.specs.Allowance.{value, ReceivedCltu, symbols_of, WithinAllowance, wrong_in}
use Rattle.reception.specs.Finished.{announced, new_candidates}
use Rattle.reception.specs.Gaps.{IdleOrNothing, CarrierUpMakesItReady, CarrierStaysDown, CarrierBreak}
use Rattle.reception.specs.Sent.{Transmission, information_sent, events_of, WellSent, FollowOneAnother, SentFrom, WhatIsSentThenIsReceived, AGapBehindLeavesItClear, told_of, WhatIsReceivedIsReported}
use Rattle.reception.proofs.Decoding.{length_shown_from}
use Rattle.reception.proofs.Kept.{none_open_in_inactive}
use Rattle.reception.proofs.Idle.{idle_is_no_start, idle_goes_in}
use Rattle.reception.proofs.Brings.{same_first, Brings, split, Goes, Released, released_none, released_more, after_append, new_append, reports_append, goes_then, word_comes}
use Rattle.reception.proofs.Starts.{Follows}
use Rattle.reception.proofs.Received.{start_comes, blocks_come, room_kept}
use Rattle.reception.proofs.Verdicts.{value_below, tail_is_rejected}

-- a finished candidate leaves none open
none_open : (candidate : Candidate) → 1 ≤ length candidate → open_after_finish (Some candidate) ≡ None
none_open [] some = absurd (omega arith)
none_open (x ∷ xs) some = refl

module _ (settings : Settings) (showing : Showing) where
  -- events that add one candidate, make one report and lead to SEARCH with an empty window
  pub record OneIn (s : State) (candidate : Candidate) (one : Report) (es : List Event) : Type 0 where
    pub hold : Held
    pub goes : Goes settings showing s es (state (SEARCH 0 0) hold) (candidate ∷ []) (one ∷ [])
    pub opened : hold.opened ≡ None

  closed_by : (g : Held) (n m k : ℕ) → n ≡ suc m → at_decoded (closing g n k) ≡ reporting searching (finishing g) (report Closed (suc m) k)
  closed_by g n m k e = ap (λ n. at_decoded (closing g n k)) e

  announces : (o : Option Candidate) (candidate : Candidate) (n k : ℕ) → o ≡ Some candidate → announced o (report Closed n k ∷ []) ≡ candidate ∷ []
  announces o candidate n k e = ap (λ x. announced x (report Closed n k ∷ [])) e

  tail_comes : (xs : List Bool) (es : List Event) (h : Held) (n m k : ℕ) (candidate : Candidate) → Brings xs es → length xs ≡ 64 → verdict settings.mode (value xs) ≡ rejected → h.opened ≡ Some candidate →
      n ≡ suc m → 1 ≤ length candidate → OneIn (state (DECODE (reading 0 0 n k)) h) candidate (report Closed (suc m) k) es
  tail_comes xs es h n m k candidate br long rejected opened counted some =
      let w = word_comes settings showing xs es h (reading 0 0 n k) br (omega arith) (omega arith) in
      let g = w.hold in
      let open_still = w.released.opened ∙ opened in
      let o = ap (λ v. at_decoded (decoded_by settings showing g n k v)) rejected ∙ closed_by g n m k counted in
      record {
        hold = finishing g;
        goes =
            record {
              after = w.after ∙ ap (λ u. u.after) o;
              news = w.new ∙ ap (λ u. announced g.opened u.reports) o ∙ announces g.opened candidate (suc m) k open_still;
              reports = w.told ∙ ap (λ u. u.reports) o;
            };
        opened = ap open_after_finish open_still ∙ none_open candidate some;
      }

  -- events that bring nothing more
  pub record QuietlyIn (count window : ℕ) (h : Held) (es : List Event) : Type 0 where
    pub hold : Held
    pub released : Released h hold
    pub goes : Goes settings showing (state (SEARCH count window) h) es (state (SEARCH count window) hold) [] []

  quietly_on : (es : List Event) (count window : ℕ) (h : Held) → CarrierStaysUp es → symbols_in es ≡ [] → QuietlyIn count window h es
  quietly_on [] count window h up e = record { hold = h; released = released_none h; goes = record { after = refl; news = refl; reports = refl } }
  quietly_on (carrier_up ∷ es) count window h up e =
      let w = quietly_on es count window h up e in
      record { hold = w.hold; released = w.released; goes = record { after = w.goes.after; news = w.goes.news; reports = w.goes.reports } }
  quietly_on (carrier_down ∷ es) count window h up e = absurd up
  quietly_on (symbol b ∷ es) count window h up e = absurd (let z : ◌≡◌ {A = ℕ} 0 1 = cc in omega arith)
  quietly_on (release ∷ es) count window h up e =
      let w = quietly_on es count window _ up e in
      record { hold = w.hold; released = released_more w.released; goes = record { after = w.goes.after; news = w.goes.news; reports = w.goes.reports } }

  -- the tail, and events behind it that bring nothing more
  tail_and_no_more : (xs : List Bool) (es : List Event) (h : Held) (n m k : ℕ) (candidate : Candidate) → CarrierStaysUp es → symbols_in es ≡ xs → length xs ≡ 64 → verdict settings.mode (value xs) ≡ rejected →
      h.opened ≡ Some candidate → n ≡ suc m → 1 ≤ length candidate → OneIn (state (DECODE (reading 0 0 n k)) h) candidate (report Closed (suc m) k) es
  tail_and_no_more xs es h n m k candidate up symbols long rejected opened counted some =
      let p = split es xs [] (symbols ∙ sym (append-nil xs)) up in
      let tail = tail_comes xs p.front h n m k candidate p.brings long rejected opened counted some in
      let rest = quietly_on p.back 0 0 tail.hold p.stays p.rest in
      record { hold = rest.hold; goes = goes_then settings showing {fs = p.front} {gs = p.back} p.whole tail.goes rest.goes; opened = rest.released.opened ∙ tail.opened }

  -- what follows the start sequence
  behind_the_start : (cltu : ReceivedCltu) (octets : List ℕ) (es : List Event) (h : Held) → CarrierStaysUp es → symbols_in es ≡ flat_map (λ block. block) cltu.blocks ++ cltu.tail →
      AllBelowBase 256 octets → WithinAllowance settings octets cltu → length cltu.blocks ≤ room h → h.opened ≡ Some [] → OneIn (state (DECODE begun) h) (shown_from showing 0 octets) (report Closed (length cltu.blocks) (wrong_in octets cltu.blocks)) es
  behind_the_start cltu octets es h up symbols octet within space empty =
      let p = split es (flat_map (λ block. block) cltu.blocks) cltu.tail symbols up in
      let blocks = blocks_come settings showing cltu.blocks octets p.front h 0 0 [] p.brings within.blocks_right octet within.blocks_all (omega (arith, within.blocks_few)) space empty in
      let long = length_shown_from showing 0 octets in
      let rest = tail_and_no_more cltu.tail p.back blocks.hold blocks.codeblocks (length cltu.blocks - 1) blocks.corrections (shown_from showing 0 octets) p.stays p.rest within.tail_long
      (tail_is_rejected (value cltu.tail) (value_below cltu.tail 64 within.tail_long) settings.mode within.tail_right) blocks.opened
      (omega (arith, blocks.counted, within.blocks_some)) (omega (arith, long, within.blocks_all, within.blocks_some)) in
      let counts : report Closed (suc (length cltu.blocks - 1)) blocks.corrections ≡ report Closed (length cltu.blocks) (wrong_in octets cltu.blocks) =
      ap₂ (λ m k. report Closed m k) (omega (arith, within.blocks_some)) (omega (arith, blocks.corrected)) in
      let told = subst (λ one. OneIn (state (DECODE (reading 0 0 blocks.codeblocks blocks.corrections)) blocks.hold) (shown_from showing 0 octets) one p.back) counts rest in
      record { hold = told.hold; goes = goes_then settings showing {fs = p.front} {gs = p.back} p.whole blocks.goes told.goes; opened = told.opened }

  begins_idle : (b : Bool) (count window : ℕ) → NothingButIdle b count window → Follows b 0 (min count (16 - 0)) 0 window
  begins_idle b count window (few, e) =
      let all : min count (16 - 0) ≡ count = omega arith in
      subst (λ m. Follows b 0 m 0 window) (sym all)
      (record { fits = omega arith; below = omega arith; bits = ap (λ n. window % 2 ^ n) (add-zero count) ∙ e ∙ sym (add-zero (idle_before b % 2 ^ count * 1) ∙ mul-one (idle_before b % 2 ^ count)) })

  opened_empty : (o : Option Candidate) → o ≡ None → after_open o ≡ Some []
  opened_empty o e = ap after_open e

  pub one_cltu : (b : Bool) (count window : ℕ) (h : Held) (octets : List ℕ) (cltu : ReceivedCltu) (es : List Event) → h.opened ≡ None → NothingButIdle b count window → AllBelowBase 256 octets →
      CarrierStaysUp es → symbols_in es ≡ symbols_of cltu → WithinAllowance settings octets cltu → length cltu.blocks ≤ room h → OneIn (state (SEARCH count window) h) (shown_from showing 0 octets) (report Closed (length cltu.blocks) (wrong_in octets cltu.blocks)) es
  one_cltu b count window h octets cltu es none calm octet up symbols within space =
      let p = split es cltu.start (flat_map (λ block. block) cltu.blocks ++ cltu.tail) symbols up in
      let st = start_comes settings showing b (value cltu.start) count (value_below cltu.start 16 within.start_long) within.start_right cltu.start p.front h 0 0 count window p.brings (omega (arith, within.start_long)) (omega (arith, within.start_long)) (omega (arith, calm.0)) refl (begins_idle b count window calm) in
      let g = st.hold in
      let empty = opened_empty g.opened (st.released.opened ∙ none) in
      let closed = ap open_codeblocks (st.released.opened ∙ none) in
      let rest = behind_the_start cltu octets p.back (opening g) p.stays p.rest octet within (omega (arith, ap open_codeblocks empty, closed, room_kept settings showing h g st.released)) empty in
      record { hold = rest.hold; goes = goes_then settings showing {fs = p.front} {gs = p.back} p.whole st.goes rest.goes; opened = rest.opened }

  -- ---- what lies between

  pub record CalmIn (s : State) (es : List Event) : Type 0 where
    pub next : Bool
    pub count : ℕ
    pub window : ℕ
    pub hold : Held
    pub after : after_events settings showing s es ≡ state (SEARCH count window) hold
    pub opened : hold.opened ≡ None
    pub calm : NothingButIdle next count window
    pub new : new_candidates settings showing s es ≡ []
    pub told : reports_of settings showing s es ≡ []

  idle_comes : (es : List Event) (b : Bool) (bits count window : ℕ) (h : Held) → h.opened ≡ None → NothingButIdle b count window → CarrierStaysUp es → symbols_in es ≡ idle b bits → CalmIn (state (SEARCH count window) h) es
  idle_comes [] b bits count window h none calm up e = record { next = b; count = count; window = window; hold = h; after = refl; opened = none; calm = calm; new = refl; told = refl }
  idle_comes (carrier_up ∷ es) b bits count window h none calm up e =
      let w = idle_comes es b bits count window h none calm up e in
      record { next = w.next; count = w.count; window = w.window; hold = w.hold; after = w.after; opened = w.opened; calm = w.calm; new = w.new; told = w.told }
  idle_comes (carrier_down ∷ es) b bits count window h none calm up e = absurd up
  idle_comes (release ∷ es) b bits count window h none calm up e =
      let w = idle_comes es b bits count window _ none calm up e in
      record { next = w.next; count = w.count; window = w.window; hold = w.hold; after = w.after; opened = w.opened; calm = w.calm; new = w.new; told = w.told }
  idle_comes (symbol x ∷ es) b zero count window h none calm up e = absurd (let z : ◌≡◌ {A = ℕ} 0 1 = cc in omega arith)
  idle_comes (symbol x ∷ es) b (suc bits) count window h none calm up e =
      let same = same_first x b (symbols_in es) (idle (not b) bits) e in
      let on = idle_goes_in settings showing b count window calm in
      let o = ap (λ v. at_window h (next_count count) (next_window window v) (is_start settings.mode (next_count count) (next_window window v))) same.0
      ∙ ap (at_window h (next_count count) (next_window window b)) (idle_is_no_start settings showing (not b) (next_count count) (next_window window b) on) in
      let w = idle_comes es (not b) bits (next_count count) (next_window window b) h none on up same.1 in
      record {
        next = w.next;
        count = w.count;
        window = w.window;
        hold = w.hold;
        after = ap (λ u. after_events settings showing u.after es) o ∙ w.after;
        opened = w.opened;
        calm = w.calm;
        new = ap (λ u. announced h.opened u.reports ++ new_candidates settings showing u.after es) o ∙ w.new;
        told = ap (λ u. u.reports ++ reports_of settings showing u.after es) o ∙ w.told;
      }

  empty_window : (b : Bool) → NothingButIdle b 0 0
  empty_window true = (omega arith, refl)
  empty_window false = (omega arith, refl)

  pub record AwayIn (h : Held) (es : List Event) : Type 0 where
    pub hold : Held
    pub after : after_events settings showing (state INACTIVE h) es ≡ state INACTIVE hold
    pub opened : hold.opened ≡ h.opened
    pub new : new_candidates settings showing (state INACTIVE h) es ≡ []
    pub told : reports_of settings showing (state INACTIVE h) es ≡ []

  pub away_comes : (es : List Event) (h : Held) → CarrierStaysDown es → AwayIn h es
  away_comes [] h down = record { hold = h; after = refl; opened = refl; new = refl; told = refl }
  away_comes (carrier_up ∷ es) h down = absurd down
  away_comes (carrier_down ∷ es) h down = let w = away_comes es h down in record { hold = w.hold; after = w.after; opened = w.opened; new = w.new; told = w.told }
  away_comes (symbol b ∷ es) h down = let w = away_comes es h down in record { hold = w.hold; after = w.after; opened = w.opened; new = w.new; told = w.told }
  away_comes (release ∷ es) h down = let w = away_comes es _ down in record { hold = w.hold; after = w.after; opened = w.opened; new = w.new; told = w.told }

  pub idle_gap : (es : List Event) (h : Held) → h.opened ≡ None → IdleOrNothing es → CalmIn (state (SEARCH 0 0) h) es
  idle_gap es h none (up, run) = idle_comes es run.0 run.1 0 0 h none (empty_window run.0) up run.2

  break_gap : (es : List Event) (h : Held) → h.opened ≡ None → CarrierBreak es → CalmIn (state (SEARCH 0 0) h) es
  break_gap es h none br =
      let s = state (SEARCH 0 0) h in
      let first = idle_gap br.before h none br.idle_before_it in
      let away = away_comes br.away first.hold br.stays_down in
      let last = idle_gap br.behind away.hold (away.opened ∙ first.opened) br.idle_behind_it in
      let rest = carrier_down ∷ (br.away ++ (carrier_up ∷ br.behind)) in
      let run = λ (u : State) (l : List Event). after_events settings showing u l in
      let news = λ (u : State) (l : List Event). new_candidates settings showing u l in
      let tells = λ (u : State) (l : List Event). reports_of settings showing u l in
      record {
        next = last.next;
        count = last.count;
        window = last.window;
        hold = last.hold;
        after = ap (run s) br.whole ∙ after_append settings showing br.before rest s ∙ ap (λ u. run u rest) first.after
            ∙ after_append settings showing br.away (carrier_up ∷ br.behind) (state INACTIVE first.hold) ∙ ap (λ u. run u (carrier_up ∷ br.behind)) away.after ∙ last.after;
        opened = last.opened;
        calm = last.calm;
        new = ap (news s) br.whole ∙ new_append settings showing br.before rest s ∙ ap₂ (λ (l : List Candidate) (u : State). l ++ news u rest) first.new first.after
            ∙ new_append settings showing br.away (carrier_up ∷ br.behind) (state INACTIVE first.hold) ∙ ap₂ (λ (l : List Candidate) (u : State). l ++ news u (carrier_up ∷ br.behind)) away.new away.after ∙ last.new;
        told = ap (tells s) br.whole ∙ reports_append settings showing br.before rest s ∙ ap₂ (λ (l : List Report) (u : State). l ++ tells u rest) first.told first.after
            ∙ reports_append settings showing br.away (carrier_up ∷ br.behind) (state INACTIVE first.hold) ∙ ap₂ (λ (l : List Report) (u : State). l ++ tells u (carrier_up ∷ br.behind)) away.told away.after ∙ last.told;
      }

  pub carrier_up_makes_it_ready : CarrierUpMakesItReady settings showing
  carrier_up_makes_it_ready hold earlier later inactive gap =
      let then = after_events settings showing (made hold) earlier in
      let w = idle_gap later then.held (none_open_in_inactive settings showing hold earlier inactive) gap in
      let there = ap (λ p. after_events settings showing (at_up p then.held).after later) inactive ∙ w.after in
      subst (λ s. Clear s.phase s.held) (sym there) (w.opened, (w.next, w.calm))

  gap_comes : (es : List Event) (h : Held) → h.opened ≡ None → IdleOrNothing es ⊎ CarrierBreak es → CalmIn (state (SEARCH 0 0) h) es
  gap_comes es h none (inl gap) = idle_gap es h none gap
  gap_comes es h none (inr br) = break_gap es h none br

-- ---- every list of CLTUs

under_append : (xs ys : List ℕ) → AllBelowBase 256 xs → AllBelowBase 256 ys → AllBelowBase 256 (xs ++ ys)
under_append [] ys hx hy = hy
under_append (x ∷ xs) ys hx hy = (hx.0, under_append xs ys hx.1 hy)

under_fill : (n : ℕ) → AllBelowBase 256 (replicate n 0x55)
under_fill zero = tt
under_fill (suc n) = (omega arith, under_fill n)

pub under_filled : (frame : List ℕ) → AllBelowBase 256 frame → AllBelowBase 256 (filled frame)
under_filled frame h = under_append frame (replicate (fill_for (length frame)) 0x55) h (under_fill (fill_for (length frame)))

pub shown_back : (showing : Showing) (r : Randomizer) → Matches showing r → (place : ℕ) (xs : List ℕ) → AllBelowBase 256 xs → shown_from showing place (randomized_from r place xs) ≡ xs
shown_back showing r matches place [] h = refl
shown_back showing r matches place (x ∷ xs) h = ap₂ ◌∷◌ (matches place x h.0) (shown_back showing r matches (suc place) xs h.1)

module _ (settings : Settings) (showing : Showing) (randomizer : Randomizer) where
  abbrev run : State → List Event → State
  run = after_events settings showing

  abbrev news : State → List Event → List Candidate
  news = new_candidates settings showing

  abbrev tells : State → List Event → List Report
  tells = reports_of settings showing

  -- one CLTU that comes where nothing but idle is in the window
  pub one_well_sent : (s : State) (next : Bool) (count window : ℕ) (h : Held) (t : Transmission) → s ≡ state (SEARCH count window) h → h.opened ≡ None → NothingButIdle next count window → WellSent settings showing randomizer s t →
      OneIn settings showing s (shown_from showing 0 (information_sent randomizer t)) (told_of randomizer t) t.events
  one_well_sent s next count window h t is none calm well =
      subst (λ u. OneIn settings showing u (shown_from showing 0 (information_sent randomizer t)) (told_of randomizer t) t.events) (sym is)
      (one_cltu settings showing next count window h (information_sent randomizer t) t.received t.events none calm
      (octets_stay_octets randomizer 0 (filled t.frame) (under_filled t.frame well.octets)) well.carrier well.symbols well.within
      (subst (λ u. length t.received.blocks ≤ room u.held) is well.space))

  -- CLTUs that all came in, with an empty window behind them
  pub record AllIn (s : State) (ts : List Transmission) : Type 0 where
    pub hold : Held
    pub after : run s (events_of ts) ≡ state (SEARCH 0 0) hold
    pub opened : hold.opened ≡ None
    pub new : news s (events_of ts) ≡ map (λ t. shown_from showing 0 (information_sent randomizer t)) ts
    pub told : tells s (events_of ts) ≡ map (told_of randomizer) ts

  abbrev ClearState : State → Type 0
  ClearState s = Clear s.phase s.held

  cleared : (s : State) (ts : List Transmission) → AllIn s ts → ClearState (run s (events_of ts))
  cleared s ts all = subst ClearState (sym all.after) (all.opened, (true, empty_window settings showing true))

  -- a CLTU, and those behind it
  joined_to : (s : State) (t : Transmission) (ts : List Transmission) (h : Held) → run s t.events ≡ state (SEARCH 0 0) h → news s t.events ≡ shown_from showing 0 (information_sent randomizer t) ∷ [] → tells s t.events ≡ told_of randomizer t ∷ [] → (rest : AllIn (state (SEARCH 0 0) h) ts) →
      (run s (t.events ++ events_of ts) ≡ state (SEARCH 0 0) rest.hold) × (news s (t.events ++ events_of ts) ≡ map (λ u. shown_from showing 0 (information_sent randomizer u)) (t ∷ ts))
      × (tells s (t.events ++ events_of ts) ≡ map (told_of randomizer) (t ∷ ts))
  joined_to s t ts h after new told rest = (
    after_append settings showing t.events (events_of ts) s ∙ ap (λ u. run u (events_of ts)) after ∙ rest.after,
    new_append settings showing t.events (events_of ts) s ∙ ap₂ (λ (l : List Candidate) (u : State). l ++ news u (events_of ts)) new after ∙ ap (λ l. shown_from showing 0 (information_sent randomizer t) ∷ l) rest.new,
    reports_append settings showing t.events (events_of ts) s ∙ ap₂ (λ (l : List Report) (u : State). l ++ tells u (events_of ts)) told after ∙ ap (λ l. told_of randomizer t ∷ l) rest.told,
  )

  all_follow : (ts : List Transmission) (h : Held) → h.opened ≡ None → FollowOneAnother settings showing randomizer (state (SEARCH 0 0) h) ts → AllIn (state (SEARCH 0 0) h) ts
  all_follow [] h none follow = record { hold = h; after = refl; opened = none; new = refl; told = refl }
  all_follow (t ∷ ts) h none follow =
      let s = state (SEARCH 0 0) h in
      let gap = gap_comes settings showing t.gap h none follow.0 in
      let there = run s t.gap in
      let one = one_well_sent there gap.next gap.count gap.window gap.hold t gap.after gap.opened gap.calm follow.1 in
      let rest = all_follow ts one.hold one.opened (subst (λ u. FollowOneAnother settings showing randomizer u ts) one.goes.after follow.2) in
      let both = joined_to there t ts one.hold one.goes.after one.goes.news one.goes.reports rest in
      record {
        hold = rest.hold;
        after = after_append settings showing t.gap (t.events ++ events_of ts) s ∙ both.0;
        opened = rest.opened;
        new = new_append settings showing t.gap (t.events ++ events_of ts) s ∙ ap (λ l. l ++ news there (t.events ++ events_of ts)) gap.new ∙ both.1;
        told = reports_append settings showing t.gap (t.events ++ events_of ts) s ∙ ap (λ l. l ++ tells there (t.events ++ events_of ts)) gap.told ∙ both.2;
      }

  all_sent : (t : Transmission) (ts : List Transmission) (s : State) → ClearState s → SentFrom settings showing randomizer s (t ∷ ts) → AllIn s (t ∷ ts)
  all_sent t ts s clear sent = by s.phase s.held clear refl
    where
      by : (p : Phase) (h : Held) → Clear p h → s ≡ state p h → AllIn s (t ∷ ts)
      by INACTIVE h c is = absurd c
      by (DECODE r) h c is = absurd c
      by (SEARCH count window) h c is =
          let one = one_well_sent s c.1.0 count window h t is c.0 c.1.1 sent.1 in
          let rest = all_follow ts one.hold one.opened (subst (λ u. FollowOneAnother settings showing randomizer u ts) one.goes.after sent.2) in
          let both = joined_to s t ts one.hold one.goes.after one.goes.news one.goes.reports rest in
          let at_once = ap (λ l. l ++ (t.events ++ events_of ts)) sent.0 in
          record { hold = rest.hold; after = ap (run s) at_once ∙ both.0; opened = rest.opened; new = ap (news s) at_once ∙ both.1; told = ap (tells s) at_once ∙ both.2 }

  pub a_gap_behind_leaves_it_clear : AGapBehindLeavesItClear settings showing randomizer
  a_gap_behind_leaves_it_clear hold earlier gap first more clear sent lies =
      let then = run (made hold) earlier in
      let all = all_sent first more then clear sent in
      let w = gap_comes settings showing gap all.hold all.opened lies in (
        subst ClearState (sym (ap (λ u. run u gap) all.after ∙ w.after)) (w.opened, (w.next, w.calm)),
        ap (λ u. news u gap) all.after ∙ w.new,
        ap (λ u. tells u gap) all.after ∙ w.told,
      )

  -- every frame that is followed has octets
  OctetsAll : List Transmission → Type 0
  OctetsAll [] = Unit {0}
  OctetsAll (t ∷ ts) = AllBelowBase 256 t.frame × OctetsAll ts

  following_octets : (ts : List Transmission) (s : State) → FollowOneAnother settings showing randomizer s ts → OctetsAll ts
  unfolding OctetsAll
  following_octets [] s f = tt
  following_octets (t ∷ ts) s f = (f.1.octets, following_octets ts (run (run s t.gap) t.events) f.2)

  sent_octets : (ts : List Transmission) (s : State) → SentFrom settings showing randomizer s ts → OctetsAll ts
  unfolding OctetsAll
  sent_octets [] s f = tt
  sent_octets (t ∷ ts) s f = (f.1.octets, following_octets ts (run s t.events) f.2)

  shown_as_filled : (ts : List Transmission) → OctetsAll ts → Matches showing randomizer → map (λ t. shown_from showing 0 (information_sent randomizer t)) ts ≡ map (λ t. filled t.frame) ts
  unfolding OctetsAll
  shown_as_filled [] octets matches = refl
  shown_as_filled (t ∷ ts) octets matches =
      ap₂ ◌∷◌ (shown_back showing randomizer matches 0 (filled t.frame) (under_filled t.frame octets.0)) (shown_as_filled ts octets.1 matches)

  pub what_is_sent_then_is_received : WhatIsSentThenIsReceived settings showing randomizer
  what_is_sent_then_is_received hold earlier [] clear from = (clear, refl, λ matches. refl)
  what_is_sent_then_is_received hold earlier (t ∷ ts) clear from =
      let then = run (made hold) earlier in
      let all = all_sent t ts then clear from in
      (cleared then (t ∷ ts) all, all.new, λ matches. all.new ∙ shown_as_filled (t ∷ ts) (sent_octets (t ∷ ts) then from) matches)

  pub what_is_received_is_reported : WhatIsReceivedIsReported settings showing randomizer
  what_is_received_is_reported hold earlier [] clear from = refl
  what_is_received_is_reported hold earlier (t ∷ ts) clear from = (all_sent t ts (run (made hold) earlier) clear from).told
