-- A command that comes to a receiver that is clear, with idle or nothing behind it. Assumes nothing.
use Rattle.std.proofs.Common.{◌≡◌, ℕ, ◌+◌, ◌-◌, ◌≤◌, Bool, List, [], ◌∷◌, ◌++◌, length, drop, false, cond, Ok, Err, Result, nat_lt, refl, sym, ap, ◌∙◌, subst, ap₂, append-nil, arith, Option, inl}
use Rattle.std.proofs.lemmas.List.{drop_all}
use Rattle.std.proofs.lemmas.Bool.{le-ltb}
use Rattle.refusals.specs.declared.Refusal.{Refusal}
use Rattle.refusals.specs.declared.Refusal.TheVariants.{MemoryTooShort}
use Rattle.cltu.specs.Cltu.{filled}
use Rattle.hold.specs.declared.Hold.{Ghosts}
use Rattle.hold.specs.Candidates.{Candidate, free_space, open_codeblocks, finished_codeblocks, copy_answer, after_copy}
use Rattle.queue.specs.declared.slots.Queue.{Queue}
use Rattle.reception.specs.declared.Report.{Report}
use Rattle.reception.specs.Decoding.{Held, room}
use Rattle.reception.specs.Rules.{State, Event, made}
use Rattle.reception.specs.Runs.{after_events, Clear, idle}
use Rattle.reception.specs.Calls.{symbol_events, events_of_calls}
use Rattle.reception.specs.Allowance.{symbols_of}
use Rattle.reception.specs.Finished.{new_candidates}
use Rattle.reception.specs.Gaps.{IdleOrNothing}
use Rattle.reception.specs.Sent.{Transmission, events_of, WellSent}
use Rattle.reception.specs.Joined.{without_oldest}
use Rattle.decoding.specs.Meaning.{rules_of}
use Rattle.receiver.specs.declared.receiver.Receiver.{Receiver}
use Rattle.receiver.specs.Meaning.{settings_of, held_by, state_of}
use Rattle.receiver.specs.Joined.{PromiseOverCalls}
use Rattle.receiver.specs.Events.{Ran}
use Rattle.callers.specs.InUse.{InUse, BackInSearch}
use Rattle.callers.specs.Command.{releases, IsCommand, IsFrameInFront}
use Rattle.callers.proofs.Used.{by_its_events, back}

-- where none is open, all that is not finished is free
all_free : (capacity : ℕ) (finished : List Candidate) (opened : Option Candidate) → finished ≡ [] → open_codeblocks opened ≡ 0 → free_space capacity finished opened ≡ capacity
all_free capacity finished opened none closed = by (finished_codeblocks finished) (open_codeblocks opened) (ap finished_codeblocks none) closed
  where
    by : (m n : ℕ) → m ≡ 0 → n ≡ 0 → capacity - (m + n) ≡ capacity
    by m n e f = omega arith

module _ {X : Type 0} (hold : Ghosts X) where
  -- what symbols bring from a state, with the settings of this receiver: the frame, and it is clear again
  record Brought (frame : List ℕ) (r : Receiver X) (s : State) (later : List Event) : Type 0 where
    pub clear :
        Clear (after_events (rules_of (settings_of r)) hold.showing s later).phase
        (after_events (rules_of (settings_of r)) hold.showing s later).held
    pub new : new_candidates (rules_of (settings_of r)) hold.showing s later ≡ filled frame ∷ []

  -- the CLTU brings its frame, and the idle behind it nothing
  brought : (frame : List ℕ) (symbols : List Bool) (r : Receiver X) (over : Held) (earlier : List Event) →
      PromiseOverCalls hold → (command : IsCommand hold r frame symbols) →
      let s = after_events (rules_of (settings_of r)) hold.showing (made over) earlier in
      Clear s.phase s.held → length command.cltu.blocks ≤ room s.held → Brought frame r s (symbol_events symbols)
  brought frame symbols r over earlier runs command clear space =
      let rules = rules_of (settings_of r) in
      let shown = hold.showing in
      let promise = runs.promise r in
      let joined = promise.joined in
      let s = after_events rules shown (made over) earlier in
      let cltu = symbols_of command.cltu in
      let behind = idle command.behind_first command.behind in
      let front = symbol_events cltu in
      let gap = symbol_events behind in
      let parts : front ++ gap ≡ symbol_events symbols =
      sym (joined.symbols_joined cltu behind) ∙ ap symbol_events (sym command.comes) in
      let sent : Transmission = record { gap = []; frame = frame; received = command.cltu; events = front } in
      let all : events_of (sent ∷ []) ≡ front = append-nil front in
      let well : WellSent rules shown command.randomizer s sent =
      record {
        octets = command.octets;
        carrier = joined.up_called cltu;
        symbols = joined.symbols_called cltu;
        within = command.within;
        space = space;
      } in
      let got = promise.promise.received command.randomizer over earlier (sent ∷ []) clear (refl, well, tt) in
      let lies : IdleOrNothing gap =
      (joined.up_called behind, (command.behind_first, command.behind, joined.symbols_called behind)) in
      let rest = promise.promise.behind command.randomizer over earlier gap sent [] clear (refl, well, tt) (inl lies) in
      let between = after_events rules shown s front in
      let same : after_events rules shown s (events_of (sent ∷ [])) ≡ between = ap (after_events rules shown s) all in
      let last : after_events rules shown (after_events rules shown s (events_of (sent ∷ []))) gap ≡ after_events rules shown s (symbol_events symbols) =
      ap (λ u. after_events rules shown u gap) same ∙ sym (joined.state s front gap) ∙ ap (after_events rules shown s) parts in
      record {
        clear = subst (λ u. Clear u.phase u.held) last rest.0;
        new = ap (new_candidates rules shown s) (sym parts) ∙ joined.candidates s front gap
            ∙ ap₂ ◌++◌ (ap (new_candidates rules shown s) (sym all) ∙ got.2 command.matches)
            (ap (λ u. new_candidates rules shown u gap) (sym same) ∙ rest.1);
      }

  pub commanded : (frame : List ℕ) (symbols : List Bool) (before after : Receiver X) (q s : Queue Report) →
      PromiseOverCalls hold → BackInSearch hold before → IsCommand hold before frame symbols →
      Ran hold (releases (length (held_by hold before).finished) ++ symbol_events symbols) before after q s → InUse hold after →
      ((held_by hold after).finished ≡ filled frame ∷ []) × BackInSearch hold after
  commanded frame symbols before after q s over ready command ran used =
      let rules = rules_of (settings_of before) in
      let shown = hold.showing in
      let start = state_of hold before in
      let earlier = events_of_calls ready.in_use.calls in
      let count = length start.held.finished in
      let later = symbol_events symbols in
      let promise = over.promise before in
      let joined = promise.joined in
      let then = after_events rules shown (made ready.in_use.over) (earlier ++ releases count) in
      let here : then ≡ without_oldest count start =
      joined.state (made ready.in_use.over) earlier (releases count)
      ∙ ap (λ u. after_events rules shown u (releases count)) (sym (by_its_events hold before ready.in_use over)) ∙ joined.released start count in
      let none : drop count start.held.finished ≡ [] = drop_all count start.held.finished (omega arith) in
      let clear : Clear then.phase then.held =
      subst (λ u. Clear u.phase u.held) (sym here) (joined.stays_clear start count ready.clear) in
      let free : room then.held ≡ start.held.capacity =
      ap (λ u. room u.held) here ∙ all_free start.held.capacity (drop count start.held.finished) start.held.opened none ready.none_open in
      let got = brought frame symbols before ready.in_use.over (earlier ++ releases count) over command clear
      (subst (λ n. length command.cltu.blocks ≤ n) (sym free) command.space) in
      let last = after_events rules shown then later in
      let finished : last.held.finished ≡ filled frame ∷ [] =
      promise.promise.stays ready.in_use.over (earlier ++ releases count) later
      ∙ ap₂ (λ n l. drop n (l ++ new_candidates rules shown then later)) (joined.none_released then symbols) (ap (λ u. u.held.finished) here ∙ none)
      ∙ got.new in
      let there : state_of hold after ≡ last =
      ran.state ∙ joined.state start (releases count) later
      ∙ ap (λ u. after_events rules shown u later) (joined.released start count ∙ sym here) in
      let clear_after : Clear (state_of hold after).phase (held_by hold after) = subst (λ u. Clear u.phase u.held) (sym there) got.clear in (
        ap (λ u. u.held.finished) there ∙ finished,
        back hold after over used clear_after,
      )

-- a finished candidate that is copied
pub copied_in_front : (frame memory now : List ℕ) (answer : Result ℕ Refusal) (finished : List Candidate) → finished ≡ filled frame ∷ [] → length (filled frame) ≤ length memory →
    answer ≡ copy_answer finished memory → now ≡ after_copy finished memory → IsFrameInFront frame memory now answer
copied_in_front frame memory now answer finished one enough answered copied =
    let fits : nat_lt (length memory) (length (filled frame)) ≡ false = le-ltb (length memory) (length (filled frame)) enough in
    record {
      length_answered = answered ∙ ap (λ l. copy_answer l memory) one ∙ ap (λ b. cond b (Err MemoryTooShort) (Ok (length (filled frame)))) fits;
      in_front = copied ∙ ap (λ l. after_copy l memory) one ∙ ap (λ b. cond b memory (filled frame ++ drop (length (filled frame)) memory)) fits;
    }
