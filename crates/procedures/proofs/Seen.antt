-- Space that was seen before a CLTU is there at its first bit. Assumes nothing.
use Rattle.std.proofs.Common.{◌≡◌, ◌≤◌, Bool, true, false, List, [], ◌∷◌, ◌++◌, sym, refl, ap, ap₂, ◌∙◌, subst, arith}
use Rattle.hold.specs.Candidates.{Candidate, Showing, finished_codeblocks, after_release}
use Rattle.reception.specs.Decoding.{Settings, Held, room}
use Rattle.reception.specs.Rules.{Phase, INACTIVE, SEARCH, DECODE, State, Event, carrier_up, carrier_down, symbol, release, at_up, at_event}
use Rattle.reception.specs.Runs.{after_events, symbols_in, CarrierStaysUp}
use Rattle.reception.proofs.Brings.{after_append}
use Rattle.procedures.specs.Signals.{goes_up, goes_down, heard, up_after}
use Rattle.procedures.specs.Reception.{SpaceSeenIsSpaceAt}
use Rattle.procedures.proofs.Hearing.{up_append, heard_down, stays_down, stays_up, same_bit, same_rest}

-- events that go on behind others and bring no symbol
pub record GoesOnQuietly (first before : List Event) : Type 0 where
  pub quiet : List Event
  pub whole : before ≡ first ++ quiet
  pub up : CarrierStaysUp quiet
  pub none : symbols_in quiet ≡ []

heard_behind : (e : Event) (up : Bool) (es fs : List Event) → heard up (e ∷ es) ≡ heard up (e ∷ fs) → heard (up_after up (e ∷ [])) es ≡ heard (up_after up (e ∷ [])) fs
heard_behind carrier_up false es fs h = same_rest goes_up (heard true es) (heard true fs) h
heard_behind carrier_up true es fs h = h
heard_behind carrier_down false es fs h = h
heard_behind carrier_down true es fs h = same_rest goes_down (heard false es) (heard false fs) h
heard_behind (symbol b) false es fs h = h
heard_behind (symbol b) true es fs h = (same_bit b b (heard true es) (heard true fs) h).1
heard_behind release false es fs h = h
heard_behind release true es fs h = h

never_up : (es : List Event) → heard false es ≡ [] → up_after false es ≡ true → ⊥
never_up es h u = let down = (heard_down es (stays_down es h)).1 in both_ways (sym down ∙ u)
  where
    both_ways : false ≡ true → ⊥
    both_ways e = cc

not_heard : (up b : Bool) (es : List Event) → heard up (symbol b ∷ es) ≡ [] → up_after up es ≡ true → ⊥
not_heard true b es h u = cc
not_heard false b es h u = never_up es h u

same_head : (e f : Event) (es fs : List Event) → e ∷ es ≡ f ∷ fs → (e ≡ f) × (es ≡ fs)
same_head e f es fs h = (cc, cc)

-- where what was heard is the same, and a symbol follows the one
locate : (up : Bool) (first rest before after : List Event) (b : Bool) → first ++ rest ≡ before ++ (symbol b ∷ after) → up_after up first ≡ true → heard up first ≡ heard up before → GoesOnQuietly first before
locate up [] rest before after b e u h =
    let own = stays_up before [] (subst (λ v. heard v before ≡ []) u (sym h)) in
    record { quiet = before; whole = refl; up = own.0; none = own.1 }
locate up (f ∷ first) rest [] after b e u h =
    let same = (same_head f (symbol b) (first ++ rest) after e).0 in
    absurd (not_heard up b first (subst (λ v. heard up (v ∷ first) ≡ []) same h) (subst (λ v. up_after up (v ∷ first) ≡ true) same u))
locate up (f ∷ first) rest (g ∷ before) after b e u h =
    let same = same_head f g (first ++ rest) (before ++ (symbol b ∷ after)) e in
    let w = locate (up_after up (f ∷ [])) first rest before after b same.1 (sym (up_append up (f ∷ []) first) ∙ u) (heard_behind f up first before (subst (λ v. heard up (f ∷ first) ≡ heard up (v ∷ before)) (sym same.0) h)) in
    record { quiet = w.quiet; whole = ap₂ ◌∷◌ (sym same.0) w.whole; up = w.up; none = w.none }

fewer : (fs : List Candidate) → finished_codeblocks (after_release fs) ≤ finished_codeblocks fs
fewer [] = omega arith
fewer (c ∷ cs) = omega arith

held_on_up : (p : Phase) (h : Held) → (at_up p h).after.held ≡ h
held_on_up INACTIVE h = refl
held_on_up (SEARCH count window) h = refl
held_on_up (DECODE r) h = refl

module _ (settings : Settings) (showing : Showing) where
  -- nothing but releases changes a hold, and they make room
  room_grows : (es : List Event) (s : State) → CarrierStaysUp es → symbols_in es ≡ [] → room s.held ≤ room (after_events settings showing s es).held
  room_grows [] s up none = omega arith
  room_grows (carrier_up ∷ es) s up none = omega (arith, room_grows es (at_event settings showing s carrier_up).after up none, ap room (held_on_up s.phase s.held))
  room_grows (carrier_down ∷ es) s up none = absurd up
  room_grows (symbol b ∷ es) s up none = absurd (cc)
  room_grows (release ∷ es) s up none = omega (arith, room_grows es (at_event settings showing s release).after up none, fewer s.held.finished)

  pub space_seen_is_space_at : SpaceSeenIsSpaceAt settings showing
  space_seen_is_space_at randomizer s first rest one hears up space before after b parted hears-before clear added =
      let w = locate false first rest before after b parted up (hears ∙ sym hears-before) in
      let there = ap (λ l. room (after_events settings showing s l).held) w.whole ∙ ap (λ u. room u.held) (after_append settings showing first w.quiet s) in
      omega (arith, space, there, room_grows w.quiet (after_events settings showing s first) w.up w.none)
