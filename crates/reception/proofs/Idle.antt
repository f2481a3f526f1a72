-- Idle brings a receiver back to SEARCH: how many idle bits are still wanted falls with each of them. Assumes nothing.
use Rattle.std.proofs.Common.{◌≡◌, ℕ, zero, suc, pred, ◌+◌, ◌-◌, ◌*◌, ◌<◌, ◌≤◌, Bool, true, false, not, eqb, ◌⊎◌, List, [], ◌∷◌, None, sym, refl, ap, ◌∙◌, subst, ap₂, inl, inr, ⊎_elim, arith}
use Rattle.std.proofs.lemmas.Bool.{eqb-true, cases_lt, false≢true}
use Rattle.bch.specs.declared.Mode.{Mode}
use Rattle.bch.specs.declared.Mode.TheVariants.{Detecting, Correcting}
use Rattle.bch.specs.Polynomial.{weight, divided}
use Rattle.bch.specs.Reception.{place_from, rejected, verdict}
use Rattle.hold.specs.Candidates.{Showing}
use Rattle.reception.specs.Symbols.{bit_value}
use Rattle.reception.specs.Searching.{next_count, next_window, is_start}
use Rattle.reception.specs.Decoding.{Settings, Held, opening, added, Reading, begun, Decoded, goes_on, ends, closing, decoded_by, decoded, with_symbol, read_word}
use Rattle.reception.specs.Rules.{Phase, INACTIVE, SEARCH, DECODE, State, state, Event, carrier_up, carrier_down, symbol, release, at_window, at_decoded, at_event, made}
use Rattle.reception.specs.Runs.{after_events, symbols_in, CarrierStaysUp, CarrierIsUp, NothingButIdle, Clear, idle, recovery_bits}
use Rattle.reception.specs.Recovery.{IdleBringsItBack}
use Rattle.reception.proofs.Windows.{EndsIdle, fewer, no_start_after_four, no_exact_start_after_two, one_more_idle, still_idle, not_yet_full}
use Rattle.reception.proofs.Decoding.{IsOpen, GoesRight, codeblock_goes_right}
use Rattle.reception.proofs.Kept.{Kept, not_whole, began, kept_from_making}
use Rattle.reception.proofs.Brings.{same_first}

-- the value of the first bits of idle
abbrev idle_bit : Bool → ℕ → Bool
idle_bit first zero = first
idle_bit first (suc n) = not (idle_bit first n)

idle_value : Bool → ℕ → ℕ
idle_value first zero = 0
idle_value first (suc n) = 2 * idle_value first n + bit_value (idle_bit first n)

idle_begins : (first : Bool) → 0 ≡ idle_value first 0
unfolding idle_value
idle_begins first = refl

idle_goes_on : (first : Bool) (n word : ℕ) (b : Bool) → word ≡ idle_value first n → b ≡ idle_bit first n → 2 * word + bit_value b ≡ idle_value first (suc n)
unfolding idle_value
idle_goes_on first n word b e f = ap (λ x. 2 * x + bit_value b) e ∙ ap (λ x. 2 * idle_value first n + bit_value x) f

-- 64 idle bits are no codeblock in detecting mode, whichever bit comes first
idle_rejected : (first : Bool) → verdict Detecting (idle_value first 64) ≡ rejected
unfolding idle_value divided weight place_from
idle_rejected true = refl
idle_rejected false = refl

-- how many idle bits can still complete a start sequence, and how many a candidate that has just begun can last
abbrev reach : Mode → ℕ
reach Correcting = 3
reach Detecting = 1

abbrev lasts : Mode → ℕ → ℕ
lasts Correcting limit = 64 * (limit + 1)
lasts Detecting limit = 64

-- j idle bits have entered a window that may hold anything before them
abbrev Fresh : Mode → ℕ → Bool → (left count window : ℕ) → Type 0
Fresh mode limit b left count window =
    (j : ℕ) × (j < 16) × (j ≤ count) × EndsIdle j b window × (16 ≤ left + j) × (j < reach mode → reach mode + lasts mode limit ≤ left + j)

-- a word that was begun before the idle, or one of idle bits alone
abbrev Lasting : Mode → ℕ → Bool → ℕ → (count word codeblocks : ℕ) → Type 0
Lasting Correcting limit b left count word before = 64 * (limit + 1) ≤ left + 64 * before + count
Lasting Detecting limit b left count word before =
    (128 ≤ left + count) ⊎ ((first : Bool) × (word ≡ idle_value first count) × (b ≡ idle_bit first count) × (64 ≤ left + count))

-- so many idle bits more, the next of them b, bring this state back to SEARCH
abbrev Settling : Mode → ℕ → Bool → ℕ → Phase → Held → Type 0
Settling mode limit b left INACTIVE h = ⊥
Settling mode limit b left (SEARCH count window) h = (h.opened ≡ None) × (count ≤ 16) × (NothingButIdle b count window ⊎ Fresh mode limit b left count window)
Settling mode limit b left (DECODE r) h =
    IsOpen h.opened × (added h ≡ r.codeblocks) × (r.codeblocks ≤ limit) × (r.count < 64) × Lasting mode limit b left r.count r.word r.codeblocks

abbrev Settles : Mode → ℕ → Bool → ℕ → State → Type 0
Settles mode limit b left s = Settling mode limit b left s.phase s.held

module _ (settings : Settings) (showing : Showing) where
  abbrev M : Mode
  M = settings.mode

  abbrev L : ℕ
  L = settings.limit

  -- a window with nothing but idle in it is no start
  pub idle_is_no_start : (b : Bool) (count window : ℕ) → NothingButIdle b count window → is_start M count window ≡ false
  idle_is_no_start b count window (few, e) =
      ⊎_elim (λ lt. not_yet_full M count window lt)
      (λ ge. no_start_after_four M b count window (fewer 12 4 b window (subst (λ n. EndsIdle n b window) (full ge) e)))
      (cases_lt count 16)
    where
      full : 16 ≤ count → count ≡ 16
      full ge = omega arith

  pub idle_goes_in : (b : Bool) (count window : ℕ) → NothingButIdle b count window → NothingButIdle (not b) (next_count count) (next_window window b)
  idle_goes_in b count window (few, e) =
      ⊎_elim (λ lt. (omega arith, subst (λ n. EndsIdle n (not b) (next_window window b)) (more lt) (one_more_idle count b window lt e)))
      (λ ge. (omega arith, subst (λ n. EndsIdle n (not b) (next_window window b)) (full ge) (still_idle b window (subst (λ n. EndsIdle n b window) (sixteen ge) e))))
      (cases_lt count 16)
    where
      more : count < 16 → suc count ≡ next_count count
      more lt = omega arith

      full : 16 ≤ count → 16 ≡ next_count count
      full ge = omega arith

      sixteen : 16 ≤ count → count ≡ 16
      sixteen ge = omega arith

  calm_stays : (h : Held) (count window : ℕ) (b : Bool) (left : ℕ) → h.opened ≡ None → NothingButIdle b count window →
      Settles M L (not b) left (at_event settings showing (state (SEARCH count window) h) (symbol b)).after
  calm_stays h count window b left none calm =
      let on = idle_goes_in b count window calm in
      subst (λ found. Settles M L (not b) left (at_window h (next_count count) (next_window window b) found).after)
      (sym (idle_is_no_start (not b) (next_count count) (next_window window b) on)) (none, on.0, inl on)

  -- a start that idle completes, at its first, second or third bit
  started : (mode : Mode) (h : Held) (count window : ℕ) (b : Bool) (left j : ℕ) → h.opened ≡ None → j < 3 → EndsIdle (suc j) (not b) (next_window window b) → (j < reach mode → reach mode + lasts mode L ≤ left + j) →
      is_start mode (next_count count) (next_window window b) ≡ true → Settling mode L (not b) (pred left) (DECODE begun) (opening h)
  started Correcting h count window b left j none few more budget found =
      let o = began settings showing h.opened none in
      (o.0, o.1, omega arith, omega arith, omega (arith, budget few))
  started Detecting h count window b left zero none few more budget found =
      let o = began settings showing h.opened none in
      (o.0, o.1, omega arith, omega arith, inr (not b, idle_begins (not b), refl, omega (arith, budget (omega arith))))
  started Detecting h count window b left (suc j) none few more budget found =
      absurd (false≢true (sym (no_exact_start_after_two (not b) (next_count count) (next_window window b) (fewer j 2 (not b) (next_window window b) (subst (λ n. EndsIdle n (not b) (next_window window b)) (two_more j) more))) ∙ found))
    where
      two_more : (j : ℕ) → suc (suc j) ≡ j + 2
      two_more j = omega arith

  fresh_settles : (h : Held) (count window : ℕ) (b : Bool) (left : ℕ) → h.opened ≡ None → count ≤ 16 → Fresh M L b left count window → (found : Bool) → is_start M (next_count count) (next_window window b) ≡ found →
      Settles M L (not b) (pred left) (at_window h (next_count count) (next_window window b) found).after
  fresh_settles h count window b left none full (j, few, entered, e, sixteen, budget) found is =
      ⊎_elim (λ early. by found is early) (λ late. last late) (cases_lt j 3)
    where
      more : EndsIdle (suc j) (not b) (next_window window b)
      more = one_more_idle j b window few e

      -- still fresh, or idle alone
      searches_on : (j < reach M → reach M + lasts M L ≤ left + j) → Settles M L (not b) (pred left) (at_window h (next_count count) (next_window window b) false).after
      searches_on budget = (
        none,
        omega arith,
        ⊎_elim
            (λ lt. inr (suc j, lt, omega arith, more, omega arith, λ early. omega (arith, budget (omega arith))))
            (λ ge. inl (omega arith, subst (λ n. EndsIdle n (not b) (next_window window b)) (all ge) more))
            (cases_lt (suc j) 16),
      )
        where
          all : 16 ≤ suc j → suc j ≡ next_count count
          all ge = omega arith

      by : (found : Bool) → is_start M (next_count count) (next_window window b) ≡ found → j < 3 → Settles M L (not b) (pred left) (at_window h (next_count count) (next_window window b) found).after
      by true is early = started M h count window b left j none early more budget is
      by false is early = searches_on budget

      last : 3 ≤ j → Settles M L (not b) (pred left) (at_window h (next_count count) (next_window window b) found).after
      last late =
          let there : j - 3 + 4 ≡ suc j = omega arith in
          let e₄ = fewer (j - 3) 4 (not b) (next_window window b) (subst (λ n. EndsIdle n (not b) (next_window window b)) (sym there) more) in
          subst (λ f. Settles M L (not b) (pred left) (at_window h (next_count count) (next_window window b) f).after)
          (sym (no_start_after_four M (not b) (next_count count) (next_window window b) e₄) ∙ is) (searches_on budget)

  -- a codeblock that goes on, or ends the candidate
  block_settles : (n k count word : ℕ) (b : Bool) (left : ℕ) → count ≡ 63 → n ≤ L → (mode : Mode) → Lasting mode L b left count word n → (d : Decoded) → GoesRight L n k d →
      (mode ≡ Detecting → (first : Bool) → word ≡ idle_value first count → b ≡ idle_bit first count → (g : Held) (r : Reading) → d ≡ goes_on g r → ⊥) →
      Settles mode L (not b) (pred left) (at_decoded d).after
  block_settles n k count word b left at few mode lasting (ends g one) right pure = (right.none_open, omega arith, inl (omega arith, ends_none (not b)))
    where
      ends_none : (b : Bool) → EndsIdle 0 b 0
      ends_none true = refl
      ends_none false = refl
  block_settles n k count word b left at few Correcting lasting (goes_on g r) right pure = (
    right.is_open,
    right.held ∙ sym right.counted,
    omega (arith, right.counted, right.within),
    omega (arith, right.none_read.0),
    omega (arith, right.counted, right.none_read.0),
  )
  block_settles n k count word b left at few Detecting (inl mixed) (goes_on g r) right pure =
      let none = right.none_read in (
        right.is_open,
        right.held ∙ sym right.counted,
        omega (arith, right.counted, right.within),
        omega (arith, none.0),
        inr (not b, none.1 ∙ idle_begins (not b) ∙ ap (idle_value (not b)) (sym none.0), ap (idle_bit (not b)) (sym none.0), omega (arith, none.0)),
      )
  block_settles n k count word b left at few Detecting (inr (first, e, f, bits)) (goes_on g r) right pure = absurd (pure refl first e f g r refl)

  lasting_on : (mode : Mode) (b : Bool) (left count word before : ℕ) → before ≤ L → count < 64 → Lasting mode L b left count word before → Lasting mode L (not b) (pred left) (suc count) (2 * word + bit_value b) before
  lasting_on Correcting b left count word before few lt lasting = omega arith
  lasting_on Detecting b left count word before few lt (inl mixed) = inl (omega arith)
  lasting_on Detecting b left count word before few lt (inr (first, e, f, bits)) = inr (first, idle_goes_on first count word b e f, ap not f, omega arith)

  closing_ends : (h : Held) (n k : ℕ) (g : Held) (r : Reading) → closing h n k ≡ goes_on g r → ⊥
  closing_ends h zero k g r e = let z : ◌≡◌ {A = ℕ} 0 1 = cc in omega arith
  closing_ends h (suc n) k g r e = let z : ◌≡◌ {A = ℕ} 0 1 = cc in omega arith

  idle_ends : (h : Held) (n k count word : ℕ) (b : Bool) → suc count ≡ 64 → M ≡ Detecting → (first : Bool) → word ≡ idle_value first count → b ≡ idle_bit first count → (g : Held) (r : Reading) →
      decoded settings showing h n k (2 * word + bit_value b) ≡ goes_on g r → ⊥
  idle_ends h n k count word b whole is first e f g r goes =
      closing_ends h n k g r
      (sym (ap (decoded_by settings showing h n k) (ap₂ verdict is (idle_goes_on first count word b e f ∙ ap (idle_value first) whole) ∙ idle_rejected first)) ∙ goes)

  word_settles : (h : Held) (r : Reading) (b : Bool) (left : ℕ) → Settling M L b left (DECODE r) h → (whole : Bool) → eqb (suc r.count) 64 ≡ whole →
      Settles M L (not b) (pred left) (at_decoded (read_word settings showing h (with_symbol r b) whole)).after
  word_settles h r b left s true e =
      let all = eqb-true (suc r.count) 64 e in
      let word = 2 * r.word + bit_value b in
      block_settles r.codeblocks r.corrections r.count r.word b left (omega (arith, all)) s.2 M s.4 (decoded settings showing h r.codeblocks r.corrections word)
      (codeblock_goes_right settings showing h r.codeblocks r.corrections word s.0 s.1) (idle_ends h r.codeblocks r.corrections r.count r.word b all)
  word_settles h r b left s false e =
      (s.0, s.1, s.2, not_whole r.count e s.3, lasting_on M b left r.count r.word r.codeblocks s.2 s.3 s.4)

  symbol_settles : (p : Phase) (h : Held) (b : Bool) (left : ℕ) → Settling M L b left p h → Settles M L (not b) (pred left) (at_event settings showing (state p h) (symbol b)).after
  symbol_settles INACTIVE h b left s = s
  symbol_settles (SEARCH count window) h b left (none, full, inl calm) = calm_stays h count window b (pred left) none calm
  symbol_settles (SEARCH count window) h b left (none, full, inr fresh) = fresh_settles h count window b left none full fresh (is_start M (next_count count) (next_window window b)) refl
  symbol_settles (DECODE r) h b left s = word_settles h r b left s (eqb (suc r.count) 64) refl

  up_settles : (p : Phase) (h : Held) (b : Bool) (left : ℕ) → Settling M L b left p h → Settles M L b left (at_event settings showing (state p h) carrier_up).after
  up_settles INACTIVE h b left s = absurd s
  up_settles (SEARCH count window) h b left s = s
  up_settles (DECODE r) h b left s = s

  release_settles : (p : Phase) (h : Held) (b : Bool) (left : ℕ) → Settling M L b left p h → Settles M L b left (at_event settings showing (state p h) release).after
  release_settles INACTIVE h b left s = s
  release_settles (SEARCH count window) h b left s = s
  release_settles (DECODE r) h b left s = s

  -- none wanted any more
  settled : (mode : Mode) (p : Phase) (h : Held) (b : Bool) → Settling mode L b 0 p h → Clear p h
  settled mode INACTIVE h b s = absurd s
  settled mode (SEARCH count window) h b (none, full, inl calm) = (none, (b, calm))
  settled mode (SEARCH count window) h b (none, full, inr fresh) = absurd (omega (arith, fresh.1, fresh.4))
  settled Correcting (DECODE r) h b s = absurd (omega (arith, s.2, s.3, s.4))
  settled Detecting (DECODE r) h b s = absurd (⊎_elim (λ mixed. omega (arith, s.3, mixed)) (λ pure. omega (arith, s.3, pure.3)) s.4)

  settles_at_last : (es : List Event) (s : State) (b : Bool) (bits left : ℕ) → CarrierStaysUp es → symbols_in es ≡ idle b bits → left ≤ bits → Settles M L b left s →
      Clear (after_events settings showing s es).phase (after_events settings showing s es).held
  settles_at_last [] s b zero left up e few st = settled M s.phase s.held b (subst (λ n. Settles M L b n s) (none few) st)
    where
      none : left ≤ 0 → left ≡ 0
      none h = omega arith
  settles_at_last [] s b (suc bits) left up e few st = absurd (let z : ◌≡◌ {A = ℕ} 0 1 = cc in omega arith)
  settles_at_last (carrier_up ∷ es) s b bits left up e few st = settles_at_last es (at_event settings showing s carrier_up).after b bits left up e few (up_settles s.phase s.held b left st)
  settles_at_last (carrier_down ∷ es) s b bits left up e few st = absurd up
  settles_at_last (symbol x ∷ es) s b zero left up e few st = absurd (let z : ◌≡◌ {A = ℕ} 0 1 = cc in omega arith)
  settles_at_last (symbol x ∷ es) s b (suc bits) left up e few st =
      let same = same_first x b (symbols_in es) (idle (not b) bits) e in
      settles_at_last es (at_event settings showing s (symbol x)).after (not b) bits (pred left) up same.1 (omega arith)
      (subst (λ y. Settles M L (not b) (pred left) (at_event settings showing s (symbol y)).after) (sym same.0) (symbol_settles s.phase s.held b left st))
  settles_at_last (release ∷ es) s b bits left up e few st = settles_at_last es (at_event settings showing s release).after b bits left up e few (release_settles s.phase s.held b left st)

  nothing_yet : (b : Bool) (window : ℕ) → EndsIdle 0 b window
  nothing_yet true window = omega arith
  nothing_yet false window = omega arith

  begins_to_settle : (mode : Mode) (p : Phase) (h : Held) (b : Bool) → CarrierIsUp p → Kept L p h → Settling mode L b (recovery_bits mode L) p h
  begins_to_settle mode INACTIVE h b up kept = absurd up
  begins_to_settle Correcting (SEARCH count window) h b up kept = (kept.0, kept.1, inr (0, omega arith, omega arith, nothing_yet b window, omega arith, λ lt. omega arith))
  begins_to_settle Detecting (SEARCH count window) h b up kept = (kept.0, kept.1, inr (0, omega arith, omega arith, nothing_yet b window, omega arith, λ lt. omega arith))
  begins_to_settle Correcting (DECODE r) h b up kept = (kept.is_open, kept.held, kept.within, kept.unfinished, omega arith)
  begins_to_settle Detecting (DECODE r) h b up kept = (kept.is_open, kept.held, kept.within, kept.unfinished, by r.count refl)
    where
      by : (count : ℕ) → r.count ≡ count → Lasting Detecting L b 127 r.count r.word r.codeblocks
      by zero e = inr (b, kept.none_read e ∙ idle_begins b ∙ ap (idle_value b) (sym e), ap (idle_bit b) (sym e), omega (arith, e))
      by (suc count) e = inl (omega (arith, e))

  pub idle_brings_it_back : IdleBringsItBack settings showing
  idle_brings_it_back hold earlier later first bits up stays e enough =
      let then = after_events settings showing (made hold) earlier in
      settles_at_last later then first bits (recovery_bits M L) stays e enough (begins_to_settle M then.phase then.held first up (kept_from_making settings showing hold earlier))
