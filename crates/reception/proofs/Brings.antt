-- Events that bring symbols, with releases and refused calls among them, and end with the last of these symbols. Assumes nothing.
use Rattle.std.proofs.Common.{◌≡◌, ℕ, suc, ◌+◌, ◌*◌, ◌≤◌, Bool, true, false, List, [], ◌∷◌, ◌++◌, length, sym, refl, ap, ◌∙◌, ap₂, append_assoc, append-nil, arith}
use Rattle.std.proofs.lemmas.Bool.{eq-eqb, ne_eqb}
use Rattle.hold.specs.Candidates.{Candidate, Showing, finished_codeblocks, after_release}
use Rattle.reception.specs.Symbols.{bit_value}
use Rattle.reception.specs.Decoding.{Settings, Held, releasing, Reading, decoded, with_symbol, read_word}
use Rattle.reception.specs.Rules.{DECODE, State, state, Event, carrier_up, carrier_down, symbol, release, Outcome, at_decoded, at_event}
use Rattle.reception.specs.declared.Report.{Report}
use Rattle.reception.specs.Runs.{after_events, reports_of, symbols_in, CarrierStaysUp}
use Rattle.reception.specs.Allowance.{value_from}
use Rattle.reception.specs.Finished.{announced, new_candidates}

abbrev pub Brings : List Bool → List Event → Type 0
Brings [] [] = Unit {0}
Brings [] (e ∷ es) = ⊥
Brings (x ∷ xs) [] = ⊥
Brings (x ∷ xs) (carrier_up ∷ es) = Brings (x ∷ xs) es
Brings (x ∷ xs) (carrier_down ∷ es) = ⊥
Brings (x ∷ xs) (symbol y ∷ es) = (y ≡ x) × Brings xs es
Brings (x ∷ xs) (release ∷ es) = Brings (x ∷ xs) es

pub same_first : (x y : Bool) (xs ys : List Bool) → x ∷ xs ≡ y ∷ ys → (x ≡ y) × (xs ≡ ys)
same_first x y xs ys e = (cc, cc)

pub record Split (xs ys : List Bool) (es : List Event) : Type 0 where
  pub front : List Event
  pub back : List Event
  pub whole : es ≡ front ++ back
  pub brings : Brings xs front
  pub rest : symbols_in back ≡ ys
  pub stays : CarrierStaysUp back

with_front : (e : Event) {xs ys : List Bool} {es : List Event} (xs' : List Bool) → ((front : List Event) → Brings xs front → Brings xs' (e ∷ front)) → Split xs ys es → Split xs' ys (e ∷ es)
with_front e xs' on s = record { front = e ∷ s.front; back = s.back; whole = ap (λ l. e ∷ l) s.whole; brings = on s.front s.brings; rest = s.rest; stays = s.stays }

-- events can be parted where some of their symbols end
pub split : (es : List Event) (xs ys : List Bool) → symbols_in es ≡ xs ++ ys → CarrierStaysUp es → Split xs ys es
split es [] ys e up = record { front = []; back = es; whole = refl; brings = tt; rest = e; stays = up }
split [] (x ∷ xs) ys e up = absurd (let z : ◌≡◌ {A = ℕ} 0 1 = cc in omega arith)
split (carrier_up ∷ es) (x ∷ xs) ys e up = with_front carrier_up (x ∷ xs) (λ front b. b) (split es (x ∷ xs) ys e up)
split (carrier_down ∷ es) (x ∷ xs) ys e up = absurd up
split (symbol y ∷ es) (x ∷ xs) ys e up =
    let same = same_first y x (symbols_in es) (xs ++ ys) e in
    with_front (symbol y) (x ∷ xs) (λ front b. (same.0, b)) (split es xs ys same.1 up)
split (release ∷ es) (x ∷ xs) ys e up = with_front release (x ∷ xs) (λ front b. b) (split es (x ∷ xs) ys e up)

-- what a hold is after releases alone: as it was, with as much room at least
pub record Released (h g : Held) : Type 0 where
  pub capacity : g.capacity ≡ h.capacity
  pub opened : g.opened ≡ h.opened
  pub less : finished_codeblocks g.finished ≤ finished_codeblocks h.finished

pub released_none : (h : Held) → Released h h
released_none h = record { capacity = refl; opened = refl; less = omega arith }

fewer_codeblocks : (fs : List Candidate) → finished_codeblocks (after_release fs) ≤ finished_codeblocks fs
fewer_codeblocks [] = omega arith
fewer_codeblocks (c ∷ cs) = omega arith

pub released_more : {h g : Held} → Released (releasing h) g → Released h g
released_more {h} {g} r = record { capacity = r.capacity; opened = r.opened; less = omega (arith, r.less, fewer_codeblocks h.finished) }

module _ (settings : Settings) (showing : Showing) where
  pub after_append : (es fs : List Event) (s : State) → after_events settings showing s (es ++ fs) ≡ after_events settings showing (after_events settings showing s es) fs
  after_append [] fs s = refl
  after_append (e ∷ es) fs s = after_append es fs (at_event settings showing s e).after

  pub new_append : (es fs : List Event) (s : State) →
      new_candidates settings showing s (es ++ fs) ≡ new_candidates settings showing s es ++ new_candidates settings showing (after_events settings showing s es) fs
  new_append [] fs s = refl
  new_append (e ∷ es) fs s =
      ap (λ l. announced s.held.opened (at_event settings showing s e).reports ++ l) (new_append es fs (at_event settings showing s e).after)
      ∙ sym (append_assoc (announced s.held.opened (at_event settings showing s e).reports) (new_candidates settings showing (at_event settings showing s e).after es) (new_candidates settings showing (after_events settings showing s (e ∷ es)) fs))

  pub reports_append : (es fs : List Event) (s : State) →
      reports_of settings showing s (es ++ fs) ≡ reports_of settings showing s es ++ reports_of settings showing (after_events settings showing s es) fs
  reports_append [] fs s = refl
  reports_append (e ∷ es) fs s =
      let next = (at_event settings showing s e).after in
      ap (λ l. (at_event settings showing s e).reports ++ l) (reports_append es fs next)
      ∙ sym (append_assoc (at_event settings showing s e).reports (reports_of settings showing next es) (reports_of settings showing (after_events settings showing next es) fs))

  -- a run of events from one state to another, which announces these candidates and makes these reports
  pub record Goes (s : State) (es : List Event) (t : State) (new : List Candidate) (told : List Report) : Type 0 where
    pub after : after_events settings showing s es ≡ t
    pub news : new_candidates settings showing s es ≡ new
    pub reports : reports_of settings showing s es ≡ told

  -- two runs, one behind the other, of events that are theirs together
  pub goes_then : {s t u : State} {es fs gs : List Event} {xs ys : List Candidate} {rs qs : List Report} → es ≡ fs ++ gs → Goes s fs t xs rs → Goes t gs u ys qs → Goes s es u (xs ++ ys) (rs ++ qs)
  goes_then {s} {t} {u} {es} {fs} {gs} {xs} {ys} {rs} {qs} whole first second =
      record {
        after = ap (after_events settings showing s) whole ∙ after_append fs gs s ∙ ap (λ v. after_events settings showing v gs) first.after ∙ second.after;
        news = ap (new_candidates settings showing s) whole ∙ new_append fs gs s
            ∙ ap₂ ◌++◌ first.news (ap (λ v. new_candidates settings showing v gs) first.after ∙ second.news);
        reports = ap (reports_of settings showing s) whole ∙ reports_append fs gs s
            ∙ ap₂ ◌++◌ first.reports (ap (λ v. reports_of settings showing v gs) first.after ∙ second.reports);
      }

  -- a codeblock's symbols, from where the word stands, in a candidate of n codeblocks with k corrected
  abbrev at_whole : Held → (n k word : ℕ) → Outcome
  at_whole h n k word = at_decoded (decoded settings showing h n k word)

  pub record WordIn (h : Held) (r : Reading) (xs : List Bool) (es : List Event) : Type 0 where
    pub hold : Held
    pub released : Released h hold
    pub after : after_events settings showing (state (DECODE r) h) es ≡ (at_whole hold r.codeblocks r.corrections (value_from r.word xs)).after
    pub new : new_candidates settings showing (state (DECODE r) h) es ≡ announced hold.opened (at_whole hold r.codeblocks r.corrections (value_from r.word xs)).reports
    pub told : reports_of settings showing (state (DECODE r) h) es ≡ (at_whole hold r.codeblocks r.corrections (value_from r.word xs)).reports

  abbrev WholeWord : (h : Held) (r : Reading) (b : Bool) → Bool → Type 0
  WholeWord h r b whole = at_event settings showing (state (DECODE r) h) (symbol b) ≡ at_decoded (read_word settings showing h (with_symbol r b) whole)

  at_last : (h : Held) (r : Reading) (b : Bool) → r.count + 1 ≡ 64 → WholeWord h r b true
  at_last h r b e = ap (λ whole. at_decoded (read_word settings showing h (with_symbol r b) whole)) (eq-eqb (suc r.count) 64 (omega arith))

  not_at_last : (h : Held) (r : Reading) (b : Bool) (n : ℕ) → r.count + suc (suc n) ≡ 64 → WholeWord h r b false
  not_at_last h r b n e = ap (λ whole. at_decoded (read_word settings showing h (with_symbol r b) whole)) (ne_eqb (suc r.count) 64 (λ z. omega arith))

  pub word_comes : (xs : List Bool) (es : List Event) (h : Held) (r : Reading) → Brings xs es → 1 ≤ length xs → r.count + length xs ≡ 64 → WordIn h r xs es
  word_comes [] es h r b some all = absurd (omega arith)
  word_comes (x ∷ xs) [] h r b some all = absurd b
  word_comes (x ∷ xs) (carrier_up ∷ es) h r b some all =
      let w = word_comes (x ∷ xs) es h r b some all in
      record { hold = w.hold; released = w.released; after = w.after; new = w.new; told = w.told }
  word_comes (x ∷ xs) (carrier_down ∷ es) h r b some all = absurd b
  word_comes (x ∷ xs) (release ∷ es) h r b some all =
      let w = word_comes (x ∷ xs) es (releasing h) r b some all in
      record { hold = w.hold; released = released_more w.released; after = w.after; new = w.new; told = w.told }
  word_comes (x ∷ []) (symbol y ∷ []) h r b some all =
      let o = at_last h r y all ∙ ap (λ z. at_whole h r.codeblocks r.corrections (2 * r.word + bit_value z)) b.0 in
      record { hold = h; released = released_none h; after = ap (λ u. u.after) o; new = append-nil _ ∙ ap (λ u. announced h.opened u.reports) o; told = append-nil _ ∙ ap (λ u. u.reports) o }
  word_comes (x ∷ []) (symbol y ∷ e ∷ es) h r b some all = absurd b.1
  word_comes (x ∷ z ∷ zs) (symbol y ∷ es) h r b some all =
      let o = not_at_last h r y (length zs) all in
      let w = word_comes (z ∷ zs) es h (with_symbol r y) b.1 (omega arith) (omega arith) in
      let same = ap (λ v. value_from (2 * r.word + bit_value v) (z ∷ zs)) b.0 in
      record {
        hold = w.hold;
        released = w.released;
        after = ap (λ u. after_events settings showing u.after es) o ∙ w.after ∙ ap (λ v. (at_whole w.hold r.codeblocks r.corrections v).after) same;
        new = ap (λ u. announced h.opened u.reports ++ new_candidates settings showing u.after es) o ∙ w.new ∙ ap (λ v. announced w.hold.opened (at_whole w.hold r.codeblocks r.corrections v).reports) same;
        told = ap (λ u. u.reports ++ reports_of settings showing u.after es) o ∙ w.told ∙ ap (λ v. (at_whole w.hold r.codeblocks r.corrections v).reports) same;
      }

pub record Parted (xs ys : List Bool) (es : List Event) : Type 0 where
  pub front : List Event
  pub back : List Event
  pub whole : es ≡ front ++ back
  pub first : Brings xs front
  pub second : Brings ys back

parted_with : (e : Event) {xs ys : List Bool} {es : List Event} (xs' : List Bool) → ((front : List Event) → Brings xs front → Brings xs' (e ∷ front)) → Parted xs ys es → Parted xs' ys (e ∷ es)
parted_with e xs' on s = record { front = e ∷ s.front; back = s.back; whole = ap (λ l. e ∷ l) s.whole; first = on s.front s.first; second = s.second }

pub part : (es : List Event) (xs ys : List Bool) → Brings (xs ++ ys) es → Parted xs ys es
part es [] ys b = record { front = []; back = es; whole = refl; first = tt; second = b }
part [] (x ∷ xs) ys b = absurd b
part (carrier_up ∷ es) (x ∷ xs) ys b = parted_with carrier_up (x ∷ xs) (λ front c. c) (part es (x ∷ xs) ys b)
part (carrier_down ∷ es) (x ∷ xs) ys b = absurd b
part (symbol y ∷ es) (x ∷ xs) ys b = parted_with (symbol y) (x ∷ xs) (λ front c. (b.0, c)) (part es xs ys b.1)
part (release ∷ es) (x ∷ xs) ys b = parted_with release (x ∷ xs) (λ front c. c) (part es (x ∷ xs) ys b)

pub brings_nothing : (es : List Event) → Brings [] es → es ≡ []
brings_nothing [] b = refl
brings_nothing (e ∷ es) b = absurd b
