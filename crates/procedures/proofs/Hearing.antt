-- What is heard, and how events are parted by it. Assumes nothing.
use Rattle.std.proofs.Common.{◌≡◌, ℕ, Bool, true, false, List, [], ◌∷◌, ◌++◌, map, refl, ap, ap₂, ◌∙◌}
use Rattle.std.proofs.lemmas.List.{map-append}
use Rattle.reception.specs.Rules.{Event, carrier_up, carrier_down, symbol, release}
use Rattle.reception.specs.Runs.{symbols_in, CarrierStaysUp}
use Rattle.reception.specs.Gaps.{CarrierStaysDown}
use Rattle.reception.proofs.Undamaged.{bits_append}
use Rattle.procedures.specs.Signals.{Signal, goes_up, bit, goes_down, signals_of_octets, heard, up_after}
use Rattle.procedures.specs.Reception.{HeardOneBehindTheOther, UpBehindBoth, SymbolsAreHeard}

pub signals_append : (xs ys : List ℕ) → signals_of_octets (xs ++ ys) ≡ signals_of_octets xs ++ signals_of_octets ys
signals_append xs ys = ap (map bit) (bits_append xs ys) ∙ map-append bit _ _

pub heard_append : HeardOneBehindTheOther
heard_append up [] fs = refl
heard_append false (carrier_up ∷ es) fs = ap (λ l. goes_up ∷ l) (heard_append true es fs)
heard_append true (carrier_up ∷ es) fs = heard_append true es fs
heard_append false (carrier_down ∷ es) fs = heard_append false es fs
heard_append true (carrier_down ∷ es) fs = ap (λ l. goes_down ∷ l) (heard_append false es fs)
heard_append false (symbol b ∷ es) fs = heard_append false es fs
heard_append true (symbol b ∷ es) fs = ap (λ l. bit b ∷ l) (heard_append true es fs)
heard_append false (release ∷ es) fs = heard_append false es fs
heard_append true (release ∷ es) fs = heard_append true es fs

pub up_append : UpBehindBoth
up_append up [] fs = refl
up_append up (carrier_up ∷ es) fs = up_append true es fs
up_append up (carrier_down ∷ es) fs = up_append false es fs
up_append up (symbol b ∷ es) fs = up_append up es fs
up_append up (release ∷ es) fs = up_append up es fs

pub symbols_heard : SymbolsAreHeard
symbols_heard [] = (refl, refl)
symbols_heard (b ∷ bs) = let rest = symbols_heard bs in (ap (λ l. bit b ∷ l) rest.0, rest.1)

-- with the carrier up just the symbols are heard, with the carrier down nothing
pub heard_up : (es : List Event) → CarrierStaysUp es → (heard true es ≡ map bit (symbols_in es)) × (up_after true es ≡ true)
heard_up [] up = (refl, refl)
heard_up (carrier_up ∷ es) up = heard_up es up
heard_up (carrier_down ∷ es) up = absurd up
heard_up (symbol b ∷ es) up = let rest = heard_up es up in (ap (λ l. bit b ∷ l) rest.0, rest.1)
heard_up (release ∷ es) up = heard_up es up

pub heard_down : (es : List Event) → CarrierStaysDown es → (heard false es ≡ []) × (up_after false es ≡ false)
heard_down [] down = (refl, refl)
heard_down (carrier_up ∷ es) down = absurd down
heard_down (carrier_down ∷ es) down = heard_down es down
heard_down (symbol b ∷ es) down = heard_down es down
heard_down (release ∷ es) down = heard_down es down

pub stays_down : (es : List Event) → heard false es ≡ [] → CarrierStaysDown es
stays_down [] e = tt
stays_down (carrier_up ∷ es) e = cc
stays_down (carrier_down ∷ es) e = stays_down es e
stays_down (symbol b ∷ es) e = stays_down es e
stays_down (release ∷ es) e = stays_down es e

pub same_bit : (x y : Bool) (xs ys : List Signal) → bit x ∷ xs ≡ bit y ∷ ys → (x ≡ y) × (xs ≡ ys)
same_bit x y xs ys e = (cc, cc)

pub same_rest : (x : Signal) (xs ys : List Signal) → x ∷ xs ≡ x ∷ ys → xs ≡ ys
same_rest x xs ys e = cc

pub stays_up : (es : List Event) (xs : List Bool) → heard true es ≡ map bit xs → CarrierStaysUp es × (symbols_in es ≡ xs)
stays_up [] [] e = (tt, refl)
stays_up [] (x ∷ xs) e = absurd (cc)
stays_up (carrier_up ∷ es) xs e = stays_up es xs e
stays_up (carrier_down ∷ es) [] e = absurd (cc)
stays_up (carrier_down ∷ es) (x ∷ xs) e = absurd (cc)
stays_up (symbol b ∷ es) [] e = absurd (cc)
stays_up (symbol b ∷ es) (x ∷ xs) e =
    let same = same_bit b x (heard true es) (map bit xs) e in
    let rest = stays_up es xs same.1 in
    (rest.0, ap₂ ◌∷◌ same.0 rest.1)
stays_up (release ∷ es) xs e = stays_up es xs e

-- where the carrier goes up
pub record GoesUp (more : List Signal) (es : List Event) : Type 0 where
  pub away : List Event
  pub behind : List Event
  pub whole : es ≡ away ++ (carrier_up ∷ behind)
  pub down : CarrierStaysDown away
  pub rest : heard true behind ≡ more

goes_up_later : (e : Event) {more : List Signal} {es : List Event} → ((away : List Event) → CarrierStaysDown away → CarrierStaysDown (e ∷ away)) → GoesUp more es → GoesUp more (e ∷ es)
goes_up_later e on g = record { away = e ∷ g.away; behind = g.behind; whole = ap (λ l. e ∷ l) g.whole; down = on g.away g.down; rest = g.rest }

pub goes_up_at : (es : List Event) (rest : List Signal) → heard false es ≡ goes_up ∷ rest → GoesUp rest es
goes_up_at [] rest e = absurd (cc)
goes_up_at (carrier_up ∷ es) rest e = record { away = []; behind = es; whole = refl; down = tt; rest = same_rest goes_up (heard true es) rest e }
goes_up_at (carrier_down ∷ es) rest e = goes_up_later carrier_down (λ away d. d) (goes_up_at es rest e)
goes_up_at (symbol b ∷ es) rest e = goes_up_later (symbol b) (λ away d. d) (goes_up_at es rest e)
goes_up_at (release ∷ es) rest e = goes_up_later release (λ away d. d) (goes_up_at es rest e)

-- where it goes down behind these symbols
pub record GoesDown (xs : List Bool) (more : List Signal) (es : List Event) : Type 0 where
  pub during : List Event
  pub behind : List Event
  pub whole : es ≡ during ++ (carrier_down ∷ behind)
  pub up : CarrierStaysUp during
  pub symbols : symbols_in during ≡ xs
  pub rest : heard false behind ≡ more

pub goes_down_at : (es : List Event) (xs : List Bool) (rest : List Signal) → heard true es ≡ map bit xs ++ (goes_down ∷ rest) → GoesDown xs rest es
goes_down_at [] [] rest e = absurd (cc)
goes_down_at [] (x ∷ xs) rest e = absurd (cc)
goes_down_at (carrier_up ∷ es) xs rest e =
    let g = goes_down_at es xs rest e in
    record { during = carrier_up ∷ g.during; behind = g.behind; whole = ap (λ l. carrier_up ∷ l) g.whole; up = g.up; symbols = g.symbols; rest = g.rest }
goes_down_at (carrier_down ∷ es) [] rest e = record { during = []; behind = es; whole = refl; up = tt; symbols = refl; rest = same_rest goes_down (heard false es) rest e }
goes_down_at (carrier_down ∷ es) (x ∷ xs) rest e = absurd (cc)
goes_down_at (symbol b ∷ es) [] rest e = absurd (cc)
goes_down_at (symbol b ∷ es) (x ∷ xs) rest e =
    let same = same_bit b x (heard true es) (map bit xs ++ (goes_down ∷ rest)) e in
    let g = goes_down_at es xs rest same.1 in
    record { during = symbol b ∷ g.during; behind = g.behind; whole = ap (λ l. symbol b ∷ l) g.whole; up = g.up; symbols = ap₂ ◌∷◌ same.0 g.symbols; rest = g.rest }
goes_down_at (release ∷ es) xs rest e =
    let g = goes_down_at es xs rest e in
    record { during = release ∷ g.during; behind = g.behind; whole = ap (λ l. release ∷ l) g.whole; up = g.up; symbols = g.symbols; rest = g.rest }

-- what more is heard with the carrier up
pub more_heard : (done es : List Event) (before : List Signal) (xs : List Bool) → heard false done ≡ before → up_after false done ≡ true → CarrierStaysUp es → symbols_in es ≡ xs →
    (heard false (done ++ es) ≡ before ++ map bit xs) × (up_after false (done ++ es) ≡ true)
more_heard done es before xs e is-up up symbols =
    let own = heard_up es up in (
      heard_append false done es ∙ ap₂ ◌++◌ e (ap (λ u. heard u es) is-up ∙ own.0 ∙ ap (map bit) symbols),
      up_append false done es ∙ ap (λ u. up_after u es) is-up ∙ own.1,
    )

-- and with the carrier down
pub none_heard : (done es : List Event) (before : List Signal) → heard false done ≡ before → up_after false done ≡ false → (more : List Signal) → heard false es ≡ more →
    heard false (done ++ es) ≡ before ++ more
none_heard done es before e is-down more own = heard_append false done es ∙ ap₂ ◌++◌ e (ap (λ u. heard u es) is-down ∙ own)
