-- A stretch is a list of undamaged CLTUs with idle between. Assumes nothing.
use Rattle.std.proofs.Common.{◌≡◌, ℕ, zero, suc, ◌+◌, ◌*◌, Bool, true, false, List, [], ◌∷◌, ◌++◌, sym, refl, ap, ap₂, ◌∙◌, append_assoc, append-nil, arith}
use Rattle.std.specs.List.{flat_map}
use Rattle.bch.specs.Bits.{octet_bits, bits_of}
use Rattle.cltu.specs.Cltu.{cltu}
use Rattle.reception.specs.Rules.{Event, carrier_up, carrier_down, symbol, release}
use Rattle.reception.specs.Runs.{symbols_in, CarrierStaysUp, idle}
use Rattle.reception.specs.Allowance.{undamaged}
use Rattle.reception.specs.Gaps.{IdleOrNothing}
use Rattle.reception.specs.Sent.{Transmission, events_of}
use Rattle.reception.proofs.Brings.{Brings, same_first, split}
use Rattle.reception.proofs.Undamaged.{bits_append, symbols_undamaged}
use Rattle.procedures.specs.declared.IdleOctet.{IdleOctet}
use Rattle.procedures.specs.declared.IdleOctet.TheVariants.{ZeroFirst, OneFirst}
use Rattle.procedures.specs.Stretch.{idle_octet, repeated, idle_behind, Parameters, sent_octets, Writing, idles, sends, octets_in, frames_in}
use Rattle.procedures.specs.Reception.{CltusWithIdleBetween, AStretchIsCltusWithIdleBetween}

abbrev first_bit : IdleOctet → Bool
first_bit ZeroFirst = false
first_bit OneFirst = true

eight_more : (n : ℕ) → suc (suc (suc (suc (suc (suc (suc (suc (8 * n)))))))) ≡ 8 * suc n
eight_more n = omega arith

idle_bits : (octet : IdleOctet) (n : ℕ) → bits_of (repeated octet n) ≡ idle (first_bit octet) (8 * n)
idle_bits octet zero = refl
idle_bits ZeroFirst (suc n) = ap (λ l. octet_bits 0x55 ++ l) (idle_bits ZeroFirst n) ∙ ap (idle false) (eight_more n)
idle_bits OneFirst (suc n) = ap (λ l. octet_bits 0xAA ++ l) (idle_bits OneFirst n) ∙ ap (idle true) (eight_more n)

-- events that bring symbols have just these
brought : (xs : List Bool) (es : List Event) → Brings xs es → CarrierStaysUp es × (symbols_in es ≡ xs)
brought [] [] b = (tt, refl)
brought [] (e ∷ es) b = absurd b
brought (x ∷ xs) [] b = absurd b
brought (x ∷ xs) (carrier_up ∷ es) b = brought (x ∷ xs) es b
brought (x ∷ xs) (carrier_down ∷ es) b = absurd b
brought (x ∷ xs) (symbol y ∷ es) b = let rest = brought xs es b.1 in (rest.0, ap₂ ◌∷◌ b.0 rest.1)
brought (x ∷ xs) (release ∷ es) b = brought (x ∷ xs) es b

pub idle_events : (octet : IdleOctet) (n : ℕ) (es : List Event) → CarrierStaysUp es → symbols_in es ≡ bits_of (repeated octet n) → IdleOrNothing es
idle_events octet n es up e = (up, (first_bit octet, 8 * n, e ∙ idle_bits octet n))

pub repeated_on : (octet : IdleOctet) (m n : ℕ) (rest : List ℕ) → repeated octet m ++ (repeated octet n ++ rest) ≡ repeated octet (m + n) ++ rest
repeated_on octet zero n rest = ap (λ k. repeated octet k ++ rest) (none n)
  where
    none : (n : ℕ) → n ≡ 0 + n
    none n = omega arith
repeated_on octet (suc m) n rest = ap (λ l. idle_octet octet ∷ l) (repeated_on octet m n rest) ∙ ap (λ k. repeated octet k ++ rest) (more m n)
  where
    more : (m n : ℕ) → suc (m + n) ≡ suc m + n
    more m n = omega arith

-- events parted right before a symbol
pub record Late (xs : List Bool) (y : Bool) (ys : List Bool) (es : List Event) : Type 0 where
  pub front : List Event
  pub behind : List Event
  pub whole : es ≡ front ++ (symbol y ∷ behind)
  pub up : CarrierStaysUp front
  pub symbols : symbols_in front ≡ xs
  pub stays : CarrierStaysUp behind
  pub rest : symbols_in behind ≡ ys

pub split_late : (es : List Event) (xs : List Bool) (y : Bool) (ys : List Bool) → symbols_in es ≡ xs ++ (y ∷ ys) → CarrierStaysUp es → Late xs y ys es
split_late [] [] y ys e up = absurd (cc)
split_late [] (x ∷ xs) y ys e up = absurd (cc)
split_late (carrier_up ∷ es) xs y ys e up =
    let l = split_late es xs y ys e up in
    record { front = carrier_up ∷ l.front; behind = l.behind; whole = ap (λ r. carrier_up ∷ r) l.whole; up = l.up; symbols = l.symbols; stays = l.stays; rest = l.rest }
split_late (carrier_down ∷ es) xs y ys e up = absurd up
split_late (symbol b ∷ es) [] y ys e up =
    let same = same_first b y (symbols_in es) ys e in
    record { front = []; behind = es; whole = ap (λ v. symbol v ∷ es) same.0; up = tt; symbols = refl; stays = up; rest = same.1 }
split_late (symbol b ∷ es) (x ∷ xs) y ys e up =
    let same = same_first b x (symbols_in es) (xs ++ (y ∷ ys)) e in
    let l = split_late es xs y ys same.1 up in
    record { front = symbol b ∷ l.front; behind = l.behind; whole = ap (λ r. symbol b ∷ r) l.whole; up = l.up; symbols = ap₂ ◌∷◌ same.0 l.symbols; stays = l.stays; rest = l.rest }
split_late (release ∷ es) xs y ys e up =
    let l = split_late es xs y ys e up in
    record { front = release ∷ l.front; behind = l.behind; whole = ap (λ r. release ∷ r) l.whole; up = l.up; symbols = l.symbols; stays = l.stays; rest = l.rest }

module _ (parameters : Parameters) where
  -- idle, the CLTU of a frame, and what is left
  pub record CltuFirst (frame : List ℕ) (before : ℕ) (more : List ℕ) (events : List Event) : Type 0 where
    pub gap : List Event
    pub own : List Event
    pub behind : List Event
    pub whole : events ≡ gap ++ (own ++ behind)
    pub first : Bool
    pub later : List Event
    pub begins : events ≡ gap ++ (symbol first ∷ later)
    pub gap_up : CarrierStaysUp gap
    pub gap_symbols : symbols_in gap ≡ bits_of (repeated parameters.idle before)
    pub up : CarrierStaysUp own
    pub symbols : symbols_in own ≡ bits_of (cltu parameters.randomizer frame)
    pub stays : CarrierStaysUp behind
    pub rest : symbols_in behind ≡ bits_of (repeated parameters.idle (idle_behind parameters.plop) ++ more)

  pub cltu_first : (frame : List ℕ) (before : ℕ) (more : List ℕ) (events : List Event) → CarrierStaysUp events →
      symbols_in events ≡ bits_of (repeated parameters.idle before ++ (sent_octets parameters frame ++ more)) → CltuFirst frame before more events
  cltu_first frame before more events up e =
      let own = cltu parameters.randomizer frame in
      let tail = repeated parameters.idle (idle_behind parameters.plop) in
      let gap = split_late events (bits_of (repeated parameters.idle before)) true _ (e ∙ bits_append (repeated parameters.idle before) ((own ++ tail) ++ more)) up in
      let here = split (symbol true ∷ gap.behind) (bits_of own) (bits_of (tail ++ more)) (ap (λ l. true ∷ l) gap.rest ∙ ap bits_of (append_assoc own tail more) ∙ bits_append own (tail ++ more)) gap.stays in
      let only = brought (bits_of own) here.front here.brings in
      record {
        gap = gap.front;
        own = here.front;
        behind = here.back;
        whole = gap.whole ∙ ap (λ l. gap.front ++ l) here.whole;
        first = true;
        later = gap.behind;
        begins = gap.whole;
        gap_up = gap.up;
        gap_symbols = gap.symbols;
        up = only.0;
        symbols = only.1;
        stays = here.stays;
        rest = here.rest;
      }

  -- behind so many idle octets
  cltus_behind : (writings : List Writing) (before : ℕ) (events : List Event) → CarrierStaysUp events → symbols_in events ≡ bits_of (repeated parameters.idle before ++ flat_map (octets_in parameters) writings) →
      CltusWithIdleBetween parameters.randomizer (frames_in writings) events
  cltus_behind [] before events up e =
      record { sent = []; behind = events; whole = refl; undamaged = tt; idle = idle_events parameters.idle before events up (e ∙ ap bits_of (append-nil (repeated parameters.idle before))) }
  cltus_behind (idles octets ∷ writings) before events up e =
      cltus_behind writings (before + octets) events up (e ∙ ap bits_of (repeated_on parameters.idle before octets (flat_map (octets_in parameters) writings)))
  cltus_behind (sends frame ∷ writings) before events up e =
      let c = cltu_first frame before (flat_map (octets_in parameters) writings) events up e in
      let more = cltus_behind writings (idle_behind parameters.plop) c.behind c.stays c.rest in
      let t : Transmission = record { gap = c.gap; frame = frame; received = undamaged parameters.randomizer frame; events = c.own } in
      record {
        sent = t ∷ more.sent;
        behind = more.behind;
        whole = c.whole ∙ ap (λ l. c.gap ++ (c.own ++ l)) more.whole ∙ ap (λ l. c.gap ++ l) (sym (append_assoc c.own (events_of more.sent) more.behind))
            ∙ sym (append_assoc c.gap (c.own ++ events_of more.sent) more.behind);
        undamaged = (idle_events parameters.idle before c.gap c.gap_up c.gap_symbols, refl, refl, c.up, c.symbols ∙ symbols_undamaged parameters.randomizer frame, more.undamaged);
        idle = more.idle;
      }

pub a_stretch_is_cltus_with_idle_between : AStretchIsCltusWithIdleBetween
a_stretch_is_cltus_with_idle_between parameters acquisition writings events up e = cltus_behind parameters writings acquisition events up e
