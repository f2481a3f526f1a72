-- What is on the carrier, stretch after stretch, and what a receiver hears of it: its carrier goes up with an
-- acquisition, bits follow, and it goes down with the break. Assumes nothing.
use Rattle.std.specs.Prelude.{ℕ, Bool, true, false, List, [], ◌∷◌, ◌++◌, map, Some, None, Option}
use Rattle.std.specs.List.{flat_map}
use Rattle.bch.specs.Bits.{bits_of}
use Rattle.reception.specs.Rules.{Event, carrier_up, carrier_down, symbol, release}
use Rattle.procedures.specs.Stretch.{Parameters, repeated, sent_octets, Writing, sends, idles, stretch_octets, frames_in}

pub data Signal : Type 0 where
  goes_up : Signal
  bit : Bool → Signal
  goes_down : Signal

abbrev pub signals_of_octets : List ℕ → List Signal
signals_of_octets octets = map bit (bits_of octets)

-- a stretch that is sent: its acquisition, and what is written behind it
pub record SentStretch : Type 0 where
  pub acquisition : ℕ
  pub writings : List Writing

-- stretches that are closed by a break, then one that is still open, or none
pub record Stretches : Type 0 where
  pub closed : List SentStretch
  pub opened : Option SentStretch

abbrev pub frames_of_closed : List SentStretch → List (List ℕ)
frames_of_closed closed = flat_map (λ one. frames_in one.writings) closed

abbrev pub frames_of_opened : Option SentStretch → List (List ℕ)
frames_of_opened None = []
frames_of_opened (Some one) = frames_in one.writings

abbrev pub frames_on : Stretches → List (List ℕ)
frames_on on = frames_of_closed on.closed ++ frames_of_opened on.opened

-- a CLTU on the carrier: what was on it before its first bit, the frames among that, and its own frame
pub record PlacedCltu : Type 0 where
  pub before : List Signal
  pub earlier : List (List ℕ)
  pub frame : List ℕ

module _ (parameters : Parameters) where
  abbrev pub open_signals : SentStretch → List Signal
  open_signals one = goes_up ∷ signals_of_octets (stretch_octets parameters one.acquisition one.writings)

  abbrev pub closed_signals : SentStretch → List Signal
  closed_signals one = open_signals one ++ goes_down ∷ []

  abbrev pub signals_of_opened : Option SentStretch → List Signal
  signals_of_opened None = []
  signals_of_opened (Some one) = open_signals one

  -- outside of stretches nothing
  abbrev pub signals_on : Stretches → List Signal
  signals_on on = flat_map closed_signals on.closed ++ signals_of_opened on.opened

  -- the CLTUs behind such signals and frames
  abbrev pub cltus_in : List Signal → List (List ℕ) → List Writing → List PlacedCltu
  cltus_in before earlier [] = []
  cltus_in before earlier (idles octets ∷ writings) =
      cltus_in (before ++ signals_of_octets (repeated parameters.idle octets)) earlier writings
  cltus_in before earlier (sends frame ∷ writings) =
      record { before = before; earlier = earlier; frame = frame }
      ∷ cltus_in (before ++ signals_of_octets (sent_octets parameters frame)) (earlier ++ frame ∷ []) writings

  abbrev pub cltus_of : List Signal → List (List ℕ) → SentStretch → List PlacedCltu
  cltus_of before earlier one =
      cltus_in (before ++ (goes_up ∷ signals_of_octets (repeated parameters.idle one.acquisition))) earlier one.writings

  abbrev pub cltus_of_closed : List Signal → List (List ℕ) → List SentStretch → List PlacedCltu
  cltus_of_closed before earlier [] = []
  cltus_of_closed before earlier (one ∷ more) =
      cltus_of before earlier one
      ++ cltus_of_closed (before ++ closed_signals one) (earlier ++ frames_in one.writings) more

  abbrev pub cltus_of_opened : List Signal → List (List ℕ) → Option SentStretch → List PlacedCltu
  cltus_of_opened before earlier None = []
  cltus_of_opened before earlier (Some one) = cltus_of before earlier one

  abbrev pub cltus_on : Stretches → List PlacedCltu
  cltus_on on =
      cltus_of_closed [] [] on.closed
      ++ cltus_of_opened (flat_map closed_signals on.closed) (frames_of_closed on.closed) on.opened

-- what a receiver hears by events, whose carrier is up or down before them: what it refuses it does not hear, and a
-- release is none of it
abbrev pub heard : (up : Bool) → List Event → List Signal
heard up [] = []
heard false (carrier_up ∷ es) = goes_up ∷ heard true es
heard true (carrier_up ∷ es) = heard true es
heard false (carrier_down ∷ es) = heard false es
heard true (carrier_down ∷ es) = goes_down ∷ heard false es
heard false (symbol b ∷ es) = heard false es
heard true (symbol b ∷ es) = bit b ∷ heard true es
heard false (release ∷ es) = heard false es
heard true (release ∷ es) = heard true es

-- whether the carrier is up behind them
abbrev pub up_after : (up : Bool) → List Event → Bool
up_after up [] = up
up_after up (carrier_up ∷ es) = up_after true es
up_after up (carrier_down ∷ es) = up_after false es
up_after up (symbol b ∷ es) = up_after up es
up_after up (release ∷ es) = up_after up es
