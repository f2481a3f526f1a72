-- What is promised of cutting: the parts lie end to end and are the candidate, and what a sender sent comes back.
-- Assumes nothing.
use Rattle.std.specs.Prelude.{◌≡◌, ℕ, ◌+◌, ◌<◌, ◌≤◌, List, [], ◌∷◌, ◌++◌, length, take, drop, replicate, Some, None}
use Rattle.std.specs.List.{flat_map, AllByRecursion}
use Rattle.cltu.specs.Cltu.{fill_octet, fill_for, filled}
use Rattle.cutting.specs.Cutting.{header_octets, version, length_by_header, most_fill, Kind, frame, fill, Part, part, cutting}

-- octets are a frame: of version 00, and as many as the header tells, five at least
pub record IsFrame (octets : List ℕ) : Type 0 where
  pub version_00 : version octets ≡ 0
  pub least : header_octets ≤ length octets
  pub told : length_by_header octets ≡ length octets

-- octets are fill: one to six, each 55
pub record IsFill (octets : List ℕ) : Type 0 where
  pub some : 0 < length octets
  pub most : length octets ≤ most_fill
  pub each : AllByRecursion (λ x. x ≡ fill_octet) octets

abbrev pub IsOfKind : Kind → List ℕ → Type 0
IsOfKind frame octets = IsFrame octets
IsOfKind fill octets = IsFill octets

-- each part is what its kind says
abbrev pub EachOfItsKind : List Part → Type 0
EachOfItsKind parts = AllByRecursion (λ p. IsOfKind p.kind p.octets) parts

-- each part begins where the one before it ends, the first at one place, and the last ends at another
abbrev pub EndToEnd : ℕ → List Part → ℕ → Type 0
EndToEnd from [] to = from ≡ to
EndToEnd from (p ∷ parts) to = (p.place ≡ from) × EndToEnd (from + length p.octets) parts to

-- behind fill there is no part
abbrev pub NothingBehindFill : List Part → Type 0
NothingBehindFill [] = Unit {0}
NothingBehindFill (p ∷ parts) = (p.kind ≡ fill → parts ≡ []) × NothingBehindFill parts

abbrev pub put_together : List Part → List ℕ
put_together parts = flat_map (λ p. p.octets) parts

-- parts make up these octets
pub record MakeUp (octets : List ℕ) (parts : List Part) : Type 0 where
  pub end_to_end : EndToEnd 0 parts (length octets)
  pub kinds : EachOfItsKind parts
  pub last : NothingBehindFill parts
  pub together : put_together parts ≡ octets

-- the parts of a candidate that is cut to its end make it up
abbrev pub CutWhole : Type 0
CutWhole = (candidate : List ℕ) → (cutting candidate).refused_at ≡ None → MakeUp candidate (cutting candidate).parts

-- octets begin with no part: they are no fill, and no frame is in front of them
pub record Neither (octets : List ℕ) : Type 0 where
  pub no_fill : IsFill octets → ⊥
  pub no_frame : (count : ℕ) → IsFrame (take count octets) → ⊥

-- where cutting is refused, the parts make up what is before that place, and something is left there that begins with
-- no part
pub record MakeUpTill (place : ℕ) (candidate : List ℕ) (parts : List Part) : Type 0 where
  pub before : MakeUp (take place candidate) parts
  pub left : place < length candidate
  pub neither : Neither (drop place candidate)

abbrev pub CutTillRefused : Type 0
CutTillRefused =
    (candidate : List ℕ) (place : ℕ)
    → (cutting candidate).refused_at ≡ Some place
    → MakeUpTill place candidate (cutting candidate).parts

-- frames as parts from a place on, end to end
abbrev pub frames_from : ℕ → List (List ℕ) → List Part
frames_from place [] = []
frames_from place (octets ∷ frames) = part frame place octets ∷ frames_from (place + length octets) frames

-- fill as a part, if there is any
abbrev pub fill_from : ℕ → List ℕ → List Part
fill_from place [] = []
fill_from place (x ∷ octets) = part fill place (x ∷ octets) ∷ []

abbrev pub end_to_end : List (List ℕ) → List ℕ
end_to_end frames = flat_map (λ octets. octets) frames

-- frames laid end to end, and filled as a sender fills, are cut to the end into these frames and that fill
abbrev pub ComesBack : List (List ℕ) → Type 0
ComesBack frames =
    let sent = end_to_end frames in
    let fill_behind = replicate (fill_for (length sent)) fill_octet in
    cutting (filled sent)
    ≡ record { parts = frames_from 0 frames ++ fill_from (length sent) fill_behind; refused_at = None }

abbrev pub SentComesBack : Type 0
SentComesBack = (frames : List (List ℕ)) → AllByRecursion IsFrame frames → ComesBack frames
