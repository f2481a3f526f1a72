-- A stretch: the octets that a session writes from an acquisition to the break behind it. Assumes nothing.
use Rattle.std.specs.Prelude.{ℕ, List, [], ◌∷◌, ◌++◌, replicate}
use Rattle.std.specs.List.{flat_map}
use Rattle.randomizer.specs.declared.Randomizer.{Randomizer}
use Rattle.cltu.specs.Cltu.{cltu}
use Rattle.procedures.specs.declared.Plop.{Plop}
use Rattle.procedures.specs.declared.Plop.TheVariants.{One, Two}
use Rattle.procedures.specs.declared.IdleOctet.{IdleOctet}
use Rattle.procedures.specs.declared.IdleOctet.TheVariants.{ZeroFirst, OneFirst}

-- the octet that acquisition and idle sequences repeat
abbrev pub idle_octet : IdleOctet → ℕ
idle_octet ZeroFirst = 0x55
idle_octet OneFirst = 0xAA

abbrev pub repeated : IdleOctet → ℕ → List ℕ
repeated idle octets = replicate octets (idle_octet idle)

-- how many idle octets come behind each CLTU
abbrev pub idle_behind : Plop → ℕ
idle_behind One = 0
idle_behind Two = 1

-- what the octets of a session depend on
pub record Parameters : Type 0 where
  pub plop : Plop
  pub randomizer : Randomizer
  pub idle : IdleOctet

-- a frame's CLTU with the idle octets of the procedure
abbrev pub sent_octets : Parameters → List ℕ → List ℕ
sent_octets parameters frame =
    cltu parameters.randomizer frame ++ repeated parameters.idle (idle_behind parameters.plop)

-- what may be written behind an acquisition: so many idle octets, or a frame
pub data Writing : Type 0 where
  idles : (octets : ℕ) → Writing
  sends : (frame : List ℕ) → Writing

abbrev pub octets_in : Parameters → Writing → List ℕ
octets_in parameters (idles octets) = repeated parameters.idle octets
octets_in parameters (sends frame) = sent_octets parameters frame

abbrev pub stretch_octets : Parameters → (acquisition : ℕ) → List Writing → List ℕ
stretch_octets parameters acquisition writings =
    repeated parameters.idle acquisition ++ flat_map (octets_in parameters) writings

-- the frames among them, in order
abbrev pub frames_in : List Writing → List (List ℕ)
frames_in [] = []
frames_in (idles octets ∷ writings) = frames_in writings
frames_in (sends frame ∷ writings) = frame ∷ frames_in writings
