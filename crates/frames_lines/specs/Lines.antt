-- The lines for a part of a candidate, for a refusal, and for a whole cutting, each with its end. Assumes nothing.
use Rattle.std.specs.Prelude.{ℕ, ◌+◌, refl, List, [], ◌∷◌, ◌++◌, length, Option, Some, None, codes, decimal}
use Rattle.refusals.specs.declared.Refusal.{Refusal}
use Rattle.refusals.specs.declared.Refusal.TheVariants.{NeitherFrameNorFill}
use Rattle.refusals.specs.Numbers.{refusal_text}
use Rattle.hex.specs.Hex.{encode_upper as capital_digits}
use Rattle.answered_lines.specs.Meaning.{Meaning, FurtherOctetsChangeNothing}
use Rattle.cutting.specs.Cutting.{Kind, frame, fill, Part, Cutting, cutting}

-- a frame is told with its octets in capitals, fill without
abbrev pub line_of_kind : Kind → Part → List ℕ
line_of_kind frame p =
    codes "frame " ++ (decimal p.place ++ (codes " " ++ (decimal (length p.octets) ++ (codes " "
    ++ (capital_digits p.octets ++ codes "\n")))))
line_of_kind fill p = codes "fill " ++ (decimal p.place ++ (codes " " ++ (decimal (length p.octets) ++ codes "\n")))

abbrev pub part_line : Part → List ℕ
part_line p = line_of_kind p.kind p

-- a refusal by its text, and that of cutting with the place where it arose
abbrev pub refusal_line : Refusal → List ℕ
refusal_line (NeitherFrameNorFill place) =
    refusal_text (NeitherFrameNorFill place) ++ (codes " " ++ (decimal place ++ codes "\n"))
refusal_line refusal = refusal_text refusal ++ codes "\n"

abbrev pub refusal_lines : Option ℕ → List ℕ
refusal_lines None = []
refusal_lines (Some place) = refusal_line (NeitherFrameNorFill place)

-- the lines of the parts, and behind them that of the refusal, if cutting is refused
abbrev pub lines_of : List Part → Option ℕ → List ℕ
lines_of [] refused_at = refusal_lines refused_at
lines_of (p ∷ parts) refused_at = part_line p ++ lines_of parts refused_at

abbrev pub cutting_lines : Cutting → List ℕ
cutting_lines cut = lines_of cut.parts cut.refused_at

-- how many frames there are
abbrev pub counts_as : Kind → ℕ
counts_as frame = 1
counts_as fill = 0

abbrev pub frames_in : List Part → ℕ
frames_in [] = 0
frames_in (p ∷ parts) = counts_as p.kind + frames_in parts

-- a candidate is answered by the lines of its cutting, and counts the frames in them; notice is taken of all its octets
abbrev pub frames_meaning : Meaning
frames_meaning = record {
  text = λ candidate. cutting_lines (cutting candidate);
  count = λ candidate. frames_in (cutting candidate).parts;
  most = None;
}

pub further_octets : FurtherOctetsChangeNothing frames_meaning
further_octets = record { text = λ octets. refl; count = λ octets. refl }
