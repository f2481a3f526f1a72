-- What is written of a candidate, and what comes. Assumes nothing.
use Rattle.std.proofs.Common.{◌≡◌, ℕ, zero, suc, ◌+◌, ◌-◌, ◌≤◌, List, [], ◌∷◌, ◌++◌, length, Option, Some, None, Ok, string_bytes, sym, ap, ◌∙◌, append_assoc, arith}
use Rattle.cutting.specs.Cutting.{Kind, frame, fill, Part, part_in_front, Cutting, cut_behind, cut_from, cutting}
use Rattle.cutting.specs.Items.{first_of_parts, behind_first, first_to_come, rest_to_come}
use Rattle.answered_lines.specs.declared.answering.Answer.{Answer}
use Rattle.frames_lines.specs.Lines.{part_line, lines_of, cutting_lines, counts_as, frames_in}
use Rattle.frames_lines.specs.Answers.{Writes}

-- what is written so far, with the lines of what is still to be cut, are the lines of the whole; and likewise the frames
pub record Written (whole to_come : Cutting) (answer : Answer) : Type 0 where
  pub text : string_bytes answer.text ++ cutting_lines to_come ≡ cutting_lines whole
  pub frames : answer.counted + frames_in to_come.parts ≡ frames_in whole.parts

counts_most : (k : Kind) → counts_as k ≤ 1
counts_most frame = omega arith
counts_most fill = omega arith

-- each frame has an octet of its own
few_frames_behind : (behind : ℕ → Cutting) (place size : ℕ) (front : Option Part) → ((n : ℕ) → frames_in (behind n).parts ≤ size) → frames_in (cut_behind behind place front).parts ≤ suc size
few_frames_behind behind place size None few = omega arith
few_frames_behind behind place size (Some p) few = omega (arith, counts_most p.kind, few (length p.octets))

few_frames_from : (place done : ℕ) (octets : List ℕ) → frames_in (cut_from place done octets).parts ≤ length octets
few_frames_from place done [] = omega arith
few_frames_from place (suc done) (x ∷ octets) = omega (arith, few_frames_from (suc place) done octets)
few_frames_from place zero (x ∷ octets) =
    few_frames_behind (λ n. cut_from (suc place) (n - 1) octets) place (length octets) (part_in_front place (x ∷ octets)) (λ n. few_frames_from (suc place) (n - 1) octets)

pub few_frames : (candidate : List ℕ) → frames_in (cutting candidate).parts ≤ length candidate
few_frames candidate = few_frames_from 0 0 candidate

first_is : (parts : List Part) (refused_at : Option ℕ) (p : Part) → Ok (Some p) ≡ first_of_parts parts refused_at → parts ≡ p ∷ behind_first parts
first_is [] None p is = cc
first_is [] (Some place) p is = cc
first_is (q ∷ parts) refused_at p is = let same : q ≡ p = cc in ap (λ x. x ∷ parts) same

module _ (whole : Cutting) (answer : Answer) (to_come : Cutting) (written : Written whole to_come answer) where
  -- an item comes, and its line is written
  module _ (p : Part) (is : Ok (Some p) ≡ first_to_come to_come) where
    comes : to_come.parts ≡ p ∷ behind_first to_come.parts
    comes = first_is to_come.parts to_come.refused_at p is

    pub one_more : (after : Answer) → Writes (part_line p) (counts_as p.kind) answer after → Written whole (rest_to_come to_come) after
    one_more after wrote =
        let rest = behind_first to_come.parts in
        record {
          text = ap (λ t. t ++ lines_of rest to_come.refused_at) wrote.text ∙ append_assoc (string_bytes answer.text) (part_line p) (lines_of rest to_come.refused_at)
              ∙ ap (λ parts. string_bytes answer.text ++ lines_of parts to_come.refused_at) (sym comes) ∙ written.text;
          frames = omega (arith, wrote.frames, written.frames, ap frames_in comes);
        }
