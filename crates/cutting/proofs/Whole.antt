-- The parts of a cutting make up what is cut. Assumes nothing.
use Rattle.std.proofs.Common.{◌≡◌, ℕ, zero, suc, ◌+◌, ◌-◌, ◌<◌, ◌≤◌, List, [], ◌∷◌, ◌++◌, length, take, drop, Option, Some, None, sym, refl, ap, ◌∙◌, subst, ap₂, zero-add, add_assoc, arith}
use Rattle.std.proofs.lemmas.List.{length-drop, length-take-le, take_all, drop-drop, drop_all}
use Rattle.std.proofs.Math.Seq.{take-add}
use Rattle.std.proofs.lemmas.Option.{none-some}
use Rattle.cutting.specs.Cutting.{Part, part_in_front, Cutting, cut_from}
use Rattle.cutting.specs.Laws.{EachOfItsKind, EndToEnd, NothingBehindFill, put_together, CutWhole, CutTillRefused}
use Rattle.cutting.proofs.Sent.{neither}
use Rattle.cutting.proofs.Parts.{some_same, StandsInFront, part_stands, cut_behind_part, cut_refused}

-- a cutting of octets left at a place, whose parts have so many of them
record Made (place : ℕ) (left : List ℕ) (cut : Cutting) (taken : ℕ) : Type 0 where
  within : taken ≤ length left
  end_to_end : EndToEnd place cut.parts (place + taken)
  kinds : EachOfItsKind cut.parts
  last : NothingBehindFill cut.parts
  together : put_together cut.parts ≡ take taken left
  whole : cut.refused_at ≡ None → taken ≡ length left
  refused : (at : ℕ) → cut.refused_at ≡ Some at → (at ≡ place + taken) × (taken < length left) × (part_in_front at (drop taken left) ≡ None)

abbrev Cut : (place : ℕ) (left : List ℕ) → Cutting → Type 0
Cut place left cut = (taken : ℕ) × Made place left cut taken

nothing_left : (place : ℕ) → Cut place [] (cut_from place 0 [])
nothing_left place = (
  0,
  record {
    within = omega arith;
    end_to_end = omega arith;
    kinds = tt;
    last = tt;
    together = refl;
    whole = λ _. refl;
    refused = λ at e. absurd (none-some at e);
  },
)

no_part : (place : ℕ) (left : List ℕ) → 0 < length left → part_in_front place left ≡ None → Cut place left (record { parts = []; refused_at = Some place })
no_part place left some none = (
  0,
  record {
    within = omega arith;
    end_to_end = omega arith;
    kinds = tt;
    last = tt;
    together = refl;
    whole = λ e. absurd (none-some place (sym e));
    refused = λ at e.
        let same : place ≡ at = some_same e in
        (omega arith, some, subst (λ q. part_in_front q left ≡ None) same none);
  },
)

-- a part in front of a cutting
one_more : (place : ℕ) (left : List ℕ) (p : Part) → StandsInFront place left p →
    let rest = cut_from (place + length p.octets) 0 (drop (length p.octets) left) in
    Cut (place + length p.octets) (drop (length p.octets) left) rest → Cut place left (record { parts = p ∷ rest.parts; refused_at = rest.refused_at })
one_more place left p stands (taken, made) =
    let count = length p.octets in
    let size : length (drop count left) ≡ length left - count = length-drop count left in (
      count + taken,
      record {
        within = omega (arith, made.within, stands.within);
        end_to_end = (stands.at, subst (EndToEnd (place + count) _) (add_assoc place count taken) made.end_to_end);
        kinds = (stands.kind, made.kinds);
        last = (
          (λ k.
              let none : drop count left ≡ [] = drop_all count left (omega (arith, stands.all k)) in
              ap (λ l. (cut_from (place + count) 0 l).parts) none),
          made.last,
        );
        together = ap₂ (λ a b. a ++ b) stands.front made.together ∙ sym (take-add count taken left);
        whole = λ e. omega (arith, made.whole e, stands.within);
        refused = λ at e.
            let known = made.refused at e in
            (omega (arith, known.0), omega (arith, known.1), ap (part_in_front at) (sym (drop-drop taken count left)) ∙ known.2);
      },
    )

-- by the part that octets begin with, if the rest behind it is cut so
by_front : (n place : ℕ) (left : List ℕ) → ((at : ℕ) (rest : List ℕ) → length rest ≤ n → Cut at rest (cut_from at 0 rest)) → 0 < length left → length left ≤ suc n →
    (front : Option Part) → part_in_front place left ≡ front → Cut place left (cut_from place 0 left)
by_front n place left shorter some most None e = subst (Cut place left) (sym (cut_refused place left some e)) (no_part place left some e)
by_front n place left shorter some most (Some p) e =
    let stands = part_stands place left some p e in
    let count = length p.octets in
    subst (Cut place left) (sym (cut_behind_part place left p some e stands.some))
    (one_more place left p stands (shorter (place + count) (drop count left) (omega (arith, length-drop count left, stands.some))))

made_by : (n place : ℕ) (left : List ℕ) → length left ≤ n → Cut place left (cut_from place 0 left)
made_by n place [] h = nothing_left place
made_by zero place (x ∷ octets) h = absurd (omega arith)
made_by (suc n) place (x ∷ octets) h = by_front n place (x ∷ octets) (made_by n) (omega arith) h (part_in_front place (x ∷ octets)) refl

pub cut_whole : CutWhole
cut_whole candidate e =
    let (taken, made) = made_by (length candidate) 0 candidate (omega arith) in
    let all : taken ≡ length candidate = made.whole e in
    record {
      end_to_end = subst (EndToEnd 0 _) (zero-add taken ∙ all) made.end_to_end;
      kinds = made.kinds;
      last = made.last;
      together = made.together ∙ take_all taken candidate (omega arith);
    }

pub cut_till_refused : CutTillRefused
cut_till_refused candidate place e =
    let (taken, made) = made_by (length candidate) 0 candidate (omega arith) in
    let known = made.refused place e in
    let there : taken ≡ place = omega (arith, known.0) in
    record {
      before = record {
        end_to_end = subst (EndToEnd 0 _) (zero-add taken ∙ there ∙ sym (length-take-le place candidate (omega (arith, known.1)))) made.end_to_end;
        kinds = made.kinds;
        last = made.last;
        together = made.together ∙ ap (λ n. take n candidate) there;
      };
      left = omega (arith, known.1);
      neither = neither place (drop place candidate) (ap (λ n. part_in_front place (drop n candidate)) (sym there) ∙ known.2);
    }
