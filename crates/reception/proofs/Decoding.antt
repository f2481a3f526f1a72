-- What a codeblock makes of an open candidate: it ends with none open, or goes on with one codeblock more and within the limit.
-- Nothing here knows of windows. Assumes nothing.
use Rattle.std.proofs.Common.{◌≡◌, ℕ, zero, suc, ◌+◌, ◌/◌, ◌<◌, ◌≤◌, Bool, true, false, cond, eqb, leb, List, [], ◌∷◌, ◌++◌, length, Some, None, Option, sym, refl, ap, ◌∙◌, subst, arith}
use Rattle.std.proofs.lemmas.List.{length-append}
use Rattle.std.proofs.lemmas.Bool.{leb-false}
use Rattle.bch.specs.declared.Mode.{Mode}
use Rattle.bch.specs.declared.Mode.TheVariants.{Detecting, Correcting}
use Rattle.bch.specs.declared.Accepted.{Accepted}
use Rattle.bch.specs.Reception.{wrong_place, corrected, judged, syndrome, verdict}
use Rattle.hold.specs.Candidates.{Candidate, Showing, shown_from, open_codeblocks, free_space, open_after_finish}
use Rattle.reception.specs.declared.Reason.TheVariants.{Long, Full}
use Rattle.reception.specs.declared.Report.{Report}
use Rattle.reception.specs.Symbols.{bit_value}
use Rattle.reception.specs.Decoding.{Settings, Held, abandoning, adding, added, Reading, reading, report, Decoded, goes_on, ends, closing, counting_in, decoded_by, decoded}

-- an accepted codeblock has seven octets
Seven : Option Accepted → Type 0
Seven (Some x) = length x.information ≡ 7
Seven None = Unit {0}

seven_corrected : (word : ℕ) (place : Option ℕ) → Seven (corrected word place)
unfolding Seven
seven_corrected word None = tt
seven_corrected word (Some d) = refl

seven_judged : (mode : Mode) (word p n : ℕ) → Seven (judged mode word p n)
unfolding Seven
seven_judged mode word zero zero = refl
seven_judged mode word zero (suc n) = tt
seven_judged Detecting word (suc p) n = tt
seven_judged Correcting word (suc p) n = seven_corrected word (wrong_place n)

pub length_shown_from : (showing : Showing) (place : ℕ) (xs : List ℕ) → length (shown_from showing place xs) ≡ length xs
length_shown_from showing place [] = refl
length_shown_from showing place (x ∷ xs) = ap suc (length_shown_from showing (suc place) xs)

abbrev pub IsOpen : Option Candidate → Type 0
IsOpen None = ⊥
IsOpen (Some candidate) = Unit {0}

abbrev pub held : ℕ → List Candidate → Option Candidate → Held
held capacity finished opened = record { capacity = capacity; finished = finished; opened = opened }

-- a candidate that had so many codeblocks, so many of them corrected, and ends
pub record Ended (codeblocks corrections : ℕ) (h : Held) (one : Report) : Type 0 where
  pub none_open : h.opened ≡ None
  pub told : one.codeblocks ≡ codeblocks
  pub corrected : one.corrections ≡ corrections

-- or goes on, with one more
pub record WentOn (limit codeblocks corrections : ℕ) (h : Held) (r : Reading) : Type 0 where
  pub is_open : IsOpen h.opened
  pub held : added h ≡ suc codeblocks
  pub counted : r.codeblocks ≡ suc codeblocks
  pub corrected : r.corrections ≤ suc corrections
  pub within : codeblocks < limit
  pub none_read : (r.count ≡ 0) × (r.word ≡ 0)

abbrev pub GoesRight : (limit codeblocks corrections : ℕ) → Decoded → Type 0
GoesRight limit codeblocks corrections (ends h one) = Ended codeblocks corrections h one
GoesRight limit codeblocks corrections (goes_on h r) = WentOn limit codeblocks corrections h r

closed : (candidate : Candidate) (n : ℕ) → length candidate / 7 ≡ suc n → open_after_finish (Some candidate) ≡ None
closed [] n e = absurd (omega arith)
closed (x ∷ xs) n e = refl

pub seven_more : (m n : ℕ) → m ≡ n + 7 → m / 7 ≡ suc (n / 7)
seven_more m n e = omega arith

one_more : (k : ℕ) (c : Bool) → k + bit_value c ≤ suc k
one_more k true = omega arith
one_more k false = omega arith

module _ (settings : Settings) (showing : Showing) (K : ℕ) (F : List Candidate) where
  closing_right : (opened : Option Candidate) (n k : ℕ) → IsOpen opened → open_codeblocks opened ≡ n →
      GoesRight settings.limit n k (closing (held K F opened) n k)
  closing_right None n k o e = absurd o
  closing_right (Some candidate) zero k o e = record { none_open = refl; told = refl; corrected = refl }
  closing_right (Some candidate) (suc n) k o e = record { none_open = closed candidate n e; told = refl; corrected = refl }

  counting_right : (candidate : Candidate) (n k : ℕ) (octets : List ℕ) (c : Bool) → length candidate / 7 ≡ n → length octets ≡ 7 →
      GoesRight settings.limit n k (counting_in settings showing (held K F (Some candidate)) n k octets c)
  counting_right candidate n k octets c e seven = by (leb settings.limit n) (eqb (free_space K F (Some candidate)) 0) refl refl
    where
      by : (many full : Bool) → leb settings.limit n ≡ many → eqb (free_space K F (Some candidate)) 0 ≡ full →
          GoesRight settings.limit n k
          (cond many (ends (abandoning (held K F (Some candidate))) (report Long n k))
          (cond full (ends (abandoning (held K F (Some candidate))) (report Full n k))
          (goes_on (adding showing (held K F (Some candidate)) octets) (reading 0 0 (suc n) (k + bit_value c)))))
      by true full m f = record { none_open = refl; told = refl; corrected = refl }
      by false true m f = record { none_open = refl; told = refl; corrected = refl }
      by false false m f =
          let shown = shown_from showing (length candidate) octets in
          let longer = length-append candidate shown ∙ ap (λ n. length candidate + n) (length_shown_from showing (length candidate) octets ∙ seven) in
          let after = subst (λ o. IsOpen o × (open_codeblocks o ≡ suc n))
          (ap (λ full. cond full (Some candidate) (Some (candidate ++ shown))) (sym f))
          (tt, seven_more (length (candidate ++ shown)) (length candidate) longer ∙ ap suc e) in
          record {
            is_open = after.0;
            held = after.1;
            counted = refl;
            corrected = one_more k c;
            within = leb-false settings.limit n m;
            none_read = (refl, refl);
          }

  decoded_right : (opened : Option Candidate) (n k : ℕ) (v : Option Accepted) → IsOpen opened → open_codeblocks opened ≡ n → Seven v →
      GoesRight settings.limit n k (decoded_by settings showing (held K F opened) n k v)
  unfolding Seven
  decoded_right None n k v o e seven = absurd o
  decoded_right (Some candidate) n k None o e seven = closing_right (Some candidate) n k tt e
  decoded_right (Some candidate) n k (Some x) o e seven = counting_right candidate n k x.information x.corrected e seven

pub codeblock_goes_right : (settings : Settings) (showing : Showing) (h : Held) (n k word : ℕ) → IsOpen h.opened → added h ≡ n →
    GoesRight settings.limit n k (decoded settings showing h n k word)
codeblock_goes_right settings showing h n k word o e =
    decoded_right settings showing h.capacity h.finished h.opened n k (verdict settings.mode word) o e
    (seven_judged settings.mode word (syndrome word).0 (syndrome word).1)
