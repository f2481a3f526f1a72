-- Idle that is written bit by bit. Assumes nothing.
use Rattle.std.proofs.Common.{◌≡◌, ℕ, zero, suc, ◌+◌, ◌<◌, ◌≤◌, Bool, not, List, [], ◌∷◌, ◌++◌, length, drop, get_or, refl, sym, ap, ◌∙◌, append_assoc, append-nil, arith}
use Rattle.std.proofs.Math.ListN.{set}
use Rattle.std.proofs.Math.Seq.{set-append_seam}
use Rattle.std.proofs.lemmas.List.{drop_more, drop_all}
use Rattle.reception.specs.Runs.{idle}

length_idle : (first : Bool) (n : ℕ) → length (idle first n) ≡ n
length_idle first zero = refl
length_idle first (suc n) = ap suc (length_idle (not first) n)

-- the first bits of the memory are idle, which goes on with the bit `next`, and the others are as they were
pub record IdleSoFar (first next : Bool) (count : ℕ) (before now : List Bool) : Type 0 where
  pub written : now ≡ idle first count ++ drop count before
  pub going_on : (more : ℕ) → idle first count ++ idle next more ≡ idle first (count + more)

pub none_so_far : (first : Bool) (before : List Bool) → IdleSoFar first first 0 before before
none_so_far first before = record { written = refl; going_on = λ more. ap (idle first) (zero_more more) }
  where
    zero_more : (n : ℕ) → n ≡ 0 + n
    zero_more n = omega arith

pub one_bit_more : (first next : Bool) (count : ℕ) (before now : List Bool) → count < length before → IdleSoFar first next count before now →
    IdleSoFar first (not next) (count + 1) before (set now count next)
one_bit_more first next count before now within so_far =
    let rest = drop (count + 1) before in
    let here = get_or before count next in
    record {
      written =
          ap (λ l. set l count next) (so_far.written ∙ ap (λ l. idle first count ++ l) (drop_more before count next within))
          ∙ ap (λ n. set (idle first count ++ here ∷ rest) n next) (sym (length_idle first count))
          ∙ set-append_seam (idle first count) here rest next
          ∙ sym (append_assoc (idle first count) (next ∷ []) rest)
          ∙ ap (λ l. l ++ rest) (so_far.going_on 1);
      going_on = λ more.
          ap (λ l. l ++ idle (not next) more) (sym (so_far.going_on 1))
          ∙ append_assoc (idle first count) (next ∷ []) (idle (not next) more)
          ∙ so_far.going_on (suc more)
          ∙ ap (idle first) (one_on count more);
    }
  where
    one_on : (n m : ℕ) → n + suc m ≡ n + 1 + m
    one_on n m = omega arith

pub all_idle : (first next : Bool) (count : ℕ) (before now : List Bool) → length before ≤ count → IdleSoFar first next count before now → count ≡ length before → now ≡ idle first (length before)
all_idle first next count before now past so_far whole =
    so_far.written ∙ ap (λ l. idle first count ++ l) (drop_all count before past) ∙ append-nil (idle first count) ∙ ap (idle first) whole
