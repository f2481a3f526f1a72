-- What is written part by part. Assumes nothing.
use Rattle.std.proofs.Common.{◌≡◌, ℕ, suc, Bool, not, List, [], ◌∷◌, ◌++◌, Option, Some, None, refl, sym, ap, ◌∙◌, append_assoc}
use Rattle.std.specs.Option.{option_map}
use Rattle.reception.specs.Runs.{idle}
use Rattle.drive_lines.specs.Words.{before, all_written}

pub none_before : {X : Type 0} (o : Option (List X)) → option_map (λ xs. [] ++ xs) o ≡ o
none_before None = refl
none_before (Some xs) = refl

one_behind : {X : Type 0} (done : List X) (x : X) (o : Option (List X)) → option_map (λ xs. (done ++ x ∷ []) ++ xs) o ≡ option_map (λ xs. done ++ xs) (option_map (λ xs. x ∷ xs) o)
one_behind done x None = refl
one_behind done x (Some xs) = ap Some (append_assoc done (x ∷ []) xs)

-- one part more is read
pub one_more : {X Y : Type 0} (f : X → Option Y) (done : List Y) (x : X) (y : Y) (further : List X) → f x ≡ Some y →
    option_map (λ xs. (done ++ y ∷ []) ++ xs) (all_written f further) ≡ option_map (λ xs. done ++ xs) (all_written f (x ∷ further))
one_more f done x y further e =
    one_behind done y (all_written f further) ∙ ap (λ o. option_map (λ xs. done ++ xs) (before o (all_written f further))) (sym e)

-- one bit more of idle
pub one_bit_more : (done : List Bool) (bit : Bool) (n m : ℕ) → n ≡ suc m → (done ++ bit ∷ []) ++ idle (not bit) m ≡ done ++ idle bit n
one_bit_more done bit n m e = append_assoc done (bit ∷ []) (idle (not bit) m) ∙ ap (λ k. done ++ idle bit k) (sym e)
