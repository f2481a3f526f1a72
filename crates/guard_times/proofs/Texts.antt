-- Texts that write limits, or a rate. Assumes nothing.
use Rattle.std.proofs.Common.{◌≡◌, ℕ, zero, suc, ◌+◌, ◌<◌, List, [], ◌∷◌, ◌++◌, length, get_or, take, map, Option, Some, None, sym, subst, arith}
use Rattle.std.specs.List.{AllZip}
use Rattle.std.proofs.lemmas.List.{take_more, map-append}
use Rattle.clap.specs.Words.{Text}
use Rattle.guard_times.specs.declared.bit_rate.BitRate.{BitRate}
use Rattle.guard_times.specs.Arguments.{WritesRate, WritesAnyRate}

module _ {X A B : Type 0} (R : A → B → Type 0) (f : X → A) where
  push : (xs : List A) (ys : List B) (x : A) (y : B) → AllZip R xs ys → R x y → AllZip R (xs ++ x ∷ []) (ys ++ y ∷ [])
  push [] [] x y all one = (one, tt)
  push [] (b ∷ ys) x y all one = absurd all
  push (a ∷ xs) [] x y all one = absurd all
  push (a ∷ xs) (b ∷ ys) x y all one = (all.0, push xs ys x y all.1 one)

  -- a text more, and a limit that it writes
  pub one_more : (xs : List X) (ys : List B) (i : ℕ) (d : X) (y : B) → i < length xs → AllZip R (map f (take i xs)) ys → R (f (get_or xs i d)) y
      → AllZip R (map f (take (i + 1) xs)) (ys ++ y ∷ [])
  one_more xs ys i d y within all one =
      subst (λ l. AllZip R (map f l) (ys ++ y ∷ [])) (sym (take_more xs i d within))
      (subst (λ l. AllZip R l (ys ++ y ∷ [])) (sym (map-append f (take i xs) (get_or xs i d ∷ []))) (push (map f (take i xs)) ys (f (get_or xs i d)) y all one))

  -- where a text writes no limit, the texts write no limits
  pub none : (xs : List X) (i : ℕ) (d : X) → i < length xs → ((y : B) → R (f (get_or xs i d)) y → ⊥) → (ys : List B) → AllZip R (map f xs) ys → ⊥
  none [] i d within wrong ys all = absurd (omega (arith, within))
  none (x ∷ xs) i d within wrong [] all = all
  none (x ∷ xs) zero d within wrong (y ∷ ys) all = wrong y all.0
  none (x ∷ xs) (suc i) d within wrong (y ∷ ys) all = none xs i d (omega (arith, within)) wrong ys all.1

-- where a text writes no rate, none is asked for
no_rate_for : (text : Text) → ((rate : BitRate) → WritesRate text rate → ⊥) → (rate : Option BitRate) → WritesAnyRate (Some text) rate → ⊥
no_rate_for text wrong None asks = asks
no_rate_for text wrong (Some rate) asks = wrong rate asks

pub no_rate : (asked : Option Text) (text : Text) → Some text ≡ asked → ((rate : BitRate) → WritesRate text rate → ⊥) → (rate : Option BitRate) → WritesAnyRate asked rate → ⊥
no_rate asked text is wrong rate asks = no_rate_for text wrong rate (subst (λ o. WritesAnyRate o rate) (sym is) asks)
