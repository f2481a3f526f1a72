-- A text cut at the first place of an octet. Assumes nothing.
use Rattle.std.proofs.Common.{◌≡◌, ℕ, ◌+◌, ◌-◌, ◌<◌, ◌≤◌, Bool, true, false, cond, List, [], length, take, drop, Some, None, refl, sym, ap, ◌∙◌, nat_lt, arith}
use Rattle.std.specs.List.{position_or_len, position, before_first, after_first}
use Rattle.std.proofs.lemmas.Bool.Decides.{nat_tests}
use Rattle.std.proofs.lemmas.List.{take_all, drop_all, length-drop}
use Rattle.std.proofs.lemmas.Option.{cond_some, none-some}

module _ (p : ℕ → Bool) (text : List ℕ) where
  abbrev place : ℕ
  place = position_or_len p text

  place_is : (i : ℕ) → position p text ≡ Some i → place ≡ i
  place_is i e =
      by (nat_lt place (length text)) e
    where
      by : (b : Bool) → cond b (Some place) None ≡ Some i → place ≡ i
      by true is = cc
      by false is = cc

  past : position p text ≡ None → length text ≤ place
  past e = by (nat_lt place (length text)) refl e
    where
      by : (b : Bool) → nat_lt place (length text) ≡ b → cond b (Some place) None ≡ None → length text ≤ place
      by true is none = cc
      by false is none = grind (arith, nat_tests)

  pub front_found : (i : ℕ) → position p text ≡ Some i → take i text ≡ before_first p text
  front_found i e = ap (λ n. take n text) (sym (place_is i e))

  pub behind_found : (i : ℕ) → position p text ≡ Some i → take (length text - (i + 1)) (drop (i + 1) text) ≡ after_first p text
  behind_found i e =
      take_all (length text - (i + 1)) (drop (i + 1) text) (omega (arith, length-drop (i + 1) text)) ∙ ap (λ n. drop (n + 1) text) (sym (place_is i e))

  pub front_none : position p text ≡ None → text ≡ before_first p text
  front_none e = sym (take_all place text (past e))

  pub behind_none : position p text ≡ None → [] ≡ after_first p text
  behind_none e = let far = past e in sym (drop_all (place + 1) text (omega arith))

pub ruleset cuts = (front_found, behind_found, front_none, behind_none)
