-- Rows behind rows. Assumes nothing.
use Rattle.std.proofs.Common.{◌≡◌, ℕ, ◌+◌, ◌<◌, List, [], ◌++◌, length, get_or, take, ap, ap₂, sym, ◌∙◌, subst, Option, append_assoc, append-nil}
use Rattle.std.proofs.lemmas.List.{take_more, map-append}
use Rattle.std.proofs.lemmas.Grind.{flat_map-append}
use Rattle.std.proofs.lemmas.List.Elements.{All-append}
use Rattle.bch.specs.declared.Mode.{Mode}
use Rattle.cltu.specs.declared.limit.CodeblockLimit.{CodeblockLimit}
use Rattle.guard_times.specs.declared.bit_rate.BitRate.{BitRate}
use Rattle.guard_times.specs.declared.guard_time.GuardTime.{GuardTime}
use Rattle.guard_times.specs.declared.row.Row.{Row}
use Rattle.guard_times.specs.Rows.{TellsItsGuard, guards_of_limit, guards_asked, guard_of, AreRowsOf, AddsRows}

module _ (rate : Option BitRate) where
  joined : (a b : List GuardTime) (rows more : List Row) → AreRowsOf a rate rows → AreRowsOf b rate more → AreRowsOf (a ++ b) rate (rows ++ more)
  joined a b rows more first second = record {
    guards_are = map-append guard_of rows more ∙ ap₂ (λ x y. x ++ y) first.guards_are second.guards_are;
    tell = All-append (TellsItsGuard rate) rows more first.tell second.tell;
  }

  pub added_twice : (a b : List GuardTime) (first second third : List Row) → AddsRows a rate first second → AddsRows b rate second third → AddsRows (a ++ b) rate first third
  added_twice a b first second third one other = record {
    more = one.more ++ other.more;
    behind = other.behind ∙ ap (λ l. l ++ other.more) one.behind ∙ append_assoc first one.more other.more;
    are = joined a b one.more other.more one.are other.are;
  }

  pub a_limit_more : (mode : Option Mode) (limits : List CodeblockLimit) (i : ℕ) (limit : CodeblockLimit) (old new : List Row)
      → i < length limits → limit ≡ get_or limits i limit
      → AreRowsOf (guards_asked mode (take i limits)) rate old → AddsRows (guards_of_limit mode limit) rate old new
      → AreRowsOf (guards_asked mode (take (i + 1) limits)) rate new
  a_limit_more mode limits i limit old new within is are adds =
      let f = guards_of_limit mode in
      let last : f (get_or limits i limit) ++ [] ≡ f limit = append-nil _ ∙ ap f (sym is) in
      let all : guards_asked mode (take (i + 1) limits) ≡ guards_asked mode (take i limits) ++ f limit =
      ap (guards_asked mode) (take_more limits i limit within) ∙ flat_map-append f (take i limits) _ ∙ ap (λ l. guards_asked mode (take i limits) ++ l) last in
      subst (λ l. AreRowsOf l rate new) (sym all)
      (subst (AreRowsOf _ rate) (sym adds.behind) (joined _ _ old adds.more are adds.are))
