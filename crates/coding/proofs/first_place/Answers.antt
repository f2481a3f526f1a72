-- What `first_place` leaves to show: the turns of its loop over the degrees. Assumes nothing.
use Rattle.std.proofs.Common.{◌≡◌, suc, ◌-◌, ◌*◌, ◌%◌, ◌<◌, sym, refl, ap, ◌∙◌, subst, add-one, arith}
use Rattle.bch.specs.Polynomial.{divided, remainder}
use Rattle.bch.specs.Reception.{syndrome_polynomial, place_from}
use Rattle.bch.proofs.Places.{place_here, place_later}
use Rattle.coding.proofs.Received.{next_power, power_below}
use Rattle.coding.proofs.first_place.Goals as goal

pub loop-degree-init : goal.loop-degree-init
unfolding divided
loop-degree-init c = (refl, omega arith, (let all : c.args.degrees - 0 ≡ c.args.degrees = omega arith in ap (λ k. place_from 0 k c.args.number) all))

pub returns-then-power-number : goal.returns-then-power-number
returns-then-power-number c =
    let inv = c.loop-degree.invariant in
    let d = c.loop-degree.degree in
    let one_more : c.args.degrees - d ≡ suc (c.args.degrees - suc d) = omega arith in
    sym (sym inv.2 ∙ ap (λ k. place_from d k c.args.number) one_more ∙ place_here d (c.args.degrees - suc d) c.args.number (sym inv.0 ∙ c.if-power-number.true))

pub loop-degree-preserved : goal.loop-degree-preserved
loop-degree-preserved c =
    let inv = c.loop-degree.invariant in
    let d = c.loop-degree.degree in
    let power = c.loop-degree.power in
    let one_more : c.args.degrees - d ≡ suc (c.args.degrees - suc d) = omega arith in
    let whole : power * 2 % 256 ≡ power * 2 = omega arith in
    let next = c.reduced-power.ensures.value ∙ ap (remainder syndrome_polynomial 6) whole ∙ next_power d power (omega arith) inv.0 in
    let rest = sym (ap (λ k. place_from d k c.args.number) one_more ∙ place_later d (c.args.degrees - suc d) c.args.number (λ here. c.if-power-number.false (inv.0 ∙ here))) ∙ inv.2 in
    rw (add-one d) (next, subst (λ x. x < 64) (sym next) (power_below (suc d) (omega arith)), rest)

pub returns : goal.returns
unfolding place_from
returns c =
    let inv = c.loop-degree.invariant in
    let d = c.loop-degree.degree in
    let none_left : c.args.degrees - d ≡ 0 = omega arith in
    sym (sym inv.2 ∙ ap (λ k. place_from d k c.args.number) none_left)
