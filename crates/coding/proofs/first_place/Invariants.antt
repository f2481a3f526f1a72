-- The loop of `first_place`: the power of X at the degree, and that the search from here on is the whole search. Assumes nothing.
use Rattle.std.proofs.Common.{◌≡◌, ◌-◌, ◌<◌}
use Rattle.bch.specs.Reception.{power_remainder, place_from}
use Rattle.coding.proofs.first_place.Given as goal

abbrev pub invariant-loop-degree : goal.invariant-loop-degree
invariant-loop-degree l = (l.power ≡ power_remainder l.degree) × (l.power < 64) × (place_from l.degree (l.degrees - l.degree) l.number ≡ place_from 0 l.degrees l.number)
