-- Which segments a record holds, and that its octets give them back. Assumes nothing.
use Rattle.std.proofs.Common.{◌≡◌, ◌≢◌, ℕ, ◌<◌, ◌≤◌, Bool, true, false, ◌&&◌, List, [], ◌∷◌, ◌++◌, map, length, nat_lt, nat_le, take, drop, sym, refl, ap, ◌∙◌, subst, arith}
use Rattle.std.specs.List.{list_all, AllByRecursion}
use Rattle.std.proofs.lemmas.Bool.{false≢true, and_parts, leb-true, ltb-true}
use Rattle.std.proofs.lemmas.Bool.Decides.{nat_tests}
use Rattle.std.proofs.lemmas.List.{take_at}
use Rattle.std.proofs.lemmas.List.Folds.{list_all-map}
use Rattle.pass_record.specs.Record.{record_of, IsRecord}
use Rattle.pass_record.specs.Reading.{told_segments}
use Rattle.pass_record.specs.Writing.{HasNoRecord, holdable, ReadBackFrom}
use Rattle.pass_record.proofs.Places.{segments_are_told}

tested_few : (n : ℕ) → n ≤ 65535 → nat_le n 65535 ≡ true
tested_few n h = grind (arith, nat_tests)

-- each segment has a symbol, by test and as a fact
abbrev each : List (List Bool) → Bool
each segments = list_all (λ segment. nat_lt 0 (length segment)) segments

pub each_of : {X : Type 0} (symbols_of : X → List Bool) (xs : List X) → each (map symbols_of xs) ≡ list_all (λ x. nat_lt 0 (length (symbols_of x))) xs
each_of symbols_of xs = list_all-map (λ segment. nat_lt 0 (length segment)) symbols_of xs

some_tested : (segments : List (List Bool)) → AllByRecursion (λ segment. 0 < length segment) segments → each segments ≡ true
some_tested [] h = refl
some_tested (s ∷ rest) h = grind (arith, nat_tests, some_tested rest h.1)

tested_some : (segments : List (List Bool)) → each segments ≡ true → AllByRecursion (λ segment. 0 < length segment) segments
tested_some [] e = tt
tested_some (s ∷ rest) e =
    let parts = and_parts (nat_lt 0 (length s)) (each rest) e in
    (ltb-true 0 (length s) parts.0, tested_some rest parts.1)

pub held : (segments : List (List Bool)) → holdable segments ≡ true → IsRecord (record_of segments) segments
held segments e =
    let parts = and_parts (each segments) (nat_le (length (record_of segments)) 65535) e in
    record {
      layout = refl;
      most = leb-true (length (record_of segments)) 65535 parts.1;
      some = tested_some segments parts.0;
    }

pub not_held : (segments : List (List Bool)) → holdable segments ≡ false → HasNoRecord segments
not_held segments e octets is =
    let few : nat_le (length (record_of segments)) 65535 ≡ true = tested_few (length (record_of segments)) (omega (arith, ap length is.layout, is.most)) in
    false≢true (sym e ∙ ap (λ b. b && nat_le (length (record_of segments)) 65535) (some_tested segments is.some) ∙ few)

pub read_back : (octets : List ℕ) (segments : List (List Bool)) → IsRecord octets segments → ReadBackFrom segments octets
read_back octets segments is pass e = ap told_segments e ∙ sym (segments_are_told octets segments is)

pub ruleset kept = (each_of, held, not_held, nat_tests)

pub ruleset written = (read_back, take_at)
