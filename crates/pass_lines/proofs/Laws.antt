-- Which symbols are wrong, and what a record is. Assumes nothing.
use Rattle.std.proofs.Common.{◌≡◌, ◌≢◌, ℕ, zero, suc, ◌+◌, ◌<◌, ◌≤◌, Bool, true, false, not, cond, ◌==◌, ◌&&◌, List, [], ◌∷◌, ◌++◌, map, length, get_or, Ok, Err, Result, nat_lt, nat_le, refl, sym, ap, ap₂, subst, ◌∙◌, arith}
use Rattle.std.specs.List.{list_any, list_all, AllByRecursion}
use Rattle.std.proofs.lemmas.Bool.{and_parts}
use Rattle.std.proofs.lemmas.Bool.Decides.{nat_tests}
use Rattle.pass_record.specs.Record.{record_of, IsRecord}
use Rattle.pass_record.specs.Writing.{holdable, HasNoRecord}
use Rattle.pass_lines.specs.Symbols.{inverted_at, segments_received, all_symbols}
use Rattle.pass_lines.specs.Forms.{record_made}
use Rattle.pass_lines.specs.declared.error.PassError.{PassError}
use Rattle.pass_lines.specs.declared.error.PassError.TheVariants.{RecordTooLong}
use Rattle.pass_lines.specs.Laws.{IsNamed, IsNotNamed, WrongWhereNamed, RecordsHoldSegments}
use Rattle.pass_lines.proofs.Receiving.{length-inverted_at}
use Rattle.pass_lines.proofs.Segments.{all_received}

module _ (wrong : List ℕ) where
  as_long : (place : ℕ) (sent : List (List Bool)) → map length (segments_received wrong place sent) ≡ map length sent
  as_long place [] = refl
  as_long place (segment ∷ sent) = ap₂ (λ n l. n ∷ l) (length-inverted_at wrong place segment) (as_long (place + length segment) sent)

  named : (from k : ℕ) (s : List Bool) → k < length s → IsNamed wrong (from + k) → get_or (inverted_at wrong from s) k false ≡ not (get_or s k false)
  named from k [] within is = absurd (omega arith)
  named from zero (bit ∷ s) within is =
      let here : from + 0 ≡ from = omega arith in
      ap (λ b. cond b (not bit) bit) (subst (IsNamed wrong) here is)
  named from (suc k) (bit ∷ s) within is =
      let next : from + suc k ≡ from + 1 + k = omega arith in
      named (from + 1) k s (omega arith) (subst (IsNamed wrong) next is)

  others : (from k : ℕ) (s : List Bool) → IsNotNamed wrong (from + k) → get_or (inverted_at wrong from s) k false ≡ get_or s k false
  others from k [] is = refl
  others from zero (bit ∷ s) is =
      let here : from + 0 ≡ from = omega arith in
      ap (λ b. cond b (not bit) bit) (subst (IsNotNamed wrong) here is)
  others from (suc k) (bit ∷ s) is =
      let next : from + suc k ≡ from + 1 + k = omega arith in
      others (from + 1) k s (subst (IsNotNamed wrong) next is)

right : (place : ℕ) (s : List Bool) → inverted_at [] place s ≡ s
right place [] = refl
right place (bit ∷ s) = ap (λ l. bit ∷ l) (right (place + 1) s)

none_wrong : (place : ℕ) (sent : List (List Bool)) → segments_received [] place sent ≡ sent
none_wrong place [] = refl
none_wrong place (segment ∷ sent) = ap₂ (λ s l. s ∷ l) (right place segment) (none_wrong (place + length segment) sent)

from_0 : (k : ℕ) → k ≡ 0 + k
from_0 k = omega arith

pub wrong_where_named : WrongWhereNamed
wrong_where_named = record {
  as_long = λ wrong sent. as_long wrong 0 sent;
  named = λ wrong sent place within is.
      ap (λ l. get_or l place false) (all_received wrong 0 sent) ∙ named wrong 0 place (all_symbols sent) within (subst (IsNamed wrong) (from_0 place) is);
  others = λ wrong sent place is.
      ap (λ l. get_or l place false) (all_received wrong 0 sent) ∙ others wrong 0 place (all_symbols sent) (subst (IsNotNamed wrong) (from_0 place) is);
  none = λ sent. none_wrong 0 sent;
}

each_some : (segments : List (List Bool)) → list_all (λ segment. nat_lt 0 (length segment)) segments ≡ true → AllByRecursion (λ segment. 0 < length segment) segments
each_some [] e = tt
each_some (segment ∷ segments) e =
    let parts = and_parts (nat_lt 0 (length segment)) (list_all (λ segment. nat_lt 0 (length segment)) segments) e in
    (one segment parts.0, each_some segments parts.1)
  where
    one : (s : List Bool) → nat_lt 0 (length s) ≡ true → 0 < length s
    one s is = grind (arith, nat_tests)

all_some : (segments : List (List Bool)) → AllByRecursion (λ segment. 0 < length segment) segments → list_all (λ segment. nat_lt 0 (length segment)) segments ≡ true
all_some [] all = refl
all_some (segment ∷ segments) all = ap₂ (λ a b. a && b) (one segment all.0) (all_some segments all.1)
  where
    one : (s : List Bool) → 0 < length s → nat_lt 0 (length s) ≡ true
    one s is = grind (arith, nat_tests)

short : (n : ℕ) → nat_le n 65535 ≡ true → n ≤ 65535
short n e = grind (arith, nat_tests)

is_short : (n : ℕ) → n ≤ 65535 → nat_le n 65535 ≡ true
is_short n h = grind (arith, nat_tests)

record_is : (segments : List (List Bool)) (octets : List ℕ) (b : Bool) → holdable segments ≡ b → cond b (Ok (record_of segments)) (Err RecordTooLong) ≡ Ok octets → IsRecord octets segments
record_is segments octets false e made = cc made
record_is segments octets true e made =
    let parts = and_parts (list_all (λ segment. nat_lt 0 (length segment)) segments) (nat_le (length (record_of segments)) 65535) e in
    let same : record_of segments ≡ octets = cc in
    record {
      layout = sym same;
      most = subst (λ l. length l ≤ 65535) same (short (length (record_of segments)) parts.1);
      some = each_some segments parts.0;
    }

no_record : (segments : List (List Bool)) (e : PassError) (b : Bool) → holdable segments ≡ b → cond b (Ok (record_of segments)) (Err RecordTooLong) ≡ Err e → HasNoRecord segments
no_record segments e true is made = cc made
no_record segments e false is made = λ octets record_of_them.
    let holds : holdable segments ≡ true =
    ap₂ (λ a b. a && b) (all_some segments record_of_them.some) (is_short (length (record_of segments)) (subst (λ l. length l ≤ 65535) record_of_them.layout record_of_them.most)) in
    let no : true ≡ false = sym holds ∙ is in
    cc no

pub records_hold_segments : RecordsHoldSegments
records_hold_segments = record {
  made = λ segments octets made. record_is segments octets (holdable segments) refl made;
  none = λ segments e made. no_record segments e (holdable segments) refl made;
}
