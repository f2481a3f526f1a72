-- What is asked for is answered by one text. Assumes nothing.
use Rattle.std.proofs.Common.{◌≡◌, ℕ, suc, List, [], ◌∷◌, length, get_or, drop, map, Option, Some, None, All, ap, sym, subst, refl, ◌∙◌, arith}
use Rattle.guard_times.specs.declared.bit_rate.BitRate.{BitRate}
use Rattle.guard_times.specs.declared.guard_time.GuardTime.{GuardTime}
use Rattle.guard_times.specs.declared.row.Row.{Row}
use Rattle.guard_times.specs.Rate.{bits_a_second}
use Rattle.guard_times.specs.Guard.{guard_bits, IsLeast, HoldBits, BitsPass}
use Rattle.guard_times.specs.Rows.{TellsMilliseconds, TellsItsGuard, guard_of}
use Rattle.guard_times.specs.Answers.{text_in, OneText}

least_once : (P : ℕ → Type 0) (m n : ℕ) → IsLeast P m → IsLeast P n → m ≡ n
least_once P m n a b = omega (arith, a.least n b.holds, b.least m a.holds)

same_milliseconds : (rate : Option BitRate) (bits : ℕ) (m n : Option ℕ) → TellsMilliseconds rate bits m → TellsMilliseconds rate bits n → m ≡ n
same_milliseconds None bits m n a b = a ∙ sym b
same_milliseconds (Some rate) bits None n a b = absurd a
same_milliseconds (Some rate) bits (Some m) None a b = absurd b
same_milliseconds (Some rate) bits (Some m) (Some n) a b = ap Some (least_once (BitsPass (bits_a_second rate) bits) m n a b)

abbrev row : GuardTime → (bits octets : ℕ) → Option ℕ → Row
row guard bits octets milliseconds = record { guard = guard; bits = bits; octets = octets; milliseconds = milliseconds }

same_row : (rate : Option BitRate) (a b : Row) → a.guard ≡ b.guard → TellsItsGuard rate a → TellsItsGuard rate b → a ≡ b
same_row rate a b guard first second =
    let bits : a.bits ≡ b.bits = first.bits ∙ ap guard_bits guard ∙ sym second.bits in
    let octets = least_once (HoldBits (guard_bits b.guard)) a.octets b.octets
    (subst (λ g. IsLeast (HoldBits (guard_bits g)) a.octets) guard first.octets) second.octets in
    let milliseconds = same_milliseconds rate (guard_bits b.guard) a.milliseconds b.milliseconds
    (subst (λ g. TellsMilliseconds rate (guard_bits g) a.milliseconds) guard first.milliseconds) second.milliseconds in
    ap (λ g. row g a.bits a.octets a.milliseconds) guard
    ∙ ap (λ n. row b.guard n a.octets a.milliseconds) bits
    ∙ ap (λ n. row b.guard b.bits n a.milliseconds) octets
    ∙ ap (λ m. row b.guard b.bits b.octets m) milliseconds

further : {X : Type 0} (P : X → Type 0) (x : X) (xs : List X) → All P (x ∷ xs) → All P xs
further P x xs all = λ k d within. all (suc k) d (omega (arith, within))

same_rows : (rate : Option BitRate) (a b : List Row) → map guard_of a ≡ map guard_of b
    → All (TellsItsGuard rate) a → All (TellsItsGuard rate) b → a ≡ b
same_rows rate [] [] guards first second = refl
same_rows rate [] (y ∷ b) guards first second = let more : 0 ≡ suc (length (map guard_of b)) = ap length guards in absurd (omega (arith, more))
same_rows rate (x ∷ a) [] guards first second = let more : suc (length (map guard_of a)) ≡ 0 = ap length guards in absurd (omega (arith, more))
same_rows rate (x ∷ a) (y ∷ b) guards first second =
    let one = same_row rate x y (ap (λ l. get_or l 0 x.guard) guards) (first 0 x (omega arith)) (second 0 y (omega arith)) in
    let others = same_rows rate a b (ap (drop 1) guards) (further (TellsItsGuard rate) x a first) (further (TellsItsGuard rate) y b second) in
    ap (λ r. r ∷ a) one ∙ ap (λ l. y ∷ l) others

pub one_text : OneText
one_text asked a b first second =
    let same = same_rows asked.rate first.rows second.rows (first.are.guards_are ∙ sym second.are.guards_are) first.are.tell second.are.tell in
    first.written ∙ ap (text_in asked.form asked.rate) same ∙ sym second.written
