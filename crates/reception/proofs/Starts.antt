-- A start sequence after idle is found at its last bit and not before. Assumes nothing.
use Rattle.std.proofs.Common.{◌≡◌, ℕ, zero, suc, ◌+◌, ◌-◌, ◌*◌, ◌/◌, ◌%◌, ◌^◌, ◌<◌, ◌≤◌, min, Bool, true, false, eqb, leb, ◌⊎◌, map, get_or, sym, refl, ap, ◌∙◌, subst, ap₂, inl, inr, add-suc, mod-lt, mod-eq_of_lt, mul_assoc, suc-add, pow-suc, zero-add, zero-mul, div-one, one-add, arith, pow_mono, shr-shr, shr_lt}
use lib.Bits.{bit_xor, xor_assoc, xor_comm, xor_zero_r, xor_block, xor_shr, xor_mod, xor_lt}
use lib.Pow.{mod-mod-pow, mod-pow-add, high, low}
use Rattle.std.specs.List.{range_with_len}
use Rattle.std.proofs.lemmas.List.FromFn.{get_or-map-range_with_len}
use Rattle.std.proofs.lemmas.Bool.{leb-true, le-leb, lt-leb, and_right}
use Rattle.bch.specs.declared.Mode.{Mode}
use Rattle.bch.specs.declared.Mode.TheVariants.{Detecting, Correcting}
use Rattle.bch.specs.Polynomial.{◌⊕◌, weight}
use Rattle.bch.proofs.Sums.{bit, added_twice}
use Rattle.bch.proofs.Weights.{weight_ones}
use Rattle.reception.specs.Symbols.{bit_value}
use Rattle.reception.specs.Searching.{next_window, start_tolerance, is_start}
use Rattle.reception.specs.Runs.{idle_before}
use Rattle.reception.proofs.Windows.{pushed, bit_below}

-- one bit more or less is one difference more or less
bits_apart : (a b : ℕ) → (a ≡ 0) ⊎ (a ≡ 1) → (b ≡ 0) ⊎ (b ≡ 1) → a ≤ (a ⊕ b) + b
bits_apart a b (inl e) q = omega arith
bits_apart a b (inr e) (inl f) = rw (e, f) (omega arith)
bits_apart a b (inr e) (inr f) = rw (e, f) (omega arith)

pub weight_apart : (k a b : ℕ) → weight k a ≤ weight k (a ⊕ b) + weight k b
unfolding weight
weight_apart zero a b = omega arith
weight_apart (suc k) a b =
    let rest = weight_apart k (a / 2) (b / 2) in
    let one = bits_apart (a % 2) (b % 2) (bit a) (bit b) in
    omega (arith, one, rest, xor_mod a b 1, ap (weight k) (xor_shr a b 1))

-- the higher bits alone have no greater weight
higher_bits : (j k x : ℕ) → weight k (x / 2 ^ j) ≤ weight (j + k) x
unfolding weight
higher_bits zero k x = omega (arith, ap (λ y. weight k y) (div-one x), ap (λ n. weight n x) (zero-add k))
higher_bits (suc j) k x =
    omega (arith, higher_bits j k (x / 2), ap (λ y. weight k y) (shr-shr x 1 j ∙ ap (λ n. x / 2 ^ n) (one-add j)), ap (λ n. weight n x) (suc-add j k))

-- the window where i bits of the start sequence follow idle, and how far from the start sequence it is
abbrev start : ℕ
start = 0xEB90

mixed : Bool → ℕ → ℕ
mixed b i = idle_before b % 2 ^ (16 - i) * 2 ^ i + start / 2 ^ (16 - i)

far_enough : Bool → ℕ → Bool
far_enough b i = leb 3 (weight 16 (mixed b i ⊕ start))

all_far : (b : Bool) → map (far_enough b) (range_with_len 1 15) ≡ map (λ i. true) (range_with_len 1 15)
unfolding far_enough mixed weight
all_far true = refl
all_far false = refl

mixed_far : (b : Bool) (i : ℕ) → 1 ≤ i → i < 16 → 3 ≤ weight 16 (mixed b i ⊕ start)
unfolding far_enough
mixed_far b i some few =
    let j : i - 1 < 15 = omega arith in
    let at : 1 + (i - 1) ≡ i = omega arith in
    leb-true 3 (weight 16 (mixed b i ⊕ start))
    (sym (get_or-map-range_with_len (far_enough b) 1 15 (i - 1) i true j at) ∙ ap (λ l. get_or l (i - 1) true) (all_far b) ∙ get_or-map-range_with_len (λ k. true) 1 15 (i - 1) i true j at)

-- the last i bits of the window are the number p, and before them stand m idle bits
pub record Follows (b : Bool) (i m p window : ℕ) : Type 0 where
  pub fits : m + i ≤ 16
  pub below : p < 2 ^ i
  pub bits : window % 2 ^ (m + i) ≡ idle_before b % 2 ^ m * 2 ^ i + p

fewer_idle : (b : Bool) (i m n p window : ℕ) → n ≤ m → Follows b i m p window → Follows b i n p window
fewer_idle b i m n p window few f =
    let x = idle_before b % 2 ^ m in
    let whole : m - n + (n + i) ≡ m + i = omega arith in
    let part : m - n + n ≡ m = omega arith in
    record {
      fits = omega (arith, f.fits);
      below = f.below;
      bits = sym (mod-mod-pow window (m - n) (n + i)) ∙ ap (λ k. window % 2 ^ k % 2 ^ (n + i)) whole ∙ ap (λ y. y % 2 ^ (n + i)) f.bits
          ∙ mod-pow-add (x * 2 ^ i + p) n i ∙ ap₂ (λ (y z : ℕ). y % 2 ^ n * 2 ^ i + z) (high x i f.below) (low x i f.below)
          ∙ ap (λ y. y * 2 ^ i + p) (ap (λ k. idle_before b % 2 ^ k % 2 ^ n) (sym part) ∙ mod-mod-pow (idle_before b) (m - n) n);
    }

cut_to : (k y : ℕ) → k ≤ 16 → y % 2 ^ 16 % 2 ^ k ≡ y % 2 ^ k
cut_to k y h = let whole : 16 - k + k ≡ 16 = omega arith in ap (λ n. y % 2 ^ n % 2 ^ k) (sym whole) ∙ mod-mod-pow y (16 - k) k

regroup : (x q p c : ℕ) → (x * q + p) * 2 + c ≡ x * (q * 2) + (2 * p + c)
regroup x q p c = omega (arith, mul_assoc x q 2)

doubled_below : (i p : ℕ) (x : Bool) → p < 2 ^ i → 2 * p + bit_value x < 2 ^ suc i
doubled_below i p x h = omega (arith, bit_below x, pow-suc 2 i)

push_bit : (b : Bool) (i m p window : ℕ) (x : Bool) → m + suc i ≤ 16 → Follows b i m p window → Follows b (suc i) m (2 * p + bit_value x) (next_window window x)
push_bit b i m p window x few f =
    record {
      fits = few;
      below = doubled_below i p x f.below;
      bits = cut_to (m + suc i) (2 * window + bit_value x) few ∙ ap (λ k. (2 * window + bit_value x) % 2 ^ k) (add-suc m i) ∙ pushed (m + i) window (bit_value x) (bit_below x)
          ∙ ap (λ y. y * 2 + bit_value x) f.bits ∙ regroup (idle_before b % 2 ^ m) (2 ^ i) p (bit_value x) ∙ ap (λ q. idle_before b % 2 ^ m * q + (2 * p + bit_value x)) (sym (pow-suc 2 i));
    }

-- one bit of the start sequence more, as many idle bits before it as the window still has
pub goes_in : (b : Bool) (i p window c : ℕ) (x : Bool) → i < 16 → Follows b i (min c (16 - i)) p window → Follows b (suc i) (min c (16 - suc i)) (2 * p + bit_value x) (next_window window x)
goes_in b i p window c x few f =
    push_bit b i (min c (16 - suc i)) p window x (omega arith) (fewer_idle b i (min c (16 - i)) (min c (16 - suc i)) p window (omega arith) f)

pub window_below : (window : ℕ) (x : Bool) → next_window window x < 2 ^ 16
window_below window x = mod-lt (2 * window + bit_value x) (omega arith)

-- the first bits of what is received, as a number
tolerance_few : (mode : Mode) → start_tolerance mode ≤ 1
tolerance_few Correcting = omega arith
tolerance_few Detecting = omega arith

start_prefix_below : (i : ℕ) → i < 16 → start / 2 ^ (16 - i) < 2 ^ i
start_prefix_below i few = let whole : i + (16 - i) ≡ 16 = omega arith in shr_lt i (16 - i) (subst (λ k. start < 2 ^ k) (sym whole) (omega arith))

-- the window is the mixed one, with the wrong bits turned
window_is : (b : Bool) (i p window : ℕ) → i < 16 → window < 2 ^ 16 → Follows b i (16 - i) p window → window ≡ mixed b i ⊕ (p ⊕ start / 2 ^ (16 - i))
unfolding mixed
window_is b i p window few lt f =
    let x = idle_before b % 2 ^ (16 - i) in
    let s = start / 2 ^ (16 - i) in
    let whole : 16 - i + i ≡ 16 = omega arith in
    let d_below = xor_lt i p s f.below (start_prefix_below i few) in
    sym (mod-eq_of_lt lt) ∙ ap (λ k. window % 2 ^ k) (sym whole) ∙ f.bits
    ∙ sym (ap (λ y. bit_xor (x * 2 ^ i + s) y) (sym (zero-add (p ⊕ s)) ∙ ap (λ z. z + (p ⊕ s)) (sym (zero-mul (2 ^ i))))
    ∙ xor_block i x 0 s (p ⊕ s) (start_prefix_below i few) d_below
    ∙ ap₂ (λ (y z : ℕ). y * 2 ^ i + z) (xor_zero_r x) (xor_comm s (p ⊕ s) ∙ added_twice p s))

module _ (mode : Mode) (b : Bool) (r : ℕ) (small : r < 2 ^ 16) (right : weight 16 (r ⊕ start) ≤ start_tolerance mode) where
  -- no more wrong bits in front than in the whole
  turned_few : (i p : ℕ) → i < 16 → p < 2 ^ i → p ≡ r / 2 ^ (16 - i) → weight 16 (p ⊕ start / 2 ^ (16 - i)) ≤ 1
  turned_few i p few below prefix =
      let s = start / 2 ^ (16 - i) in
      let d = p ⊕ s in
      let d_below = xor_lt i p s below (start_prefix_below i few) in
      let up : 2 ^ i ≤ 2 ^ 16 = pow_mono {i = i} {j = 16} (omega arith) in
      let whole : 16 - i + i ≡ 16 = omega arith in
      let same : weight 16 d ≡ weight i d = weight_ones 16 d (omega arith) ∙ sym (weight_ones i d d_below) in
      let shifted : d ≡ (r ⊕ start) / 2 ^ (16 - i) = ap (λ y. y ⊕ s) prefix ∙ sym (xor_shr r start (16 - i)) in
      omega (arith, same, ap (weight i) shifted, higher_bits (16 - i) i (r ⊕ start), ap (λ k. weight k (r ⊕ start)) whole, right, tolerance_few mode)

  pub no_false_start : (i p count window : ℕ) → 1 ≤ i → i < 16 → p ≡ r / 2 ^ (16 - i) → window < 2 ^ 16 → Follows b i (16 - i) p window → is_start mode count window ≡ false
  no_false_start i p count window some few prefix lt f =
      let m = mixed b i in
      let d = p ⊕ start / 2 ^ (16 - i) in
      let moved : (m ⊕ start) ⊕ d ≡ window ⊕ start = xor_assoc m start d ∙ ap (λ y. m ⊕ y) (xor_comm start d) ∙ sym (xor_assoc m d start) ∙ ap (λ y. y ⊕ start) (sym (window_is b i p window few lt f)) in
      and_right (eqb count 16) _ (lt-leb (weight 16 (window ⊕ start)) (start_tolerance mode)
      (omega (arith, weight_apart 16 (m ⊕ start) d, ap (weight 16) moved, mixed_far b i some few, turned_few i p few f.below prefix, tolerance_few mode)))

  -- and at the sixteenth bit it is found
  pub start_is_found : (window : ℕ) → window < 2 ^ 16 → Follows b 16 0 r window → is_start mode 16 window ≡ true
  start_is_found window lt f =
      let none : idle_before b % 2 ^ 0 * 2 ^ 16 + r ≡ r = omega (arith, one_of b) in
      le-leb (weight 16 (window ⊕ start)) (start_tolerance mode) (subst (λ y. weight 16 (y ⊕ start) ≤ start_tolerance mode) (sym (sym (mod-eq_of_lt lt) ∙ f.bits ∙ none)) right)
    where
      one_of : (b : Bool) → idle_before b % 1 ≡ 0
      one_of true = refl
      one_of false = refl
