-- Idle in the search window: which windows idle can make, and that the start sequence is not among them. Assumes nothing.
use Rattle.std.proofs.Common.{◌≡◌, ℕ, suc, ◌+◌, ◌-◌, ◌*◌, ◌/◌, ◌%◌, ◌^◌, ◌<◌, ◌≤◌, Bool, true, false, not, eqb, ◌⊎◌, sym, refl, ap, ◌∙◌, ap₂, inl, inr, add-one, arith}
use lib.Bits.{bit_xor, xor_mod, xor_zero_r}
use lib.Pow.{mod-mod-pow, mod-pow-add}
use Rattle.std.proofs.lemmas.Nat.{field_of}
use Rattle.std.proofs.lemmas.Bool.{and_left, and_right, lt-leb, ne_eqb}
use Rattle.bch.specs.declared.Mode.{Mode}
use Rattle.bch.specs.declared.Mode.TheVariants.{Detecting, Correcting}
use Rattle.bch.specs.Polynomial.{◌⊕◌, weight}
use Rattle.reception.specs.Runs.{idle_before}
use Rattle.reception.specs.Symbols.{bit_value}
use Rattle.reception.specs.Searching.{next_window, start_tolerance, is_start}

-- the last bits of the window, as many as j, are idle that goes on with b
abbrev pub EndsIdle : (j : ℕ) → Bool → ℕ → Type 0
EndsIdle j b window = window % 2 ^ j ≡ idle_before b % 2 ^ j

-- then so are fewer of them
pub fewer : (j k : ℕ) (b : Bool) (window : ℕ) → EndsIdle (j + k) b window → EndsIdle k b window
fewer j k b window e = sym (mod-mod-pow window j k) ∙ ap (λ x. x % 2 ^ k) e ∙ mod-mod-pow (idle_before b) j k

-- the last bits of half of a number, and fewer of its last bits
halved : (x j r : ℕ) → x % 2 ^ (j + 1) ≡ r → x / 2 % 2 ^ j ≡ r / 2
halved x j r e = sym (field_of x j 1) ∙ ap (λ y. y / 2) e

mod_of : (x j k r : ℕ) → x % 2 ^ (j + k) ≡ r → x % 2 ^ k ≡ r % 2 ^ k
mod_of x j k r e = sym (mod-mod-pow x j k) ∙ ap (λ y. y % 2 ^ k) e

-- four idle bits at its end, and the window differs from the start sequence in two bits at least
far_from_start : (x r : ℕ) → x % 16 ≡ r → (r ≡ 5) ⊎ (r ≡ 10) → 2 ≤ weight 16 x
unfolding weight
far_from_start x r e (inl five) =
    let low = e ∙ five in
    let one : x % 2 ≡ 1 = omega arith in
    let three = mod_of (x / 2 / 2) 1 1 1 (halved (x / 2) 2 2 (halved x 3 5 low)) in
    omega (arith, one, three)
far_from_start x r e (inr ten) =
    let low = e ∙ ten in
    let two = mod_of (x / 2) 2 1 5 (halved x 3 10 low) in
    let four = halved (x / 2 / 2) 1 2 (halved (x / 2) 2 5 (halved x 3 10 low)) in
    omega (arith, two, four)

-- and two, in one bit at least
off_start : (x r : ℕ) → x % 4 ≡ r → (r ≡ 1) ⊎ (r ≡ 2) → 1 ≤ weight 16 x
unfolding weight
off_start x r e (inl one) = let lowest : x % 2 ≡ 1 = omega arith in omega arith
off_start x r e (inr two) = let second : x / 2 % 2 ≡ 1 = omega arith in omega arith

-- the start sequence ends with four zeros
low_bits : (j window : ℕ) → 0xEB90 % 2 ^ j ≡ 0 → (window ⊕ 0xEB90) % 2 ^ j ≡ window % 2 ^ j
low_bits j window e = xor_mod window 0xEB90 j ∙ ap (bit_xor (window % 2 ^ j)) e ∙ xor_zero_r (window % 2 ^ j)

pub no_start_after_four : (mode : Mode) (b : Bool) (count window : ℕ) → EndsIdle 4 b window → is_start mode count window ≡ false
no_start_after_four mode b count window e =
    and_right (eqb count 16) _ (lt-leb (weight 16 (window ⊕ 0xEB90)) (start_tolerance mode) (by mode b (low_bits 4 window refl ∙ e)))
  where
    by : (mode : Mode) (b : Bool) → (window ⊕ 0xEB90) % 2 ^ 4 ≡ idle_before b % 2 ^ 4 → start_tolerance mode < weight 16 (window ⊕ 0xEB90)
    by Correcting true e = far_from_start (window ⊕ 0xEB90) 10 e (inr refl)
    by Correcting false e = far_from_start (window ⊕ 0xEB90) 5 e (inl refl)
    by Detecting true e = omega (arith, far_from_start (window ⊕ 0xEB90) 10 e (inr refl))
    by Detecting false e = omega (arith, far_from_start (window ⊕ 0xEB90) 5 e (inl refl))

pub no_exact_start_after_two : (b : Bool) (count window : ℕ) → EndsIdle 2 b window → is_start Detecting count window ≡ false
no_exact_start_after_two b count window e =
    and_right (eqb count 16) _ (lt-leb (weight 16 (window ⊕ 0xEB90)) 0 (by b (low_bits 2 window refl ∙ e)))
  where
    by : (b : Bool) → (window ⊕ 0xEB90) % 2 ^ 2 ≡ idle_before b % 2 ^ 2 → 0 < weight 16 (window ⊕ 0xEB90)
    by true e = off_start (window ⊕ 0xEB90) 2 e (inr refl)
    by false e = off_start (window ⊕ 0xEB90) 1 e (inl refl)

-- idle goes on: one more of the window's last bits is idle
pub pushed : (j x c : ℕ) → c < 2 → (2 * x + c) % 2 ^ suc j ≡ x % 2 ^ j * 2 + c
pushed j x c h =
    let half : (2 * x + c) / 2 ≡ x = omega arith in
    let low : (2 * x + c) % 2 ≡ c = omega arith in
    ap (λ n. (2 * x + c) % 2 ^ n) (sym (add-one j)) ∙ mod-pow-add (2 * x + c) j 1 ∙ ap₂ (λ (y z : ℕ). y % 2 ^ j * 2 + z) half low

cut : (j x : ℕ) → j < 16 → x % 2 ^ 16 % 2 ^ suc j ≡ x % 2 ^ suc j
cut j x h = let whole : 15 - j + suc j ≡ 16 = omega arith in ap (λ n. x % 2 ^ n % 2 ^ suc j) (sym whole) ∙ mod-mod-pow x (15 - j) (suc j)

pub bit_below : (b : Bool) → bit_value b < 2
bit_below true = omega arith
bit_below false = omega arith

turns : (b : Bool) → (2 * idle_before b + bit_value b) % 2 ^ 16 ≡ idle_before (not b)
turns true = refl
turns false = refl

pub one_more_idle : (j : ℕ) (b : Bool) (window : ℕ) → j < 16 → EndsIdle j b window → EndsIdle (suc j) (not b) (next_window window b)
one_more_idle j b window h e =
    cut j (2 * window + bit_value b) h ∙ pushed j window (bit_value b) (bit_below b) ∙ ap (λ x. x * 2 + bit_value b) e
    ∙ sym (ap (λ x. x % 2 ^ suc j) (sym (turns b)) ∙ cut j (2 * idle_before b + bit_value b) h ∙ pushed j (idle_before b) (bit_value b) (bit_below b))

pub still_idle : (b : Bool) (window : ℕ) → EndsIdle 16 b window → EndsIdle 16 (not b) (next_window window b)
still_idle b window e = one_more_idle 15 b window (omega arith) (fewer 1 15 b window e)

-- a window that is not full is no start
pub not_yet_full : (mode : Mode) (count window : ℕ) → count < 16 → is_start mode count window ≡ false
not_yet_full mode count window h = and_left (eqb count 16) _ (ne_eqb count 16 (λ e. omega arith))
