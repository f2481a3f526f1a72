-- Division rounded up. Assumes nothing.
use Rattle.std.proofs.Common.{ℕ, suc, ◌*◌, ◌<◌, ◌≤◌, arith}
use Rattle.std.specs.Int.{div_ceil}
use Rattle.std.proofs.lemmas.Grind.{div_ceil_times}
use Rattle.std.proofs.Math.Nat.{lt_of_mul-lt-mul_right}
use Rattle.guard_times.specs.Guard.{IsLeast}

-- a over b, rounded up, is the least number that makes at least a of b's
pub least_ceiling : (a b : ℕ) → 0 < b → IsLeast (λ n. a ≤ b * n) (div_ceil a b)
least_ceiling a b positive =
    let times = div_ceil_times a b positive in
    record {
      holds = omega (arith, times.0);
      least = λ n enough.
          let below : div_ceil a b * b < suc n * b = omega (arith, times.1, enough) in
          let less : div_ceil a b < suc n = lt_of_mul-lt-mul_right b below in
          omega (arith, less);
    }
