-- What a window is compared by. Assumes nothing.
use Rattle.std.proofs.Common.{◌^◌, ◌<◌, ◌&&◌, leb, sym, ap, ◌∙◌, ap₂, arith}
use lib.Bits.{bit_xor}
use Rattle.std.proofs.lemmas.Nat.{xor_lt}
use Rattle.std.proofs.lemmas.Bool.{eq-eqb}
use Rattle.bch.specs.Polynomial.{◌⊕◌, weight}
use Rattle.bch.proofs.Weights.{weight_ones}
use Rattle.reception.specs.Searching.{start_tolerance}
use Rattle.searching.proofs.Window.is_start.Goals as goal

pub returns-then-self-eq16 : goal.returns-then-self-eq16
returns-then-self-eq16 c =
    let bits = c.args.self.bits in
    let small : bit_xor bits 60304 < 2 ^ 16 = xor_lt 16 bits 60304 (omega arith) (omega arith) in
    ap₂ leb (sym (weight_ones 16 (bit_xor bits 60304) small)) c.tolerance.ensures
    ∙ ap (λ full. full && leb (weight 16 (bits ⊕ 0xEB90)) (start_tolerance c.args.mode)) (sym (eq-eqb c.args.self.count 16 c.if-self-eq16.true))
