-- One bit more. Assumes nothing.
use Rattle.std.proofs.Common.{false, take, sym, subst}
use Rattle.std.proofs.lemmas.List.{take_more}
use Rattle.receive_lines.specs.Releasing.{PassedSymbols}
use Rattle.receive_lines.proofs.Passes.{no_symbols, symbols_then}
use Rattle.receive_lines.proofs.receiving.Receiving.take_bits.Goals as goal

pub loop-bit-init : goal.loop-bit-init
loop-bit-init g c = no_symbols g.H.Hold _

pub loop-bit-preserved : goal.loop-bit-preserved
loop-bit-preserved g c =
    let bits = c.args.bits.now in
    let n = c.loop-bit.bit-index in
    subst (λ l. PassedSymbols g.H.Hold l c.args.self.now c.take_symbol.new.self) (sym (take_more bits n false c.loop-bit-test.true))
    (symbols_then g.H.Hold (take n bits) _ _ _ _ c.loop-bit.invariant c.in_ok-take_symbol.ensures)
