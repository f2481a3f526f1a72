-- One symbol more. Assumes nothing.
use Rattle.std.proofs.Common.{[], ◌∷◌}
use Rattle.receive_lines.proofs.Passes.{no_symbols, symbols_then}
use Rattle.receive_lines.proofs.receiving.Receiving.take_symbols.Goals as goal

pub loop-bit-init : goal.loop-bit-init
loop-bit-init g c = no_symbols g.H.Hold _

pub loop-bit-preserved : goal.loop-bit-preserved
loop-bit-preserved g c =
    symbols_then g.H.Hold c.loop-bit.yielded (c.in-Some.bit ∷ []) _ _ _ c.loop-bit.invariant c.in_ok-take_symbol.ensures
