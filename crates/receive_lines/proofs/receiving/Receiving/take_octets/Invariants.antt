-- What holds after some of them. Assumes nothing.
use Rattle.std.proofs.Common.{take}
use Rattle.receive_lines.specs.Forms.{symbols_in_octets, AreOfForm}
use Rattle.receive_lines.specs.Releasing.{PassedSymbols}
use Rattle.receive_lines.proofs.receiving.Receiving.take_octets.Given as goal

abbrev pub invariant-loop-octet : goal.invariant-loop-octet
invariant-loop-octet g l = record {
  form : AreOfForm l.fn.form (take l.octet-index l.octets);
  taken : PassedSymbols g.H.Hold (symbols_in_octets l.fn.form (take l.octet-index l.octets)) l.initial.self l.self;
}
