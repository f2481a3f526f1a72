-- One symbol more in a window. Assumes nothing.
use Rattle.std.proofs.Common.{◌%◌, arith}
use Rattle.reception.proofs.Pushed.{pushed}
use Rattle.searching.proofs.Window.with.Goals as goal

pub returns-clause-bits : goal.returns-clause-bits
returns-clause-bits c =
    pushed 65536 (c.args.self.bits % 32768) c.args.self.bits c.from.result c.args.bit c.from.ensures (omega arith) (λ n few. omega arith)
