-- Seven octets of the filled and randomized frame. Assumes nothing.
use Rattle.std.proofs.Common.{arith}
use Rattle.cltu.proofs.Places.{seven_sent}
use Rattle.cltu.proofs.Outgoing.information.Goals as goal

pub returns : goal.returns
returns c =
    rw (c.octet.ensures, c.octet-2.ensures, c.octet-3.ensures, c.octet-4.ensures, c.octet-5.ensures, c.octet-6.ensures, c.octet-7.ensures)
    (seven_sent c.args.self.now.randomizer c.args.self.now.frame.now c.args.index (omega arith))
