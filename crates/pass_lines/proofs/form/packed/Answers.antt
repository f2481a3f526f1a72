-- One octet more. Assumes nothing.
use Rattle.pass_lines.proofs.Packing.{one_more_octet}
use Rattle.pass_lines.proofs.form.packed.Goals as goal

pub loop-k-preserved : goal.loop-k-preserved
loop-k-preserved c =
    one_more_octet c.args.symbols.now c.loop-k.k c.octet_of.result c.loop-k.octets.items c.push.new.self.items c.octet_of.ensures c.loop-k.invariant c.in_ok-push.ensures.items
