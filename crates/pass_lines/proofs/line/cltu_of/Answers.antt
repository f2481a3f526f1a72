-- The CLTU is in the memory. Assumes nothing.
use Rattle.std.proofs.Common.{◌≡◌, ◌∙◌, ap, length, refl, arith, rules}
use Rattle.pass_lines.proofs.Sending.{in_memory}
use Rattle.pass_lines.proofs.line.cltu_of.Goals as goal

pub returns-in_ok-memory-in-Ok : goal.returns-in_ok-memory-in-Ok
returns-in_ok-memory-in-Ok c =
    in_memory c.args.sender c.args.frame.now c.in_ok-memory-in-Ok.memory.items c.in-Ok.octets c.in-Ok.ensures.answer (c.in-Ok.ensures.length c.args.frame.now refl) (search rules)
    c.write_cltu.result c.write_cltu.new.memory _ _ (search rules) (search rules) (search rules)
