-- One octet more. Assumes nothing.
use Rattle.std.proofs.Common.{◌∙◌, subst, arith}
use Rattle.std.proofs.lemmas.List.{map-id, take_all}
use Rattle.bch.specs.Bits.{bits_of}
use Rattle.reception.specs.Calls.{symbol_events}
use Rattle.receiver.specs.Events.{Ran}
use Rattle.callers.proofs.Heard.{none_heard, one_more_heard}
use Rattle.callers.proofs.both_ends.hear.Goals as goal

pub loop-octet-init : goal.loop-octet-init
loop-octet-init g c = none_heard g.H.Hold _ _

pub loop-octet-preserved : goal.loop-octet-preserved
loop-octet-preserved g c =
    one_more_heard g.H.Hold c.args.octets.now c.loop-octet.octet-index _ _ _ _ _ c.loop-octet.reports _ (omega arith)
    (map-id c.bits.result ∙ c.bits.ensures) c.loop-octet.invariant c.symbols.ensures.over_calls c.symbols.ensures.after c.symbols.ensures.queued

pub returns : goal.returns
returns g c =
    let so_far = c.loop-octet.invariant in
    record {
      in_use = so_far.in_use;
      ran = λ over.
          subst (λ l. Ran g.H.Hold (symbol_events (bits_of l)) c.args.receiver.now c.loop-octet.receiver c.args.reports.now c.loop-octet.reports)
          (take_all c.loop-octet.octet-index c.args.octets.now (omega arith)) (so_far.ran over);
    }
