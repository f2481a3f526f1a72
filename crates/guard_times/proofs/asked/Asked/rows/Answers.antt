-- A limit more. Assumes nothing.
use Rattle.std.proofs.Common.{◌≡◌, ◌<◌, length, get_or, subst}
use Rattle.guard_times.proofs.RowsLemmas.{a_limit_more}
use Rattle.guard_times.proofs.asked.Asked.rows.Goals as goal

pub loop-limit-preserved : goal.loop-limit-preserved
loop-limit-preserved c =
    let asked = c.args.self.now in
    let items : c.deref-limit-items.result.now ≡ asked.limits.items = c.deref-limit-items.ensures.value in
    let within : c.loop-limit.limit-index < length asked.limits.items = subst (λ l. c.loop-limit.limit-index < length l) items c.loop-limit-test.true in
    let is : c.limit-item.result ≡ get_or asked.limits.items c.loop-limit.limit-index c.limit-item.result = subst (λ l. c.limit-item.result ≡ get_or l c.loop-limit.limit-index c.limit-item.result) items c.limit-item.is in
    a_limit_more asked.rate asked.mode asked.limits.items c.loop-limit.limit-index c.limit-item.result c.loop-limit.rows.items c.push_rows.new.rows.items
    within is c.loop-limit.invariant c.in_ok-push_rows.ensures
