-- Both modes of a limit. Assumes nothing.
use Rattle.std.proofs.Common.{Option, Some, sym, subst}
use Rattle.bch.specs.declared.Mode.{Mode}
use Rattle.bch.specs.declared.Mode.TheVariants.{Detecting, Correcting}
use Rattle.guard_times.specs.Rows.{AddsRows, guards_of_limit}
use Rattle.guard_times.proofs.RowsLemmas.{added_twice}
use Rattle.guard_times.proofs.asked.Asked.push_rows.Goals as goal

pub returns-in_ok-push_row-in-None-2 : goal.returns-in_ok-push_row-in-None-2
returns-in_ok-push_row-in-None-2 c =
    let limit = c.args.limit in
    let rate = c.args.self.now.rate in
    let old = c.args.rows.now.items in
    let new = c.push_row-in-None-2.new.rows.items in
    let both = added_twice rate (guards_of_limit (Some Correcting) limit) (guards_of_limit (Some Detecting) limit) old c.push_row-in-None.new.rows.items new
    c.in_ok-push_row-in-None.ensures c.in_ok-push_row-in-None-2.ensures in
    subst (λ (m : Option Mode). AddsRows (guards_of_limit m limit) rate old new) (sym c.in-None.is) both
