-- The column has its width. Assumes nothing.
use Rattle.std.proofs.Common.{◌++◌, ◌∙◌, sym, ap, codes, string_bytes}
use Rattle.std.specs.Fmt.{styled_decimal}
use Rattle.guard_times.specs.Table.{milliseconds_column}
use Rattle.guard_times.proofs.Columns.{right}
use Rattle.guard_times.proofs.table.push_milliseconds.Goals as goal

pub returns-in_ok-write : goal.returns-in_ok-write
returns-in_ok-write c =
    let n = c.in-Some.milliseconds in
    c.in_ok-write.ensures.bytes
    ∙ ap (λ s. string_bytes c.args.text.now ++ (codes "  " ++ styled_decimal s n)) c.laid_out.ensures
    ∙ ap (λ t. string_bytes c.args.text.now ++ (codes "  " ++ t)) (right 12 _)
    ∙ ap (λ o. string_bytes c.args.text.now ++ milliseconds_column o) (sym c.in-Some.is)
