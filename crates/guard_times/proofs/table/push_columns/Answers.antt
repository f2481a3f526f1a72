-- Each column has its width. Assumes nothing.
use Rattle.std.proofs.Common.{◌++◌, ◌∙◌, ap, ap₂, codes, string_bytes, decimal}
use Rattle.std.specs.Fmt.{styled_decimal, styled_text}
use Rattle.cltu.specs.Limit.{codeblocks_allowed}
use Rattle.guard_times.proofs.Columns.{right, left}
use Rattle.guard_times.proofs.table.push_columns.Goals as goal

pub returns : goal.returns
returns c =
    let row = c.args.row.now in
    let count = codeblocks_allowed row.guard.limit in
    let limit = ap₂ styled_decimal c.laid_out.ensures c.count-limit.ensures.value ∙ right 5 (decimal count) in
    let mode = ap₂ styled_text c.laid_out-2.ensures c.mode_name-mode.ensures ∙ left row.guard.mode in
    let bits = ap (λ s. styled_decimal s row.bits) c.laid_out-3.ensures ∙ right 4 (decimal row.bits) in
    let octets = ap (λ s. styled_decimal s row.octets) c.laid_out-4.ensures ∙ right 6 (decimal row.octets) in
    let all = ap₂ (λ a b. a ++ (codes "  " ++ b)) limit (ap₂ (λ a b. a ++ (codes "  " ++ b)) mode (ap₂ (λ a b. a ++ (codes "  " ++ b)) bits octets)) in
    c.in_ok-write.ensures.bytes ∙ ap (λ t. string_bytes c.args.text.now ++ t) all
