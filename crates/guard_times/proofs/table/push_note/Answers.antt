-- The sentences of the note. Assumes nothing.
use Rattle.std.proofs.Common.{◌≡◌, ◌++◌, ◌∙◌, ap, append_assoc, codes, string_bytes}
use Rattle.guard_times.specs.Table.{what_it_is, what_milliseconds_are}
use Rattle.guard_times.proofs.table.push_note.Goals as goal

pub returns : goal.returns
returns c =
    let old = string_bytes c.args.text.now in
    let first : string_bytes c.push_str.new.self ≡ old ++ what_it_is = c.in_ok-push_str.ensures.bytes in
    let second = what_milliseconds_are c.args.rate in
    let last = codes "After carrier up none is needed: the first command may begin at once.\n" in
    c.in_ok-push_str-2.ensures.bytes
    ∙ ap (λ t. t ++ last) (c.in_ok-push_what_milliseconds_are.ensures ∙ ap (λ t. t ++ second) first)
    ∙ append_assoc (old ++ what_it_is) second last
    ∙ append_assoc old what_it_is (second ++ last)
