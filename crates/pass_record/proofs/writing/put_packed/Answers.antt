-- Each place gets the octet of the symbols that it is for. Assumes nothing.
use Rattle.std.proofs.Common.{◌≡◌, ◌*◌, length, drop, set, get_or, ap, ◌∙◌, arith}
use Rattle.std.proofs.lemmas.List.{take_rest}
use Rattle.std.proofs.lemmas.List.Edits.{fill_by_more}
use Rattle.std.proofs.lemmas.List.FromFn.{fill_by_all}
use Rattle.pass_record.specs.Record.{octet_of, octets_for}
use Rattle.pass_record.proofs.writing.put_packed.Goals as goal

pub loop-k-preserved : goal.loop-k-preserved
loop-k-preserved c =
    let symbols = c.args.symbols.now in
    let k = c.loop-k.k in
    let there : c.octet_of.result ≡ octet_of (drop (8 * k) symbols) = c.octet_of.ensures ∙ ap octet_of (take_rest symbols (8 * k)) in
    λ j h. ap (λ x. get_or (set c.loop-k.memory k x) j 0) there ∙ fill_by_more (λ i. octet_of (drop (8 * i) symbols)) c.loop-k.memory k 0 (omega arith) c.loop-k.invariant j h

pub returns : goal.returns
returns c =
    let symbols = c.args.symbols.now in
    fill_by_all (λ i. octet_of (drop (8 * i) symbols)) c.loop-k.memory (octets_for (length symbols)) 0 (omega arith) (λ j h. c.loop-k.invariant j (omega arith))
