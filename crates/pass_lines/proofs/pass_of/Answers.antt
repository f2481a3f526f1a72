-- A place past the end, and segments in a form. Assumes nothing.
use Rattle.std.proofs.Common.{◌≡◌, ◌⊎◌, inl, inr, ⊎_elim, ◌∙◌, ap, sym, length, map, Ok, Err, rules}
use Rattle.std.proofs.lemmas.List.{length-map}
use Rattle.pass_lines.specs.Cltus.{octets_of_each}
use Rattle.pass_lines.specs.Symbols.{all_symbols}
use Rattle.pass_lines.specs.Forms.{segment_symbols, octets_made}
use Rattle.pass_lines.specs.Making.{segments_made, sent_by}
use Rattle.pass_lines.specs.declared.error.PassError.TheVariants.{Memory}
use Rattle.pass_lines.proofs.Passing.{past, all_segments, not_made, is_made}
use Rattle.pass_lines.proofs.pass_of.Goals as goal

pub returns-in-Some-clause-none : goal.returns-in-Some-clause-none
returns-in-Some-clause-none c =
    inr (past c.args.settings.now (octets_of_each c.args.cltus.now) c.in_ok-received.received.items c.in_ok-received.ensures c.len-symbols.result (search rules) c.in-Some.place c.in-Some.ensures)

pub octets-requires : goal.octets-requires
octets-requires c =
    c.as_slice-3.ensures.value
    ∙ all_segments c.args.settings.now (octets_of_each c.args.cltus.now) c.in_ok-received.received.items c.in_ok-received.ensures c.len-symbols.result (search rules) (segment_symbols c.in_ok-segments.segments.items) c.in_ok-segments.ensures
    ∙ ap (λ l. all_symbols (segment_symbols l)) (sym c.as_slice-2.ensures.value)

pub returns-in_err-octets-clause-none : goal.returns-in_err-octets-clause-none
returns-in_err-octets-clause-none c =
    let settings = c.args.settings.now in
    let cltus = octets_of_each c.args.cltus.now in
    let e = c.in_err-octets.field-0.0 in
    let none : (e ≡ Memory) ⊎ (segments_made settings (sent_by settings cltus) ≡ Err e) =
    ⊎_elim inl
    (λ made. inr (not_made settings cltus c.in_ok-received.received.items c.in_ok-received.ensures c.len-symbols.result (search rules) (segment_symbols c.in_ok-segments.segments.items) c.in_ok-segments.ensures c.in-None.ensures e
    (ap (λ l. octets_made settings.form (segment_symbols l)) (sym c.as_slice-2.ensures.value) ∙ made)))
    c.in_err-octets.ensures.none in
    search (rules, none)

pub returns-clause-made : goal.returns-clause-made
returns-clause-made c =
    let settings = c.args.settings.now in
    let cltus = octets_of_each c.args.cltus.now in
    let segments = c.in_ok-segments.segments.items in
    let counted : c.len.result ≡ length segments = search rules in
    is_made settings cltus c.in_ok-received.received.items c.in_ok-received.ensures c.len-symbols.result (search rules) (segment_symbols segments) c.in_ok-segments.ensures c.in-None.ensures c.len.result c.in_ok-octets.octets.items
    (simp (length-map, counted))
    (ap (λ l. octets_made settings.form (segment_symbols l)) (sym c.as_slice-2.ensures.value) ∙ c.in_ok-octets.ensures.made)
