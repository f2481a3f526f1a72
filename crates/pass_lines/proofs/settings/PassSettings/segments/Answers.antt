-- The symbols are those of the segments. Assumes nothing.
use Rattle.std.proofs.Common.{◌≡◌, ◌∙◌, ap, sym, length}
use Rattle.std.proofs.lemmas.Result.{IfOk-weaker}
use Rattle.pass_lines.specs.Cltus.{octets_of_each}
use Rattle.pass_lines.specs.Places.{places_of}
use Rattle.pass_lines.specs.Symbols.{segments_sent, segments_received, parts}
use Rattle.pass_lines.specs.Forms.{segment_symbols}
use Rattle.pass_lines.proofs.Receiving.{length-inverted_at}
use Rattle.pass_lines.proofs.Segments.{length_all, parts_received}
use Rattle.pass_lines.proofs.settings.PassSettings.segments.Goals as goal

pub cut_apart-requires : goal.cut_apart-requires
cut_apart-requires c =
    let settings = c.args.self.now in
    let cltus = octets_of_each c.args.cltus.now in
    ap length c.requires ∙ length-inverted_at (places_of settings.wrong) 0 _ ∙ length_all settings.first settings.guard cltus

pub returns-then-self : goal.returns-then-self
returns-then-self c =
    let settings = c.args.self.now in
    let cltus = octets_of_each c.args.cltus.now in
    IfOk-weaker c.cut_apart.result
    (λ v. segment_symbols v.items ≡ parts settings.guard cltus c.args.symbols.now)
    (λ v. segment_symbols v.items ≡ segments_received (places_of settings.wrong) 0 (segments_sent settings.apart settings.first settings.guard cltus))
    (λ v is. is ∙ ap (parts settings.guard cltus) c.requires ∙ parts_received settings.first settings.guard (places_of settings.wrong) 0 cltus
    ∙ ap (λ a. segments_received (places_of settings.wrong) 0 (segments_sent a settings.first settings.guard cltus)) (sym c.if-self.true))
    c.cut_apart.ensures
