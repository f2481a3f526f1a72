-- One octet more. Assumes nothing.
use Rattle.std.proofs.Common.{[], ◌∷◌, ◌++◌, take, ap, sym, subst, ◌∙◌, append-nil}
use Rattle.std.proofs.ByRecursion.{All-append}
use Rattle.std.proofs.lemmas.Grind.{flat_map-append}
use Rattle.std.proofs.lemmas.List.{take_more}
use Rattle.receive_lines.specs.Forms.{symbols_in_octet, symbols_in_octets, IsOfForm, AreOfForm}
use Rattle.receive_lines.specs.Releasing.{PassedSymbols}
use Rattle.receive_lines.proofs.Passes.{no_symbols, symbols_then}
use Rattle.receive_lines.proofs.receiving.Receiving.take_octets.Goals as goal

pub loop-octet-init : goal.loop-octet-init
loop-octet-init g c = record { form = tt; taken = no_symbols g.H.Hold _ }

pub loop-octet-preserved : goal.loop-octet-preserved
loop-octet-preserved g c =
    let inv = c.loop-octet.invariant in
    let form = c.args.form in
    let octets = c.args.octets.now in
    let n = c.loop-octet.octet-index in
    let one = sym (take_more octets n 0 c.loop-octet-test.true) in
    let took = c.in_ok-take_octet.ensures in
    record {
      form = subst (AreOfForm form) one (All-append (IsOfForm form) (take n octets) _ inv.form (took.form, tt));
      taken = subst (λ l. PassedSymbols g.H.Hold l c.args.self.now c.take_octet.new.self)
          (ap (λ l. symbols_in_octets form (take n octets) ++ l) (sym (append-nil _)) ∙ sym (flat_map-append (symbols_in_octet form) (take n octets) _) ∙ ap (symbols_in_octets form) one)
          (symbols_then g.H.Hold (symbols_in_octets form (take n octets)) _ _ _ _ inv.taken took.taken);
    }
