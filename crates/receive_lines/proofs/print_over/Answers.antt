-- What comes is taken, and what is written is printed. Assumes nothing.
use Rattle.std.proofs.Common.{◌≡◌, [], ◌∷◌, ◌++◌, suc, take, sym, ap, subst, ◌∙◌, refl, append-nil, string_bytes, arith}
use Rattle.std.specs.Io.KnownBytes.{Appends, Consumes}
use Rattle.std.proofs.ByRecursion.{All-append}
use Rattle.std.proofs.lemmas.Grind.{flat_map-append}
use Rattle.std.proofs.lemmas.List.{with_items_is}
use Rattle.std.proofs.KnownBytes.{Consumes-nil, Consumes-trans, Consumes-kept, Appends-nil, Appends-trans}
use Rattle.reception.specs.Rules.{made, carrier_up}
use Rattle.decoding.specs.Meaning.{rules_of, held_in}
use Rattle.receiver.specs.Meaning.{settings_of, state_of}
use Rattle.receive_lines.specs.Pass.{placed, place_in}
use Rattle.receive_lines.specs.Forms.{symbols_in_octet, symbols_in_octets, IsOfForm, AreOfForm}
use Rattle.receive_lines.proofs.Passes.{passed_as}
use Rattle.receive_lines.proofs.Come.{begins, InSegment, further, printed_too, segment_ends}
use Rattle.receive_lines.proofs.print_over.Goals as goal

pub loop-init : goal.loop-init
loop-init g c =
    let new = c.new-receiving.ensures in
    let begun = c.in_ok-begin_segment.ensures in
    let first = ap (λ p. place_in (suc p.segment) 0) new.place in
    record {
      taken = [];
      text = [];
      given = Consumes-nil _;
      written = Appends-nil _;
      form_kept = tt;
      come = begins g.H.Hold (rules_of c.args.settings) (made (held_in g.H.Hold c.args.hold)) c.args.view _ _
          (ap (λ r. rules_of (settings_of r)) new.receiver ∙ ap rules_of c.new-receiver.ensures.settings) (ap (state_of g.H.Hold) new.receiver ∙ c.new-receiver.ensures.state)
          new.view new.text new.reports new.frames (begun.place ∙ first) (passed_as (ap (λ p. placed p carrier_up ∷ []) first) begun.passed);
      clear = ap (λ log. string_bytes log.text) begun.log ∙ new.text;
      room = c.in_ok-piece.ensures.len;
    }

pub loop-preserved-in-Err : goal.loop-preserved-in-Err
loop-preserved-in-Err g c =
    let inv = c.loop.invariant in
    record {
      taken = inv.taken;
      text = inv.text;
      given = Consumes-kept _ _ _ _ inv.given c.in-Err.ensures.bytes;
      written = inv.written;
      form_kept = inv.form_kept;
      come = inv.come;
      clear = inv.clear;
      room = inv.room;
    }

pub returns-then-count-eq0 : goal.returns-then-count-eq0
returns-then-count-eq0 g c =
    let inv = c.loop.invariant in
    let read = c.in-Ok.ensures.bytes in
    record {
      octets = inv.taken;
      given = subst (Consumes _ _) (ap (λ n. inv.taken ++ take n c.read.new.buf) c.if-count-eq0.true ∙ append-nil inv.taken) (Consumes-trans _ _ _ _ _ inv.given read.0);
      all = read.1 c.if-count-eq0.true (omega (arith, c.as_mut_slice.ensures.len, inv.room));
      form_kept = inv.form_kept;
      printed = subst (Appends _ _)
          (ap (λ t. inv.text ++ t) (c.as_bytes.ensures.value ∙ c.in_ok-text.ensures)
          ∙ segment_ends g.H.Hold (rules_of c.args.settings) (made (held_in g.H.Hold c.args.hold)) c.args.view (symbols_in_octets c.args.form inv.taken) inv.text _ _ inv.come c.in_ok-end_segment.ensures.passed)
          (Appends-trans _ _ _ _ _ inv.written c.in_ok-write_all.ensures.bytes);
    }

pub loop-preserved : goal.loop-preserved
loop-preserved g c =
    let inv = c.loop.invariant in
    let form = c.args.form in
    let rules = rules_of c.args.settings in
    let s = made (held_in g.H.Hold c.args.hold) in
    let took = c.in_ok-taken.ensures in
    let cleared = c.clear_text.ensures in
    let more = take c.in-Ok.count c.read.new.buf in
    let before = symbols_in_octets form inv.taken in
    let shown : take c.in-Ok.count c.deref.result.now ≡ more =
    ap (take c.in-Ok.count) (c.deref.ensures.value ∙ with_items_is c.loop.piece c.read.new.buf (omega (arith, c.as_mut_slice.ensures.len))) in
    let all : before ++ symbols_in_octets form (take c.in-Ok.count c.deref.result.now) ≡ symbols_in_octets form (inv.taken ++ more) =
    ap (λ l. before ++ symbols_in_octets form l) shown ∙ sym (flat_map-append (symbols_in_octet form) inv.taken more) in
    let come = subst (λ l. InSegment g.H.Hold rules s c.args.view l inv.text c.take_octets-taken.new.self) all
    (further g.H.Hold rules s c.args.view before (symbols_in_octets form (take c.in-Ok.count c.deref.result.now)) inv.text _ _ inv.come took.taken) in
    record {
      taken = inv.taken ++ more;
      text = inv.text ++ string_bytes c.take_octets-taken.new.self.log.text;
      given = Consumes-trans _ _ _ _ _ inv.given c.in-Ok.ensures.bytes.0;
      written = subst (Appends _ _) (ap (λ t. inv.text ++ t) c.as_bytes-in-loop.ensures.value) (Appends-trans _ _ _ _ _ inv.written c.in_ok-write_all-2.ensures.bytes);
      form_kept = All-append (IsOfForm form) inv.taken more inv.form_kept (subst (AreOfForm form) shown took.form);
      come = printed_too g.H.Hold rules s c.args.view (symbols_in_octets form (inv.taken ++ more)) inv.text c.take_octets-taken.new.self _ come cleared.receiver cleared.place cleared.view cleared.reports cleared.frames cleared.text;
      clear = cleared.text;
      room = inv.room;
    }
