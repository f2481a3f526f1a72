-- What comes is taken, and what is answered is written. Assumes nothing.
use Rattle.std.proofs.Common.{◌≡◌, [], ◌++◌, take, ap, subst, ◌∙◌, append-nil, string_bytes, arith}
use Rattle.std.specs.Io.KnownBytes.{Appends, Consumes}
use Rattle.std.proofs.lemmas.List.{with_items_is}
use Rattle.std.proofs.KnownBytes.{Consumes-nil, Consumes-trans, Consumes-kept, Appends-nil, Appends-trans}
use Rattle.answered_lines.specs.Printed.{printed}
use Rattle.answered_lines.specs.Taken.{HasTaken}
use Rattle.answered_lines.proofs.print_answers.Goals as goal

pub loop-init : goal.loop-init
loop-init g c =
    record {
      taken = [];
      text = [];
      given = Consumes-nil _;
      written = Appends-nil _;
      has_taken = c.new-lines.ensures.taken;
      same = c.new-lines.ensures.answering;
      clear = c.new-text.ensures.bytes;
      room = c.in_ok-piece.ensures.len;
    }

pub loop-preserved-in-Err : goal.loop-preserved-in-Err
loop-preserved-in-Err g c =
    let inv = c.loop.invariant in
    record {
      taken = inv.taken;
      text = inv.text;
      given = Consumes-kept _ _ _ _ inv.given c.in-Err.ensures.bytes;
      written = inv.written;
      has_taken = inv.has_taken;
      same = inv.same;
      clear = inv.clear;
      room = inv.room;
    }

pub returns-then-count-eq0 : goal.returns-then-count-eq0
returns-then-count-eq0 g c =
    let inv = c.loop.invariant in
    let meaning_of = g.A.Answering.meaning in
    let read = c.in-Ok.ensures.bytes in
    let ended = c.in_ok-end.ensures in
    let more : string_bytes c.end.new.text ≡ ended.0 = ended.1 ∙ ap (λ t. t ++ ended.0) inv.clear in
    record {
      octets = inv.taken;
      given = subst (Consumes _ _) (ap (λ n. inv.taken ++ take n c.read.new.buf) c.if-count-eq0.true ∙ append-nil inv.taken) (Consumes-trans _ _ _ _ _ inv.given read.0);
      all = read.1 c.if-count-eq0.true (omega (arith, c.as_mut_slice.ensures.len, inv.room));
      text = subst (Appends _ _) (ap (λ t. inv.text ++ t) (c.as_bytes.ensures.value ∙ more) ∙ ended.2 inv.taken inv.text inv.has_taken ∙ ap (λ a. printed (meaning_of a) inv.taken) inv.same)
          (Appends-trans _ _ _ _ _ inv.written c.in_ok-write_all.ensures.bytes);
    }

pub loop-preserved : goal.loop-preserved
loop-preserved g c =
    let inv = c.loop.invariant in
    let meaning_of = g.A.Answering.meaning in
    let took = c.in_ok-take.ensures.taken in
    let more : string_bytes c.take.new.text ≡ took.0 = took.1 ∙ ap (λ t. t ++ took.0) inv.clear in
    let next = took.2 inv.taken inv.text inv.has_taken in
    let shown : take c.in-Ok.count c.deref.result.now ≡ take c.in-Ok.count c.read.new.buf =
    ap (take c.in-Ok.count) (c.deref.ensures.value ∙ with_items_is c.loop.piece c.read.new.buf (omega (arith, c.as_mut_slice.ensures.len))) in
    record {
      taken = inv.taken ++ take c.in-Ok.count c.read.new.buf;
      text = inv.text ++ took.0;
      given = Consumes-trans _ _ _ _ _ inv.given c.in-Ok.ensures.bytes.0;
      written = subst (Appends _ _) (ap (λ t. inv.text ++ t) (c.as_bytes-in-loop.ensures.value ∙ more)) (Appends-trans _ _ _ _ _ inv.written c.in_ok-write_all-2.ensures.bytes);
      has_taken = subst (λ l. HasTaken meaning_of c.take.new.self (inv.taken ++ l) (inv.text ++ took.0)) shown next;
      same = c.in_ok-take.ensures.answering ∙ inv.same;
      clear = c.clear.ensures.bytes;
      room = inv.room;
    }
