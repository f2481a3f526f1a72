-- A record passes every test, and what passes every test is a record. Assumes nothing.
use Rattle.std.proofs.Common.{◌≡◌, ◌<◌, sym, refl, subst, arith}
use Rattle.pass_record.specs.Reading.{told_count, told_place}
use Rattle.pass_record.specs.Faults.{due, RightTo, IsEntryFault}
use Rattle.pass_record.proofs.Laid.{LaidTo, laid_more, laid_all}
use Rattle.pass_record.proofs.FirstFault.{no_record_by_end, no_record_by_entry, no_record_by_rest, due_next, right_more}
use Rattle.pass_record.proofs.fault.Goals as goal

pub returns-in-Some : goal.returns-in-Some
returns-in-Some c = (c.in-Some.ensures.0, no_record_by_end c.args.octets.now c.in-Some.ensures.1)

pub returns-in-Err : goal.returns-in-Err
returns-in-Err c =
    let octets = c.args.octets.now in
    let i = c.loop-i.i in
    let before : i < told_count octets = omega (arith, c.told_count-i-end.ensures) in
    let known = c.loop-i.invariant in
    let wrong : IsEntryFault octets i c.loop-i.place c.in-Err.fault = c.in-Err.ensures in (
      (i, refl, before, known.right, subst (λ p. IsEntryFault octets i p c.in-Err.fault) known.here wrong),
      no_record_by_entry octets (λ k. (c.type_inv.octets k).fits) known.right.end i c.loop-i.place c.in-Err.fault before known.laid wrong,
    )

pub loop-i-preserved : goal.loop-i-preserved
loop-i-preserved c =
    let octets = c.args.octets.now in
    let i = c.loop-i.i in
    let place = c.loop-i.place in
    let before : i < told_count octets = omega (arith, c.told_count-i-end.ensures) in
    let known = c.loop-i.invariant in
    let right = c.in-Ok.ensures in
    record {
      laid = subst (LaidTo octets _) (sym right.1) (laid_more octets (λ k. (c.type_inv.octets k).fits) known.right.end i place before known.laid right.0);
      here = due_next octets i place c.in-Ok.end known.here right.1;
      right = right_more octets i place known.right known.here right.0;
    }

pub returns-then-place-first_entry : goal.returns-then-place-first_entry
returns-then-place-first_entry c =
    let octets = c.args.octets.now in
    let place = c.loop-i.place in
    let all : c.loop-i.i ≡ told_count octets = omega (arith, c.told_count-i-end.ensures) in
    let known = c.loop-i.invariant in
    let laid : LaidTo octets (told_count octets) place = subst (λ n. LaidTo octets n place) all known.laid in
    let short : place < told_place octets = omega (arith, c.told_place-first_entry.ensures) in (
      (subst (RightTo octets) all known.right, subst (λ n. place ≡ due octets n) all known.here, c.told_place-first_entry.ensures, omega arith),
      no_record_by_rest octets (λ k. (c.type_inv.octets k).fits) known.right.end place laid short,
    )

pub returns : goal.returns
returns c =
    let octets = c.args.octets.now in
    let place = c.loop-i.place in
    let all : c.loop-i.i ≡ told_count octets = omega (arith, c.told_count-i-end.ensures) in
    let known = c.loop-i.invariant in
    let laid : LaidTo octets (told_count octets) place = subst (λ n. LaidTo octets n place) all known.laid in
    let there : place ≡ told_place octets = omega (arith, c.told_place-first_entry.ensures, laid.within) in
    laid_all octets (λ k. (c.type_inv.octets k).fits) known.right.end place laid there
