-- A line more, and the last. Assumes nothing.
use Rattle.std.proofs.Common.{◌≡◌, true, false, [], ◌∷◌, ◌++◌, map, string_bytes, refl, sym, ap, ◌∙◌, subst, append_assoc}
use Rattle.std.specs.Io.KnownBytes.{Appends}
use Rattle.std.proofs.KnownBytes.{Consumes-nil, Consumes-trans, Appends-nil, Appends-trans}
use Rattle.receiver.specs.Meaning.{settings_of}
use Rattle.drive_lines.specs.Asked.{reading}
use Rattle.drive_lines.specs.Driven.{driven_of}
use Rattle.drive_lines.specs.Session.{lines_of, end_line}
use Rattle.drive_lines.specs.Driving.{lines_in, printed_in, Answers}
use Rattle.drive_lines.specs.Reads.{ReadsLine}
use Rattle.drive_lines.proofs.Session.{splits_behind, last_line, ends, SoFar, written_behind, all_printed}
use Rattle.drive_lines.proofs.printing.drive.Goals as goal

pub loop-init : goal.loop-init
loop-init g c = record {
  taken = [];
  lines = [];
  text = [];
  given = Consumes-nil _;
  splits = λ further. refl;
  written = Appends-nil _;
  so_far = record {
    settings = ap (λ r. settings_of r) c.new-driving.ensures.receiver;
    slots_are = c.new-driving.ensures.slots;
    comes = ap (driven_of g.H.Hold) c.new-driving.ensures.receiver;
    lines_are = c.new-driving.ensures.lines;
    reports_are = c.new-driving.ensures.printed;
    text_is = refl;
  };
}

pub loop-preserved : goal.loop-preserved
loop-preserved g c =
    let inv = c.loop.invariant in
    let line = c.read_line.new.line.items in
    let text = string_bytes c.answer_line.new.text in
    let read : ReadsLine (g.R.Read.remaining c.loop.input) (g.R.Read.remaining c.read_line.new.input) line c.in_ok-more.more = c.in_ok-more.ensures in
    let more : c.in_ok-more.more ≡ true = c.if-not-more.false in
    let got = subst (ReadsLine (g.R.Read.remaining c.loop.input) (g.R.Read.remaining c.read_line.new.input) line) more read in
    let printed : Appends (g.W.Write.contents c.loop.output) (g.W.Write.contents c.print-in-loop.new.output) c.as_bytes-in-loop.result.now = c.in_ok-print-2.ensures in
    let answers =
    subst (λ l. Answers g.H.Hold (reading l) c.loop.driving c.answer_line.new.self [] text) c.as_slice.ensures.value
    (subst (λ t. Answers g.H.Hold (reading c.as_slice.result.now) c.loop.driving c.answer_line.new.self t text) c.clear.ensures.bytes c.in_ok-answer_line.ensures) in
    record {
      taken = inv.taken ++ (line ++ 10 ∷ []);
      lines = inv.lines ++ line ∷ [];
      text = inv.text ++ text;
      given = Consumes-trans _ _ _ _ _ inv.given got.0;
      splits = splits_behind inv.taken inv.lines line inv.splits got.1;
      written = subst (Appends _ _) (ap (λ t. inv.text ++ t) c.as_bytes-in-loop.ensures.value) (Appends-trans _ _ _ _ _ inv.written printed);
      so_far = written_behind g.H.Hold c.args.slots c.args.receiver c.loop.driving c.answer_line.new.self inv.lines line inv.text text inv.so_far answers;
    }

pub returns-then-not-more : goal.returns-then-not-more
returns-then-not-more g c =
    let inv = c.loop.invariant in
    let line = c.read_line.new.line.items in
    let text = string_bytes c.answer_line.new.text in
    let got = subst (ReadsLine (g.R.Read.remaining c.loop.input) (g.R.Read.remaining c.read_line.new.input) line) c.if-not-more.true c.in_ok-more.ensures in
    let answers =
    subst (λ l. Answers g.H.Hold (reading l) c.loop.driving c.answer_line.new.self [] text) c.as_slice.ensures.value
    (subst (λ t. Answers g.H.Hold (reading c.as_slice.result.now) c.loop.driving c.answer_line.new.self t text) c.clear.ensures.bytes c.in_ok-answer_line.ensures) in
    let driving = c.answer_line.new.self in
    let so_far =
    subst (λ all. SoFar g.H.Hold c.args.slots c.args.receiver driving (map reading all) (inv.text ++ text)) (sym (last_line inv.taken inv.lines line inv.splits got.1))
    (written_behind g.H.Hold c.args.slots c.args.receiver c.loop.driving driving inv.lines line inv.text text inv.so_far answers) in
    record {
      octets = inv.taken ++ line;
      given = Consumes-trans _ _ _ _ _ inv.given got.0;
      all = ends _ _ _ _ inv.given got.2;
      text = subst (Appends _ _)
          (ap (λ t. inv.text ++ t) (c.as_bytes.ensures.value ∙ c.in_ok-end.ensures) ∙ sym (append_assoc inv.text text (end_line (lines_in driving) (printed_in driving)))
          ∙ all_printed g.H.Hold c.args.slots c.args.receiver driving (inv.taken ++ line) (inv.text ++ text) so_far)
          (Appends-trans _ _ _ _ _ inv.written c.in_ok-print.ensures);
    }
