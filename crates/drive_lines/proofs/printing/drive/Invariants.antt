-- The lines that have come are answered. Assumes nothing.
use Rattle.std.proofs.Common.{◌≡◌, ℕ, List, ◌++◌, map}
use Rattle.std.specs.Io.KnownBytes.{Appends, Consumes}
use Rattle.drive_lines.specs.Asked.{reading}
use Rattle.drive_lines.specs.Session.{lines_of}
use Rattle.drive_lines.proofs.Session.{SoFar}
use Rattle.drive_lines.proofs.printing.drive.Given as goal

abbrev pub invariant-loop : goal.invariant-loop
invariant-loop g l = record {
  taken : List ℕ;
  lines : List (List ℕ);
  text : List ℕ;
  given : Consumes (g.R.Read.remaining l.fn.input) (g.R.Read.remaining l.input) taken;
  splits : (further : List ℕ) → lines_of (taken ++ further) ≡ lines ++ lines_of further;
  written : Appends (g.W.Write.contents l.fn.output) (g.W.Write.contents l.output) text;
  so_far : SoFar g.H.Hold l.fn.slots l.fn.receiver l.driving (map reading lines) text;
}
