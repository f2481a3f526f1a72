-- The lines so far, in front of those for what waits, are all. Assumes nothing.
use Rattle.std.proofs.Common.{◌≡◌, ◌++◌, length, string_bytes}
use Rattle.queue.specs.Waiting.{waiting, capacity}
use Rattle.drive_lines.specs.Driven.{reports_text}
use Rattle.drive_lines.proofs.calling.print_reports.Given as goal

abbrev pub invariant-loop-report : goal.invariant-loop-report
invariant-loop-report l = record {
  text : string_bytes l.text ++ reports_text (waiting l.reports) ≡ string_bytes l.initial.text ++ reports_text (waiting l.initial.reports);
  slots : capacity l.reports ≡ capacity l.initial.reports;
}

abbrev pub decreases-loop-report : goal.decreases-loop-report
decreases-loop-report l = length (waiting l.reports)
