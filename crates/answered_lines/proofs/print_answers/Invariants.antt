-- What has come is taken, and what that is answered by is written. Assumes nothing.
use Rattle.std.proofs.Common.{◌≡◌, ℕ, List, [], string_bytes, vec_len}
use Rattle.std.specs.Io.KnownBytes.{Appends, Consumes}
use Rattle.answered_lines.specs.Taken.{answering_of, HasTaken}
use Rattle.answered_lines.proofs.print_answers.Given as goal

abbrev pub invariant-loop : goal.invariant-loop
invariant-loop g l = record {
  taken : List ℕ;
  text : List ℕ;
  given : Consumes (g.R.Read.remaining l.fn.input) (g.R.Read.remaining l.input) taken;
  written : Appends (g.W.Write.contents l.fn.output) (g.W.Write.contents l.output) text;
  has_taken : HasTaken g.A.Answering.meaning l.lines taken text;
  same : answering_of l.lines ≡ l.fn.answering;
  clear : string_bytes l.text ≡ [];
  room : vec_len l.piece ≡ 8192;
}
