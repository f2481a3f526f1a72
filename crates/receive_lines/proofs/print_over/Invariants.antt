-- What has come is taken, and what is written of it is printed. Assumes nothing.
use Rattle.std.proofs.Common.{◌≡◌, ℕ, List, [], string_bytes, vec_len}
use Rattle.std.specs.Io.KnownBytes.{Appends, Consumes}
use Rattle.reception.specs.Rules.{made}
use Rattle.decoding.specs.Meaning.{rules_of, held_in}
use Rattle.receive_lines.specs.Forms.{symbols_in_octets, AreOfForm}
use Rattle.receive_lines.proofs.Come.{InSegment}
use Rattle.receive_lines.proofs.print_over.Given as goal

abbrev pub invariant-loop : goal.invariant-loop
invariant-loop g l = record {
  taken : List ℕ;
  text : List ℕ;
  given : Consumes (g.R.Read.remaining l.fn.input) (g.R.Read.remaining l.input) taken;
  written : Appends (g.W.Write.contents l.fn.output) (g.W.Write.contents l.output) text;
  form_kept : AreOfForm l.fn.form taken;
  come : InSegment g.H.Hold (rules_of l.fn.settings) (made (held_in g.H.Hold l.fn.hold)) l.fn.view (symbols_in_octets l.fn.form taken) text l.receiving;
  clear : string_bytes l.receiving.log.text ≡ [];
  room : vec_len l.piece ≡ 8192;
}
