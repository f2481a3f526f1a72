-- What is taken so far. Assumes nothing.
use Rattle.std.proofs.Common.{◌≡◌, take, string_bytes}
use Rattle.answered_lines.specs.Taken.{answering_of, Takes}
use Rattle.answered_lines.proofs.lines.AnsweredLines.take.Given as goal

abbrev pub invariant-loop-octet : goal.invariant-loop-octet
invariant-loop-octet g l = (answering_of l.self ≡ answering_of l.initial.self)
    × Takes g.A.Answering.meaning l.initial.self l.self (take l.octet-index l.octets) (string_bytes l.initial.text) (string_bytes l.text)
