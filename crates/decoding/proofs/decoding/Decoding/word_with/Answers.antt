-- One symbol more in a codeblock. Assumes nothing.
use Rattle.std.proofs.Common.{◌%◌, ◌^◌, ◌∙◌, arith}
use Rattle.std.proofs.Math.Nat.{mod-eq_of_lt}
use Rattle.reception.proofs.Pushed.{pushed}
use Rattle.reception.proofs.Words.{fits_word}
use Rattle.decoding.proofs.decoding.Decoding.word_with.Goals as goal

pub returns : goal.returns
returns c =
    let d = c.args.self in
    pushed (2 ^ 64) (d.word % 2 ^ 63) d.word c.from.result c.args.bit c.from.ensures (omega arith) (λ n few. omega arith)
    ∙ mod-eq_of_lt (fits_word d.count d.word c.args.bit d.few_bits d.unfinished)
