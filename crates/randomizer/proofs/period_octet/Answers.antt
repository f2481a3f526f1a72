-- The table is one period of the sequence, which follows its rule, and adding it twice gives back. Assumes nothing.
use Rattle.randomizer.proofs.Rule.{sequence_follows_the_rule}
use Rattle.randomizer.proofs.Period.{get_or_one_period}
use Rattle.randomizer.proofs.Laws.{randomizing_twice_gives_back}
use Rattle.randomizer.proofs.period_octet.Goals as goal

pub returns : goal.returns
returns c = record {
  octet = λ place here. get_or_one_period c.args.table.now place c.args.k c.requires.table here;
  rule = sequence_follows_the_rule;
  twice = λ r. randomizing_twice_gives_back r 0;
}
