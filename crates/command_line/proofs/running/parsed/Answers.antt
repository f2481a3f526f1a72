-- What a parse may answer. Assumes nothing.
use Rattle.command_line.proofs.Outcome.{if_ok}
use Rattle.command_line.proofs.running.parsed.Goals as goal

pub returns : goal.returns
returns c =
    let told = c.try_get_matches_from_mut.ensures in
    record {
      checked = if_ok c.try_get_matches_from_mut.result
          (λ matches known. record {
            built = c.try_get_matches_from_mut.new.self;
            from = known.0;
            parsed = known.1;
          }) told.ok;
      matches = if_ok c.try_get_matches_from_mut.result (λ matches known. known.2) told.ok;
      taken = told.passes;
      kinds = told.kinds;
    }
