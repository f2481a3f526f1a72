-- What symbols that come one after the other receive. Assumes nothing.
use Rattle.std.specs.Prelude.{◌≡◌, Bool, List, ◌++◌, length}
use Rattle.pass_lines.specs.Symbols.{inverted_at}
use Rattle.pass_lines.specs.declared.symbols.Symbols.{Symbols}

-- these are sent behind those before, and are received with the errors at their places
pub record Receives (sent : List Bool) (before after : Symbols) : Type 0 where
  pub wrong : after.wrong.now ≡ before.wrong.now
  pub received : after.received.items
      ≡ before.received.items ++ inverted_at before.wrong.now (length before.received.items) sent
