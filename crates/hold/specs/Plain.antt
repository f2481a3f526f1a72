-- The plain showing: an octet shows as it is added. A hold that keeps octets as they come has it. Assumes nothing.
use Rattle.std.specs.Prelude.{◌≡◌, ℕ, [], None}
use Rattle.randomizer.specs.declared.Randomizer.TheVariants.{Off}
use Rattle.hold.specs.declared.Hold.{Ghosts}
use Rattle.hold.specs.Candidates.{Showing, ShowsApart, Matches}

abbrev pub plain_showing : Showing
plain_showing place x = x

pub plain_shows_apart : ShowsApart plain_showing
plain_shows_apart = record { octets = λ place x h. h; apart = λ place x y hx hy e. e }

-- a hold that shows octets as they are added, and so matches a sender that does not randomize, has room for so many
-- codeblocks, and holds nothing yet; said by the members of its kind
pub record EmptyPlainHold {X : Type 0} (members : Ghosts X) (room : ℕ) (hold : X) : Type 0 where
  pub capacity : members.capacity hold ≡ room
  pub finished : members.finished hold ≡ []
  pub opened : members.opened hold ≡ None
  pub showing : members.showing ≡ plain_showing
  pub matches : Matches members.showing Off
