-- What is kept of octets. Assumes nothing.
use Rattle.std.specs.Prelude.{ℕ, List, take, Option, Some, None}

-- the first ones, so many, or all
abbrev pub kept : Option ℕ → List ℕ → List ℕ
kept None octets = octets
kept (Some most) octets = take most octets
