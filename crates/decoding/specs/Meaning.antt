-- What settings and a hold mean to the rules of reception. Assumes nothing.
use Rattle.std.specs.Prelude.{ℕ, Ok, Err, Result}
use Rattle.bch.specs.declared.Mode.{Mode}
use Rattle.refusals.specs.declared.Refusal.{Refusal}
use Rattle.cltu.specs.Limit.{codeblocks_allowed, limit_answer}
use Rattle.hold.specs.declared.Hold.{Ghosts}
use Rattle.reception.specs.Decoding.{Settings, settings, Held}
use Rattle.decoding.specs.declared.settings.Settings.{Settings as Set}

-- the settings of the rules
abbrev pub rules_of : Set → Settings
rules_of set = settings set.mode (codeblocks_allowed set.limit)

abbrev pub made_settings : Result Set Refusal → Result Settings Refusal
made_settings (Ok set) = Ok (rules_of set)
made_settings (Err why) = Err why

-- refused where the limit is
abbrev pub with_limit : Mode → Result ℕ Refusal → Result Settings Refusal
with_limit mode (Ok limit) = Ok (settings mode limit)
with_limit mode (Err why) = Err why

abbrev pub settings_answer : Mode → ℕ → Result Settings Refusal
settings_answer mode limit = with_limit mode (limit_answer limit)

-- what a hold means, by the members of its kind
abbrev pub held_in : {X : Type 0} → Ghosts X → X → Held
held_in hold x = record { capacity = hold.capacity x; finished = hold.finished x; opened = hold.opened x }
