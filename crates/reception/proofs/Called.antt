-- A list of calls runs as its events put together. Assumes nothing.
use Rattle.std.proofs.Common.{[], ◌∷◌, sym, refl, ap, ◌∙◌}
use Rattle.hold.specs.Candidates.{Showing}
use Rattle.reception.specs.Decoding.{Settings}
use Rattle.reception.specs.Rules.{made}
use Rattle.reception.specs.Calls.{events_in, events_of_calls, after_call, CallsRunAsTheirEvents}
use Rattle.reception.proofs.Brings.{after_append}

module _ (settings : Settings) (showing : Showing) where
  pub calls_run_as_their_events : CallsRunAsTheirEvents settings showing
  calls_run_as_their_events hold [] = refl
  calls_run_as_their_events hold (latest ∷ earlier) =
      ap (λ s. after_call settings showing s latest) (calls_run_as_their_events hold earlier)
      ∙ sym (after_append settings showing (events_of_calls earlier) (events_in latest) (made hold))
