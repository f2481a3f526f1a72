-- Releases, one behind the other. Assumes nothing.
use Rattle.std.proofs.Common.{ℕ, ◌+◌, [], ◌∷◌, subst}
use Rattle.std.proofs.lemmas.List.{replicate-append-replicate}
use Rattle.hold.specs.declared.Hold.{Ghosts}
use Rattle.queue.specs.declared.slots.Queue.{Queue}
use Rattle.reception.specs.declared.Report.{Report}
use Rattle.reception.specs.Rules.{release}
use Rattle.reception.specs.Calls.{call_release}
use Rattle.receiver.specs.declared.receiver.Receiver.{Receiver}
use Rattle.receiver.specs.Calls.{Called}
use Rattle.receiver.specs.Events.{Ran}
use Rattle.receiver.specs.Joined.{PromiseOverCalls}
use Rattle.callers.specs.InUse.{InUse}
use Rattle.callers.specs.Command.{releases}
use Rattle.callers.proofs.Used.{used_on}

module _ {X : Type 0} (hold : Ghosts X) where
  pub record ReleasedSoFar (count : ℕ) (before now : Receiver X) : Type 0 where
    pub ran : PromiseOverCalls hold → (queue : Queue Report) → Ran hold (releases count) before now queue queue
    pub in_use : InUse hold before → InUse hold now

  pub none_released : (before : Receiver X) → ReleasedSoFar 0 before before
  none_released before = record { ran = λ runs queue. runs.nothing before queue; in_use = λ used. used }

  pub one_more_released : (count : ℕ) (before now after : Receiver X) → ReleasedSoFar count before now → Called hold call_release now after → ReleasedSoFar (count + 1) before after
  one_more_released count before now after so_far called =
      record {
        ran = λ runs queue.
            subst (λ es. Ran hold es before after queue queue) (replicate-append-replicate count 1 release)
            (runs.joined (releases count) (release ∷ []) before now after queue queue queue (so_far.ran runs queue) (runs.releasing now after queue called));
        in_use = λ used. used_on hold call_release now after called (so_far.in_use used);
      }
