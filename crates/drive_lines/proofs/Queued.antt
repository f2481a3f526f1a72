-- What waits in a queue, and how many slots it has. Assumes nothing.
use Rattle.std.proofs.Common.{◌≡◌, ℕ, ◌+◌, List, [], ◌++◌, length, take, drop, Option, Some, None, ap, ap₂, ◌∙◌, sym, subst, arith}
use Rattle.std.proofs.lemmas.List.{length-append, length-drop, length-take, nil_from_length}
use Rattle.hold.specs.declared.Hold.{Ghosts}
use Rattle.queue.specs.declared.slots.Queue.{Queue}
use Rattle.queue.specs.Waiting.{waiting, free, capacity, slots_of}
use Rattle.queue.proofs.Laws.{every_slot}
use Rattle.reception.specs.declared.Report.{Report}
use Rattle.reception.specs.Calls.{Call}
use Rattle.decoding.specs.Meaning.{rules_of}
use Rattle.receiver.specs.declared.receiver.Receiver.{Receiver}
use Rattle.receiver.specs.Meaning.{settings_of, free_slots}
use Rattle.receiver.specs.Calls.{reports_made}
use Rattle.receiver.specs.Events.{Queued}
use Rattle.drive_lines.specs.Driven.{driven_of, after_asked, reports_after}
use Rattle.drive_lines.specs.Calling.{Comes}
use Rattle.drive_lines.specs.Driving.{IsCalled}

-- reports that are put change no slots
pub same_slots : (reports : List Report) (q later : Queue Report) → Queued reports q later → capacity later ≡ capacity q
same_slots reports q later queued =
    let put = take (free_slots q) reports in
    let waits : length (waiting later) ≡ length (waiting q ++ put) = ap (λ s. length s.waiting) queued in
    let left : length (free later) ≡ length (drop (length put) (free q)) = ap (λ s. length s.free) queued in
    omega (arith, every_slot q, every_slot later, length-append (waiting q) put, length-drop (length put) (free q), length-take (free_slots q) reports)

-- where nothing waits, every slot is free
pub all_free_slots : (q : Queue Report) → length (waiting q) ≡ 0 → free_slots q ≡ capacity q
all_free_slots q none = omega (arith, every_slot q)

module _ {X : Type 0} (hold : Ghosts X) (before after : Receiver X) (q later : Queue Report) where
  -- what waits after a call, where nothing waited before
  pub waits_after : (call : Option Call) → length (waiting q) ≡ 0 → Comes hold call before after q later →
      waiting later ≡ reports_after (rules_of (settings_of before)) hold.showing (free_slots q) (driven_of hold before) call
  waits_after None none comes = ap waiting comes.1 ∙ nil_from_length (waiting q) none
  waits_after (Some call) none comes =
      ap (λ s. s.waiting) comes.1 ∙ ap (λ w. w ++ take (free_slots q) (reports_made hold before call)) (nil_from_length (waiting q) none)

  pub driven_after : (call : Option Call) → Comes hold call before after q later →
      driven_of hold after ≡ after_asked (rules_of (settings_of before)) hold.showing (driven_of hold before) call
  driven_after None comes = ap (driven_of hold) comes.0
  driven_after (Some call) comes = ap₂ (λ s l. record { state = s; lost = l }) comes.0.state comes.0.lost

  pub same_settings : (call : Option Call) → Comes hold call before after q later → settings_of after ≡ settings_of before
  same_settings None comes = ap settings_of comes.0
  same_settings (Some call) comes = comes.0.settings

  -- it is called so
  pub called_so : (call : Option Call) → Comes hold call before after q later → IsCalled hold call before after
  called_so None comes = comes.0
  called_so (Some call) comes = comes.0
