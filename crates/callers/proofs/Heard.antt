-- Octets that are heard one after the other. Assumes nothing.
use Rattle.std.proofs.Common.{◌≡◌, ℕ, ◌+◌, ◌<◌, Bool, List, [], ◌∷◌, ◌++◌, length, take, get_or, sym, ap, ◌∙◌, subst, append-nil}
use Rattle.std.proofs.lemmas.List.{take_more}
use Rattle.std.proofs.lemmas.Grind.{flat_map-append}
use Rattle.bch.specs.Bits.{octet_bits, bits_of}
use Rattle.hold.specs.declared.Hold.{Ghosts}
use Rattle.queue.specs.declared.slots.Queue.{Queue}
use Rattle.reception.specs.declared.Report.{Report}
use Rattle.reception.specs.Calls.{call_symbols, symbol_events}
use Rattle.receiver.specs.declared.receiver.Receiver.{Receiver}
use Rattle.receiver.specs.Meaning.{free_slots}
use Rattle.receiver.specs.Calls.{reports_made, Called}
use Rattle.receiver.specs.Events.{Queued, Ran}
use Rattle.receiver.specs.Joined.{PromiseOverCalls}
use Rattle.callers.specs.InUse.{InUse}
use Rattle.callers.proofs.Used.{used_on, heard}

module _ {X : Type 0} (hold : Ghosts X) where
  pub record HeardSoFar (octets : List ℕ) (before now : Receiver X) (queue later : Queue Report) : Type 0 where
    pub in_use : InUse hold before → InUse hold now
    pub ran : PromiseOverCalls hold → Ran hold (symbol_events (bits_of octets)) before now queue later

  pub none_heard : (r : Receiver X) (queue : Queue Report) → HeardSoFar [] r r queue queue
  none_heard r queue = record { in_use = λ used. used; ran = λ over. over.nothing r queue }

  pub one_more_heard : (octets : List ℕ) (i : ℕ) (decided : List Bool) (before now after : Receiver X) (queue later last : Queue Report) →
      i < length octets → decided ≡ octet_bits (get_or octets i 0) → HeardSoFar (take i octets) before now queue later → PromiseOverCalls hold →
      Called hold (call_symbols decided (free_slots later)) now after →
      Queued (reports_made hold now (call_symbols decided (free_slots later))) later last → HeardSoFar (take (i + 1) octets) before after queue last
  one_more_heard octets i decided before now after queue later last within bits so_far over called queued =
      let far = take i octets in
      let octet = get_or octets i 0 in
      let joined = (over.promise before).joined in
      let more : bits_of far ++ octet_bits octet ≡ bits_of (take (i + 1) octets) =
      ap (λ l. bits_of far ++ l) (sym (append-nil (octet_bits octet))) ∙ sym (flat_map-append octet_bits far (octet ∷ [])) ∙ ap bits_of (sym (take_more octets i 0 within)) in
      record {
        in_use = λ used. used_on hold _ now after called (so_far.in_use used);
        ran = λ over.
            subst (λ es. Ran hold es before after queue last) (sym (joined.symbols_joined (bits_of far) (octet_bits octet)) ∙ ap symbol_events more)
            (over.joined (symbol_events (bits_of far)) (symbol_events (octet_bits octet)) before now after queue later last (so_far.ran over)
            (heard hold (octet_bits octet) decided now after later last over bits called queued));
      }
