-- The promise, of a receiver straight from its making over any hold, after every list of events, accepted or refused.
-- Each part stands in a file of its own, under the sentence that an operator would say. Assumes nothing.
use Rattle.randomizer.specs.declared.Randomizer.{Randomizer}
use Rattle.hold.specs.Candidates.{Showing}
use Rattle.reception.specs.Decoding.{Settings}
use Rattle.reception.specs.Calls.{CallsRunAsTheirEvents, ARefusedCallChangesNothing}
use Rattle.reception.specs.Allowance.{AsSentIsWithinTheAllowance}
use Rattle.reception.specs.Finished.{WhatIsFinishedStays}
use Rattle.reception.specs.Recovery.{IdleBringsItBack}
use Rattle.reception.specs.Gaps.{CarrierUpMakesItReady}
use Rattle.reception.specs.Sent.{WhatIsSentThenIsReceived, AGapBehindLeavesItClear, WhatIsReceivedIsReported, UndamagedComesBack}
use Rattle.reception.specs.Told.{CorrectionsAreAmongTheCodeblocks, AReportTellsTheCodeblocksHeld, ACandidateIsOpenJustInDecode}
use Rattle.reception.specs.Joined.{RunsAreJoined}

pub record Promise (settings : Settings) (showing : Showing) : Type 0 where
  pub refused : ARefusedCallChangesNothing settings showing
  pub stays : WhatIsFinishedStays settings showing
  pub back : IdleBringsItBack settings showing
  pub received : (randomizer : Randomizer) → WhatIsSentThenIsReceived settings showing randomizer
  pub behind : (randomizer : Randomizer) → AGapBehindLeavesItClear settings showing randomizer
  pub reported : (randomizer : Randomizer) → WhatIsReceivedIsReported settings showing randomizer
  pub within : (randomizer : Randomizer) → AsSentIsWithinTheAllowance settings randomizer
  pub undamaged : (randomizer : Randomizer) → UndamagedComesBack settings showing randomizer

-- the promise of a receiver that is driven by calls, and what else its reports and its state tell
pub record ReceiverPromise (settings : Settings) (showing : Showing) : Type 0 where
  pub promise : Promise settings showing
  pub calls : CallsRunAsTheirEvents settings showing
  pub joined : RunsAreJoined settings showing
  pub counts : CorrectionsAreAmongTheCodeblocks settings showing
  pub told : AReportTellsTheCodeblocksHeld settings showing
  pub opens : ACandidateIsOpenJustInDecode settings showing
  pub ready : CarrierUpMakesItReady settings showing
