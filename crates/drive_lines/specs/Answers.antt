-- The answer to a call, as text without its end. Assumes nothing.
use Rattle.std.specs.Prelude.{ℕ, List, [], ◌∷◌, ◌++◌, length, Result, Ok, Err, string_bytes, codes, decimal}
use Rattle.refusals.specs.declared.Refusal.{Refusal}
use Rattle.refusals.specs.declared.Refusal.TheVariants.{NoCandidate}
use Rattle.refusals.specs.Numbers.{refusal_text}
use Rattle.hex.specs.Hex.{encode_upper}
use Rattle.hold.specs.Candidates.{Candidate}
use Rattle.receiver.specs.declared.receiver_state.ReceiverState.{ReceiverState}
use Rattle.receiver.specs.declared.receiver_state.ReceiverState.TheVariants.{Inactive, Search, Decode}
use Rattle.drive_lines.specs.declared.answer.Answer.{Answer}
use Rattle.drive_lines.specs.declared.answer.Answer.TheVariants.{Done, Made, Refused, Candidate as ACandidate, State}

-- what a call answers: nothing but that it was made, or how many reports symbols made; or why it was refused
abbrev pub done_text : Result (Unit {0}) Refusal → List ℕ
done_text (Ok done) = codes "ok"
done_text (Err why) = refusal_text why

abbrev pub made_text : Result ℕ Refusal → List ℕ
made_text (Ok reports) = codes "made " ++ decimal reports
made_text (Err why) = refusal_text why

-- a candidate: how many octets it has, and these in capitals
abbrev pub candidate_text : (octets : ℕ) (digits : List ℕ) → List ℕ
candidate_text octets digits = codes "candidate " ++ (decimal octets ++ (codes " " ++ digits))

abbrev pub oldest_text : List Candidate → List ℕ
oldest_text [] = refusal_text NoCandidate
oldest_text (candidate ∷ rest) = candidate_text (length candidate) (encode_upper candidate)

abbrev pub state_word : ReceiverState → List ℕ
state_word Inactive = codes "INACTIVE"
state_word Search = codes "SEARCH"
state_word Decode = codes "DECODE"

-- the state, the lost reports, the free space, the codeblocks of the open candidate, and the finished candidates
abbrev pub state_text : ReceiverState → (lost free opened finished : ℕ) → List ℕ
state_text now lost free opened finished =
    state_word now ++ (codes " lost " ++ (decimal lost ++ (codes " free " ++ (decimal free ++ (codes " open "
    ++ (decimal opened ++ (codes " finished " ++ decimal finished)))))))

abbrev pub answer_text : Answer → List ℕ
answer_text Done = done_text (Ok tt)
answer_text (Made reports) = made_text (Ok reports)
answer_text (Refused why) = refusal_text why
answer_text (ACandidate octets digits) = candidate_text octets (string_bytes digits)
answer_text (State now lost free opened finished) = state_text now lost free opened finished
