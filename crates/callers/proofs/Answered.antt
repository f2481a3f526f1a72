-- What the sending half answers. Assumes nothing.
use Rattle.std.proofs.Common.{◌≡◌, ℕ, ◌+◌, ◌-◌, ◌<◌, ◌≤◌, Bool, true, false, cond, ◌||◌, nat_lt, List, length, take, Ok, Err, Result, refl, sym, ap, ◌∙◌, ⊎_elim, append-nil, arith}
use Rattle.std.proofs.lemmas.List.{take_all}
use Rattle.std.proofs.lemmas.Bool.{le-ltb, lt-ltb, cases_lt}
use Rattle.refusals.specs.declared.Refusal.{Refusal}
use Rattle.refusals.specs.declared.Refusal.TheVariants.{FrameLength, MemoryTooShort}
use Rattle.cltu.specs.Writing.{frame_refused}
use Rattle.procedures.specs.Stretch.{Parameters, sent_octets}
use Rattle.session.specs.declared.FrameSpan.{FrameSpan}
use Rattle.session.specs.declared.Settings.{Settings}
use Rattle.session.specs.declared.Locked.{Locked}
use Rattle.session.specs.declared.Carrier.{Carrier}
use Rattle.session.specs.declared.AfterSending.{AfterSending}
use Rattle.session.specs.Writing.{parameters_of, job_octets, job_answer}
use Rattle.session.specs.Calls.{only_frame, sending, acquired}
use Rattle.callers.specs.BothEnds.{and_then, frame_answer}

-- what a session's call counts
abbrev pub count_of : {A B : Type 0} → Result (A × ℕ) (B × Refusal) → Result ℕ Refusal
count_of (Ok done) = Ok done.1
count_of (Err back) = Err back.1

pub sending_counts : (locked : Locked) (answer : Result ℕ Refusal) (result : Result (AfterSending × ℕ) (Locked × Refusal)) → result ≡ sending locked answer → count_of result ≡ answer
sending_counts locked answer result e = ap count_of e ∙ by answer
  where
    by : (answer : Result ℕ Refusal) → count_of (sending locked answer) ≡ answer
    by (Ok n) = refl
    by (Err why) = refl

pub acquiring_counts : (carrier : Carrier) (answer : Result ℕ Refusal) (result : Result (Locked × ℕ) (Carrier × Refusal)) → result ≡ acquired carrier answer → count_of result ≡ answer
acquiring_counts carrier answer result e = ap count_of e ∙ by answer
  where
    by : (answer : Result ℕ Refusal) → count_of (acquired carrier answer) ≡ answer
    by (Ok n) = refl
    by (Err why) = refl

-- a frame that stands whole in its memory
abbrev whole : List ℕ → FrameSpan
whole frame = record { place = 0; length = length frame }

pub job_is : (settings : Settings) (frame memory : List ℕ) →
    job_answer settings frame (only_frame (whole frame)) memory ≡ frame_answer settings.sender.limit.count (parameters_of settings) (length memory) frame 0
job_is settings frame memory =
    let octets = job_octets settings frame (only_frame (whole frame)) in
    let refused = frame_refused settings.sender.limit.count (length frame) in
    let there : nat_lt (length frame) (0 + length frame) ≡ false = le-ltb (length frame) (0 + length frame) (omega arith) in
    let same : octets ≡ sent_octets (parameters_of settings) frame =
    append-nil (sent_octets (parameters_of settings) (take (length frame) frame))
    ∙ ap (sent_octets (parameters_of settings)) (take_all (length frame) frame (omega arith)) in
    let size : length octets ≡ 0 + length (sent_octets (parameters_of settings) frame) = omega (arith, ap length same) in
    ap (λ b. cond (b || refused) (Err FrameLength) (cond (nat_lt (length memory) (length octets)) (Err MemoryTooShort) (Ok (length octets)))) there
    ∙ ap (λ n. cond refused (Err FrameLength) (cond (nat_lt (length memory) n) (Err MemoryTooShort) (Ok n))) size

-- a frame behind what was written, and one in front of the rest
abbrev pub counted_on : ℕ → Result ℕ Refusal → Result ℕ Refusal
counted_on w answer = and_then answer (λ n. Ok (w + n))

choose : (refused short : Bool) (w n : ℕ) → counted_on w (cond refused (Err FrameLength) (cond short (Err MemoryTooShort) (Ok n))) ≡ cond refused (Err FrameLength) (cond short (Err MemoryTooShort) (Ok (w + n)))
choose true short w n = refl
choose false true w n = refl
choose false false w n = refl

same_test : (room w m : ℕ) → w ≤ room → nat_lt (room - w) (0 + m) ≡ nat_lt room (w + m)
same_test room w m within =
    ⊎_elim
    (λ short. let less : room - w < 0 + m = omega arith in lt-ltb (room - w) (0 + m) less ∙ sym (lt-ltb room (w + m) short))
    (λ enough. let no : 0 + m ≤ room - w = omega arith in le-ltb (room - w) (0 + m) no ∙ sym (le-ltb room (w + m) enough))
    (cases_lt room (w + m))

pub moved : (limit : ℕ) (settings : Parameters) (room w : ℕ) (frame : List ℕ) → w ≤ room →
    counted_on w (frame_answer limit settings (room - w) frame 0) ≡ frame_answer limit settings room frame w
moved limit settings room w frame within =
    let m = length (sent_octets settings frame) in
    let refused = frame_refused limit (length frame) in
    let no_more : w + (0 + m) ≡ w + m = omega arith in
    choose refused (nat_lt (room - w) (0 + m)) w (0 + m)
    ∙ ap (λ b. cond refused (Err FrameLength) (cond b (Err MemoryTooShort) (Ok (w + (0 + m))))) (same_test room w m within)
    ∙ ap (λ n. cond refused (Err FrameLength) (cond (nat_lt room (w + m)) (Err MemoryTooShort) (Ok n))) no_more

pub sent_on : (limit : ℕ) (settings : Parameters) (room lent w : ℕ) (frame : List ℕ) (answer : Result ℕ Refusal) → w ≤ room → lent ≡ room - w →
    answer ≡ frame_answer limit settings lent frame 0 → counted_on w answer ≡ frame_answer limit settings room frame w
sent_on limit settings room lent w frame answer within is answered =
    ap (counted_on w) (answered ∙ ap (λ n. frame_answer limit settings n frame 0) is) ∙ moved limit settings room w frame within
