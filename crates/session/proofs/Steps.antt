-- Each call is a step of the machine. Assumes nothing.
use Rattle.std.proofs.Common.{◌≡◌, ℕ, List, [], ◌∷◌, ◌++◌, length, take, drop, Ok, Err, Result, MatchResult, sym, refl, ap, ◌∙◌, subst}
use Rattle.std.proofs.Math.Seq.{take-append_seam}
use Rattle.refusals.specs.declared.Refusal.{Refusal}
use Rattle.procedures.specs.declared.Plop.{Plop}
use Rattle.procedures.specs.declared.Plop.TheVariants.{One, Two}
use Rattle.procedures.specs.Stretch.{frames_in}
use Rattle.session.specs.declared.FrameSpan.{FrameSpan}
use Rattle.session.specs.declared.Job.{Job}
use Rattle.session.specs.declared.Settings.{Settings}
use Rattle.session.specs.declared.Locked.{Locked}
use Rattle.session.specs.declared.AfterSending.{AfterSending}
use Rattle.session.specs.Writing.{frame_at, memory_after, job_octets, job_answer, writings_of}
use Rattle.session.specs.Calls.{state_after, sending, only_frame, next_octets, next_answer, next_writings}
use Rattle.session.specs.Machine.{locked, Call, call_send, call_run_next, FrameMemoryOfOctets, Step, if_accepted, behind_a_frame, step, signals_between, standing_after, signals_of_calls, frames_of_calls, cltus_behind, cltus_of_calls, Session, locked_session, session_after, IsStep, StandsAfter}
use Rattle.session.specs.Promise.{GoesOnBehind}
use Rattle.session.proofs.Fronts.{Counts, counts_answer}

-- what an accepted call left in front
taken : (own memory now : List ℕ) (n : ℕ) (answer : Result ℕ Refusal) → answer ≡ Ok n → Counts own answer → now ≡ memory_after own memory answer → take n now ≡ own
taken own memory now n answer e counted is =
    let long : n ≡ length own = subst (λ a. Counts own a) e counted in
    ap (λ l. take n l) (is ∙ ap (λ a. memory_after own memory a) e) ∙ ap (λ k. take k (own ++ drop (length own) memory)) long ∙ take-append_seam own (drop (length own) memory)

-- a call whose step is such
module _ (before : Session) (call : Call) (answer : Result ℕ Refusal) (accepted : Step) (is-step : step before.settings before.standing call ≡ if_accepted answer before.standing accepted)
    (octets : FrameMemoryOfOctets call) where
  taken_step : (n : ℕ) (after : Session) (memory now : List ℕ) → answer ≡ Ok n → after.settings ≡ before.settings → after.standing ≡ accepted.after → Counts accepted.written answer → now ≡ memory_after accepted.written memory answer →
      IsStep before call after (take n now) accepted.frames
  taken_step n after memory now e same stands counted is =
      let s = sym (is-step ∙ ap (λ a. if_accepted a before.standing accepted) e) in
      record { settings = same; standing = stands ∙ ap (λ one. one.after) s; octets = taken accepted.written memory now n answer e counted is ∙ ap (λ one. one.written) s; its_frames = ap (λ one. one.frames) s; frame_memory = octets }

  refused_step : (why : Refusal) → answer ≡ Err why → IsStep before call before [] []
  refused_step why e =
      let s = sym (is-step ∙ ap (λ a. if_accepted a before.standing accepted) e) in
      record { settings = refl; standing = ap (λ one. one.after) s; octets = ap (λ one. one.written) s; its_frames = ap (λ one. one.frames) s; frame_memory = octets }

same_settings : (settings : Settings) (plop : Plop) → (session_after (state_after settings plop)).settings ≡ settings
same_settings settings One = refl
same_settings settings Two = refl

behind_it : (settings : Settings) (plop : Plop) → (session_after (state_after settings plop)).standing ≡ behind_a_frame plop
behind_it settings One = refl
behind_it settings Two = refl

module _ (l : Locked) (memory now : List ℕ) where
  abbrev Sends : Call → List (List ℕ) → Result (AfterSending × ℕ) (Locked × Refusal) → Type 0
  Sends call frames result = MatchResult result (λ done. IsStep (locked_session l) call (session_after done.0) (take done.1 now) frames) (λ back. IsStep (locked_session l) call (locked_session back.0) [] [])

  sends_step : (call : Call) (own : List ℕ) (frames : List (List ℕ)) (answer given : Result ℕ Refusal) →
      step l.settings locked call ≡ if_accepted answer locked (record { after = behind_a_frame l.settings.plop; written = own; frames = frames }) → FrameMemoryOfOctets call → answer ≡ given → Counts own answer → now ≡ memory_after own memory given →
      Sends call frames (sending l given)
  sends_step call own frames answer (Ok n) is-step octets e counted is =
      taken_step (locked_session l) call answer (record { after = behind_a_frame l.settings.plop; written = own; frames = frames }) is-step octets n (session_after (state_after l.settings l.settings.plop)) memory now e
      (same_settings l.settings l.settings.plop) (behind_it l.settings l.settings.plop) counted (is ∙ ap (λ a. memory_after own memory a) (sym e))
  sends_step call own frames answer (Err why) is-step octets e counted is =
      refused_step (locked_session l) call answer (record { after = behind_a_frame l.settings.plop; written = own; frames = frames }) is-step octets why e

  pub send_is_step : (frames : List ℕ) (frame : FrameSpan) (result : Result (AfterSending × ℕ) (Locked × Refusal)) → FrameMemoryOfOctets (call_send frames frame memory) →
      result ≡ sending l (job_answer l.settings frames (only_frame frame) memory) → now ≡ memory_after (job_octets l.settings frames (only_frame frame)) memory (job_answer l.settings frames (only_frame frame) memory) →
      Sends (call_send frames frame memory) (frame_at frames frame ∷ []) result
  send_is_step frames frame result octets e is =
      let job = only_frame frame in
      subst (λ x. Sends (call_send frames frame memory) (frame_at frames frame ∷ []) x) (sym e)
      (sends_step (call_send frames frame memory) (job_octets l.settings frames job) (frames_in (writings_of frames job)) (job_answer l.settings frames job memory) (job_answer l.settings frames job memory) refl octets refl (counts_answer l frames job memory) is)

  counts_next : (frames : List ℕ) (jobs : List Job) → Counts (next_octets l.settings frames jobs) (next_answer l.settings frames jobs memory)
  counts_next frames [] = tt
  counts_next frames (job ∷ rest) = counts_answer l frames job memory

  pub run_next_is_step : (frames : List ℕ) (jobs : List Job) (result : Result (AfterSending × ℕ) (Locked × Refusal)) → FrameMemoryOfOctets (call_run_next jobs frames memory) →
      result ≡ sending l (next_answer l.settings frames jobs memory) → now ≡ memory_after (next_octets l.settings frames jobs) memory (next_answer l.settings frames jobs memory) →
      Sends (call_run_next jobs frames memory) (frames_in (next_writings l.settings frames jobs)) result
  run_next_is_step frames jobs result octets e is =
      subst (λ x. Sends (call_run_next jobs frames memory) (frames_in (next_writings l.settings frames jobs)) x) (sym e)
      (sends_step (call_run_next jobs frames memory) (next_octets l.settings frames jobs) (frames_in (next_writings l.settings frames jobs)) (next_answer l.settings frames jobs memory) (next_answer l.settings frames jobs memory) refl octets refl (counts_next frames jobs) is)

-- ---- a step behind others

module _ (earlier : List Call) (before : Session) (call : Call) (after : Session) (written : List ℕ) (frames : List (List ℕ)) where
  pub a_step_goes_on : StandsAfter earlier before → IsStep before call after written frames → GoesOnBehind earlier before call after written frames
  a_step_goes_on stands is =
      let s = before.settings in
      let here = standing_after s earlier in
      let one = step s here call in
      let there = ap (λ x. step s x call) stands.standing in
      let after-it = is.standing ∙ ap (λ x. x.after) there in
      let wrote = is.octets ∙ ap (λ x. x.written) there in
      let its = is.its_frames ∙ ap (λ x. x.frames) there in
      let between = ap (λ x. signals_between x written after.standing) stands.standing ∙ ap (λ l. signals_between here l after.standing) wrote ∙ ap (λ x. signals_between here one.written x) after-it in
      record {
        stands = record { standing = after-it ∙ ap (λ x. standing_after x (call ∷ earlier)) (sym is.settings); frame_memory = (is.frame_memory, stands.frame_memory) };
        settings = is.settings;
        signals = ap (λ x. signals_of_calls x (call ∷ earlier)) is.settings ∙ ap (λ l. signals_of_calls s earlier ++ l) (sym between);
        its_frames = ap (λ x. frames_of_calls x (call ∷ earlier)) is.settings ∙ ap (λ l. frames_of_calls s earlier ++ l) (sym its);
        cltus = ap (λ x. cltus_of_calls x (call ∷ earlier)) is.settings ∙ ap (λ l. cltus_of_calls s earlier ++ cltus_behind s earlier l) (sym its);
      }
