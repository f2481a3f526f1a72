-- What an accepted call left at the front of the memory. Assumes nothing.
use Rattle.std.proofs.Common.{◌≡◌, ℕ, ◌+◌, Bool, true, false, cond, List, [], ◌∷◌, ◌++◌, length, take, drop, Ok, Err, Result, IfOk, ◌||◌, nat_lt, Fits, w8, get_or, zero, suc, ◌*◌, ◌≤◌, eqb, arith, ◌<◌, sym, refl, ap, ◌∙◌, subst}
use Rattle.std.proofs.Math.Seq.{take-append_seam}
use Rattle.std.proofs.lemmas.List.{length-replicate, length-take-le, length-drop}
use Rattle.std.proofs.lemmas.Bool.{or_parts, ltb-false, eqb-false}
use Rattle.std.specs.Int.Digits.{AllBelowBase}
use Rattle.std.proofs.ByRecursion.{All-take, All-drop}
use Rattle.refusals.specs.declared.Refusal.{Refusal}
use Rattle.refusals.specs.declared.Refusal.TheVariants.{FrameLength, MemoryTooShort, IdleLength}
use Rattle.cltu.specs.Writing.{frame_refused}
use Rattle.procedures.specs.Stretch.{idle_octet, repeated, Writing, idles, frames_in, stretch_octets}
use Rattle.procedures.specs.Reception.{FramesWithin}
use Rattle.session.specs.declared.Job.{Job}
use Rattle.session.specs.declared.Settings.{Settings}
use Rattle.session.specs.declared.Carrier.{Carrier}
use Rattle.session.specs.declared.Locked.{Locked}
use Rattle.session.specs.declared.AfterSending.{AfterSending}
use Rattle.session.specs.Writing.{parameters_of, memory_after, idle_answer, job_octets, job_answer, GoesOn, writings_of}
use Rattle.session.specs.Calls.{acquired, sending, next_octets, next_answer, next_writings}
use Rattle.session.proofs.Written.{idle_goes_on, job_goes_on, only_acquired}

-- answers that count these octets
abbrev pub Counts : List ℕ → Result ℕ Refusal → Type 0
Counts octets answer = IfOk answer (λ n. n ≡ length octets)

pub counts : (a b : Bool) (octets : List ℕ) (n : ℕ) (x y : Refusal) → n ≡ length octets → Counts octets (cond a (Err x) (cond b (Ok n) (Err y)))
counts true b octets n x y e = tt
counts false true octets n x y e = e
counts false false octets n x y e = tt

counts_job : (a b c : Bool) (octets : List ℕ) (x y z : Refusal) → Counts octets (cond a (Err x) (cond b (Err y) (cond c (Err z) (Ok (length octets)))))
counts_job true b c octets x y z = tt
counts_job false true c octets x y z = tt
counts_job false false true octets x y z = tt
counts_job false false false octets x y z = refl

module _ (settings : Settings) where
  front : (writings : List Writing) (octets memory now : List ℕ) (n : ℕ) → GoesOn settings writings octets → n ≡ length octets → now ≡ octets ++ drop (length octets) memory → GoesOn settings writings (take n now)
  front writings octets memory now n on e is =
      subst (λ l. GoesOn settings writings l) (sym (ap (λ l. take n l) is ∙ ap (λ k. take k (octets ++ drop (length octets) memory)) e ∙ take-append_seam octets (drop (length octets) memory))) on

  in_front : (writings : List Writing) (octets memory now : List ℕ) (answer : Result ℕ Refusal) → GoesOn settings writings octets → Counts octets answer → now ≡ memory_after octets memory answer → IfOk answer (λ n. GoesOn settings writings (take n now))
  in_front writings octets memory now (Ok n) on counted is = front writings octets memory now n on counted is
  in_front writings octets memory now (Err why) on counted is = tt

  pub idle_in_front : (octets : ℕ) (memory now : List ℕ) (answer : Result ℕ Refusal) → answer ≡ idle_answer 1 2000 octets memory → now ≡ memory_after (repeated settings.idle octets) memory answer →
      IfOk answer (λ n. GoesOn settings (idles octets ∷ []) (take n now))
  idle_in_front octets memory now answer e is =
      in_front (idles octets ∷ []) (repeated settings.idle octets) memory now answer (idle_goes_on settings octets)
      (subst (Counts (repeated settings.idle octets)) (sym e) (counts _ _ (repeated settings.idle octets) octets _ _ (sym (length-replicate octets (idle_octet settings.idle))))) is

pub octets_below : (xs : List ℕ) → ((i : ℕ) → Fits w8 (get_or xs i 0)) → AllBelowBase 256 xs
octets_below [] h = tt
octets_below (x ∷ xs) h = (omega (arith, h 0), octets_below xs (λ i. h (suc i)))

positive : (n : ℕ) → (n ≡ 0 → ⊥) → 1 ≤ n
positive zero some = absurd (some refl)
positive (suc n) some = omega arith

accepted_frame : (a : Bool) (rest : Result ℕ Refusal) → IfOk (cond a (Err FrameLength) rest) (λ _. a ≡ false)
accepted_frame true rest = tt
accepted_frame false (Ok n) = refl
accepted_frame false (Err why) = tt

-- an accepted frame is within the limit
module _ (settings : Settings) where
  pub job_within : (frames : List ℕ) (job : Job) (memory : List ℕ) → AllBelowBase 256 frames →
      IfOk (job_answer settings frames job memory) (λ _. FramesWithin settings.sender.limit.count (frames_in (writings_of frames job)))
  job_within frames job memory octets = by (job_answer settings frames job memory) (accepted_frame (nat_lt (length frames) (job.frame.place + job.frame.length) || frame_refused settings.sender.limit.count job.frame.length) _)
    where
      by : (answer : Result ℕ Refusal) → IfOk answer (λ _. nat_lt (length frames) (job.frame.place + job.frame.length) || frame_refused settings.sender.limit.count job.frame.length ≡ false) →
          IfOk answer (λ _. FramesWithin settings.sender.limit.count (frames_in (writings_of frames job)))
      by (Ok n) e =
          let limit = settings.sender.limit.count in
          let size = job.frame.length in
          let parts = or_parts (nat_lt (length frames) (job.frame.place + size)) (frame_refused limit size) e in
          let sizes = or_parts (eqb size 0) (nat_lt 1024 size || nat_lt (7 * limit) size) parts.1 in
          let long = or_parts (nat_lt 1024 size) (nat_lt (7 * limit) size) sizes.1 in
          let there = ltb-false (length frames) (job.frame.place + size) parts.0 in
          let whole = length-take-le size (drop job.frame.place frames) (omega (arith, there, length-drop job.frame.place frames)) in
          let some : size ≡ 0 → ⊥ = eqb-false size 0 sizes.0 in
          let few = ltb-false (7 * limit) size long.1 in
          (All-take (λ x. x < 256) size (drop job.frame.place frames) (All-drop (λ x. x < 256) job.frame.place frames octets), omega (arith, whole, positive size some), omega (arith, whole, few), tt)
      by (Err why) e = tt

  pub next_within : (frames : List ℕ) (jobs : List Job) (memory : List ℕ) → AllBelowBase 256 frames →
      IfOk (next_answer settings frames jobs memory) (λ _. FramesWithin settings.sender.limit.count (frames_in (next_writings settings frames jobs)))
  next_within frames [] memory octets = tt
  next_within frames (job ∷ rest) memory octets = job_within frames job memory octets

module _ (locked : Locked) where
  pub counts_answer : (frames : List ℕ) (job : Job) (memory : List ℕ) → Counts (job_octets locked.settings frames job) (job_answer locked.settings frames job memory)
  counts_answer frames job memory =
      let octets = job_octets locked.settings frames job in
      counts_job (nat_lt (length frames) (job.frame.place + job.frame.length) || frame_refused locked.settings.sender.limit.count job.frame.length) (nat_lt (length memory) (length octets)) (nat_lt 2000 job.idle) octets FrameLength MemoryTooShort IdleLength

  sent_front : (writings : List Writing) (octets memory now : List ℕ) (answer : Result ℕ Refusal) → GoesOn locked.settings writings octets → Counts octets answer → now ≡ memory_after octets memory answer → IfOk (sending locked answer) (λ done. GoesOn locked.settings writings (take done.1 now))
  sent_front writings octets memory now (Ok n) on counted is = front locked.settings writings octets memory now n on counted is
  sent_front writings octets memory now (Err why) on counted is = tt

  pub job_in_front : (frames : List ℕ) (job : Job) (memory now : List ℕ) (result : Result (AfterSending × ℕ) (Locked × Refusal)) →
      result ≡ sending locked (job_answer locked.settings frames job memory) → now ≡ memory_after (job_octets locked.settings frames job) memory (job_answer locked.settings frames job memory) →
      IfOk result (λ done. GoesOn locked.settings (writings_of frames job) (take done.1 now))
  job_in_front frames job memory now result e is =
      subst (λ r. IfOk r (λ done. GoesOn locked.settings (writings_of frames job) (take done.1 now))) (sym e)
      (sent_front (writings_of frames job) (job_octets locked.settings frames job) memory now (job_answer locked.settings frames job memory) (job_goes_on locked.settings frames job) (counts_answer frames job memory) is)

  pub next_in_front : (frames : List ℕ) (jobs : List Job) (memory now : List ℕ) (result : Result (AfterSending × ℕ) (Locked × Refusal)) →
      result ≡ sending locked (next_answer locked.settings frames jobs memory) → now ≡ memory_after (next_octets locked.settings frames jobs) memory (next_answer locked.settings frames jobs memory) →
      IfOk result (λ done. GoesOn locked.settings (next_writings locked.settings frames jobs) (take done.1 now))
  next_in_front frames [] memory now result e is = subst (λ r. IfOk r (λ done. GoesOn locked.settings [] (take done.1 now))) (sym e) tt
  next_in_front frames (job ∷ rest) memory now result e is = job_in_front frames job memory now result e is

  sent_where_accepted : (P : Type 0) (answer : Result ℕ Refusal) → IfOk answer (λ _. P) → IfOk (sending locked answer) (λ _. P)
  sent_where_accepted P (Ok n) holds = holds
  sent_where_accepted P (Err why) holds = tt

  pub job_fits : (frames : List ℕ) (job : Job) (memory : List ℕ) → AllBelowBase 256 frames →
      IfOk (sending locked (job_answer locked.settings frames job memory)) (λ _. FramesWithin locked.settings.sender.limit.count (frames_in (writings_of frames job)))
  job_fits frames job memory octets =
      sent_where_accepted (FramesWithin locked.settings.sender.limit.count (frames_in (writings_of frames job))) (job_answer locked.settings frames job memory) (job_within locked.settings frames job memory octets)

  pub next_fits : (frames : List ℕ) (jobs : List Job) (memory : List ℕ) (result : Result (AfterSending × ℕ) (Locked × Refusal)) → AllBelowBase 256 frames → result ≡ sending locked (next_answer locked.settings frames jobs memory) →
      IfOk result (λ _. FramesWithin locked.settings.sender.limit.count (frames_in (next_writings locked.settings frames jobs)))
  next_fits frames jobs memory result octets e =
      let P = FramesWithin locked.settings.sender.limit.count (frames_in (next_writings locked.settings frames jobs)) in
      subst (λ r. IfOk r (λ _. P)) (sym e) (sent_where_accepted P (next_answer locked.settings frames jobs memory) (next_within locked.settings frames jobs memory octets))

module _ (carrier : Carrier) where
  acquired_front : (octets : ℕ) (memory now : List ℕ) (answer : Result ℕ Refusal) → Counts (repeated carrier.settings.idle octets) answer → now ≡ memory_after (repeated carrier.settings.idle octets) memory answer →
      IfOk (acquired carrier answer) (λ done. take done.1 now ≡ stretch_octets (parameters_of carrier.settings) octets [])
  acquired_front octets memory now (Ok n) counted is =
      let own = repeated carrier.settings.idle octets in
      ap (λ l. take n l) is ∙ ap (λ k. take k (own ++ drop (length own) memory)) counted ∙ take-append_seam own (drop (length own) memory) ∙ sym (only_acquired carrier.settings octets)
  acquired_front octets memory now (Err why) counted is = tt

  pub acquired_in_front : (octets : ℕ) (memory now : List ℕ) (result : Result (Locked × ℕ) (Carrier × Refusal)) →
      result ≡ acquired carrier (idle_answer 16 255 octets memory) → now ≡ memory_after (repeated carrier.settings.idle octets) memory (idle_answer 16 255 octets memory) →
      IfOk result (λ done. take done.1 now ≡ stretch_octets (parameters_of carrier.settings) octets [])
  acquired_in_front octets memory now result e is =
      let own = repeated carrier.settings.idle octets in
      subst (λ r. IfOk r (λ done. take done.1 now ≡ stretch_octets (parameters_of carrier.settings) octets [])) (sym e)
      (acquired_front octets memory now (idle_answer 16 255 octets memory) (counts _ _ own octets _ _ (sym (length-replicate octets (idle_octet carrier.settings.idle)))) is)
