-- What any list of calls puts on the carrier. Assumes nothing.
use Rattle.std.proofs.Common.{◌≡◌, ℕ, ◌≤◌, Bool, true, false, cond, leb, nat_lt, List, [], ◌∷◌, ◌++◌, map, length, Some, None, Option, is_some, IfSome, Ok, Err, Result, IfOk, sym, refl, ap, ap₂, ◌∙◌, subst, append_assoc, append-nil, arith}
use Rattle.std.specs.Int.{is_in_range}
use Rattle.std.specs.List.{flat_map, AllByRecursion}
use Rattle.std.proofs.lemmas.Bool.{and_parts, leb-true}
use Rattle.std.proofs.lemmas.Grind.{flat_map-append}
use Rattle.refusals.specs.declared.Refusal.{Refusal}
use Rattle.refusals.specs.declared.Refusal.TheVariants.{MemoryTooShort, IdleLength}
use Rattle.hold.specs.Candidates.{Showing}
use Rattle.reception.specs.Decoding.{Settings as ReceiverSettings}
use Rattle.reception.specs.Rules.{State, made}
use Rattle.reception.specs.Runs.{after_events}
use Rattle.procedures.specs.declared.Plop.{Plop}
use Rattle.procedures.specs.declared.Plop.TheVariants.{One, Two}
use Rattle.procedures.specs.Stretch.{repeated, Parameters, sent_octets, Writing, idles, octets_in, frames_in}
use Rattle.procedures.specs.Signals.{Signal, goes_up, goes_down, signals_of_octets, SentStretch, frames_of_closed, frames_of_opened, frames_on, PlacedCltu, open_signals, closed_signals, signals_on, cltus_in, cltus_of, cltus_of_closed, cltus_on}
use Rattle.procedures.specs.Reception.{FramesWithin, codeblocks_of, Adds, SpaceAt, EndsIn}
use Rattle.procedures.proofs.Appended.{frames_append, frames_closed_append, open_append, cltus_append, cltus_closed_append}
use Rattle.procedures.proofs.Hearing.{signals_append}
use Rattle.procedures.proofs.Received.{within_both, a_higher_limit_takes_the_same_frames, what_is_heard_in_time_is_received, space_for_all_is_space_in_time}
use Rattle.session.specs.declared.Job.{Job}
use Rattle.session.specs.declared.Settings.{Settings}
use Rattle.session.specs.Writing.{parameters_of, frame_at, idle_answer, job_octets, job_answer, writings_of}
use Rattle.session.specs.Calls.{only_frame}
use Rattle.session.specs.Machine.{Standing, silent, carrier, locked, sent, Call, call_raise, call_lower, call_acquire, call_idle, call_send, call_run_next, call_break, FrameMemoryOfOctets, if_accepted, behind_a_frame, step, bears_data, signals_of_step, standing_after, signals_of_calls, frames_of_calls, cltus_of_calls}
use Rattle.session.specs.Promise.{InOrder, AnyCallsAreStretches, FramesOfCallsAreWithin, EndsUp, AnyCallsInTimeAreReceived, AnyCallsAreReceived, CallsPromise}
use Rattle.session.proofs.Steps.{a_step_goes_on}
use Rattle.session.proofs.Fronts.{job_within}

all_both : {X : Type 0} (P : X → Type 0) (xs ys : List X) → AllByRecursion P xs → AllByRecursion P ys → AllByRecursion P (xs ++ ys)
all_both P [] ys all more = more
all_both P (x ∷ xs) ys all more = (all.0, all_both P xs ys all.1 more)

-- an accepted acquisition
in_range : (a b : Bool) (n : ℕ) (x y : Refusal) → IfOk (cond a (Err x) (cond b (Ok n) (Err y))) (λ _. b ≡ true)
in_range true b n x y = tt
in_range false true n x y = refl
in_range false false n x y = tt

acquisition_fits : (octets : ℕ) (memory : List ℕ) → IfOk (idle_answer 16 255 octets memory) (λ _. (16 ≤ octets) × (octets ≤ 255))
acquisition_fits octets memory = by (idle_answer 16 255 octets memory) (in_range (nat_lt (length memory) octets) (is_in_range 16 255 octets) octets MemoryTooShort IdleLength)
  where
    by : (answer : Result ℕ Refusal) → IfOk answer (λ _. is_in_range 16 255 octets ≡ true) → IfOk answer (λ _. (16 ≤ octets) × (octets ≤ 255))
    by (Ok n) e = let parts = and_parts (leb 16 octets) (leb octets 255) e in (leb-true 16 octets parts.0, leb-true octets 255 parts.1)
    by (Err why) e = tt

two_is_not_one : Two ≡ One → ⊥
two_is_not_one e = cc

abbrev place : List Signal → List (List ℕ) → List ℕ → PlacedCltu
place before earlier frame = record { before = before; earlier = earlier; frame = frame }

abbrev more : SentStretch → List Writing → SentStretch
more one vs = record { acquisition = one.acquisition; writings = one.writings ++ vs }

module _ (settings : Settings) where
  abbrev p : Parameters
  p = parameters_of settings

  abbrev limit : ℕ
  limit = settings.sender.limit.count

  -- which stretch is open where the session stands so
  abbrev Stands : Standing → Option SentStretch → Type 0
  Stands silent None = Unit {0}
  Stands silent (Some one) = ⊥
  Stands carrier None = Unit {0}
  Stands carrier (Some one) = ⊥
  Stands locked None = ⊥
  Stands locked (Some one) = InOrder settings one × (settings.plop ≡ One → frames_in one.writings ≡ [])
  Stands sent None = ⊥
  Stands sent (Some one) = InOrder settings one

  pub record Reached (s : Standing) (signals : List Signal) (frames : List (List ℕ)) (cltus : List PlacedCltu) : Type 0 where
    pub closed : List SentStretch
    pub opened : Option SentStretch
    pub its_signals : signals ≡ signals_on p (record { closed = closed; opened = opened })
    pub its_frames : frames ≡ frames_on (record { closed = closed; opened = opened })
    pub its_cltus : cltus ≡ cltus_on p (record { closed = closed; opened = opened })
    pub in_order : AllByRecursion (InOrder settings) closed
    pub stands : Stands s opened

  -- nothing more
  moves : (s t : Standing) (signals : List Signal) (frames : List (List ℕ)) (cltus : List PlacedCltu) → ((opened : Option SentStretch) → Stands s opened → Stands t opened) →
      Reached s signals frames cltus → Reached t (signals ++ []) (frames ++ []) (cltus ++ [])
  moves s t signals frames cltus on r =
      record {
        closed = r.closed;
        opened = r.opened;
        its_signals = append-nil signals ∙ r.its_signals;
        its_frames = append-nil frames ∙ r.its_frames;
        its_cltus = append-nil cltus ∙ r.its_cltus;
        in_order = r.in_order;
        stands = on r.opened r.stands;
      }

  stays : (s : Standing) (signals : List Signal) (frames : List (List ℕ)) (cltus : List PlacedCltu) → Reached s signals frames cltus → Reached s (signals ++ []) (frames ++ []) (cltus ++ [])
  stays s signals frames cltus r = moves s s signals frames cltus (λ opened h. h) r

  raised : (opened : Option SentStretch) → Stands silent opened → Stands carrier opened
  raised None h = tt
  raised (Some one) h = h

  lowered : (opened : Option SentStretch) → Stands carrier opened → Stands silent opened
  lowered None h = tt
  lowered (Some one) h = h

  module _ (signals : List Signal) (frames : List (List ℕ)) (cltus : List PlacedCltu) where
    -- an acquisition
    acquires : (octets : ℕ) → (16 ≤ octets) × (octets ≤ 255) → (closed : List SentStretch) (opened : Option SentStretch) → signals ≡ signals_on p (record { closed = closed; opened = opened }) →
        frames ≡ frames_on (record { closed = closed; opened = opened }) → cltus ≡ cltus_on p (record { closed = closed; opened = opened }) → AllByRecursion (InOrder settings) closed → Stands carrier opened →
        Reached locked (signals ++ (goes_up ∷ (signals_of_octets (repeated settings.idle octets) ++ []))) (frames ++ []) (cltus ++ [])
    acquires octets fits closed (Some one) es ef ec in_order stands = absurd stands
    acquires octets fits closed None es ef ec in_order stands =
        let own = repeated settings.idle octets in
        record {
          closed = closed;
          opened = Some (record { acquisition = octets; writings = [] });
          its_signals = ap₂ ◌++◌ (es ∙ append-nil (flat_map (closed_signals p) closed)) (ap (λ l. goes_up ∷ l) (append-nil (signals_of_octets own) ∙ ap signals_of_octets (sym (append-nil own))));
          its_frames = append-nil frames ∙ ef;
          its_cltus = append-nil cltus ∙ ec;
          in_order = in_order;
          stands = (record { least = fits.0; most = fits.1; frames = tt; alone = λ e. omega arith }, λ e. refl);
        }

    acquisition_next : (octets : ℕ) (answer : Result ℕ Refusal) → IfOk answer (λ _. (16 ≤ octets) × (octets ≤ 255)) → Reached carrier signals frames cltus →
        let one = if_accepted answer carrier (record { after = locked; written = repeated settings.idle octets; frames = [] }) in
        Reached one.after (signals ++ signals_of_step carrier one) (frames ++ one.frames) (cltus ++ map (place signals frames) one.frames)
    acquisition_next octets (Ok n) fits r = acquires octets fits r.closed r.opened r.its_signals r.its_frames r.its_cltus r.in_order r.stands
    acquisition_next octets (Err why) fits r = stays carrier signals frames cltus r

    -- more of the stretch that is open
    writes : (after : Standing) (one : SentStretch) (vs : List Writing) (written : List ℕ) (closed : List SentStretch) → signals ≡ signals_on p (record { closed = closed; opened = Some one }) →
        frames ≡ frames_on (record { closed = closed; opened = Some one }) → cltus ≡ cltus_on p (record { closed = closed; opened = Some one }) → AllByRecursion (InOrder settings) closed →
        written ≡ flat_map (octets_in p) vs → ((before : List Signal) (earlier : List (List ℕ)) → cltus_in p before earlier vs ≡ map (place before earlier) (frames_in vs)) → Stands after (Some (more one vs)) →
        Reached after (signals ++ (signals_of_octets written ++ [])) (frames ++ frames_in vs) (cltus ++ map (place signals frames) (frames_in vs))
    writes after one vs written closed es ef ec in_order is first stands =
        let own = repeated settings.idle one.acquisition in
        let before = flat_map (closed_signals p) closed in
        let earlier = frames_of_closed closed in
        let had = cltus_of_closed p [] [] closed in
        let at = before ++ (goes_up ∷ signals_of_octets own) in
        let to_here = append_assoc before (goes_up ∷ signals_of_octets own) (signals_of_octets (flat_map (octets_in p) one.writings)) ∙ ap (λ l. before ++ (goes_up ∷ l)) (sym (signals_append own (flat_map (octets_in p) one.writings))) in
        record {
          closed = closed;
          opened = Some (more one vs);
          its_signals = ap₂ ◌++◌ es (append-nil (signals_of_octets written) ∙ ap signals_of_octets is) ∙ append_assoc before (open_signals p one) (signals_of_octets (flat_map (octets_in p) vs))
              ∙ ap (λ l. before ++ l) (sym (open_append p one.acquisition one.writings vs));
          its_frames = ap (λ l. l ++ frames_in vs) ef ∙ append_assoc earlier (frames_in one.writings) (frames_in vs) ∙ ap (λ l. earlier ++ l) (sym (frames_append one.writings vs));
          its_cltus = ap₂ ◌++◌ ec (ap₂ (λ (b : List Signal) (e : List (List ℕ)). map (place b e) (frames_in vs)) (es ∙ sym to_here) ef ∙ sym (first (at ++ signals_of_octets (flat_map (octets_in p) one.writings)) (earlier ++ frames_in one.writings)))
              ∙ append_assoc had (cltus_in p at earlier one.writings) (cltus_in p (at ++ signals_of_octets (flat_map (octets_in p) one.writings)) (earlier ++ frames_in one.writings) vs)
              ∙ ap (λ l. had ++ l) (sym (cltus_append p one.writings vs at earlier));
          in_order = in_order;
          stands = stands;
        }

    -- the break
    breaks : (one : SentStretch) (closed : List SentStretch) → InOrder settings one → signals ≡ signals_on p (record { closed = closed; opened = Some one }) →
        frames ≡ frames_on (record { closed = closed; opened = Some one }) → cltus ≡ cltus_on p (record { closed = closed; opened = Some one }) → AllByRecursion (InOrder settings) closed →
        Reached carrier (signals ++ (goes_down ∷ [])) (frames ++ []) (cltus ++ [])
    breaks one closed fits es ef ec in_order =
        let all = closed ++ (one ∷ []) in
        let before = flat_map (closed_signals p) closed in
        let earlier = frames_of_closed closed in
        record {
          closed = all;
          opened = None;
          its_signals = ap (λ l. l ++ (goes_down ∷ [])) es ∙ append_assoc before (open_signals p one) (goes_down ∷ []) ∙ ap (λ l. before ++ l) (sym (append-nil (closed_signals p one)))
              ∙ sym (flat_map-append (closed_signals p) closed (one ∷ [])) ∙ sym (append-nil (flat_map (closed_signals p) all));
          its_frames = append-nil frames ∙ ef ∙ ap (λ l. earlier ++ l) (sym (append-nil (frames_in one.writings))) ∙ sym (frames_closed_append closed (one ∷ [])) ∙ sym (append-nil (frames_of_closed all));
          its_cltus = append-nil cltus ∙ ec ∙ ap (λ l. cltus_of_closed p [] [] closed ++ l) (sym (append-nil (cltus_of p before earlier one))) ∙ sym (cltus_closed_append p closed (one ∷ []) [] [])
              ∙ sym (append-nil (cltus_of_closed p [] [] all));
          in_order = all_both (InOrder settings) closed (one ∷ []) in_order (fits, tt);
          stands = tt;
        }

    -- ---- idle, and frames

    in_idle : (one : SentStretch) (octets : ℕ) → InOrder settings one → InOrder settings (more one (idles octets ∷ []))
    in_idle one octets fits =
        let same = sym (frames_append one.writings (idles octets ∷ []) ∙ append-nil (frames_in one.writings)) in
        record { least = fits.least; most = fits.most; frames = subst (λ l. FramesWithin limit l) same fits.frames; alone = λ e. subst (λ l. length l ≤ 1) same (fits.alone e) }

    idle_written : (octets : ℕ) → repeated settings.idle octets ≡ flat_map (octets_in p) (idles octets ∷ [])
    idle_written octets = sym (append-nil (repeated settings.idle octets))

    idle_in_locked : (octets : ℕ) (answer : Result ℕ Refusal) (closed : List SentStretch) (opened : Option SentStretch) → signals ≡ signals_on p (record { closed = closed; opened = opened }) →
        frames ≡ frames_on (record { closed = closed; opened = opened }) → cltus ≡ cltus_on p (record { closed = closed; opened = opened }) → AllByRecursion (InOrder settings) closed → Stands locked opened →
        let one = if_accepted answer locked (record { after = locked; written = repeated settings.idle octets; frames = [] }) in
        Reached one.after (signals ++ signals_of_step locked one) (frames ++ one.frames) (cltus ++ map (place signals frames) one.frames)
    idle_in_locked octets answer closed None es ef ec in_order stands = absurd stands
    idle_in_locked octets (Err why) closed (Some one) es ef ec in_order stands = stays locked signals frames cltus (record { closed = closed; opened = Some one; its_signals = es; its_frames = ef; its_cltus = ec; in_order = in_order; stands = stands })
    idle_in_locked octets (Ok n) closed (Some one) es ef ec in_order stands =
        writes locked one (idles octets ∷ []) (repeated settings.idle octets) closed es ef ec in_order (idle_written octets) (λ before earlier. refl)
        (in_idle one octets stands.0, λ e. frames_append one.writings (idles octets ∷ []) ∙ append-nil (frames_in one.writings) ∙ stands.1 e)

    idle_in_sent : (octets : ℕ) (answer : Result ℕ Refusal) (closed : List SentStretch) (opened : Option SentStretch) → signals ≡ signals_on p (record { closed = closed; opened = opened }) →
        frames ≡ frames_on (record { closed = closed; opened = opened }) → cltus ≡ cltus_on p (record { closed = closed; opened = opened }) → AllByRecursion (InOrder settings) closed → Stands sent opened →
        let one = if_accepted answer sent (record { after = sent; written = repeated settings.idle octets; frames = [] }) in
        Reached one.after (signals ++ signals_of_step sent one) (frames ++ one.frames) (cltus ++ map (place signals frames) one.frames)
    idle_in_sent octets answer closed None es ef ec in_order stands = absurd stands
    idle_in_sent octets (Err why) closed (Some one) es ef ec in_order stands = stays sent signals frames cltus (record { closed = closed; opened = Some one; its_signals = es; its_frames = ef; its_cltus = ec; in_order = in_order; stands = stands })
    idle_in_sent octets (Ok n) closed (Some one) es ef ec in_order stands =
        writes sent one (idles octets ∷ []) (repeated settings.idle octets) closed es ef ec in_order (idle_written octets) (λ before earlier. refl) (in_idle one octets stands)

    -- a job's frame in either procedure
    in_frame : (q : Plop) → settings.plop ≡ q → (one : SentStretch) (vs : List Writing) → FramesWithin limit (frames_in vs) → length (frames_in vs) ≤ 1 → Stands locked (Some one) → Stands (behind_a_frame q) (Some (more one vs))
    in_frame One is one vs few single stands =
        let both = sym (frames_append one.writings vs) in
        record {
          least = stands.0.least;
          most = stands.0.most;
          frames = subst (λ l. FramesWithin limit l) both (within_both limit (frames_in one.writings) (frames_in vs) stands.0.frames few);
          alone = λ e. subst (λ l. length l ≤ 1) (ap (λ l. l ++ frames_in vs) (sym (stands.1 e)) ∙ both) single;
        }
    in_frame Two is one vs few single stands =
        let both = sym (frames_append one.writings vs) in
        let never = λ (e : settings.plop ≡ One). two_is_not_one (sym is ∙ e) in (
          record {
            least = stands.0.least;
            most = stands.0.most;
            frames = subst (λ l. FramesWithin limit l) both (within_both limit (frames_in one.writings) (frames_in vs) stands.0.frames few);
            alone = λ e. absurd (never e);
          },
          λ e. absurd (never e),
        )

    frame_next : (q : Plop) → settings.plop ≡ q → (vs : List Writing) (written : List ℕ) (answer : Result ℕ Refusal) → IfOk answer (λ _. FramesWithin limit (frames_in vs)) → length (frames_in vs) ≤ 1 →
        written ≡ flat_map (octets_in p) vs → ((before : List Signal) (earlier : List (List ℕ)) → cltus_in p before earlier vs ≡ map (place before earlier) (frames_in vs)) →
        (closed : List SentStretch) (opened : Option SentStretch) → signals ≡ signals_on p (record { closed = closed; opened = opened }) → frames ≡ frames_on (record { closed = closed; opened = opened }) →
        cltus ≡ cltus_on p (record { closed = closed; opened = opened }) → AllByRecursion (InOrder settings) closed → Stands locked opened →
        let one = if_accepted answer locked (record { after = behind_a_frame q; written = written; frames = frames_in vs }) in
        Reached one.after (signals ++ signals_of_step locked one) (frames ++ one.frames) (cltus ++ map (place signals frames) one.frames)
    frame_next q is vs written answer few single whole first closed None es ef ec in_order stands = absurd stands
    frame_next q is vs written (Err why) few single whole first closed (Some one) es ef ec in_order stands =
        stays locked signals frames cltus (record { closed = closed; opened = Some one; its_signals = es; its_frames = ef; its_cltus = ec; in_order = in_order; stands = stands })
    frame_next One is vs written (Ok n) few single whole first closed (Some one) es ef ec in_order stands =
        writes sent one vs written closed es ef ec in_order whole first (in_frame One is one vs few single stands)
    frame_next Two is vs written (Ok n) few single whole first closed (Some one) es ef ec in_order stands =
        writes locked one vs written closed es ef ec in_order whole first (in_frame Two is one vs few single stands)

    broken : (s : Standing) (closed : List SentStretch) (opened : Option SentStretch) → ((one : SentStretch) → Stands s (Some one) → InOrder settings one) → (Stands s None → ⊥) → signals ≡ signals_on p (record { closed = closed; opened = opened }) →
        frames ≡ frames_on (record { closed = closed; opened = opened }) → cltus ≡ cltus_on p (record { closed = closed; opened = opened }) → AllByRecursion (InOrder settings) closed → Stands s opened →
        Reached carrier (signals ++ (goes_down ∷ [])) (frames ++ []) (cltus ++ [])
    broken s closed None fits none es ef ec in_order stands = absurd (none stands)
    broken s closed (Some one) fits none es ef ec in_order stands = breaks one closed (fits one stands) es ef ec in_order

    job_written : (memory : List ℕ) (job : Job) → job_octets settings memory job ≡ flat_map (octets_in p) (writings_of memory job)
    job_written memory job = ap (λ l. sent_octets p (frame_at memory job.frame) ++ l) (sym (append-nil (repeated settings.idle job.idle)))

    next : (s : Standing) (c : Call) → FrameMemoryOfOctets c → Reached s signals frames cltus →
        let one = step settings s c in
        Reached one.after (signals ++ signals_of_step s one) (frames ++ one.frames) (cltus ++ map (place signals frames) one.frames)
    next silent call_raise octets r = moves silent carrier signals frames cltus raised r
    next silent call_lower octets r = stays silent signals frames cltus r
    next silent (call_acquire n memory) octets r = stays silent signals frames cltus r
    next silent (call_idle n memory) octets r = stays silent signals frames cltus r
    next silent (call_send from frame memory) octets r = stays silent signals frames cltus r
    next silent (call_run_next jobs from memory) octets r = stays silent signals frames cltus r
    next silent call_break octets r = stays silent signals frames cltus r
    next carrier call_raise octets r = stays carrier signals frames cltus r
    next carrier call_lower octets r = moves carrier silent signals frames cltus lowered r
    next carrier (call_acquire n memory) octets r = acquisition_next n (idle_answer 16 255 n memory) (acquisition_fits n memory) r
    next carrier (call_idle n memory) octets r = stays carrier signals frames cltus r
    next carrier (call_send from frame memory) octets r = stays carrier signals frames cltus r
    next carrier (call_run_next jobs from memory) octets r = stays carrier signals frames cltus r
    next carrier call_break octets r = stays carrier signals frames cltus r
    next locked call_raise octets r = stays locked signals frames cltus r
    next locked call_lower octets r = stays locked signals frames cltus r
    next locked (call_acquire n memory) octets r = stays locked signals frames cltus r
    next locked (call_idle n memory) octets r = idle_in_locked n (idle_answer 1 2000 n memory) r.closed r.opened r.its_signals r.its_frames r.its_cltus r.in_order r.stands
    next locked (call_send from frame memory) octets r =
        let job = only_frame frame in
        frame_next settings.plop refl (writings_of from job) (job_octets settings from job) (job_answer settings from job memory) (job_within settings from job memory octets) (omega arith) (job_written from job) (λ before earlier. refl)
        r.closed r.opened r.its_signals r.its_frames r.its_cltus r.in_order r.stands
    next locked (call_run_next [] from memory) octets r = stays locked signals frames cltus r
    next locked (call_run_next (job ∷ rest) from memory) octets r =
        frame_next settings.plop refl (writings_of from job) (job_octets settings from job) (job_answer settings from job memory) (job_within settings from job memory octets) (omega arith) (job_written from job) (λ before earlier. refl)
        r.closed r.opened r.its_signals r.its_frames r.its_cltus r.in_order r.stands
    next locked call_break octets r = broken locked r.closed r.opened (λ one h. h.0) (λ h. h) r.its_signals r.its_frames r.its_cltus r.in_order r.stands
    next sent call_raise octets r = stays sent signals frames cltus r
    next sent call_lower octets r = stays sent signals frames cltus r
    next sent (call_acquire n memory) octets r = stays sent signals frames cltus r
    next sent (call_idle n memory) octets r = idle_in_sent n (idle_answer 1 2000 n memory) r.closed r.opened r.its_signals r.its_frames r.its_cltus r.in_order r.stands
    next sent (call_send from frame memory) octets r = stays sent signals frames cltus r
    next sent (call_run_next jobs from memory) octets r = stays sent signals frames cltus r
    next sent call_break octets r = broken sent r.closed r.opened (λ one h. h) (λ h. h) r.its_signals r.its_frames r.its_cltus r.in_order r.stands

  reached : (calls : List Call) → AllByRecursion FrameMemoryOfOctets calls → Reached (standing_after settings calls) (signals_of_calls settings calls) (frames_of_calls settings calls) (cltus_of_calls settings calls)
  reached [] all = record { closed = []; opened = None; its_signals = refl; its_frames = refl; its_cltus = refl; in_order = tt; stands = tt }
  reached (latest ∷ earlier) all =
      next (signals_of_calls settings earlier) (frames_of_calls settings earlier) (cltus_of_calls settings earlier) (standing_after settings earlier) latest all.0 (reached earlier all.1)

  open_in_order : (s : Standing) (opened : Option SentStretch) → Stands s opened → IfSome opened (λ one. InOrder settings one)
  open_in_order silent None h = tt
  open_in_order silent (Some one) h = absurd h
  open_in_order carrier None h = tt
  open_in_order carrier (Some one) h = absurd h
  open_in_order locked None h = tt
  open_in_order locked (Some one) h = h.0
  open_in_order sent None h = tt
  open_in_order sent (Some one) h = h

  open_where_it_bears : (s : Standing) (opened : Option SentStretch) → Stands s opened → is_some opened ≡ bears_data s
  open_where_it_bears silent None h = refl
  open_where_it_bears silent (Some one) h = absurd h
  open_where_it_bears carrier None h = refl
  open_where_it_bears carrier (Some one) h = absurd h
  open_where_it_bears locked None h = absurd h
  open_where_it_bears locked (Some one) h = refl
  open_where_it_bears sent None h = absurd h
  open_where_it_bears sent (Some one) h = refl

  closed_within : (closed : List SentStretch) → AllByRecursion (InOrder settings) closed → FramesWithin limit (frames_of_closed closed)
  closed_within [] all = tt
  closed_within (one ∷ more) all = within_both limit (frames_in one.writings) (frames_of_closed more) all.0.frames (closed_within more all.1)

  open_within : (opened : Option SentStretch) → IfSome opened (λ one. InOrder settings one) → FramesWithin limit (frames_of_opened opened)
  open_within None h = tt
  open_within (Some one) h = h.frames

pub any_calls_are_stretches : AnyCallsAreStretches
any_calls_are_stretches settings calls octets =
    let r = reached settings calls octets in
    record {
      on = record { closed = r.closed; opened = r.opened };
      signals = r.its_signals;
      frames = r.its_frames;
      cltus = r.its_cltus;
      closed = r.in_order;
      opened = open_in_order settings (standing_after settings calls) r.opened r.stands;
      last = open_where_it_bears settings (standing_after settings calls) r.opened r.stands;
    }

frames_of_calls_are_within : FramesOfCallsAreWithin
frames_of_calls_are_within settings calls limit octets le =
    let a = any_calls_are_stretches settings calls octets in
    let L = settings.sender.limit.count in
    a_higher_limit_takes_the_same_frames L limit (frames_of_calls settings calls) le (subst (λ l. FramesWithin L l) (sym a.frames)
    (within_both L (frames_of_closed a.on.closed) (frames_of_opened a.on.opened) (closed_within settings a.on.closed a.closed) (open_within settings a.on.opened a.opened)))

module _ (receiver : ReceiverSettings) (showing : Showing) where
  ends_up : (opened : Option SentStretch) (bears : Bool) (s : State) → is_some opened ≡ bears → EndsIn receiver showing opened s → EndsUp bears s
  ends_up None true s e ends = absurd (cc)
  ends_up None false s e ends = ends
  ends_up (Some one) true s e ends = ends
  ends_up (Some one) false s e ends = absurd (cc)

  any_calls_in_time_are_received : AnyCallsInTimeAreReceived receiver showing
  any_calls_in_time_are_received settings calls hold earlier events octets inactive hears few space =
      let a = any_calls_are_stretches settings calls octets in
      let then = after_events receiver showing (made hold) earlier in
      let r = settings.sender.randomizer in
      let both = what_is_heard_in_time_is_received receiver showing (parameters_of settings) a.on hold earlier events inactive (hears ∙ a.signals) (subst (λ l. FramesWithin receiver.limit l) a.frames few)
      (subst (λ l. AllByRecursion (SpaceAt receiver showing r then events) l) a.cltus space) in
      (ends_up a.on.opened (bears_data (standing_after settings calls)) (after_events receiver showing then events) a.last both.0, subst (λ l. Adds receiver showing r l then events) (sym a.frames) both.1)

  any_calls_are_received : AnyCallsAreReceived receiver showing
  any_calls_are_received settings calls hold earlier events octets inactive hears few space =
      let a = any_calls_are_stretches settings calls octets in
      let then = after_events receiver showing (made hold) earlier in
      any_calls_in_time_are_received settings calls hold earlier events octets inactive hears few
      (subst (λ l. AllByRecursion (SpaceAt receiver showing settings.sender.randomizer then events) l) (sym a.cltus)
      (space_for_all_is_space_in_time receiver showing (parameters_of settings) a.on hold earlier events inactive (omega (arith, space, ap codeblocks_of a.frames))))

pub calls_promise : CallsPromise
calls_promise = record { begins = λ silent. record { standing = refl; frame_memory = tt }; goes_on = a_step_goes_on; stretches = any_calls_are_stretches; within = frames_of_calls_are_within; received = any_calls_are_received; received_in_time = any_calls_in_time_are_received }
