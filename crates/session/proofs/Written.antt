-- A CLTU in front of memory and idle octets right behind it, and how a stretch goes on. Assumes nothing.
use Rattle.std.proofs.Common.{◌≡◌, ℕ, ◌+◌, ◌-◌, List, [], ◌∷◌, ◌++◌, length, take, drop, sym, ap, ◌∙◌, append_assoc, append-nil, arith}
use Rattle.std.proofs.lemmas.List.{length-append, length-replicate, take_at, drop_at, drop-drop, replicate-append-replicate}
use Rattle.std.specs.List.{flat_map}
use Rattle.std.proofs.lemmas.Grind.{flat_map-append}
use Rattle.procedures.specs.declared.IdleOctet.{IdleOctet}
use Rattle.procedures.specs.Stretch.{idle_octet, repeated, sent_octets, Writing, idles, octets_in, stretch_octets}
use Rattle.session.specs.declared.Job.{Job}
use Rattle.session.specs.declared.Settings.{Settings}
use Rattle.session.specs.Writing.{parameters_of, frame_at, job_octets, GoesOn, writings_of}

module _ (octet : IdleOctet) where
  both_idle : (own : List ℕ) (a b : ℕ) → (own ++ repeated octet a) ++ repeated octet b ≡ own ++ repeated octet (a + b)
  both_idle own a b = append_assoc own (repeated octet a) (repeated octet b) ∙ ap (λ l. own ++ l) (replicate-append-replicate a b (idle_octet octet))

  -- so many octets of memory were written over
  behind_own : (own memory now idle : List ℕ) (n s : ℕ) → n ≡ length own → now ≡ own ++ drop n memory → length idle ≡ s →
      take n now ++ (idle ++ drop (n + s - n) (drop n now)) ≡ (own ++ idle) ++ drop (length (own ++ idle)) memory
  behind_own own memory now idle n s e is long = grind (arith, take_at, drop_at, drop-drop, append_assoc, length-append)

  pub written_behind : (own memory now part : List ℕ) (a b n s : ℕ) → n ≡ length own → now ≡ own ++ drop n memory → s ≡ a + b → part ≡ repeated octet s →
      take n now ++ (part ++ drop (n + s - n) (drop n now)) ≡ ((own ++ repeated octet a) ++ repeated octet b) ++ drop (length ((own ++ repeated octet a) ++ repeated octet b)) memory
  written_behind own memory now part a b n s e is sum filled =
      behind_own own memory now part n s e is (ap length filled ∙ length-replicate s (idle_octet octet))
      ∙ ap (λ l. l ++ drop (length l) memory) (ap (λ l. own ++ l) (filled ∙ ap (repeated octet) sum) ∙ sym (both_idle own a b))

module _ (settings : Settings) where
  -- what is written at the end of a stretch is its last part
  goes_on : (acquisition : ℕ) (before writings : List Writing) →
      let parameters = parameters_of settings in
      stretch_octets parameters acquisition before ++ flat_map (octets_in parameters) writings ≡ stretch_octets parameters acquisition (before ++ writings)
  goes_on acquisition before writings =
      let parameters = parameters_of settings in
      append_assoc (repeated parameters.idle acquisition) (flat_map (octets_in parameters) before) (flat_map (octets_in parameters) writings)
      ∙ ap (λ l. repeated parameters.idle acquisition ++ l) (sym (flat_map-append (octets_in parameters) before writings))

  pub idle_goes_on : (octets : ℕ) → GoesOn settings (idles octets ∷ []) (repeated settings.idle octets)
  idle_goes_on octets acquisition before =
      ap (λ l. stretch_octets (parameters_of settings) acquisition before ++ l) (sym (append-nil (repeated settings.idle octets)))
      ∙ goes_on acquisition before (idles octets ∷ [])

  pub job_goes_on : (frames : List ℕ) (job : Job) → GoesOn settings (writings_of frames job) (job_octets settings frames job)
  job_goes_on frames job acquisition before =
      let own = sent_octets (parameters_of settings) (frame_at frames job.frame) in
      ap (λ l. stretch_octets (parameters_of settings) acquisition before ++ (own ++ l)) (sym (append-nil (repeated settings.idle job.idle)))
      ∙ goes_on acquisition before (writings_of frames job)

  pub only_acquired : (octets : ℕ) → stretch_octets (parameters_of settings) octets [] ≡ repeated settings.idle octets
  only_acquired octets = append-nil (repeated settings.idle octets)
