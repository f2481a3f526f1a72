-- Writings and stretches behind others. Assumes nothing.
use Rattle.std.proofs.Common.{◌≡◌, ℕ, List, [], ◌∷◌, ◌++◌, sym, refl, ap, ap₂, ◌∙◌, append_assoc, append-nil}
use Rattle.std.specs.List.{flat_map}
use Rattle.std.proofs.lemmas.Grind.{flat_map-append}
use Rattle.procedures.specs.Stretch.{repeated, Parameters, sent_octets, Writing, idles, sends, octets_in, frames_in}
use Rattle.procedures.specs.Signals.{Signal, goes_up, signals_of_octets, SentStretch, frames_of_closed, open_signals, closed_signals, cltus_in, cltus_of, cltus_of_closed}
use Rattle.procedures.proofs.Hearing.{signals_append}

pub frames_append : (ws vs : List Writing) → frames_in (ws ++ vs) ≡ frames_in ws ++ frames_in vs
frames_append [] vs = refl
frames_append (idles octets ∷ ws) vs = frames_append ws vs
frames_append (sends frame ∷ ws) vs = ap (λ l. frame ∷ l) (frames_append ws vs)

pub frames_closed_append : (xs ys : List SentStretch) → frames_of_closed (xs ++ ys) ≡ frames_of_closed xs ++ frames_of_closed ys
frames_closed_append xs ys = flat_map-append (λ one. frames_in one.writings) xs ys

module _ (parameters : Parameters) where
  abbrev pub octets_of : List Writing → List ℕ
  octets_of writings = flat_map (octets_in parameters) writings

  -- what is written behind what a stretch has
  pub open_append : (acquisition : ℕ) (ws vs : List Writing) →
      open_signals parameters (record { acquisition = acquisition; writings = ws ++ vs }) ≡ open_signals parameters (record { acquisition = acquisition; writings = ws }) ++ signals_of_octets (octets_of vs)
  open_append acquisition ws vs =
      let own = repeated parameters.idle acquisition in
      ap (λ l. goes_up ∷ signals_of_octets (own ++ l)) (flat_map-append (octets_in parameters) ws vs) ∙ ap (λ l. goes_up ∷ signals_of_octets l) (sym (append_assoc own (octets_of ws) (octets_of vs)))
      ∙ ap (λ l. goes_up ∷ l) (signals_append (own ++ octets_of ws) (octets_of vs))

  pub more_before : (before : List Signal) (xs ys : List ℕ) → (before ++ signals_of_octets xs) ++ signals_of_octets ys ≡ before ++ signals_of_octets (xs ++ ys)
  more_before before xs ys = append_assoc before (signals_of_octets xs) (signals_of_octets ys) ∙ ap (λ l. before ++ l) (sym (signals_append xs ys))

  pub cltus_append : (ws vs : List Writing) (before : List Signal) (earlier : List (List ℕ)) →
      cltus_in parameters before earlier (ws ++ vs) ≡ cltus_in parameters before earlier ws ++ cltus_in parameters (before ++ signals_of_octets (octets_of ws)) (earlier ++ frames_in ws) vs
  cltus_append [] vs before earlier = ap₂ (λ (b : List Signal) (e : List (List ℕ)). cltus_in parameters b e vs) (sym (append-nil before)) (sym (append-nil earlier))
  cltus_append (idles octets ∷ ws) vs before earlier =
      let own = repeated parameters.idle octets in
      let here = before ++ signals_of_octets own in
      cltus_append ws vs here earlier ∙ ap (λ b. cltus_in parameters here earlier ws ++ cltus_in parameters b (earlier ++ frames_in ws) vs) (more_before before own (octets_of ws))
  cltus_append (sends frame ∷ ws) vs before earlier =
      let own = sent_octets parameters frame in
      let here = before ++ signals_of_octets own in
      let with = earlier ++ frame ∷ [] in
      ap (λ l. record { before = before; earlier = earlier; frame = frame } ∷ l) (
      cltus_append ws vs here with
      ∙ ap₂ (λ (b : List Signal) (e : List (List ℕ)). cltus_in parameters here with ws ++ cltus_in parameters b e vs) (more_before before own (octets_of ws)) (append_assoc earlier (frame ∷ []) (frames_in ws))
      )

  pub cltus_closed_append : (xs ys : List SentStretch) (before : List Signal) (earlier : List (List ℕ)) →
      cltus_of_closed parameters before earlier (xs ++ ys)
      ≡ cltus_of_closed parameters before earlier xs ++ cltus_of_closed parameters (before ++ flat_map (closed_signals parameters) xs) (earlier ++ frames_of_closed xs) ys
  cltus_closed_append [] ys before earlier = ap₂ (λ (b : List Signal) (e : List (List ℕ)). cltus_of_closed parameters b e ys) (sym (append-nil before)) (sym (append-nil earlier))
  cltus_closed_append (one ∷ xs) ys before earlier =
      let here = before ++ closed_signals parameters one in
      let with = earlier ++ frames_in one.writings in
      let own = cltus_of parameters before earlier one in
      ap (λ l. own ++ l) (
      cltus_closed_append xs ys here with
      ∙ ap₂ (λ (b : List Signal) (e : List (List ℕ)). cltus_of_closed parameters here with xs ++ cltus_of_closed parameters b e ys) (append_assoc before (closed_signals parameters one) (flat_map (closed_signals parameters) xs))
      (append_assoc earlier (frames_in one.writings) (frames_of_closed xs))
      ) ∙ sym (append_assoc own (cltus_of_closed parameters here with xs) (cltus_of_closed parameters (before ++ flat_map (closed_signals parameters) (one ∷ xs)) (earlier ++ frames_of_closed (one ∷ xs)) ys))
