-- CLTUs that become a pass. Assumes nothing.
use Rattle.std.proofs.Common.{◌≡◌, ℕ, Bool, List, length, Option, Some, None, Ok, Err, Result, nat_le, find, refl, sym, ap, ap₂, ◌∙◌}
use Rattle.std.specs.List.{flat_map}
use Rattle.pass_lines.specs.Symbols.{with_guard, segments_sent, inverted_at, segments_received, all_symbols}
use Rattle.pass_lines.specs.Places.{places_of}
use Rattle.pass_lines.specs.Forms.{octets_made}
use Rattle.pass_lines.specs.Making.{Made, in_form, unless_past, segments_made, sent_by}
use Rattle.pass_lines.specs.declared.settings.PassSettings.{PassSettings}
use Rattle.pass_lines.specs.declared.error.PassError.{PassError}
use Rattle.pass_lines.specs.declared.error.PassError.TheVariants.{PastTheEnd}
use Rattle.pass_lines.proofs.Receiving.{length-inverted_at}
use Rattle.pass_lines.proofs.Segments.{all_sent, all_received}

module _ (settings : PassSettings) (cltus : List (List ℕ)) (received : List Bool) (is : received ≡ inverted_at (places_of settings.wrong) 0 (flat_map (with_guard settings.first settings.guard) cltus)) (symbols : ℕ) (counted : symbols ≡ length received) where
  abbrev wrong : List ℕ
  wrong = places_of settings.wrong

  abbrev sent : List (List Bool)
  sent = sent_by settings cltus

  all_are_sent : received ≡ inverted_at wrong 0 (all_symbols sent)
  all_are_sent = is ∙ ap (inverted_at wrong 0) (sym (all_sent settings.first settings.guard settings.apart cltus))

  count : symbols ≡ length (all_symbols sent)
  count = counted ∙ ap length all_are_sent ∙ length-inverted_at wrong 0 (all_symbols sent)

  searched : (o : Option ℕ) → o ≡ find (λ place. nat_le symbols place) wrong → segments_made settings sent ≡ unless_past settings sent o
  searched o e = ap (λ n. unless_past settings sent (find (λ place. nat_le n place) wrong)) (sym count) ∙ ap (unless_past settings sent) (sym e)

  pub past : (place : ℕ) → Some place ≡ find (λ place. nat_le symbols place) wrong → segments_made settings sent ≡ Err (PastTheEnd place symbols)
  past place e = searched (Some place) e ∙ ap (λ n. Err (PastTheEnd place n)) (sym count)

  module _ (segments : List (List Bool)) (parts : segments ≡ segments_received wrong 0 sent) where
    pub all_segments : received ≡ all_symbols segments
    all_segments = all_are_sent ∙ sym (all_received wrong 0 sent) ∙ ap all_symbols (sym parts)

    in_this_form : None ≡ find (λ place. nat_le symbols place) wrong → segments_made settings sent ≡ in_form settings.form segments (octets_made settings.form segments)
    in_this_form none = searched None none ∙ ap (λ s. in_form settings.form s (octets_made settings.form s)) (sym parts)

    pub not_made : None ≡ find (λ place. nat_le symbols place) wrong → (e : PassError) → octets_made settings.form segments ≡ Err e → segments_made settings sent ≡ Err e
    not_made none e made = in_this_form none ∙ ap (in_form settings.form segments) made

    pub is_made : None ≡ find (λ place. nat_le symbols place) wrong → (n : ℕ) (octets : List ℕ) → n ≡ length segments → octets_made settings.form segments ≡ Ok octets
        → segments_made settings sent ≡ Ok (record { form = settings.form; segments = n; symbols = symbols; octets = octets })
    is_made none n octets many made =
        in_this_form none ∙ ap (in_form settings.form segments) made
        ∙ ap₂ (λ a b. Ok (record { form = settings.form; segments = a; symbols = b; octets = octets })) (sym many) (sym (ap length all_segments) ∙ sym counted)
