-- Where something is wrong with octets, they are no record. Assumes nothing.
use Rattle.std.proofs.Common.{◌≡◌, ℕ, suc, ◌+◌, ◌-◌, ◌%◌, ◌^◌, ◌<◌, List, get_or, sym, ap, ◌∙◌, subst, ⊎_elim, arith}
use Rattle.std.proofs.lemmas.Bool.{cases_lt}
use Rattle.pass_record.specs.Record.{octets_for, IsNoRecord}
use Rattle.pass_record.specs.Reading.{unused, told_count, told_place, told_size, RightEnd, RightEntry}
use Rattle.pass_record.specs.Faults.{due, RightTo, IsEntryFault}
use Rattle.pass_record.specs.declared.entry_fault.EntryFault.{EntryFault}
use Rattle.pass_record.specs.declared.entry_fault.EntryFault.TheVariants.{BeginsElsewhere, NoSymbols, PastFirstEntry, PaddingNotZero}
use Rattle.pass_record.proofs.Places.{right_end}
use Rattle.pass_record.proofs.Laid.{LaidTo, entry_right, ends_there}

module _ (octets : List ℕ) where
  entry_not_right : (i place : ℕ) (fault : EntryFault) → IsEntryFault octets i place fault → RightEntry octets i place → ⊥
  entry_not_right i place (BeginsElsewhere begin due_at) w right = w.2 (w.0 ∙ right.begins ∙ sym w.1)
  entry_not_right i place NoSymbols w right = omega (arith, w.1, right.some)
  entry_not_right i place (PastFirstEntry end first_entry) w right = omega (arith, w.2, w.3, w.4, right.within)
  entry_not_right i place (PaddingNotZero last) w right =
      let there : place + octets_for (told_size octets i) - 1 ≡ last = omega (arith, w.2) in
      w.4 (subst (λ p. get_or octets p 0 % 2 ^ unused (told_size octets i) ≡ 0) there right.padded)

  pub no_record_by_end : (RightEnd octets → ⊥) → IsNoRecord octets
  no_record_by_end wrong segments is = wrong (right_end octets segments is)

  due_more : (i : ℕ) → due octets (i + 1) ≡ due octets i + octets_for (told_size octets i)
  due_more i =
      let next : i + 1 ≡ suc i = omega arith in
      ap (due octets) next

  -- one right entry more
  pub due_next : (i place end : ℕ) → place ≡ due octets i → end ≡ place + octets_for (told_size octets i) → end ≡ due octets (i + 1)
  due_next i place end e f = omega (arith, due_more i)

  pub right_more : (i place : ℕ) → RightTo octets i → place ≡ due octets i → RightEntry octets i place → RightTo octets (i + 1)
  right_more i place before e right =
      record {
        end = before.end;
        entries = λ j h.
            ⊎_elim (before.entries j)
            (λ past.
            let last : i ≡ j = omega arith in
            subst (λ k. RightEntry octets k (due octets k)) last (subst (RightEntry octets i) e right))
            (cases_lt j i);
      }

  module _ (fits : (k : ℕ) → get_or octets k 0 < 256) (end : RightEnd octets) where
    pub no_record_by_entry : (i place : ℕ) (fault : EntryFault) → i < told_count octets → LaidTo octets i place → IsEntryFault octets i place fault → IsNoRecord octets
    no_record_by_entry i place fault h laid w segments is = entry_not_right i place fault w (entry_right octets fits end segments is i place h laid)

    pub no_record_by_rest : (place : ℕ) → LaidTo octets (told_count octets) place → place < told_place octets → IsNoRecord octets
    no_record_by_rest place laid h segments is = absurd (omega (arith, ends_there octets fits end segments is place laid))
