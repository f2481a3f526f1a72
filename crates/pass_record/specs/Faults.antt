-- What is wrong with octets that are no record: the first thing in the order of reading. Assumes nothing.
use Rattle.std.specs.Prelude.{◌≡◌, ◌≢◌, ℕ, zero, suc, ◌+◌, ◌*◌, ◌%◌, ◌^◌, ◌<◌, ◌≤◌, List, length, slice_index_or}
use Rattle.pass_record.specs.Record.{octets_for}
use Rattle.pass_record.specs.Reading.{unused, told_count, told_place, told_begin, told_size, RightEnd, RightEntry}
use Rattle.pass_record.specs.declared.entry_fault.EntryFault.{EntryFault}
use Rattle.pass_record.specs.declared.entry_fault.EntryFault.TheVariants.{BeginsElsewhere, NoSymbols, PastFirstEntry, PaddingNotZero}
use Rattle.pass_record.specs.declared.record_fault.RecordFault.{RecordFault}
use Rattle.pass_record.specs.declared.record_fault.RecordFault.TheVariants.{TooShort, TooLong, EntriesEndElsewhere, Entry, GapBeforeEntries}

module _ (octets : List ℕ) where
  -- where the segment of an entry is due: behind those of all entries before
  abbrev pub due : ℕ → ℕ
  due zero = 0
  due (suc i) = due i + octets_for (told_size octets i)

  -- the end is right, and the first so many entries
  pub record RightTo (i : ℕ) : Type 0 where
    pub end : RightEnd octets
    pub entries : (j : ℕ) → j < i → RightEntry octets j (due j)

  -- the first thing that is wrong with an entry, whose segment is due at a place
  abbrev pub IsEntryFault : (i place : ℕ) → EntryFault → Type 0
  IsEntryFault i place (BeginsElsewhere begin due_at) =
      (begin ≡ told_begin octets i) × (due_at ≡ place) × (begin ≢ due_at)
  IsEntryFault i place NoSymbols =
      (told_begin octets i ≡ place) × (told_size octets i ≡ 0)
  IsEntryFault i place (PastFirstEntry end first_entry) =
      (told_begin octets i ≡ place) × (0 < told_size octets i)
      × (end ≡ place + octets_for (told_size octets i)) × (first_entry ≡ told_place octets) × (first_entry < end)
  IsEntryFault i place (PaddingNotZero last) =
      (told_begin octets i ≡ place) × (0 < told_size octets i)
      × (last + 1 ≡ place + octets_for (told_size octets i)) × (last < told_place octets)
      × (slice_index_or octets last 0 % 2 ^ unused (told_size octets i) ≢ 0)

  -- the first thing that is wrong with the octets; entries are counted from 1
  abbrev pub IsFirstFault : RecordFault → Type 0
  IsFirstFault (TooShort count) = (count ≡ length octets) × (count < 8)
  IsFirstFault (TooLong count) = (count ≡ length octets) × (65535 < count)
  IsFirstFault (EntriesEndElsewhere end due_at) =
      (8 ≤ length octets) × (length octets ≤ 65535)
      × (end ≡ told_place octets + 8 * told_count octets) × (due_at + 8 ≡ length octets) × (end ≢ due_at)
  IsFirstFault (Entry number fault) =
      (i : ℕ) × (number ≡ i + 1) × (i < told_count octets) × RightTo i × IsEntryFault i (due i) fault
  IsFirstFault (GapBeforeEntries place first_entry) =
      RightTo (told_count octets) × (place ≡ due (told_count octets)) × (first_entry ≡ told_place octets) × (place < first_entry)
