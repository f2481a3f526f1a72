-- The text of what is wrong with octets that are no record. Assumes nothing.
use Rattle.std.specs.Prelude.{ℕ, List, ◌++◌, codes, decimal}
use Rattle.pass_record.specs.declared.entry_fault.EntryFault.{EntryFault}
use Rattle.pass_record.specs.declared.entry_fault.EntryFault.TheVariants.{BeginsElsewhere, NoSymbols, PastFirstEntry, PaddingNotZero}
use Rattle.pass_record.specs.declared.record_fault.RecordFault.{RecordFault}
use Rattle.pass_record.specs.declared.record_fault.RecordFault.TheVariants.{TooShort, TooLong, EntriesEndElsewhere, Entry, GapBeforeEntries}

abbrev pub entry_fault_text : EntryFault → List ℕ
entry_fault_text (BeginsElsewhere begin due) =
    codes "its segment begins at place " ++ (decimal begin ++ (codes ", and is due at place " ++ decimal due))
entry_fault_text NoSymbols = codes "its segment has no symbols"
entry_fault_text (PastFirstEntry end first_entry) =
    codes "its segment ends at place " ++ (decimal end ++ (codes ", past the first entry at place " ++ decimal first_entry))
entry_fault_text (PaddingNotZero place) =
    codes "the padding in the last octet of its segment, at place " ++ (decimal place ++ codes ", is not zero")

abbrev pub record_fault_text : RecordFault → List ℕ
record_fault_text (TooShort octets) = decimal octets ++ codes " octets, and a record has at least 8"
record_fault_text (TooLong octets) = codes "more than 65535 octets, and a record has no more"
record_fault_text (EntriesEndElsewhere end due) =
    codes "the entries end at place " ++ (decimal end ++ (codes ", and are due to end at place " ++ decimal due))
record_fault_text (Entry number fault) = codes "entry " ++ (decimal number ++ (codes ": " ++ entry_fault_text fault))
record_fault_text (GapBeforeEntries place first_entry) =
    codes "the octets from place " ++ (decimal place ++ (codes " up to the first entry, at place " ++ (decimal first_entry ++ codes ", belong to no segment")))
