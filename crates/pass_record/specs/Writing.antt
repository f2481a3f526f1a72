-- What writing a record into the caller's memory answers, and what the memory holds after. Assumes nothing.
use Rattle.std.specs.Prelude.{◌≡◌, ℕ, Bool, cond, ◌&&◌, List, ◌++◌, length, drop, Ok, Err, Result, nat_lt, nat_le}
use Rattle.std.specs.List.{list_all}
use Rattle.refusals.specs.declared.Refusal.{Refusal}
use Rattle.refusals.specs.declared.Refusal.TheVariants.{MemoryTooShort, RecordLayout}
use Rattle.pass_record.specs.Record.{record_of, IsRecord}
use Rattle.pass_record.specs.Segments.{segments_in}
use Rattle.pass_record.specs.declared.record.PassRecord.{PassRecord}

module _ (segments : List (List Bool)) where
  -- no octets are the record of these segments
  abbrev pub HasNoRecord : Type 0
  HasNoRecord = (octets : List ℕ) → IsRecord octets segments → ⊥

  -- each segment has a symbol, and together they take at most 65,535 octets
  abbrev pub holdable : Bool
  holdable = list_all (λ segment. nat_lt 0 (length segment)) segments && nat_le (length (record_of segments)) 65535

  -- how many octets the record has
  abbrev pub length_answer : Result ℕ Refusal
  length_answer = cond holdable (Ok (length (record_of segments))) (Err RecordLayout)

  -- how many octets were written, or the lowest refusal that applies
  abbrev pub writing_answer : List ℕ → Result ℕ Refusal
  writing_answer memory = cond (nat_lt (length memory) (length (record_of segments))) (Err MemoryTooShort) length_answer

  -- the record in front and the rest as it was, or all of it as it was
  abbrev pub memory_after : List ℕ → Result ℕ Refusal → List ℕ
  memory_after memory (Ok octets) = record_of segments ++ drop octets memory
  memory_after memory (Err refusal) = memory

  -- octets that are read give these segments
  abbrev pub ReadBackFrom : List ℕ → Type 0
  ReadBackFrom octets = (pass : PassRecord) → pass.octets.now ≡ octets → segments_in pass ≡ segments
