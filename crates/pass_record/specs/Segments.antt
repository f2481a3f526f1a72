-- The segments of a pass record that was read, the symbols of a segment, and what reading answers. Assumes nothing.
use Rattle.std.specs.Prelude.{◌≡◌, ℕ, ◌-◌, Bool, List, take, drop, Result, IsOkAnd}
use Rattle.bch.specs.Bits.{bits_of}
use Rattle.refusals.specs.declared.Refusal.{Refusal}
use Rattle.refusals.specs.declared.Refusal.TheVariants.{RecordLayout}
use Rattle.pass_record.specs.Record.{IsRecord, IsNoRecord}
use Rattle.pass_record.specs.Reading.{told_segments}
use Rattle.pass_record.specs.declared.record.PassRecord.{PassRecord}
use Rattle.pass_record.specs.declared.segment.Segment.{Segment}
use Rattle.pass_record.specs.declared.Segments.{Segments}
use Rattle.pass_record.specs.declared.Bits.{Bits}

-- the segments of a record that was read
abbrev pub segments_in : PassRecord → List (List Bool)
segments_in pass = told_segments pass.octets.now

-- the symbols of a segment
abbrev pub symbols_in : Segment → List Bool
symbols_in segment = take segment.symbols (bits_of segment.octets.now)

-- the segments of a record that are still to come, and the symbols of a segment
abbrev pub segments_left : Segments → List (List Bool)
segments_left to_come =
    take (to_come.places.end - to_come.places.start) (drop to_come.places.start (segments_in to_come.pass))

abbrev pub symbols_left : Bits → List Bool
symbols_left to_come =
    take (to_come.places.end - to_come.places.start) (drop to_come.places.start (symbols_in to_come.segment))

-- why octets are refused, and that no segments make them a record
pub record RefusedLayout (octets : List ℕ) (why : Refusal) : Type 0 where
  pub reason : why ≡ RecordLayout
  pub none : IsNoRecord octets

-- octets that are the record of segments are read, and the record has these segments
abbrev pub GivesBack : List ℕ → Result PassRecord Refusal → Type 0
GivesBack octets answer =
    (segments : List (List Bool)) → IsRecord octets segments → IsOkAnd answer (λ pass. segments_in pass ≡ segments)
