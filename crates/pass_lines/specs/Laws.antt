-- What a reader takes from a pass: which symbols are wrong, and what a record is. Assumes nothing.
use Rattle.std.specs.Prelude.{◌≡◌, ◌≢◌, ℕ, ◌<◌, Bool, true, false, not, ◌==◌, List, [], map, length, Ok, Err, slice_index_or}
use Rattle.std.specs.List.{list_any}
use Rattle.pass_record.specs.Record.{IsRecord}
use Rattle.pass_record.specs.Writing.{HasNoRecord}
use Rattle.pass_lines.specs.Symbols.{segments_received, all_symbols}
use Rattle.pass_lines.specs.Forms.{record_made}
use Rattle.pass_lines.specs.declared.error.PassError.{PassError}

-- a place is among those named
abbrev pub IsNamed : List ℕ → ℕ → Type 0
IsNamed wrong place = list_any (λ one. one == place) wrong ≡ true

abbrev pub IsNotNamed : List ℕ → ℕ → Type 0
IsNotNamed wrong place = list_any (λ one. one == place) wrong ≡ false

-- the segments that are received are as many and as long as those that are sent; over the symbols of all of them the
-- named places are inverted and the others as they were sent; and where none is named, they are the segments sent
pub record WrongWhereNamed : Type 0 where
  pub as_long : (wrong : List ℕ) (sent : List (List Bool)) →
      map length (segments_received wrong 0 sent) ≡ map length sent
  pub named : (wrong : List ℕ) (sent : List (List Bool)) (place : ℕ) → place < length (all_symbols sent) →
      IsNamed wrong place →
      slice_index_or (all_symbols (segments_received wrong 0 sent)) place false
      ≡ not (slice_index_or (all_symbols sent) place false)
  pub others : (wrong : List ℕ) (sent : List (List Bool)) (place : ℕ) → IsNotNamed wrong place →
      slice_index_or (all_symbols (segments_received wrong 0 sent)) place false
      ≡ slice_index_or (all_symbols sent) place false
  pub none : (sent : List (List Bool)) → segments_received [] 0 sent ≡ sent

-- a record that is made is one of these segments, and where none is made, no octets are one
pub record RecordsHoldSegments : Type 0 where
  pub made : (segments : List (List Bool)) (octets : List ℕ) → record_made segments ≡ Ok octets → IsRecord octets segments
  pub none : (segments : List (List Bool)) (e : PassError) → record_made segments ≡ Err e → HasNoRecord segments
