-- The forms in which segments of symbols are written. Assumes nothing.
use Rattle.std.specs.Prelude.{ℕ, Bool, cond, List, map, codes, Ok, Err, Result}
use Rattle.std.proofs.Common.{Bor}
use Rattle.pass_record.specs.Record.{packed, record_of}
use Rattle.pass_record.specs.Writing.{holdable}
use Rattle.pass_lines.specs.Symbols.{all_symbols}
use Rattle.pass_lines.specs.declared.form.Form.{Form}
use Rattle.pass_lines.specs.declared.form.Form.TheVariants.{Record, Packed, Bits, Levels}
use Rattle.pass_lines.specs.declared.error.PassError.{PassError}
use Rattle.pass_lines.specs.declared.error.PassError.TheVariants.{RecordTooLong}

abbrev pub form_word : Form → List ℕ
form_word Record = codes "record"
form_word Packed = codes "packed"
form_word Bits = codes "bits"
form_word Levels = codes "levels"

-- a symbol alone in an octet
abbrev pub bit_octet : Bool → ℕ
bit_octet bit = cond bit 1 0

-- the level of a symbol as an octet: 64 for a 0; for a 1 −64, which is 256 − 64
abbrev pub level_octet : Bool → ℕ
level_octet bit = cond bit 192 64

-- the record of segments, if octets can be one
abbrev pub record_made : List (List Bool) → Result (List ℕ) PassError
record_made segments = cond (holdable segments) (Ok (record_of segments)) (Err RecordTooLong)

-- segments in a form: but for the record it has all symbols, one behind the other
abbrev pub octets_made : Form → List (List Bool) → Result (List ℕ) PassError
octets_made Record segments = record_made segments
octets_made Packed segments = Ok (packed (all_symbols segments))
octets_made Bits segments = Ok (map bit_octet (all_symbols segments))
octets_made Levels segments = Ok (map level_octet (all_symbols segments))

-- the symbols of segments that are lent
abbrev pub segment_symbols : List (Bor (List Bool)) → List (List Bool)
segment_symbols segments = map (λ segment. segment.now) segments
