-- Decoding: what becomes of a candidate behind a start sequence, symbol by symbol, by the settings in force, by what
-- was read of it so far and by what the hold means. Nothing here knows how a start is found, of windows, carriers or
-- states: whoever decodes brings the settings at each symbol, and is told that the candidate goes on or that it ended.
-- Assumes nothing.
use Rattle.std.specs.Prelude.{ℕ, zero, suc, ◌+◌, ◌*◌, Bool, true, false, cond, List, Some, None, Option, ◌==◌, nat_le}
use Rattle.bch.specs.declared.Mode.{Mode}
use Rattle.bch.specs.declared.Accepted.{Accepted}
use Rattle.bch.specs.Reception.{verdict}
use Rattle.hold.specs.Candidates.{Candidate, Showing, open_codeblocks, free_space, after_open, after_add, open_after_finish, finished_after_finish, after_release}
use Rattle.reception.specs.declared.Reason.{Reason}
use Rattle.reception.specs.declared.Reason.TheVariants.{Closed, Empty, Long, Full}
use Rattle.reception.specs.declared.Report.{Report}
use Rattle.reception.specs.Symbols.{bit_value}

-- the mode, and the limit: no CLTU has more codeblocks than that
pub record Settings : Type 0 where
  pub mode : Mode
  pub limit : ℕ

abbrev pub settings : Mode → ℕ → Settings
settings mode limit = record { mode = mode; limit = limit }

-- what a hold means, apart from its showing
pub record Held : Type 0 where
  pub capacity : ℕ
  pub finished : List Candidate
  pub opened : Option Candidate

-- the calls of a hold that a receiver makes
abbrev pub opening : Held → Held
opening h = record { capacity = h.capacity; finished = h.finished; opened = after_open h.opened }

abbrev pub adding : Showing → Held → List ℕ → Held
adding showing h octets =
    record {
      capacity = h.capacity;
      finished = h.finished;
      opened = after_add showing h.capacity h.finished h.opened octets;
    }

abbrev pub finishing : Held → Held
finishing h =
    record {
      capacity = h.capacity;
      finished = finished_after_finish h.finished h.opened;
      opened = open_after_finish h.opened;
    }

abbrev pub abandoning : Held → Held
abandoning h = record { capacity = h.capacity; finished = h.finished; opened = None }

abbrev pub releasing : Held → Held
releasing h = record { capacity = h.capacity; finished = after_release h.finished; opened = h.opened }

-- how many codeblocks the open candidate has, and how many the hold can still take
abbrev pub added : Held → ℕ
added h = open_codeblocks h.opened

abbrev pub room : Held → ℕ
room h = free_space h.capacity h.finished h.opened

-- what was read behind a start: how many symbols of the codeblock that is not whole yet, the number that they write
-- with the first of them highest, how many codeblocks were added, and how many of those were corrected
pub record Reading : Type 0 where
  pub count : ℕ
  pub word : ℕ
  pub codeblocks : ℕ
  pub corrections : ℕ

abbrev pub reading : (count word codeblocks corrections : ℕ) → Reading
reading count word codeblocks corrections =
    record { count = count; word = word; codeblocks = codeblocks; corrections = corrections }

-- nothing yet
abbrev pub begun : Reading
begun = reading 0 0 0 0

-- what becomes of a candidate: it goes on, or it ends with a report
pub data Decoded : Type 0 where
  goes_on : Held → Reading → Decoded
  ends : Held → Report → Decoded

abbrev pub report : Reason → (codeblocks corrections : ℕ) → Report
report reason codeblocks corrections = record { reason = reason; codeblocks = codeblocks; corrections = corrections }

-- a rejected codeblock ends the candidate: it is finished, or, if it has no codeblock, abandoned
abbrev pub closing : Held → (codeblocks corrections : ℕ) → Decoded
closing h zero corrections = ends (abandoning h) (report Empty 0 corrections)
closing h (suc n) corrections = ends (finishing h) (report Closed (suc n) corrections)

-- an accepted codeblock is added, unless as many as the limit are, or the hold is full
abbrev pub counting_in : Settings → Showing → Held → (codeblocks corrections : ℕ) → (octets : List ℕ) →
    (corrected : Bool) → Decoded
counting_in settings showing h codeblocks corrections octets corrected =
    cond (nat_le settings.limit codeblocks) (ends (abandoning h) (report Long codeblocks corrections))
    (cond (room h == 0) (ends (abandoning h) (report Full codeblocks corrections))
    (goes_on (adding showing h octets) (reading 0 0 (suc codeblocks) (corrections + bit_value corrected))))

-- judged first, counted second
abbrev pub decoded_by : Settings → Showing → Held → (codeblocks corrections : ℕ) → Option Accepted → Decoded
decoded_by settings showing h codeblocks corrections None = closing h codeblocks corrections
decoded_by settings showing h codeblocks corrections (Some x) =
    counting_in settings showing h codeblocks corrections x.information x.corrected

abbrev pub decoded : Settings → Showing → Held → (codeblocks corrections word : ℕ) → Decoded
decoded settings showing h codeblocks corrections word =
    decoded_by settings showing h codeblocks corrections (verdict settings.mode word)

-- one symbol more: the 64th makes a codeblock whole, which is decoded
abbrev pub with_symbol : Reading → Bool → Reading
with_symbol r b = reading (suc r.count) (2 * r.word + bit_value b) r.codeblocks r.corrections

abbrev pub read_word : Settings → Showing → Held → Reading → (whole : Bool) → Decoded
read_word settings showing h r true = decoded settings showing h r.codeblocks r.corrections r.word
read_word settings showing h r false = goes_on h r

abbrev pub read_symbol : Settings → Showing → Held → Reading → Bool → Decoded
read_symbol settings showing h r b = read_word settings showing h (with_symbol r b) (suc r.count == 64)
