-- A ring's oldest candidate in its cells, and its cells after a release. Assumes nothing.
use Rattle.std.proofs.Common.{◌≡◌, ℕ, ◌+◌, ◌-◌, ◌*◌, ◌/◌, ◌%◌, ◌<◌, ◌≤◌, true, List, length, get_or, take, drop, slice_get, Some, Ok, sym, ap, ◌∙◌, arith}
use Rattle.std.proofs.lemmas.List.{length-drop, take-append-le, drop-take}
use Rattle.std.proofs.lemmas.Option.{get_or_from_slice_get}
use Rattle.circular.specs.Circle.{round_from}
use Rattle.circular.proofs.Rounds.{length_round_from}
use Rattle.hold.specs.Candidates.{stretch_answer, after_stretch, after_release}
use Rattle.cells.specs.declared.cell.Cell.{Cell}
use Rattle.cells.specs.Cells.{grouped, parted, unfinished_in}
use Rattle.cells.specs.Held.{held_by, oldest_of, Oldest, blank}
use Rattle.cells.proofs.Oldest.{is_oldest, first_counted, octet_at, read_more, turn_below as turn_used}
use Rattle.cells.proofs.Oldest.{length_finished as as_many_finished, stretch_answered as answered, oldest_short as short, all_read as all_of_it}
use Rattle.cells.proofs.Oldest.{finished_behind as finished_left, whole_behind as whole_left, open_behind as open_left}
use Rattle.ring.specs.declared.ring.Ring.{Ring}
use Rattle.ring.specs.Held.{in_turn, capacity_of, finished_in, opened_in}

module _ (ring : Ring) where
  pub as_many : (turns : ℕ) → length (round_from turns (in_turn ring)) ≡ capacity_of ring
  as_many turns = length_round_from (in_turn ring) turns ∙ ring.counted.as_many

  pub length_finished : ring.counts.waiting ≡ length (finished_in ring)
  length_finished = as_many_finished ring.counts (in_turn ring) ring.counted

  module _ (some : 0 < ring.counts.waiting) where
    pub stretch_answered : (place : ℕ) (memory : List ℕ) → length memory ≤ length (oldest_of (finished_in ring)) - place → stretch_answer (finished_in ring) place memory ≡ Ok tt
    stretch_answered = answered ring.counts (in_turn ring) ring.counted some

    pub oldest_short : length (oldest_of (finished_in ring)) ≤ 7 * 65535
    oldest_short = short ring.counts (in_turn ring) ring.counted some

    pub all_read : (place i : ℕ) (memory later : List ℕ) → length memory ≤ length (oldest_of (finished_in ring)) - place → length later ≡ length memory → length memory ≤ i →
        take i later ≡ take i (drop place (oldest_of (finished_in ring))) → i ≤ length later → later ≡ after_stretch (finished_in ring) place memory
    all_read = all_of_it ring.counts (in_turn ring) ring.counted some

  pub oldest_counted : (cell : Cell) → 0 < ring.counts.waiting → slice_get (in_turn ring) 0 ≡ Some cell → Oldest ring.counts (in_turn ring) cell.codeblocks
  oldest_counted cell some is =
      is_oldest ring.counts (in_turn ring) ring.counted some cell.codeblocks
      (ap (λ x. x.codeblocks) (sym (get_or_from_slice_get (in_turn ring) 0 cell blank is)) ∙ first_counted ring.counts (in_turn ring) ring.counted.few some)

  pub octet_value : (place : ℕ) (cell : Cell) → place < length (oldest_of (finished_in ring)) → slice_get (in_turn ring) (place / 7) ≡ Some cell →
      get_or cell.octets (place % 7) 0 ≡ get_or (oldest_of (finished_in ring)) place 0
  octet_value place cell h is =
      ap (λ x. get_or x.octets (place % 7) 0) (sym (get_or_from_slice_get (in_turn ring) (place / 7) cell blank is))
      ∙ octet_at ring.counts (in_turn ring) ring.counted place h

  pub turn_below : (place : ℕ) → place < length (oldest_of (finished_in ring)) → place / 7 < length (in_turn ring)
  turn_below place h = omega (arith, turn_used ring.counts (in_turn ring) ring.counted place h, ring.counted.within, ring.counted.as_many)

  -- behind the oldest candidate's last cell the others begin
  module _ (n : ℕ) (oldest : Oldest ring.counts (in_turn ring) n) where
    abbrev now : List Cell
    now = round_from n (in_turn ring)

    behind : take (held_by ring.counts - n) now ≡ drop n (take (held_by ring.counts) (in_turn ring))
    behind =
        let few : held_by ring.counts - n ≤ length (drop n (in_turn ring)) = omega (arith, length-drop n (in_turn ring), ring.counted.within, ring.counted.as_many) in
        let back : n + (held_by ring.counts - n) ≡ held_by ring.counts = omega (arith, oldest.within) in
        take-append-le (held_by ring.counts - n) (drop n (in_turn ring)) (take n (in_turn ring)) few
        ∙ sym (drop-take n (held_by ring.counts - n) (in_turn ring)) ∙ ap (λ k. drop n (take k (in_turn ring))) back

    pub finished_behind : grouped (ring.counts.waiting - 1) (take (ring.counts.used - n) now) ≡ after_release (finished_in ring)
    finished_behind = finished_left ring.counts (in_turn ring) now n ring.counted oldest behind

    pub whole_behind : parted (ring.counts.waiting - 1) (take (ring.counts.used - n) now) ≡ true
    whole_behind = whole_left ring.counts (in_turn ring) now n ring.counted oldest behind

    pub open_behind : unfinished_in ring.counts.unfinished (drop (ring.counts.used - n) now) ≡ opened_in ring
    open_behind = open_left ring.counts (in_turn ring) now n ring.counted oldest behind

-- what a read and a release cite
pub ruleset reads = (oldest_short, read_more, stretch_answered, all_read)

pub ruleset releases = (finished_behind, whole_behind, open_behind, as_many)
