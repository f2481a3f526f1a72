-- A codeblock put behind the open candidate's others, and its codeblocks noted in its first cell. Assumes nothing.
use Rattle.std.proofs.Common.{◌≡◌, ℕ, zero, suc, ◌+◌, ◌-◌, ◌<◌, ◌≤◌, true, false, eqb, List, [], ◌∷◌, ◌++◌, length, get_or, take, drop, set, Some, Option, None, Ok, Err, sym, refl, ap, ◌∙◌, ap₂, add-one, arith, take-add}
use Rattle.std.proofs.lemmas.Grind.{common_steps}
use Rattle.std.proofs.lemmas.List.{length-set, length-drop, length-take-le, take-set-le, drop-set, drop-set-add, drop_more, take_more_set, flat_map_more}
use Rattle.std.proofs.lemmas.Bool.{cond-false, cond-true, ne_eqb, eq-eqb}
use Rattle.refusals.specs.declared.Refusal.{Refusal}
use Rattle.refusals.specs.declared.Refusal.TheVariants.{NoCandidateOpen, NoFreeSpace, CandidateEmpty}
use Rattle.hold.specs.Candidates.{Candidate, free_space, add_answer, after_add, finish_answer, open_after_finish, finished_after_finish}
use Rattle.hold.specs.Plain.{plain_showing}
use Rattle.hold.proofs.Plain.{shown_plain}
use Rattle.cells.specs.declared.cell.Cell.{Cell}
use Rattle.cells.specs.declared.counts.Counts.{Counts}
use Rattle.cells.specs.Cells.{octets_in, octets_of, first_count, grouped, parted, added, unfinished_in}
use Rattle.cells.specs.Sound.{length_octets_take}
use Rattle.cells.specs.Held.{stopped, held_by, add_counted, finish_counted, finished_of, opened_of, Counted, free_cells, SameFinished, Adds, AddsNone, Stored, Finishes, FinishesNone, Noted, blank}
use Rattle.cells.proofs.Groups.{octets_in_seven, Behind, behind}

-- what finishing makes of a candidate that is not empty
finish_answered : (candidate : Candidate) → 0 < length candidate → finish_answer (Some candidate) ≡ Ok tt
finish_answered candidate h = grind (arith, common_steps)

none_open : (candidate : Candidate) → 0 < length candidate → open_after_finish (Some candidate) ≡ None
none_open candidate h = grind (arith, common_steps)

last_finished : (finished : List Candidate) (candidate : Candidate) → 0 < length candidate → finished_after_finish finished (Some candidate) ≡ finished ++ candidate ∷ []
last_finished finished candidate h = grind (arith, common_steps)

first_count_take : (n : ℕ) (cell : Cell) (cells : List Cell) → 0 < n → first_count (take n (cell ∷ cells)) ≡ cell.codeblocks
first_count_take n cell cells h = grind (arith, common_steps)

same_octets : (n : ℕ) (x y : Cell) (cells : List Cell) → octets_in x ≡ octets_in y → octets_of (take n (x ∷ cells)) ≡ octets_of (take n (y ∷ cells))
same_octets zero x y cells e = refl
same_octets (suc n) x y cells e = ap (λ l. l ++ octets_of (take n cells)) e

-- the same counts of the same cells, but for the open candidate
kept : (old new : Counts) (cells now : List Cell) → SameFinished old new → held_by new ≤ new.cells → Counted old cells → length now ≡ length cells →
    take old.used now ≡ take old.used cells → Counted new now
kept old new cells now same within counted long front =
    record {
      as_many = long ∙ counted.as_many ∙ sym same.cells;
      most = omega (arith, counted.most, same.cells);
      within = within;
      few = omega (arith, counted.few, same.used, same.waiting);
      whole = ap₂ (λ w u. parted w (take u now)) same.waiting same.used ∙ ap (parted old.waiting) front ∙ counted.whole;
    }

pub still_counted : (old new : Counts) (cells : List Cell) → SameFinished old new → added new.unfinished ≤ added old.unfinished → Counted old cells → Counted new cells
still_counted old new cells same fewer counted = kept old new cells cells same (omega (arith, counted.within, same.used, same.cells)) counted refl refl

module _ (old new : Counts) (same : SameFinished old new) (codeblocks : ℕ) (is_open : old.unfinished ≡ Some codeblocks)
    (room : old.used + codeblocks < old.cells) (more : new.unfinished ≡ Some (codeblocks + 1)) where
  module _ (cells : List Cell) (counted : Counted old cells) where
    abbrev open_cells : List Cell
    open_cells = drop old.used cells

    opened_is : opened_of old cells ≡ Some (octets_of (take codeblocks open_cells))
    opened_is = ap (λ n. unfinished_in n open_cells) is_open

    some_free : eqb (free_space old.cells (finished_of old cells) (Some (octets_of (take codeblocks open_cells)))) 0 ≡ false
    some_free =
        ap (λ o. eqb (free_space old.cells (finished_of old cells) o) 0) (sym opened_is)
        ∙ ne_eqb (free_space old.cells (finished_of old cells) (opened_of old cells)) 0 (λ e. omega (arith, free_cells old cells counted, ap added is_open))

    answered : add_answer old.cells (finished_of old cells) (opened_of old cells) ≡ Ok tt
    answered = ap (add_answer old.cells (finished_of old cells)) opened_is ∙ cond-false _ _ _ some_free

    module _ (cell : Cell) (seven : length cell.octets ≡ 7) where
      abbrev now : List Cell
      now = set cells (held_by old) cell

      at : now ≡ set cells (old.used + codeblocks) cell
      at = ap (λ n. set cells (old.used + n) cell) (ap added is_open)

      front : take old.used now ≡ take old.used cells
      front = take-set-le old.used cells (held_by old) cell (omega arith)

      opened : opened_of new now ≡ after_add plain_showing old.cells (finished_of old cells) (opened_of old cells) cell.octets
      opened =
          let candidate = octets_of (take codeblocks open_cells) in
          ap₂ (λ u l. unfinished_in new.unfinished (drop u l)) same.used at
          ∙ ap (λ n. unfinished_in n (drop old.used (set cells (old.used + codeblocks) cell))) more
          ∙ ap (λ l. Some (octets_of l))
          (ap (take (codeblocks + 1)) (drop-set-add old.used cells codeblocks cell)
          ∙ take_more_set open_cells codeblocks cell (omega (arith, length-drop old.used cells, counted.as_many)))
          ∙ ap Some (sym (flat_map_more octets_in [] (take codeblocks open_cells) cell)
          ∙ ap (λ l. candidate ++ l) (octets_in_seven cell seven ∙ sym (shown_plain (length candidate) cell.octets)))
          ∙ sym (ap (λ o. after_add plain_showing old.cells (finished_of old cells) o cell.octets) opened_is ∙ cond-false _ _ _ some_free)

      stored : Stored old new cells now cell.octets
      stored =
          record {
            counted = kept old new cells now same (omega (arith, room, same.used, same.cells, ap added more)) counted (length-set cells (held_by old) cell) front;
            finished = ap₂ (λ w u. grouped w (take u now)) same.waiting same.used ∙ ap (grouped old.waiting) front;
            opened = opened;
          }

  pub adds_to : Adds old new
  adds_to =
      let is = ap added is_open in
      record {
        finished = same;
        begun = is_open ∙ sym (ap Some is);
        free = omega (arith, is);
        more = more ∙ sym (ap (λ n. Some (n + 1)) is);
        answer = answered;
        stored = λ cells cell counted seven. stored cells counted cell seven;
      }

pub adds : (old new : Counts) (codeblocks : ℕ) → new.cells ≡ old.cells → new.used ≡ old.used → new.waiting ≡ old.waiting → old.unfinished ≡ Some codeblocks →
    old.used + codeblocks < old.cells → new.unfinished ≡ Some (codeblocks + 1) → Adds old new
adds old new codeblocks cells used waiting begun room more = adds_to old new (record { cells = cells; used = used; waiting = waiting }) codeblocks begun room more

pub adds_unopened : (old : Counts) → old.unfinished ≡ None → AddsNone old old NoCandidateOpen
adds_unopened old none =
    record {
      reason = ap (add_counted (old.cells - held_by old)) none;
      same = refl;
      answer = λ cells counted. ap (λ u. add_answer old.cells (finished_of old cells) (unfinished_in u (drop old.used cells))) none;
      kept = λ cells octets counted.
          ap (λ u. after_add plain_showing old.cells (finished_of old cells) (unfinished_in u (drop old.used cells)) octets) none
          ∙ sym (ap (λ u. unfinished_in u (drop old.used cells)) none);
    }

pub adds_full : (old : Counts) (codeblocks : ℕ) → old.unfinished ≡ Some codeblocks → old.cells ≤ old.used + codeblocks → AddsNone old old NoFreeSpace
adds_full old codeblocks begun full =
    record {
      reason = ap (add_counted (old.cells - held_by old)) begun ∙ cond-true _ _ _ (eq-eqb (old.cells - held_by old) 0 (omega (arith, full, ap added begun)));
      same = refl;
      answer = λ cells counted. ap (add_answer old.cells (finished_of old cells)) (opened_is cells) ∙ cond-true _ _ _ (none_free cells counted);
      kept = λ cells octets counted.
          ap (λ o. after_add plain_showing old.cells (finished_of old cells) o octets) (opened_is cells) ∙ cond-true _ _ _ (none_free cells counted) ∙ sym (opened_is cells);
    }
  where
    opened_is : (cells : List Cell) → opened_of old cells ≡ Some (octets_of (take codeblocks (drop old.used cells)))
    opened_is cells = ap (λ n. unfinished_in n (drop old.used cells)) begun

    none_free : (cells : List Cell) → Counted old cells → eqb (free_space old.cells (finished_of old cells) (Some (octets_of (take codeblocks (drop old.used cells))))) 0 ≡ true
    none_free cells counted =
        ap (λ o. eqb (free_space old.cells (finished_of old cells) o) 0) (sym (opened_is cells))
        ∙ eq-eqb (free_space old.cells (finished_of old cells) (opened_of old cells)) 0 (omega (arith, free_cells old cells counted, ap added begun))

module _ (old new : Counts) (codeblocks : ℕ) (cells_same : new.cells ≡ old.cells) (used_stopped : new.used ≡ stopped (old.used + codeblocks))
    (waiting_stopped : new.waiting ≡ stopped (old.waiting + 1)) (closed : new.unfinished ≡ None) (is_open : old.unfinished ≡ Some codeblocks) (some : 0 < codeblocks) where
  module _ (cells : List Cell) (counted : Counted old cells) where
    within : old.used + codeblocks ≤ old.cells
    within = omega (arith, counted.within, ap added is_open)

    used_more : new.used ≡ old.used + codeblocks
    used_more = omega (arith, used_stopped, within, counted.most)

    one_more : new.waiting ≡ old.waiting + 1
    one_more = omega (arith, waiting_stopped, within, counted.few, counted.most)

    abbrev candidate : Candidate
    candidate = octets_of (take codeblocks (drop old.used cells))

    its_opened : opened_of old cells ≡ Some candidate
    its_opened = ap (λ n. unfinished_in n (drop old.used cells)) is_open

    not_empty : 0 < length candidate
    not_empty = omega (arith, within, length_octets_take codeblocks (drop old.used cells) (omega (arith, within, counted.as_many, length-drop old.used cells)))

    finish_answered_so : finish_answer (opened_of old cells) ≡ Ok tt
    finish_answered_so = ap finish_answer its_opened ∙ finish_answered candidate not_empty

    module _ (cell : Cell) (same : cell.octets ≡ (get_or cells old.used blank).octets) (noted : cell.codeblocks ≡ codeblocks) where
      abbrev noted_cells : List Cell
      noted_cells = set cells old.used cell

      abbrev last : List Cell
      last = take codeblocks (cell ∷ drop (old.used + 1) cells)

      all_cells : take new.used noted_cells ≡ take old.used cells ++ last
      all_cells =
          ap (λ n. take n noted_cells) used_more ∙ take-add old.used codeblocks noted_cells
          ∙ ap (λ l. l ++ take codeblocks (drop old.used noted_cells)) (take-set-le old.used cells old.used cell (omega arith))
          ∙ ap (λ l. take old.used cells ++ take codeblocks l) (drop-set cells old.used cell (omega (arith, within, counted.as_many)))

      last_octets : octets_of last ≡ candidate
      last_octets =
          same_octets codeblocks cell (get_or cells old.used blank) (drop (old.used + 1) cells) (octets_alike cell (get_or cells old.used blank) same)
          ∙ ap (λ l. octets_of (take codeblocks l)) (sym (drop_more cells old.used blank (omega (arith, within, counted.as_many))))
        where
          octets_alike : (x y : Cell) → x.octets ≡ y.octets → octets_in x ≡ octets_in y
          octets_alike x y e = ap (λ l. octets_in (record { octets = l; codeblocks = 0 })) e

      last_behind : Behind old.waiting (take old.used cells) last
      last_behind =
          let first = first_count_take codeblocks cell (drop (old.used + 1) cells) some in
          let long = length-take-le codeblocks (cell ∷ drop (old.used + 1) cells) (omega (arith, within, counted.as_many, length-drop (old.used + 1) cells)) in
          behind last (omega (arith, first, noted)) (first ∙ noted ∙ sym long) old.waiting (take old.used cells) counted.whole

      more_waiting : new.waiting ≡ suc old.waiting
      more_waiting = one_more ∙ add-one old.waiting

      noted_so : Noted old new cells noted_cells
      noted_so =
          record {
            counted = record {
              as_many = length-set cells old.used cell ∙ counted.as_many ∙ sym cells_same;
              most = omega (arith, counted.most, cells_same);
              within = omega (arith, within, used_more, cells_same, ap added closed);
              few = omega (arith, counted.few, used_more, one_more, some);
              whole = ap₂ parted more_waiting all_cells ∙ last_behind.whole;
            };
            finished =
                ap₂ grouped more_waiting all_cells ∙ last_behind.candidates ∙ ap (λ c. finished_of old cells ++ c ∷ []) last_octets
                ∙ sym (ap (finished_after_finish (finished_of old cells)) its_opened ∙ last_finished (finished_of old cells) candidate not_empty);
            opened = ap (λ u. unfinished_in u (drop new.used noted_cells)) closed ∙ sym (ap open_after_finish its_opened ∙ none_open candidate not_empty);
          }

  pub finishes : Finishes old new codeblocks
  finishes =
      record {
        cells = cells_same;
        used = used_stopped;
        waiting = waiting_stopped;
        unfinished = closed;
        begun = is_open;
        some = some;
        first = λ cells counted. omega (arith, within cells counted);
        answer = finish_answered_so;
        noted = λ cells cell counted same noted. noted_so cells counted cell same noted;
      }

-- no candidate is open, or an empty one
finishes_none : (old : Counts) (why : Refusal) (still : Option Candidate) → finish_counted old.unfinished ≡ Err why → ((cells : List Cell) → opened_of old cells ≡ still) → finish_answer still ≡ Err why →
    ((finished : List Candidate) → finished_after_finish finished still ≡ finished) → open_after_finish still ≡ still → FinishesNone old old why
finishes_none old why still reason is refused finished stays =
    record {
      reason = reason;
      same = refl;
      answer = λ cells counted. ap finish_answer (is cells) ∙ refused;
      finished = λ cells counted. ap (finished_after_finish (finished_of old cells)) (is cells) ∙ finished (finished_of old cells);
      opened = λ cells counted. ap open_after_finish (is cells) ∙ stays ∙ sym (is cells);
    }

pub finishes_unopened : (old : Counts) → old.unfinished ≡ None → FinishesNone old old NoCandidateOpen
finishes_unopened old none = finishes_none old NoCandidateOpen None (ap finish_counted none) (λ cells. ap (λ u. unfinished_in u (drop old.used cells)) none) refl (λ finished. refl) refl

pub finishes_empty : (old : Counts) → old.unfinished ≡ Some 0 → FinishesNone old old CandidateEmpty
finishes_empty old none = finishes_none old CandidateEmpty (Some []) (ap finish_counted none) (λ cells. ap (λ u. unfinished_in u (drop old.used cells)) none) refl (λ finished. refl) refl

-- what an add and a finish cite
pub ruleset adding = (adds, adds_unopened, adds_full)

pub ruleset finishing = (finishes, finishes_unopened, finishes_empty)
