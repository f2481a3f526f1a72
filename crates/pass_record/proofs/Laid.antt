-- A record whose entries are right so far, entry by entry. Assumes nothing.
use Rattle.std.proofs.Common.{◌≡◌, ℕ, ◌+◌, ◌-◌, ◌*◌, ◌%◌, ◌^◌, ◌<◌, ◌≤◌, Bool, List, [], ◌∷◌, ◌++◌, length, get_or, take, drop, sym, ap, ◌∙◌, subst, ap₂, zero-add, arith, take-add}
use Rattle.std.specs.List.{flat_map, AllByRecursion}
use Rattle.std.proofs.lemmas.List.FromFn.{length-map-range_with_len, take-map-range_with_len, map-range_with_len_more}
use Rattle.std.proofs.lemmas.Grind.{flat_map-append}
use Rattle.std.proofs.ByRecursion.{All-push}
use Rattle.std.proofs.lemmas.List.{append-nil, length-drop, length-take-le, drop-drop, get_or-drop, take-append-drop, take_all}
use Rattle.pass_record.specs.Record.{octets_for, packed, four_octets, entry, entries, IsRecord}
use Rattle.pass_record.specs.Reading.{unused, told_count, told_place, told_begin, told_size, told_segment, first_segments, told_segments, RightEnd, RightEntry}
use Rattle.pass_record.proofs.Numbers.{number_written}
use Rattle.pass_record.proofs.Packing.{length_first_bits, repacked}
use Rattle.pass_record.proofs.Places.{entries_append, count_told, place_told, right_entry, segments_are_told}

-- the first i entries are right, and the segments that they tell end at the place
pub record LaidTo (octets : List ℕ) (i place : ℕ) : Type 0 where
  pub within : place ≤ told_place octets
  pub symbols : take place octets ≡ flat_map packed (first_segments octets i)
  pub table : take (8 * i) (drop (told_place octets) octets) ≡ entries 0 (first_segments octets i)
  pub some : AllByRecursion (λ segment. 0 < length segment) (first_segments octets i)

module _ (octets : List ℕ) (fits : (k : ℕ) → get_or octets k 0 < 256) (end : RightEnd octets) where
  place_most : told_place octets ≤ length octets
  place_most = omega (arith, end.ends)

  -- where the segments told so far end
  pub laid_length : (i place : ℕ) → LaidTo octets i place → length (flat_map packed (first_segments octets i)) ≡ place
  laid_length i place laid = ap length (sym laid.symbols) ∙ length-take-le place octets (omega (arith, laid.within, place_most))

  module _ (i place : ℕ) (h : i < told_count octets) (laid : LaidTo octets i place) (right : RightEntry octets i place) where
    abbrev n : ℕ
    n = told_size octets i

    abbrev m : ℕ
    m = octets_for n

    abbrev before : List (List Bool)
    before = first_segments octets i

    more_segments : first_segments octets (i + 1) ≡ before ++ told_segment octets i ∷ []
    more_segments = map-range_with_len_more (told_segment octets) 0 i i (zero-add i)

    enough : n ≤ 8 * length (drop (told_begin octets i) octets)
    enough = omega (arith, length-drop (told_begin octets i) octets, right.begins, right.within, place_most)

    zeros : get_or (drop (told_begin octets i) octets) (m - 1) 0 % 2 ^ unused n ≡ 0
    zeros =
        let there : told_begin octets i + (m - 1) ≡ place + m - 1 = omega (arith, right.begins, right.some) in
        ap (λ x. x % 2 ^ unused n) (get_or-drop (told_begin octets i) octets (m - 1) 0 ∙ ap (λ p. get_or octets p 0) there) ∙ right.padded

    fits_there : (k : ℕ) → get_or (drop (told_begin octets i) octets) k 0 < 256
    fits_there k = subst (λ x. x < 256) (sym (get_or-drop (told_begin octets i) octets k 0)) (fits (told_begin octets i + k))

    size : length (told_segment octets i) ≡ n
    size = length_first_bits (drop (told_begin octets i) octets) n fits_there right.some enough zeros

    segment_octets : packed (told_segment octets i) ≡ take m (drop place octets)
    segment_octets = repacked (drop (told_begin octets i) octets) n fits_there right.some enough zeros ∙ ap (λ p. take m (drop p octets)) right.begins

    more_symbols : take (place + m) octets ≡ flat_map packed (first_segments octets (i + 1))
    more_symbols =
        take-add place m octets ∙ ap₂ ◌++◌ laid.symbols (sym (append-nil (packed (told_segment octets i)) ∙ segment_octets))
        ∙ sym (ap (flat_map packed) more_segments ∙ flat_map-append packed before (told_segment octets i ∷ []))

    entry_octets : entry (0 + length (flat_map packed before)) (told_segment octets i) ≡ take 8 (drop (8 * i) (drop (told_place octets) octets))
    entry_octets =
        let at = told_place octets + 8 * i in
        let begin : 0 + length (flat_map packed before) ≡ told_begin octets i = zero-add _ ∙ laid_length i place laid ∙ sym right.begins in
        ap₂ (λ p q. four_octets p ++ four_octets q) begin size
        ∙ ap₂ ◌++◌ (number_written octets at fits (omega (arith, end.ends))) (number_written octets (at + 4) fits (omega (arith, end.ends)))
        ∙ ap (λ l. take 4 (drop at octets) ++ take 4 l) (sym (drop-drop 4 at octets)) ∙ sym (take-add 4 4 (drop at octets))
        ∙ ap (take 8) (sym (drop-drop (8 * i) (told_place octets) octets))

    more_table : take (8 * (i + 1)) (drop (told_place octets) octets) ≡ entries 0 (first_segments octets (i + 1))
    more_table =
        let next : 8 * (i + 1) ≡ 8 * i + 8 = omega arith in
        let all = drop (told_place octets) octets in
        ap (λ k. take k all) next ∙ take-add (8 * i) 8 all
        ∙ ap₂ ◌++◌ laid.table (sym (append-nil (entry (0 + length (flat_map packed before)) (told_segment octets i)) ∙ entry_octets))
        ∙ sym (ap (entries 0) more_segments ∙ entries_append 0 before (told_segment octets i ∷ []))

    pub laid_more : LaidTo octets (i + 1) (place + m)
    laid_more =
        record {
          within = right.within;
          symbols = more_symbols;
          table = more_table;
          some = subst (AllByRecursion (λ segment. 0 < length segment)) (sym more_segments) (All-push (λ segment. 0 < length segment) before (told_segment octets i) laid.some (omega (arith, size, right.some)));
        }

  -- where all entries are right and the segments end at the first entry, the octets are the record
  pub laid_all : (place : ℕ) → LaidTo octets (told_count octets) place → place ≡ told_place octets → IsRecord octets (told_segments octets)
  laid_all place laid e =
      let p = told_place octets in
      let count = told_count octets in
      let first : take p octets ≡ flat_map packed (told_segments octets) = ap (λ k. take k octets) (sym e) ∙ laid.symbols in
      let from : p + 8 * count ≡ length octets - 8 = omega (arith, end.ends) in
      let next : length octets - 8 + 4 ≡ length octets - 4 = omega (arith, end.least) in
      let last = drop (length octets - 4) octets in
      let numbers : drop (length octets - 8) octets ≡ four_octets (length (told_segments octets)) ++ four_octets (length (flat_map packed (told_segments octets))) =
      sym (take-append-drop 4 (drop (length octets - 8) octets))
      ∙ ap₂ ◌++◌ (sym (number_written octets (length octets - 8) fits (omega (arith, end.least))))
      (drop-drop 4 (length octets - 8) octets ∙ ap (λ k. drop k octets) next ∙ sym (take_all 4 last (omega (arith, length-drop (length octets - 4) octets)))
      ∙ sym (number_written octets (length octets - 4) fits (omega (arith, end.least))))
      ∙ ap₂ (λ a b. four_octets a ++ four_octets b) (sym (length-map-range_with_len (told_segment octets) 0 count)) (sym (laid_length count place laid ∙ e)) in
      record {
        layout =
            sym (take-append-drop p octets)
            ∙ ap₂ ◌++◌ first (sym (take-append-drop (8 * count) (drop p octets)) ∙ ap₂ ◌++◌ laid.table (drop-drop (8 * count) p octets ∙ ap (λ k. drop k octets) from ∙ numbers));
        most = end.most;
        some = laid.some;
      }

  -- in a record every entry is right, and the segments end at the first entry
  module _ (segments : List (List Bool)) (is : IsRecord octets segments) where
    so_far : (i place : ℕ) → i ≤ told_count octets → LaidTo octets i place → length (flat_map packed (take i segments)) ≡ place
    so_far i place h laid =
        ap (λ l. length (flat_map packed (take i l))) (segments_are_told octets segments is) ∙ ap (λ l. length (flat_map packed l)) (take-map-range_with_len (told_segment octets) 0 (told_count octets) i h)
        ∙ laid_length i place laid

    pub entry_right : (i place : ℕ) → i < told_count octets → LaidTo octets i place → RightEntry octets i place
    entry_right i place h laid = subst (RightEntry octets i) (so_far i place (omega arith) laid) (right_entry octets segments is i (omega (arith, count_told octets segments is)))

    pub ends_there : (place : ℕ) → LaidTo octets (told_count octets) place → place ≡ told_place octets
    ends_there place laid =
        sym (laid_length (told_count octets) place laid) ∙ ap (λ l. length (flat_map packed l)) (sym (segments_are_told octets segments is)) ∙ sym (place_told octets segments is)
