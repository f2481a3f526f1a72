-- Where the octets of a record stand, and what is read from them. Assumes nothing.
use Rattle.std.proofs.Common.{◌≡◌, ℕ, suc, ◌+◌, ◌-◌, ◌*◌, ◌%◌, ◌^◌, ◌<◌, ◌≤◌, Bool, List, [], ◌∷◌, ◌++◌, length, get_or, take, drop, sym, refl, ap, ◌∙◌, ap₂, add-zero, zero-add, arith}
use lib.Seq.{split_at}
use Rattle.std.specs.List.{flat_map}
use Rattle.std.proofs.lemmas.List.FromFn.{fill_by_all}
use Rattle.std.proofs.lemmas.Grind.{flat_map-append}
use Rattle.std.proofs.ByRecursion.{All-get_or}
use Rattle.std.proofs.lemmas.List.{append_assoc, length-append, length-take-le, drop_at, get_or-drop, get_or_append_left}
use Rattle.bch.specs.Bits.{bits_of}
use Rattle.pass_record.specs.Record.{octets_for, packed, four_octets, entry, entries, record_of, IsRecord, OneListOfSegments}
use Rattle.pass_record.specs.Reading.{number_at, unused, told_count, told_place, told_begin, told_size, told_segment, told_segments, RightEnd, RightEntry}
use Rattle.pass_record.proofs.Numbers.{number_read}
use Rattle.pass_record.proofs.Packing.{length_packed, unpacked, last_padded}

pub length_entries : (place : ℕ) (segments : List (List Bool)) → length (entries place segments) ≡ 8 * length segments
length_entries place [] = refl
length_entries place (s ∷ rest) =
    omega (arith, length-append (entry place s) (entries (place + length (packed s)) rest), length_entries (place + length (packed s)) rest)

pub entries_append : (place : ℕ) (xs ys : List (List Bool)) → entries place (xs ++ ys) ≡ entries place xs ++ entries (place + length (flat_map packed xs)) ys
entries_append place [] ys = ap (λ p. entries p ys) (sym (add-zero place))
entries_append place (x ∷ xs) ys =
    let next : place + length (packed x) + length (flat_map packed xs) ≡ place + length (packed x ++ flat_map packed xs) = omega (arith, length-append (packed x) (flat_map packed xs)) in
    ap (λ l. entry place x ++ l) (entries_append (place + length (packed x)) xs ys ∙ ap (λ p. entries (place + length (packed x)) xs ++ entries p ys) next)
    ∙ sym (append_assoc (entry place x) (entries (place + length (packed x)) xs) (entries (place + length (packed x ++ flat_map packed xs)) ys))

pub length_record_of : (segments : List (List Bool)) → length (record_of segments) ≡ length (flat_map packed segments) + 8 * length segments + 8
length_record_of segments =
    let numbers = four_octets (length segments) ++ four_octets (length (flat_map packed segments)) in
    omega (arith, length-append (flat_map packed segments) (entries 0 segments ++ numbers), length-append (entries 0 segments) numbers, length_entries 0 segments)

module _ (octets : List ℕ) (segments : List (List Bool)) (is : IsRecord octets segments) where
  abbrev symbols : List ℕ
  symbols = flat_map packed segments

  abbrev table : List ℕ
  table = entries 0 segments

  length_octets : length octets ≡ length symbols + 8 * length segments + 8
  length_octets = ap length is.layout ∙ length_record_of segments

  pub count_told : told_count octets ≡ length segments
  count_told =
      let before : length (symbols ++ table) ≡ length octets - 8 = omega (arith, length-append symbols table, length_entries 0 segments, length_octets) in
      ap (λ o. number_at o (length octets - 8)) (is.layout ∙ sym (append_assoc symbols table (four_octets (length segments) ++ four_octets (length symbols))))
      ∙ number_read (symbols ++ table) (four_octets (length symbols)) (length segments) (length octets - 8) (omega (arith, is.most, length_octets)) before

  pub place_told : told_place octets ≡ length symbols
  place_told =
      let front = (symbols ++ table) ++ four_octets (length segments) in
      let last = four_octets (length symbols) in
      let before : length front ≡ length octets - 4 = omega (arith, length-append (symbols ++ table) (four_octets (length segments)), length-append symbols table, length_entries 0 segments, length_octets) in
      let apart : octets ≡ front ++ (last ++ []) =
      is.layout ∙ sym (append_assoc symbols table (four_octets (length segments) ++ last)) ∙ sym (append_assoc (symbols ++ table) (four_octets (length segments)) last) in
      ap (λ o. number_at o (length octets - 4)) apart ∙ number_read front [] (length symbols) (length octets - 4) (omega (arith, is.most, length_octets)) before

  pub right_end : RightEnd octets
  right_end =
      record {
        least = omega (arith, length_octets);
        most = is.most;
        ends = omega (arith, length_octets, count_told, place_told);
      }

  module _ (i : ℕ) (h : i < length segments) where
    abbrev xs : List (List Bool)
    xs = take i segments

    abbrev s : List Bool
    s = get_or segments i []

    abbrev ys : List (List Bool)
    ys = drop (suc i) segments

    -- the place where the segment begins
    abbrev pub begin : ℕ
    begin = length (flat_map packed xs)

    parts : segments ≡ xs ++ s ∷ ys
    parts = split_at segments i [] h

    symbols_apart : symbols ≡ flat_map packed xs ++ (packed s ++ flat_map packed ys)
    symbols_apart = ap (flat_map packed) parts ∙ flat_map-append packed xs (s ∷ ys)

    length_symbols : length symbols ≡ begin + length (packed s) + length (flat_map packed ys)
    length_symbols =
        omega (arith, ap length symbols_apart, length-append (flat_map packed xs) (packed s ++ flat_map packed ys), length-append (packed s) (flat_map packed ys))

    size_most : length s ≤ 8 * length symbols
    size_most = omega (arith, length_symbols, length_packed s)

    after : List ℕ
    after = entries (0 + begin + length (packed s)) ys ++ (four_octets (length segments) ++ four_octets (length symbols))

    entry_apart : octets ≡ (symbols ++ entries 0 xs) ++ (entry (0 + begin) s ++ after)
    unfolding after
    entry_apart =
        let numbers = four_octets (length segments) ++ four_octets (length symbols) in
        let later = entries (0 + begin + length (packed s)) ys in
        is.layout
        ∙ ap (λ l. symbols ++ (l ++ numbers)) (ap (entries 0) parts ∙ entries_append 0 xs (s ∷ ys))
        ∙ ap (λ l. symbols ++ l) (append_assoc (entries 0 xs) (entry (0 + begin) s ++ later) numbers ∙ ap (λ l. entries 0 xs ++ l) (append_assoc (entry (0 + begin) s) later numbers))
        ∙ sym (append_assoc symbols (entries 0 xs) (entry (0 + begin) s ++ (later ++ numbers)))

    length_front : length (symbols ++ entries 0 xs) ≡ told_place octets + 8 * i
    length_front =
        omega (arith, length-append symbols (entries 0 xs), length_entries 0 xs, length-take-le i segments (omega arith), place_told)

    pub begin_told : told_begin octets i ≡ begin
    begin_told =
        let front = symbols ++ entries 0 xs in
        ap (λ o. number_at o (told_place octets + 8 * i)) (entry_apart ∙ ap (λ l. front ++ l) (append_assoc (four_octets (0 + begin)) (four_octets (length s)) after))
        ∙ number_read front (four_octets (length s) ++ after) (0 + begin) (told_place octets + 8 * i) (omega (arith, is.most, length_octets, length_symbols)) length_front
        ∙ zero-add begin

    pub size_told : told_size octets i ≡ length s
    size_told =
        let front = symbols ++ entries 0 xs in
        let first = four_octets (0 + begin) in
        let before : length (front ++ first) ≡ told_place octets + 8 * i + 4 = omega (arith, length-append front first, length_front) in
        ap (λ o. number_at o (told_place octets + 8 * i + 4))
        (entry_apart ∙ ap (λ l. front ++ l) (append_assoc first (four_octets (length s)) after) ∙ sym (append_assoc front first (four_octets (length s) ++ after)))
        ∙ number_read (front ++ first) after (length s) (told_place octets + 8 * i + 4) (omega (arith, is.most, length_octets, size_most)) before

    rest : List ℕ
    rest = flat_map packed ys ++ (table ++ (four_octets (length segments) ++ four_octets (length symbols)))

    begins_there : drop begin octets ≡ packed s ++ rest
    unfolding rest
    begins_there =
        let numbers = table ++ (four_octets (length segments) ++ four_octets (length symbols)) in
        ap (drop begin)
        (is.layout ∙ ap (λ l. l ++ numbers) symbols_apart ∙ append_assoc (flat_map packed xs) (packed s ++ flat_map packed ys) numbers
        ∙ ap (λ l. flat_map packed xs ++ l) (append_assoc (packed s) (flat_map packed ys) numbers))
        ∙ drop_at (flat_map packed xs) (packed s ++ (flat_map packed ys ++ numbers)) begin refl

    pub segment_told : s ≡ told_segment octets i
    segment_told =
        sym (ap₂ (λ n p. take n (bits_of (drop p octets))) size_told begin_told ∙ ap (λ o. take (length s) (bits_of o)) begins_there ∙ unpacked s rest)

    last_octet : (n : ℕ) → n ≡ length s → 0 < n → get_or octets (begin + octets_for n - 1) 0 % 2 ^ unused n ≡ 0
    last_octet n e some =
        let m = octets_for (length s) in
        let there : begin + octets_for n - 1 ≡ begin + (m - 1) = omega arith in
        ap₂ (λ p u. get_or octets p 0 % 2 ^ u) there (ap unused e)
        ∙ ap (λ x. x % 2 ^ unused (length s))
        (sym (get_or-drop begin octets (m - 1) 0) ∙ ap (λ o. get_or o (m - 1) 0) begins_there ∙ get_or_append_left (packed s) rest 0 (m - 1) (omega (arith, length_packed s)))
        ∙ last_padded s (omega arith)

    pub right_entry : RightEntry octets i begin
    right_entry =
        let some : 0 < told_size octets i = omega (arith, size_told, All-get_or (λ segment. 0 < length segment) segments i [] h is.some) in
        record {
          begins = begin_told;
          some = some;
          within = omega (arith, place_told, size_told, length_symbols, length_packed s);
          padded = last_octet (told_size octets i) size_told some;
        }

  pub segments_are_told : segments ≡ told_segments octets
  segments_are_told = fill_by_all (told_segment octets) segments (told_count octets) [] (sym count_told) (λ k h. segment_told k (omega (arith, count_told)))

pub one_list_of_segments : (octets : List ℕ) → OneListOfSegments octets
one_list_of_segments octets a b is-a is_b = segments_are_told octets a is-a ∙ sym (segments_are_told octets b is_b)
