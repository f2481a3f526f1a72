-- A CLTU within the allowance is received: its start is found, each codeblock is added, and the tail finishes the candidate. Assumes nothing.
use Rattle.std.proofs.Common.{◌≡◌, ℕ, suc, ◌+◌, ◌-◌, ◌*◌, ◌/◌, ◌^◌, ◌<◌, ◌≤◌, min, Bool, true, false, cond, eqb, List, [], ◌∷◌, ◌++◌, length, take, drop, Some, Option, sym, refl, ap, ◌∙◌, subst, ap₂, ⊎_elim, append_assoc, append-nil, div-one, arith, shr-shr}
use Rattle.std.specs.Int.Digits.{AllBelowBase}
use Rattle.std.specs.List.{flat_map}
use Rattle.std.proofs.ByRecursion.{All-take, All-drop}
use Rattle.std.proofs.lemmas.List.{length-append, length-take-le, length-drop, take-append-drop, nil_from_length}
use Rattle.std.proofs.lemmas.Bool.{cases_lt, lt-leb, ne_eqb}
use Rattle.bch.specs.declared.Mode.{Mode}
use Rattle.bch.specs.Polynomial.{◌⊕◌, weight}
use Rattle.bch.specs.Codeblock.{sent}
use Rattle.bch.specs.Reception.{wrong_bits}
use Rattle.hold.specs.Candidates.{Candidate, Showing, shown_from, open_codeblocks, after_add, free_space}
use Rattle.reception.specs.declared.Reason.TheVariants.{Long, Full}
use Rattle.reception.specs.Symbols.{bit_value}
use Rattle.reception.specs.Searching.{next_count, next_window, is_start, start_tolerance}
use Rattle.reception.specs.Decoding.{Settings, Held, opening, adding, abandoning, releasing, added, room, reading, begun, goes_on, ends, counting_in, decoded_by, decoded, report}
use Rattle.reception.specs.Rules.{SEARCH, DECODE, state, Event, carrier_up, carrier_down, symbol, release, at_window, at_decoded, quietly}
use Rattle.reception.specs.Runs.{after_events, reports_of}
use Rattle.reception.specs.Allowance.{value_from, value, block_tolerance, BlocksWithin, wrong_in}
use Rattle.reception.specs.Finished.{announced, new_candidates}
use Rattle.reception.proofs.Decoding.{seven_more, length_shown_from}
use Rattle.reception.proofs.Windows.{not_yet_full}
use Rattle.reception.proofs.Starts.{Follows, goes_in, window_below, no_false_start, start_is_found}
use Rattle.reception.proofs.Brings.{Brings, part, brings_nothing, Released, released_none, released_more, Goes, goes_then, word_comes}
use Rattle.reception.proofs.Verdicts.{value_below, accepted_within}

-- the bits so far are the higher bits of the whole
prefix_of : (xs : List Bool) (q : ℕ) → value_from q xs / 2 ^ length xs ≡ q
prefix_of [] q = div-one q
prefix_of (x ∷ xs) q =
    let half : (2 * q + bit_value x) / 2 ≡ q = half_of q x in
    ap (λ n. value_from (2 * q + bit_value x) xs / 2 ^ n) (one_more (length xs)) ∙ sym (shr-shr (value_from (2 * q + bit_value x) xs) (length xs) 1)
    ∙ ap (λ y. y / 2) (prefix_of xs (2 * q + bit_value x)) ∙ half
  where
    half_of : (q : ℕ) (x : Bool) → (2 * q + bit_value x) / 2 ≡ q
    half_of q true = omega arith
    half_of q false = omega arith

    one_more : (n : ℕ) → suc n ≡ n + 1
    one_more n = omega arith

module _ (settings : Settings) (showing : Showing) where
  abbrev M : Mode
  M = settings.mode

  pub record Started (h : Held) (count window : ℕ) (es : List Event) : Type 0 where
    pub hold : Held
    pub released : Released h hold
    pub goes : Goes settings showing (state (SEARCH count window) h) es (state (DECODE begun) (opening hold)) [] []

  module _ (b : Bool) (r c : ℕ) (small : r < 2 ^ 16) (right : weight 16 (r ⊕ 0xEB90) ≤ start_tolerance M) where
    found_at_last : (i p count window : ℕ) (x : Bool) → i + 1 ≡ 16 → count ≡ min 16 (c + i) → 2 * p + bit_value x ≡ r → Follows b i (min c (16 - i)) p window →
        is_start M (next_count count) (next_window window x) ≡ true
    found_at_last i p count window x last counted all f =
        let full : next_count count ≡ 16 = omega arith in
        let sixteen : suc i ≡ 16 = omega arith in
        let none : min c (16 - suc i) ≡ 0 = omega arith in
        let g = goes_in b i p window c x (omega arith) f in
        ap (λ n. is_start M n (next_window window x)) full
        ∙ start_is_found M b r small right (next_window window x) (window_below window x)
        (subst (λ n. Follows b 16 0 n (next_window window x)) all (subst (λ n. Follows b n 0 (2 * p + bit_value x) (next_window window x)) sixteen (subst (λ n. Follows b (suc i) n (2 * p + bit_value x) (next_window window x)) none g)))

    not_found_before : (i p count window : ℕ) (x : Bool) (xs : List Bool) → 1 ≤ length xs → i + suc (length xs) ≡ 16 → count ≡ min 16 (c + i) → value_from (2 * p + bit_value x) xs ≡ r → Follows b i (min c (16 - i)) p window →
        is_start M (next_count count) (next_window window x) ≡ false
    not_found_before i p count window x xs more long counted all f =
        let g = goes_in b i p window c x (omega arith) f in
        ⊎_elim (λ lt. not_yet_full M (next_count count) (next_window window x) lt)
        (λ ge.
        let whole : min c (16 - suc i) ≡ 16 - suc i = omega arith in
        let left : length xs ≡ 16 - suc i = omega arith in
        no_false_start M b r small right (suc i) (2 * p + bit_value x) (next_count count) (next_window window x) (omega arith) (omega arith)
        (sym (prefix_of xs (2 * p + bit_value x)) ∙ ap₂ (λ (y n : ℕ). y / 2 ^ n) all left) (window_below window x)
        (subst (λ n. Follows b (suc i) n (2 * p + bit_value x) (next_window window x)) whole g))
        (cases_lt (next_count count) 16)

    pub start_comes : (xs : List Bool) (es : List Event) (h : Held) (i p count window : ℕ) → Brings xs es → 1 ≤ length xs → i + length xs ≡ 16 → count ≡ min 16 (c + i) → value_from p xs ≡ r → Follows b i (min c (16 - i)) p window →
        Started h count window es
    start_comes [] es h i p count window br some long counted all f = absurd (omega arith)
    start_comes (x ∷ xs) [] h i p count window br some long counted all f = absurd br
    start_comes (x ∷ xs) (carrier_up ∷ es) h i p count window br some long counted all f =
        let w = start_comes (x ∷ xs) es h i p count window br some long counted all f in
        record { hold = w.hold; released = w.released; goes = record { after = w.goes.after; news = w.goes.news; reports = w.goes.reports } }
    start_comes (x ∷ xs) (carrier_down ∷ es) h i p count window br some long counted all f = absurd br
    start_comes (x ∷ xs) (release ∷ es) h i p count window br some long counted all f =
        let w = start_comes (x ∷ xs) es (releasing h) i p count window br some long counted all f in
        record { hold = w.hold; released = released_more w.released; goes = record { after = w.goes.after; news = w.goes.news; reports = w.goes.reports } }
    start_comes (x ∷ []) (symbol y ∷ []) h i p count window br some long counted all f =
        let o = ap (λ v. at_window h (next_count count) (next_window window v) (is_start M (next_count count) (next_window window v))) br.0 ∙ ap (at_window h (next_count count) (next_window window x)) (found_at_last i p count window x long counted all f) in
        record { hold = h; released = released_none h; goes = record { after = ap (λ u. u.after) o; news = append-nil _ ∙ ap (λ u. announced h.opened u.reports) o; reports = append-nil _ ∙ ap (λ u. u.reports) o } }
    start_comes (x ∷ []) (symbol y ∷ e ∷ es) h i p count window br some long counted all f = absurd br.1
    start_comes (x ∷ z ∷ zs) (symbol y ∷ es) h i p count window br some long counted all f =
        let o = ap (λ v. at_window h (next_count count) (next_window window v) (is_start M (next_count count) (next_window window v))) br.0 ∙ ap (at_window h (next_count count) (next_window window x)) (not_found_before i p count window x (z ∷ zs) (omega arith) long counted all f) in
        let w = start_comes (z ∷ zs) es h (suc i) (2 * p + bit_value x) (next_count count) (next_window window x) br.1 (omega arith) (omega arith) (omega arith) all (goes_in b i p window c x (omega arith) f) in
        record {
          hold = w.hold;
          released = w.released;
          goes =
              record {
                after = ap (λ u. after_events settings showing u.after es) o ∙ w.goes.after;
                news = ap (λ u. announced h.opened u.reports ++ new_candidates settings showing u.after es) o ∙ w.goes.news;
                reports = ap (λ u. u.reports ++ reports_of settings showing u.after es) o ∙ w.goes.reports;
              };
        }

  -- ---- codeblocks

  shown_append : (place : ℕ) (xs ys : List ℕ) → shown_from showing place (xs ++ ys) ≡ shown_from showing place xs ++ shown_from showing (place + length xs) ys
  shown_append place [] ys = ap (λ n. shown_from showing n ys) (sym (none place))
    where
      none : (n : ℕ) → n + 0 ≡ n
      none n = omega arith
  shown_append place (x ∷ xs) ys =
      ap (λ l. showing place x ∷ l) (shown_append (suc place) xs ys ∙ ap (λ n. shown_from showing (suc place) xs ++ shown_from showing n ys) (moved place (length xs)))
    where
      moved : (m n : ℕ) → suc m + n ≡ m + suc n
      moved m n = omega arith

  opened_after : (K : ℕ) (F : List Candidate) (o : Option Candidate) (candidate : Candidate) (octets : List ℕ) → o ≡ Some candidate → eqb (free_space K F o) 0 ≡ false →
      after_add showing K F o octets ≡ Some (candidate ++ shown_from showing (length candidate) octets)
  opened_after K F o candidate octets e =
      subst (λ o. eqb (free_space K F o) 0 ≡ false → after_add showing K F o octets ≡ Some (candidate ++ shown_from showing (length candidate) octets)) (sym e)
      (λ t. ap (λ full. cond full (Some candidate) (Some (candidate ++ shown_from showing (length candidate) octets))) t)

  pub room_kept : (h g : Held) → Released h g → room h ≤ room g
  room_kept h g r = omega (arith, r.capacity, r.less, ap open_codeblocks r.opened)

  accepted_goes_on : (g : Held) (n k : ℕ) (octets : List ℕ) (c : Bool) → n < settings.limit → 1 ≤ room g →
      counting_in settings showing g n k octets c ≡ goes_on (adding showing g octets) (reading 0 0 (suc n) (k + bit_value c))
  accepted_goes_on g n k octets c few free =
      ap₂ (λ (many full : Bool). cond many (ends (abandoning g) (report Long n k)) (cond full (ends (abandoning g) (report Full n k)) (goes_on (adding showing g octets) (reading 0 0 (suc n) (k + bit_value c)))))
      (lt-leb settings.limit n few) (ne_eqb (room g) 0 (λ z. omega arith))

  -- m codeblocks more in a candidate of n, k of them corrected, with so many wrong bits
  pub record BlocksIn (h : Held) (n m k wrong : ℕ) (candidate : Candidate) (octets : List ℕ) (es : List Event) : Type 0 where
    pub hold : Held
    pub codeblocks : ℕ
    pub corrections : ℕ
    pub counted : codeblocks ≡ n + m
    pub corrected : corrections ≡ k + wrong
    pub goes : Goes settings showing (state (DECODE (reading 0 0 n k)) h) es (state (DECODE (reading 0 0 codeblocks corrections)) hold) [] []
    pub opened : hold.opened ≡ Some (candidate ++ shown_from showing (length candidate) octets)

  blocks_none : (h : Held) (n k : ℕ) (candidate : Candidate) (octets : List ℕ) (es : List Event) → h.opened ≡ Some candidate → octets ≡ [] → es ≡ [] → BlocksIn h n 0 k 0 candidate octets es
  blocks_none h n k candidate octets es opened no-octets no-events =
      subst (λ l. BlocksIn h n 0 k 0 candidate octets l) (sym no-events)
      (record {
        hold = h;
        codeblocks = n;
        corrections = k;
        counted = omega arith;
        corrected = omega arith;
        goes = record { after = refl; news = refl; reports = refl };
        opened = opened ∙ ap Some (sym (ap (λ l. candidate ++ shown_from showing (length candidate) l) no-octets ∙ append-nil candidate));
      })

  seven_long : (octets : List ℕ) (n : ℕ) → 7 * suc n ≡ length octets → length (take 7 octets) ≡ 7
  seven_long octets n e = length-take-le 7 octets (omega arith)

  -- one codeblock is added
  block_added : (block : List Bool) (octets : List ℕ) (m : ℕ) (h g : Held) (n k : ℕ) → length block ≡ 64 → wrong_bits (sent (take 7 octets)) (value block) ≤ block_tolerance M → AllBelowBase 256 octets →
      7 * suc m ≡ length octets → n + suc m ≤ settings.limit → suc m ≤ room h → Released h g →
      (c : Bool) × (at_decoded (decoded settings showing g n k (value block)) ≡ quietly (DECODE (reading 0 0 (suc n) (k + bit_value c))) (adding showing g (take 7 octets)))
      × (bit_value c ≡ wrong_bits (sent (take 7 octets)) (value block))
  block_added block octets m h g n k long few octet all limit free released =
      let v = accepted_within M (take 7 octets) (seven_long octets m all, All-take (λ x. x < 256) 7 octets octet) (value block) (value_below block 64 long) few in
      (v.0, ap (λ w. at_decoded (decoded_by settings showing g n k w)) v.1 ∙ ap at_decoded (accepted_goes_on g n k (take 7 octets) v.0 (omega arith) (omega (arith, room_kept h g released))), v.2)

  -- what the rest needs
  added_more : (g : Held) (candidate : Candidate) (octets : List ℕ) → g.opened ≡ Some candidate → length octets ≡ 7 → 1 ≤ room g →
      ((adding showing g octets).opened ≡ Some (candidate ++ shown_from showing (length candidate) octets)) × (added (adding showing g octets) ≡ suc (added g)) × (room g ≤ suc (room (adding showing g octets)))
  added_more g candidate octets opened seven free =
      let next = candidate ++ shown_from showing (length candidate) octets in
      let o = opened_after g.capacity g.finished g.opened candidate octets opened (ne_eqb (room g) 0 (λ z. omega arith)) in
      let longer = length-append candidate (shown_from showing (length candidate) octets) ∙ ap (λ n. length candidate + n) (length_shown_from showing (length candidate) octets ∙ seven) in
      let one = ap open_codeblocks o ∙ seven_more (length next) (length candidate) longer ∙ ap suc (sym (ap open_codeblocks opened)) in
      (o, one, omega (arith, one))

  pub blocks_come : (blocks : List (List Bool)) (octets : List ℕ) (es : List Event) (h : Held) (n k : ℕ) (candidate : Candidate) → Brings (flat_map (λ block. block) blocks) es → BlocksWithin M octets blocks → AllBelowBase 256 octets →
      7 * length blocks ≡ length octets → n + length blocks ≤ settings.limit → length blocks ≤ room h → h.opened ≡ Some candidate →
      BlocksIn h n (length blocks) k (wrong_in octets blocks) candidate octets es
  blocks_come [] octets es h n k candidate br within octet all limit free opened = blocks_none h n k candidate octets es opened (nil_from_length octets (omega arith)) (brings_nothing es br)
  blocks_come (block ∷ blocks) octets es h n k candidate br within octet all limit free opened =
      let p = part es block (flat_map (λ b. b) blocks) br in
      let w = word_comes settings showing block p.front h (reading 0 0 n k) p.first (omega (arith, within.0)) (omega (arith, within.0)) in
      let g = w.hold in
      let one = block_added block octets (length blocks) h g n k within.0 within.1 octet all limit free w.released in
      let seven = take 7 octets in
      let c = one.0 in
      let next = adding showing g seven in
      let more = added_more g candidate seven (w.released.opened ∙ opened) (seven_long octets (length blocks) all) (omega (arith, room_kept h g w.released)) in
      let rest = blocks_come blocks (drop 7 octets) p.back next (suc n) (k + bit_value c) (candidate ++ shown_from showing (length candidate) seven) p.second within.2 (All-drop (λ x. x < 256) 7 octets octet)
      (omega (arith, length-drop 7 octets)) (omega arith) (omega (arith, more.2, room_kept h g w.released)) more.0 in
      record {
        hold = rest.hold;
        codeblocks = rest.codeblocks;
        corrections = rest.corrections;
        counted = omega (arith, rest.counted);
        corrected = omega (arith, rest.corrected, one.2);
        goes = goes_then settings showing {fs = p.front} {gs = p.back} p.whole
            (record { after = w.after ∙ ap (λ u. u.after) one.1; news = w.new ∙ ap (λ u. announced g.opened u.reports) one.1; reports = w.told ∙ ap (λ u. u.reports) one.1 }) rest.goes;
        opened = rest.opened ∙ ap Some (append_assoc candidate (shown_from showing (length candidate) seven) _ ∙ ap (λ l. candidate ++ l)
            (ap (λ n. shown_from showing (length candidate) seven ++ shown_from showing n (drop 7 octets)) (length-append candidate (shown_from showing (length candidate) seven) ∙ ap (λ n. length candidate + n) (length_shown_from showing (length candidate) seven))
            ∙ sym (shown_append (length candidate) seven (drop 7 octets)) ∙ ap (shown_from showing (length candidate)) (take-append-drop 7 octets)));
      }
