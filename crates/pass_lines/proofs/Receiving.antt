-- Symbols that are received one after the other. Assumes nothing.
use Rattle.std.proofs.Common.{◌≡◌, ℕ, suc, ◌+◌, ◌-◌, ◌<◌, ◌≤◌, Bool, not, cond, ◌==◌, List, [], ◌∷◌, ◌++◌, length, take, get_or, refl, sym, ap, ap₂, ◌∙◌, append-nil, append_assoc, length-append, vec_items, arith}
use Rattle.std.specs.Global.{Vec}
use Rattle.std.specs.List.{flat_map, list_any}
use Rattle.std.proofs.lemmas.Grind.{flat_map-append}
use Rattle.std.proofs.lemmas.List.{take_more, map-append}
use Rattle.bch.specs.Bits.{octet_bits, bits_of}
use Rattle.reception.specs.Runs.{idle}
use Rattle.pass_lines.specs.Cltus.{octets_of_each}
use Rattle.pass_lines.specs.Symbols.{with_guard, inverted_at}
use Rattle.pass_lines.specs.Received.{Receives}
use Rattle.pass_lines.specs.declared.symbols.Symbols.{Symbols}

module _ (wrong : List ℕ) where
  pub length-inverted_at : (place : ℕ) (s : List Bool) → length (inverted_at wrong place s) ≡ length s
  length-inverted_at place [] = refl
  length-inverted_at place (bit ∷ s) = ap suc (length-inverted_at (place + 1) s)

  pub inverted_at-append : (place : ℕ) (s t : List Bool) → inverted_at wrong place (s ++ t) ≡ inverted_at wrong place s ++ inverted_at wrong (place + length s) t
  inverted_at-append place [] t =
      let same : place ≡ place + 0 = omega arith in
      ap (λ n. inverted_at wrong n t) same
  inverted_at-append place (bit ∷ s) t =
      let next : place + 1 + length s ≡ place + suc (length s) = omega arith in
      ap (λ l. cond (list_any (λ one. one == place) wrong) (not bit) bit ∷ l)
      (inverted_at-append (place + 1) s t ∙ ap (λ n. inverted_at wrong (place + 1) s ++ inverted_at wrong n t) next)

pub nothing_received : (s : Symbols) → Receives [] s s
nothing_received s = record { wrong = refl; received = sym (append-nil s.received.items) }

pub received_then : (x y : List Bool) (a b c : Symbols) → Receives x a b → Receives y b c → Receives (x ++ y) a c
received_then x y a b c first second =
    let wrong = a.wrong.now in
    let before = a.received.items in
    let n = length before in
    let place : length b.received.items ≡ n + length x =
    ap length first.received ∙ length-append before (inverted_at wrong n x) ∙ ap (λ m. n + m) (length-inverted_at wrong n x) in
    record {
      wrong = second.wrong ∙ first.wrong;
      received =
          second.received
          ∙ ap (λ w. b.received.items ++ inverted_at w (length b.received.items) y) first.wrong
          ∙ ap₂ (λ l m. l ++ inverted_at wrong m y) first.received place
          ∙ append_assoc before (inverted_at wrong n x) (inverted_at wrong (n + length x) y)
          ∙ ap (λ l. before ++ l) (sym (inverted_at-append wrong n x y));
    }

pub received_as : (x y : List Bool) (a b : Symbols) → x ≡ y → Receives x a b → Receives y a b
received_as x y a b same is = record { wrong = is.wrong; received = is.received ∙ ap (λ l. a.received.items ++ inverted_at a.wrong.now (length a.received.items) l) same }

pub one_more_bit : (bits : List Bool) (i : ℕ) (d : Bool) (a b c : Symbols) → i < length bits → Receives (take i bits) a b → Receives (get_or bits i d ∷ []) b c → Receives (take (i + 1) bits) a c
one_more_bit bits i d a b c within first second =
    received_as _ _ a c (sym (take_more bits i d within)) (received_then (take i bits) (get_or bits i d ∷ []) a b c first second)

pub one_more_octet : (octets : List ℕ) (i d : ℕ) (bits : List Bool) (a b c : Symbols) → i < length octets → bits ≡ octet_bits (get_or octets i d) → Receives (bits_of (take i octets)) a b → Receives bits b c → Receives (bits_of (take (i + 1) octets)) a c
one_more_octet octets i d bits a b c within is first second =
    let one = get_or octets i d in
    let more : bits_of (take i octets) ++ bits ≡ bits_of (take (i + 1) octets) =
    ap (λ l. bits_of (take i octets) ++ l) (is ∙ sym (append-nil (octet_bits one))) ∙ sym (flat_map-append octet_bits (take i octets) (one ∷ [])) ∙ ap bits_of (sym (take_more octets i d within)) in
    received_as _ _ a c more (received_then (bits_of (take i octets)) bits a b c first second)

pub one_more_idle_bit : (first bit : Bool) (count i : ℕ) (a b c : Symbols) → i < count
    → (done : List Bool) × (done ++ idle bit (count - i) ≡ idle first count) × Receives done a b
    → Receives (bit ∷ []) b c
    → (done : List Bool) × (done ++ idle (not bit) (count - (i + 1)) ≡ idle first count) × Receives done a c
one_more_idle_bit first bit count i a b c within (done, is, before) one =
    let left : suc (count - (i + 1)) ≡ count - i = omega arith in (
      done ++ bit ∷ [],
      append_assoc done (bit ∷ []) (idle (not bit) (count - (i + 1))) ∙ ap (λ n. done ++ idle bit n) left ∙ is,
      received_then done (bit ∷ []) a b c before one,
    )

pub all_idle : (first bit : Bool) (count i : ℕ) (a b : Symbols) → count ≤ i → (done : List Bool) × (done ++ idle bit (count - i) ≡ idle first count) × Receives done a b → Receives (idle first count) a b
all_idle first bit count i a b past (done, is, received) =
    let none : 0 ≡ count - i = omega arith in
    received_as _ _ a b (sym (append-nil done) ∙ ap (λ n. done ++ idle bit n) none ∙ is) received

pub one_more_cltu : (first : Bool) (guard : ℕ) (cltus : List (Vec ℕ)) (i : ℕ) (cltu : Vec ℕ) (octets : List ℕ) (a b c d : Symbols) → i < length cltus → cltu ≡ get_or cltus i cltu → octets ≡ vec_items cltu
    → Receives (flat_map (with_guard first guard) (octets_of_each (take i cltus))) a b → Receives (idle first guard) b c → Receives (bits_of octets) c d
    → Receives (flat_map (with_guard first guard) (octets_of_each (take (i + 1) cltus))) a d
one_more_cltu first guard cltus i cltu octets a b c d within is same before quiet sent =
    let sending = with_guard first guard in
    let so_far = octets_of_each (take i cltus) in
    let one = vec_items cltu in
    let items : octets_of_each (take (i + 1) cltus) ≡ so_far ++ one ∷ [] =
    ap octets_of_each (take_more cltus i cltu within ∙ ap (λ x. take i cltus ++ x ∷ []) (sym is)) ∙ map-append vec_items (take i cltus) (cltu ∷ []) in
    let more : flat_map sending so_far ++ (idle first guard ++ bits_of octets) ≡ flat_map sending (octets_of_each (take (i + 1) cltus)) =
    ap (λ l. flat_map sending so_far ++ l) (ap (λ o. idle first guard ++ bits_of o) same ∙ sym (append-nil (sending one))) ∙ sym (flat_map-append sending so_far (one ∷ [])) ∙ ap (flat_map sending) (sym items) in
    received_as _ _ a d more (received_then (flat_map sending so_far) (idle first guard ++ bits_of octets) a b d before (received_then (idle first guard) (bits_of octets) b c d quiet sent))
