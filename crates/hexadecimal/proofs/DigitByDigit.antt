-- What a text writes whose digits come one by one. Assumes nothing.
use Rattle.std.proofs.Common.{◌≡◌, ℕ, zero, suc, List, [], ◌∷◌, ◌++◌, Option, Some, None, refl, sym, ap, ◌∙◌, append_assoc, append-nil}
use Rattle.std.specs.Option.{option_map}
use Rattle.hex.specs.Hex.{hex_digit_value}
use Rattle.hexadecimal.specs.Text.{octets_written}
use Rattle.hexadecimal.specs.Kept.{kept}
use Rattle.hexadecimal.specs.Reading.{Writes, NothingMends, Reads}
use Rattle.hexadecimal.specs.declared.digit_reader.Progress.TheVariants.{Half, Unreadable}
use Rattle.hexadecimal.proofs.OctetByOctet.{octet_of, before, an_octet_more, nothing_writes}

kept_of_nothing : (most : Option ℕ) → [] ≡ kept most []
kept_of_nothing None = refl
kept_of_nothing (Some zero) = refl
kept_of_nothing (Some (suc n)) = refl

-- no octets are what is kept where nothing was read
pub nothing_read : (most : Option ℕ) (octets : List ℕ) → octets ≡ [] → Writes most octets []
nothing_read most octets none = ([], nothing_writes, none ∙ kept_of_nothing most)

map_nothing : (o : Option (List ℕ)) → o ≡ option_map (λ xs. [] ++ xs) o
map_nothing None = refl
map_nothing (Some xs) = refl

map_front : (x : ℕ) (front : List ℕ) (o : Option (List ℕ)) → option_map (λ xs. x ∷ xs) (option_map (λ xs. front ++ xs) o) ≡ option_map (λ xs. (x ∷ front) ++ xs) o
map_front x front None = refl
map_front x front (Some xs) = refl

in_front : (o : Option ℕ) (w joined behind : Option (List ℕ)) (all : List ℕ) → before o w ≡ Some all
    → ((front : List ℕ) → w ≡ Some front → joined ≡ option_map (λ xs. front ++ xs) behind) → before o joined ≡ option_map (λ xs. all ++ xs) behind
in_front None w joined behind all e go = cc
in_front (Some x) None joined behind all e go = cc
in_front (Some x) (Some front) joined behind all e go =
    let same : x ∷ front ≡ all = cc in
    ap (option_map (λ xs. x ∷ xs)) (go front refl) ∙ map_front x front behind ∙ ap (λ a. option_map (λ xs. a ++ xs) behind) same

-- behind whole octets a text goes on as it would alone
pub behind_whole : (text further all : List ℕ) → octets_written text ≡ Some all → octets_written (text ++ further) ≡ option_map (λ xs. all ++ xs) (octets_written further)
behind_whole [] further all e = let none : [] ≡ all = cc (sym nothing_writes ∙ e) in map_nothing (octets_written further) ∙ ap (λ a. option_map (λ xs. a ++ xs) (octets_written further)) none
behind_whole (high ∷ []) further all e = cc
behind_whole (high ∷ low ∷ text) further all e =
    an_octet_more high low (text ++ further)
    ∙ in_front (octet_of (hex_digit_value high) (hex_digit_value low)) (octets_written text) (octets_written (text ++ further)) (octets_written further) all (sym (an_octet_more high low text) ∙ e)
    (λ front is. behind_whole text further front is)

-- nor is a text that nothing mends
pub unreadable_is_none : (text : List ℕ) → ((further : List ℕ) → octets_written (text ++ further) ≡ None) → octets_written text ≡ None
unreadable_is_none text none = ap octets_written (sym (append-nil text)) ∙ none []

module _ (most : Option ℕ) (octets text : List ℕ) (byte : ℕ) where
  -- a half octet is none
  pub half_is_none : Reads (Half byte) most octets text → octets_written text ≡ None
  half_is_none (front, is, (all, written, keeps)) = ap octets_written is ∙ behind_whole front (byte ∷ []) all written

  -- a half octet, and a byte with which it makes none
  pub bad_behind_half : (low : ℕ) → Reads (Half byte) most octets text → octet_of (hex_digit_value byte) (hex_digit_value low) ≡ None → Reads Unreadable most octets (text ++ low ∷ [])
  bad_behind_half low (front, is, (all, written, keeps)) none = record {
    unreadable = λ further.
        ap (λ t. octets_written ((t ++ low ∷ []) ++ further)) is
        ∙ ap octets_written (append_assoc (front ++ byte ∷ []) (low ∷ []) further ∙ append_assoc front (byte ∷ []) (low ∷ further))
        ∙ behind_whole front (byte ∷ low ∷ further) all written
        ∙ ap (option_map (λ xs. all ++ xs)) (an_octet_more byte low further ∙ ap (λ o. before o (octets_written further)) none);
    front = front;
    behind = byte ∷ low ∷ [];
    is = ap (λ t. t ++ low ∷ []) is ∙ append_assoc front (byte ∷ []) (low ∷ []);
    keeps = (all, written, keeps);
  }

  -- and whatever comes behind what nothing mends
  pub behind_unreadable : NothingMends most octets text → NothingMends most octets (text ++ byte ∷ [])
  behind_unreadable bad = record {
    unreadable = λ further. ap octets_written (append_assoc text (byte ∷ []) further) ∙ bad.unreadable (byte ∷ further);
    front = bad.front;
    behind = bad.behind ++ byte ∷ [];
    is = ap (λ t. t ++ byte ∷ []) bad.is ∙ append_assoc bad.front bad.behind (byte ∷ []);
    keeps = bad.keeps;
  }

  -- a half octet, and the digit that makes it whole
  pub good_behind_half : (low octet : ℕ) (after : List ℕ) → Reads (Half byte) most octets text → octet_of (hex_digit_value byte) (hex_digit_value low) ≡ Some octet
      → ((all : List ℕ) → octets ≡ kept most all → after ≡ kept most (all ++ octet ∷ [])) → Writes most after (text ++ low ∷ [])
  good_behind_half low octet after (front, is, (all, written, keeps)) octet_is more = (
    all ++ octet ∷ [],
    ap (λ t. octets_written (t ++ low ∷ [])) is ∙ ap octets_written (append_assoc front (byte ∷ []) (low ∷ []))
        ∙ behind_whole front (byte ∷ low ∷ []) all written
        ∙ ap (option_map (λ xs. all ++ xs)) (an_octet_more byte low [] ∙ ap (λ o. before o (octets_written [])) octet_is ∙ ap (before (Some octet)) nothing_writes),
    more all keeps,
  )
