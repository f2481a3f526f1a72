-- What a text writes, an octet after the other. Assumes nothing.
use Rattle.std.proofs.Common.{◌≡◌, ℕ, ◌+◌, ◌*◌, ◌%◌, List, [], ◌∷◌, length, slice_index_or, Option, Some, None, unwrap_or, Result, Ok, Err, inl, inr, refl, sym, ap, ◌∙◌, arith}
use Rattle.std.specs.Option.{option_map}
use Rattle.std.specs.Result.{result_ok}
use Rattle.std.proofs.lemmas.Bool.{cases_eq}
use Rattle.hex.specs.Hex.{decode_pairs, decode_sized, digit_or_error, hex_digit_value, pair_value, ◌>>=◌}
use Rattle.hex.specs.declared.error.FromHexError.{FromHexError}
use Rattle.hex.proofs.HexLemmas.{decode_of-even, decode_of-odd}
use Rattle.hexadecimal.specs.Text.{octets_written}

-- the octet of the values of two digits, where both are digits
abbrev pub octet_of : Option ℕ → Option ℕ → Option ℕ
octet_of None low = None
octet_of (Some high) None = None
octet_of (Some high) (Some low) = Some (high * 16 + low)

-- an octet before further octets, where all are written
abbrev pub before : Option ℕ → Option (List ℕ) → Option (List ℕ)
before None further = None
before (Some x) further = option_map (λ xs. x ∷ xs) further

nothing_before : (o : Option ℕ) → before o None ≡ None
nothing_before None = refl
nothing_before (Some x) = refl

-- wherever two digits stand, their values decide
pair_of : (a b i : ℕ) (high low : Option ℕ)
    → result_ok (digit_or_error a i high >>= (λ h. digit_or_error b (i + 1) low >>= (λ l. Ok (h * 16 + l)))) ≡ octet_of high low
pair_of a b i None low = refl
pair_of a b i (Some high) None = refl
pair_of a b i (Some high) (Some low) = refl

pub pair_is : (a b i : ℕ) → result_ok (pair_value a b i) ≡ octet_of (hex_digit_value a) (hex_digit_value b)
pair_is a b i = pair_of a b i (hex_digit_value a) (hex_digit_value b)

both : (octet : Result ℕ FromHexError) (further : Result (List ℕ) FromHexError)
    → result_ok (octet >>= (λ x. further >>= (λ xs. Ok (x ∷ xs)))) ≡ before (result_ok octet) (result_ok further)
both (Err e) further = refl
both (Ok x) (Err e) = refl
both (Ok x) (Ok xs) = refl

pairs_step : (a b i : ℕ) (text : List ℕ)
    → result_ok (decode_pairs i (a ∷ b ∷ text)) ≡ before (octet_of (hex_digit_value a) (hex_digit_value b)) (result_ok (decode_pairs (i + 2) text))
unfolding decode_pairs
pairs_step a b i text = both (pair_value a b i) (decode_pairs (i + 2) text) ∙ ap (λ o. before o (result_ok (decode_pairs (i + 2) text))) (pair_is a b i)

-- where in a text the digits stand matters for no more than the error
anywhere : (i j : ℕ) (text : List ℕ) → result_ok (decode_pairs i text) ≡ result_ok (decode_pairs j text)
unfolding decode_pairs
anywhere i j [] = refl
anywhere i j (a ∷ []) = refl
anywhere i j (a ∷ b ∷ text) =
    pairs_step a b i text ∙ ap (before (octet_of (hex_digit_value a) (hex_digit_value b))) (anywhere (i + 2) (j + 2) text) ∙ sym (pairs_step a b j text)

odd : (i : ℕ) (text : List ℕ) → length text % 2 ≡ 1 → result_ok (decode_pairs i text) ≡ None
unfolding decode_pairs
odd i [] is = absurd (omega (arith, is))
odd i (a ∷ []) is = refl
odd i (a ∷ b ∷ text) is =
    let o = octet_of (hex_digit_value a) (hex_digit_value b) in
    pairs_step a b i text ∙ ap (before o) (odd (i + 2) text (omega (arith, is))) ∙ nothing_before o

by_pairs : (text : List ℕ) → octets_written text ≡ result_ok (decode_pairs 0 text)
by_pairs text = elim (cases_eq (length text % 2) 1) [
  | inl is ↦ ap result_ok (decode_of-odd text is) ∙ sym (odd 0 text is)
  | inr differs ↦ ap result_ok (decode_of-even text (omega (arith, differs)))
]

-- two digits and a text write the digits' octet and what the text writes
pub an_octet_more : (a b : ℕ) (text : List ℕ)
    → octets_written (a ∷ b ∷ text) ≡ before (octet_of (hex_digit_value a) (hex_digit_value b)) (octets_written text)
an_octet_more a b text =
    by_pairs (a ∷ b ∷ text) ∙ pairs_step a b 0 text
    ∙ ap (before (octet_of (hex_digit_value a) (hex_digit_value b))) (anywhere 2 0 text ∙ sym (by_pairs text))

pub nothing_writes : octets_written [] ≡ Some []
unfolding decode_pairs
nothing_writes = refl

-- ---- two digits alone

module _ (octet : Result ℕ FromHexError) where
  abbrev alone : Option (List ℕ)
  alone = result_ok (octet >>= (λ x. Ok (x ∷ [])))

octet_alone : (octet : Result ℕ FromHexError) (one : List ℕ) → alone octet ≡ Some one → Some (slice_index_or one 0 0) ≡ result_ok octet
octet_alone (Err e) one is = cc is
octet_alone (Ok x) one is = ap (λ xs. Some (slice_index_or (unwrap_or xs []) 0 0)) (sym is)

none_alone : (octet : Result ℕ FromHexError) → alone octet ≡ None → None ≡ result_ok octet
none_alone (Err e) is = refl
none_alone (Ok x) is = cc is

module _ (a b : ℕ) (read : Result (List ℕ) FromHexError) (is : read ≡ decode_sized (a ∷ b ∷ []) 1) where
  pub octet_read : (one : List ℕ) → result_ok read ≡ Some one → Some (slice_index_or one 0 0) ≡ result_ok (pair_value a b 0)
  unfolding decode_pairs
  octet_read one some = octet_alone (pair_value a b 0) one (ap result_ok (sym is) ∙ some)

  pub none_read : result_ok read ≡ None → None ≡ result_ok (pair_value a b 0)
  unfolding decode_pairs
  none_read none = none_alone (pair_value a b 0) (ap result_ok (sym is) ∙ none)
