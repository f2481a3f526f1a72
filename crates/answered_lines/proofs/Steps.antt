-- What lines have taken, an octet later and at the end. Assumes nothing.
use Rattle.std.proofs.Common.{◌≡◌, ℕ, ◌+◌, List, [], ◌∷◌, ◌++◌, length, refl, sym, ap, subst, ◌∙◌, append_assoc, append-nil, length-append, arith}
use Rattle.std.proofs.lemmas.Grind.{flat_map-append}
use Rattle.std.proofs.lemmas.List.Sums.{sum_by-append}
use Rattle.hexadecimal.specs.declared.digit_reader.DigitReader.{DigitReader}
use Rattle.hexadecimal.specs.Reading.{HasRead}
use Rattle.answered_lines.specs.Meaning.{Meaning}
use Rattle.answered_lines.specs.Lines.{lines_of, NoNewline}
use Rattle.answered_lines.specs.Printed.{line_text, line_count, answers, counted, end_line, printed}
use Rattle.answered_lines.specs.declared.lines.Last.TheVariants.{Newline}
use Rattle.answered_lines.specs.declared.lines.AnsweredLines.{AnsweredLines}
use Rattle.answered_lines.specs.Taken.{waiting, CameLast, Reads, HasTaken, IsDone, AnswersLine}
use Rattle.answered_lines.proofs.LinesOf.{newline_ends, no_newline_append, open_lines, ends}

-- one line more
answers_more : (meaning : Meaning) (done : List (List ℕ)) (line : List ℕ) → answers meaning (done ++ line ∷ []) ≡ answers meaning done ++ line_text meaning line
answers_more meaning done line = flat_map-append (line_text meaning) done (line ∷ []) ∙ ap (λ t. answers meaning done ++ t) (append-nil (line_text meaning line))

counted_more : (meaning : Meaning) (done : List (List ℕ)) (line : List ℕ) → counted meaning (done ++ line ∷ []) ≡ counted meaning done + line_count meaning line
counted_more meaning done line = omega (arith, sum_by-append (line_count meaning) done (line ∷ []))

length_more : (done : List (List ℕ)) (line : List ℕ) → length (done ++ line ∷ []) ≡ length done + 1
length_more done line = omega (arith, length-append done (line ∷ []))

-- reading on
pub reads_on : (more further : List ℕ) (a b c : DigitReader) → Reads more a b → Reads further b c → Reads (more ++ further) a c
reads_on more further a b c first second =
    (λ line has. subst (HasRead c) (append_assoc line more further) (second.0 (line ++ more) (first.0 line has)), second.1 ∙ first.1)

module _ {A : Type 0} (meaning_of : A → Meaning) (before after : AnsweredLines A) (octets text : List ℕ) (taken : HasTaken meaning_of before octets text) where
  -- a newline comes, and the open line is answered
  pub newline_taken : (same : after.answering ≡ before.answering) (more : List ℕ)
      → AnswersLine meaning_of before after taken.line more → HasTaken meaning_of after (octets ++ 10 ∷ []) (text ++ more)
  newline_taken same more is =
      let meaning = meaning_of before.answering in
      let same_meaning : meaning_of after.answering ≡ meaning = ap meaning_of same in
      record {
        done = taken.done ++ taken.line ∷ [];
        line = [];
        splits = λ further.
            ap lines_of (append_assoc octets (10 ∷ []) further) ∙ taken.splits (10 ∷ further)
            ∙ ap (λ l. taken.done ++ l) (newline_ends before.last taken.line further taken.no_newline taken.came_last)
            ∙ sym (append_assoc taken.done (taken.line ∷ []) (lines_of further))
            ∙ ap (λ last. (taken.done ++ taken.line ∷ []) ++ lines_of (waiting last ++ further)) (sym is.last);
        no_newline = tt;
        came_last = subst (λ last. CameLast last []) (sym is.last) refl;
        has_read = is.has_read;
        most = is.most ∙ taken.most ∙ ap (λ m. m.most) (sym same_meaning);
        lines_are = is.lines_more ∙ ap (λ n. n + 1) taken.lines_are ∙ sym (length_more taken.done taken.line);
        counted_are = is.counted_more ∙ ap (λ n. n + line_count meaning taken.line) taken.counted_are ∙ sym (counted_more meaning taken.done taken.line)
            ∙ ap (λ m. counted m (taken.done ++ taken.line ∷ [])) (sym same_meaning);
        text_is = ap (λ t. text ++ t) is.text_is ∙ ap (λ t. t ++ line_text meaning taken.line) taken.text_is ∙ sym (answers_more meaning taken.done taken.line)
            ∙ ap (λ m. answers m (taken.done ++ taken.line ∷ [])) (sym same_meaning);
      }

  -- another octet comes: these octets more of the line are read
  pub octet_taken : (x : ℕ) (more : List ℕ) → Reads more before.reader after.reader → more ++ waiting after.last ≡ waiting before.last ++ x ∷ [] → NoNewline more
      → CameLast after.last (taken.line ++ more) → after.answering ≡ before.answering → after.lines ≡ before.lines → after.counted ≡ before.counted
      → HasTaken meaning_of after (octets ++ x ∷ []) (text ++ [])
  octet_taken x more reads joins none last same same_lines same_counted =
      let same_meaning : meaning_of after.answering ≡ meaning_of before.answering = ap meaning_of same in
      let line = taken.line in
      let open_is : (line ++ more) ++ waiting after.last ≡ (line ++ waiting before.last) ++ x ∷ [] =
      append_assoc line more (waiting after.last) ∙ ap (λ l. line ++ l) joins ∙ sym (append_assoc line (waiting before.last) (x ∷ [])) in
      record {
        done = taken.done;
        line = line ++ more;
        splits = λ further.
            ap lines_of (append_assoc octets (x ∷ []) further) ∙ taken.splits (x ∷ further)
            ∙ ap (λ l. taken.done ++ lines_of l) (sym (append_assoc (line ++ waiting before.last) (x ∷ []) further) ∙ ap (λ l. l ++ further) (sym open_is));
        no_newline = no_newline_append line more taken.no_newline none;
        came_last = last;
        has_read = reads.0 line taken.has_read;
        most = reads.1 ∙ taken.most ∙ ap (λ m. m.most) (sym same_meaning);
        lines_are = same_lines ∙ taken.lines_are;
        counted_are = same_counted ∙ taken.counted_are ∙ ap (λ m. counted m taken.done) (sym same_meaning);
        text_is = append-nil text ∙ taken.text_is ∙ ap (λ m. answers m taken.done) (sym same_meaning);
      }

  at_end : lines_of octets ≡ taken.done ++ open_lines before.last taken.line
  at_end = ap lines_of (sym (append-nil octets)) ∙ taken.splits [] ∙ ap (λ l. taken.done ++ lines_of l) (append-nil (taken.line ++ waiting before.last))
      ∙ ap (λ l. taken.done ++ l) (ends before.last taken.line taken.no_newline taken.came_last)

  -- the end comes, and no line is open
  pub done_already : before.last ≡ Newline → IsDone meaning_of before octets (text ++ [])
  done_already is =
      let meaning = meaning_of before.answering in
      let lines : lines_of octets ≡ taken.done = at_end ∙ ap (λ last. taken.done ++ open_lines last taken.line) is ∙ append-nil taken.done in
      record {
        lines_are = taken.lines_are ∙ ap length (sym lines);
        counted_are = taken.counted_are ∙ ap (counted meaning) (sym lines);
        text_is = append-nil text ∙ taken.text_is ∙ ap (answers meaning) (sym lines);
      }

  -- or the open line is answered
  pub done_now : (reader : DigitReader) (more : List ℕ) → open_lines before.last taken.line ≡ (taken.line ++ waiting before.last) ∷ [] → after.answering ≡ before.answering
      → AnswersLine meaning_of (record before { reader = reader }) after (taken.line ++ waiting before.last) more → IsDone meaning_of after octets (text ++ more)
  done_now reader more opened same is =
      let meaning = meaning_of before.answering in
      let same_meaning : meaning_of after.answering ≡ meaning = ap meaning_of same in
      let whole = taken.line ++ waiting before.last in
      let lines : lines_of octets ≡ taken.done ++ whole ∷ [] = at_end ∙ ap (λ l. taken.done ++ l) opened in
      record {
        lines_are = is.lines_more ∙ ap (λ n. n + 1) taken.lines_are ∙ sym (length_more taken.done whole) ∙ ap length (sym lines);
        counted_are = is.counted_more ∙ ap (λ n. n + line_count meaning whole) taken.counted_are ∙ sym (counted_more meaning taken.done whole)
            ∙ ap (counted meaning) (sym lines) ∙ ap (λ m. counted m (lines_of octets)) (sym same_meaning);
        text_is = ap (λ t. text ++ t) is.text_is ∙ ap (λ t. t ++ line_text meaning whole) taken.text_is ∙ sym (answers_more meaning taken.done whole)
            ∙ ap (answers meaning) (sym lines) ∙ ap (λ m. answers m (lines_of octets)) (sym same_meaning);
      }

-- what is answered, with the line for the end behind it, is all that is printed
pub printed_is : {A : Type 0} (meaning_of : A → Meaning) (after : AnsweredLines A) (octets text : List ℕ) → IsDone meaning_of after octets text
    → text ++ end_line after.lines after.counted ≡ printed (meaning_of after.answering) octets
printed_is meaning_of after octets text done =
    let meaning = meaning_of after.answering in
    let lines = lines_of octets in
    ap (λ t. t ++ end_line after.lines after.counted) done.text_is ∙ ap (λ n. answers meaning lines ++ end_line n after.counted) done.lines_are
    ∙ ap (λ n. answers meaning lines ++ end_line (length lines) n) done.counted_are
