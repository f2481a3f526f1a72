-- A CLTU that is written into memory of its length. Assumes nothing.
use Rattle.std.proofs.Common.{◌≡◌, ℕ, Bool, true, false, cond, List, [], ◌++◌, length, take, drop, Ok, Err, Result, Some, nat_lt, refl, sym, ap, ◌∙◌, subst, append-nil, arith}
use Rattle.std.proofs.lemmas.Bool.Decides.{nat_tests}
use Rattle.std.proofs.lemmas.List.{take_at, drop_all}
use Rattle.refusals.specs.declared.Refusal.{Refusal}
use Rattle.refusals.specs.declared.Refusal.TheVariants.{FrameLength, MemoryTooShort}
use Rattle.cltu.specs.declared.Sender.{Sender}
use Rattle.cltu.specs.Limit.{codeblocks_allowed}
use Rattle.cltu.specs.Writing.{frame_refused, sent_cltu, cltu_octets, length_answer, writing_answer, memory_after}
use Rattle.pass_lines.specs.Given.{if_sent}

module _ (sender : Sender) (frame memory : List ℕ) (octets : ℕ) (sent : Ok octets ≡ length_answer sender (length frame)) (whole : octets ≡ length (sent_cltu sender frame)) (room : length memory ≡ octets) where
  abbrev refused : Bool
  refused = frame_refused (codeblocks_allowed sender.limit) (length frame)

  not_refused : (b : Bool) → refused ≡ b → refused ≡ false
  not_refused true e = let no : Ok octets ≡ Err FrameLength = sent ∙ ap (λ b. cond b (Err FrameLength) (Ok (cltu_octets (length frame)))) e in cc
  not_refused false e = e

  enough : nat_lt (length memory) (length (sent_cltu sender frame)) ≡ false
  enough = let same : length memory ≡ length (sent_cltu sender frame) = room ∙ whole in grind (arith, nat_tests)

  is_written : writing_answer sender frame memory ≡ Ok (length (sent_cltu sender frame))
  is_written =
      ap (λ b. cond b (Err FrameLength) (cond (nat_lt (length memory) (length (sent_cltu sender frame))) (Err MemoryTooShort) (Ok (length (sent_cltu sender frame))))) (not_refused refused refl)
      ∙ ap (λ b. cond b (Err MemoryTooShort) (Ok (length (sent_cltu sender frame)))) enough

  pub in_memory : (result : Result ℕ Refusal) (after rest : List ℕ) (n : ℕ) → result ≡ writing_answer sender frame memory → after ≡ memory_after sender frame memory result → n ≡ octets
      → Ok (Some (take n (after ++ rest))) ≡ if_sent (sent_cltu sender frame) (length_answer sender (length frame))
  in_memory result after rest n answer is all =
      let cltu = sent_cltu sender frame in
      let done : after ≡ cltu =
      is ∙ ap (memory_after sender frame memory) (answer ∙ is_written) ∙ ap (λ l. cltu ++ l) (drop_all (length cltu) memory (omega (arith, room, whole))) ∙ append-nil cltu in
      ap (λ l. Ok (Some (take n (l ++ rest)))) done ∙ ap (λ l. Ok (Some l)) (take_at cltu rest n (omega (arith, all, whole))) ∙ ap (if_sent cltu) sent
