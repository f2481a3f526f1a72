-- A line without a newline. Assumes nothing.
use Rattle.std.proofs.Common.{◌≡◌, ℕ, ◌-◌, ◌<◌, ◌++◌, [], length, take, drop, get_or, refl, sym, subst, ap, ◌∙◌}
use Rattle.std.specs.Prelude.{IfSome}
use Rattle.std.specs.Io.KnownBytes.{Consumes}
use Rattle.std.specs.Io.BufRead.{take_through}
use Rattle.drive_lines.proofs.LastLine.{no_newline, last_differs, at_end}
use Rattle.drive_lines.proofs.printing.read_line.Goals as goal

pub returns-then-ne : goal.returns-then-ne
returns-then-ne g c =
    let read = c.in_ok-read_until.ensures in
    let line = c.read_until.new.buf.items in
    let input = g.R.Read.remaining c.args.input.now in
    let shown : c.deref.result.now ≡ line = c.deref.ensures.value in
    let empty = c.clear.ensures.items in
    let appended : drop (length c.clear.new.self.items) line ≡ line = ap (λ l. drop (length l) line) empty in
    let none = no_newline line
    (subst (λ l. (k d : ℕ) → k < length (take (length l - 1) l) → get_or (take (length l - 1) l) k d ≡ 10 → ⊥) appended read.stops)
    (subst (λ l. 0 < length l → get_or l (length l - 1) 0 ≡ 10 → ⊥) shown (last_differs c.deref.result.now c.last.result _ c.last.ensures.item.1 c.last.ensures.item.2 refl c.if-ne.ensures)) in (
      subst (Consumes input (g.R.Read.remaining c.read_until.new.self)) appended read.none_lost,
      none,
      at_end input (g.R.Read.remaining c.read_until.new.self) line
          (subst (λ l. IfSome input (λ octets. line ≡ l ++ take_through 10 octets)) empty read.bytes) read.rest none,
    )
