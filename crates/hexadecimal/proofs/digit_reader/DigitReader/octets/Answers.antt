-- A half octet is none. Assumes nothing.
use Rattle.std.proofs.Common.{sym, ap, subst, inl, inr}
use Rattle.std.specs.Option.{option_map}
use Rattle.hexadecimal.specs.Kept.{kept}
use Rattle.hexadecimal.specs.Reading.{Reads}
use Rattle.hexadecimal.proofs.DigitByDigit.{half_is_none, unreadable_is_none}
use Rattle.hexadecimal.proofs.digit_reader.DigitReader.octets.Goals as goal

pub returns-in-Half : goal.returns-in-Half
returns-in-Half c text reads =
    let most = c.args.self.now.most in
    let octets = c.args.self.now.octets.items in
    ap (option_map (kept most)) (sym (elim c.in-Half.is [
      | inl half ↦ half_is_none most octets text half.0 (subst (λ p. Reads p most octets text) half.1 reads)
      | inr unreadable ↦ unreadable_is_none text (subst (λ p. Reads p most octets text) unreadable reads).unreadable
    ]))
