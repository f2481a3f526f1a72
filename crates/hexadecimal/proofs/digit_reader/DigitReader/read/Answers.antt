-- One more byte is read. Assumes nothing.
use Rattle.std.proofs.Common.{◌∷◌, [], ◌++◌, sym, subst, ◌∙◌}
use Rattle.hexadecimal.specs.Reading.{Reads, Writes}
use Rattle.hexadecimal.proofs.OctetByOctet.{pair_is}
use Rattle.hexadecimal.proofs.DigitByDigit.{bad_behind_half, behind_unreadable, good_behind_half}
use Rattle.hexadecimal.proofs.digit_reader.DigitReader.read.Goals as goal

pub returns-in_ok-keep-in-Some-clause-text : goal.returns-in_ok-keep-in-Some-clause-text
returns-in_ok-keep-in-Some-clause-text c text reads =
    let most = c.args.self.now.most in
    let octets = c.args.self.now.octets.items in
    let high = c.in-Half.high in
    let half = subst (λ p. Reads p most octets text) c.in-Half.is reads in
    let step = c.in_ok-keep-in-Some.ensures in
    let octet_is = sym (pair_is high c.args.byte 0) ∙ sym c.octet_value.ensures ∙ c.in-Some.is in
    subst (λ m. Writes m c.keep.new.self.octets.items (text ++ c.args.byte ∷ [])) (sym step.most)
    (good_behind_half most octets text high c.args.byte c.in-Some.octet _ half octet_is step.kept)

pub returns-in-None-clause-text : goal.returns-in-None-clause-text
returns-in-None-clause-text c text reads =
    let most = c.args.self.now.most in
    let octets = c.args.self.now.octets.items in
    let high = c.in-Half.high in
    let half = subst (λ p. Reads p most octets text) c.in-Half.is reads in
    bad_behind_half most octets text high c.args.byte half (sym (pair_is high c.args.byte 0) ∙ sym c.octet_value.ensures ∙ c.in-None.is)

pub returns-in-Unreadable-clause-text : goal.returns-in-Unreadable-clause-text
returns-in-Unreadable-clause-text c text reads =
    let most = c.args.self.now.most in
    let octets = c.args.self.now.octets.items in
    let bad = subst (λ p. Reads p most octets text) c.in-Unreadable.is reads in
    subst (λ p. Reads p most octets (text ++ c.args.byte ∷ [])) (sym c.in-Unreadable.is) (behind_unreadable most octets text c.args.byte bad)
