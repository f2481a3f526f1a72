-- The octet of two digits. Assumes nothing.
use Rattle.std.proofs.Common.{sym, ◌∙◌}
use Rattle.hexadecimal.proofs.OctetByOctet.{octet_read, none_read}
use Rattle.hexadecimal.proofs.digit_reader.octet_value.Goals as goal

pub returns-in_err-octet : goal.returns-in_err-octet
returns-in_err-octet c =
    c.from_residual.ensures
    ∙ none_read c.args.high c.args.low c.from_hex.result c.from_hex.ensures (sym c.ok.ensures.value ∙ c.in_err-octet.was)

pub returns : goal.returns
returns c =
    octet_read c.args.high c.args.low c.from_hex.result c.from_hex.ensures c.in_ok-octet.field-0
    (sym c.ok.ensures.value ∙ c.in_ok-octet.was)
