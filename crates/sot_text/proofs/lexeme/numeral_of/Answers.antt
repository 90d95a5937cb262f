use Rattle.std.proofs.lemmas.List.{take_rest}
use Rattle.sot_text.proofs.Digits.{mantissa_read}
use Rattle.sot_text.proofs.lexeme.numeral_of.Goals as goal

pub returns-else-decimals-eq0-clause-mantissa : goal.returns-else-decimals-eq0-clause-mantissa
returns-else-decimals-eq0-clause-mantissa c =
    let whole = c.read_digits-whole in
    let decimals = c.read_decimals-decimals in
    mantissa_read c.args.bytes.now _ whole.result.len decimals.result.len whole.result.value decimals.result.value
    whole.ensures.len (take_rest c.args.bytes.now whole.result.len) decimals.ensures.len whole.ensures.value decimals.ensures.value
