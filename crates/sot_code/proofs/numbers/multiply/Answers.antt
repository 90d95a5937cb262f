use Rattle.std.proofs.Common.{ap, ◌∙◌}
use Rattle.sot_lang.specs.Values.{word}
use Rattle.sot_code.proofs.Words.{product_is}
use Rattle.sot_code.proofs.numbers.multiply.Goals as goal

pub returns : goal.returns
returns c = c.fit.ensures ∙ ap (λ z. word c.args.at z) (product_is c.args.a c.args.b c.ranges.a c.ranges.b)
