use Rattle.std.proofs.Common.{◌∙◌, sym}
use Rattle.sot_iv.specs.Ends.{side}
use Rattle.sot_iv.proofs.Wide.{word, quotients_are}
use Rattle.sot_iv.proofs.ends.quotient_of.Goals as goal

pub returns : goal.returns
returns c =
    let z = rw (word c.args.c c.ranges.c, word c.args.d c.ranges.d) at (sym c.has_zero.ensures ∙ c.if-has_zero.false) in
    let e = rw (word c.args.a c.ranges.a, word c.args.b c.ranges.b, word c.args.c c.ranges.c, word c.args.d c.ranges.d) at c.quotient_at.ensures in
    e ∙ quotients_are c.args.at (side c.args.a c.args.b) (side c.args.c c.args.d) z

pub returns-then-c-gt0 : goal.returns-then-c-gt0
returns-then-c-gt0 c =
    let z = rw (word c.args.c c.ranges.c, word c.args.d c.ranges.d) at (sym c.has_zero.ensures ∙ c.if-has_zero.false) in
    let e = rw (word c.args.a c.ranges.a, word c.args.b c.ranges.b, word c.args.c c.ranges.c, word c.args.d c.ranges.d) at c.quotient_above.ensures in
    e ∙ quotients_are c.args.at (side c.args.a c.args.b) (side c.args.c c.args.d) z
