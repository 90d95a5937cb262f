use Rattle.std.proofs.Common.{rules, arith, ap, ◌∙◌, sym, Ok, pos, ◌≤ℤ◌, of_z, w64, FitsSigned}
use mir.Syntax.{w128}
use Rattle.std.proofs.lemmas.Int.{to_z-of_z, ints}
use Rattle.sot_lang.specs.Values.{word}
use Rattle.sot_code.proofs.Filling.{read_word}
use Rattle.sot_eval_flat.proofs.Words.{above, quotient_is}
use Rattle.sot_eval_flat.proofs.compute.divide.Goals as goal

pub returns-then-b-gt0-clause-value : goal.returns-then-b-gt0-clause-value
returns-then-b-gt0-clause-value c = λ well at.
    let q = c.floor_above.result in
    let fits : FitsSigned w64 q = search rules in
    let some : pos 1 ≤ℤ c.args.b = omega (arith, ints, c.if-b-gt0.true, c.ranges.b.sfits) in
    let e = rw (read_word c.args.a c.ranges.a, read_word c.args.b c.ranges.b) at c.floor_above.ensures in
    above c.args.a c.args.b q some e fits at ∙ ap Ok (sym (to_z-of_z w64 q fits))

pub returns-clause-value : goal.returns-clause-value
returns-clause-value c = λ well at.
    let q = c.fit.result in
    let fits : FitsSigned w64 q = search rules in
    let wide : FitsSigned w128 c.floor.result = search rules in
    let e = rw (read_word c.args.a c.ranges.a, read_word c.args.b c.ranges.b) at c.floor.ensures in
    quotient_is c.args.a c.args.b (λ z. c.if-b-eq0.false (ap (of_z w64) z)) at
    ∙ ap (λ z. word at z) (sym e ∙ sym (to_z-of_z w128 c.floor.result wide)) ∙ c.fit.ensures.value well at
    ∙ ap Ok (sym (to_z-of_z w64 q fits))
