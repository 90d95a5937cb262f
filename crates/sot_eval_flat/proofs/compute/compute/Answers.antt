use Rattle.std.proofs.Common.{rules, ap, ◌∙◌, sym, Ok, w64, SFits}
use Rattle.std.proofs.lemmas.Int.{to_z-of_z}
use Rattle.sot_code.proofs.Filling.{read_word}
use Rattle.sot_eval_flat.specs.Instructions.{made}
use Rattle.sot_eval_flat.proofs.compute.compute.Goals as goal

pub returns-in-Mul-clause-value : goal.returns-in-Mul-clause-value
returns-in-Mul-clause-value c = λ well at.
    let fits : SFits w64 c.multiply.result = search rules in
    let e = rw (read_word c.args.a c.ranges.a, read_word c.args.b c.ranges.b) at (c.multiply.ensures.value well at) in
    ap (λ m. made m at c.args.a c.args.b c.args.c) c.in-Mul.is ∙ e ∙ ap Ok (sym (to_z-of_z w64 c.multiply.result fits))

pub returns-in-Div-clause-value : goal.returns-in-Div-clause-value
returns-in-Div-clause-value c = λ well at.
    let fits : SFits w64 c.divide.result = search rules in
    let e = rw (read_word c.args.a c.ranges.a, read_word c.args.b c.ranges.b) at (c.divide.ensures.value well at) in
    ap (λ m. made m at c.args.a c.args.b c.args.c) c.in-Div.is ∙ e ∙ ap Ok (sym (to_z-of_z w64 c.divide.result fits))

pub returns-in-Abs-clause-value : goal.returns-in-Abs-clause-value
returns-in-Abs-clause-value c = λ well at.
    let fits : SFits w64 c.absolute.result = search rules in
    let e = rw (read_word c.args.a c.ranges.a) at (c.absolute.ensures.value well at) in
    ap (λ m. made m at c.args.a c.args.b c.args.c) c.in-Abs.is ∙ e ∙ ap Ok (sym (to_z-of_z w64 c.absolute.result fits))

pub returns-in-Rest-clause-value : goal.returns-in-Rest-clause-value
returns-in-Rest-clause-value c = λ well at.
    let fits : SFits w64 c.rest.result = search rules in
    let e = rw (read_word c.args.a c.ranges.a, read_word c.args.b c.ranges.b) at (c.rest.ensures.value well at c.args.c) in
    ap (λ m. made m at c.args.a c.args.b c.args.c) c.in-Rest.is ∙ e ∙ ap Ok (sym (to_z-of_z w64 c.rest.result fits))

pub returns-in-Within-clause-value : goal.returns-in-Within-clause-value
returns-in-Within-clause-value c = λ well at.
    let fits : SFits w64 c.within.result = search rules in
    let e = rw (read_word c.args.a c.ranges.a, read_word c.args.b c.ranges.b, read_word c.args.c c.ranges.c) at (c.within.ensures.value well at) in
    ap (λ m. made m at c.args.a c.args.b c.args.c) c.in-Within.is ∙ e ∙ ap Ok (sym (to_z-of_z w64 c.within.result fits))
