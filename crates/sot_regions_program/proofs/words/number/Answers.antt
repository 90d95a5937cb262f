use Rattle.std.proofs.Common.{◌≡◌, ◌<◌, ◌^◌, true, false, ap, sym, ◌∙◌, arith}
use Rattle.std.specs.Prelude.{IsTrue}
use Rattle.std.specs.Fmt.{decimal}
use Rattle.std.proofs.lemmas.Fmt.{parse-decimal}
use Rattle.sot_regions_program.proofs.words.number.Goals as goal

pub returns-in_default-clause-form : goal.returns-in_default-clause-form
returns-in_default-clause-form c = λ form n low is.
    let fits : n < 2 ^ 64 = omega arith in
    let parses = parse-decimal 64 n c.args.word.now c.parse.result fits fits is c.parse.ensures.value.0 in
    absurd (c.in_default.not-Ok n parses)

pub returns-then-number-gt999-clause-form : goal.returns-then-number-gt999-clause-form
returns-then-number-gt999-clause-form c = λ form n low is.
    let fits : n < 2 ^ 64 = omega arith in
    let parses = parse-decimal 64 n c.args.word.now c.parse.result fits fits is c.parse.ensures.value.0 in
    let same : c.in-Ok.number ≡ n = cc in
    absurd (omega (arith, same))

pub returns-else-branch-clause-form : goal.returns-else-branch-clause-form
returns-else-branch-clause-form c = λ form n low is.
    let fits : n < 2 ^ 64 = omega arith in
    let parses = parse-decimal 64 n c.args.word.now c.parse.result fits fits is c.parse.ensures.value.0 in
    let same : c.in-Ok.number ≡ n = cc in
    let yes : IsTrue c.in_ok-is_decimal.field-0 = c.in_ok-is_decimal.ensures.is.1 (is ∙ ap decimal (sym same)) in
    let both : false ≡ true = sym c.if-branch.false ∙ yes in
    absurd cc
