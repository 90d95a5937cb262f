use Rattle.std.proofs.Common.{sym, ap, ap₂, subst, ◌∙◌}
use Rattle.sot_text.specs.Ahead.{ahead_from}
use Rattle.sot_formula.specs.Reading.{Laid, formula_at}
use Rattle.sot_expression.specs.declared.fail.Fail.{Fail}
use Rattle.sot_expression.specs.Readers.{stuck, deep}
use Rattle.sot_expression.specs.Returned.{Fails}
use Rattle.sot_formula.proofs.Texts.{not_ended, none_read}
use Rattle.sot_formula.proofs.whole.all.Goals as goal

pub returns-else-is_ended-clause-err : goal.returns-else-is_ended-clause-err
returns-else-is_ended-clause-err c =
    let p = c.args.p.now in
    not_ended p c.args.bytes.now c.new-tokens.result c.formula.new.tokens c.in-Ok.laid
    (c.new-tokens.ensures ∙ ap₂ ahead_from c.new.ensures.bytes c.new.ensures.at)
    (ap (λ (l : Laid). formula_at p 64 l c.new-tokens.result.tokens) (sym c.none.ensures) ∙ c.in-Ok.ensures.0)
    c.in-Ok.ensures.1 (sym c.is_ended.ensures ∙ c.if-is_ended.false)

pub returns-in-Err-Token-clause-err : goal.returns-in-Err-Token-clause-err
returns-in-Err-Token-clause-err c =
    let p = c.args.p.now in
    let read = subst (λ (e : Fail). Fails e c.formula.new.tokens.tokens (formula_at p 64 c.none.result c.new-tokens.result.tokens))
    c.in-Err-Token.field-0-is c.in-Err-Token.ensures.0 in
    none_read p c.args.bytes.now c.new-tokens.result (stuck, c.formula.new.tokens.tokens)
    (c.new-tokens.ensures ∙ ap₂ ahead_from c.new.ensures.bytes c.new.ensures.at)
    (ap (λ (l : Laid). formula_at p 64 l c.new-tokens.result.tokens) (sym c.none.ensures) ∙ read)

pub returns-in-Err-Deep-clause-err : goal.returns-in-Err-Deep-clause-err
returns-in-Err-Deep-clause-err c =
    let p = c.args.p.now in
    let read = subst (λ (e : Fail). Fails e c.formula.new.tokens.tokens (formula_at p 64 c.none.result c.new-tokens.result.tokens))
    c.in-Err-Deep.field-0-is c.in-Err-Deep.ensures.0 in
    none_read p c.args.bytes.now c.new-tokens.result (deep, c.formula.new.tokens.tokens)
    (c.new-tokens.ensures ∙ ap₂ ahead_from c.new.ensures.bytes c.new.ensures.at)
    (ap (λ (l : Laid). formula_at p 64 l c.new-tokens.result.tokens) (sym c.none.ensures) ∙ read)
