use Rattle.std.proofs.Common.{◌≡◌, ◌-◌, suc, refl, sym, ap, subst, ◌∙◌, arith}
use Rattle.sot_expression.specs.Readers.{Read}
use Rattle.sot_expression.specs.Returned.{Tells}
use Rattle.sot_formula.specs.Reading.{Laid, more_at, opened_at, formula_at}
use Rattle.sot_formula.proofs.reading.+formula.Goals as goal

pub formula-returns-then-room-eq0 : goal.formula-returns-then-room-eq0
unfolding formula_at
formula-returns-then-room-eq0 t c = (ap (λ r. formula_at c.args.p.now r c.args.laid c.args.tokens.now.tokens) c.if-room-eq0.true, refl)

pub formula-returns : goal.formula-returns
unfolding formula_at
formula-returns t c =
    let p = c.args.p.now in
    let ts = c.args.tokens.now.tokens in
    let room : c.args.room ≡ suc (c.args.room - 1) = omega (arith, c.if-room-eq0.false) in
    let same : formula_at p c.args.room c.args.laid ts ≡ opened_at p (formula_at p (c.args.room - 1)) c.next_opening-opening.result c.args.laid ts =
    ap (λ r. formula_at p r c.args.laid ts) room ∙ ap (λ o. opened_at p (formula_at p (c.args.room - 1)) o c.args.laid ts)
    (sym c.next_opening-opening.ensures) in
    (subst (λ (r : Read Laid). Tells (λ (s : Laid). s) c.opened.result c.opened.new.tokens.tokens r) (sym same) c.opened.ensures.0, c.opened.ensures.1)

pub more-returns-then-count-eq0 : goal.more-returns-then-count-eq0
unfolding more_at
more-returns-then-count-eq0 t c =
    (ap (λ n. more_at c.args.word (formula_at c.args.p.now c.args.room) n c.args.laid c.args.tokens.now.tokens) c.if-count-eq0.true, refl)

pub more-returns : goal.more-returns
more-returns t c =
    let count : c.args.count ≡ suc (c.args.count - 1) = omega (arith, c.if-count-eq0.false) in
    let same = ap (λ n. more_at c.args.word (formula_at c.args.p.now c.args.room) n c.args.laid c.args.tokens.now.tokens) count in
    (subst (λ (r : Read Laid). Tells (λ (s : Laid). s) c.one_more.result c.one_more.new.tokens.tokens r) (sym same) c.one_more.ensures.0, c.one_more.ensures.1)
