use Rattle.std.proofs.Common.{◌≡◌, ◌<◌, ◌≤◌, ◌+◌, ◌-◌, false, codes, max, arith, refl, sym, ◌∙◌, ap, subst}
use Rattle.std.proofs.lemmas.Int.{clamps}
use Rattle.std.proofs.lemmas.Result.{err_from_is_err_and}
use Rattle.sot_syntax_tree.specs.TreeViews.{tree_view}
use Rattle.sot_expression.specs.declared.fail.Fail.{Fail}
use Rattle.sot_expression.specs.Lexemes.{begins, is_keyword}
use Rattle.sot_expression.specs.Operators.{tier_of_infix}
use Rattle.sot_expression.specs.Readers.{Read}
use Rattle.sot_expression.specs.Returned.{Fails, Tells}
use Rattle.sot_expression.specs.Parts.{below, part_view, turned}
use Rattle.sot_expression.specs.ExpressionReaders.{Part, clamp_at, part_at}
use Rattle.sot_expression.proofs.ReadSteps.{ok}
use Rattle.sot_expression.proofs.ChainEnds.{fails_on, clamp_stops, clamp_made, same_part}
use Rattle.sot_expression.proofs.Climbs.{no_operator, other_operator, turns_on, turns_too_deep, reads_plain, reads_not, reads_if}
use Rattle.sot_expression.proofs.expression.+expression.Goals as goal
use Rattle.sot_expression.proofs.expression.+expression.Goals.{climb-then-tier-from-via-then-tier-from, climb-then-tier-from-via-else-tier-from+then-tier-to}
use Rattle.sot_expression.proofs.expression.+expression.Goals.{read-else-tier-eq7-via-then-tier-eq7+else-is_keyword, read-else-tier-eq7-via-else-tier-eq7}
use Rattle.sot_expression.proofs.expression.+expression.Goals.{read-else-tier-ge4-via-then-tier-ge4+else-is_keyword-2, read-else-tier-ge4-via-else-tier-ge4}

pub climb-returns-in_default-clause-read : goal.climb-returns-in_default-clause-read
climb-returns-in_default-clause-read t c = (
  no_operator (c.args.to - c.args.from) c.args.room c.args.from (part_view c.args.left) c.args.tokens.now.tokens
      (sym c.operator_at.ensures ∙ c.in_default.is),
  refl,
)

pub climb-returns-then-tier-from-clause-read : goal.climb-returns-then-tier-from-clause-read
climb-returns-then-tier-from-clause-read t c =
    let tier = c.tier_of-tier.ensures.tier in
    let out : c.args.from < tier_of_infix c.in-Some.operator → tier_of_infix c.in-Some.operator ≤ c.args.from + (c.args.to - c.args.from)
    → ⊥ = λ above low. elim c.then-tier-from.branch [
      | climb-then-tier-from-via-then-tier-from w ↦ omega (arith, w.if-tier-from.true, tier, above)
      | climb-then-tier-from-via-else-tier-from+then-tier-to w ↦ omega (arith, w.if-tier-to.true, tier, low, c.requires.tiers.0)
    ] in (
      other_operator (c.args.to - c.args.from) c.args.room c.args.from (part_view c.args.left) c.args.tokens.now.tokens c.in-Some.operator
          (sym c.operator_at.ensures ∙ c.in-Some.is) out,
      refl,
    )

pub climb-returns-then-left-room-clause-read : goal.climb-returns-then-left-room-clause-read
climb-returns-then-left-room-clause-read t c =
    let tier = c.tier_of-tier.ensures.tier in
    let above : c.args.from < tier_of_infix c.in-Some.operator = omega (arith, tier, c.if-tier-from.false) in
    let low : tier_of_infix c.in-Some.operator ≤ c.args.to = omega (arith, tier, c.if-tier-to.false) in (
      turns_too_deep c.args.room c.args.from c.args.to (part_view c.args.left) c.args.tokens.now.tokens c.in-Some.operator c.requires.room.0
          (sym c.operator_at.ensures ∙ c.in-Some.is) above low c.requires.fits.0 (omega (arith, c.if-left-room.true)),
      refl,
    )

pub climb-returns-clause-read : goal.climb-returns-clause-read
climb-returns-clause-read t c =
    let tier = c.tier_of-tier.ensures.tier in
    let part = part_view c.args.left in
    let ts = c.args.tokens.now.tokens in
    let above : c.args.from < tier_of_infix c.in-Some.operator = omega (arith, tier, c.if-tier-from.false) in
    let low : tier_of_infix c.in-Some.operator ≤ c.args.to = omega (arith, tier, c.if-tier-to.false) in
    let same = turns_on c.args.room c.args.from c.args.to part ts c.in-Some.operator (sym c.operator_at.ensures ∙ c.in-Some.is) above low c.requires.fits.0
    (omega (arith, c.if-left-room.false)) ∙ ap (λ k. turned c.args.room c.in-Some.operator k c.args.to part ts) (sym tier) in
    (subst (λ (r : Read Part). Tells part_view c.turn.result c.turn.new.tokens.tokens r) (sym same) c.turn.ensures.read.0, c.turn.ensures.read.1)

pub read-returns-then-is_keyword-clause-read : goal.read-returns-then-is_keyword-clause-read
read-returns-then-is_keyword-clause-read t c =
    let ts = c.args.tokens.now.tokens in
    let same = ap (λ k. part_at c.args.room c.args.held k ts) c.if-tier-eq7.true
    ∙ reads_if c.args.room c.args.held ts c.requires.room.0 (sym c.is_keyword.ensures ∙ c.if-is_keyword.true) in
    (subst (λ (r : Read Part). Tells part_view c.choice.result c.choice.new.tokens.tokens r) (sym same) c.choice.ensures.read.0, c.choice.ensures.read.1)

pub read-returns-then-is_keyword-2-clause-read : goal.read-returns-then-is_keyword-2-clause-read
read-returns-then-is_keyword-2-clause-read t c =
    let ts = c.args.tokens.now.tokens in
    let no_if : 7 ≤ c.args.tier → begins (is_keyword (codes "if")) ts ≡ false = λ seven. elim c.else-tier-eq7.branch [
      | read-else-tier-eq7-via-then-tier-eq7+else-is_keyword w ↦ sym w.is_keyword.ensures ∙ w.if-is_keyword.false
      | read-else-tier-eq7-via-else-tier-eq7 w ↦ absurd (omega (arith, seven, c.requires.tier, w.if-tier-eq7.false))
    ] in
    let same = reads_not c.args.room c.args.held c.args.tier ts c.requires.room.0 (omega (arith, c.if-tier-ge4.true))
    (sym c.is_keyword-then-tier-ge4.ensures ∙ c.if-is_keyword-2.true) no_if in
    (subst (λ (r : Read Part). Tells part_view c.denial.result c.denial.new.tokens.tokens r) (sym same) c.denial.ensures.read.0, c.denial.ensures.read.1)

pub read-returns-else-tier-ge4-clause-read : goal.read-returns-else-tier-ge4-clause-read
read-returns-else-tier-ge4-clause-read t c =
    let ts = c.args.tokens.now.tokens in
    let no_if : 7 ≤ c.args.tier → begins (is_keyword (codes "if")) ts ≡ false = λ seven. elim c.else-tier-eq7.branch [
      | read-else-tier-eq7-via-then-tier-eq7+else-is_keyword w ↦ sym w.is_keyword.ensures ∙ w.if-is_keyword.false
      | read-else-tier-eq7-via-else-tier-eq7 w ↦ absurd (omega (arith, seven, c.requires.tier, w.if-tier-eq7.false))
    ] in
    let no_not : 4 ≤ c.args.tier → begins (is_keyword (codes "not")) ts ≡ false = λ four. elim c.else-tier-ge4.branch [
      | read-else-tier-ge4-via-then-tier-ge4+else-is_keyword-2 w ↦ sym w.is_keyword-then-tier-ge4.ensures ∙ w.if-is_keyword-2.false
      | read-else-tier-ge4-via-else-tier-ge4 w ↦ absurd (omega (arith, four, w.if-tier-ge4.false))
    ] in
    let same = reads_plain c.args.room c.args.held c.args.tier ts c.requires.room.0 no_not no_if in
    (subst (λ (r : Read Part). Tells part_view c.plain.result c.plain.new.tokens.tokens r) (sym same) c.plain.ensures.read.0, c.plain.ensures.read.1)

pub clamp-returns-in_err-low-clause-read : goal.clamp-returns-in_err-low-clause-read
clamp-returns-in_err-low-clause-read n c =
    let q = err_from_is_err_and c.from_residual-in_err-low.result c.from_residual-in_err-low.ensures.1 in
    let part = below c.args.room 7 in
    let ts = c.args.tokens.now.tokens in
    let after = c.limits.new.tokens.tokens in
    let stopped = c.in_err-low.ensures.read in
    let word = c.in_ok-at.ensures in
    let value = c.in_ok-value.ensures.read in
    let fails : Fails c.in_err-low.field-0.0 after (clamp_at part ts) =
    fails_on c.in_err-low.field-0.0 after _ (clamp_at part ts) (clamp_stops part ts _ _ word.0 value.0) stopped.0 in (
      subst (λ r. Tells part_view r after (clamp_at part ts)) (sym q.1) (subst (λ (e : Fail). Fails e after (clamp_at part ts)) (sym q.2) fails),
      stopped.1 ∙ value.1 ∙ word.1,
    )

pub clamp-returns-clause-read : goal.clamp-returns-clause-read
clamp-returns-clause-read n c =
    let part = below c.args.room 7 in
    let ts = c.args.tokens.now.tokens in
    let after = c.limits.new.tokens.tokens in
    let more = c.in_ok-low.ensures.read in
    let word = c.in_ok-at.ensures in
    let value = c.in_ok-value.ensures.read in
    let same = same_part (tree_view c.over.result.tree) _ c.over.result.levels
    (1 + max c.in_ok-value.value.levels (max c.in_ok-low.low.levels c.in_ok-low.high.levels)) c.over.result.bare _
    (ap tree_view c.over.ensures.tree ∙ c.in_ok-call.ensures) (omega (arith, clamps)) c.over.ensures.bare in
    (clamp_made part ts _ _ _ word.0 value.0 more.0 ∙ ap (λ (p : Part). ok (p, after)) (sym same), more.1 ∙ value.1 ∙ word.1)
