use Rattle.std.proofs.Common.{ℕ, sym, ◌∙◌, subst, arith}
use Rattle.std.proofs.lemmas.Option.{same_Some, slice_get_within}
use Rattle.sot_lists.specs.Places.{At}
use Rattle.sot_box.specs.Sides.{Side}
use Rattle.sot_rta.proofs.Steps.{one_more}
use Rattle.sot_certified_text.specs.ReadBack.{IsShort}
use Rattle.sot_regions_program.proofs.finding.are_short.Goals as goal

pub loop-i-preserved : goal.loop-i-preserved
loop-i-preserved c = λ k r less at.
    let short = c.is_short.ensures c.if-not-is_short.false in
    one_more (λ (i : ℕ). (s : Side) → At c.args.b.now i s → IsShort s) c.loop-i.i (λ i lt s. c.loop-i.invariant i s lt)
    (λ s at_s. subst (λ (x : Side). IsShort x) (same_Some c.side.result s (sym c.side.ensures ∙ at_s)) short) k less r at

pub returns : goal.returns
returns c = λ yes i r at.
    let there = slice_get_within c.args.b.now i r at in
    c.loop-i.invariant i r (omega (arith, there, c.len-i-end.ensures.value, c.loop-i-test.false)) at
