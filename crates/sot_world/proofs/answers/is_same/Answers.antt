use Rattle.std.proofs.Common.{sym, ◌∙◌, arith}
use Rattle.std.proofs.lemmas.Option.{slice_get_within}
use Rattle.sot_lists.proofs.Places.{same_items}
use Rattle.sot_world.proofs.answers.is_same.Goals as goal

pub returns : goal.returns
returns c = λ _. same_items c.args.a.now c.args.b.now (sym c.len.ensures.value ∙ c.if-len.false ∙ c.len-2.ensures.value)
    (λ k x at. sym (c.loop-i.invariant k (omega (arith, slice_get_within c.args.a.now k x at, c.loop-i-test.false, c.len-i-end.ensures.value))) ∙ at)
