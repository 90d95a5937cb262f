use Rattle.std.proofs.Common.{take}
use Rattle.sot_eval_flat.specs.Carries.{CarriesOpen}
use Rattle.sot_eval_flat.proofs.block.+block.Given as goal

abbrev pub invariant-block-loop-one : goal.invariant-block-loop-one
invariant-block-loop-one l = CarriesOpen l.p l.node l.shape.constants.items l.steps.items l.line.items (take l.one-index l.acts)
