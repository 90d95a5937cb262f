use Rattle.std.proofs.Common.{◌++◌, ◌∷◌, [], ap, ◌∙◌}
use Rattle.sot_recover.proofs.Chosen.{take_next}
use Rattle.sot_recover.proofs.within.boxes_of.Goals as goal

pub loop-i-preserved : goal.loop-i-preserved
loop-i-preserved c =
    c.in_ok-push.ensures.items ∙ ap (λ l. l ++ c.at.result ∷ []) c.loop-i.invariant
    ∙ take_next c.args.region.now.boxes c.loop-i.i c.at.result c.at.ensures.place
