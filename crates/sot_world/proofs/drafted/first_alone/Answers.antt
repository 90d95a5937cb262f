use Rattle.sot_world.proofs.KeptDrafts.{alone}
use Rattle.sot_world.proofs.drafted.first_alone.Goals as goal

pub returns-else-others : goal.returns-else-others
returns-else-others c =
    alone c.args.draft.now c.has_eight_slots.ensures _ _ _ _ _ _ _ c.is_there.ensures c.is_there-2.ensures c.is_there-3.ensures c.is_there-4.ensures
    c.is_there-5.ensures c.is_there-6.ensures c.is_there-7.ensures c.if-others.false c.get.result c.get.ensures
