use Rattle.sot_box.proofs.Laws.{hull_unique}
use Rattle.sot_tube.proofs.Leaving.{tube_leaves_not, tube_leaves_same}
use Rattle.sot_tube.proofs.laws.tubes_leave_in_one_way.Goals as goal

pub returns-clause-leaves : goal.returns-clause-leaves
returns-clause-leaves c p plant commands region box k leave leaves =
    (tube_leaves_not p plant commands region box k leave leaves, λ other o. tube_leaves_same p plant commands region box k leave other leaves o)

pub returns-clause-hulls : goal.returns-clause-hulls
returns-clause-hulls c = hull_unique
