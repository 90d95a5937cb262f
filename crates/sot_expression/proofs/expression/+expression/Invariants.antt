use Rattle.std.proofs.Common.{◌+◌, ◌*◌, ◌-◌, cond}
use Rattle.sot_expression.proofs.expression.+expression.Given as goal

abbrev pub decreases-unary : goal.decreases-unary
decreases-unary l = 256 * (2 * l.room + cond l.held 0 1) + 100

abbrev pub decreases-joined : goal.decreases-joined
decreases-joined l = 512 * l.room + 1

abbrev pub decreases-operation : goal.decreases-operation
decreases-operation l = 512 * l.room

abbrev pub decreases-minus : goal.decreases-minus
decreases-minus l = 256 * (2 * l.room + cond l.held 0 1) + 2

abbrev pub decreases-atom : goal.decreases-atom
decreases-atom l = 256 * (2 * l.room + cond l.held 0 1) + 3

abbrev pub decreases-group : goal.decreases-group
decreases-group l = 512 * l.room + 150

abbrev pub decreases-chosen : goal.decreases-chosen
decreases-chosen l = 256 * (2 * l.room + cond l.held 0 1) + 1

abbrev pub decreases-denied : goal.decreases-denied
decreases-denied l = 256 * (2 * l.room + cond l.held 0 1) + 1

abbrev pub decreases-opened : goal.decreases-opened
decreases-opened l = 512 * l.room

abbrev pub decreases-further : goal.decreases-further
decreases-further l = 512 * l.room

abbrev pub decreases-absolute : goal.decreases-absolute
decreases-absolute l = 512 * l.room + 1

abbrev pub decreases-pair : goal.decreases-pair
decreases-pair l = 512 * l.room + 1

abbrev pub decreases-clamp : goal.decreases-clamp
decreases-clamp l = 512 * l.room + 2

abbrev pub decreases-limits : goal.decreases-limits
decreases-limits l = 512 * l.room + 1

abbrev pub decreases-rescale : goal.decreases-rescale
decreases-rescale l = 512 * l.room + 1

abbrev pub decreases-read : goal.decreases-read
decreases-read l = 256 * (2 * l.room + cond l.held 0 1) + 130

abbrev pub decreases-plain : goal.decreases-plain
decreases-plain l = 256 * (2 * l.room + cond l.held 0 1) + 129

abbrev pub decreases-choice : goal.decreases-choice
decreases-choice l = 256 * (2 * l.room + cond l.held 0 1) + 2

abbrev pub decreases-denial : goal.decreases-denial
decreases-denial l = 256 * (2 * l.room + cond l.held 0 1) + 129

abbrev pub decreases-climb : goal.decreases-climb
decreases-climb l = 256 * (2 * l.room + cond l.held 0 1) + 2 + 2 * (l.room - l.left.levels)

abbrev pub decreases-turn : goal.decreases-turn
decreases-turn l = 256 * (2 * l.room + cond l.held 0 1) + 1 + 2 * (l.room - l.left.levels)
