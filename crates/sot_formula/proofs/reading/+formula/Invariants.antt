use Rattle.std.proofs.Common.{◌+◌, ◌*◌}
use Rattle.sot_formula.proofs.reading.+formula.Given as goal

abbrev pub decreases-opened : goal.decreases-opened
decreases-opened l = 256 * l.room + 255

abbrev pub decreases-behind_name : goal.decreases-behind_name
decreases-behind_name l = 256 * l.room + 254

abbrev pub decreases-called : goal.decreases-called
decreases-called l = 256 * l.room + 253

abbrev pub decreases-single : goal.decreases-single
decreases-single l = 256 * l.room + 252

abbrev pub decreases-double : goal.decreases-double
decreases-double l = 256 * l.room + 252

abbrev pub decreases-row : goal.decreases-row
decreases-row l = 256 * l.room + 251

abbrev pub decreases-more : goal.decreases-more
decreases-more l = 256 * l.room + 4 + 2 * l.count

abbrev pub decreases-one_more : goal.decreases-one_more
decreases-one_more l = 256 * l.room + 5 + 2 * l.behind

abbrev pub decreases-joined : goal.decreases-joined
decreases-joined l = 256 * l.room + 2

abbrev pub decreases-within : goal.decreases-within
decreases-within l = 256 * l.room + 252

abbrev pub decreases-formula : goal.decreases-formula
decreases-formula l = 256 * l.room + 1
