use Rattle.sot_law_runs.proofs.TubeBoxes.{boxes, unique, any, held}
use Rattle.sot_law_runs.proofs.laws.tubes_hold_the_reach_at_each_tick.Goals as goal

pub returns : goal.returns
returns c = record { boxes = boxes; one = unique; any = any; held = held }
