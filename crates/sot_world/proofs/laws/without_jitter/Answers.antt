use Rattle.sot_world.proofs.Calendar.{left_is_due, until_left, until_next, tick_settled}
use Rattle.sot_world.proofs.laws.without_jitter.Goals as goal

pub returns : goal.returns
returns c = record { left_is_due = left_is_due; until_left = until_left; until_next = until_next; tick_settled = tick_settled }
