use Rattle.sot_replay.proofs.LinesGoOn.{failing_stops}
use Rattle.sot_replay.proofs.laws.failing_lines_stop.Goals as goal

pub returns : goal.returns
returns c b front line kind is words tell failing goes = failing_stops b is front tell words line kind failing goes
