use Rattle.sot_replay.proofs.LinesGoOn.{told_goes_on}
use Rattle.sot_replay.proofs.laws.told_lines_go_on.Goals as goal

pub returns : goal.returns
returns c b front is tell = told_goes_on b is front tell
