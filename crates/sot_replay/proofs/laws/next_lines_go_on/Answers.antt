use Rattle.std.proofs.Common.{⊎_elim}
use Rattle.sot_replay.proofs.LinesGoOn.{next_or_end, next_goes_on, end_goes_on}
use Rattle.sot_replay.proofs.laws.next_lines_go_on.Goals as goal

pub returns : goal.returns
returns c b front line is words tell = (
  (λ goes. next_or_end b is front tell words line goes),
  (λ either. ⊎_elim (λ next. next_goes_on b is front tell line next) (λ (ended, last). end_goes_on b is front tell line ended last) either),
)
