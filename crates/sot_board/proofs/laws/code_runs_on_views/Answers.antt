use Rattle.sot_board.proofs.ViewLaws.{code_runs_on_views}
use Rattle.sot_board.proofs.laws.code_runs_on_views.Goals as goal

pub returns : goal.returns
returns c = code_runs_on_views
