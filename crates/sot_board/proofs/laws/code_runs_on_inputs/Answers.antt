use Rattle.sot_board.proofs.ViewLaws.{code_runs_on_inputs}
use Rattle.sot_board.proofs.laws.code_runs_on_inputs.Goals as goal

pub returns : goal.returns
returns c = code_runs_on_inputs
