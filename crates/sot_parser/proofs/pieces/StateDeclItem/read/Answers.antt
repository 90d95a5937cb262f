use Rattle.sot_parser.proofs.Shorter.{state_result}
use Rattle.sot_parser.proofs.pieces.StateDeclItem.read.Goals as goal

pub returns-clause-shorter : goal.returns-clause-shorter
returns-clause-shorter c = state_result c.state.result c.args.tokens.now c.state.new.tokens c.state.ensures
