use Rattle.sot_parser.proofs.Shorter.{named_scalar_result}
use Rattle.sot_parser.proofs.pieces.FieldItem.read.Goals as goal

pub returns-clause-shorter : goal.returns-clause-shorter
returns-clause-shorter c = named_scalar_result c.named_scalar.result c.args.tokens.now c.named_scalar.new.tokens c.named_scalar.ensures
