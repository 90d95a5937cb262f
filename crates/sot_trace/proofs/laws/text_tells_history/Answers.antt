use Rattle.sot_trace.proofs.TraceTexts.{text_tells}
use Rattle.sot_trace.proofs.laws.text_tells_history.Goals as goal

pub returns : goal.returns
returns c = text_tells
