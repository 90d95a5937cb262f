use Rattle.sot_text_output.proofs.Growing.{all_arrives, part_arrives}
use Rattle.sot_text_output.proofs.spool.Spool.end.Goals as goal

pub returns-then-self-clause-ends : goal.returns-then-self-clause-ends
returns-then-self-clause-ends g c = all_arrives _ _ c.hand_on.ensures.puts.1 c.hand_on.ensures.empty c.if-self.true

pub returns-else-self-clause-ends : goal.returns-else-self-clause-ends
returns-else-self-clause-ends g c = part_arrives _ _ c.hand_on.ensures.puts.1 c.if-self.false
