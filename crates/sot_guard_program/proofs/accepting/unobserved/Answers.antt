use Rattle.sot_guard_program.proofs.Results.{unmarked_text}
use Rattle.sot_guard_program.proofs.accepting.unobserved.Goals as goal

pub returns-clause-text : goal.returns-clause-text
returns-clause-text c = unmarked_text c.faulty.result c.args.text.now c.section_fault.result c.section_fault.ensures c.faulty.ensures.text
