-- Of `first_fault`: its promises.
use Rattle.std.proofs.Common.{◌∙◌, sym}
use Rattle.sot_rules.specs.Indexes.{program_in}
use Rattle.sot_rules.proofs.FirstFault.{first_is, none_is}
use Rattle.sot_rules.proofs.program.first_fault.Goals as goal

pub returns-clause-faultless : goal.returns-clause-faultless
returns-clause-faultless c e = none_is (program_in c.args.index.now) (sym c.in_ok-note_program.ensures ∙ e)

pub returns-clause-first : goal.returns-clause-first
returns-clause-first c g e = first_is (program_in c.args.index.now) g (sym c.in_ok-note_program.ensures ∙ e)
