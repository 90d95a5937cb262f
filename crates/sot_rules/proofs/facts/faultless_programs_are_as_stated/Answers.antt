-- Of `faultless_programs_are_as_stated`: its promises.
use Rattle.std.proofs.Common.{refl}
use Rattle.sot_rules.specs.FaultlessPrograms.{the_line, the_rest}
use Rattle.sot_rules.proofs.FirstFault.{none_is}
use Rattle.sot_rules.proofs.facts.faultless_programs_are_as_stated.Goals as goal

pub returns-clause-the_line : goal.returns-clause-the_line
unfolding Rattle.sot_rules.specs.Faults.faults Rattle.sot_text.specs.Place.rank
returns-clause-the_line c = none_is the_line refl

pub returns-clause-the_rest : goal.returns-clause-the_rest
unfolding Rattle.sot_rules.specs.Faults.faults Rattle.sot_text.specs.Place.rank
returns-clause-the_rest c = none_is the_rest refl
