use Rattle.sot_regions_program.specs.Steps.{AreFindings}
use Rattle.sot_regions_program.proofs.search.search.Given as goal

abbrev pub invariant-loop-module : goal.invariant-loop-module
invariant-loop-module l = AreFindings l.asked.tables.now l.findings.regions.items l.findings.cells.items l.«module»
