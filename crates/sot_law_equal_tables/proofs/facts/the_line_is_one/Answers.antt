-- The made tables are computed, and the worked ones are looked at part by part.
use Rattle.std.proofs.Common.{refl}
use Rattle.sot_typing.specs.Resolved.{tables_of}
use Rattle.sot_law_equal_tables.proofs.Worked.{worked_is}
use Rattle.sot_law_equal_tables.proofs.facts.the_line_is_one.Goals as goal

pub returns-clause-made : goal.returns-clause-made
unfolding tables_of
returns-clause-made c g = refl

pub returns-clause-worked : goal.returns-clause-worked
returns-clause-worked c = worked_is
