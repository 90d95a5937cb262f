-- Of `no_names`: its promises.
use Rattle.std.proofs.Common.{ap, map}
use Rattle.sot_rules.specs.Scopes.{parts_of}
use Rattle.sot_rules.specs.Alike.{tables_in}
use Rattle.sot_rules.proofs.StandsFor.{stands_none}
use Rattle.sot_rules.proofs.names.owner.no_names.Goals as goal

pub returns-clause-tables : goal.returns-clause-tables
returns-clause-tables c = ap (map parts_of) c.deref.ensures.value

pub returns-clause-none : goal.returns-clause-none
returns-clause-none c = stands_none (tables_in c.args.index.now) c.no_things.result c.no_things.ensures
