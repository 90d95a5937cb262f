-- Of `indexed_tables`: what its calls ask for.
use Rattle.std.proofs.Common.{◌∙◌}
use Rattle.sot_rules.specs.Indexes.{program_in}
use Rattle.sot_typing.proofs.Fitting.{are_few, all_fit, plant_narrow}
use Rattle.sot_typing.proofs.program.indexed_tables.Goals as goal

pub numbers-requires : goal.numbers-requires
numbers-requires c = are_few (program_in c.args.index.now) c.requires.formed c.requires.faultless

pub all_tables-requires-clause-numbers : goal.all_tables-requires-clause-numbers
all_tables-requires-clause-numbers c =
    let p = program_in c.args.index.now in
    record {
      index = c.requires.indexed;
      are = c.deref.ensures.value ∙ c.in_ok-numbers.ensures;
      few = are_few p c.requires.formed c.requires.faultless;
      narrow = plant_narrow p c.requires.formed c.requires.faultless;
    }

pub all_tables-requires-clause-fits : goal.all_tables-requires-clause-fits
all_tables-requires-clause-fits c = all_fit (program_in c.args.index.now) c.requires.formed c.requires.faultless
