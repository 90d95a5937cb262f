-- Of `note_taken`: what its set has at first.
use Rattle.sot_names.specs.NameSets.{keys_in}
use Rattle.sot_names.proofs.NameSets.{none_held}
use Rattle.sot_rules.proofs.declarations.plant.note_taken.Goals as goal

pub note_taken_beside-noted-requires-clause-empty : goal.note_taken_beside-noted-requires-clause-empty
note_taken_beside-noted-requires-clause-empty c = none_held (keys_in c.no_name-states.result) c.no_name-states.ensures.empty
