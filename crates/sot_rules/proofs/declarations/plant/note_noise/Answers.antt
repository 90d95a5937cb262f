-- Of `note_noise`: what its set has at first.
use Rattle.sot_names.specs.NameSets.{keys_in}
use Rattle.sot_names.proofs.NameSets.{none_held}
use Rattle.sot_rules.proofs.declarations.plant.note_noise.Goals as goal

pub note_noise_beside-noted-requires : goal.note_noise_beside-noted-requires
note_noise_beside-noted-requires c = none_held (keys_in c.no_name-used.result) c.no_name-used.ensures.empty
