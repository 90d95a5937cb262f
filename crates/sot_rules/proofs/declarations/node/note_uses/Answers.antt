-- Of `note_uses`: what its set has at first.
use Rattle.sot_rules.proofs.declarations.node.note_uses.Goals as goal

pub note_uses_beside-noted-requires-clause-empty : goal.note_uses_beside-noted-requires-clause-empty
note_uses_beside-noted-requires-clause-empty c = c.no_name-used.ensures.empty
