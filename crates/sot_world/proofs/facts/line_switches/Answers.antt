use Rattle.sot_world.proofs.LineDecisions.{stays_ac, switches, no_stay, stays_sc}
use Rattle.sot_world.proofs.LineDecisions as line
use Rattle.sot_world.proofs.facts.line_switches.Goals as goal

pub returns : goal.returns
returns c = record { stays_ac = stays_ac; to_sc = switches; no_stay = no_stay; stays_sc = stays_sc; to_ac = line.returns }
