use Rattle.sot_world.proofs.LineRun.{every_run, run, end_is_safe}
use Rattle.sot_world.proofs.facts.line_is_safe.Goals as goal

pub returns : goal.returns
returns c = record { every = every_run; run = run; end = end_is_safe }
