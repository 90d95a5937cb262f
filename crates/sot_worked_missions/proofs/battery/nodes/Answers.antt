-- Of `nodes`: its promises.
use Rattle.sot_worked_missions.proofs.battery.nodes.Goals as goal

pub returns : goal.returns
returns c = (
  c.in_ok-fast.fast,
  c.in_ok-slow.slow,
  c.in_ok-up.up,
  c.in_ok-down.down,
  c.in_ok-fast.ensures,
  c.in_ok-slow.ensures,
  c.in_ok-up.ensures,
  c.in_ok-down.ensures,
  c.in_ok-vec.ensures.items,
)
