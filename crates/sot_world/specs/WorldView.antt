-- A world as its accepted program and its configuration. Nothing here has to be trusted: `open`
-- fixes the configuration, each step says which one it goes to, and the readers hand out its parts.
use Rattle.std.specs.Prelude.{◌≡◌, ◌+◌, length}
use Rattle.sot_world.specs.declared.world.World.TheInside.{Inside}
use Rattle.sot_world.specs.Configurations.{Configuration}
use Rattle.sot_world.specs.State.{State, IsKept}
use Rattle.sot_world.specs.Roles.{AreRoles}
use Rattle.sot_world.specs.Schedules.{AreScheduled}

abbrev pub configuration : Inside → Configuration
configuration w = record {
  time = w.time;
  left = w.left.items;
  left_dm = w.left_dm.items;
  modes = w.modes.items;
  scalars = w.scalars.items;
  locals = w.locals.items;
  points = w.points.items;
}

abbrev pub state : Inside → State
state w = record { accepted = w.accepted.now; at = configuration w }

-- the roles of the nodes are those of the program, there is room for the points after a tick, the
-- answers that are kept are of the same program, and what is due next after now is kept
pub record IsWorld (w : Inside) : Type 0 where
  pub kept : IsKept w.accepted.now (configuration w)
  pub roles : AreRoles w.accepted.now.program w.roles.items
  pub next : length w.next.items ≡ length w.accepted.now.program.plants
  pub answers : w.answers ≡ w.accepted.now
  pub nodes : AreScheduled (λ k. k.period) (λ k. k.offset) w.accepted.now.program.nodes (w.time + 1)
      w.node_schedules.items
  pub decisions : AreScheduled (λ k. k.period) (λ k. k.offset) w.accepted.now.program.modules
      (w.time + 1) w.decision_schedules.items
