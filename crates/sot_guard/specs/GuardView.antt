-- A guard as its accepted program and its configuration. Nothing here has to be trusted: the calls
-- say what each of them does to what is seen.
use Rattle.sot_guard.specs.declared.guard.Guard.TheInside.{Inside}
use Rattle.sot_world.specs.Configurations.{Configuration}
use Rattle.sot_guard.specs.Guarding.{Guarding, IsGuarding}

abbrev pub configuration : Inside → Configuration
configuration g = record {
  time = g.time;
  left = g.left.items;
  left_dm = g.left_dm.items;
  modes = g.modes.items;
  scalars = g.scalars.items;
  locals = g.locals.items;
  points = g.points.items;
}

abbrev pub guarding : Inside → Guarding
guarding g = record { accepted = g.accepted.now; trusted = g.trusted; at = configuration g }

abbrev pub IsGuard : Inside → Type 0
IsGuard g = IsGuarding g.accepted.now g.trusted (configuration g)
