use Rattle.sot_world.proofs.world.World.can.Goals as goal

pub returns-in-Guest : goal.returns-in-Guest
returns-in-Guest c = rw c.in-Guest.is c.can_fire-in-Guest.ensures
