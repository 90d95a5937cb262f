use Rattle.sot_workers.proofs.nobody.fly_without_guests.Goals as goal

pub fly-requires-clause-there : goal.fly-requires-clause-there
fly-requires-clause-there g c κs within n i at = absurd (c.requires.no_guests n i at)
