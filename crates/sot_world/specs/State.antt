-- What contracts see of a world.
use Rattle.std.specs.Prelude.{◌≤◌}
use Rattle.sot_lang.specs.TableRules.{MeetsTableRules}
use Rattle.sot_tube.specs.Admitted.{Admitted}
use Rattle.sot_tube.specs.Certified.{IsWellCertified}
use Rattle.sot_world.specs.Configurations.{Configuration}
use Rattle.sot_world.specs.Invariant.{KeepsInvariant}

-- an accepted program, and the configuration that its run is in
pub record State : Type 0 where
  pub accepted : Admitted
  pub at : Configuration

-- the configuration of a world satisfies the invariant, for all modules together, and its time is
-- at most the greatest horizon
pub record IsKept (a : Admitted) (C : Configuration) : Type 0 where
  pub rules : MeetsTableRules a.program
  pub certified : IsWellCertified a.program a.cert.jitter a.cert
  pub holds : KeepsInvariant a.program a.cert.jitter C
  pub time : C.time ≤ 100000
