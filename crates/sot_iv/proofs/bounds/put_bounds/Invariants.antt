use Rattle.std.proofs.Common.{◌≡◌, ◌++◌, take}
use Rattle.std.specs.Prelude.{map}
use Rattle.sot_lang.specs.declared.tables.NoiseInfo.{NoiseInfo}
use Rattle.sot_iv.proofs.bounds.put_bounds.Given as goal

abbrev pub invariant-loop-info : goal.invariant-loop-info
invariant-loop-info l = l.sides ≡ l.initial.sides ++ map (λ (d : NoiseInfo). record { lo = d.lo; hi = d.hi }) (take l.info-index l.noise)
