-- The loop of `first_of`: no entry of the name so far.
use Rattle.std.proofs.Common.{◌≡◌, drop}
use Rattle.std.specs.Map.{lookup}
use Rattle.std.specs.Str.{bytes_eq}
use Rattle.sot_rules.proofs.names.things.first_of.Given as goal

abbrev pub invariant-loop-e : goal.invariant-loop-e
invariant-loop-e l = lookup (λ k. bytes_eq l.fn.name k.now) l.fn.entries ≡ lookup (λ k. bytes_eq l.fn.name k.now) (drop l.e-index l.fn.entries)
