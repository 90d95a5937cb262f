use Rattle.std.proofs.Common.{◌≡◌, ℕ, length}
use Rattle.sot_lists.specs.Places.{At}
use Rattle.sot_world.specs.declared.role.Role.{Role}
use Rattle.sot_world.specs.Roles.{IsRole}
use Rattle.sot_world.proofs.starts.roles.Given as goal

abbrev pub invariant-loop-n : goal.invariant-loop-n
invariant-loop-n l = record {
  each : length l.roles.items ≡ l.n;
  are : (n : ℕ) (role : Role) → At l.roles.items n role → IsRole l.p.modules n role;
}
