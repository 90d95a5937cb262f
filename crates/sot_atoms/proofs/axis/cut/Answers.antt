use Rattle.std.proofs.Common.{to_z, of_z, w64, arith}
use Rattle.sot_atoms.specs.declared.axis.Axis.{Axis}
use Rattle.sot_atoms.proofs.Places.{cut_tight}
use Rattle.sot_atoms.proofs.axis.cut.Goals as goal

pub returns-clause-tight : goal.returns-clause-tight
returns-clause-tight c =
    let x : Axis = record {
      side = c.args.side;
      lo = to_z w64 (of_z w64 c.numbers.inside.lo);
      hi = to_z w64 (of_z w64 c.numbers.inside.hi);
      shift = c.args.shift;
      size = c.saturating_add.result;
    } in
    cut_tight x c.apart.result c.apart.ensures (λ few. omega (arith, c.saturating_add.ensures, few))
