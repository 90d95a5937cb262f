use Rattle.std.proofs.Common.{Err, ap}
use Rattle.sot_regions_program.proofs.typed.spelled.Goals as goal

pub unreachable-requires : goal.unreachable-requires
unreachable-requires c =
    let is = ap (λ e. Err e) c.in-Err-Syntax.field-0-is in
    let none = c.in-Err-Syntax.ensures.syntax c.in-Err-Syntax.field-0-0 is c.requires.spelled.0 in
    (rw (c.new.ensures.bytes, c.new.ensures.at) at none) c.requires.spelled.1
