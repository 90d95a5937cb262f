use Rattle.sot_guard_program.specs.Moments.{ears}
use Rattle.sot_guard_program.proofs.SoFar.{FirstsSoFar}
use Rattle.sot_guard_program.proofs.starts.hear_starts.Given as goal

abbrev pub invariant-loop-i : goal.invariant-loop-i
invariant-loop-i g l =
    let left = g.S.Source.left in
    let failed = g.S.Source.faults in
    FirstsSoFar l.fn.opening l.opening l.i
    (ears (left l.fn.source) (failed l.fn.source) l.fn.ear)
    (ears (left l.source) (failed l.source) l.ear)
