use Rattle.sot_guard_program.specs.Moments.{ears, mouth}
use Rattle.sot_guard_program.proofs.SoFar.{SoFar}
use Rattle.sot_guard_program.proofs.speaker.Speaker.hear_all.Given as goal

abbrev pub invariant-loop-line : goal.invariant-loop-line
invariant-loop-line g l =
    let left = g.S.Source.left in
    let failed = g.S.Source.faults in
    let held = g.K.Sink.held in
    let faults = g.K.Sink.faults in
    SoFar l.fn.self.talk l.self.talk l.fn.first l.line
    (ears (left l.fn.source) (failed l.fn.source) l.fn.ear)
    (ears (left l.source) (failed l.source) l.ear)
    (mouth (held l.fn.sink) (faults l.fn.sink))
    (mouth (held l.sink) (faults l.sink))
