use Rattle.std.proofs.Common.{sym, ap, ◌∙◌}
use Rattle.sot_tube.specs.Admitted.{Admitted}
use Rattle.sot_guard_program.specs.Moments.{ears, mouth}
use Rattle.sot_guard_program.proofs.Conversed.{silent_first, conversed_in_part, conversed, accepted_same, still_certified}
use Rattle.sot_guard_program.proofs.talking.converse.Goals as goal

pub returns-in-Err : goal.returns-in-Err
returns-in-Err g c =
    silent_first c.args.time c.args.accepted.now (ears (g.S.Source.left c.args.source.now) (g.S.Source.faults c.args.source.now) c.args.ear.now)
    (mouth (g.K.Sink.held c.args.sink.now) (g.K.Sink.faults c.args.sink.now))

pub begin-requires-clause-program : goal.begin-requires-clause-program
begin-requires-clause-program g c =
    let new = c.hear_starts.new in
    let e = ears (g.S.Source.left c.args.source.now) (g.S.Source.faults c.args.source.now) c.args.ear.now in
    let m = ears (g.S.Source.left new.source) (g.S.Source.faults new.source) new.ear in
    let first = c.in-Ok.ensures in
    let same = accepted_same c.args.time c.args.accepted.now c.in-Ok.opening first.accepted first.none new.opening e m c.in-Ok-hear_starts.ensures in
    ap (λ (x : Admitted). x.program) same ∙ sym c.typed-p.ensures.program

pub begin-requires-clause-certified : goal.begin-requires-clause-certified
begin-requires-clause-certified g c =
    let new = c.hear_starts.new in
    let e = ears (g.S.Source.left c.args.source.now) (g.S.Source.faults c.args.source.now) c.args.ear.now in
    let m = ears (g.S.Source.left new.source) (g.S.Source.faults new.source) new.ear in
    let first = c.in-Ok.ensures in
    still_certified c.args.time c.args.accepted.now c.in-Ok.opening first.accepted first.none new.opening e m c.in-Ok-hear_starts.ensures c.typed-p.result.now
    c.typed-p.ensures.program c.requires.certified

pub returns-in-Ok-hear_starts : goal.returns-in-Ok-hear_starts
returns-in-Ok-hear_starts g c =
    let new = c.hear_starts.new in
    let last = c.begin.new in
    let e = ears (g.S.Source.left c.args.source.now) (g.S.Source.faults c.args.source.now) c.args.ear.now in
    let m = ears (g.S.Source.left new.source) (g.S.Source.faults new.source) new.ear in
    let f = ears (g.S.Source.left last.source) (g.S.Source.faults last.source) last.ear in
    let x = mouth (g.K.Sink.held c.args.sink.now) (g.K.Sink.faults c.args.sink.now) in
    let y = mouth (g.K.Sink.held last.sink) (g.K.Sink.faults last.sink) in
    let first = c.in-Ok.ensures in
    conversed c.args.time c.args.accepted.now c.in-Ok.opening first.accepted first.none new.opening e m c.in-Ok-hear_starts.ensures f x y c.begin.result.0
    c.begin.ensures

pub returns-in-Err-hear_starts : goal.returns-in-Err-hear_starts
returns-in-Err-hear_starts g c =
    let new = c.hear_starts.new in
    let e = ears (g.S.Source.left c.args.source.now) (g.S.Source.faults c.args.source.now) c.args.ear.now in
    let f = ears (g.S.Source.left new.source) (g.S.Source.faults new.source) new.ear in
    let x = mouth (g.K.Sink.held c.args.sink.now) (g.K.Sink.faults c.args.sink.now) in
    let y = mouth (g.K.Sink.held c.stopped.new.sink) (g.K.Sink.faults c.stopped.new.sink) in
    let first = c.in-Ok.ensures in
    conversed_in_part c.args.time c.args.accepted.now c.in-Ok.opening first.accepted first.none e f x y c.stopped.result.0 c.in-Err-hear_starts.halt
    c.in-Err-hear_starts.ensures c.stopped.ensures
