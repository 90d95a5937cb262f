use Rattle.std.proofs.Common.{refl}
use Rattle.std.proofs.KnownBytes.{Keeps-refl}
use Rattle.sot_ports.specs.Outside.{outside}
use Rattle.sot_regions_program.proofs.Endings.{ends_said, ends_silent, is_said}
use Rattle.sot_regions_program.proofs.top.regions.Goals as goal

pub returns-in-Ok-clause-ends : goal.returns-in-Ok-clause-ends
returns-in-Ok-clause-ends g c =
    ends_said _ _ _ c.in-Ok.answer.text.items c.in-Ok.answer.status _ c.in-Ok.ensures.ok c.in-Ok.ensures.well c.say.ensures

pub returns-in-Ok-clause-unwritten : goal.returns-in-Ok-clause-unwritten
returns-in-Ok-clause-unwritten g c = λ silent.
    let left = g.S.Source.left in
    let held = g.K.Sink.held in
    let read = g.S.Source.faults in
    let wrote = g.K.Sink.faults in
    absurd (is_said c.args.words.now (outside (left c.args.source.now) (held c.args.sink.now) (read c.args.source.now) (wrote c.args.sink.now))
    (outside (left c.answer_to.new.source) (held c.say.new.sink) (read c.answer_to.new.source) (wrote c.say.new.sink))
    c.in-Ok.answer.text.items c.in-Ok.answer.status c.say.result.0 c.in-Ok.ensures.ok c.say.ensures silent)

pub returns-in-Err-clause-ends : goal.returns-in-Err-clause-ends
returns-in-Err-clause-ends g c = ends_silent _ _ _ c.in-Err.status.0 c.in-Err.ensures.err refl (Keeps-refl (g.K.Sink.held c.args.sink.now))
