use Rattle.std.proofs.Common.{◌≡◌, [], inr, refl, ap, subst, arith}
use Rattle.sot_lang.specs.Tables.{Tables}
use Rattle.sot_guard_lines.specs.Outline.{outline_text}
use Rattle.sot_guard_program.specs.Moments.{ears, mouth, Utters}
use Rattle.sot_guard_program.specs.Hearing.{CutsOff}
use Rattle.sot_guard_program.specs.Says.{SaysRobot, SaysOutline}
use Rattle.sot_guard_program.specs.Beginning.{SaysIn}
use Rattle.sot_guard_program.proofs.Passing.{passes_nil, ended_behind, ended_well}
use Rattle.sot_guard_program.proofs.Judged.{outlined_in_part}
use Rattle.sot_guard_program.proofs.describing.describe.Goals as goal

pub returns-in-Ok : goal.returns-in-Ok
returns-in-Ok g c =
    let acc = c.args.accepted.now in
    let e = ears (g.S.Source.left c.args.source.now) (g.S.Source.faults c.args.source.now) c.args.ear.now in
    let f = ears (g.S.Source.left c.converse.new.source) (g.S.Source.faults c.converse.new.source) c.converse.new.ear in
    let x = mouth (g.K.Sink.held c.args.sink.now) (g.K.Sink.faults c.args.sink.now) in
    let z = mouth (g.K.Sink.held c.tell_outline.new.sink) (g.K.Sink.faults c.tell_outline.new.sink) in
    let y = mouth (g.K.Sink.held c.converse.new.sink) (g.K.Sink.faults c.converse.new.sink) in
    let told = subst (λ (p : Tables). Utters x z (outline_text p)) c.typed.ensures.program c.in-Ok.ensures.well in
    ended_behind (SaysIn (SaysRobot c.args.time acc)) (SaysIn (SaysOutline c.args.time acc)) e e f x z y [] (outline_text acc.program) c.converse.result.0 (passes_nil e) told
    (λ said bytes text says. (text, refl, says)) c.converse.ensures

pub returns-in-Err : goal.returns-in-Err
returns-in-Err g c =
    let acc = c.args.accepted.now in
    let e = ears (g.S.Source.left c.args.source.now) (g.S.Source.faults c.args.source.now) c.args.ear.now in
    let x = mouth (g.K.Sink.held c.args.sink.now) (g.K.Sink.faults c.args.sink.now) in
    let y = mouth (g.K.Sink.held c.tell_outline.new.sink) (g.K.Sink.faults c.tell_outline.new.sink) in
    let cut = subst (λ (p : Tables). CutsOff x y (outline_text p)) c.typed.ensures.program c.in-Err.ensures.cut in
    ended_well (SaysIn (SaysOutline c.args.time acc)) e e x y [] (outline_text acc.program) 4 5 (passes_nil e) (λ four. absurd (omega arith))
    (outlined_in_part c.args.time acc e) (inr (refl, cut.0, cut.1))
