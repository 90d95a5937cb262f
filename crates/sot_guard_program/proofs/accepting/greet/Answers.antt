use Rattle.std.proofs.Common.{◌≡◌, refl, inr}
use Rattle.sot_report.specs.AcceptedTexts.{accepted_text}
use Rattle.sot_guard_program.specs.Moments.{ears, mouth}
use Rattle.sot_guard_program.specs.Beginning.{SaysAccepted}
use Rattle.sot_guard_program.proofs.Judged.{greeted, greeted_in_part}
use Rattle.sot_guard_program.proofs.Results.{silent}
use Rattle.sot_guard_program.proofs.accepting.greet.Goals as goal

pub returns-in-Err : goal.returns-in-Err
returns-in-Err g c = silent (SaysAccepted c.args.time c.args.accepted.now) _ _ (inr (refl, refl))

pub returns-in-Err-room : goal.returns-in-Err-room
returns-in-Err-room g c = silent (SaysAccepted c.args.time c.args.accepted.now) _ _ (inr (refl, refl))

pub returns-in-Ok-write_whole : goal.returns-in-Ok-write_whole
returns-in-Ok-write_whole g c =
    let acc = c.args.accepted.now in
    let e = ears (g.S.Source.left c.args.source.now) (g.S.Source.faults c.args.source.now) c.args.ear.now in
    let f = ears (g.S.Source.left c.describe.new.source) (g.S.Source.faults c.describe.new.source) c.describe.new.ear in
    let x = mouth (g.K.Sink.held c.args.sink.now) (g.K.Sink.faults c.args.sink.now) in
    let z = mouth (g.K.Sink.held c.write_whole.new.sink) (g.K.Sink.faults c.write_whole.new.sink) in
    let y = mouth (g.K.Sink.held c.describe.new.sink) (g.K.Sink.faults c.describe.new.sink) in
    let is : c.as_bytes.result.now ≡ accepted_text acc.program acc.cert
    = cc (c.in-Ok.ensures, c.as_bytes.ensures.value, c.typed.ensures.program, c.requires.cert) in
    let wrote = c.in-Ok-write_whole.ensures in
    greeted e f x y c.describe.result.0 c.args.time acc z c.as_bytes.result.now (record { taken = wrote.ok; well = wrote.well }) is c.describe.ensures

pub returns : goal.returns
returns g c =
    let acc = c.args.accepted.now in
    let e = ears (g.S.Source.left c.args.source.now) (g.S.Source.faults c.args.source.now) c.args.ear.now in
    let x = mouth (g.K.Sink.held c.args.sink.now) (g.K.Sink.faults c.args.sink.now) in
    let y = mouth (g.K.Sink.held c.write_whole.new.sink) (g.K.Sink.faults c.write_whole.new.sink) in
    let is : c.as_bytes.result.now ≡ accepted_text acc.program acc.cert
    = cc (c.in-Ok.ensures, c.as_bytes.ensures.value, c.typed.ensures.program, c.requires.cert) in
    let part = c.in-Err-write_whole.ensures in
    greeted_in_part c.args.time acc e x y c.as_bytes.result.now c.in-Err-write_whole.field-0.sent is part.fault part.sent part.partial
