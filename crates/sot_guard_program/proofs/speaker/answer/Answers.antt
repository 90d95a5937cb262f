use Rattle.std.proofs.Common.{rules, ◌≡◌, ℕ, List, ◌∙◌}
use Rattle.sot_trace.specs.Traces.{text_of}
use Rattle.sot_guard_program.specs.Moments.{Utters, mouth}
use Rattle.sot_guard_program.specs.Hearing.{CutsOff}
use Rattle.sot_guard_program.proofs.Spooled.{spool_took, spool_cut}
use Rattle.sot_guard_program.proofs.speaker.answer.Goals as goal

pub returns-in-Ok : goal.returns-in-Ok
returns-in-Ok g c =
    let held = g.K.Sink.held in
    let faults = g.K.Sink.faults in
    let sink = c.args.sink.now in
    let hears = c.hear.ensures in
    let text : List ℕ = text_of hears.0 in
    let name = c.in-Ok.ensures.sink ∙ hears.2.0 ∙ c.new-spool.ensures.sink in
    let by : (last : g.row.K.Denot) → last ≡ c.end.new.self.sink.now
    → Utters (mouth (held sink) (faults sink)) (mouth (held last) (faults last)) text =
    λ last same. spool_took held faults sink c.new-spool.result c.hear.new.out c.new-spool.ensures.new text hears.2 c.end.new.self last same
    c.in-Ok.ensures.ends in (
      record { heard = c.hear.result; answer = hears.0; so = hears.1 },
      by _ (search rules),
    )

pub returns-in-Err : goal.returns-in-Err
returns-in-Err g c =
    let held = g.K.Sink.held in
    let faults = g.K.Sink.faults in
    let sink = c.args.sink.now in
    let hears = c.hear.ensures in
    let text : List ℕ = text_of hears.0 in
    let name = c.in-Err.ensures.sink ∙ hears.2.0 ∙ c.new-spool.ensures.sink in
    let by : (last : g.row.K.Denot) → last ≡ c.end.new.self.sink.now
    → CutsOff (mouth (held sink) (faults sink)) (mouth (held last) (faults last)) text =
    λ last same. spool_cut held faults sink c.new-spool.result c.hear.new.out c.new-spool.ensures.new text hears.2 c.end.new.self last same
    c.in-Err.ensures.ends in (
      record { heard = c.hear.result; answer = hears.0; so = hears.1 },
      by _ (search rules),
    )
