use Rattle.std.proofs.Common.{rules, ◌≡◌, ℕ, List, ◌∙◌}
use Rattle.sot_guard_lines.specs.Outline.{outline_text}
use Rattle.sot_guard_program.specs.Moments.{Utters, mouth}
use Rattle.sot_guard_program.specs.Hearing.{CutsOff}
use Rattle.sot_guard_program.proofs.Spooled.{spool_took, spool_cut}
use Rattle.sot_guard_program.proofs.describing.tell_outline.Goals as goal

pub returns-in-Ok-clause-well : goal.returns-in-Ok-clause-well
returns-in-Ok-clause-well g c =
    let held = g.K.Sink.held in
    let faults = g.K.Sink.faults in
    let sink = c.args.sink.now in
    let puts = c.put_outline.ensures in
    let text : List ℕ = outline_text c.args.p.now in
    let name = c.in-Ok.ensures.sink ∙ puts.0 ∙ c.new-spool.ensures.sink in
    let by : (last : g.row.K.Denot) → last ≡ c.end.new.self.sink.now
    → Utters (mouth (held sink) (faults sink)) (mouth (held last) (faults last)) text =
    λ last same. spool_took held faults sink c.new-spool.result c.put_outline.new.out c.new-spool.ensures.new text puts c.end.new.self last same
    c.in-Ok.ensures.ends in
    by _ (search rules)

pub returns-in-Err-clause-cut : goal.returns-in-Err-clause-cut
returns-in-Err-clause-cut g c =
    let held = g.K.Sink.held in
    let faults = g.K.Sink.faults in
    let sink = c.args.sink.now in
    let puts = c.put_outline.ensures in
    let text : List ℕ = outline_text c.args.p.now in
    let name = c.in-Err.ensures.sink ∙ puts.0 ∙ c.new-spool.ensures.sink in
    let by : (last : g.row.K.Denot) → last ≡ c.end.new.self.sink.now
    → CutsOff (mouth (held sink) (faults sink)) (mouth (held last) (faults last)) text =
    λ last same. spool_cut held faults sink c.new-spool.result c.put_outline.new.out c.new-spool.ensures.new text puts c.end.new.self last same
    c.in-Err.ensures.ends in
    by _ (search rules)
