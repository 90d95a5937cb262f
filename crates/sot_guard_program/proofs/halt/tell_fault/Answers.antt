use Rattle.std.proofs.Common.{rules, ◌≡◌, ℕ, List, ◌∙◌}
use Rattle.sot_guard_program.specs.Lines.{at_line}
use Rattle.sot_guard_program.specs.Moments.{mouth}
use Rattle.sot_guard_program.specs.Tellings.{Tells}
use Rattle.sot_guard_program.proofs.Spooled.{spool_told}
use Rattle.sot_guard_program.proofs.halt.tell_fault.Goals as goal

pub returns : goal.returns
returns g c =
    let held = g.K.Sink.held in
    let faults = g.K.Sink.faults in
    let sink = c.args.sink.now in
    let status = c.tell_put.result.0 in
    let text : List ℕ = at_line c.args.line c.args.word.now in
    let puts = c.put_fault.ensures in
    let name = c.tell_put.ensures.sink ∙ puts.0 ∙ c.new-spool.ensures.sink in
    let by : (last : g.row.K.Denot) → last ≡ c.tell_put.new.spool.sink.now
    → Tells 3 text (mouth (held sink) (faults sink)) (mouth (held last) (faults last)) status =
    λ last same. spool_told held faults sink c.new-spool.result c.put_fault.new.out c.new-spool.ensures.new text puts c.tell_put.new.spool
    last same 3 status c.tell_put.ensures.put in
    by _ (search rules)
