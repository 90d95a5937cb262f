use Rattle.std.proofs.Common.{rules, ◌≡◌, ℕ, List, ◌∙◌, subst}
use Rattle.sot_guard_program.specs.Moments.{mouth}
use Rattle.sot_guard_program.specs.Says.{end_status}
use Rattle.sot_guard_program.specs.Tellings.{Tells, last_text}
use Rattle.sot_guard_program.proofs.Spooled.{spool_told}
use Rattle.sot_guard_program.proofs.speaker.tell_end.Goals as goal

pub returns : goal.returns
returns g c =
    let held = g.K.Sink.held in
    let faults = g.K.Sink.faults in
    let sink = c.args.sink.now in
    let status = c.tell_put.result.0 in
    let u = c.args.talk.now in
    let text : List ℕ = last_text u in
    let puts = c.end.ensures in
    let name = c.tell_put.ensures.sink ∙ puts.0 ∙ c.new-spool.ensures.sink in
    let by : (last : g.row.K.Denot) → last ≡ c.tell_put.new.spool.sink.now
    → Tells (end_status u) text (mouth (held sink) (faults sink)) (mouth (held last) (faults last)) status =
    λ last same. subst (λ (said : ℕ). Tells said text (mouth (held sink) (faults sink)) (mouth (held last) (faults last)) status)
    c.end_status-status.ensures
    (spool_told held faults sink c.new-spool.result c.end.new.out c.new-spool.ensures.new text puts c.tell_put.new.spool last same
    c.end_status-status.result status c.tell_put.ensures.put) in
    by _ (search rules)
