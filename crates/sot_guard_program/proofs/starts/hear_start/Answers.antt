use Rattle.std.proofs.Common.{subst}
use Rattle.sot_guard_program.specs.Hearing.{IsNextLine}
use Rattle.sot_guard_program.proofs.NextLine.{first_taken}
use Rattle.sot_guard_program.proofs.starts.hear_start.Goals as goal

pub returns-in-Ok-Some-clause-first : goal.returns-in-Ok-Some-clause-first
returns-in-Ok-Some-clause-first g c =
    let left = g.S.Source.left in
    let failed = g.S.Source.faults in
    let after = left c.next_line.new.source in
    let m = c.next_line.new.ear in
    let ok = c.in-Ok-Some.ensures in
    let line = subst (λ n. IsNextLine n after m) c.in-Ok-Some.field-0-is ok.next in
    let taken = c.take_start.ensures in
    first_taken (left c.args.source.now) after (failed c.args.source.now) (failed c.next_line.new.source) c.args.ear.now m ok.reads c.take_start.new.ear
    ok.well c.in-Ok-Some.len line taken.waiting taken.ended c.args.opening.now c.take_start.new.opening c.take_start.result taken
