use Rattle.sot_regions_program.proofs.AsGiven.{late_last, found_last, failed_last}
use Rattle.sot_regions_program.proofs.as_given.or_as_given.Goals as goal
use Rattle.sot_regions_program.proofs.as_given.or_as_given.Goals.{then-asked-gt0-via-then-asked-gt0, then-asked-gt0-via-else-asked-gt0+then-found-eq0}

pub returns-then-asked-gt0 : goal.returns-then-asked-gt0
returns-then-asked-gt0 c = λ p typed.
    let t = c.args.asked.tables.now in
    let jitter = c.args.asked.jitter in
    let status = c.args.found.status in
    let text = c.args.found.text.items in
    elim c.then-asked-gt0.branch [
      | then-asked-gt0-via-then-asked-gt0 w ↦ late_last p t jitter status text w.if-asked-gt0.true (c.requires.found p typed)
      | then-asked-gt0-via-else-asked-gt0+then-found-eq0 w ↦ found_last p t jitter status text w.if-found-eq0.true (c.requires.found p typed)
    ]

pub returns-in_default : goal.returns-in_default
returns-in_default c = λ p typed.
    failed_last p c.args.asked.tables.now c.args.asked.jitter c.args.found.status c.args.found.text.items c.in-Err.fail c.in_default.not-Memory
    c.in-Err.ensures.answer (c.requires.found p typed)
