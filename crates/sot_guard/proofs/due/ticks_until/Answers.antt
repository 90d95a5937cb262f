use Rattle.std.proofs.Common.{◌+◌, ◌-◌, ◌%◌, ◌≡◌, ap, ◌∙◌, arith}
use Rattle.sot_guard.proofs.Untils.{until_after}
use Rattle.sot_guard.proofs.due.ticks_until.Goals as goal

pub returns-else-past-eq0 : goal.returns-else-past-eq0
returns-else-past-eq0 c =
    let first = c.from-first.ensures in
    let period = c.from.ensures in
    let past : (c.args.time - c.from-first.result) % c.from.result ≡ (c.args.time - c.args.offset) % c.args.period =
    ap (λ o. (c.args.time - o) % c.from.result) first ∙ ap (λ p. (c.args.time - c.args.offset) % p) period in
    until_after c.args.jitter c.args.period c.args.offset c.args.time _ c.requires.offset (omega (arith, first, c.if-time-first.false))
    (λ none. c.if-past-eq0.false (past ∙ none)) (ap (λ n. c.args.period - n + c.args.jitter) past)
