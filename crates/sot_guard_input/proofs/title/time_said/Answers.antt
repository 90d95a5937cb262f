use Rattle.std.proofs.Common.{◌≡◌, ◌≤◌, ◌<◌, ◌^◌, true, arith, rules}
use Rattle.sot_guard_input.specs.Marks.{is_numeral}
use Rattle.sot_guard_input.proofs.Marks.{said_time, late_time}
use Rattle.sot_guard_input.proofs.title.time_said.Goals as goal

pub returns-then-time-gt-LAST_TIME : goal.returns-then-time-gt-LAST_TIME
returns-then-time-gt-LAST_TIME c =
    let digits : is_numeral c.args.text.now ≡ true = search rules in
    let late : 10 ^ 12 < c.numeral_of-time.result.mantissa = omega (arith, c.if-time-gt-LAST_TIME.true) in
    late_time c.args.text.now c.numeral_of-time.result.mantissa digits c.numeral_of-time.ensures.mantissa late

pub returns : goal.returns
returns c =
    let digits : is_numeral c.args.text.now ≡ true = search rules in
    let soon : c.numeral_of-time.result.mantissa ≤ 10 ^ 12 = omega (arith, c.if-time-gt-LAST_TIME.false) in
    said_time c.args.text.now c.numeral_of-time.result.mantissa digits c.numeral_of-time.ensures.mantissa soon
