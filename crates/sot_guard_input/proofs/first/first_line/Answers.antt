use Rattle.std.proofs.Common.{sym}
use Rattle.sot_text.proofs.FirstLines.{line_found}
use Rattle.sot_guard_input.proofs.Ends.{end_at, no_end}
use Rattle.sot_guard_input.proofs.first.first_line.Goals as goal

pub returns-in-Some-clause-found : goal.returns-in-Some-clause-found
returns-in-Some-clause-found c =
    let bytes = c.args.bytes.now in
    let found = c.in-Some.ensures in
    let k = c.in-Some.before in
    (end_at k bytes found.0.high found.1, sym (line_found k bytes found.0.high found.0.before found.1))

pub returns-in-None-clause-found : goal.returns-in-None-clause-found
returns-in-None-clause-found c = no_end c.args.bytes.now c.in-None.ensures
