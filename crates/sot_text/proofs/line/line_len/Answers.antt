use Rattle.std.proofs.Common.{sym}
use Rattle.sot_text.proofs.FirstLines.{line_found, line_whole}
use Rattle.sot_text.proofs.line.line_len.Goals as goal

pub returns-in-Some-clause-len : goal.returns-in-Some-clause-len
returns-in-Some-clause-len c =
    let bytes = c.args.bytes.now in
    let found = c.in-Some.ensures in
    sym (line_found c.in-Some.before bytes found.0.high found.0.before found.1)

pub returns-in-None-clause-len : goal.returns-in-None-clause-len
returns-in-None-clause-len c = sym (line_whole c.args.bytes.now c.in-None.ensures)
