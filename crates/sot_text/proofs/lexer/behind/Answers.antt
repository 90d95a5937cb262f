use Rattle.std.proofs.Common.{ap, ◌∙◌, arith}
use Rattle.sot_text.specs.Reading.{next_from}
use Rattle.sot_text.proofs.Starts.{line_at, column_at, comment_behind, byte_ended, byte_open}
use Rattle.sot_text.proofs.lexer.behind.Goals as goal
use Rattle.sot_text.proofs.lexer.behind.Goals.{then-b-eq10, else-b-eq10}

pub next_line-place-requires : goal.next_line-place-requires
next_line-place-requires c =
    let line = line_at c.args.bytes.now c.args.start.at c.args.start.place c.requires.place in
    omega (arith, line)

pub further-place-requires : goal.further-place-requires
further-place-requires c =
    let column = column_at c.args.bytes.now c.args.start.at c.args.start.place c.requires.place in
    omega (arith, column)

pub returns-then-b-eq35-clause-same : goal.returns-then-b-eq35-clause-same
returns-then-b-eq35-clause-same c =
    ap (next_from c.args.bytes.now) c.behind_line.ensures.at ∙ comment_behind c.args.bytes.now c.args.start.at 0 c.requires.within c.if-b-eq35.true

pub returns-after-b-eq10-clause-place : goal.returns-after-b-eq10-clause-place
returns-after-b-eq10-clause-place c =
    let bytes = c.args.bytes.now in
    let at = c.args.start.at in
    let p = c.args.start.place in
    elim c.if-b-eq10.branch [
      | then-b-eq10 w ↦ w.place-is ∙ w.next_line-place.ensures ∙ byte_ended bytes at 0 p c.requires.place c.requires.within w.if-b-eq10.true
      | else-b-eq10 w ↦ w.place-is ∙ w.further-place.ensures ∙ byte_open bytes at 0 p c.requires.place c.requires.within w.if-b-eq10.false
    ]
