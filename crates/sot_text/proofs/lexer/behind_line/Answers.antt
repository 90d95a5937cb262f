use Rattle.std.proofs.Common.{◌≡◌, length, drop, ap, ◌∙◌, arith, length-drop}
use Rattle.std.proofs.lemmas.List.{take_rest}
use Rattle.sot_text.specs.LineEnds.{line_len}
use Rattle.sot_text.proofs.Starts.{line_at, column_at, line_ended, line_open}
use Rattle.sot_text.proofs.lexer.behind_line.Goals as goal

pub next_line-place-requires : goal.next_line-place-requires
next_line-place-requires c =
    let line = line_at c.args.bytes.now c.args.start.at c.args.start.place c.requires.place in
    omega (arith, line)

pub further-place-requires : goal.further-place-requires
further-place-requires c =
    let bytes = c.args.bytes.now in
    let column = column_at bytes c.args.start.at c.args.start.place c.requires.place in
    omega (arith, column, c.short_line_len-len.ensures.within, ap length (take_rest bytes c.args.start.at), length-drop c.args.start.at bytes)

pub returns-then-bytes-at-eq10-clause-place : goal.returns-then-bytes-at-eq10-clause-place
returns-then-bytes-at-eq10-clause-place c =
    let bytes = c.args.bytes.now in
    let at = c.args.start.at in
    let k = c.short_line_len-len.result in
    let len : k ≡ line_len (drop at bytes) = c.short_line_len-len.ensures.len ∙ ap line_len (take_rest bytes at) in
    c.next_line-place.ensures ∙ line_ended bytes at k c.args.start.place c.requires.place c.requires.within len c.if-bytes-at-eq10.true

pub returns-else-bytes-at-eq10-clause-place : goal.returns-else-bytes-at-eq10-clause-place
returns-else-bytes-at-eq10-clause-place c =
    let bytes = c.args.bytes.now in
    let at = c.args.start.at in
    let k = c.short_line_len-len.result in
    let len : k ≡ line_len (drop at bytes) = c.short_line_len-len.ensures.len ∙ ap line_len (take_rest bytes at) in
    c.further-place.ensures ∙ line_open bytes at k c.args.start.place c.requires.place c.requires.within len c.if-bytes-at-eq10.false
