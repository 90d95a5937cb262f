use Rattle.std.proofs.Common.{◌≡◌, length, sym, rules}
use Rattle.sot_trace_lines.specs.Readers.{word_at}
use Rattle.sot_trace_lines.proofs.ShownLines.{is_empty, fire_read}
use Rattle.sot_trace_lines.proofs.read.read_fire.Goals as goal

pub returns : goal.returns
returns c =
    let word = c.word_at-word.result in
    let slots = c.in-Some.slots in
    let none : length slots.rest.now ≡ 0 = search rules in
    λ t enabled list is.
    fire_read c.args.p.now list enabled t c.in_ok-node.node word.name.now word.rest.now slots.rest.now (word_at c.args.text.now) c.writes_of.result.now
    c.args.time slots.draft slots.whole c.drafted.result
    (sym c.word_at-word.ensures) (sym c.in_ok-node.ensures.value) c.writes_of.ensures.value c.writes_of.ensures.few (sym c.in-Some.ensures)
    (is_empty slots.rest.now none) c.drafted.ensures is
