use Rattle.std.proofs.Common.{sym, ap, ◌∙◌, arith}
use Rattle.sot_trace_lines.specs.Kept.{kept_row}
use Rattle.sot_trace_lines.specs.Room.{IsFull}
use Rattle.sot_trace_lines.proofs.KeptRows.{no_comma, no_further, kept_further}
use Rattle.sot_trace_lines.proofs.Room.{when_failed, taken_on, full_on}
use Rattle.sot_trace_lines.proofs.row.further_at.Goals as goal

pub returns-in_default-clause-read : goal.returns-in_default-clause-read
returns-in_default-clause-read c =
    ap (kept_row (c.loop-i.numbers.items, c.loop-i.whole)) (sym
    (no_comma c.args.count c.loop-i._i c.loop-i.rest.now c.loop-i-test.true (sym c.in_default.ensures)))
    ∙ c.loop-i.invariant.read

pub returns-in_default-clause-room : goal.returns-in_default-clause-room
returns-in_default-clause-room c = record {
  len = omega (arith, c.loop-i.invariant.len, c.loop-i.invariant.within);
  capacity = c.loop-i.invariant.capacity;
}

pub returns-in_default-number_at-clause-read : goal.returns-in_default-number_at-clause-read
returns-in_default-number_at-clause-read c =
    ap (kept_row (c.loop-i.numbers.items, c.loop-i.whole))
    (sym (no_further c.args.count c.loop-i._i c.loop-i.rest.now c.in-Some.text.now c.loop-i-test.true (sym c.in-Some.ensures)
    (sym c.in_default-number_at.ensures)))
    ∙ c.loop-i.invariant.read

pub returns-in_default-number_at-clause-room : goal.returns-in_default-number_at-clause-room
returns-in_default-number_at-clause-room c = record {
  len = omega (arith, c.loop-i.invariant.len, c.loop-i.invariant.within);
  capacity = c.loop-i.invariant.capacity;
}

pub returns-in_err-whole-clause-room : goal.returns-in_err-whole-clause-room
returns-in_err-whole-clause-room c =
    taken_on c.args.count c.loop-i._i c.args.numbers.now c.loop-i.numbers c.keep.new.numbers c.loop-i-test.true c.loop-i.invariant.len
    c.loop-i.invariant.capacity c.in_err-whole.ensures.room

pub returns-in_err-whole-clause-full : goal.returns-in_err-whole-clause-full
returns-in_err-whole-clause-full c =
    when_failed (IsFull c.args.count c.args.numbers.now) c.from_residual.result (full_on c.args.count c.loop-i._i c.args.numbers.now c.loop-i.numbers
    c.keep.new.numbers c.loop-i-test.true c.loop-i.invariant.len c.loop-i.invariant.capacity c.in_err-whole.ensures.full)

pub returns-clause-room : goal.returns-clause-room
returns-clause-room c = record {
  len = omega (arith, c.loop-i.invariant.len, c.loop-i.invariant.within);
  capacity = c.loop-i.invariant.capacity;
}

pub loop-i-preserved : goal.loop-i-preserved
loop-i-preserved c =
    let number = c.in-Some-number_at.number in
    let k = c.loop-i.invariant in
    record {
      read =
          kept_further c.args.count c.loop-i._i (c.loop-i.numbers.items, c.loop-i.whole) (c.keep.new.numbers.items, c.in_ok-whole.whole)
          c.loop-i.rest.now c.in-Some.text.now number.value number.rest.now
          c.loop-i-test.true (sym c.in-Some.ensures) (sym c.in-Some-number_at.ensures) c.in_ok-whole.ensures.kept
          ∙ k.read;
      within = omega (arith, c.loop-i-test.true);
      len = omega (arith, k.len, c.in_ok-whole.ensures.room.len);
      capacity = omega (arith, k.capacity, c.in_ok-whole.ensures.room.capacity);
    }
