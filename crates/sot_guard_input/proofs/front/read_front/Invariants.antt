use Rattle.std.proofs.Common.{◌≡◌, ◌+◌, ◌-◌, ◌≤◌, true, false, [], take, drop, vec_len}
use Rattle.sot_guard_input.specs.Waiting.{has_end}
use Rattle.sot_guard_input.specs.Reading.{Reads, ends_line}
use Rattle.sot_guard_input.specs.Fronts.{HasNone}
use Rattle.sot_guard_input.proofs.front.read_front.Given as goal

-- whole lines, none of which says what is looked for, and behind them a part of a line
abbrev pub invariant-pieces : goal.invariant-pieces
invariant-pieces g l =
    let left = g.S.Source.left in
    let faults = g.S.Source.faults in
    record {
      reads : Reads (left l.fn.source) (left l.source) [] l.ear.buffer l.text.items;
      whole : ends_line (take l.start l.text.items) ≡ true;
      none : HasNone (take l.start l.text.items);
      part : has_end (drop l.start l.text.items) ≡ false;
      within : l.start ≤ vec_len l.text;
      short : vec_len l.text ≤ l.limit;
      open_ : l.ear.ended ≡ false;
      well : faults l.source ≡ faults l.fn.source;
    }

abbrev pub decreases-pieces : goal.decreases-pieces
decreases-pieces g l = l.limit + 1 - vec_len l.text
