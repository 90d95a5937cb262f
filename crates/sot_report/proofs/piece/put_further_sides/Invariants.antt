-- What the loop of `put_further_sides` keeps.
use Rattle.std.proofs.Common.{◌≡◌, ◌++◌, drop}
use Rattle.sot_report.specs.Pieces.{further, side_text}
use Rattle.sot_report.proofs.piece.put_further_sides.Given as goal

-- what is written, and then what is left
abbrev pub invariant-loop-i : goal.invariant-loop-i
invariant-loop-i l = l.text.items ++ further side_text (drop l.i l.fn.area) ≡ l.initial.text.items ++ further side_text (drop 1 l.fn.area)
