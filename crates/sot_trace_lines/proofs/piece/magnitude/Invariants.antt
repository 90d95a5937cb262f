use Rattle.std.proofs.Common.{◌≡◌, ◌-◌, ◌≤◌, ◌^◌, min, drop}
use Rattle.sot_text.specs.Lexeme.{value, with_digits}
use Rattle.sot_trace_lines.proofs.piece.magnitude.Given as goal

abbrev pub invariant-loop-digit : goal.invariant-loop-digit
invariant-loop-digit l = record {
  small : l.sum ≤ 2 ^ 64 - 1;
  same : min (with_digits l.sum (drop l.digit-index l.digits)) (2 ^ 64 - 1) ≡ min (value l.digits) (2 ^ 64 - 1);
}
