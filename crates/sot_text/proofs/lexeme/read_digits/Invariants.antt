use Rattle.std.proofs.Common.{◌≡◌, ◌+◌, ◌-◌, ◌≤◌, ◌^◌, length, drop}
use Rattle.sot_text.specs.Lexeme.{digits_len}
use Rattle.sot_text.proofs.Digits.{read_on}
use Rattle.sot_text.proofs.lexeme.read_digits.Given as goal

abbrev pub invariant-loop-len : goal.invariant-loop-len
invariant-loop-len l = record {
  within : l.len ≤ length l.bytes;
  small : l.value ≤ 10 ^ 12 + 1;
  count : l.len + digits_len (drop l.len l.bytes) ≡ digits_len l.bytes;
  same : read_on l.value (drop l.len l.bytes) ≡ read_on l.start l.bytes;
}

abbrev pub decreases-loop-len : goal.decreases-loop-len
decreases-loop-len l = length l.bytes - l.len
