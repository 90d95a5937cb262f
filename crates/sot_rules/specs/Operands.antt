-- What is kept of the operands of a call, one after another.
use Rattle.std.specs.Prelude.{false, ◌||◌, if◌then◌else◌}
use Rattle.sot_rules.specs.declared.expressions.operands.Operands.{Operands}
use Rattle.sot_rules.specs.declared.expressions.sort.Sort.{Sort}
use Rattle.sot_rules.specs.declared.expressions.sort.Sort.TheVariants.{Truthful, Anything}
use Rattle.sot_rules.specs.Sorts.{is_truthful, is_scaled, differ, given}

abbrev pub no_operand : Operands
no_operand = record { truth = false; differ = false; last = Anything; sort = Truthful }

abbrev pub with_operand : Operands → Sort → Operands
with_operand o a = record {
  truth = o.truth || is_truthful a;
  differ = o.differ || differ o.last a;
  last = if is_scaled a then a else o.last;
  sort = given o.sort a;
}
