-- What the loop of `by_name` keeps.
use Rattle.std.proofs.Common.{◌≡◌, ◌++◌, ◌-◌}
use Rattle.std.specs.Prelude.{nat_lt}
use Rattle.std.specs.List.{filter, flat_map}
use Rattle.sot_maker.specs.NameOrder.{numbers_from, led_by, by_name}
use Rattle.sot_maker.proofs.order.by_name.Given as goal

-- what stands there, and then what is left
abbrev pub invariant-loop-digit : goal.invariant-loop-digit
invariant-loop-digit l = l.order.items ++ filter (λ k. nat_lt k l.n) (flat_map led_by (numbers_from l.digit (10 - l.digit))) ≡ by_name l.n
