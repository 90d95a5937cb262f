-- What the loop of `push_led` keeps.
use Rattle.std.proofs.Common.{◌≡◌, ◌++◌, ◌-◌, ◌+◌, ◌*◌}
use Rattle.std.specs.Prelude.{nat_lt}
use Rattle.std.specs.List.{filter}
use Rattle.sot_maker.specs.NameOrder.{numbers_from}
use Rattle.sot_maker.proofs.order.push_led.Given as goal

-- what stands there, and then what is left
abbrev pub invariant-loop-last : goal.invariant-loop-last
invariant-loop-last l =
    l.order.items ++ filter (λ k. nat_lt k l.n) (numbers_from (10 * l.digit + l.last) (10 - l.last))
    ≡ l.initial.order.items ++ filter (λ k. nat_lt k l.n) (numbers_from (10 * l.digit) 10)
