use Rattle.std.proofs.Common.{◌≡◌, ◌≤◌, ℤ, List, take, length, ◌∙◌, ap, arith}
use Rattle.sot_regions.specs.Grains.{TellGrains}
use Rattle.sot_regions.proofs.UnitGrains.{all_told}
use Rattle.sot_regions.proofs.module.grains.Goals as goal

pub returns-clause-told : goal.returns-clause-told
returns-clause-told c =
    let grains : List ℤ = c.loop-side.numbers in
    let is : c.unwrap.result ≡ take c.width.result grains = rw c.unwrap.ensures at c.of.ensures in
    let tell : TellGrains c.args.grid.now c.args.grid.now.width grains =
    λ side g less. c.loop-side.invariant side g (omega (arith, less, c.loop-side-test.false, c.width-side-end.ensures.value))
    in
    let long : c.args.grid.now.width ≤ length grains = omega (arith, c.width.array_long, c.width.ensures.few, c.width.ensures.value) in
    all_told c.args.grid.now grains c.unwrap.result tell long (is ∙ ap (λ n. take n grains) c.width.ensures.value)
