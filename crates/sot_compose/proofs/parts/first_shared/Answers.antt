use Rattle.std.proofs.Common.{ℕ, ◌<◌, sym, subst, arith}
use Rattle.sot_rta.proofs.Steps.{one_more, all_below}
use Rattle.sot_compose.specs.Parts.{IsOfOneModule, AreFirstUsers}
use Rattle.sot_compose.proofs.parts.first_shared.Goals as goal

pub returns-in-Some-clause-first : goal.returns-in-Some-clause-first
returns-in-Some-clause-first c =
    subst (λ y. AreFirstUsers c.args.part c.args.modules.now y c.in-Some.clash.a c.in-Some.clash.b
    × ((x : ℕ) → x < y → IsOfOneModule c.args.part c.args.modules.now x))
    (sym c.in-Some.ensures.0) (c.in-Some.ensures.1, c.loop-place.invariant)

pub loop-place-preserved : goal.loop-place-preserved
loop-place-preserved c = one_more (IsOfOneModule c.args.part c.args.modules.now) c.loop-place.place c.loop-place.invariant c.in_default.ensures

pub returns-clause-first : goal.returns-clause-first
returns-clause-first c =
    all_below (IsOfOneModule c.args.part c.args.modules.now) c.loop-place.place c.args.count (omega (arith, c.loop-place-test.false)) c.loop-place.invariant
