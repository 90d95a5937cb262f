use Rattle.std.proofs.Common.{◌≡◌, None, sym, subst, rules}
use Rattle.sot_regions.specs.Grains.{IsUnitGrain, HasNoClosedSetAt}
use Rattle.sot_regions.proofs.UnitGrains.{unit_finest, nothing_left, none_closed}
use Rattle.sot_regions.proofs.module.regions_of.Goals as goal

pub returns-then-is_none-clause-none : goal.returns-then-is_none-clause-none
returns-then-is_none-clause-none c = λ grain info same unit at.
    let one : c.grains-grain.result ≡ grain = cc in
    let told : IsUnitGrain c.grains-grain.result = subst IsUnitGrain (sym one) unit in
    let none : c.next.result ≡ None = search rules in
    nothing_left c.args.p.now c.args.jitter c.args.«module» c.of-ask.result c.module_at.result.now info c.in-Some-narrowest_grid.narrowest c.in_ok-set.set
    c.in-Some.hull c.of-ask.ensures.program c.of-ask.ensures.jitter c.of-ask.ensures.info c.module_at.ensures.is at c.in-Some.ensures.least
    c.in-Some-narrowest_grid.ensures.cuts c.in-Some-narrowest_grid.ensures.width (λ k from. (rw none at c.next.ensures) k from)
    (unit_finest c.in-Some-narrowest_grid.narrowest c.grains-grain.result c.grains-grain.ensures.cut c.grains-grain.ensures.told told)
    c.in_ok-set.ensures.none

pub returns-then-is_none-clause-closed : goal.returns-then-is_none-clause-closed
returns-then-is_none-clause-closed c = λ grain info same at.
    let one : c.grains-grain.result ≡ grain = cc in
    let none : c.next.result ≡ None = search rules in
    subst (HasNoClosedSetAt c.args.p.now c.args.jitter info) one
    (none_closed c.args.p.now c.args.jitter c.args.«module» c.of-ask.result c.module_at.result.now info c.in-Some-narrowest_grid.narrowest
    c.in_ok-set.set c.in-Some.hull c.of-ask.ensures.program c.of-ask.ensures.jitter c.of-ask.ensures.info c.module_at.ensures.is at
    c.in-Some.ensures.least c.in-Some-narrowest_grid.ensures.cuts c.in-Some-narrowest_grid.ensures.width (λ k from. (rw none at c.next.ensures) k from)
    c.grains-grain.result c.grains-grain.ensures.cut c.grains-grain.ensures.told c.in_ok-set.ensures.closed)
