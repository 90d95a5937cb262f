use Rattle.std.proofs.Common.{◌<◌, ⊎_elim, sym, subst, arith, length}
use Rattle.sot_lists.specs.Places.{Has}
use Rattle.sot_lists.proofs.Places.{has_cases}
use Rattle.sot_recover.specs.Sets.{with_places}
use Rattle.sot_recover.proofs.Sets.{passed, set_below, with_flag}
use Rattle.sot_recover.proofs.shrinking.take.Goals as goal

pub returns-clause-land : goal.returns-clause-land
returns-clause-land g c k e =
    let lands = g.L.Landing.lands c.args.places.now in
    let near = c.put_all_hanging.new.near.items in
    let t = c.in_ok-test_all.ensures in
    let below : k < length c.args.marked.now =
    (let a = set_below c.test_all.new.set k e in let s = t.size in let m = c.requires.marked_size in omega (arith, a, s, m)) in
    ⊎_elim
    (λ (h : Has near k). t.here k (subst (λ xs. Has xs k) (sym c.deref-2.ensures.value) h) e)
    (λ (none : Has near k → ⊥). c.requires.more c.args.set.now (with_places c.test_all.new.set c.test_all.new.leaving.items) k
    (λ q s. t.thinned.either q (with_flag c.args.set.now c.clear.new.self.items q s))
    (passed lands (g.L.Landing.hangs c.args.places.now) c.args.set.now c.args.leaving.now.items k c.requires.more c.requires.hanging
    (λ j left hang. none (c.in_ok-put_all_hanging.ensures.near j k (subst (λ xs. Has xs j) (sym c.deref.ensures.value) left) hang below))
    (c.requires.land k (t.thinned.fewer k e))))
    (has_cases near k)
