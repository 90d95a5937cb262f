use Rattle.std.proofs.Common.{◌≡◌, ◌<◌, ⊎_elim, [], length, refl, ap, subst, arith}
use Rattle.std.specs.Prelude.{slice_index_or, vec_len}
use Rattle.std.proofs.lemmas.Bool.{cases_lt, false≢true}
use Rattle.std.proofs.lemmas.Option.{slice_get_read, slice_get_within}
use Rattle.sot_lists.specs.Places.{At}
use Rattle.sot_lists.proofs.Places.{at_same, read_or}
use Rattle.sot_guard.proofs.hear.have_widths.Goals as goal

pub returns-then-len : goal.returns-then-len
returns-then-len c =
    let k = c.loop-k.k in
    let info = c.index-plants-k.result in
    let at_p = slice_get_read c.args.plants.now (length c.args.plants.now) k info refl c.loop-k-test.true c.index-plants-k.is in
    let lt : k < length c.args.points.now = omega (arith, c.loop-k-test.true, c.requires) in
    let point = ap length (read_or c.args.points.now k c.index-points-k.result [] lt c.index-points-k.is) in
    let width = c.len.ensures.value in
    let states = c.len-in-loop-k.ensures in
    let kept = info.states.ok.0 in
    let own = ap (λ x. vec_len x.states) c.index-plants-k.is in
    let differ = c.if-len.true in (
      λ f. absurd (false≢true f),
      λ all. (let here = all k info at_p in absurd (omega (arith, here, point, width, states, own, kept, differ))),
    )

pub loop-k-preserved : goal.loop-k-preserved
loop-k-preserved c = λ j plant lt at_j.
    let k = c.loop-k.k in
    let info = c.index-plants-k.result in
    let at_p = slice_get_read c.args.plants.now (length c.args.plants.now) k info refl c.loop-k-test.true c.index-plants-k.is in
    let below : k < length c.args.points.now = omega (arith, c.loop-k-test.true, c.requires) in
    let point = ap length (read_or c.args.points.now k c.index-points-k.result [] below c.index-points-k.is) in
    let width = c.len.ensures.value in
    let states = c.len-in-loop-k.ensures in
    let kept = info.states.ok.0 in
    let own = ap (λ x. vec_len x.states) c.index-plants-k.is in
    let alike = c.if-len.false in
    let here : length (slice_index_or c.args.points.now k []) ≡ length info.states.items = omega (arith, point, width, states, own, kept, alike) in
    ⊎_elim
    (λ before. c.loop-k.invariant j plant before at_j)
    (λ more.
    let e : k ≡ j = omega (arith, lt, more) in
    let same : info ≡ plant = at_same c.args.plants.now j info plant (subst (λ n. At c.args.plants.now n info) e at_p) at_j in
    subst (λ q. length (slice_index_or c.args.points.now j []) ≡ length q.states.items) same
    (subst (λ n. length (slice_index_or c.args.points.now n []) ≡ length info.states.items) e here))
    (cases_lt j k)

pub returns : goal.returns
returns c = (
  (λ t k plant at. (let lt = slice_get_within c.args.plants.now k plant at in c.loop-k.invariant k plant (omega (arith, lt, c.loop-k-test.false)) at)),
  (λ all. refl),
)
