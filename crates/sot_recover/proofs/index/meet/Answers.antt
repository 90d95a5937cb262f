use Rattle.std.proofs.Common.{◌≡◌, ⊎_elim, refl, subst, arith}
use Rattle.std.specs.Prelude.{◌≤ℤ◌}
use Rattle.std.proofs.lemmas.Bool.{cases_eq, false≢true}
use Rattle.std.proofs.lemmas.Option.{slice_get_within}
use Rattle.sot_lists.specs.Places.{At}
use Rattle.sot_lists.proofs.Places.{at_same}
use Rattle.sot_box.specs.Sides.{Side}
use Rattle.sot_recover.proofs.index.meet.Goals as goal

pub loop-i-preserved : goal.loop-i-preserved
loop-i-preserved c k r q below at_r at_q = ⊎_elim
    (λ (here : k ≡ c.loop-i.i).
    let er : c.side.result ≡ r = at_same c.args.a.now c.loop-i.i c.side.result r c.side.ensures (subst (λ n. At c.args.a.now n r) here at_r) in
    let eq : c.side-in-loop-i.result ≡ q = at_same c.args.b.now c.loop-i.i c.side-in-loop-i.result q c.side-in-loop-i.ensures
    (subst (λ n. At c.args.b.now n q) here at_q) in
    let h : (c.side.result.lo ≤ℤ c.side-in-loop-i.result.hi) × (c.side-in-loop-i.result.lo ≤ℤ c.side.result.hi) = c.if-not-touch.ensures.0 refl in
    subst (λ (x : Side). (r.lo ≤ℤ x.hi) × (x.lo ≤ℤ r.hi)) eq
    (subst (λ (x : Side). (x.lo ≤ℤ c.side-in-loop-i.result.hi) × (c.side-in-loop-i.result.lo ≤ℤ x.hi)) er h))
    (λ (ne : k ≡ c.loop-i.i → ⊥). c.loop-i.invariant k r q (omega (arith, below, ne)) at_r at_q)
    (cases_eq k c.loop-i.i)

pub returns-then-not-touch : goal.returns-then-not-touch
returns-then-not-touch c = (
  λ t. absurd (false≢true t),
  λ m. c.if-not-touch.ensures.1 (m c.loop-i.i c.side.result c.side-in-loop-i.result c.side.ensures c.side-in-loop-i.ensures),
)

pub returns : goal.returns
returns c = (
  λ t k r q at_r at_q. (let a = slice_get_within c.args.a.now k r at_r in let b = slice_get_within c.args.b.now k q at_q in let x = c.len.ensures.value in
      let y = c.len-2.ensures.value in let e = c.min-i-end.ensures in let end = c.loop-i-test.false in
      c.loop-i.invariant k r q (omega (arith, a, b, x, y, e, end)) at_r at_q),
  λ m. refl,
)
