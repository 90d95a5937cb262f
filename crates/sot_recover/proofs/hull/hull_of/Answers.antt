use Rattle.std.proofs.Common.{◌≡◌, ⊎_elim, refl, ap, ◌∙◌, subst, arith, length}
use Rattle.std.proofs.lemmas.Option.{slice_get_within}
use Rattle.std.proofs.lemmas.Bool.{cases_eq}
use Rattle.sot_lists.specs.Places.{At}
use Rattle.sot_lists.proofs.Places.{at_same, at_below, read_at}
use Rattle.sot_recover.specs.Meeting.{IsAround}
use Rattle.sot_recover.proofs.Sides.{around_on}
use Rattle.sot_recover.proofs.hull.hull_of.Goals as goal

pub widened-hull-requires : goal.widened-hull-requires
widened-hull-requires c =
    let l = c.loop-i in
    let first = at_below c.args.boxes.now 0 c.requires.some in
    let here : At c.args.boxes.now l.i c.index-boxes-i.result =
    read_at c.args.boxes.now c.args.boxes.now l.i c.index-boxes-i.result refl c.loop-i-test.true c.index-boxes-i.is in
    (l.invariant.around 0 first.0 l.invariant.some first.1).0 ∙ c.requires.widths 0 l.i first.0 c.index-boxes-i.result first.1 here

pub loop-i-preserved : goal.loop-i-preserved
loop-i-preserved c =
    let l = c.loop-i in
    let w = c.widened-hull.ensures in
    let next = c.widened-hull.result in
    let here : At c.args.boxes.now l.i c.index-boxes-i.result =
    read_at c.args.boxes.now c.args.boxes.now l.i c.index-boxes-i.result refl c.loop-i-test.true c.index-boxes-i.is in
    let first = at_below c.args.boxes.now 0 c.requires.some in
    let wide : length l.hull ≡ length c.index-boxes-i.result = (l.invariant.around 0 first.0 l.invariant.some first.1).0
    ∙ c.requires.widths 0 l.i first.0 c.index-boxes-i.result first.1 here in
    record {
      around = λ j b below at. ⊎_elim
          (λ (same : j ≡ l.i). let e : c.index-boxes-i.result ≡ b =
          at_same c.args.boxes.now l.i c.index-boxes-i.result b here (subst (λ n. At c.args.boxes.now n b) same at) in
          (w.width ∙ wide ∙ ap length e, subst (IsAround next) e w.second))
          (λ (ne : j ≡ l.i → ⊥). let o = l.invariant.around j b (omega (arith, below, ne)) at in (w.width ∙ o.0, around_on next l.hull b o.0 w.first o.1))
          (cases_eq j l.i);
      single = λ b is. let lt = c.loop-i-test.true in let one = ap length is in let some = l.invariant.some in absurd (omega (arith, lt, one, some));
      some = omega arith;
    }

pub returns-clause-around : goal.returns-clause-around
returns-clause-around c j b at =
    (let lt = slice_get_within c.args.boxes.now j b at in let end = c.loop-i-test.false in c.loop-i.invariant.around j b (omega (arith, lt, end)) at)
