use Rattle.std.proofs.Common.{arith, ◌≡◌, suc, ◌<◌, ◌≤◌, ◌+◌, ⊎_elim, ◌↔◌, length, sym, ap, ◌∙◌, subst}
use Rattle.std.proofs.lemmas.List.{get_or-set_same, get_or-set_other, length-set}
use Rattle.std.proofs.lemmas.Bool.{cases_eq}
use Rattle.std.specs.Prelude.{slice_index_or, slice_set, MatchBool, IsTrue}
use Rattle.sot_lists.proofs.Places.{at_below}
use Rattle.sot_monitor.specs.Standing.{last_of, NowBy, IsLast}
use Rattle.sot_monitor.proofs.Now.{noted_more, part_inside}
use Rattle.sot_monitor.proofs.stepping.step.Goals as goal

pub returns-clause-stands : goal.returns-clause-stands
returns-clause-stands g c = λ Ms size lasts i f part.
    let there = part_inside c.args.whats.now i f part in
    c.loop-i.invariant.done Ms size lasts i f (omega (arith, there, c.loop-i-test.false)) part

pub loop-i-preserved : goal.loop-i-preserved
loop-i-preserved g c =
    let l = c.loop-i in
    let x = c.noted.result in
    let room : l.i < length l.lasts = omega (arith, l.invariant.size, c.loop-i-test.true) in
    record {
      size = length-set l.lasts l.i x ∙ l.invariant.size;
      small = λ k d lt. ⊎_elim
          (λ (here : k ≡ l.i). (let now : c.args.added + 1 ≤ 100001 = omega (arith, c.requires.few) in let own = l.invariant.small l.i 0 room in
          let few = c.noted.ensures.few now own in
          let e : slice_index_or (slice_set l.lasts l.i x) k d ≡ x = ap (λ j. slice_index_or (slice_set l.lasts l.i x) j d) here
          ∙ get_or-set_same l.lasts l.i x d room in omega (arith, e, few)))
          (λ (other : k ≡ l.i → ⊥). (let e = get_or-set_other l.lasts l.i k x d other in let old = l.invariant.small k d
          (let n = length-set l.lasts l.i x in omega (arith, lt, n)) in omega (arith, e, old)))
          (cases_eq k l.i);
      done = λ Ms size lasts k f lt part.
          let what = at_below c.args.whats.now l.i c.loop-i-test.true in
          let now : c.args.added + 1 ≡ suc (length Ms) = omega (arith, size) in
          noted_more Ms (g.L.Looks.moment c.args.now.now) c.args.whats.now l.lasts l.i x c.part_holds-holds.result what.0 what.1 room
          (λ f' own. subst (IsLast Ms f') (sym (l.invariant.rest l.i (omega arith))) (lasts l.i f' own))
          (λ j f' before own. l.invariant.done Ms size lasts j f' before own)
          (subst (λ a. IsTrue c.part_holds-holds.result ↔ NowBy what.0 (last_of l.lasts l.i) l.lasts a (g.L.Looks.moment c.args.now.now)) (sym size)
          (c.part_holds-holds.ensures what.0 what.1))
          (subst (λ y. MatchBool c.part_holds-holds.result (x ≡ y) (x ≡ last_of l.lasts l.i)) now c.noted.ensures.value)
          k f (omega (arith, lt)) part;
      rest = λ k le. get_or-set_other l.lasts l.i k x 0 (λ e. omega (arith, le, e)) ∙ l.invariant.rest k (omega (arith, le));
    }
