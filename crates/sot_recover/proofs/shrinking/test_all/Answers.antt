use Rattle.std.proofs.Common.{◌≡◌, ◌<◌, ⊎_elim, refl, sym, ◌∙◌, subst, arith}
use Rattle.std.specs.Prelude.{slice_index_or}
use Rattle.sot_recover.specs.Sets.{IsSet, with_places}
use Rattle.sot_recover.proofs.Sets.{thinned_same, thinned_on, one_more, has_read}
use Rattle.sot_recover.proofs.shrinking.test_all.Goals as goal

pub loop-n-init : goal.loop-n-init
loop-n-init g c =
    record {
      size = refl;
      thinned = thinned_same (g.L.Landing.lands c.args.places.now) c.args.set.now c.args.leaving.now.items;
      done = λ q lt. absurd (omega (arith, lt));
    }

pub loop-n-preserved : goal.loop-n-preserved
loop-n-preserved g c =
    let l = c.loop-n in
    let t = c.in_ok-test.ensures in
    let lands = g.L.Landing.lands c.args.places.now in
    let set = c.test.new.set in
    let leaving = c.test.new.leaving.items in
    let found = c.args.found.now in
    record {
      size = t.size ∙ l.invariant.size;
      thinned = thinned_on lands c.args.set.now l.set set c.args.leaving.now.items l.leaving.items leaving l.invariant.thinned t.thinned;
      done = λ q lt e. ⊎_elim
          (λ (before : q < l.n). c.requires.more (with_places l.set l.leaving.items) (with_places set leaving) (slice_index_or found q 0) t.thinned.either
          (l.invariant.done q before (t.thinned.fewer (slice_index_or found q 0) e)))
          (λ (here : q ≡ l.n). subst (λ n. lands (with_places set leaving) (slice_index_or found n 0)) (sym here)
          (t.here (subst (λ n. IsSet set (slice_index_or found n 0)) here e)))
          (one_more q l.n lt);
    }

pub returns-clause-here : goal.returns-clause-here
returns-clause-here g c i h e =
    let l = c.loop-n in
    let r = has_read c.args.found.now i h in
    let lt = r.1 in
    let end = c.loop-n-test.false in
    subst (λ n. g.L.Landing.lands c.args.places.now (with_places l.set l.leaving.items) n) r.2
    (l.invariant.done r.0 (omega (arith, lt, end)) (subst (IsSet l.set) (sym r.2) e))
