use Rattle.std.proofs.Common.{◌≡◌, refl, sym, ap, ◌∙◌, subst, arith, length, []}
use Rattle.std.proofs.lemmas.Bool.{eqb-true, eqb-false}
use Rattle.std.proofs.lemmas.List.{nil_from_length}
use Rattle.sot_recover.specs.Sets.{IsSet, with_places}
use Rattle.sot_recover.proofs.Whole.{vec_whole}
use Rattle.sot_recover.proofs.shrinking.shrink.Goals as goal

pub loop-set-init : goal.loop-set-init
loop-set-init g c =
    record {
      size = refl;
      marked_size = c.in_ok-marked.ensures.size;
      marks = c.in_ok-marked.ensures.none;
      fewer = λ k e. e;
      kept = λ all h. h;
      land = c.requires.land;
    }

pub take-requires-clause-land : goal.take-requires-clause-land
take-requires-clause-land g c = c.loop-set.invariant.land

pub take-requires-clause-marked_size : goal.take-requires-clause-marked_size
take-requires-clause-marked_size g c = subst (λ xs. length xs ≡ length c.loop-set.set) (sym c.deref_mut.ensures.value) c.loop-set.invariant.marked_size

pub take-requires-clause-marks : goal.take-requires-clause-marks
take-requires-clause-marks g c k e = c.loop-set.invariant.marks k (subst (λ xs. IsSet xs k) c.deref_mut.ensures.value e)

pub loop-set-smaller : goal.loop-set-smaller
loop-set-smaller g c =
    let t = c.in_ok-take.ensures.thinned.lighter in
    let some : length c.loop-set.leaving.items ≡ 0 → ⊥ = λ none. eqb-false _ _ (sym c.is_empty.ensures ∙ c.loop-set-test.true) (c.loop-set.leaving.ok.0 ∙ none) in
    omega (arith, t, some)

pub loop-set-preserved : goal.loop-set-preserved
loop-set-preserved g c =
    let l = c.loop-set in
    let i = l.invariant in
    let t = c.in_ok-take.ensures in
    let same : length c.take.new.marked ≡ length l.marked.items = t.sizes.1 ∙ sym i.marked_size in
    let marks = vec_whole c.take.new.marked l.marked.items l.marked.len same l.marked.ok.0 in
    record {
      size = t.sizes.0 ∙ i.size;
      marked_size = ap length marks ∙ t.sizes.1 ∙ sym t.sizes.0;
      marks = λ k e. t.none k (subst (λ xs. IsSet xs k) marks e);
      fewer = λ k e. i.fewer k (t.thinned.fewer k e);
      kept = λ all h. t.thinned.kept all (i.kept all h);
      land = t.land;
    }

pub returns-clause-fewer : goal.returns-clause-fewer
returns-clause-fewer g c = c.loop-set.invariant.fewer

pub returns-clause-keeps : goal.returns-clause-keeps
returns-clause-keeps g c k e = subst (λ js. g.L.Landing.lands c.args.places.now (with_places c.loop-set.set js) k) none (c.loop-set.invariant.land k e)
  where
    none : c.loop-set.leaving.items ≡ []
    none = nil_from_length c.loop-set.leaving.items (sym c.loop-set.leaving.ok.0 ∙ eqb-true _ _ (sym c.is_empty.ensures ∙ c.loop-set-test.false))

pub returns-clause-greatest : goal.returns-clause-greatest
returns-clause-greatest g c = c.loop-set.invariant.kept
