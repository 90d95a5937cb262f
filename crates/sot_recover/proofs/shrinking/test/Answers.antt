use Rattle.std.proofs.Common.{sym, ◌∙◌, subst, false, rules}
use Rattle.std.specs.Prelude.{slice_set}
use Rattle.std.proofs.lemmas.Bool.{false≢true}
use Rattle.sot_recover.specs.Sets.{IsSet, with_places}
use Rattle.sot_recover.specs.Thinned.{IsThinned}
use Rattle.sot_recover.proofs.Sets.{thinned_leave, with_flag}
use Rattle.sot_recover.proofs.shrinking.test.Goals as goal

pub returns-then-branch-clause-here : goal.returns-then-branch-clause-here
returns-then-branch-clause-here g c =
    λ s. c.requires.more c.args.set.now (with_places c.args.set.now c.args.leaving.now.items) c.args.i
    (λ j e. with_flag c.args.set.now c.args.leaving.now.items j e) (c.in_ok-lands.ensures.0 c.if-branch.true)

pub returns-clause-thinned : goal.returns-clause-thinned
returns-clause-thinned g c =
    let there : IsSet c.args.set.now c.args.i = search rules in
    let out : g.L.Landing.lands c.args.places.now c.args.set.now c.args.i → ⊥ = λ l. false≢true (sym c.if-branch.false ∙ c.in_ok-lands.ensures.1 l) in
    subst (λ js. IsThinned (g.L.Landing.lands c.args.places.now) c.args.set.now c.args.leaving.now.items (slice_set c.args.set.now c.args.i false) js)
    (sym c.in_ok-push.ensures.items)
    (thinned_leave (g.L.Landing.lands c.args.places.now) c.args.set.now c.args.leaving.now.items c.args.i c.requires.more there out)
