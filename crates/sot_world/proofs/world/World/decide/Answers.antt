use Rattle.std.proofs.Common.{◌≡◌, ◌<◌, [], true, length, refl, sym, ap, ◌∙◌, subst, arith}
use Rattle.std.proofs.lemmas.Option.{slice_get_within}
use Rattle.sot_lists.specs.Places.{At}
use Rattle.sot_box.specs.Boxes.{point_box}
use Rattle.sot_tube.specs.Calls.{MayFollow}
use Rattle.sot_world.specs.Configurations.{Sc, is_left_dm, mode_of}
use Rattle.sot_world.specs.Steps.{Decide}
use Rattle.sot_world.specs.Changes.{IsNextMode}
use Rattle.sot_world.specs.WorldView.{configuration}
use Rattle.sot_lists.proofs.Places.{read_at, read_or}
use Rattle.sot_world.proofs.Stepping.{may_follow, decides_so, step_kept, step_along}
use Rattle.sot_world.proofs.world.World.decide.Goals as goal

pub next_mode-mode-requires-clause-follow : goal.next_mode-mode-requires-clause-follow
next_mode-mode-requires-clause-follow c =
    let C = configuration c.self.inside in
    let kept = c.self.invariant.kept in
    let there = subst (λ s. c.args.module < length s.accepted.program.modules) (sym c.self.view_is) c.requires.there in
    let at = read_at _ _ c.args.module _ (ap (λ t. t.modules) (c.p.view_is ∙ c.typed-p.ensures.program)) there c.index.ensures in
    let plant = kept.rules.typed.plant_is c.args.module _ at in
    let inside : c.index.result.now.plant < length C.points =
    omega (arith, slice_get_within c.self.inside.accepted.now.program.plants c.index.result.now.plant plant.0 plant.1, kept.holds.sizes.points) in
    let point = read_or C.points _ _ [] inside c.index-point.ensures in
    subst (λ x. MayFollow x.program c.args.module (point_box c.index-point.result.now)) (sym c.self.invariant.answers)
    (subst (λ s. MayFollow c.self.inside.accepted.now.program c.args.module (point_box s)) (sym point)
    (may_follow c.self.inside.accepted.now C kept c.args.module _ at))

pub next_mode-mode-requires-clause-jitter : goal.next_mode-mode-requires-clause-jitter
next_mode-mode-requires-clause-jitter c =
    let kept = c.self.invariant.kept in
    let there = subst (λ s. c.args.module < length s.accepted.program.modules) (sym c.self.view_is) c.requires.there in
    let at = read_at _ _ c.args.module _ (ap (λ t. t.modules) (c.p.view_is ∙ c.typed-p.ensures.program)) there c.index.ensures in
    subst (λ x. x.cert.jitter < 1000) (sym c.self.invariant.answers)
    (omega (arith, kept.certified.module_jitter c.args.module _ at, (kept.rules.modules c.args.module _ at).period))

pub invariant_of-self : goal.invariant_of-self
invariant_of-self c =
    let C = configuration c.self.inside in
    let p = c.self.inside.accepted.now.program in
    let kept = c.self.invariant.kept in
    let there = subst (λ s. c.args.module < length s.accepted.program.modules) (sym c.self.view_is) c.requires.there in
    let at = read_at _ _ c.args.module _ (ap (λ t. t.modules) (c.p.view_is ∙ c.typed-p.ensures.program)) there c.index.ensures in
    let plant = kept.rules.typed.plant_is c.args.module _ at in
    let inside : c.index.result.now.plant < length C.points =
    omega (arith, slice_get_within c.self.inside.accepted.now.program.plants c.index.result.now.plant plant.0 plant.1, kept.holds.sizes.points) in
    let point = read_or C.points _ _ [] inside c.index-point.ensures in
    let lt : c.args.module < length C.modes = omega (arith, there, kept.holds.sizes.modes) in
    let before = read_or C.modes c.args.module _ Sc lt c.index-before.ensures in
    let left = subst (λ s. is_left_dm s.at c.args.module ≡ true) (sym c.self.view_is) c.requires.left in
    let info = c.index.result.now in
    let next = c.next_mode-mode.result in
    let told = c.next_mode-mode.ensures.mode info (subst (λ x. At x.program.modules c.args.module info) (sym c.self.invariant.answers) at) in
    let own = subst (λ x. IsNextMode x.program x.cert.jitter info c.index-before.result.now c.index-point.result.now next) c.self.invariant.answers told in
    let j = c.self.inside.accepted.now.cert.jitter in
    let is = subst (λ s. IsNextMode p j info (mode_of C c.args.module) s next) point
    (subst (λ x. IsNextMode p j info x c.index-point.result.now next) before own) in
    let step = decides_so p c.self.inside.accepted.now.cert.jitter C c.args.module info next _ _ kept.holds.sizes.modes at left is refl refl in
    record {
      kept = step_kept c.self.inside.accepted.now C kept _ (Decide c.args.module) step kept.time;
      roles = c.self.invariant.roles;
      next =
          c.self.invariant.next;
      answers =
          c.next_mode-mode.ensures.same ∙ c.self.invariant.answers;
      nodes = c.self.invariant.nodes;
      decisions = c.self.invariant.decisions;
    }

pub returns-clause-step : goal.returns-clause-step
returns-clause-step c =
    let C = configuration c.self.inside in
    let p = c.self.inside.accepted.now.program in
    let kept = c.self.invariant.kept in
    let there = subst (λ s. c.args.module < length s.accepted.program.modules) (sym c.self.view_is) c.requires.there in
    let at = read_at _ _ c.args.module _ (ap (λ t. t.modules) (c.p.view_is ∙ c.typed-p.ensures.program)) there c.index.ensures in
    let plant = kept.rules.typed.plant_is c.args.module _ at in
    let inside : c.index.result.now.plant < length C.points =
    omega (arith, slice_get_within c.self.inside.accepted.now.program.plants c.index.result.now.plant plant.0 plant.1, kept.holds.sizes.points) in
    let point = read_or C.points _ _ [] inside c.index-point.ensures in
    let lt : c.args.module < length C.modes = omega (arith, there, kept.holds.sizes.modes) in
    let before = read_or C.modes c.args.module _ Sc lt c.index-before.ensures in
    let left = subst (λ s. is_left_dm s.at c.args.module ≡ true) (sym c.self.view_is) c.requires.left in
    let info = c.index.result.now in
    let next = c.next_mode-mode.result in
    let told = c.next_mode-mode.ensures.mode info (subst (λ x. At x.program.modules c.args.module info) (sym c.self.invariant.answers) at) in
    let own = subst (λ x. IsNextMode x.program x.cert.jitter info c.index-before.result.now c.index-point.result.now next) c.self.invariant.answers told in
    let j = c.self.inside.accepted.now.cert.jitter in
    let is = subst (λ s. IsNextMode p j info (mode_of C c.args.module) s next) point
    (subst (λ x. IsNextMode p j info x c.index-point.result.now next) before own) in
    step_along _ _ (Decide c.args.module) _ c.self.view_is (decides_so p c.self.inside.accepted.now.cert.jitter C c.args.module info next _ _
    kept.holds.sizes.modes at left is refl refl)
