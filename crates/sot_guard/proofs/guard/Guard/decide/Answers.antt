use Rattle.std.proofs.Common.{◌≡◌, ◌<◌, [], true, length, refl, sym, ap, ◌∙◌, subst, arith}
use Rattle.std.proofs.lemmas.Option.{slice_get_within}
use Rattle.sot_lists.specs.Places.{At}
use Rattle.sot_lists.proofs.Places.{read_at, read_or}
use Rattle.sot_box.specs.Boxes.{point_box}
use Rattle.sot_tube.specs.Calls.{MayFollow}
use Rattle.sot_world.specs.declared.mode.Mode.TheVariants.{Sc}
use Rattle.sot_world.specs.Configurations.{is_left_dm, mode_of}
use Rattle.sot_guard.specs.GuardView.{configuration}
use Rattle.sot_guard.specs.Running.{IsModeWhere}
use Rattle.sot_guard.proofs.Guards.{may_follow, jitter_below}
use Rattle.sot_guard.proofs.Moves.{decide_guards, decided_so}
use Rattle.sot_guard.proofs.Along.{decides_along}
use Rattle.sot_guard.proofs.guard.Guard.decide.Goals as goal

pub mode_where-mode-requires-clause-follow : goal.mode_where-mode-requires-clause-follow
mode_where-mode-requires-clause-follow c =
    let C = configuration c.self.inside in
    let a = c.self.inside.accepted.now in
    let g = c.self.invariant in
    let there = subst (λ s. c.args.module < length s.accepted.program.modules) (sym c.self.view_is) c.requires.there in
    let at = read_at _ _ c.args.module _ (ap (λ t. t.modules) (c.p.view_is ∙ c.typed-p.ensures.program)) there c.index.ensures in
    let plant = g.rules.typed.plant_is c.args.module _ at in
    let inside : c.index.result.now.plant < length C.points =
    omega (arith, slice_get_within a.program.plants c.index.result.now.plant plant.0 plant.1, g.sizes.points) in
    let point = read_or C.points _ _ [] inside c.index-point.ensures in
    subst (λ t. MayFollow t c.args.module (point_box c.index-point.result.now)) (sym c.typed-p.ensures.program)
    (subst (λ s. MayFollow a.program c.args.module (point_box s)) (sym point) (may_follow a c.self.inside.trusted C g c.args.module _ at))

pub mode_where-mode-requires-clause-jitter : goal.mode_where-mode-requires-clause-jitter
mode_where-mode-requires-clause-jitter c =
    let g = c.self.invariant in
    let there = subst (λ s. c.args.module < length s.accepted.program.modules) (sym c.self.view_is) c.requires.there in
    let at = read_at _ _ c.args.module _ (ap (λ t. t.modules) (c.p.view_is ∙ c.typed-p.ensures.program)) there c.index.ensures in
    subst (λ x. x.jitter < 1000) (sym c.cert.ensures.cert)
    (jitter_below c.self.inside.accepted.now c.self.inside.trusted (configuration c.self.inside) g c.args.module _ at)

pub invariant_of-self : goal.invariant_of-self
invariant_of-self c =
    let C = configuration c.self.inside in
    let a = c.self.inside.accepted.now in
    let g = c.self.invariant in
    let t = c.self.inside.trusted in
    let there = subst (λ s. c.args.module < length s.accepted.program.modules) (sym c.self.view_is) c.requires.there in
    let at = read_at _ _ c.args.module _ (ap (λ t. t.modules) (c.p.view_is ∙ c.typed-p.ensures.program)) there c.index.ensures in
    let plant = g.rules.typed.plant_is c.args.module _ at in
    let inside : c.index.result.now.plant < length C.points =
    omega (arith, slice_get_within a.program.plants c.index.result.now.plant plant.0 plant.1, g.sizes.points) in
    let point = read_or C.points _ _ [] inside c.index-point.ensures in
    let lt : c.args.module < length C.modes = omega (arith, there, g.sizes.modes) in
    let before = read_or C.modes c.args.module _ Sc lt c.index-before.ensures in
    let left = subst (λ s. is_left_dm s.at c.args.module ≡ true) (sym c.self.view_is) c.requires.left in
    let info = c.index.result.now in
    let next = c.mode_where-mode.result in
    let told = c.mode_where-mode.ensures info (subst (λ x. At x.modules c.args.module info) (sym c.typed-p.ensures.program) at) in
    let own = subst (λ x. IsModeWhere t x c.cert.result.now.jitter info c.index-before.result.now c.index-point.result.now next) c.typed-p.ensures.program
    told in
    let by = subst (λ x. IsModeWhere t a.program x.jitter info c.index-before.result.now c.index-point.result.now next) c.cert.ensures.cert own in
    let is = subst (λ s. IsModeWhere t a.program a.cert.jitter info (mode_of C c.args.module) s next) point
    (subst (λ x. IsModeWhere t a.program a.cert.jitter info x c.index-point.result.now next) before by) in
    decide_guards a t C _ c.args.module g (decided_so t a.program a.cert.jitter C c.args.module info next _ _ g.sizes.modes at left is refl refl)

pub returns-clause-step : goal.returns-clause-step
returns-clause-step c =
    let C = configuration c.self.inside in
    let a = c.self.inside.accepted.now in
    let g = c.self.invariant in
    let t = c.self.inside.trusted in
    let there = subst (λ s. c.args.module < length s.accepted.program.modules) (sym c.self.view_is) c.requires.there in
    let at = read_at _ _ c.args.module _ (ap (λ t. t.modules) (c.p.view_is ∙ c.typed-p.ensures.program)) there c.index.ensures in
    let plant = g.rules.typed.plant_is c.args.module _ at in
    let inside : c.index.result.now.plant < length C.points =
    omega (arith, slice_get_within a.program.plants c.index.result.now.plant plant.0 plant.1, g.sizes.points) in
    let point = read_or C.points _ _ [] inside c.index-point.ensures in
    let lt : c.args.module < length C.modes = omega (arith, there, g.sizes.modes) in
    let before = read_or C.modes c.args.module _ Sc lt c.index-before.ensures in
    let left = subst (λ s. is_left_dm s.at c.args.module ≡ true) (sym c.self.view_is) c.requires.left in
    let info = c.index.result.now in
    let next = c.mode_where-mode.result in
    let told = c.mode_where-mode.ensures info (subst (λ x. At x.modules c.args.module info) (sym c.typed-p.ensures.program) at) in
    let own = subst (λ x. IsModeWhere t x c.cert.result.now.jitter info c.index-before.result.now c.index-point.result.now next) c.typed-p.ensures.program
    told in
    let by = subst (λ x. IsModeWhere t a.program x.jitter info c.index-before.result.now c.index-point.result.now next) c.cert.ensures.cert own in
    let is = subst (λ s. IsModeWhere t a.program a.cert.jitter info (mode_of C c.args.module) s next) point
    (subst (λ x. IsModeWhere t a.program a.cert.jitter info x c.index-point.result.now next) before by) in
    decides_along _ _ c.args.module _ c.self.view_is
    (decided_so t a.program a.cert.jitter C c.args.module info next _ _ g.sizes.modes at left is refl refl)
