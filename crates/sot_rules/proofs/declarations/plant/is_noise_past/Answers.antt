-- Of `is_noise_past`: its promise.
use Rattle.std.proofs.Common.{◌≡◌, ◌∙◌, ap, subst, sym}
use Rattle.sot_syntax_tree.specs.TreeViews.{plant_view}
use Rattle.sot_rules.specs.Faults.{least}
use Rattle.sot_rules.specs.Groups.{disturbances_faults}
use Rattle.sot_rules.specs.Behind.{noise_behind}
use Rattle.sot_rules.proofs.PlantsBehind.{noise_stays}
use Rattle.sot_rules.proofs.declarations.plant.is_noise_past.Goals as goal

pub returns-in-Some : goal.returns-in-Some
returns-in-Some c e =
    let q = plant_view c.args.q.now in
    subst (λ z. least z (disturbances_faults q) ≡ z) (sym c.in-Some.is)
    (noise_stays c.in-Some.f q (sym (ap (noise_behind c.in-Some.f.at) c.deref.ensures.value) ∙ sym c.is_noise_behind.ensures ∙ e))
