-- Of `are_nexts_past`: its promise.
use Rattle.std.proofs.Common.{◌≡◌, ◌∙◌, ap, map, subst, sym}
use Rattle.sot_syntax_tree.specs.TreeViews.{next_view, plant_view}
use Rattle.sot_rules.specs.Faults.{least}
use Rattle.sot_rules.specs.Nexts.{nexts_faults}
use Rattle.sot_rules.specs.Behind.{nexts_behind}
use Rattle.sot_rules.proofs.PlantsBehind.{nexts_stay}
use Rattle.sot_rules.proofs.declarations.next.are_nexts_past.Goals as goal

pub returns-then-is_behind : goal.returns-then-is_behind
returns-then-is_behind c e p =
    let q = plant_view c.args.q.now in
    subst (λ z. least z (nexts_faults p q) ≡ z) (sym c.in-Some.is)
    (nexts_stay c.in-Some.f p q (sym c.is_behind.ensures ∙ c.if-is_behind.true)
    (sym (ap (λ ns. nexts_behind c.in-Some.f.at (map next_view ns)) c.deref.ensures.value) ∙ sym c.are_nexts_behind.ensures ∙ e))
