use Rattle.std.proofs.Common.{rules, arith, ◌≡◌, length, refl, ap, ◌∙◌}
use Rattle.sot_lang.specs.Tables.{Tables}
use Rattle.sot_compose.specs.declared.parts.Part.TheVariants.{Node}
use Rattle.sot_compose.proofs.Composed.{least_shared, no_shared_node}
use Rattle.sot_compose.proofs.composition.own_nodes.Goals as goal

pub returns-in-Some : goal.returns-in-Some
returns-in-Some c =
    let clash = c.in-Some.clash in (
      clash.what,
      clash.a,
      clash.b,
      least_shared Node _ c.args.p.now.modules clash.what clash.a clash.b
          (c.deref.ensures.value ∙ ap (λ (t : Tables). t.modules) c.p.view_is) c.in-Some.ensures.first.0 c.in-Some.ensures.first.1,
      refl,
    )

pub returns-in-None : goal.returns-in-None
returns-in-None c =
    let few : c.len.result ≡ length c.args.p.now.nodes = search rules in
    no_shared_node c.args.p.now c.requires _ (c.deref.ensures.value ∙ ap (λ (t : Tables). t.modules) c.p.view_is)
    (λ x lt. c.in-None.ensures.first x (omega (arith, few, lt)))
