use Rattle.std.proofs.Common.{rules, arith, ◌≡◌, length, refl, ap, ◌∙◌}
use Rattle.sot_lang.specs.Tables.{Tables}
use Rattle.sot_rta.proofs.Found.{written_there}
use Rattle.sot_rta.proofs.Inputs.{inputs_there, least_foreign, none_foreign}
use Rattle.sot_compose.proofs.composition.own_inputs_of.Goals as goal

pub first_missing-requires-clause-one : goal.first_missing-requires-clause-one
first_missing-requires-clause-one c =
    inputs_there c.args.p.now c.requires.rules c.args.info.now.plant c.plant_at.result.now c.plant_at.ensures.is _ _
    (c.deref.ensures.value ∙ ap (λ (t : Tables). t.scalars) c.p.view_is) c.deref-2.ensures.value

pub first_missing-requires-clause-other : goal.first_missing-requires-clause-other
first_missing-requires-clause-other c =
    written_there c.args.p.now c.requires.rules c.args.info.now.sc c.node_at.result.now c.node_at.ensures.is _ _
    (c.deref.ensures.value ∙ ap (λ (t : Tables). t.scalars) c.p.view_is) c.deref-3.ensures.value

pub returns-in-Some : goal.returns-in-Some
returns-in-Some c = (
  c.in-Some.topic,
  least_foreign c.args.p.now c.args.info.now c.plant_at.result.now c.node_at.result.now c.plant_at.ensures.is c.node_at.ensures.is _ _ _
      (c.deref.ensures.value ∙ ap (λ (t : Tables). t.scalars) c.p.view_is) c.deref-2.ensures.value c.deref-3.ensures.value c.in-Some.topic
      c.in-Some.ensures.first.0 c.in-Some.ensures.first.1,
  refl,
)

pub returns-in-None : goal.returns-in-None
returns-in-None c =
    let few : c.len.result ≡ length c.args.p.now.topics = search rules in
    none_foreign c.args.p.now c.args.info.now c.plant_at.result.now c.node_at.result.now c.plant_at.ensures.is c.node_at.ensures.is c.requires.rules _ _ _
    (c.deref.ensures.value ∙ ap (λ (t : Tables). t.scalars) c.p.view_is) c.deref-2.ensures.value c.deref-3.ensures.value
    (λ t lt. c.in-None.ensures.first t (omega (arith, few, lt)))
