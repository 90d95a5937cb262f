use Rattle.std.proofs.Common.{rules, ◌≡◌, length, refl, ap, ◌∙◌, arith}
use Rattle.sot_lang.specs.Tables.{Tables}
use Rattle.sot_rta.proofs.Found.{written_there, least_alone, all_alike}
use Rattle.sot_rta.proofs.shape.outputs.Goals as goal

pub first_of_one_alone-requires-clause-one : goal.first_of_one_alone-requires-clause-one
first_of_one_alone-requires-clause-one c =
    written_there c.args.p.now c.requires.rules c.args.info.now.ac c.node_at-ac.result.now c.node_at-ac.ensures.is _ _
    (c.deref.ensures.value ∙ ap (λ (t : Tables). t.scalars) c.p.view_is) c.deref-2.ensures.value

pub first_of_one_alone-requires-clause-other : goal.first_of_one_alone-requires-clause-other
first_of_one_alone-requires-clause-other c =
    written_there c.args.p.now c.requires.rules c.args.info.now.sc c.node_at-sc.result.now c.node_at-sc.ensures.is _ _
    (c.deref.ensures.value ∙ ap (λ (t : Tables). t.scalars) c.p.view_is) c.deref-3.ensures.value

pub returns-in-Some : goal.returns-in-Some
returns-in-Some c =
    let found = c.in-Some.ensures.first in
    let scalars = c.deref.ensures.value ∙ ap (λ (t : Tables). t.scalars) c.p.view_is in (
      c.in-Some.topic,
      least_alone c.args.p.now c.args.info.now c.node_at-ac.result.now c.node_at-sc.result.now c.node_at-ac.ensures.is c.node_at-sc.ensures.is _
          _ _ scalars c.deref-2.ensures.value c.deref-3.ensures.value c.in-Some.topic found.0 found.1,
      refl,
    )

pub returns-in-None : goal.returns-in-None
returns-in-None c =
    let scalars = c.deref.ensures.value ∙ ap (λ (t : Tables). t.scalars) c.p.view_is in
    let few : c.len-topics.result ≡ length c.args.p.now.topics = search rules in
    all_alike c.args.p.now c.args.info.now c.node_at-ac.result.now c.node_at-sc.result.now c.node_at-ac.ensures.is c.node_at-sc.ensures.is c.requires.rules _ _
    _ scalars c.deref-2.ensures.value c.deref-3.ensures.value (λ t lt. c.in-None.ensures.first t (omega (arith, few, lt)))
