use Rattle.std.proofs.Common.{ap, ◌∙◌, subst}
use Rattle.sot_lists.specs.Places.{At}
use Rattle.sot_lang.specs.Tables.{Tables}
use Rattle.sot_trace.proofs.Putting.{put_so}
use Rattle.sot_guard_lines.specs.Outline.{plants_text, inputs_text, nodes_text, modules_text}
use Rattle.sot_guard_lines.proofs.outline.put_outline.Goals as goal

pub put_plants-requires : goal.put_plants-requires
put_plants-requires g c = λ n plant at i k there.
    let plants = c.deref.ensures.value ∙ ap (λ (t : Tables). t.plants) c.p.view_is in
    c.keeps_rules.ensures.typed.inputs_are n plant k (subst (λ l. At l n plant) plants at) (i, there)

pub put_nodes-requires : goal.put_nodes-requires
put_nodes-requires g c = λ n node at i k there.
    let nodes = c.deref-3.ensures.value ∙ ap (λ (t : Tables). t.nodes) c.p.view_is in
    c.keeps_rules.ensures.typed.inside n node k (subst (λ l. At l n node) nodes at) (i, there)

pub returns : goal.returns
returns g c =
    let more = g.met.O.Out.more in
    let puts = g.O.Out.puts in
    let p = c.args.p.now in
    let plants = put_so puts _ _ _ _ c.put_plants.ensures (ap (plants_text p) (c.deref.ensures.value ∙ ap (λ (t : Tables). t.plants) c.p.view_is)) in
    let inputs = put_so puts _ _ _ _ c.put_inputs.ensures (ap (inputs_text p 0) (c.deref-2.ensures.value ∙ ap (λ (t : Tables). t.scalars) c.p.view_is)) in
    let nodes = put_so puts _ _ _ _ c.put_nodes.ensures (ap (nodes_text p) (c.deref-3.ensures.value ∙ ap (λ (t : Tables). t.nodes) c.p.view_is)) in
    let modules = put_so puts _ _ _ _ c.put_modules.ensures (ap modules_text (c.deref-4.ensures.value ∙ ap (λ (t : Tables). t.modules) c.p.view_is)) in
    more _ _ _ _ _ plants (more _ _ _ _ _ inputs (more _ _ _ _ _ nodes (more _ _ _ _ _ modules c.put.ensures)))
