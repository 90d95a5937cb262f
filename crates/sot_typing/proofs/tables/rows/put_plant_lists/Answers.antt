-- Of `put_plant_lists`: its promises.
use Rattle.std.proofs.Common.{map, ap, ◌++◌, ◌∙◌}
use Rattle.std.specs.Prelude.{flat_map}
use Rattle.sot_syntax_tree.specs.TreeViews.{plant_view}
use Rattle.sot_rules.specs.Indexes.{program_in}
use Rattle.sot_typing.specs.Resolved.{state_info, scalars_meant, plant_place, noise_info}
use Rattle.sot_typing.proofs.Filled.{plant_filled}
use Rattle.sot_typing.proofs.tables.rows.put_plant_lists.Goals as goal

pub returns : goal.returns
returns c =
    let p = program_in c.args.index.now in
    let o = c.args.info.now in
    plant_filled p (plant_view c.args.q.now) o _ _ _ _ _ c.requires.bare
    (c.in_ok-put_states.ensures ∙ ap (λ z. o.states.items ++ map state_info z) c.deref.ensures.value)
    (c.in_ok-put_all_scalars.ensures ∙ ap (λ z. o.inputs.items ++ flat_map (scalars_meant p) z) c.deref-2.ensures.value)
    (c.in_ok-put_plant_numbers.ensures ∙ ap (λ z. o.sees.items ++ map (plant_place p) z) c.deref-3.ensures.value)
    (c.in_ok-put_noise.ensures ∙ ap (λ z. o.noise.items ++ map noise_info z) c.deref-4.ensures.value)
    c.in_ok-put_next.ensures
