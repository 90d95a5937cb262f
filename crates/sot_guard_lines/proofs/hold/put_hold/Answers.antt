use Rattle.std.proofs.Common.{sym, ap, ◌∙◌, subst}
use Rattle.sot_lists.proofs.Places.{read_at}
use Rattle.sot_lang.specs.TableRules.{MeetsTableRules}
use Rattle.sot_trace.proofs.Putting.{put_so}
use Rattle.sot_guard_lines.specs.Lines.{all_held}
use Rattle.sot_guard_lines.proofs.Named.{plant_named, inputs_named, inputs_there}
use Rattle.sot_guard_lines.proofs.hold.put_hold.Goals as goal

pub put_all_held-requires-clause-there : goal.put_all_held-requires-clause-there
put_all_held-requires-clause-there g c =
    let rules = subst MeetsTableRules c.p.view_is c.p.invariant in
    let at = read_at _ _ c.args.plant _ (ap (λ t. t.plants) c.p.view_is) c.requires.plant c.index-info.ensures in
    inputs_there c.args.p.now c.args.plant _ at rules c.deref.result.now c.deref.ensures.value

pub returns : goal.returns
returns g c =
    let more = g.met.O.Out.more in
    let p = c.args.p.now in
    let at = read_at _ _ c.args.plant _ (ap (λ t. t.plants) c.p.view_is) c.requires.plant c.index-info.ensures in
    let name = put_so g.O.Out.puts _ _ _ _ c.put_name.ensures (sym (plant_named p c.args.plant _ at)) in
    let inputs = c.deref.ensures.value ∙ sym (inputs_named p c.args.plant _ at) in
    let held = put_so g.O.Out.puts _ _ _ _ c.put_all_held.ensures (ap (λ ks. all_held p ks c.args.scalars.now) inputs) in
    more _ _ _ _ _ c.put_time.ensures (more _ _ _ _ _ c.put.ensures (more _ _ _ _ _ name held))
