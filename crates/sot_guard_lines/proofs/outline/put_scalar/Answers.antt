use Rattle.std.proofs.Common.{ℤ, [], ap, ap₂, sym, ◌∙◌, rules, w64, SFits}
use Rattle.std.specs.Option.{option_map_or}
use Rattle.std.proofs.lemmas.Int.{to_z-of_z}
use Rattle.sot_lists.proofs.Places.{read_at}
use Rattle.sot_lang.specs.Tables.{Tables}
use Rattle.sot_lang.specs.declared.tables.ScalarInfo.{ScalarInfo}
use Rattle.sot_trace.proofs.Putting.{put_so}
use Rattle.sot_guard_lines.specs.Outline.{range_end}
use Rattle.sot_guard_lines.proofs.outline.put_scalar.Goals as goal

pub returns : goal.returns
returns g c =
    let more = g.met.O.Out.more in
    let at = read_at _ _ c.args.scalar _ (ap (λ (t : Tables). t.scalars) c.p.view_is) c.requires c.index-info.ensures in
    let is = ap (λ o. option_map_or (λ (s : ScalarInfo). range_end s.scale s.lo s.hi) o []) at in
    let lo : ℤ = c.index-info.result.now.lo in
    let hi : ℤ = c.index-info.result.now.hi in
    let lo_fits : SFits w64 lo = search rules in
    let hi_fits : SFits w64 hi = search rules in
    let ends = ap₂ (range_end c.index-info.result.now.scale) (to_z-of_z w64 lo lo_fits) (to_z-of_z w64 hi hi_fits) in
    let range = put_so g.O.Out.puts _ _ _ _ c.put_range.ensures (ends ∙ sym is) in
    more _ _ _ _ _ c.put_says.ensures (more _ _ _ _ _ c.put_byte.ensures (more _ _ _ _ _ c.put_scalar_name.ensures range))
