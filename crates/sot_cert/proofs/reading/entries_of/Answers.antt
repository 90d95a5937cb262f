-- What is left to show of `entries_of`.
use Rattle.std.proofs.Common.{◌≡◌, ◌<◌, ◌+◌, List, length, drop, get_or, ap, refl, sym, subst, ◌∙◌, Option, arith}
use Rattle.std.proofs.lemmas.Option.{slice_get_read, slice_get_within}
use Rattle.serde_json.specs.View.{members_view}
use Rattle.sot_lang.specs.declared.tables.ModuleInfo.{ModuleInfo}
use Rattle.sot_lang.specs.declared.cert.Cells.{Cells}
use Rattle.sot_lang.specs.Tables.{Tables}
use Rattle.sot_cert.specs.CertFormat.{entries}
use Rattle.sot_cert.proofs.Modules.{with_front, entries_on, entries_end, entries_done}
use Rattle.sot_cert.proofs.reading.entries_of.Goals as goal

pub width_at-width-requires : goal.width_at-width-requires
width_at-width-requires c =
    let items = c.deref-info-items.ensures.value in
    let i = c.loop-info.info-index in
    let info = c.info-item.result in
    let lt : i < length c.p.inside.modules.items = omega (arith, c.loop-info-test.true, ap length items) in
    let at = slice_get_read c.p.inside.modules.items _ i info refl lt (c.info-item.is ∙ ap (λ xs. get_or xs i info) items) in
    let plant = c.p.invariant.typed.plant_is i info at in
    let there = slice_get_within c.p.inside.plants.items info.plant plant.0 plant.1 in
    let plants = ap (λ (t : Tables). length t.plants) c.p.view_is in
    omega (arith, there, plants)

pub loop-info-preserved : goal.loop-info-preserved
loop-info-preserved c =
    let plants = c.args.p.now.plants in
    let infos = c.args.p.now.modules in
    let object = members_view c.args.object.now.entries in
    let i = c.loop-info.info-index in
    let info = c.info-item.result in
    let e : c.deref-info-items.result.now ≡ infos = c.deref-info-items.ensures.value ∙ ap (λ (t : Tables). t.modules) c.p.view_is in
    let k = ap length e in
    let lt : i < length infos = omega (arith, k, c.loop-info-test.true) in
    let is = subst (λ (l : List ModuleInfo). info ≡ get_or l i info) e c.info-item.is in
    let read = rw c.as_str.ensures at (rw c.width_at-width.ensures.value at c.in-Ok.ensures) in
    let on = entries_on plants c.loop-info.found.items infos i info object c.in-Ok.entry (entries plants infos object) lt is read c.loop-info.invariant in
    subst (λ (l : List (Option Cells)). with_front l (entries plants (drop (i + 1) infos) object) ≡ entries plants infos object)
    (sym c.in_ok-push-in-Ok.ensures.items) on

pub returns-in-Err-clause-says : goal.returns-in-Err-clause-says
returns-in-Err-clause-says c =
    let plants = c.args.p.now.plants in
    let infos = c.args.p.now.modules in
    let object = members_view c.args.object.now.entries in
    let i = c.loop-info.info-index in
    let info = c.info-item.result in
    let e : c.deref-info-items.result.now ≡ infos = c.deref-info-items.ensures.value ∙ ap (λ (t : Tables). t.modules) c.p.view_is in
    let k = ap length e in
    let lt : i < length infos = omega (arith, k, c.loop-info-test.true) in
    let is = subst (λ (l : List ModuleInfo). info ≡ get_or l i info) e c.info-item.is in
    let failed = rw c.as_str.ensures at (rw c.width_at-width.ensures.value at c.in-Err.ensures) in
    entries_end plants c.loop-info.found.items infos i info object c.in-Err.fail (entries plants infos object) lt is failed c.loop-info.invariant

pub returns-clause-says : goal.returns-clause-says
returns-clause-says c =
    let l = c.loop-info in
    let e : c.deref-info-items.result.now ≡ c.args.p.now.modules = c.deref-info-items.ensures.value ∙ ap (λ (t : Tables). t.modules) c.p.view_is in
    let k = ap length e in
    entries_done c.args.p.now.plants l.found.items c.args.p.now.modules l.info-index (members_view c.args.object.now.entries) _
    (omega (arith, k, c.loop-info-test.false)) l.invariant
