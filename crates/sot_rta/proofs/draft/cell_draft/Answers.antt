use Rattle.std.proofs.Common.{arith, ◌≡◌, ◌++◌, length, ap, ◌∙◌, subst, length-append}
use Rattle.std.specs.Prelude.{map}
use Rattle.std.proofs.lemmas.List.{length-map}
use Rattle.sot_lists.specs.Places.{At}
use Rattle.sot_box.specs.Sides.{Side}
use Rattle.sot_lang.specs.declared.tables.LocalInfo.{LocalInfo}
use Rattle.sot_traps.proofs.SlotReadings.{can_be_read}
use Rattle.sot_rta.specs.Drafts.{AreCellReadings}
use Rattle.sot_rta.proofs.CellReadings.{drafts_are}
use Rattle.sot_rta.proofs.draft.cell_draft.Goals as goal

pub put_cell_readings-requires-clause-readable : goal.put_cell_readings-requires-clause-readable
put_cell_readings-requires-clause-readable c i s at =
    can_be_read c.args.p.now c.requires.rules c.requires.boxes c.args.info.now.sc c.args.sc.now c.requires.node i s
    (subst (λ l. At l i s) c.deref.ensures.value at)

pub iv_node-requires : goal.iv_node-requires
iv_node-requires c =
    let whole = c.put_locals.ensures in
    let size = ap length whole ∙ length-append c.put_cell_readings.new.sides
    (map (λ (x : LocalInfo). let side : Side = record { lo = x.lo; hi = x.hi } in side) c.deref-2.result.now) in
    let own : length (map (λ (x : LocalInfo). let side : Side = record { lo = x.lo; hi = x.hi } in side) c.deref-2.result.now) ≡ length c.deref-2.result.now =
    length-map c.deref-2.result.now (λ (x : LocalInfo). let side : Side = record { lo = x.lo; hi = x.hi } in side) in
    let reads = ap length c.deref.ensures.value in
    let locals = ap length c.deref-2.ensures.value in
    record {
      node = c.args.sc.now;
      acts = c.requires.coded.0;
      is = c.requires.node;
      coded = c.requires.coded.1;
      names = omega (arith, size, own, reads, locals, c.put_cell_readings.ensures.count);
    }

pub returns : goal.returns
returns c =
    drafts_are c.args.p.now c.args.info.now.sc c.args.sc.now c.args.info.now.plant c.args.cell.now c.put_cell_readings.new.sides c.put_locals.new.sides
    c.iv_node.result c.requires.node
    (subst (λ l. AreCellReadings c.args.p.now c.args.info.now.plant c.args.cell.now l c.put_cell_readings.new.sides) c.deref.ensures.value
    c.put_cell_readings.ensures)
    (c.put_locals.ensures ∙ ap (λ l. c.put_cell_readings.new.sides ++ map (λ (x : LocalInfo). let side : Side = record { lo = x.lo; hi = x.hi } in side) l)
    c.deref-2.ensures.value) c.iv_node.ensures
