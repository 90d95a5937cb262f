use Rattle.std.proofs.Common.{◌≡◌, sym, subst, arith, length}
use Rattle.sot_workers.specs.Forms.{AreFormsOf}
use Rattle.sot_workers.proofs.FormFacts.{forms_more}
use Rattle.sot_workers.proofs.forms.forms_for.Goals as goal

pub loop-node-preserved : goal.loop-node-preserved
loop-node-preserved c =
    let k = c.loop-node.node in
    let inv = c.loop-node.invariant in
    let pushed = c.push_reserved.ensures in
    let size : length c.loop-node.forms.items ≡ k = omega (arith, inv.count, c.loop-node.forms.ok.0) in
    record {
      forms = subst (AreFormsOf c.args.p.now) (sym pushed.items)
          (forms_more c.args.p.now c.loop-node.forms.items c.in_ok-form.form k size inv.forms c.in_ok-form.ensures);
      count = omega (arith, pushed.len, inv.count);
      room = omega (arith, pushed.capacity, inv.room);
    }
