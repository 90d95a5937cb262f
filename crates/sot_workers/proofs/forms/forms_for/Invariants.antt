use Rattle.std.proofs.Common.{◌≡◌, ◌≤◌, vec_len, vec_capacity, length}
use Rattle.sot_workers.specs.Forms.{AreFormsOf}
use Rattle.sot_workers.proofs.forms.forms_for.Given as goal

abbrev pub invariant-loop-node : goal.invariant-loop-node
invariant-loop-node l = record {
  forms : AreFormsOf l.p l.forms.items;
  count : vec_len l.forms ≡ l.node;
  room : length l.p.nodes ≤ vec_capacity l.forms;
}
