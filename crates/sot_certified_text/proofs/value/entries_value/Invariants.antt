use Rattle.std.proofs.Common.{◌≡◌, ◌≤◌, length, drop}
use Rattle.serde_json.specs.View.{members_view}
use Rattle.sot_certified_text.specs.CertText.{entries_data}
use Rattle.sot_certified_text.proofs.value.entries_value.Given as goal

abbrev pub invariant-loop-left : goal.invariant-loop-left
invariant-loop-left l = record {
  inside : l.left ≤ length l.p.modules;
  done : members_view l.map.entries ≡ entries_data (drop l.left l.p.modules) (drop l.left l.cert.modules.items);
}

abbrev pub decreases-loop-left : goal.decreases-loop-left
decreases-loop-left l = l.left
