-- Of `note_past_boxes`: its promises.
use Rattle.std.proofs.Common.{ap, sym, get_or}
use Rattle.sot_syntax_tree.specs.TreeViews.{area_view}
use Rattle.sot_rules.proofs.Limits.{past_noted, none_past}
use Rattle.sot_rules.proofs.declarations.limit.note_past_boxes.Goals as goal

pub returns-then-boxes-gt256 : goal.returns-then-boxes-gt256
returns-then-boxes-gt256 c =
    past_noted area_view (λ b. b.at) c.args.boxes.now 256 c.index-boxes-256.result (area_view (get_or c.args.boxes.now 256 c.index-boxes-256.result)) _ _
    c.if-boxes-gt256.true c.index-boxes-256.is (ap area_view (sym c.index-boxes-256.is)) c.note.ensures

pub returns-else-boxes-gt256 : goal.returns-else-boxes-gt256
returns-else-boxes-gt256 c =
    none_past area_view (λ b. b.at) c.args.boxes.now 256 c.args.first.now c.if-boxes-gt256.false
