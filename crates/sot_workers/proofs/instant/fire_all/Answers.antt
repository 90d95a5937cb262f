use Rattle.std.proofs.Common.{◌≡◌, ◌+◌, ◌∷◌, [], sym, ◌∙◌, subst}
use Rattle.sot_turn.specs.Prefixes.{IsPrefix}
use Rattle.sot_world.specs.HistoryEntry.{FireAt}
use Rattle.sot_board.specs.Standing.{Standing}
use Rattle.sot_workers.specs.Instants.{IsSameInstant, NoneLeft}
use Rattle.sot_workers.proofs.Effects.{same_again}
use Rattle.sot_workers.proofs.Histories.{goes_further}
use Rattle.sot_workers.proofs.Remaining.{none_set, none_more}
use Rattle.sot_workers.proofs.Turns.{Turn, turn_after, turn_passes}
use Rattle.sot_workers.proofs.instant.fire_all.Goals.{then-left, else-left}
use Rattle.sot_workers.proofs.instant.fire_all.Goals as goal

pub fire-requires-clause-turn : goal.fire-requires-clause-turn
fire-requires-clause-turn c = c.loop-node.invariant.turn

pub loop-node-preserved : goal.loop-node-preserved
loop-node-preserved c =
    let start = c.args.board.now in
    let old = c.loop-node.board in
    let n = c.loop-node.node in
    let inv = c.loop-node.invariant in
    elim c.if-left.branch [
      | then-left w ↦
          let did = w.fire.ensures in
          let new = w.fire.new.board in
          let added : IsPrefix old.entries new.entries =
          (FireAt old.position.at.time n w.fire.result.draft did.entries.0 ∷ [], did.entries.1) in
          record {
            same = subst (λ (b : Standing). IsSameInstant start b) (sym w.board-is) (same_again start old new inv.same did.same);
            inputs = subst (λ (b : Standing). b.position.inputs ≡ start.position.inputs) (sym w.board-is) (did.inputs ∙ inv.inputs);
            left_dm = subst (λ (b : Standing). b.position.at.left_dm ≡ start.position.at.left_dm) (sym w.board-is) (did.left_dm ∙ inv.left_dm);
            goes_on = subst (λ (b : Standing). IsPrefix start.entries b.entries) (sym w.board-is)
                (goes_further start.entries old.entries new.entries inv.goes_on added);
            turn = subst (λ (b : Standing). Turn b (n + 1)) (sym w.board-is) (turn_after old new n did.same did.inputs did.left_dm did.left inv.turn);
            none = subst (λ (b : Standing). NoneLeft b.position.at.left (n + 1)) (sym w.board-is)
                (subst (λ l. NoneLeft l (n + 1)) (sym did.left) (none_set old.position.at.left n inv.none));
            count = inv.count;
          }
      | else-left w ↦
          let here = sym c.left.ensures ∙ w.if-left.false in
          record {
            same = subst (λ (b : Standing). IsSameInstant start b) (sym w.board-is) inv.same;
            inputs = subst (λ (b : Standing). b.position.inputs ≡ start.position.inputs) (sym w.board-is) inv.inputs;
            left_dm = subst (λ (b : Standing). b.position.at.left_dm ≡ start.position.at.left_dm) (sym w.board-is) inv.left_dm;
            goes_on = subst (λ (b : Standing). IsPrefix start.entries b.entries) (sym w.board-is) inv.goes_on;
            turn = subst (λ (b : Standing). Turn b (n + 1)) (sym w.board-is) (turn_passes old n inv.turn (λ own. here));
            none = subst (λ (b : Standing). NoneLeft b.position.at.left (n + 1)) (sym w.board-is)
                (none_more old.position.at.left n inv.none here);
            count = inv.count;
          }
    ]
