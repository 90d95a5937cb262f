use Rattle.std.proofs.Common.{◌≡◌, ◌+◌, sym, ◌∙◌, subst}
use Rattle.sot_board.specs.Standing.{Standing}
use Rattle.sot_workers.specs.Instants.{IsSameInstant, AddsNoFiring, NoneLeft}
use Rattle.sot_workers.proofs.Effects.{decide_same, same_again}
use Rattle.sot_workers.proofs.Histories.{decision_added, none_added_again}
use Rattle.sot_workers.proofs.Remaining.{none_set, none_more}
use Rattle.sot_workers.proofs.Turns.{none_due_along}
use Rattle.sot_workers.proofs.instant.decide_all.Goals.{then-left_dm, else-left_dm}
use Rattle.sot_workers.proofs.instant.decide_all.Goals as goal

pub decide-requires-clause-inputs : goal.decide-requires-clause-inputs
decide-requires-clause-inputs c =
    let inv = c.loop-module.invariant in
    none_due_along c.args.board.now c.loop-module.board inv.inputs inv.same.time c.requires.inputs

pub decide-requires-clause-before : goal.decide-requires-clause-before
decide-requires-clause-before c = c.loop-module.invariant.none

pub loop-module-preserved : goal.loop-module-preserved
loop-module-preserved c =
    let start = c.args.board.now in
    let old = c.loop-module.board in
    let m = c.loop-module.«module» in
    let inv = c.loop-module.invariant in
    elim c.if-left_dm.branch [
      | then-left_dm w ↦
          let new = w.decide.new.self in
          let logs = w.decide.ensures in
          let did = decide_same old new m _ logs in
          record {
            same = subst (λ (b : Standing). IsSameInstant start b) (sym w.board-is) (same_again start old new inv.same did.0);
            entries = subst (λ (b : Standing). AddsNoFiring start.entries b.entries) (sym w.board-is)
                (none_added_again start.entries old.entries new.entries inv.entries (decision_added old new m old.position.at.time m w.decide.result logs));
            inputs = subst (λ (b : Standing). b.position.inputs ≡ start.position.inputs) (sym w.board-is) (did.1 ∙ inv.inputs);
            none = subst (λ (b : Standing). NoneLeft b.position.at.left_dm (m + 1)) (sym w.board-is)
                (subst (λ l. NoneLeft l (m + 1)) (sym did.2) (none_set old.position.at.left_dm m inv.none));
            count = inv.count;
          }
      | else-left_dm w ↦
          record {
            same = subst (λ (b : Standing). IsSameInstant start b) (sym w.board-is) inv.same;
            entries = subst (λ (b : Standing). AddsNoFiring start.entries b.entries) (sym w.board-is) inv.entries;
            inputs = subst (λ (b : Standing). b.position.inputs ≡ start.position.inputs) (sym w.board-is) inv.inputs;
            none = subst (λ (b : Standing). NoneLeft b.position.at.left_dm (m + 1)) (sym w.board-is)
                (none_more old.position.at.left_dm m inv.none (sym c.left_dm.ensures ∙ w.if-left_dm.false));
            count = inv.count;
          }
    ]
