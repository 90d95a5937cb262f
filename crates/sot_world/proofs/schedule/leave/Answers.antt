use Rattle.std.proofs.Common.{◌+◌, ◌<◌, ℕ, true, false, length, ap, ◌∙◌, subst, sym, arith}
use Rattle.std.specs.Prelude.{slice_index_or}
use Rattle.std.proofs.lemmas.Bool.{false≢true}
use Rattle.std.proofs.lemmas.List.{length-set}
use Rattle.std.proofs.lemmas.Option.{slice_get-get_or, slice_get_within}
use Rattle.sot_world.proofs.Schedules.{IsFlag, done_more, to_come_more, flag_up, flags_behind, flag_stays}
use Rattle.sot_world.proofs.schedule.leave.Goals as goal
use Rattle.sot_world.proofs.schedule.leave.Goals.{then-falls_due, else-falls_due}

pub loop-k-preserved : goal.loop-k-preserved
loop-k-preserved c =
    let i = c.loop-k.invariant in
    let t = c.args.time in
    let k = c.loop-k.k in
    let was = c.args.schedules.now in
    let xs = c.loop-k.schedules in
    let lt : k < length xs = omega (arith, c.loop-k-test.true, c.loop-k.auto.schedules, c.loop-k.auto.k-end) in
    let lt_left : k < length c.loop-k.left = omega (arith, lt, i.size) in
    let at = slice_get-get_or xs k _ lt in
    let done = done_more t k was xs _ at i.to_come c.falls_due.new.schedule c.falls_due.ensures.after i.done in
    let to_come = to_come_more t k was xs _ at i.to_come c.falls_due.new.schedule in
    let many = length-set xs k c.falls_due.new.schedule in
    elim c.if-falls_due.branch [
      | then-falls_due w ↦ record {
        size = ap length w.left-is ∙ length-set c.loop-k.left k true ∙ i.size ∙ sym many;
        done = done;
        to_come = to_come;
        before = subst (λ l. (j : ℕ) → j < k + 1 → IsFlag t was c.args.left.now j (slice_index_or l j false)) (sym w.left-is)
            (flag_up t k was xs _ at i.to_come c.args.left.now c.loop-k.left lt_left (c.falls_due.ensures.due.0 w.if-falls_due.true) i.before);
        behind = λ j le. ap (λ l. slice_index_or l j false) w.left-is ∙ flags_behind t k was xs _ at i.to_come c.args.left.now c.loop-k.left i.behind j le;
      }
      | else-falls_due w ↦ record {
        size = ap length w.left-is ∙ i.size ∙ sym many;
        done = done;
        to_come = to_come;
        before = subst (λ l. (j : ℕ) → j < k + 1 → IsFlag t was c.args.left.now j (slice_index_or l j false)) (sym w.left-is)
            (flag_stays t k was xs _ at i.to_come c.args.left.now c.loop-k.left lt_left
            (λ due. false≢true (sym w.if-falls_due.false ∙ c.falls_due.ensures.due.1 due)) (i.behind k (omega arith)) i.before);
        behind = λ j le. ap (λ l. slice_index_or l j false) w.left-is ∙ i.behind j (omega (arith, le));
      }
    ]

pub returns-clause-left : goal.returns-clause-left
returns-clause-left c = λ k s at.
    c.loop-k.invariant.before k (omega (arith, slice_get_within c.args.schedules.now k s at, c.loop-k-test.false, c.loop-k.auto.schedules, c.loop-k.auto.k-end))
    s at
