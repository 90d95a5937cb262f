use Rattle.std.proofs.Common.{◌+◌, ◌/◌, rules, subst, sym, ap, ◌∙◌, get_or, Some, pos, w64, SFits}
use Rattle.std.proofs.Math.ListN.{set}
use Rattle.std.proofs.lemmas.Int.{to_z-of_z}
use Rattle.sot_world.proofs.KeptDrafts.{ReadSoFar, read_there, read_blank}
use Rattle.sot_world.proofs.drafted.draft_at.Goals as goal
use Rattle.sot_world.proofs.drafted.draft_at.Goals.{then-left-eq1, else-left-eq1}

pub loop-i-preserved : goal.loop-i-preserved
loop-i-preserved c =
    let there = c.args.there in
    let numbers = c.args.numbers.now in
    let next = c.loop-i.left / 2 in
    let draft = c.if-left-eq1.draft in
    elim c.if-left-eq1.branch [
      | then-left-eq1 w ↦
          let fits : SFits w64 (get_or numbers c.loop-i.at (pos 0)) = search rules in
          let new = w.draft-is ∙ w.set.ensures ∙ ap (λ z. set c.loop-i.draft c.loop-i.i (Some z)) (to_z-of_z w64 _ fits) in
          subst (λ n. ReadSoFar there numbers c.args.from (c.loop-i.i + 1) next n draft) (sym w.at-is)
          (read_there there numbers c.args.from c.loop-i.i c.loop-i.left c.loop-i.at c.loop-i.draft c.loop-i-test.true c.loop-i.invariant draft
          w.if-left-eq1.true new)
      | else-left-eq1 w ↦
          subst (λ n. ReadSoFar there numbers c.args.from (c.loop-i.i + 1) next n draft) (sym w.at-is)
          (subst (ReadSoFar there numbers c.args.from (c.loop-i.i + 1) next c.loop-i.at) (sym w.draft-is)
          (read_blank there numbers c.args.from c.loop-i.i c.loop-i.left c.loop-i.at c.loop-i.draft c.loop-i-test.true c.loop-i.invariant w.if-left-eq1.false))
    ]
