use Rattle.std.proofs.Common.{◌<◌, Some, None, arith, ap, ◌∙◌, rules, FitsSigned, w64}
use Rattle.std.specs.Prelude.{slice_set}
use Rattle.std.proofs.lemmas.Option.{slice_get-get_or}
use Rattle.sot_code.proofs.Filling.{read_word, put_more}
use Rattle.sot_flight.proofs.EightSlots.{blank_more}
use Rattle.sot_flight.proofs.drafts.script_draft.Goals as goal
use Rattle.sot_flight.proofs.drafts.script_draft.Goals.{in-Some, in_default}

pub loop-i-preserved : goal.loop-i-preserved
loop-i-preserved c =
    let row = c.args.row.now in
    let i = c.loop-i.i in
    let lt : c.loop-i.i < 8 = omega (arith, c.requires, c.loop-i-test.true) in
    elim c.match-row-i.branch [
      | in-Some w ↦
          let number = w.in-Some.number in
          let fits : FitsSigned w64 w.in-Some.number = search rules in
          w.draft-is ∙ w.set.ensures ∙ ap (λ z. slice_set c.loop-i.draft i (Some z)) (read_word number fits)
          ∙ ap (λ d. slice_set d i (Some number)) c.loop-i.invariant
          ∙ put_more row i (Some number) (slice_get-get_or row i None c.loop-i-test.true ∙ ap Some w.in-Some.is) lt
      | in_default w ↦ w.draft-is ∙ c.loop-i.invariant ∙ blank_more row i (slice_get-get_or row i None c.loop-i-test.true ∙ ap Some w.in_default.is) lt
    ]
