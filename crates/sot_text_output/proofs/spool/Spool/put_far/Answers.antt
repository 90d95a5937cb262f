use Rattle.std.proofs.Common.{[], refl, ◌∙◌}
use Rattle.sot_text_output.specs.SpoolLaws.{grows_more}
use Rattle.sot_text_output.proofs.Growing.{waits_more, waits_same}
use Rattle.sot_text_output.proofs.spool.Spool.put_far.Goals as goal

pub returns-then-waits : goal.returns-then-waits
returns-then-waits g c = (
  c.hand_on.ensures.puts.0,
  grows_more _ _ _ [] c.args.bytes.now c.hand_on.ensures.puts.1 (waits_more _ _ _ _ _ c.args.bytes.now (c.if-waits.ensures.put refl)),
)

pub returns : goal.returns
returns g c =
    let left = waits_same _ _ _ _ _ (c.if-waits.ensures.full refl) in (
      c.hand_over.ensures.0 ∙ c.hand_on.ensures.puts.0,
      grows_more _ _ _ [] c.args.bytes.now c.hand_on.ensures.puts.1 (grows_more _ _ _ [] c.args.bytes.now left c.hand_over.ensures.1),
    )
