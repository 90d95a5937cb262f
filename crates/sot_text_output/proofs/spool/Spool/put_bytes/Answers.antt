use Rattle.std.proofs.Common.{[], refl}
use Rattle.sot_text_output.specs.SpoolLaws.{grows_more}
use Rattle.sot_text_output.proofs.Growing.{waits_more, waits_same}
use Rattle.sot_text_output.proofs.spool.Spool.put_bytes.Goals as goal

pub returns-then-waits : goal.returns-then-waits
returns-then-waits g c = (refl, waits_more _ _ _ _ _ c.args.bytes.now (c.if-waits.ensures.put refl))

pub returns : goal.returns
returns g c =
    (c.put_far.ensures.0, grows_more _ _ _ [] c.args.bytes.now (waits_same _ _ _ _ _ (c.if-waits.ensures.full refl)) c.put_far.ensures.1)
