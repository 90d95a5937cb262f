use Rattle.std.proofs.Common.{[], ◌∷◌, refl}
use Rattle.sot_text_output.specs.SpoolLaws.{grows_more}
use Rattle.sot_text_output.proofs.Growing.{waits_more, waits_same}
use Rattle.sot_text_output.proofs.spool.SpoolOut.put_byte.Goals as goal

pub returns-then-waits_byte : goal.returns-then-waits_byte
returns-then-waits_byte g c = (refl, waits_more _ _ _ _ _ (c.args.byte ∷ []) (c.if-waits_byte.ensures.put refl))

pub returns : goal.returns
returns g c =
    (c.put_far.ensures.0, grows_more _ _ _ [] (c.args.byte ∷ []) (waits_same _ _ _ _ _ (c.if-waits_byte.ensures.full refl)) c.put_far.ensures.1)
