use Rattle.std.proofs.Common.{refl, ap, ◌++◌}
use Rattle.sot_text_output.proofs.Growing.{given_more}
use Rattle.sot_text_output.proofs.spool.Spool.hand_over.Goals as goal

pub returns : goal.returns
returns g c = (refl, given_more _ _ c.args.bytes.now c.args.bytes.now c.give-self.ensures c.requires (ap (λ l. l ++ c.args.bytes.now) c.requires))
