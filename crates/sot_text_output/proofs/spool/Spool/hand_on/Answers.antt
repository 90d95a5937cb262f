use Rattle.std.proofs.Common.{[], refl, sym, ◌∙◌, append-nil}
use Rattle.sot_text_output.proofs.Growing.{given_more}
use Rattle.sot_text_output.proofs.spool.Spool.hand_on.Goals as goal

pub returns-clause-puts : goal.returns-clause-puts
returns-clause-puts g c = (
  refl,
  given_more _ _ c.as_slice.result.now [] c.give-self.ensures c.clear.ensures.items
      (append-nil c.args.self.now.waiting.now.items ∙ sym c.as_slice.ensures.value),
)
