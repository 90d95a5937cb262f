use Rattle.std.proofs.Common.{length, ap, sym, ◌∙◌}
use Rattle.sot_lang.proofs.DraftSlots.{slots-length}
use Rattle.sot_lang.proofs.draft.Draft.has_eight_slots.Goals as goal

pub returns : goal.returns
returns c =
    ap length (sym c.self.view_is) ∙ slots-length c.self.inside.there c.self.inside.numbers (c.self.invariant.0 ∙ sym c.self.invariant.1) ∙ c.self.invariant.0
