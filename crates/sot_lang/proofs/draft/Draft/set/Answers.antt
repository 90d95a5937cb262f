use Rattle.std.proofs.Common.{◌∙◌, sym, w64, true}
use Rattle.std.proofs.lemmas.Int.{to_z-of_z}
use Rattle.std.proofs.lemmas.List.{length-set}
use Rattle.sot_lang.proofs.DraftSlots.{slots-set, set_are_slots}
use Rattle.sot_lang.proofs.draft.Draft.set.Goals as goal

pub invariant_of-self : goal.invariant_of-self
invariant_of-self c =
    let there = c.self.inside.there in
    let numbers = c.self.inside.numbers in (
      length-set there c.args.i true ∙ c.self.invariant.0,
      length-set numbers c.args.i _ ∙ c.self.invariant.1,
      set_are_slots c.args.i _ there numbers c.self.invariant.2,
    )

pub returns : goal.returns
returns c =
    rw (to_z-of_z w64 c.args.v c.ranges.v, ← c.self.view_is)
    (slots-set c.args.i c.args.v c.self.inside.there c.self.inside.numbers (c.self.invariant.0 ∙ sym c.self.invariant.1))
