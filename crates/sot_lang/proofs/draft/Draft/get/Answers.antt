use Rattle.std.proofs.Common.{◌<◌, ◌∙◌, sym, ap, pos, length, get_or, w64, SFits, rules, arith, Some}
use Rattle.std.proofs.lemmas.Int.{to_z-of_z}
use Rattle.sot_lang.specs.DraftSlots.{slot}
use Rattle.sot_lang.proofs.DraftSlots.{slot-read}
use Rattle.sot_lang.proofs.draft.Draft.get.Goals as goal

pub returns-then-there-i : goal.returns-then-there-i
returns-then-there-i c =
    let there = c.self.inside.there in
    let numbers = c.self.inside.numbers in
    let fits : SFits w64 (get_or numbers c.args.i (pos 0)) = search rules in
    let inside : c.args.i < length there = omega (arith, c.self.invariant.0, c.requires) in
    rw (to_z-of_z w64 _ fits, ← c.self.view_is)
    (slot-read c.args.i there numbers (c.self.invariant.0 ∙ sym c.self.invariant.1) inside
    ∙ ap (λ b. Some (slot b (get_or numbers c.args.i (pos 0)))) c.if-there-i.true)

pub returns-else-there-i : goal.returns-else-there-i
returns-else-there-i c =
    let there = c.self.inside.there in
    let numbers = c.self.inside.numbers in
    let inside : c.args.i < length there = omega (arith, c.self.invariant.0, c.requires) in
    rw (← c.self.view_is)
    (slot-read c.args.i there numbers (c.self.invariant.0 ∙ sym c.self.invariant.1) inside
    ∙ ap (λ b. Some (slot b (get_or numbers c.args.i (pos 0)))) c.if-there-i.false)
