use Rattle.std.proofs.Common.{◌≡◌, ◌∙◌, false, sym, ap, subst, arith}
use Rattle.std.specs.Prelude.{slice_index_or}
use Rattle.std.specs.Slots.{slots_filled, slots_len}
use Rattle.std.proofs.lemmas.List.{get_or-set_same}
use Rattle.sot_turn.specs.Prefixes.{IsPrefix}
use Rattle.sot_turn.proofs.turn.Turn.close.Goals as goal

-- the table has one slot
pub take-requires : goal.take-requires
take-requires g c =
    let slots = c.close_with-closed.result.slots in
    let one : slots_len slots ≡ 1 = c.close_with-closed.ensures.counts.1 ∙ c.args.self.sized.1 in
    (omega (arith, one), c.close_with-closed.ensures.values.1 0 (omega arith) (omega (arith, one)))

-- and nothing lies there once it was taken
pub free-requires : goal.free-requires
free-requires g c = λ k below.
    let slots = c.close_with-closed.result.slots in
    let one : slots_len slots ≡ 1 = c.close_with-closed.ensures.counts.1 ∙ c.args.self.sized.1 in
    let others = c.take.ensures.others in
    let first : k ≡ 0 = omega (arith, one, others.2) in
    let empty = get_or-set_same (slots_filled slots) 0 false false (omega (arith, one, slots.ok.1)) in
    subst (λ i. slice_index_or (slots_filled c.take.new.self.slots) i false ≡ false) (sym first) (ap (λ filled. slice_index_or filled 0 false) others.1 ∙ empty)

pub returns-clause-ground : goal.returns-clause-ground
returns-clause-ground g c = sym (ap (λ m. m.0.own_ground) c.draw-ticket.ensures.drawn) ∙ c.serve-value.ensures.ground

pub returns-clause-goes_on : goal.returns-clause-goes_on
returns-clause-goes_on g c =
    subst (λ seen. IsPrefix seen (g.G.Journal.entries c.serve-value.result)) (ap (λ m. m.0.seen) c.draw-ticket.ensures.drawn) c.serve-value.ensures.goes_on
