use Rattle.std.proofs.Common.{◌<◌, ◌++◌, [], ◌∷◌, arith, sym, ap, ◌∙◌}
use Rattle.std.specs.Prelude.{option_to_list, length, take}
use Rattle.std.proofs.lemmas.List.{append_assoc, length-set, take_more, take_more_set}
use Rattle.std.proofs.lemmas.Option.{get_or_from_slice_get, slice_get_within}
use Rattle.sot_world.specs.HistoryRecords.{slots_filled, count_there}
use Rattle.sot_world.proofs.Records.{filled_next, count_next}
use Rattle.sot_world.proofs.drafted.append_slots.Goals as goal

pub loop-i-preserved : goal.loop-i-preserved
loop-i-preserved c =
    let k = c.loop-i.invariant in
    let before = k.kept in
    let more = before.0 in
    let slot = c.get.result in
    let inside : c.loop-i.i < length c.loop-i.there = omega (arith, k.size, c.loop-i-test.true) in
    let there = take_more_set c.loop-i.there c.loop-i.i c.append_slot.result inside
    ∙ ap (λ b. take c.loop-i.i c.loop-i.there ++ b ∷ []) c.append_slot.ensures.there in
    record {
      size = length-set c.loop-i.there c.loop-i.i c.append_slot.result ∙ k.size;
      len = omega (arith, k.len, c.append_slot.ensures.len);
      capacity = omega (arith, k.capacity, c.append_slot.ensures.capacity);
      kept = (
        more ++ option_to_list slot,
        c.append_slot.ensures.items ∙ ap (λ l. l ++ option_to_list slot) before.1 ∙ append_assoc c.args.numbers.now.items more (option_to_list slot),
        ap count_there there ∙ count_next (take c.loop-i.i c.loop-i.there) more slot before.2,
        ap (λ bs. slots_filled bs (more ++ option_to_list slot)) there ∙ filled_next (take c.loop-i.i c.loop-i.there) more slot before.2
            ∙ ap (λ l. l ++ slot ∷ []) before.3 ∙ sym (take_more c.args.draft.now c.loop-i.i slot
            (slice_get_within c.args.draft.now c.loop-i.i slot c.get.ensures)
            ∙ ap (λ o. take c.loop-i.i c.args.draft.now ++ o ∷ []) (get_or_from_slice_get c.args.draft.now c.loop-i.i slot slot c.get.ensures)),
      );
    }
