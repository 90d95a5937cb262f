use Rattle.std.proofs.Common.{◌+◌, ◌++◌, [], map, take, slice_index_or, append_assoc, sym, ap, ◌∙◌, arith, rules}
use Rattle.std.proofs.lemmas.Option.{slice_get-get_or}
use Rattle.sot_lang.specs.Ticks.{joined}
use Rattle.sot_world.proofs.Starting.{read_list}
use Rattle.sot_world.proofs.Parts.{joined_more}
use Rattle.sot_world.proofs.tick.put_seen.Goals as goal

pub loop-i-preserved : goal.loop-i-preserved
loop-i-preserved c =
    let k = c.loop-i.invariant in
    let at = slice_get-get_or c.args.sees.now c.loop-i.i 0 c.loop-i-test.true in
    let point = read_list c.args.points.now _ _ (c.requires.there c.loop-i.i _ at) c.index-points-sees.is in
    let before = joined (map (λ j. slice_index_or c.args.points.now j []) (take c.loop-i.i c.args.sees.now)) in
    record {
      few = omega (arith, k.few, c.len-more.ensures.few);
      size = search (rules, k.size);
      front = ap (λ n. take (c.loop-i.count + n) c.put_point.new.numbers) c.len-more.ensures.value
          ∙ c.put_point.ensures.front ∙ ap (λ l. l ++ c.index-points-sees.result) k.front
          ∙ append_assoc (take c.args.from c.args.numbers.now) before c.index-points-sees.result
          ∙ ap (λ l. take c.args.from c.args.numbers.now ++ l) (ap (λ x. before ++ x) point
          ∙ sym (joined_more (λ j. slice_index_or c.args.points.now j []) c.args.sees.now c.loop-i.i _ at));
    }
