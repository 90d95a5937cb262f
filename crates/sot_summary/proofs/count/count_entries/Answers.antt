use Rattle.std.proofs.Common.{◌∙◌, ◌≤◌, List, length, sym, ap, subst, arith}
use Rattle.std.proofs.lemmas.Int.{ints}
use Rattle.sot_lang.specs.declared.tables.PlantInfo.{PlantInfo}
use Rattle.sot_lang.specs.TableRules.{MeetsTableRules}
use Rattle.sot_board.specs.Counts.{state_count}
use Rattle.sot_world.specs.HistoryEntry.{Logged}
use Rattle.sot_world.specs.Histories.{entry_of}
use Rattle.sot_trace.specs.Lines.{ticks_in, refused_in}
use Rattle.sot_trace.proofs.Laying.{count_more}
use Rattle.sot_trace.proofs.StateCounts.{few_states}
use Rattle.sot_summary.specs.Counted.{firings_in, outside_in}
use Rattle.sot_summary.specs.Fronts.{AreFronts}
use Rattle.sot_summary.proofs.Counting.{states_more}
use Rattle.sot_summary.proofs.count.count_entries.Goals as goal

pub fronts_of-fronts-requires-clause-few : goal.fronts_of-fronts-requires-clause-few
fronts_of-fronts-requires-clause-few c =
    let tables = c.p.view_is in
    let rules = subst MeetsTableRules tables c.p.invariant in
    let plants = c.deref.ensures.value ∙ ap (λ t. t.plants) tables in
    subst (λ (ks : List PlantInfo). length ks ≤ 100) (sym plants) rules.plant_count

pub fronts_of-fronts-requires-clause-few_states : goal.fronts_of-fronts-requires-clause-few_states
fronts_of-fronts-requires-clause-few_states c =
    let tables = c.p.view_is in
    let rules = subst MeetsTableRules tables c.p.invariant in
    let plants = c.deref.ensures.value ∙ ap (λ t. t.plants) tables in
    let few = few_states c.args.p.now rules in
    subst (λ (ks : List PlantInfo). state_count ks ≤ 400) (sym plants) (omega (arith, few, rules.plant_count))

pub outside_in-requires-clause-fronts : goal.outside_in-requires-clause-fronts
outside_in-requires-clause-fronts c =
    let plants = c.deref.ensures.value ∙ ap (λ t. t.plants) c.p.view_is in
    subst (λ (ks : List PlantInfo). AreFronts ks c.fronts_of-fronts.result) plants c.fronts_of-fronts.ensures

pub loop-i-preserved : goal.loop-i-preserved
loop-i-preserved c =
    let e : Logged = entry_of c.entry-entry.result in
    let es = c.args.history.now.entries in
    let p = c.args.p.now in
    let at = c.entry-entry.ensures in
    let k = c.loop-i.invariant in
    let firings = count_more firings_in es c.loop-i.i e at in
    let ticks = count_more ticks_in es c.loop-i.i e at in
    let refused = count_more (refused_in p) es c.loop-i.i e at in
    let outside = count_more (outside_in p) es c.loop-i.i e at in
    let sum = states_more es c.loop-i.i e at in
    record {
      firings = omega (arith, firings, c.firings_in.ensures.value, k.firings);
      ticks = omega (arith, ticks, c.ticks_in.ensures.value, k.ticks);
      refused = omega (arith, refused, c.refused_in.ensures.value, k.refused);
      outside = omega (arith, outside, c.outside_in.ensures.value, k.outside);
      sum = omega (arith, ints, sum, c.states_in.ensures.value, k.sum);
      few_firings = omega (arith, c.firings_in.ensures.few, k.few_firings);
      few_ticks = omega (arith, c.ticks_in.ensures.few, k.few_ticks);
      few_refused = omega (arith, c.refused_in.ensures.few, k.few_refused);
      few_outside = omega (arith, c.outside_in.ensures.few, k.few_outside);
      low = omega (arith, ints, k.low, c.states_in.ensures.low, c.ticks_in.ensures.value);
      high = omega (arith, ints, k.high, c.states_in.ensures.high, c.ticks_in.ensures.value);
    }
