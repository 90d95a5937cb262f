use Rattle.std.proofs.Common.{◌≡◌, ap, subst, arith, SFits}
use Rattle.std.specs.Int.{w128}
use Rattle.std.proofs.lemmas.Int.{ints, to_z-of_z}
use Rattle.sot_lang.specs.TableRules.{MeetsTableRules}
use Rattle.sot_world.specs.Histories.{entry_of}
use Rattle.sot_world.specs.HistoryEntry.{TickAt}
use Rattle.sot_trace.specs.Lines.{ticks_in}
use Rattle.sot_trace.specs.Fitting.{FitsEntry}
use Rattle.sot_summary.proofs.Points.{few_in}
use Rattle.sot_summary.proofs.entry.states_in.Goals as goal

pub total-requires : goal.total-requires
total-requires c =
    let rules = subst MeetsTableRules c.p.view_is c.p.invariant in
    let fits : FitsEntry c.args.p.now (TickAt c.in-Tick.time c.in-Tick.noise.now c.in-Tick.states.now) =
    subst (λ (e : _). FitsEntry c.args.p.now (entry_of e)) c.in-Tick.is c.requires in
    few_in c.args.p.now rules c.in-Tick.states.now fits.1

pub returns-in-Tick-clause-low : goal.returns-in-Tick-clause-low
returns-in-Tick-clause-low c =
    let rules = subst MeetsTableRules c.p.view_is c.p.invariant in
    let fits : FitsEntry c.args.p.now (TickAt c.in-Tick.time c.in-Tick.noise.now c.in-Tick.states.now) =
    subst (λ (e : _). FitsEntry c.args.p.now (entry_of e)) c.in-Tick.is c.requires in
    let few = few_in c.args.p.now rules c.in-Tick.states.now fits.1 in
    let fits_sum : SFits w128 c.total.result = search rules in
    let whole = to_z-of_z w128 c.total.result fits_sum in
    let one : ticks_in (entry_of c.args.entry.now) ≡ 1 = ap (λ (e : _). ticks_in (entry_of e)) c.in-Tick.is in
    omega (arith, ints, whole, one, few, c.total.ensures.low)

pub returns-in-Tick-clause-high : goal.returns-in-Tick-clause-high
returns-in-Tick-clause-high c =
    let rules = subst MeetsTableRules c.p.view_is c.p.invariant in
    let fits : FitsEntry c.args.p.now (TickAt c.in-Tick.time c.in-Tick.noise.now c.in-Tick.states.now) =
    subst (λ (e : _). FitsEntry c.args.p.now (entry_of e)) c.in-Tick.is c.requires in
    let few = few_in c.args.p.now rules c.in-Tick.states.now fits.1 in
    let fits_sum : SFits w128 c.total.result = search rules in
    let whole = to_z-of_z w128 c.total.result fits_sum in
    let one : ticks_in (entry_of c.args.entry.now) ≡ 1 = ap (λ (e : _). ticks_in (entry_of e)) c.in-Tick.is in
    omega (arith, ints, whole, one, few, c.total.ensures.high)
