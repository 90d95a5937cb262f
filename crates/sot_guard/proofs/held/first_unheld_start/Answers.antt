use Rattle.std.proofs.Common.{◌<◌, ◌≤◌, length, map, ap, subst, arith}
use Rattle.sot_lang.specs.TableRules.{MeetsTableRules}
use Rattle.sot_guard.proofs.HeldTests.{all_told, first_told}
use Rattle.sot_guard.proofs.held.first_unheld_start.Goals as goal

pub returns-then-not-is_held_first : goal.returns-then-not-is_held_first
returns-then-not-is_held_first c =
    let rules = subst MeetsTableRules c.p.view_is c.p.invariant in
    let m = c.loop-module.«module» in
    let below : m < length c.args.p.now.modules =
    omega (arith, c.loop-module-test.true, c.len-count.ensures, c.p.inside.modules.ok.0, ap (λ t. length t.modules) c.p.view_is) in
    first_told c.args.p.now rules c.args.jitter c.args.time m (map (λ i. i.init) c.args.p.now.scalars) c.args.points.now c.is_held_first.result below c.if-not-is_held_first.true c.is_held_first.ensures
    c.loop-module.invariant

pub returns : goal.returns
returns c =
    let all : length c.args.p.now.modules ≤ c.loop-module.«module» =
    omega (arith, c.loop-module-test.false, c.len-count.ensures, c.p.inside.modules.ok.0, ap (λ t. length t.modules) c.p.view_is) in
    all_told c.args.p.now c.args.jitter c.args.time c.loop-module.«module» (map (λ i. i.init) c.args.p.now.scalars) c.args.points.now all c.loop-module.invariant
