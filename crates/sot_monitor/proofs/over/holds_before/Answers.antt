use Rattle.std.proofs.Common.{◌++◌, length, subst, sym}
use Rattle.std.specs.Prelude.{MatchBool}
use Rattle.sot_world.specs.Histories.{entry_of}
use Rattle.sot_monitor.specs.Holding.{AlwaysHolds, FirstFails}
use Rattle.sot_monitor.specs.Seen.{seen_before}
use Rattle.sot_monitor.proofs.over.holds_before.Goals as goal

pub returns-in-Tick-clause-verdict : goal.returns-in-Tick-clause-verdict
returns-in-Tick-clause-verdict c = λ x Ms rest stands always.
    subst
    (λ (e : _). MatchBool c.holds_now.result (AlwaysHolds (Ms ++ seen_before c.args.scene.now (entry_of e)) x)
    (FirstFails (Ms ++ (seen_before c.args.scene.now (entry_of e) ++ rest)) x (length Ms)))
    (sym c.in-Tick.is)
    (c.holds_now.ensures.verdict x Ms rest stands always)
