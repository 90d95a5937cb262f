use Rattle.std.proofs.Common.{sym, subst}
use Rattle.sot_monitor.specs.Tracking.{IsNewOf}
use Rattle.sot_monitor.proofs.Stands.{new_stands, some_parts}
use Rattle.sot_monitor.proofs.monitor.Monitor.read.Goals as goal

pub fresh-requires-clause-some : goal.fresh-requires-clause-some
fresh-requires-clause-some c = (let r = c.in-Ok.ensures.ok in some_parts c.in-Ok.whats.items r.formula r.whole)

pub returns-in-Ok-fresh-clause-ok : goal.returns-in-Ok-fresh-clause-ok
returns-in-Ok-fresh-clause-ok c =
    let r = c.in-Ok.ensures.ok in
    subst (IsNewOf c.args.p.now c.args.bytes.now) (sym c.in-Ok-fresh.ensures)
    (record {
      phrase = r.phrase;
      formula = r.formula;
      text = r.text;
      means = r.means;
      stands = new_stands c.in-Ok.whats.items r.formula r.whole;
      there = r.there;
    })
