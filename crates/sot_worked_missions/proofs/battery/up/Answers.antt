-- Of `up`: its promises.
use Rattle.std.proofs.Common.{◌∙◌, ap}
use Rattle.std.specs.Global.{Vec}
use Rattle.sot_lang.specs.declared.tables.Slot.{Slot}
use Rattle.sot_worked_missions.proofs.battery.up.Goals as goal

pub returns : goal.returns
returns c = record {
  name = c.in_ok-node.ensures.name;
  period = c.in_ok-node.ensures.period;
  offset = c.in_ok-node.ensures.offset;
  reads = ap (λ (v : Vec Slot). v.items) c.in_ok-node.ensures.reads ∙ c.in_ok-reads.ensures.items;
  writes = c.in_ok-node.ensures.writes;
  locals = c.in_ok-node.ensures.locals;
  body = c.in_ok-node.ensures.body;
}
