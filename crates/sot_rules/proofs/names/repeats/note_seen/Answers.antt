-- Of `note_seen`: that its loop keeps what it says, and its promises.
use Rattle.std.proofs.Common.{refl, map}
use Rattle.sot_rules.specs.Faults.{repeats}
use Rattle.sot_names.specs.SeenNames.{seen_names, with_name}
use Rattle.sot_names.specs.NameSets.{keys_in}
use Rattle.sot_rules.proofs.Loops.{none_left}
use Rattle.sot_rules.proofs.Repeats.{step_repeats}
use Rattle.sot_names.proofs.Steps.{step_names, names_end}
use Rattle.sot_rules.proofs.names.repeats.note_seen.Goals as goal

pub loop-item-preserved : goal.loop-item-preserved
loop-item-preserved g c = record {
  noted =
      step_repeats g.T.Named.ident c.args.items.now c.loop-item.item-index c.item-item.result c.ident.result.now _ _ _ _ _
      c.loop-item-test.true c.item-item.is c.ident.ensures c.loop-item.invariant.noted c.in_ok-note_repeat.ensures.noted c.in_ok-note_repeat.ensures.seen;
  seen =
      step_names g.T.Named.ident with_name c.args.items.now c.loop-item.item-index c.item-item.result c.ident.result.now _ _ _
      c.loop-item-test.true c.item-item.is c.ident.ensures c.loop-item.invariant.seen c.in_ok-note_repeat.ensures.seen;
}

pub returns-clause-noted : goal.returns-clause-noted
returns-clause-noted g c =
    none_left (λ is. repeats (seen_names (keys_in c.loop-item.seen)) (map g.T.Named.ident is)) refl c.args.items.now c.loop-item.item-index
    _ _ c.loop-item-test.false c.loop-item.invariant.noted

pub returns-clause-seen : goal.returns-clause-seen
returns-clause-seen g c = names_end g.T.Named.ident with_name c.args.items.now c.loop-item.item-index _ _ c.loop-item-test.false c.loop-item.invariant.seen
