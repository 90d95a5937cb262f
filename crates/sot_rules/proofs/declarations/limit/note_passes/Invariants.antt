-- The loop of `note_passes`: what is noted, and then what is left; the sum so far is the limit without the room.
use Rattle.std.proofs.Common.{◌≡◌, ◌-◌, ◌≤◌, drop}
use Rattle.sot_rules.specs.Names.{meaning}
use Rattle.sot_rules.specs.Faults.{least, passes}
use Rattle.sot_rules.specs.Indexes.{program_in}
use Rattle.sot_rules.specs.Meanings.{size_of}
use Rattle.sot_rules.proofs.declarations.limit.note_passes.Given as goal

abbrev pub invariant-loop-name : goal.invariant-loop-name
invariant-loop-name l = record {
  within : l.room ≤ l.limit;
  noted : least l.first (passes (λ i. size_of l.plants (meaning (program_in l.index) i)) l.limit (l.limit - l.room) (drop l.name-index l.names))
      ≡ least l.fn.first (passes (λ i. size_of l.plants (meaning (program_in l.index) i)) l.limit 0 l.names);
}
