use Rattle.std.proofs.Common.{◌≡◌, ◌++◌, map, drop, []}
use Rattle.std.specs.Prelude.{slice_index_or}
use Rattle.sot_recover.specs.Chosen.{places_from, chosen}
use Rattle.sot_recover.proofs.least.chosen_cells.Given as goal

-- with what is still to come it is the whole
abbrev pub invariant-loop-i : goal.invariant-loop-i
invariant-loop-i l = record {
  width : l.by.width ≡ l.fn.width;
  whole : l.by.boxes ++ map (λ j. slice_index_or l.cells j []) (places_from l.k l.i (drop l.i l.ranks)) ≡ chosen l.cells l.ranks l.k;
}
