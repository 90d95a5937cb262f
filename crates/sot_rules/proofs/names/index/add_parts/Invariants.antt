-- The loop of `add_parts`: the table gives what the state variables so far do.
use Rattle.std.proofs.Common.{◌≡◌, ℕ, List, map, take}
use Rattle.sot_rules.specs.Names.{state_part}
use Rattle.sot_names.specs.NameTables.{found}
use Rattle.sot_rules.specs.Indexes.{sort_in}
use Rattle.sot_rules.proofs.names.index.add_parts.Given as goal

abbrev pub invariant-loop-s : goal.invariant-loop-s
invariant-loop-s l = (name : List ℕ) → found l.table name ≡ sort_in (map state_part (take l.s-index l.states)) name
