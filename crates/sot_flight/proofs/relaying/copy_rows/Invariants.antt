use Rattle.std.proofs.Common.{◌≡◌, ◌++◌, map, drop}
use Rattle.sot_flight.proofs.relaying.copy_rows.Given as goal

abbrev pub invariant-loop-row : goal.invariant-loop-row
invariant-loop-row g l = map (λ row. row.items) l.found.items ++ drop l.row-index (map (λ row. row.items) l.rows.items) ≡ map (λ row. row.items) l.rows.items
