-- Between the crate's own functions: ranks that were found.
use Rattle.std.specs.Prelude.{ℕ, ◌≡◌, ◌<◌, ◌≤◌, ◌↔◌, List, length, slice_index_or}
use Rattle.sot_lang.specs.declared.cert.Cert.{Cert}
use Rattle.sot_lang.specs.Tables.{Tables}
use Rattle.sot_law_runs.specs.Holds.{Guarded}
use Rattle.sot_law_runs.specs.Ranks.{HasRank}

-- the numbers are the ranks of the cells; a cell that has a rank has one that is at most the number
-- of cells
pub record AreRanksOf {p : Tables} {cert : Cert} {m : ℕ} (g : Guarded p cert m) (ranks : List ℕ) :
    Type 0 where
  pub count : length ranks ≡ length g.cells.closed.boxes
  pub are : (k i : ℕ) → k < 4294967295
      → HasRank g k i ↔ ((i < length ranks) × (slice_index_or ranks i 0 ≤ k))
  pub top : (k i : ℕ) → HasRank g k i → HasRank g (length ranks) i
