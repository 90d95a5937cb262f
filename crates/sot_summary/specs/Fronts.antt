-- Where the states of each plant begin.
use Rattle.std.specs.Prelude.{◌≡◌, ℕ, ◌<◌, List, length, take, slice_index_or}
use Rattle.sot_lang.specs.declared.tables.PlantInfo.{PlantInfo}
use Rattle.sot_board.specs.Counts.{state_count}

-- for each plant, how many states the plants before it have
abbrev pub AreFronts : List PlantInfo → List ℕ → Type 0
AreFronts plants fronts =
    (k : ℕ) → k < length plants → slice_index_or fronts k 0 ≡ state_count (take k plants)
