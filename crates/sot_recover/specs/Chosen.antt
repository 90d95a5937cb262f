-- Between the crate's own functions: the cells of rank k at most, in order.
use Rattle.std.specs.Prelude.{ℕ, ◌+◌, ◌≡◌, ◌≤◌, ◌<◌, ◌⊎◌, List, [], ◌∷◌, map, nat_le, if◌then◌else◌}
use Rattle.std.specs.Prelude.{slice_index_or}
use Rattle.sot_box.specs.Sides.{Side}
use Rattle.sot_box.specs.Regions.{CoversAll}

-- the places, which count from n, of numbers that are at most k
abbrev pub places_from : ℕ → ℕ → List ℕ → List ℕ
places_from k n [] = []
places_from k n (r ∷ rs) =
    if nat_le r k then n ∷ places_from k (n + 1) rs else places_from k (n + 1) rs

-- the cells of rank k at most
abbrev pub chosen : List (List Side) → List ℕ → ℕ → List (List Side)
chosen cells ranks k = map (λ i. slice_index_or cells i []) (places_from k 0 ranks)

-- k is the least number up to `top` for which the cells of rank k at most cover the region
pub record IsLeastCover (safe cells : List (List Side)) (ranks : List ℕ) (top k : ℕ) : Type 0 where
  pub few : k ≤ top
  pub covers : CoversAll safe (chosen cells ranks k)
  pub least : (l : ℕ) → l < k → CoversAll safe (chosen cells ranks l) → ⊥

-- new bounds: up to the middle, if its cells cover the region, or above it
abbrev pub IsHalf : List (List Side) → List (List Side) → List ℕ → ℕ → ℕ → ℕ → ℕ → ℕ → Type 0
IsHalf safe cells ranks middle low high low' high' =
    ((low' ≡ low) × (high' ≡ middle) × CoversAll safe (chosen cells ranks middle))
    ⊎ ((low' ≡ middle + 1) × (high' ≡ high) × (CoversAll safe (chosen cells ranks middle) → ⊥))
