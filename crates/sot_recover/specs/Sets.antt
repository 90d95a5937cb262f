-- Sets of places, by flags, and their ranks.
use Rattle.std.specs.Prelude.{ℕ, suc, ◌≡◌, Bool, true, false, nat_le, ◌<◌, ◌≤◌, ◌⊎◌, ◌↔◌, map}
use Rattle.std.specs.Prelude.{length, List, [], ◌∷◌, slice_index_or, slice_set}

-- a place is flagged
abbrev pub IsSet : List Bool → ℕ → Type 0
IsSet xs i = slice_index_or xs i false ≡ true

-- the flagged places and these
abbrev pub with_places : List Bool → List ℕ → List Bool
with_places set [] = set
with_places set (j ∷ js) = slice_set (with_places set js) j true

-- what lands in some places lands in more of them
abbrev pub IsMonotone : (List Bool → ℕ → Type 0) → Type 0
IsMonotone lands =
    (xs ys : List Bool) (i : ℕ) → ((j : ℕ) → IsSet xs j → IsSet ys j) → lands xs i → lands ys i

-- where it does not hang on a place, that place may go
abbrev pub IsHanging : (List Bool → ℕ → Type 0) → (ℕ → ℕ → Type 0) → Type 0
IsHanging lands hangs =
    (xs : List Bool) (j i : ℕ) → lands xs i → (hangs j i → ⊥) → lands (slice_set xs j false) i

-- these places are in the set and keep to themselves
pub record KeepIn (lands : List Bool → ℕ → Type 0) (all set : List Bool) : Type 0 where
  pub inside : (i : ℕ) → IsSet all i → IsSet set i
  pub land : (i : ℕ) → IsSet all i → lands all i

-- the places of rank k at most
abbrev pub at_most : ℕ → List ℕ → List Bool
at_most k ranks = map (λ r. nat_le r k) ranks

-- ranks: those of these places are 0, and a place has rank k + 1 at most where it has rank k at
-- most or lands in such places. A place has a rank that is at most the number of places, or none,
-- and what lands in places with ranks has one
pub record AreRanks (lands : List Bool → ℕ → Type 0) (set : List Bool) (ranks : List ℕ) : Type 0
  where
    pub zero_are : (i : ℕ) → i < length ranks → (slice_index_or ranks i 0 ≡ 0) ↔ IsSet set i
    pub next_are : (k i : ℕ) → k < 4294967294 → i < length ranks
        → IsSet (at_most (suc k) ranks) i ↔ (IsSet (at_most k ranks) i ⊎ lands (at_most k ranks) i)
    pub few : (i : ℕ) → i < length ranks
        → (slice_index_or ranks i 0 ≤ length ranks) ⊎ (slice_index_or ranks i 0 ≡ 4294967295)
    pub last_are : (i : ℕ) → i < length ranks → lands (at_most (length ranks) ranks) i
        → IsSet (at_most (length ranks) ranks) i
