-- The work of one instant.
use Rattle.std.specs.Prelude.{ℕ, ℤ, ◌<◌, ◌≡◌, ◌++◌, ◌∷◌, [], false, Option, List, Bool}
use Rattle.std.specs.Prelude.{slice_index_or}
use Rattle.sot_turn.specs.Prefixes.{IsPrefix}
use Rattle.sot_world.specs.HistoryEntry.{Logged, FireAt}
use Rattle.sot_board.specs.Standing.{Standing}
use Rattle.sot_board.specs.Versions.{drafts_of}

-- program, flight and time stay
pub record IsSameInstant (old new : Standing) : Type 0 where
  pub accepted : new.accepted ≡ old.accepted
  pub plan : new.plan ≡ old.plan
  pub time : new.position.at.time ≡ old.position.at.time

-- program and flight stay, and the history goes on
pub record GoesOn (old new : Standing) : Type 0 where
  pub accepted : new.accepted ≡ old.accepted
  pub plan : new.plan ≡ old.plan
  pub entries : IsPrefix old.entries new.entries

-- the history goes on, and no node has fired
pub record AddsNoFiring (old new : List Logged) : Type 0 where
  pub goes_on : IsPrefix old new
  pub drafts : (n : ℕ) → drafts_of n new ≡ drafts_of n old

-- the history goes on by one firing of the node, at this time and with this draft
abbrev pub AddsFiring : ℕ → List Logged → ℕ → List (Option ℤ) → List Logged → Type 0
AddsFiring t old n draft new = (enabled : Bool) × (new ≡ old ++ FireAt t n draft enabled ∷ [])

-- nothing is left among the first so many
abbrev pub NoneLeft : List Bool → ℕ → Type 0
NoneLeft left count = (i : ℕ) → i < count → slice_index_or left i false ≡ false
