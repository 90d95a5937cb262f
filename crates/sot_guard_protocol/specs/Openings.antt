-- Where plants were observed first, one after another in declared order.
use Rattle.std.specs.Prelude.{ℕ, ◌<◌, ◌≤◌, ◌≡◌, ℤ, List, [], ◌∷◌, ◌++◌, length, slice_index_or}
use Rattle.std.specs.Prelude.{◌⊎◌, Result, MatchResult}
use Rattle.sot_lists.specs.Places.{At}
use Rattle.sot_lang.specs.declared.tables.PlantInfo.{PlantInfo}
use Rattle.sot_tube.specs.Admitted.{Admitted}
use Rattle.sot_guard.specs.declared.misheard.Misheard.{Misheard}
use Rattle.sot_guard.specs.declared.misheard.Misheard.TheVariants.{OutOfTurn, TooFar}
use Rattle.sot_guard.specs.declared.misheard.Misheard.TheVariants.{NotALine, NotDue}
use Rattle.sot_guard.specs.declared.misheard.Misheard.TheVariants.{AlreadyDrafted}
use Rattle.sot_guard.specs.declared.misheard.Misheard.TheVariants.{OutsideType, NotSeen}
use Rattle.sot_guard_lines.specs.Sayings.{Saying, StartSaid, IsSaid}
use Rattle.sot_guard_protocol.specs.Talks.{HasLarge}

-- an accepted program, and where its first plants were observed
pub record Starting : Type 0 where
  pub accepted : Admitted
  pub starts : List (List ℤ)

-- no more points than plants, each of its plant's width
pub record IsStarting (a : Starting) : Type 0 where
  pub few : length a.starts ≤ length a.accepted.program.plants
  pub widths : (k : ℕ) (plant : PlantInfo) → k < length a.starts
      → At a.accepted.program.plants k plant
      → length (slice_index_or a.starts k []) ≡ length plant.states.items

-- each plant has its point
abbrev pub HasAll : Starting → Type 0
HasAll a = length a.starts ≡ length a.accepted.program.plants

-- the plants of the opening are observed at these points so far, and at one more
abbrev pub with_start : Starting → List ℤ → Starting
with_start a point = record a { starts = a.starts ++ point ∷ [] }

-- where the next plant was observed is said
abbrev pub IsNextStart : Starting → Saying → List ℤ → Type 0
IsNextStart a s point = s ≡ StartSaid (length a.starts) point

-- why what is said is not taken
abbrev pub RefusesStart : Starting → Saying → Misheard → Type 0
RefusesStart a s OutOfTurn = (point : List ℤ) → IsNextStart a s point → ⊥
RefusesStart a s TooFar = ⊥
RefusesStart a s NotALine = ⊥
RefusesStart a s NotDue = ⊥
RefusesStart a s AlreadyDrafted = ⊥
RefusesStart a s NotSeen = ⊥
RefusesStart a s OutsideType = (point : List ℤ) × IsNextStart a s point × HasLarge point

-- where the next plant was observed is kept; or nothing changes
abbrev pub AnswersStart : {A : Type 0} → Starting → Saying → Starting → Result A Misheard → Type 0
AnswersStart a s b result = MatchResult result
    (λ ok. (point : List ℤ) × IsNextStart a s point × (b ≡ with_start a point))
    (λ why. (b ≡ a) × RefusesStart a s why)

-- a line says where the next plant was observed, and that is kept
abbrev pub TakesStart : Starting → List ℕ → Starting → Type 0
TakesStart a line b =
    (s : Saying) × IsSaid a.accepted.program line s
    × ((point : List ℤ) × IsNextStart a s point × (b ≡ with_start a point))

-- why a line is not taken
abbrev pub IsNoStart : Starting → List ℕ → Misheard → Type 0
IsNoStart a line why =
    ((why ≡ NotALine) × ((s : Saying) → IsSaid a.accepted.program line s → ⊥))
    ⊎ ((s : Saying) × IsSaid a.accepted.program line s × RefusesStart a s why)
