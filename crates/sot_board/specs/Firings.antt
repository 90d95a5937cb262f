-- What noting a firing leaves.
use Rattle.std.specs.Prelude.{ℕ, suc, ◌+◌, ◌≡◌, List, [], ◌∷◌, ◌++◌, slice_index_or, slice_set}
use Rattle.sot_lang.specs.Tables.{Tables}
use Rattle.sot_world.specs.declared.outcome.Firing.{Firing}
use Rattle.sot_world.specs.HistoryEntry.{Story, FireAt}
use Rattle.sot_board.specs.Standing.{Counted}

-- the firing is counted for each topic that it writes and for its node, and its entry is the last
-- one of the history
pub record NotesFiring (p : Tables) (time node : ℕ) (firing : Firing)
    (versions versions' fired fired' : List ℕ) (history history' : Story) : Type 0 where
  pub counted : Counted p (FireAt time node firing.draft firing.enabled) versions versions'
  pub fired_once : fired' ≡ slice_set fired node (suc (slice_index_or fired node 0))
  pub appended : history'.entries ≡ history.entries
      ++ FireAt time node firing.draft firing.enabled ∷ []
  pub entries_left : history'.entries_left + 1 ≡ history.entries_left
  pub numbers_left : history'.numbers_left ≡ history.numbers_left
