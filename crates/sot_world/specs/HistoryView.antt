-- A history as its entries and the room left. Nothing here has to be trusted: the clauses of a
-- history's calls fix its entries from the first one on, and hand out each as it was pushed.
use Rattle.std.specs.Prelude.{◌+◌, ◌*◌, ◌^◌, ◌<◌, ◌≤◌, map, length}
use Rattle.std.specs.List.{All}
use Rattle.sot_world.specs.declared.history.History.TheInside.{Inside}
use Rattle.sot_world.specs.HistoryEntry.{Story}
use Rattle.sot_world.specs.HistoryRecords.{entry_in, entry_end}

abbrev pub story_of : Inside → Story
story_of h =
    record {
      entries = map (entry_in h.numbers.items) h.words.items;
      entries_left = h.entries_left;
      numbers_left = h.numbers_left;
    }

-- the numbers of each entry are in the list, and the room left is there: each entry that is to come
-- may have a time, a node and eight drafted numbers
pub record IsStory (h : Inside) : Type 0 where
  pub inside : All (λ w. entry_end h.numbers.items w ≤ length h.numbers.items) h.words.items
  pub entries : h.words.len + h.entries_left ≤ h.words.cap
  pub numbers : h.numbers.len + h.numbers_left + 10 * h.entries_left ≤ h.numbers.cap
  pub few : h.numbers_left < 2 ^ 32
  pub places : h.numbers.len + h.numbers_left + 10 * h.entries_left < 2 ^ 40
