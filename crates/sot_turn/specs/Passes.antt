-- What contracts say of a lock, a pass and a held value.
use Rattle.std.specs.Prelude.{List, Option}
use Rattle.atomic_table.specs.Seated.{TableId}
use Rattle.sot_turn_journal.specs.declared.Journal.{Ghosts}
use Rattle.sot_turn.specs.declared.turn.Turn.{Turn}
use Rattle.sot_turn.specs.declared.turn.Pass.{Pass}
use Rattle.sot_turn.specs.declared.turn.Held.{Held}

-- which lock it is
abbrev pub lock_of : {Value Ground Entry : Type 0} → Turn Value Ground Entry → TableId
lock_of lock = lock.board.shared.table_id

module _ {Value Ground Entry : Type 0} {journal : Ghosts Value Ground Entry} where
  -- the lock that the pass is of
  abbrev pub pass_lock : Pass Value Ground Entry journal → TableId
  pass_lock pass = pass.place.table_id

  -- the ground that the pass knows
  abbrev pub pass_ground : Pass Value Ground Entry journal → Option Ground
  pass_ground pass = pass.place.me.0.own_ground

  -- how much of the list its owner has seen
  abbrev pub pass_seen : Pass Value Ground Entry journal → List Entry
  pass_seen pass = pass.place.me.0.seen

  -- what its owner has put behind the list
  abbrev pub pass_added : Pass Value Ground Entry journal → List Entry
  pass_added pass = pass.place.me.0.added

  -- the lock that the held value is of
  abbrev pub held_lock : Held Value Ground Entry journal → TableId
  held_lock held = held.served.place.table_id

  -- the ground that the value had when it was taken
  abbrev pub held_ground : Held Value Ground Entry journal → Option Ground
  held_ground held = held.served.place.me.0.own_ground

  -- the list that the value had when it was taken
  abbrev pub held_seen : Held Value Ground Entry journal → List Entry
  held_seen held = held.served.place.me.0.seen

  -- what the holder had put behind the list when it took the value
  abbrev pub held_added : Held Value Ground Entry journal → List Entry
  held_added held = held.served.place.me.0.added

  -- the value as it is now
  abbrev pub held_value : Held Value Ground Entry journal → Value
  held_value held = held.value

  -- the holder's place with another value
  abbrev pub with_value : Held Value Ground Entry journal → Value → Held Value Ground Entry journal
  with_value held value = record held { value = value }
