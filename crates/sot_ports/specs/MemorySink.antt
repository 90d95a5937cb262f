-- A sink into memory, and what one call of it does.
use Rattle.std.specs.Prelude.{◌≡◌, ℕ, ◌-◌, ◌≤◌, ◌⊎◌, List, ◌++◌, length, take, min, Contains}
use Rattle.sot_ports.specs.Faults.{counted}

-- calls are numbered from 1
pub record SinkState : Type 0 where
  -- the bytes taken so far, and how many may be
  pub held : List ℕ
  pub room : ℕ
  -- the most that one call takes
  pub piece : ℕ
  -- the numbers of the calls that fail
  pub fails : List ℕ
  -- the calls so far, and those of them that failed
  pub calls : ℕ
  pub faults : ℕ

-- the next call fails: it is listed, or the room is full
abbrev pub NextFails : SinkState → Type 0
NextFails s = Contains s.fails (counted s.calls) ⊎ (s.room ≤ length s.held)

-- how many of so many bytes a call takes
abbrev pub taken_count : SinkState → ℕ → ℕ
taken_count s len = min s.piece (min len (s.room - length s.held))

-- a call took the first of the bytes
pub record Takes (old new : SinkState) (bytes : List ℕ) (count : ℕ) : Type 0 where
  pub count_is : count ≡ taken_count old (length bytes)
  pub grown : new ≡ record old { held = old.held ++ take count bytes; calls = counted old.calls }

-- after a call that failed
abbrev pub failed_sink : SinkState → SinkState
failed_sink s = record s { calls = counted s.calls; faults = counted s.faults }
