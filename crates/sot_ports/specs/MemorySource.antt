-- A source over bytes in memory, and what one call of it does.
use Rattle.std.specs.Prelude.{◌≡◌, ℕ, List, ◌++◌, length, take, drop, min}
use Rattle.sot_ports.specs.Faults.{counted}

-- calls are numbered from 1
pub record SourceState : Type 0 where
  -- the bytes still to come
  pub left : List ℕ
  -- the most that one call gives
  pub piece : ℕ
  -- the numbers of the calls that fail
  pub fails : List ℕ
  -- the calls so far, and those of them that failed
  pub calls : ℕ
  pub faults : ℕ

-- how many bytes a call with this much room gives
abbrev pub given_count : SourceState → ℕ → ℕ
given_count s room = min s.piece (min room (length s.left))

-- a call gave the next bytes: they stand at the front of the buffer, and what was behind them
-- there is as before
pub record Gives (old new : SourceState) (buf filled : List ℕ) (count : ℕ) : Type 0 where
  pub count_is : count ≡ given_count old (length buf)
  pub bytes : filled ≡ take count old.left ++ drop count buf
  pub rest : new ≡ record old { left = drop count old.left; calls = counted old.calls }

-- after a call that failed
abbrev pub failed_source : SourceState → SourceState
failed_source s = record s { calls = counted s.calls; faults = counted s.faults }
