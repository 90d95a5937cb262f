-- The room of a list that numbers are put into one by one.
use Rattle.std.proofs.Common.{ℕ, ◌+◌, ◌-◌, ◌≤◌, ◌<◌, length, arith}
use Rattle.std.specs.Prelude.{ℤ, Result, Ok, Err, OnErr, vec_len, vec_capacity}
use Rattle.std.specs.Global.{Vec}
use Rattle.std.proofs.lemmas.Option.{slice_get_within}
use Rattle.sot_lists.specs.Places.{At}
use Rattle.sot_lang.specs.declared.tables.TopicInfo.{TopicInfo}
use Rattle.sot_lang.specs.Tables.{Tables}
use Rattle.sot_lang.specs.TableRules.{MeetsTableRules}
use Rattle.sot_trace_lines.specs.Room.{TakesRoom, IsFull}

-- what holds anyhow holds where something failed
pub when_failed : {T E : Type 0} (P : Type 0) (r : Result T E) → P → OnErr r P
when_failed P (Ok x) holds = tt
when_failed P (Err e) holds = holds

-- a list that has taken i numbers of so many since the first one
module _
    (count i : ℕ) (first old new : Vec ℤ) (lt : i < count) (len : vec_len old ≤ vec_len first + i)
    (capacity : vec_capacity first ≤ vec_capacity old)
  where
    -- a number more stays within the room of so many
    pub taken_on : TakesRoom 1 old new → TakesRoom count first new
    taken_on more = record { len = omega (arith, more.len, len, lt); capacity = omega (arith, more.capacity, capacity) }

    -- .. and where there is no room for it, there was none for so many
    pub full_on : IsFull 1 old → IsFull count first
    full_on full = omega (arith, full, len, capacity, lt)

-- the same of more numbers
module _ (few many : ℕ) (old : Vec ℤ) (le : few ≤ many) where
  pub wider : (new : Vec ℤ) → TakesRoom few old new → TakesRoom many old new
  wider new takes = record { len = omega (arith, takes.len, le); capacity = takes.capacity }

  pub fuller : {T E : Type 0} (r : Result T E) → OnErr r (IsFull few old) → OnErr r (IsFull many old)
  fuller (Ok x) full = tt
  fuller (Err e) full = omega (arith, full, le)

-- a topic has no more numbers than there are scalars
pub topic_within : (p : Tables) (t : ℕ) (info : TopicInfo) → MeetsTableRules p → At p.topics t info → info.count ≤ length p.scalars
topic_within p t info rules at =
    let size = rules.topics t info at in
    let last = info.first + (info.count - 1) in
    let scalar = rules.typed.topic_scalar t last info at (omega arith) (omega (arith, size.0)) in
    let within : last < length p.scalars = slice_get_within p.scalars last scalar.0 scalar.1 in
    omega (arith, within, size.0)
