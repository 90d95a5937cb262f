-- When the parts of a module are due for the first time.
use Rattle.std.specs.Prelude.{ℕ, ◌+◌, ◌-◌, ◌*◌, ◌/◌, ◌%◌}
use Rattle.sot_maker.specs.declared.offsets.Offsets.{Offsets}

-- what a word stands for: its last bit says whether the safe node fires at even or at odd instants,
-- the other two take turns in the instants between, and the bit before the last says which of them
-- comes first
abbrev pub offsets_of : ℕ → Offsets
offsets_of w =
    let slow = w % 2 in
    let late = (w / 2) % 2 in
    record {
      decides = (1 - slow) + 2 * late;
      fast = (1 - slow) + 2 * (1 - late);
      slow = slow;
    }
