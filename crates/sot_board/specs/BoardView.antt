-- A board as it is kept.
use Rattle.std.specs.Prelude.{◌≤◌, ◌≡◌, length, drop}
use Rattle.sot_world.specs.Events.{noise_count}
use Rattle.sot_board.specs.declared.board.Board.TheInside.{Inside}
use Rattle.sot_board.specs.Flown.{Position}
use Rattle.sot_board.specs.Standing.{Standing, HasStanding}
use Rattle.sot_board.specs.Counts.{state_count}

abbrev pub position : Inside → Position
position b =
    record {
      at = b.world.at;
      inputs = drop b.next_input b.flight.now.inputs;
      fired = b.fired.items;
    }

abbrev pub standing : Inside → Standing
standing b =
    record {
      accepted = b.world.accepted;
      plan = b.flight.now;
      entries = b.history.entries;
      position = position b;
    }

-- what is kept, the place in the inputs, and room for the disturbances and the states of one tick
pub record IsBoard (b : Inside) : Type 0 where
  pub has : HasStanding (standing b) b.versions.items b.history.entries_left b.history.numbers_left
  pub next : b.next_input ≤ length b.flight.now.inputs
  pub noise : length b.noise.items ≡ noise_count b.world.accepted.program.plants
  pub states : length b.states.items ≡ state_count b.world.accepted.program.plants
