-- The node that fires next.
use Rattle.std.specs.Prelude.{ℕ, ◌<◌, ◌≡◌, true, length}
use Rattle.sot_world.specs.Configurations.{is_left}
use Rattle.sot_board.specs.Standing.{Standing}
use Rattle.sot_ordered_board.specs.Crews.{IsOwn}
use Rattle.sot_ordered_board.specs.Order.{HasTurn}

-- a node of the program, which no guest flies, is left to fire, and it is its turn
pub record FiresNext (b : Standing) (n : ℕ) : Type 0 where
  pub there : n < length b.accepted.program.nodes
  pub own : IsOwn b.plan n
  pub left : is_left b.position.at n ≡ true
  pub turn : HasTurn b.accepted.program b.plan b.position n
