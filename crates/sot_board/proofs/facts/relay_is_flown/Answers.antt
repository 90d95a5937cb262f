use Rattle.sot_board.proofs.RelayFlight.{flown, not_without}
use Rattle.sot_board.proofs.facts.relay_is_flown.Goals as goal

pub returns : goal.returns
returns c = record { flown = flown; input_left_out = not_without }
