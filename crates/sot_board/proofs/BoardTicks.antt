-- The disturbances of a board's tick.
use Rattle.std.proofs.Common.{◌≡◌, ℕ, ℤ, List, length, ap, ◌∙◌, subst}
use Rattle.sot_lang.specs.Tables.{Tables}
use Rattle.sot_lang.specs.Ticks.{joined}
use Rattle.sot_world.specs.Configurations.{Configuration}
use Rattle.sot_world.specs.Events.{noise_count, cut, IsInBounds}
use Rattle.sot_world.specs.Steps.{Ticks}
use Rattle.sot_flight.specs.Plans.{Plan}
use Rattle.sot_flight.specs.Stated.{stated_noise}
use Rattle.sot_flight.proofs.Fitting.{stated_length, stated_size, stated_within}
use Rattle.sot_board.specs.declared.board.Board.TheInside.{Inside}
use Rattle.sot_board.specs.BoardView.{IsBoard}
use Rattle.sot_board.proofs.Ticks.{noise_size, cut_joined, joined_within}

pub noise_now : (p q : Tables) (f : Plan) (t u : ℕ) → p ≡ q → t ≡ u → joined (stated_noise p f t) ≡ joined (stated_noise q f u)
noise_now p q f t u a b = ap (λ x. joined (stated_noise x f t)) a ∙ ap (λ n. joined (stated_noise q f n)) b

module _ (b : Inside) (is : IsBoard b) where
  -- the stated disturbances for now: how many, how they are cut, and their bounds
  pub noise_many : length (joined (stated_noise b.world.accepted.program b.flight.now b.world.at.time)) ≡ noise_count b.world.accepted.program.plants
  noise_many =
      noise_size b.world.accepted.program.plants (stated_noise b.world.accepted.program b.flight.now b.world.at.time)
      (stated_length b.world.accepted.program is.has.standing.guests b.flight.now is.has.standing.fits b.world.at.time)
      (stated_size b.world.accepted.program is.has.standing.guests b.flight.now is.has.standing.fits b.world.at.time)

  pub noise_cut : cut b.world.accepted.program.plants (joined (stated_noise b.world.accepted.program b.flight.now b.world.at.time))
      ≡ stated_noise b.world.accepted.program b.flight.now b.world.at.time
  noise_cut =
      cut_joined b.world.accepted.program.plants (stated_noise b.world.accepted.program b.flight.now b.world.at.time)
      (stated_length b.world.accepted.program is.has.standing.guests b.flight.now is.has.standing.fits b.world.at.time)
      (stated_size b.world.accepted.program is.has.standing.guests b.flight.now is.has.standing.fits b.world.at.time)

  pub noise_inside : IsInBounds b.world.accepted.program.plants (joined (stated_noise b.world.accepted.program b.flight.now b.world.at.time))
  noise_inside =
      joined_within b.world.accepted.program.plants (stated_noise b.world.accepted.program b.flight.now b.world.at.time)
      (stated_length b.world.accepted.program is.has.standing.guests b.flight.now is.has.standing.fits b.world.at.time)
      (stated_size b.world.accepted.program is.has.standing.guests b.flight.now is.has.standing.fits b.world.at.time)
      (stated_within b.world.accepted.program is.has.standing.guests b.flight.now is.has.standing.fits is.has.standing.kept.rules b.world.at.time)

  -- a tick with these numbers is one with the stated disturbances
  pub tick_as : (D : Configuration) (numbers : List ℤ) → numbers ≡ joined (stated_noise b.world.accepted.program b.flight.now b.world.at.time)
      → Ticks b.world.accepted.program b.world.accepted.cert.jitter (cut b.world.accepted.program.plants numbers) b.world.at D
      → Ticks b.world.accepted.program b.world.accepted.cert.jitter (stated_noise b.world.accepted.program b.flight.now b.world.at.time) b.world.at D
  tick_as D numbers same step =
      subst (λ w. Ticks b.world.accepted.program b.world.accepted.cert.jitter w b.world.at D) (ap (cut b.world.accepted.program.plants) same ∙ noise_cut) step
