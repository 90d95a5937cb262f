-- What one turn of a shift does.
use Rattle.std.specs.Prelude.{ℕ, ℤ, ◌≡◌, ◌⊎◌, ◌↔◌, Bool, true, false, List, [], ◌∷◌, ◌++◌, Option}
use Rattle.sot_turn.specs.Prefixes.{IsPrefix}
use Rattle.sot_turn.specs.Passes.{pass_seen, pass_added}
use Rattle.sot_tube.specs.Admitted.{Admitted}
use Rattle.sot_world.specs.Configurations.{is_left}
use Rattle.sot_world.specs.HistoryEntry.{Logged, FireAt}
use Rattle.sot_flight.specs.Plans.{Plan}
use Rattle.sot_board.specs.Flown.{Position, FlownSoFar, IsEnd}
use Rattle.sot_board.specs.Versions.{drafts_of}
use Rattle.sot_fly_worker.specs.declared.shift.Shift.{Shift}

module _ {C : Type 0} (a : Admitted) (f : Plan) (old new : Shift C) (found : List Logged)
    (position : Position) where
  -- nothing was added, and the shift is finished exactly where the flight is at its end
  pub record Rests : Type 0 where
    pub seen : pass_seen new.pass ≡ found
    pub adds : pass_added new.pass ≡ pass_added old.pass
    pub finished : (new.finished ≡ true) ↔ IsEnd a.program f position

  -- the node has fired once, and this firing alone was added; what came between it and the history
  -- that was found, if others had turns there, is no firing of the node
  pub record FiresOnce : Type 0 where
    pub time : ℕ
    pub draft : List (Option ℤ)
    pub enabled : Bool
    pub between : List Logged
    pub no_other : drafts_of old.node between ≡ []
    pub seen : pass_seen new.pass ≡ found ++ (between ++ FireAt time old.node draft enabled ∷ [])
    pub adds : pass_added new.pass ≡ pass_added old.pass ++ FireAt time old.node draft enabled ∷ []
    pub unfinished : new.finished ≡ false

-- A turn found a history that goes on from what the pass had seen, with the flight at this
-- position. Where the node was not left there, the shift rests, and where it was, the node has
-- fired once.
pub record TakesTurn {C : Type 0} (a : Admitted) (f : Plan) (old new : Shift C) : Type 0 where
  pub found : List Logged
  pub goes_on : IsPrefix (pass_seen old.pass) found
  pub position : Position
  pub flown : FlownSoFar a.program a.cert.jitter f found position
  pub does : ((is_left position.at old.node ≡ false) × Rests a f old new found position)
      ⊎ ((is_left position.at old.node ≡ true) × FiresOnce a f old new found position)
