-- A worked observation: the running example at 0, with command 2 in force and a disturbance of at
-- most 1, comes to a point of [1..3].
use Rattle.std.specs.Prelude.{pos, [], ◌∷◌}
use Rattle.std.specs.Global.{Global}
use Rattle.sot_lang.specs.Line.{line, side}
use Rattle.sot_guard.specs.Outside.{AreInBoxes, IsFirstOutside}

-- observed at 3 it is where its model allows it to be
abbrev pub LineMayBeAt3 : Global → Type 0
LineMayBeAt3 g =
    AreInBoxes (line g) (pos 2 ∷ []) ((pos 0 ∷ []) ∷ []) ((pos 3 ∷ []) ∷ []) 1

-- observed at 4 it is not where its model allows it to be
abbrev pub LineMayNotBeAt4 : Global → Type 0
LineMayNotBeAt4 g =
    AreInBoxes (line g) (pos 2 ∷ []) ((pos 0 ∷ []) ∷ []) ((pos 4 ∷ []) ∷ []) 1 → ⊥

-- that it is observed at 4 is told with the interval and the number
abbrev pub LineIsOutsideAt4 : Global → Type 0
LineIsOutsideAt4 g =
    IsFirstOutside (line g) (pos 2 ∷ []) ((pos 0 ∷ []) ∷ []) ((pos 4 ∷ []) ∷ [])
    (record { plant = 0; state = 0; bounds = side (pos 1) (pos 3); value = pos 4 })

-- with command 0 it is not where it may be with command 2
abbrev pub CommandsAreTheNewOnes : Global → Type 0
CommandsAreTheNewOnes g =
    AreInBoxes (line g) (pos 0 ∷ []) ((pos 0 ∷ []) ∷ []) ((pos 3 ∷ []) ∷ []) 1 → ⊥
