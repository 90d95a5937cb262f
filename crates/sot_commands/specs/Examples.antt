-- Worked lists of askings: which are told on.
use Rattle.std.specs.Prelude.{pos, [], ◌∷◌, None, Some}
use Rattle.sot_fly_worker.specs.Askings.{Asking, asking}
use Rattle.sot_commands.specs.Guests.{TellsOn}

abbrev pub one : Asking
one = asking (pos 1 ∷ []) []

abbrev pub two : Asking
two = asking (pos 2 ∷ []) []

-- a list of one asking is told on with a second one, or no more
abbrev pub GrownIsToldOn : Type 0
GrownIsToldOn = TellsOn (Some (one ∷ [])) (Some (one ∷ two ∷ []))

abbrev pub SilentIsToldOn : Type 0
SilentIsToldOn = TellsOn (Some (one ∷ [])) None

-- a list of one asking is not told on without it, nor with another one in its place; and no list
-- is told where none was told before
abbrev pub LostIsNotToldOn : Type 0
LostIsNotToldOn = TellsOn (Some (one ∷ [])) (Some []) → ⊥

abbrev pub ChangedIsNotToldOn : Type 0
ChangedIsNotToldOn = TellsOn (Some (one ∷ [])) (Some (two ∷ one ∷ [])) → ⊥

abbrev pub BegunIsNotToldOn : Type 0
BegunIsNotToldOn = TellsOn None (Some []) → ⊥
