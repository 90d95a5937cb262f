-- What a line says of a tick: for each plant its disturbances, and its states after the tick.
use Rattle.std.specs.Prelude.{ℕ, ℤ, List, [], ◌∷◌, ◌++◌, length, take, drop, codes}
use Rattle.sot_lang.specs.declared.tables.PlantInfo.{PlantInfo}
use Rattle.sot_trace.specs.Numbers.{numbers}

-- ` PLANT(W,..)=X,..`
abbrev pub move_text : PlantInfo → List ℤ → List ℤ → List ℕ
move_text plant noise states =
    codes " " ++ (plant.name ++ (codes "(" ++ (numbers noise ++ (codes ")=" ++ numbers states))))

-- one plant after another, each with its part of the disturbances and of the states
abbrev pub moves_text : List PlantInfo → List ℤ → List ℤ → List ℕ
moves_text [] noise states = []
moves_text (k ∷ ks) noise states =
    move_text k (take (length k.noise.items) noise) (take (length k.states.items) states)
    ++ moves_text ks (drop (length k.noise.items) noise) (drop (length k.states.items) states)
