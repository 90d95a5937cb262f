-- The runs of a program.
use Rattle.std.specs.Prelude.{ℕ, List, [], ◌∷◌}
use Rattle.sot_lang.specs.Tables.{Tables}
use Rattle.sot_world.specs.Configurations.{Configuration}
use Rattle.sot_world.specs.Steps.{Event, Step}

-- the configurations after each of a list of events, one step after another
abbrev pub Run : Tables → ℕ → Configuration → List Event → List Configuration → Type 0
Run p jitter C [] [] = Unit {0}
Run p jitter C (e ∷ es) (D ∷ Ds) = Step p jitter C e D × Run p jitter D es Ds
Run p jitter C [] (D ∷ Ds) = ⊥
Run p jitter C (e ∷ es) [] = ⊥
