-- One tick of a plant.
use Rattle.std.specs.Prelude.{ℤ, List, [], ◌∷◌, Ok, ◌++◌}
use Rattle.sot_lang.specs.declared.term.Term.{Term}
use Rattle.sot_lang.specs.declared.tables.PlantInfo.{PlantInfo}
use Rattle.sot_lang.specs.Values.{Outcome, one_more, value_of}

-- the values of a list of expressions
abbrev pub values : List Term → List ℤ → Outcome (List ℤ)
values [] env = Ok []
values (t ∷ ts) env = one_more (value_of t env) (values ts env)

-- the next point of a plant at s, with the numbers of its inputs, of the plants that it sees, and
-- of its disturbances
unfoldable pub next_state : PlantInfo → List ℤ → List ℤ → List ℤ → List ℤ → Outcome (List ℤ)
next_state plant s c v w = values plant.next.items (s ++ c ++ v ++ w)

-- the points of several plants, one after another
abbrev pub joined : List (List ℤ) → List ℤ
joined [] = []
joined (s ∷ ss) = s ++ joined ss
