-- What a controller tells of its askings.
use Rattle.std.specs.Prelude.{ℤ, ◌≡◌, List, [], ◌∷◌, ◌++◌, Option, None, Some}

-- an asking: the numbers that were seen, and the draft as it stands when the call returns
pub record Asking : Type 0 where
  pub values : List ℤ
  pub draft : List (Option ℤ)

abbrev pub asking : List ℤ → List (Option ℤ) → Asking
asking values draft = record { values = values; draft = draft }

-- where a list is told after a call, one was told before it, and has grown by exactly this one
-- asking, at its end
abbrev pub AsksOneMore : Option (List Asking) → Option (List Asking) → Asking → Type 0
AsksOneMore before None one = Unit {0}
AsksOneMore before (Some after) one =
    (list : List Asking) × (before ≡ Some list) × (after ≡ list ++ one ∷ [])
