-- Which words ask for which jitter.
use Rattle.std.specs.Prelude.{◌≡◌, ℕ, ◌≤◌, ◌⊎◌, List, [], ◌∷◌, map, String}
use Rattle.std.specs.Fmt.{decimal}
use Rattle.std.specs.String.{string_bytes}
use Rattle.std.proofs.Common.{Global}

abbrev pub most_jitter : ℕ
most_jitter = 999

-- no word asks for a jitter of 0, and one word for the number that it is in decimal, without zeros
-- in front
abbrev pub Asks : List (String Global) → ℕ → Type 0
Asks words jitter =
    ((map string_bytes words ≡ []) × (jitter ≡ 0))
    ⊎ ((map string_bytes words ≡ decimal jitter ∷ []) × (jitter ≤ most_jitter))

-- the words ask for no jitter
abbrev pub AsksNone : List (String Global) → Type 0
AsksNone words = (jitter : ℕ) → ¬ (Asks words jitter)
