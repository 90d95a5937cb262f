-- What the words of a bridge ask for.
use Rattle.std.specs.Prelude.{◌≡◌, ℕ, ◌≤◌, List, [], ◌∷◌, map, String}
use Rattle.std.specs.Fmt.{decimal}
use Rattle.std.specs.String.{string_bytes}
use Rattle.std.proofs.Common.{Global}

-- the words are two names of topics and a delay of at most 100,000 ticks in decimal, without zeros
-- in front: what the first mission publishes on the one comes to the second one on the other, so
-- many ticks later
abbrev pub Asks : List (String Global) → List ℕ → List ℕ → ℕ → Type 0
Asks words from to delay =
    (map string_bytes words ≡ from ∷ to ∷ decimal delay ∷ []) × (delay ≤ 100000)
