-- Names as parts of a JSON pointer, and how a pointer is printed.
use Rattle.std.specs.Prelude.{ℕ, List, [], ◌∷◌, codes, ◌==◌, if◌then◌else◌}
use Rattle.std.specs.List.{flat_map}

-- `~0` for `~`, which is 126, and `~1` for `/`, which is 47
abbrev pub escape_of : ℕ → List ℕ
escape_of b = if b == 126 then 126 ∷ 48 ∷ [] else (if b == 47 then 126 ∷ 49 ∷ [] else b ∷ [])

abbrev pub escaped : List ℕ → List ℕ
escaped name = flat_map escape_of name
