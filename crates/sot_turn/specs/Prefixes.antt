-- A list that goes on from another.
use Rattle.std.specs.Prelude.{◌≡◌, List, ◌++◌, drop, length}

-- the long list begins with the short one
abbrev pub IsPrefix : {A : Type 0} → List A → List A → Type 0
IsPrefix {A} short long = (more : List A) × (long ≡ short ++ more)

-- what the long list has behind the short one
abbrev pub behind : {A : Type 0} → List A → List A → List A
behind short long = drop (length short) long
