-- Tables by names, as what they give of each name.
use Rattle.std.specs.Prelude.{ℕ, List, Option, Some, None, if◌then◌else◌}
use Rattle.std.specs.Map.{lookup}
use Rattle.std.specs.Str.{bytes_eq}
use denote.Ref.{Bor}
use Rattle.indexmap.specs.IndexMap.{IndexMap}

-- what a table gives of a name
abbrev pub found : {V S : Type 0} → IndexMap (Bor (List ℕ)) V S → List ℕ → Option V
found m name = lookup (λ k. bytes_eq name k.now) m.entries

-- what one entry gives of a name
abbrev pub entry : {V : Type 0} → List ℕ → V → List ℕ → Option V
entry key value name = if bytes_eq name key then Some value else None
