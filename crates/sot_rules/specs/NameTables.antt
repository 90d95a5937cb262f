-- What an owner's names stand for, as the code keeps it.
use Rattle.std.specs.Prelude.{ℕ, List, ◌++◌, Option}
use Rattle.std.specs.Map.{lookup}
use Rattle.std.specs.Str.{bytes_eq}
use denote.Ref.{Bor}
use Rattle.sot_rules.specs.declared.names.scope.Kept.{Kept}
use Rattle.sot_rules.specs.declared.names.scope.Things.{Things}

-- an owner's names with what they stand for: the first few, and then the others
abbrev pub entries_in : Things → List (Bor (List ℕ) × Kept)
entries_in t = t.few.items ++ t.many.entries

-- what an owner's name stands for
abbrev pub found_in : Things → List ℕ → Option Kept
found_in t name = lookup (λ k. bytes_eq name k.now) (entries_in t)
