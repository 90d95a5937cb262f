-- The names of a set, as the code keeps them: the first few, and then the others.
use Rattle.std.specs.Prelude.{ℕ, List, ◌++◌}
use denote.Ref.{Bor}
use Rattle.sot_names.specs.declared.set.NameSet.{NameSet}

abbrev pub keys_in : NameSet → List (Bor (List ℕ))
keys_in s = s.few.items ++ s.many.keys
