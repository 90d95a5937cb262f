-- What a name means, as the code holds it.
use Rattle.std.specs.Prelude.{ℕ, Bool, true, false, Option, option_map}
use denote.Ref.{Bor}
use Rattle.sot_syntax_tree.specs.declared.tree.Decl.{Decl}
use Rattle.sot_syntax_tree.specs.Trees.{Declaration}
use Rattle.sot_syntax_tree.specs.TreeViews.{declaration_view}
use Rattle.sot_rules.specs.Tests.{topic_size, read_size}

abbrev pub meant : Option (Bor Decl) → Option Declaration
meant d = option_map (λ (x : Bor Decl). declaration_view x.now) d

-- how many scalars a name stands for, and how many states where plants count too
abbrev pub size_of : Bool → Option Declaration → ℕ
size_of true d = read_size d
size_of false d = topic_size d
