-- The name of a declaration, and names that are the same word.
use Rattle.std.specs.Prelude.{Bool, List}
use Rattle.std.specs.List.{list_any}
use Rattle.std.specs.Str.{bytes_eq}
use Rattle.sot_syntax_tree.specs.declared.tree.Ident.{Ident}
use Rattle.sot_syntax_tree.specs.Trees.{Declaration, a_topic, a_plant, a_node, a_module}

abbrev pub declared_name : Declaration → Ident
declared_name (a_topic t) = t.name
declared_name (a_plant q) = q.name
declared_name (a_node n) = n.name
declared_name (a_module m) = m.name

abbrev pub are_same : Ident → Ident → Bool
are_same a b = bytes_eq a.name b.name

-- whether a name is one of a list
abbrev pub is_among : Ident → List Ident → Bool
is_among i names = list_any (are_same i) names
