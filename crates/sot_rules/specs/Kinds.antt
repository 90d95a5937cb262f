-- The declarations of one kind.
use Rattle.std.specs.Prelude.{Option}
use Rattle.sot_syntax_tree.specs.declared.tree.Ident.{Ident}
use Rattle.sot_syntax_tree.specs.Trees.{Declaration}
use Rattle.sot_rules.specs.declared.declarations.kind.DeclKind.{DeclKind}
use Rattle.sot_rules.specs.declared.declarations.kind.DeclKind.TheVariants as kinds
use Rattle.sot_rules.specs.Tests.{topic_name, plant_name, node_name, module_name}

-- the name of a declaration, where it is of the kind
abbrev pub name_of : DeclKind → Declaration → Option Ident
name_of kinds.Topic d = topic_name d
name_of kinds.Plant d = plant_name d
name_of kinds.Node d = node_name d
name_of kinds.Module d = module_name d
