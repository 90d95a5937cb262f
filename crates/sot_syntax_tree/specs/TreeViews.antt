-- The trees that the code holds, as contracts see them.
use Rattle.std.specs.Prelude.{List, [], ◌∷◌, map, Option, None, Some}
use Rattle.sot_syntax_tree.specs.declared.tree.Expr.{Expr, Number, Truth, Name, Member, Binary'}
use Rattle.sot_syntax_tree.specs.declared.tree.Expr.{Rest'}
use Rattle.sot_syntax_tree.specs.declared.tree.Expr.{Neg', Not', Call', Rescale', If', Row_of-Expr}
use Rattle.sot_syntax_tree.specs.declared.tree.Expr.{end_of-Expr, more_of-Expr}
use Rattle.sot_syntax_tree.specs.declared.tree.Stmt.{Stmt, Assign, Publish, PublishField}
use Rattle.sot_syntax_tree.specs.declared.tree.Stmt.{If' as IfStmt'}
use Rattle.sot_syntax_tree.specs.declared.tree.Stmt.{Repeat', Row_of-Stmt, end_of-Stmt}
use Rattle.sot_syntax_tree.specs.declared.tree.Stmt.{more_of-Stmt}
use Rattle.sot_syntax_tree.specs.declared.tree.Shape.{Shape}
use Rattle.sot_syntax_tree.specs.declared.tree.Shape.TheVariants as shapes
use Rattle.sot_syntax_tree.specs.declared.tree.Init.{Init}
use Rattle.sot_syntax_tree.specs.declared.tree.Init.TheVariants as inits
use Rattle.sot_syntax_tree.specs.declared.tree.TopicDecl.{TopicDecl}
use Rattle.sot_syntax_tree.specs.declared.tree.NextDecl.{NextDecl}
use Rattle.sot_syntax_tree.specs.declared.tree.LocalDecl.{LocalDecl}
use Rattle.sot_syntax_tree.specs.declared.tree.PlantDecl.{PlantDecl}
use Rattle.sot_syntax_tree.specs.declared.tree.NodeDecl.{NodeDecl}
use Rattle.sot_syntax_tree.specs.declared.tree.BoxDecl.{BoxDecl}
use Rattle.sot_syntax_tree.specs.declared.tree.ModuleDecl.{ModuleDecl}
use Rattle.sot_syntax_tree.specs.declared.tree.Decl.{Decl}
use Rattle.sot_syntax_tree.specs.declared.tree.Decl.TheVariants as decls
use Rattle.sot_syntax_tree.specs.declared.tree.Program.{Program as CodeProgram}
use Rattle.sot_syntax_tree.specs.Trees.{Tree, Trees, number, truth, named, binary, rest, negated}
use Rattle.sot_syntax_tree.specs.Trees.{denied}
use Rattle.sot_syntax_tree.specs.Trees.{called, rescaled, chosen, no_tree, one_more, Statement}
use Rattle.sot_syntax_tree.specs.Trees.{Block}
use Rattle.sot_syntax_tree.specs.Trees.{assigned, published, branched, repeated, no_statement}
use Rattle.sot_syntax_tree.specs.Trees.{statement}
use Rattle.sot_syntax_tree.specs.Trees.{Form, one, fields, Start, one_value, values, Topic, Next}
use Rattle.sot_syntax_tree.specs.Trees.{Local}
use Rattle.sot_syntax_tree.specs.Trees.{Plant, Node, Area, Module, Declaration, a_topic, a_plant}
use Rattle.sot_syntax_tree.specs.Trees.{a_node}
use Rattle.sot_syntax_tree.specs.Trees.{a_module, Program}

abbrev mutual
  pub tree_view : Expr → Tree
  tree_view (Number l) = number l
  tree_view (Truth value at) = truth value at
  tree_view (Name first) = named first None
  tree_view (Member m) = named m.first (Some m.field)
  tree_view (Binary' op p left right at) = binary op (tree_view left) (tree_view right) at
  tree_view (Rest' p left by at) = rest (tree_view left) by at
  tree_view (Neg' p part at) = negated (tree_view part) at
  tree_view (Not' p part at) = denied (tree_view part) at
  tree_view (Call' func p shape parts at) = called func (trees_view parts) at
  tree_view (Rescale' p part to at) = rescaled (tree_view part) to at
  tree_view (If' p cond yes_ no_ at) = chosen (tree_view cond) (tree_view yes_) (tree_view no_) at

  pub trees_view : {m : _} → Row_of-Expr m → Trees
  trees_view end_of-Expr = no_tree
  trees_view (more_of-Expr e rest_) = one_more (tree_view e) (trees_view rest_)

abbrev mutual
  pub statement_view : Stmt → Statement
  statement_view (Assign target value) = assigned target (tree_view value)
  statement_view (Publish topic value) = published topic None (tree_view value)
  statement_view (PublishField place value) =
      published place.first (Some place.field) (tree_view value)
  statement_view (IfStmt' p cond m yes_ n no_ at) =
      branched (tree_view cond) (row_view yes_) (row_view no_) at
  statement_view (Repeat' times m body at) = repeated times (row_view body) at

  pub row_view : {m : _} → Row_of-Stmt m → Block
  row_view end_of-Stmt = no_statement
  row_view (more_of-Stmt s rest_) = statement (statement_view s) (row_view rest_)

abbrev pub parts_view : List Expr → Trees
parts_view [] = no_tree
parts_view (e ∷ es) = one_more (tree_view e) (parts_view es)

abbrev pub block_view : List Stmt → Block
block_view [] = no_statement
block_view (s ∷ rest_) = statement (statement_view s) (block_view rest_)

abbrev pub shape_view : Shape → Form
shape_view (shapes.One s) = one s
shape_view (shapes.Fields fs) = fields fs.items

abbrev pub init_view : Init → Start
init_view (inits.One c) = one_value c
init_view (inits.Fields items at) = values items.items at

abbrev pub topic_view : TopicDecl → Topic
topic_view t =
    record {
      outside = t.outside;
      name = t.name;
      shape = shape_view t.shape;
      init = init_view t.init;
    }

abbrev pub next_view : NextDecl → Next
next_view n = record { name = n.name; value = tree_view n.value }

abbrev pub local_view : LocalDecl → Local
local_view l = record { name = l.name; scalar = l.scalar; init = l.init }

abbrev pub plant_view : PlantDecl → Plant
plant_view p = record {
  name = p.name;
  states = p.states.items;
  inputs = p.inputs.items;
  sees = p.sees.items;
  noise = p.noise.items;
  next = map next_view p.next.items;
  end = p.end;
}

abbrev pub node_view : NodeDecl → Node
node_view n = record {
  name = n.name;
  period = n.period;
  offset = n.offset;
  reads = n.reads.items;
  writes = n.writes.items;
  locals = map local_view n.locals.items;
  body = elim n.body as (λ x. Option Block) [ None ↦ None | Some v ↦ Some (block_view v.items) ];
}

abbrev pub area_view : BoxDecl → Area
area_view b = record { sides = b.sides.items; at = b.at }

abbrev pub module_view : ModuleDecl → Module
module_view m = record {
  name = m.name;
  ac = m.ac;
  sc = m.sc;
  period = m.period;
  offset = m.offset;
  plant = m.plant;
  safe = map area_view m.safe.items;
  safer = map area_view m.safer.items;
}

abbrev pub declaration_view : Decl → Declaration
declaration_view (decls.Topic t) = a_topic (topic_view t)
declaration_view (decls.Plant p) = a_plant (plant_view p)
declaration_view (decls.Node n) = a_node (node_view n)
declaration_view (decls.Module m) = a_module (module_view m)

abbrev pub program_view : CodeProgram → Program
program_view p = record { decls = map declaration_view p.decls.items }
