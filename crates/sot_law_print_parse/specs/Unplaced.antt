-- Programs without where their parts stand in a text: every place is the same one.
use Rattle.std.specs.Prelude.{◌≡◌, map}
use Rattle.std.specs.Option.{option_map}
use Rattle.sot_text.specs.declared.token.Span.{Span}
use Rattle.sot_syntax_tree.specs.declared.tree.Ident.{Ident}
use Rattle.sot_syntax_tree.specs.declared.tree.Lit.{Lit}
use Rattle.sot_syntax_tree.specs.declared.tree.Bounds.{Bounds}
use Rattle.sot_syntax_tree.specs.declared.tree.Scalar.{Scalar}
use Rattle.sot_syntax_tree.specs.declared.tree.Scalar.TheVariants.{Int, Fix, Bool as Truths}
use Rattle.sot_syntax_tree.specs.declared.tree.Field.{Field}
use Rattle.sot_syntax_tree.specs.declared.tree.Const.{Const}
use Rattle.sot_syntax_tree.specs.declared.tree.Const.TheVariants.{Number, Truth}
use Rattle.sot_syntax_tree.specs.declared.tree.StateDecl.{StateDecl}
use Rattle.sot_syntax_tree.specs.Trees.{Tree, Trees, number, truth, named, binary, rest, negated}
use Rattle.sot_syntax_tree.specs.Trees.{denied}
use Rattle.sot_syntax_tree.specs.Trees.{called, rescaled, chosen, no_tree, one_more, Statement}
use Rattle.sot_syntax_tree.specs.Trees.{Block}
use Rattle.sot_syntax_tree.specs.Trees.{assigned, published, branched, repeated, no_statement}
use Rattle.sot_syntax_tree.specs.Trees.{statement}
use Rattle.sot_syntax_tree.specs.Trees.{Form, one, fields, Start, one_value, values, Topic, Next}
use Rattle.sot_syntax_tree.specs.Trees.{Local}
use Rattle.sot_syntax_tree.specs.Trees.{Plant, Node, Area, Module, Declaration, a_topic, a_plant}
use Rattle.sot_syntax_tree.specs.Trees.{a_node}
use Rattle.sot_syntax_tree.specs.Trees.{a_module, Program}

abbrev pub nowhere : Span
nowhere = record { line = 0; column = 0 }

abbrev pub unplaced_name : Ident → Ident
unplaced_name i = record { name = i.name; at = nowhere }

abbrev pub unplaced_literal : Lit → Lit
unplaced_literal l = record { mantissa = l.mantissa; scale = l.scale; at = nowhere }

abbrev pub unplaced_bounds : Bounds → Bounds
unplaced_bounds b = record { lo = unplaced_literal b.lo; hi = unplaced_literal b.hi }

abbrev pub unplaced_scalar : Scalar → Scalar
unplaced_scalar (Int b) = Int (unplaced_bounds b)
unplaced_scalar (Fix scale b) = Fix (unplaced_literal scale) (unplaced_bounds b)
unplaced_scalar (Truths at) = Truths nowhere

abbrev pub unplaced_field : Field → Field
unplaced_field f = record { name = unplaced_name f.name; scalar = unplaced_scalar f.scalar }

abbrev pub unplaced_const : Const → Const
unplaced_const (Number l) = Number (unplaced_literal l)
unplaced_const (Truth value at) = Truth value nowhere

abbrev mutual
  pub unplaced_tree : Tree → Tree
  unplaced_tree (number l) = number (unplaced_literal l)
  unplaced_tree (truth value at) = truth value nowhere
  unplaced_tree (named first field) = named (unplaced_name first) (option_map unplaced_name field)
  unplaced_tree (binary op left right at) =
      binary op (unplaced_tree left) (unplaced_tree right) nowhere
  unplaced_tree (rest left by at) = rest (unplaced_tree left) (unplaced_literal by) nowhere
  unplaced_tree (negated part at) = negated (unplaced_tree part) nowhere
  unplaced_tree (denied part at) = denied (unplaced_tree part) nowhere
  unplaced_tree (called func parts at) = called func (unplaced_trees parts) nowhere
  unplaced_tree (rescaled part to at) = rescaled (unplaced_tree part) (unplaced_literal to) nowhere
  unplaced_tree (chosen cond yes_ no_ at) =
      chosen (unplaced_tree cond) (unplaced_tree yes_) (unplaced_tree no_) nowhere

  pub unplaced_trees : Trees → Trees
  unplaced_trees no_tree = no_tree
  unplaced_trees (one_more e rest_) = one_more (unplaced_tree e) (unplaced_trees rest_)

abbrev mutual
  pub unplaced_statement : Statement → Statement
  unplaced_statement (assigned target value) = assigned (unplaced_name target) (unplaced_tree value)
  unplaced_statement (published topic field value) =
      published (unplaced_name topic) (option_map unplaced_name field) (unplaced_tree value)
  unplaced_statement (branched cond yes_ no_ at) =
      branched (unplaced_tree cond) (unplaced_block yes_) (unplaced_block no_) nowhere
  unplaced_statement (repeated times body at) =
      repeated (unplaced_literal times) (unplaced_block body) nowhere

  pub unplaced_block : Block → Block
  unplaced_block no_statement = no_statement
  unplaced_block (statement s rest_) = statement (unplaced_statement s) (unplaced_block rest_)

abbrev pub unplaced_shape : Form → Form
unplaced_shape (one s) = one (unplaced_scalar s)
unplaced_shape (fields fs) = fields (map unplaced_field fs)

abbrev pub unplaced_start : Start → Start
unplaced_start (one_value c) = one_value (unplaced_const c)
unplaced_start (values cs at) = values (map unplaced_const cs) nowhere

abbrev pub unplaced_topic : Topic → Topic
unplaced_topic t =
    record {
      outside = t.outside;
      name = unplaced_name t.name;
      shape = unplaced_shape t.shape;
      init = unplaced_start t.init;
    }

abbrev pub unplaced_state : StateDecl → StateDecl
unplaced_state s =
    record { name = unplaced_name s.name; scale = option_map unplaced_literal s.scale }

abbrev pub unplaced_next : Next → Next
unplaced_next n = record { name = unplaced_name n.name; value = unplaced_tree n.value }

abbrev pub unplaced_local : Local → Local
unplaced_local l =
    record {
      name = unplaced_name l.name;
      scalar = unplaced_scalar l.scalar;
      init = unplaced_const l.init;
    }

abbrev pub unplaced_plant : Plant → Plant
unplaced_plant p = record {
  name = unplaced_name p.name;
  states = map unplaced_state p.states;
  inputs = map unplaced_name p.inputs;
  sees = map unplaced_name p.sees;
  noise = map unplaced_field p.noise;
  next = map unplaced_next p.next;
  end = nowhere;
}

abbrev pub unplaced_node : Node → Node
unplaced_node n = record {
  name = unplaced_name n.name;
  period = unplaced_literal n.period;
  offset = unplaced_literal n.offset;
  reads = map unplaced_name n.reads;
  writes = map unplaced_name n.writes;
  locals = map unplaced_local n.locals;
  body = option_map unplaced_block n.body;
}

abbrev pub unplaced_area : Area → Area
unplaced_area a = record { sides = map unplaced_bounds a.sides; at = nowhere }

abbrev pub unplaced_module : Module → Module
unplaced_module m = record {
  name = unplaced_name m.name;
  ac = unplaced_name m.ac;
  sc = unplaced_name m.sc;
  period = unplaced_literal m.period;
  offset = unplaced_literal m.offset;
  plant = unplaced_name m.plant;
  safe = map unplaced_area m.safe;
  safer = map unplaced_area m.safer;
}

abbrev pub unplaced_declaration : Declaration → Declaration
unplaced_declaration (a_topic t) = a_topic (unplaced_topic t)
unplaced_declaration (a_plant p) = a_plant (unplaced_plant p)
unplaced_declaration (a_node n) = a_node (unplaced_node n)
unplaced_declaration (a_module m) = a_module (unplaced_module m)

abbrev pub without_places : Program → Program
without_places p = record { decls = map unplaced_declaration p.decls }

-- the same program, written at other places
abbrev pub AreSame : Program → Program → Type 0
AreSame p q = without_places p ≡ without_places q
