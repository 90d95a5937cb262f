-- A program as it is written: its tree, without where its parts lie in memory.
use Rattle.std.specs.Prelude.{List, Bool, Option}
use Rattle.sot_text.specs.declared.token.Span.{Span}
use Rattle.sot_syntax_tree.specs.declared.operator.Op.{Op}
use Rattle.sot_syntax_tree.specs.declared.operator.Func.{Func}
use Rattle.sot_syntax_tree.specs.declared.tree.Ident.{Ident}
use Rattle.sot_syntax_tree.specs.declared.tree.Lit.{Lit}
use Rattle.sot_syntax_tree.specs.declared.tree.Bounds.{Bounds}
use Rattle.sot_syntax_tree.specs.declared.tree.Scalar.{Scalar}
use Rattle.sot_syntax_tree.specs.declared.tree.Field.{Field}
use Rattle.sot_syntax_tree.specs.declared.tree.Const.{Const}
use Rattle.sot_syntax_tree.specs.declared.tree.StateDecl.{StateDecl}

-- an expression; a place is that of the token that names its operator, its function or its `if`
mutual
  pub data Tree : Type 0 where
    number : Lit → Tree
    truth : Bool → Span → Tree
    named : Ident → Option Ident → Tree
    binary : Op → Tree → Tree → Span → Tree
    rest : Tree → Lit → Span → Tree
    negated : Tree → Span → Tree
    denied : Tree → Span → Tree
    called : Func → Trees → Span → Tree
    rescaled : Tree → Lit → Span → Tree
    chosen : Tree → Tree → Tree → Span → Tree

  -- the parts of a call
  pub data Trees : Type 0 where
    no_tree : Trees
    one_more : Tree → Trees → Trees

-- a statement
mutual
  pub data Statement : Type 0 where
    assigned : Ident → Tree → Statement
    published : Ident → Option Ident → Tree → Statement
    branched : Tree → Block → Block → Span → Statement
    repeated : Lit → Block → Span → Statement

  pub data Block : Type 0 where
    no_statement : Block
    statement : Statement → Block → Block

-- the type of a topic, and its initial value
pub data Form : Type 0 where
  one : Scalar → Form
  fields : List Field → Form

pub data Start : Type 0 where
  one_value : Const → Start
  values : List Const → Span → Start

pub record Topic : Type 0 where
  pub outside : Bool
  pub name : Ident
  pub shape : Form
  pub init : Start

pub record Next : Type 0 where
  pub name : Ident
  pub value : Tree

pub record Local : Type 0 where
  pub name : Ident
  pub scalar : Scalar
  pub init : Const

pub record Plant : Type 0 where
  pub name : Ident
  pub states : List StateDecl
  pub inputs : List Ident
  pub sees : List Ident
  pub noise : List Field
  pub next : List Next
  pub end : Span

-- an external node has no body
pub record Node : Type 0 where
  pub name : Ident
  pub period : Lit
  pub offset : Lit
  pub reads : List Ident
  pub writes : List Ident
  pub locals : List Local
  pub body : Option Block

pub record Area : Type 0 where
  pub sides : List Bounds
  pub at : Span

pub record Module : Type 0 where
  pub name : Ident
  pub ac : Ident
  pub sc : Ident
  pub period : Lit
  pub offset : Lit
  pub plant : Ident
  pub safe : List Area
  pub safer : List Area

pub data Declaration : Type 0 where
  a_topic : Topic → Declaration
  a_plant : Plant → Declaration
  a_node : Node → Declaration
  a_module : Module → Declaration

pub record Program : Type 0 where
  pub decls : List Declaration
