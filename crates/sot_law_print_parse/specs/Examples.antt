-- Worked programs that are the same, and others that are not, as statements that functions of this
-- crate prove.
use Rattle.std.specs.Prelude.{◌≡◌, ℕ, pos, neg_ℤ, ℤ, Bool, true, false, List, [], ◌∷◌, Option, None}
use Rattle.std.specs.Prelude.{Some, codes}
use Rattle.sot_text.specs.declared.token.Span.{Span}
use Rattle.sot_syntax_tree.specs.declared.operator.Op.TheVariants.{Add, Less}
use Rattle.sot_syntax_tree.specs.declared.operator.Func.TheVariants.{Abs}
use Rattle.sot_syntax_tree.specs.declared.tree.Ident.{Ident}
use Rattle.sot_syntax_tree.specs.declared.tree.Lit.{Lit}
use Rattle.sot_syntax_tree.specs.declared.tree.Bounds.{Bounds}
use Rattle.sot_syntax_tree.specs.declared.tree.Scalar.TheVariants.{Int, Fix, Bool as Truths}
use Rattle.sot_syntax_tree.specs.declared.tree.Const.TheVariants.{Number, Truth}
use Rattle.sot_syntax_tree.specs.Trees.{Tree, number, truth, named, binary, rest, negated, denied}
use Rattle.sot_syntax_tree.specs.Trees.{called}
use Rattle.sot_syntax_tree.specs.Trees.{rescaled, chosen, no_tree, one_more, Statement, Block}
use Rattle.sot_syntax_tree.specs.Trees.{assigned}
use Rattle.sot_syntax_tree.specs.Trees.{published, branched, repeated, no_statement, statement, one}
use Rattle.sot_syntax_tree.specs.Trees.{fields, one_value, values, Topic, Plant, Node, Module}
use Rattle.sot_syntax_tree.specs.Trees.{Declaration}
use Rattle.sot_syntax_tree.specs.Trees.{a_topic, a_plant, a_node, a_module, Program}
use Rattle.sot_parser.specs.Pieces.{Keyword, Sign}
use Rattle.sot_parser.specs.Statements.{braces, no_else, with_else, no_more, else_of}
use Rattle.sot_law_print_parse.specs.Unplaced.{nowhere, AreSame}

abbrev pub ident : Span → List ℕ → Ident
ident at text = record { name = text; at = at }

abbrev pub whole : Span → ℕ → Lit
whole at n = record { mantissa = pos n; scale = 0; at = at }

abbrev pub bounds : Span → Bounds
bounds at = record { lo = record { mantissa = neg_ℤ (pos 9); scale = 0; at = at }; hi = whole at 9 }

abbrev pub x : Span → Tree
x at = named (ident at (codes "x")) None

-- every kind of expression
abbrev pub expression : Span → Tree
expression at =
    chosen (denied (truth true at) at) (negated (rest (x at) (whole at 2) at) at)
    (called Abs (one_more (binary Add (rescaled (number (whole at 5)) (whole at 1) at)
    (named (ident at (codes "p")) (Some (ident at (codes "y")))) at) no_tree) at) at

-- every kind of statement
abbrev pub body : Span → Block
body at =
    statement (assigned (ident at (codes "x")) (expression at)) (
    statement (branched (truth true at)
    (statement (published (ident at (codes "p")) (Some (ident at (codes "y"))) (x at))
    no_statement) no_statement at) (
    statement (repeated (whole at 3) no_statement at) no_statement))

abbrev pub topic : Span → Bool → List ℕ → Topic
topic at outside name =
    record {
      outside = outside;
      name = ident at name;
      shape = one (Int (bounds at));
      init = one_value (Number (whole at 0));
    }

abbrev pub record_topic : Span → Topic
record_topic at = record {
  outside = true;
  name = ident at (codes "p");
  shape =
      fields (record { name = ident at (codes "y"); scalar = Fix (whole at 2) (bounds at) } ∷ record
      { name = ident at (codes "on"); scalar = Truths at } ∷ []);
  init = values (Number (whole at 0) ∷ Truth false at ∷ []) at;
}

abbrev pub plant : Span → Plant
plant at = record {
  name = ident at (codes "car");
  states = record { name = ident at (codes "v"); scale = Some (whole at 1) } ∷ [];
  inputs = ident at (codes "x") ∷ [];
  sees = ident at (codes "p") ∷ [];
  noise = record { name = ident at (codes "w"); scalar = Int (bounds at) } ∷ [];
  next = record { name = ident at (codes "v"); value = expression at } ∷ [];
  end = at;
}

abbrev pub node : Span → Option Block → Node
node at code = record {
  name = ident at (codes "n");
  period = whole at 10;
  offset = whole at 0;
  reads = ident at (codes "p") ∷ [];
  writes = ident at (codes "x") ∷ [];
  locals =
      record { name = ident at (codes "x"); scalar = Int (bounds at); init = Number (whole at 0) } ∷
      [];
  body = code;
}

abbrev pub module_ : Span → Module
module_ at = record {
  name = ident at (codes "m");
  ac = ident at (codes "n");
  sc = ident at (codes "o");
  period = whole at 100;
  offset = whole at 0;
  plant = ident at (codes "car");
  safe = record { sides = bounds at ∷ []; at = at } ∷ [];
  safer = [];
}

-- every kind of declaration
abbrev pub program : Span → Program
program at = record {
  decls =
      a_topic (topic at false (codes "x")) ∷ a_topic (record_topic at) ∷ a_plant (plant at) ∷ a_node
      (node at (Some (body at))) ∷ a_node (node at None) ∷ a_module (module_ at) ∷ [];
}

-- a program is the same wherever its parts stand
abbrev pub PlacesDoNotCount : Type 0
PlacesDoNotCount = (a b : Span) → AreSame (program a) (program b)

-- programs of one declaration, and of one node with one statement
abbrev pub alone : Declaration → Program
alone d = record { decls = d ∷ [] }

abbrev pub does : Statement → Program
does s = alone (a_node (node nowhere (Some (statement s no_statement))))

abbrev pub sets : Tree → Program
sets e = does (assigned (ident nowhere (codes "x")) e)

abbrev pub literal : ℤ → ℕ → Program
literal mantissa scale = sets (number (record { mantissa = mantissa; scale = scale; at = nowhere }))

abbrev pub AreOther : Program → Program → Type 0
AreOther p q = AreSame p q → ⊥

-- names, numbers with their signs and decimals, and operators count
abbrev pub WordsCount : Type 0
WordsCount =
    AreOther (alone (a_topic (topic nowhere false (codes "x"))))
    (alone (a_topic (topic nowhere false (codes "y"))))
    × AreOther (literal (pos 5) 0) (literal (pos 6) 0)
    × AreOther (literal (pos 5) 0) (literal (neg_ℤ (pos 5)) 0)
    × AreOther (literal (pos 5) 0) (literal (pos 50) 1)
    × AreOther (literal (pos 5) 0) (literal (pos 5) 1)
    × AreOther (sets (binary Add (x nowhere) (x nowhere) nowhere))
    (sets (binary Less (x nowhere) (x nowhere) nowhere))

-- the order of declarations counts, and whether a topic is the environment's or a node has a body
abbrev pub DeclarationsCount : Type 0
DeclarationsCount =
    AreOther (record {
      decls = a_topic (topic nowhere false (codes "x")) ∷ a_topic
          (topic nowhere false (codes "y")) ∷ [];
    })
    (record {
      decls = a_topic (topic nowhere false (codes "y")) ∷ a_topic
          (topic nowhere false (codes "x")) ∷ [];
    })
    × AreOther (alone (a_topic (topic nowhere false (codes "x"))))
    (alone (a_topic (topic nowhere true (codes "x"))))
    × AreOther (alone (a_node (node nowhere None)))
    (alone (a_node (node nowhere (Some no_statement))))
    × AreOther (record { decls = [] }) (alone (a_topic (topic nowhere false (codes "x"))))

-- what stands behind `else` counts, and a negation of a number is not the negative number
abbrev pub BranchesCount : Type 0
BranchesCount =
    AreOther (does (branched (truth true nowhere) no_statement no_statement nowhere))
    (does (branched (truth true nowhere) no_statement
    (statement (assigned (ident nowhere (codes "x")) (x nowhere)) no_statement) nowhere))
    × AreOther (sets (negated (number (whole nowhere 5)) nowhere)) (literal (neg_ℤ (pos 5)) 0)
    × AreOther (sets (x nowhere)) (sets
    (named (ident nowhere (codes "x")) (Some (ident nowhere (codes "x")))))

-- an empty block behind `else` is the same as no `else`
abbrev pub EmptyElseIsNone : Type 0
EmptyElseIsNone =
    (word : Keyword (codes "else")) (opening : Sign (codes "{")) (closing : Sign (codes "}"))
    → else_of (with_else word (braces opening no_more closing)) ≡ else_of no_else
