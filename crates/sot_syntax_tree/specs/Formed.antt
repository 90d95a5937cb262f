-- What the grammar alone makes sure of a program's tree.
use Rattle.std.specs.Prelude.{◌≡◌, ℕ, zero, suc, ◌≤◌, ◌^◌, pos, ◌≤ℤ◌, nat_abs, List, [], ◌∷◌}
use Rattle.std.specs.Prelude.{Option, Some, None}
use Rattle.sot_text.specs.declared.token.Kind.TheVariants.{Name}
use Rattle.sot_text.specs.Lexeme.{IsTokenText}
use Rattle.sot_syntax_tree.specs.Functions.{arity}
use Rattle.sot_syntax_tree.specs.declared.tree.Ident.{Ident}
use Rattle.sot_syntax_tree.specs.declared.tree.Lit.{Lit}
use Rattle.sot_syntax_tree.specs.declared.tree.Bounds.{Bounds}
use Rattle.sot_syntax_tree.specs.declared.tree.Scalar.{Scalar}
use Rattle.sot_syntax_tree.specs.declared.tree.Scalar.TheVariants.{Int, Fix, Bool as BoolScalar}
use Rattle.sot_syntax_tree.specs.declared.tree.Field.{Field}
use Rattle.sot_syntax_tree.specs.declared.tree.Const.{Const}
use Rattle.sot_syntax_tree.specs.declared.tree.Const.TheVariants.{Number, Truth}
use Rattle.sot_syntax_tree.specs.declared.tree.StateDecl.{StateDecl}
use Rattle.sot_syntax_tree.specs.Trees.{Tree, Trees, number, truth, named, binary, rest, negated}
use Rattle.sot_syntax_tree.specs.Trees.{denied}
use Rattle.sot_syntax_tree.specs.Trees.{called, rescaled, chosen, no_tree, one_more, Statement}
use Rattle.sot_syntax_tree.specs.Trees.{Block}
use Rattle.sot_syntax_tree.specs.Trees.{assigned, published, branched, repeated, no_statement}
use Rattle.sot_syntax_tree.specs.Trees.{statement}
use Rattle.sot_syntax_tree.specs.Trees.{Form, one, fields, Start, one_value, values, Topic, Next}
use Rattle.sot_syntax_tree.specs.Trees.{Local}
use Rattle.sot_syntax_tree.specs.Trees.{Plant, Node, Area, Module, Declaration, a_topic, a_plant}
use Rattle.sot_syntax_tree.specs.Trees.{a_node}
use Rattle.sot_syntax_tree.specs.Trees.{a_module, Program}

abbrev pub Each : {A : Type 0} → (A → Type 0) → List A → Type 0
Each P [] = Unit {0}
Each P (x ∷ xs) = P x × Each P xs

abbrev pub IfThere : {A : Type 0} → (A → Type 0) → Option A → Type 0
IfThere P None = Unit {0}
IfThere P (Some x) = P x

-- a list with an item
abbrev pub HasItem : {A : Type 0} → List A → Type 0
HasItem [] = ⊥
HasItem (x ∷ xs) = Unit {0}

-- names are words of the language
abbrev pub IsName : Ident → Type 0
IsName i = IsTokenText Name i.name

-- a literal has at most 6 decimals and a mantissa of at most 10^12; one that takes no minus is not
-- below 0
pub record IsLiteral (l : Lit) : Type 0 where
  pub scale : l.scale ≤ 6
  pub mantissa : nat_abs l.mantissa ≤ 10 ^ 12

abbrev pub IsNumber : Lit → Type 0
IsNumber l = IsLiteral l × (pos 0 ≤ℤ l.mantissa)

abbrev pub AreBounds : Bounds → Type 0
AreBounds b = IsLiteral b.lo × IsLiteral b.hi

abbrev pub IsScalar : Scalar → Type 0
IsScalar (Int b) = AreBounds b
IsScalar (Fix d b) = IsNumber d × AreBounds b
IsScalar (BoolScalar at) = Unit {0}

abbrev pub IsField : Field → Type 0
IsField f = IsName f.name × IsScalar f.scalar

abbrev pub IsConst : Const → Type 0
IsConst (Number l) = IsLiteral l
IsConst (Truth b at) = Unit {0}

abbrev pub part_count : Trees → ℕ
part_count no_tree = zero
part_count (one_more e more) = suc (part_count more)

-- each call has the parts of its function
abbrev mutual
  pub IsTree : Tree → Type 0
  IsTree (number l) = IsLiteral l
  IsTree (truth b at) = Unit {0}
  IsTree (named first field) = IsName first × IfThere IsName field
  IsTree (binary op a b at) = IsTree a × IsTree b
  IsTree (rest a by at) = IsTree a × IsNumber by
  IsTree (negated a at) = IsTree a
  IsTree (denied a at) = IsTree a
  IsTree (called f parts at) = (part_count parts ≡ arity f) × AreTrees parts
  IsTree (rescaled a d at) = IsTree a × IsNumber d
  IsTree (chosen c a b at) = IsTree c × IsTree a × IsTree b

  pub AreTrees : Trees → Type 0
  AreTrees no_tree = Unit {0}
  AreTrees (one_more e more) = IsTree e × AreTrees more

abbrev mutual
  pub IsStatement : Statement → Type 0
  IsStatement (assigned target e) = IsName target × IsTree e
  IsStatement (published topic field e) = IsName topic × IfThere IsName field × IsTree e
  IsStatement (branched c taken other at) = IsTree c × IsBlock taken × IsBlock other
  IsStatement (repeated times body at) = IsNumber times × IsBlock body

  pub IsBlock : Block → Type 0
  IsBlock no_statement = Unit {0}
  IsBlock (statement s more) = IsStatement s × IsBlock more

-- a record has a field
abbrev pub IsForm : Form → Type 0
IsForm (one s) = IsScalar s
IsForm (fields fs) = HasItem fs × Each IsField fs

abbrev pub IsStart : Start → Type 0
IsStart (one_value c) = IsConst c
IsStart (values cs at) = HasItem cs × Each IsConst cs

abbrev pub IsTopic : Topic → Type 0
IsTopic t = IsName t.name × IsForm t.shape × IsStart t.init

abbrev pub IsState : StateDecl → Type 0
IsState s = IsName s.name × IfThere IsNumber s.scale

abbrev pub IsNext : Next → Type 0
IsNext n = IsName n.name × IsTree n.value

-- a plant has a state variable
pub record IsPlant (q : Plant) : Type 0 where
  pub name : IsName q.name
  pub some : HasItem q.states
  pub states : Each IsState q.states
  pub inputs : Each IsName q.inputs
  pub sees : Each IsName q.sees
  pub noise : Each IsField q.noise
  pub next : Each IsNext q.next

abbrev pub IsLocal : Local → Type 0
IsLocal l = IsName l.name × IsScalar l.scalar × IsConst l.init

-- an external node has no locals
pub record IsNode (n : Node) : Type 0 where
  pub name : IsName n.name
  pub period : IsNumber n.period
  pub offset : IsNumber n.offset
  pub reads : Each IsName n.reads
  pub writes : Each IsName n.writes
  pub locals : Each IsLocal n.locals
  pub body : IfThere IsBlock n.body
  pub external : n.body ≡ None → n.locals ≡ []

-- a box has a side
abbrev pub IsArea : Area → Type 0
IsArea a = HasItem a.sides × Each AreBounds a.sides

pub record IsModule (m : Module) : Type 0 where
  pub name : IsName m.name
  pub ac : IsName m.ac
  pub sc : IsName m.sc
  pub period : IsNumber m.period
  pub offset : IsNumber m.offset
  pub plant : IsName m.plant
  pub safe : Each IsArea m.safe
  pub safer : Each IsArea m.safer

abbrev pub IsDeclaration : Declaration → Type 0
IsDeclaration (a_topic t) = IsTopic t
IsDeclaration (a_plant q) = IsPlant q
IsDeclaration (a_node n) = IsNode n
IsDeclaration (a_module m) = IsModule m

abbrev pub IsFormed : Program → Type 0
IsFormed p = Each IsDeclaration p.decls
