-- The grammar of declarations.
use Rattle.std.specs.Prelude.{ℕ, max, List, [], ◌∷◌, Bool, true, false, codes, map, Option, None}
use Rattle.std.specs.Prelude.{Some}
use Rattle.sot_text.specs.Reading.{Lexeme}
use Rattle.sot_syntax_tree.specs.declared.tree.Lit.{Lit}
use Rattle.sot_syntax_tree.specs.declared.tree.StateDecl.{StateDecl}
use Rattle.sot_syntax_tree.specs.Trees.{Form, one, fields, Start, one_value, values, Topic, Next}
use Rattle.sot_syntax_tree.specs.Trees.{Local}
use Rattle.sot_syntax_tree.specs.Trees.{Plant, Node, Area, Module, Declaration}
use Rattle.sot_syntax_tree.specs.Trees as trees
use Rattle.sot_parser.specs.Pieces.{Keyword, Sign, Named, name_of, number_of, spelled_keyword, each}
use Rattle.sot_parser.specs.Pieces.{maybe, Separated, spelled_name, spelled_separated, separated_of}
use Rattle.sot_parser.specs.Pieces.{SideForm, spelled_side, side_of, ScalarForm, spelled_scalar}
use Rattle.sot_parser.specs.Pieces.{scalar_of, FixForm, spelled_fix, fix_of, FieldForm}
use Rattle.sot_parser.specs.Pieces.{spelled_field, field_of, ConstForm, spelled_const, const_of}
use Rattle.sot_parser.specs.Pieces.{ClauseForm, spelled_clause, clause_of, clause_or_none, RoleForm}
use Rattle.sot_parser.specs.Pieces.{spelled_role, role_of, TimingForm, spelled_timing}
use Rattle.sot_parser.specs.Statements.{ExpressionForm, spelled_expression, expression_of}
use Rattle.sot_parser.specs.Statements.{expression_levels, BlockForm, spelled_block, block_of}
use Rattle.sot_parser.specs.Statements.{block_levels}

-- type = scalar | "{" NAME ":" scalar {"," NAME ":" scalar} "}"
pub data ShapeForm : Type 0 where
  one_scalar : ScalarForm → ShapeForm
  a_record : Sign (codes "{") → Separated (codes ",") FieldForm → Sign (codes "}") → ShapeForm

abbrev pub spelled_shape : ShapeForm → List Lexeme → List Lexeme
spelled_shape (one_scalar s) more = spelled_scalar s more
spelled_shape (a_record opening fs closing) more =
    opening.token ∷ spelled_separated spelled_field fs (closing.token ∷ more)

abbrev pub shape_of : ShapeForm → Form
shape_of (one_scalar s) = one (scalar_of s)
shape_of (a_record opening fs closing) = fields (separated_of field_of fs)

-- value = const | "{" const {"," const} "}"
pub data InitForm : Type 0 where
  one_const : ConstForm → InitForm
  consts : Sign (codes "{") → Separated (codes ",") ConstForm → Sign (codes "}") → InitForm

abbrev pub spelled_init : InitForm → List Lexeme → List Lexeme
spelled_init (one_const c) more = spelled_const c more
spelled_init (consts opening cs closing) more =
    opening.token ∷ spelled_separated spelled_const cs (closing.token ∷ more)

abbrev pub init_of : InitForm → Start
init_of (one_const c) = one_value (const_of c)
init_of (consts opening cs closing) = values (separated_of const_of cs) opening.token.at

-- topic = ["environment"] "topic" NAME ":" type "=" value ";"
pub record TopicForm : Type 0 where
  pub environment : Option (Keyword (codes "environment"))
  pub word : Keyword (codes "topic")
  pub name : Named
  pub colon : Sign (codes ":")
  pub shape : ShapeForm
  pub equals : Sign (codes "=")
  pub init : InitForm
  pub semicolon : Sign (codes ";")

abbrev pub spelled_outside : Option (Keyword (codes "environment")) → List Lexeme → List Lexeme
spelled_outside word more = maybe spelled_keyword word more

abbrev pub spelled_topic : TopicForm → List Lexeme → List Lexeme
spelled_topic t more =
    spelled_outside t.environment (t.word.token ∷ t.name.token ∷ t.colon.token ∷ spelled_shape
    t.shape (t.equals.token ∷ spelled_init t.init (t.semicolon.token ∷ more)))

abbrev pub is_given : {A : Type 0} → Option A → Bool
is_given None = false
is_given (Some x) = true

abbrev pub topic_of : TopicForm → Topic
topic_of t =
    record {
      outside = is_given t.environment;
      name = name_of t.name;
      shape = shape_of t.shape;
      init = init_of t.init;
    }

-- var = NAME ":" ("int" | "fix" "(" NUMBER ")")
pub data ScaleForm : Type 0 where
  whole : Keyword (codes "int") → ScaleForm
  scaled : FixForm → ScaleForm

abbrev pub spelled_scale : ScaleForm → List Lexeme → List Lexeme
spelled_scale (whole word) more = word.token ∷ more
spelled_scale (scaled f) more = spelled_fix f more

abbrev pub scale_of : ScaleForm → Option Lit
scale_of (whole word) = None
scale_of (scaled f) = Some (fix_of f)

pub record StateForm : Type 0 where
  pub name : Named
  pub colon : Sign (codes ":")
  pub scale : ScaleForm

abbrev pub spelled_state : StateForm → List Lexeme → List Lexeme
spelled_state s more = s.name.token ∷ s.colon.token ∷ spelled_scale s.scale more

abbrev pub state_of : StateForm → StateDecl
state_of s = record { name = name_of s.name; scale = scale_of s.scale }

-- "next" NAME "=" expr ";"
pub record NextForm : Type 0 where
  pub word : Keyword (codes "next")
  pub name : Named
  pub equals : Sign (codes "=")
  pub value : ExpressionForm
  pub semicolon : Sign (codes ";")

abbrev pub spelled_next : NextForm → List Lexeme → List Lexeme
spelled_next n more =
    n.word.token ∷ n.name.token ∷ n.equals.token ∷ spelled_expression n.value
    (n.semicolon.token ∷ more)

abbrev pub next_of : NextForm → Next
next_of n = record { name = name_of n.name; value = expression_of n.value }

-- plant = "plant" NAME "{" "state" var {"," var} ";" ["input" names ";"] ["sees" names ";"]
--         ["noise" NAME ":" scalar {"," NAME ":" scalar} ";"] {"next" NAME "=" expr ";"} "}"
pub record PlantForm : Type 0 where
  pub word : Keyword (codes "plant")
  pub name : Named
  pub opening : Sign (codes "{")
  pub states : ClauseForm (codes "state") StateForm
  pub inputs : Option (ClauseForm (codes "input") Named)
  pub sees : Option (ClauseForm (codes "sees") Named)
  pub noise : Option (ClauseForm (codes "noise") FieldForm)
  pub next : List NextForm
  pub closing : Sign (codes "}")

abbrev pub spelled_names : {text : List ℕ} → Option (ClauseForm text Named) → List Lexeme
    → List Lexeme
spelled_names c more = maybe (spelled_clause spelled_name) c more

abbrev pub spelled_plant : PlantForm → List Lexeme → List Lexeme
spelled_plant p more =
    p.word.token ∷ p.name.token ∷ p.opening.token ∷ spelled_clause spelled_state p.states (
    spelled_names p.inputs (spelled_names p.sees
    (maybe (spelled_clause spelled_field) p.noise
    (each spelled_next p.next (p.closing.token ∷ more)))))

abbrev pub plant_of : PlantForm → Plant
plant_of p = record {
  name = name_of p.name;
  states = clause_of state_of p.states;
  inputs = clause_or_none name_of p.inputs;
  sees = clause_or_none name_of p.sees;
  noise = clause_or_none field_of p.noise;
  next = map next_of p.next;
  end = p.closing.token.at;
}

-- the greatest nesting of some forms
abbrev pub most : {F : Type 0} → (F → ℕ) → List F → ℕ
most levels [] = 0
most levels (f ∷ fs) = max (levels f) (most levels fs)

abbrev pub next_levels : NextForm → ℕ
next_levels n = expression_levels n.value

abbrev pub plant_levels : PlantForm → ℕ
plant_levels p = most next_levels p.next

-- "local" NAME ":" scalar "=" const ";"
pub record LocalForm : Type 0 where
  pub word : Keyword (codes "local")
  pub name : Named
  pub colon : Sign (codes ":")
  pub scalar : ScalarForm
  pub equals : Sign (codes "=")
  pub init : ConstForm
  pub semicolon : Sign (codes ";")

abbrev pub spelled_local : LocalForm → List Lexeme → List Lexeme
spelled_local l more =
    l.word.token ∷ l.name.token ∷ l.colon.token ∷ spelled_scalar l.scalar
    (l.equals.token ∷ spelled_const l.init (l.semicolon.token ∷ more))

abbrev pub local_of : LocalForm → Local
local_of l = record { name = name_of l.name; scalar = scalar_of l.scalar; init = const_of l.init }

-- coded = "node" NAME timing "{" ["reads" names ";"] ["writes" names ";"] {"local" NAME ":" scalar
-- "=" const ";"} "do" block "}"
pub record CodedForm : Type 0 where
  pub word : Keyword (codes "node")
  pub name : Named
  pub timing : TimingForm
  pub opening : Sign (codes "{")
  pub reads : Option (ClauseForm (codes "reads") Named)
  pub writes : Option (ClauseForm (codes "writes") Named)
  pub locals : List LocalForm
  pub do_word : Keyword (codes "do")
  pub body : BlockForm
  pub closing : Sign (codes "}")

abbrev pub spelled_coded : CodedForm → List Lexeme → List Lexeme
spelled_coded n more =
    n.word.token ∷ n.name.token ∷ spelled_timing n.timing
    (n.opening.token ∷ spelled_names n.reads (spelled_names n.writes (
    each spelled_local n.locals (n.do_word.token ∷ spelled_block n.body (n.closing.token ∷ more)))))

abbrev pub coded_of : CodedForm → Node
coded_of n = record {
  name = name_of n.name;
  period = number_of n.timing.period;
  offset = number_of n.timing.offset;
  reads = clause_or_none name_of n.reads;
  writes = clause_or_none name_of n.writes;
  locals = map local_of n.locals;
  body = Some (block_of n.body);
}

-- external = "external" NAME timing "{" ["reads" names ";"] ["writes" names ";"] "}"
pub record ExternalForm : Type 0 where
  pub word : Keyword (codes "external")
  pub name : Named
  pub timing : TimingForm
  pub opening : Sign (codes "{")
  pub reads : Option (ClauseForm (codes "reads") Named)
  pub writes : Option (ClauseForm (codes "writes") Named)
  pub closing : Sign (codes "}")

abbrev pub spelled_external : ExternalForm → List Lexeme → List Lexeme
spelled_external n more =
    n.word.token ∷ n.name.token ∷ spelled_timing n.timing
    (n.opening.token ∷ spelled_names n.reads (spelled_names n.writes (n.closing.token ∷ more)))

abbrev pub external_of : ExternalForm → Node
external_of n = record {
  name = name_of n.name;
  period = number_of n.timing.period;
  offset = number_of n.timing.offset;
  reads = clause_or_none name_of n.reads;
  writes = clause_or_none name_of n.writes;
  locals = [];
  body = None;
}

-- box = "[" lit ".." lit {"," lit ".." lit} "]"
pub record BoxForm : Type 0 where
  pub opening : Sign (codes "[")
  pub sides : Separated (codes ",") SideForm
  pub closing : Sign (codes "]")

abbrev pub spelled_box : BoxForm → List Lexeme → List Lexeme
spelled_box b more =
    b.opening.token ∷ spelled_separated spelled_side b.sides (b.closing.token ∷ more)

abbrev pub box_of : BoxForm → Area
box_of b = record { sides = separated_of side_of b.sides; at = b.opening.token.at }

-- region = "none" | box {"|" box}
pub data RegionForm : Type 0 where
  no_box : Keyword (codes "none") → RegionForm
  some_boxes : Separated (codes "|") BoxForm → RegionForm

abbrev pub spelled_region : RegionForm → List Lexeme → List Lexeme
spelled_region (no_box word) more = word.token ∷ more
spelled_region (some_boxes bs) more = spelled_separated spelled_box bs more

abbrev pub region_of : RegionForm → List Area
region_of (no_box word) = []
region_of (some_boxes bs) = separated_of box_of bs

-- a keyword, a region, and ";"
pub record BoundForm (text : List ℕ) : Type 0 where
  pub word : Keyword text
  pub region : RegionForm
  pub semicolon : Sign (codes ";")

abbrev pub spelled_bound : {text : List ℕ} → BoundForm text → List Lexeme → List Lexeme
spelled_bound b more = b.word.token ∷ spelled_region b.region (b.semicolon.token ∷ more)

abbrev pub bound_of : {text : List ℕ} → BoundForm text → List Area
bound_of b = region_of b.region

-- module = "module" NAME "{" "ac" NAME ";" "sc" NAME ";" timing ";" "plant" NAME ";" "safe" region
-- ";" "safer" region ";" "}"
pub record ModuleForm : Type 0 where
  pub word : Keyword (codes "module")
  pub name : Named
  pub opening : Sign (codes "{")
  pub ac : RoleForm (codes "ac")
  pub sc : RoleForm (codes "sc")
  pub timing : TimingForm
  pub semicolon : Sign (codes ";")
  pub plant : RoleForm (codes "plant")
  pub safe : BoundForm (codes "safe")
  pub safer : BoundForm (codes "safer")
  pub closing : Sign (codes "}")

abbrev pub spelled_module : ModuleForm → List Lexeme → List Lexeme
spelled_module m more =
    m.word.token ∷ m.name.token ∷ m.opening.token ∷ spelled_role m.ac
    (spelled_role m.sc (spelled_timing m.timing (m.semicolon.token ∷
    spelled_role m.plant (spelled_bound m.safe (spelled_bound m.safer (m.closing.token ∷ more))))))

abbrev pub module_of : ModuleForm → Module
module_of m = record {
  name = name_of m.name;
  ac = role_of m.ac;
  sc = role_of m.sc;
  period = number_of m.timing.period;
  offset = number_of m.timing.offset;
  plant = role_of m.plant;
  safe = bound_of m.safe;
  safer = bound_of m.safer;
}

-- decl = topic | plant | coded | external | module
pub data DeclarationForm : Type 0 where
  a_topic : TopicForm → DeclarationForm
  a_plant : PlantForm → DeclarationForm
  a_coded : CodedForm → DeclarationForm
  an_external : ExternalForm → DeclarationForm
  a_module : ModuleForm → DeclarationForm

abbrev pub spelled_declaration : DeclarationForm → List Lexeme → List Lexeme
spelled_declaration (a_topic t) more = spelled_topic t more
spelled_declaration (a_plant p) more = spelled_plant p more
spelled_declaration (a_coded n) more = spelled_coded n more
spelled_declaration (an_external n) more = spelled_external n more
spelled_declaration (a_module m) more = spelled_module m more

abbrev pub declaration_of : DeclarationForm → Declaration
declaration_of (a_topic t) = trees.a_topic (topic_of t)
declaration_of (a_plant p) = trees.a_plant (plant_of p)
declaration_of (a_coded n) = trees.a_node (coded_of n)
declaration_of (an_external n) = trees.a_node (external_of n)
declaration_of (a_module m) = trees.a_module (module_of m)

-- how deep its expressions and blocks nest
abbrev pub declaration_levels : DeclarationForm → ℕ
declaration_levels (a_topic t) = 0
declaration_levels (a_plant p) = plant_levels p
declaration_levels (a_coded n) = block_levels n.body
declaration_levels (an_external n) = 0
declaration_levels (a_module m) = 0
