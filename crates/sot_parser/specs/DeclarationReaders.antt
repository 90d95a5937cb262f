-- What tokens spell of a declaration, read from the left.
use Rattle.std.specs.Prelude.{ℕ, List, [], ◌∷◌, Bool, true, false, ◌||◌, codes, Option, None, Some}
use Rattle.std.specs.Prelude.{Ok, if◌then◌else◌}
use Rattle.sot_text.specs.Reading.{Lexeme}
use Rattle.sot_syntax_tree.specs.declared.tree.Ident.{Ident}
use Rattle.sot_syntax_tree.specs.declared.tree.Lit.{Lit}
use Rattle.sot_syntax_tree.specs.declared.tree.Bounds.{Bounds}
use Rattle.sot_syntax_tree.specs.declared.tree.Scalar.{Scalar}
use Rattle.sot_syntax_tree.specs.declared.tree.Scalar.TheVariants.{Int, Fix, Bool as Truths}
use Rattle.sot_syntax_tree.specs.declared.tree.Field.{Field}
use Rattle.sot_syntax_tree.specs.declared.tree.Const.{Const}
use Rattle.sot_syntax_tree.specs.declared.tree.Const.TheVariants as consts
use Rattle.sot_syntax_tree.specs.declared.tree.StateDecl.{StateDecl}
use Rattle.sot_syntax_tree.specs.Trees.{Block, Form, one, fields, Start, one_value, values, Topic}
use Rattle.sot_syntax_tree.specs.Trees.{Next}
use Rattle.sot_syntax_tree.specs.Trees.{Local, Plant, Node, Area, Module, Declaration, a_topic}
use Rattle.sot_syntax_tree.specs.Trees.{a_plant}
use Rattle.sot_syntax_tree.specs.Trees.{a_node, a_module, Program}
use Rattle.sot_expression.specs.Lexemes.{begins, is_sign, is_keyword}
use Rattle.sot_expression.specs.Readers.{Read, ◌>>=◌, expect, name_at, number_at, literal_at}
use Rattle.sot_parser.specs.ListReaders.{all_at, separated_at, clause_at, optional_at}
use Rattle.sot_expression.specs.ExpressionReaders.{tree_at}
use Rattle.sot_parser.specs.StatementReaders.{block_at, statement_at}

unfoldable pub side_at : List Lexeme → Read Bounds
side_at ts = do
  lo ← literal_at ts
  dots ← expect (is_sign (codes "..")) lo.1
  hi ← literal_at dots.1
  Ok (record { lo = lo.0; hi = hi.0 }, hi.1)

unfoldable pub range_at : List Lexeme → Read Bounds
range_at ts = do
  opening ← expect (is_sign (codes "[")) ts
  side ← side_at opening.1
  closing ← expect (is_sign (codes "]")) side.1
  Ok (side.0, closing.1)

unfoldable pub fix_at : List Lexeme → Read Lit
fix_at ts = do
  word ← expect (is_keyword (codes "fix")) ts
  opening ← expect (is_sign (codes "(")) word.1
  scale ← number_at opening.1
  closing ← expect (is_sign (codes ")")) scale.1
  Ok (scale.0, closing.1)

unfoldable pub int_scalar_at : List Lexeme → Read Scalar
int_scalar_at ts = do
  word ← expect (is_keyword (codes "int")) ts
  bounds ← range_at word.1
  Ok (Int bounds.0, bounds.1)

unfoldable pub fix_scalar_at : List Lexeme → Read Scalar
fix_scalar_at ts = do
  scale ← fix_at ts
  bounds ← range_at scale.1
  Ok (Fix scale.0 bounds.0, bounds.1)

unfoldable pub bool_scalar_at : List Lexeme → Read Scalar
bool_scalar_at ts = do
  word ← expect (is_keyword (codes "bool")) ts
  Ok (Truths word.0, word.1)

unfoldable pub scalar_at : List Lexeme → Read Scalar
scalar_at ts =
    if begins (is_keyword (codes "int")) ts then int_scalar_at ts
    else if begins (is_keyword (codes "fix")) ts then fix_scalar_at ts
    else bool_scalar_at ts

unfoldable pub named_scalar_at : List Lexeme → Read Field
named_scalar_at ts = do
  name ← name_at ts
  colon ← expect (is_sign (codes ":")) name.1
  scalar ← scalar_at colon.1
  Ok (record { name = name.0; scalar = scalar.0 }, scalar.1)

unfoldable pub truth_at : Bool → List ℕ → List Lexeme → Read Const
truth_at value text ts = do
  word ← expect (is_keyword text) ts
  Ok (consts.Truth value word.0, word.1)

unfoldable pub number_const_at : List Lexeme → Read Const
number_const_at ts = do
  number ← literal_at ts
  Ok (consts.Number number.0, number.1)

unfoldable pub const_at : List Lexeme → Read Const
const_at ts =
    if begins (is_keyword (codes "true")) ts then truth_at true (codes "true") ts
    else if begins (is_keyword (codes "false")) ts then truth_at false (codes "false") ts
    else number_const_at ts

unfoldable pub fields_at : List Lexeme → Read Form
fields_at ts = do
  opening ← expect (is_sign (codes "{")) ts
  items ← separated_at (codes ",") named_scalar_at opening.1
  closing ← expect (is_sign (codes "}")) items.1
  Ok (fields items.0, closing.1)

unfoldable pub one_scalar_at : List Lexeme → Read Form
one_scalar_at ts = do
  scalar ← scalar_at ts
  Ok (one scalar.0, scalar.1)

unfoldable pub shape_at : List Lexeme → Read Form
shape_at ts = if begins (is_sign (codes "{")) ts then fields_at ts else one_scalar_at ts

unfoldable pub consts_at : List Lexeme → Read Start
consts_at ts = do
  opening ← expect (is_sign (codes "{")) ts
  items ← separated_at (codes ",") const_at opening.1
  closing ← expect (is_sign (codes "}")) items.1
  Ok (values items.0 opening.0, closing.1)

unfoldable pub one_const_at : List Lexeme → Read Start
one_const_at ts = do
  value ← const_at ts
  Ok (one_value value.0, value.1)

unfoldable pub init_at : List Lexeme → Read Start
init_at ts = if begins (is_sign (codes "{")) ts then consts_at ts else one_const_at ts

unfoldable pub environment_at : List Lexeme → Read Bool
environment_at ts = do
  word ← expect (is_keyword (codes "environment")) ts
  Ok (true, word.1)

unfoldable pub outside_at : List Lexeme → Read Bool
outside_at ts =
    if begins (is_keyword (codes "environment")) ts then environment_at ts else Ok (false, ts)

unfoldable pub topic_at : List Lexeme → Read Topic
topic_at ts = do
  outside ← outside_at ts
  word ← expect (is_keyword (codes "topic")) outside.1
  name ← name_at word.1
  colon ← expect (is_sign (codes ":")) name.1
  shape ← shape_at colon.1
  equals ← expect (is_sign (codes "=")) shape.1
  init ← init_at equals.1
  semicolon ← expect (is_sign (codes ";")) init.1
  Ok (record { outside = outside.0; name = name.0; shape = shape.0; init = init.0 }, semicolon.1)

unfoldable pub whole_at : List Lexeme → Read (Option Lit)
whole_at ts = do
  word ← expect (is_keyword (codes "int")) ts
  Ok (None, word.1)

unfoldable pub scaled_at : List Lexeme → Read (Option Lit)
scaled_at ts = do
  scale ← fix_at ts
  Ok (Some scale.0, scale.1)

unfoldable pub scale_at : List Lexeme → Read (Option Lit)
scale_at ts = if begins (is_keyword (codes "int")) ts then whole_at ts else scaled_at ts

unfoldable pub state_at : List Lexeme → Read StateDecl
state_at ts = do
  name ← name_at ts
  colon ← expect (is_sign (codes ":")) name.1
  scale ← scale_at colon.1
  Ok (record { name = name.0; scale = scale.0 }, scale.1)

unfoldable pub next_at : ℕ → List Lexeme → Read Next
next_at room ts = do
  word ← expect (is_keyword (codes "next")) ts
  name ← name_at word.1
  equals ← expect (is_sign (codes "=")) name.1
  value ← tree_at room equals.1
  semicolon ← expect (is_sign (codes ";")) value.1
  Ok (record { name = name.0; value = value.0 }, semicolon.1)

-- what a plant holds and sees: the states, the inputs, the other plants and the noise
unfoldable pub signals_at : List Lexeme
    → Read (List StateDecl × List Ident × List Ident × List Field)
signals_at ts = do
  states ← clause_at (codes "state") state_at ts
  inputs ← optional_at (codes "input") name_at states.1
  sees ← optional_at (codes "sees") name_at inputs.1
  noise ← optional_at (codes "noise") named_scalar_at sees.1
  Ok ((states.0, inputs.0, sees.0, noise.0), noise.1)

unfoldable pub plant_at : ℕ → List Lexeme → Read Plant
plant_at room ts = do
  word ← expect (is_keyword (codes "plant")) ts
  name ← name_at word.1
  opening ← expect (is_sign (codes "{")) name.1
  signals ← signals_at opening.1
  next ← all_at (begins (is_keyword (codes "next"))) (next_at room) signals.1
  closing ← expect (is_sign (codes "}")) next.1
  Ok (
    record {
      name = name.0;
      states = signals.0.0;
      inputs = signals.0.1;
      sees = signals.0.2;
      noise = signals.0.3;
      next = next.0;
      end = closing.0;
    },
    closing.1,
  )

-- the period and the offset
unfoldable pub timing_at : List Lexeme → Read (Lit × Lit)
timing_at ts = do
  period_word ← expect (is_keyword (codes "period")) ts
  period ← number_at period_word.1
  offset_word ← expect (is_keyword (codes "offset")) period.1
  offset ← number_at offset_word.1
  Ok ((period.0, offset.0), offset.1)

unfoldable pub local_at : List Lexeme → Read Local
local_at ts = do
  word ← expect (is_keyword (codes "local")) ts
  name ← name_at word.1
  colon ← expect (is_sign (codes ":")) name.1
  scalar ← scalar_at colon.1
  equals ← expect (is_sign (codes "=")) scalar.1
  init ← const_at equals.1
  semicolon ← expect (is_sign (codes ";")) init.1
  Ok (record { name = name.0; scalar = scalar.0; init = init.0 }, semicolon.1)

-- a node up to its code, as one that has none
unfoldable pub head_at : List Lexeme → Read Node
head_at ts = do
  name ← name_at ts
  timing ← timing_at name.1
  opening ← expect (is_sign (codes "{")) timing.1
  reads ← optional_at (codes "reads") name_at opening.1
  writes ← optional_at (codes "writes") name_at reads.1
  Ok (
    record {
      name = name.0;
      period = timing.0.0;
      offset = timing.0.1;
      reads = reads.0;
      writes = writes.0;
      locals = [];
      body = None;
    },
    writes.1,
  )

-- the locals and the body
unfoldable pub code_at : ℕ → List Lexeme → Read (List Local × Block)
code_at room ts = do
  locals ← all_at (begins (is_keyword (codes "local"))) local_at ts
  do_word ← expect (is_keyword (codes "do")) locals.1
  body ← block_at (statement_at room) do_word.1
  Ok ((locals.0, body.0), body.1)

abbrev pub with_code : Node → List Local × Block → Node
with_code head code =
    record {
      name = head.name;
      period = head.period;
      offset = head.offset;
      reads = head.reads;
      writes = head.writes;
      locals = code.0;
      body = Some code.1;
    }

unfoldable pub coded_at : ℕ → List Lexeme → Read Node
coded_at room ts = do
  word ← expect (is_keyword (codes "node")) ts
  head ← head_at word.1
  code ← code_at room head.1
  closing ← expect (is_sign (codes "}")) code.1
  Ok (with_code head.0 code.0, closing.1)

unfoldable pub external_at : List Lexeme → Read Node
external_at ts = do
  word ← expect (is_keyword (codes "external")) ts
  head ← head_at word.1
  closing ← expect (is_sign (codes "}")) head.1
  Ok (head.0, closing.1)

unfoldable pub box_at : List Lexeme → Read Area
box_at ts = do
  opening ← expect (is_sign (codes "[")) ts
  sides ← separated_at (codes ",") side_at opening.1
  closing ← expect (is_sign (codes "]")) sides.1
  Ok (record { sides = sides.0; at = opening.0 }, closing.1)

unfoldable pub no_box_at : List Lexeme → Read (List Area)
no_box_at ts = do
  word ← expect (is_keyword (codes "none")) ts
  Ok ([], word.1)

unfoldable pub region_at : List Lexeme → Read (List Area)
region_at ts =
    if begins (is_keyword (codes "none")) ts then no_box_at ts else separated_at (codes "|") box_at
    ts

unfoldable pub bound_at : List ℕ → List Lexeme → Read (List Area)
bound_at text ts = do
  word ← expect (is_keyword text) ts
  region ← region_at word.1
  semicolon ← expect (is_sign (codes ";")) region.1
  Ok (region.0, semicolon.1)

unfoldable pub role_at : List ℕ → List Lexeme → Read Ident
role_at text ts = do
  word ← expect (is_keyword text) ts
  name ← name_at word.1
  semicolon ← expect (is_sign (codes ";")) name.1
  Ok (name.0, semicolon.1)

-- the two nodes of a module, when it decides, and its plant
unfoldable pub pairing_at : List Lexeme → Read (Ident × Ident × Lit × Lit × Ident)
pairing_at ts = do
  ac ← role_at (codes "ac") ts
  sc ← role_at (codes "sc") ac.1
  timing ← timing_at sc.1
  semicolon ← expect (is_sign (codes ";")) timing.1
  plant ← role_at (codes "plant") semicolon.1
  Ok ((ac.0, sc.0, timing.0.0, timing.0.1, plant.0), plant.1)

-- the safe and the safer region
unfoldable pub bounds_at : List Lexeme → Read (List Area × List Area)
bounds_at ts = do
  safe ← bound_at (codes "safe") ts
  safer ← bound_at (codes "safer") safe.1
  Ok ((safe.0, safer.0), safer.1)

unfoldable pub module_at : List Lexeme → Read Module
module_at ts = do
  word ← expect (is_keyword (codes "module")) ts
  name ← name_at word.1
  opening ← expect (is_sign (codes "{")) name.1
  pair ← pairing_at opening.1
  bounds ← bounds_at pair.1
  closing ← expect (is_sign (codes "}")) bounds.1
  Ok (
    record {
      name = name.0;
      ac = pair.0.0;
      sc = pair.0.1;
      period = pair.0.2;
      offset = pair.0.3;
      plant = pair.0.4;
      safe = bounds.0.0;
      safer = bounds.0.1;
    },
    closing.1,
  )

unfoldable pub a_topic_at : List Lexeme → Read Declaration
a_topic_at ts = do
  topic ← topic_at ts
  Ok (a_topic topic.0, topic.1)

unfoldable pub a_plant_at : ℕ → List Lexeme → Read Declaration
a_plant_at room ts = do
  plant ← plant_at room ts
  Ok (a_plant plant.0, plant.1)

unfoldable pub a_coded_at : ℕ → List Lexeme → Read Declaration
a_coded_at room ts = do
  node ← coded_at room ts
  Ok (a_node node.0, node.1)

unfoldable pub an_external_at : List Lexeme → Read Declaration
an_external_at ts = do
  node ← external_at ts
  Ok (a_node node.0, node.1)

unfoldable pub a_module_at : List Lexeme → Read Declaration
a_module_at ts = do
  last ← module_at ts
  Ok (a_module last.0, last.1)

unfoldable pub declaration_at : ℕ → List Lexeme → Read Declaration
declaration_at room ts =
    if begins (is_keyword (codes "topic")) ts || begins (is_keyword (codes "environment")) ts then
    a_topic_at ts
    else if begins (is_keyword (codes "plant")) ts then a_plant_at room ts
    else if begins (is_keyword (codes "node")) ts then a_coded_at room ts
    else if begins (is_keyword (codes "external")) ts then an_external_at ts
    else a_module_at ts

abbrev pub is_some : List Lexeme → Bool
is_some [] = false
is_some (t ∷ ts) = true

unfoldable pub declarations_at : ℕ → List Lexeme → Read (List Declaration)
declarations_at room ts = all_at is_some (declaration_at room) ts

unfoldable pub program_at : List Lexeme → Read Program
program_at ts = do
  decls ← declarations_at 64 ts
  Ok (record { decls = decls.0 }, decls.1)
