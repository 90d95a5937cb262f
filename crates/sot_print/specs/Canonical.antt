-- The canonical text of a program: declarations from the first column, clauses two spaces deeper.
use Rattle.std.specs.Prelude.{ℕ, Bool, true, false, if◌then◌else◌, List, [], ◌∷◌, ◌++◌, Option}
use Rattle.std.specs.Prelude.{None, Some, codes}
use Rattle.sot_syntax_tree.specs.declared.tree.Ident.{Ident}
use Rattle.sot_syntax_tree.specs.declared.tree.Lit.{Lit}
use Rattle.sot_syntax_tree.specs.declared.tree.Field.{Field}
use Rattle.sot_syntax_tree.specs.declared.tree.StateDecl.{StateDecl}
use Rattle.sot_syntax_tree.specs.Trees.{Block, Form, one, fields, Start, one_value, values, Topic}
use Rattle.sot_syntax_tree.specs.Trees.{Next}
use Rattle.sot_syntax_tree.specs.Trees.{Local, Plant, Node, Area, Module, Declaration, a_topic}
use Rattle.sot_syntax_tree.specs.Trees.{a_plant}
use Rattle.sot_syntax_tree.specs.Trees.{a_node, a_module, Program}
use Rattle.sot_print.specs.declared.gap.Gap.{Gap}
use Rattle.sot_print.specs.declared.gap.Gap.TheVariants.{Touching, Space, Line}
use Rattle.sot_print.specs.Words.{Word, keyword, sign, name, text_of}
use Rattle.sot_print.specs.Leaves.{literal_words, ident_words, constant_words, listed, bounds_words}
use Rattle.sot_print.specs.Leaves.{fixed_words, scalar_words, field_words}
use Rattle.sot_print.specs.Expressions.{expression_words}
use Rattle.sot_print.specs.Statements.{semicolon, braced_words, block_words}

-- a clause in the braces of a declaration
abbrev pub clause : List ℕ → List Word → List Word
clause word rest_ = keyword (Line 2) word ∷ rest_ ++ semicolon

abbrev pub closing : List Word
closing = sign (Line 0) (codes "}") ∷ []

-- record braces have no space inside
abbrev pub shape_words : Form → List Word
shape_words (one s) = scalar_words s
shape_words (fields fs) =
    sign Space (codes "{") ∷ listed field_words Touching fs ++ sign Touching (codes "}") ∷ []

abbrev pub start_words : Start → List Word
start_words (one_value c) = constant_words Space c
start_words (values cs at) =
    sign Space (codes "{") ∷ listed constant_words Touching cs ++ sign Touching (codes "}") ∷ []

abbrev pub topic_head_words : Gap → Bool → List Word
topic_head_words gap outside =
    if outside then keyword gap (codes "environment") ∷ keyword Space (codes "topic") ∷ [] else
    keyword gap (codes "topic") ∷ []

abbrev pub topic_words : Gap → Topic → List Word
topic_words gap t =
    topic_head_words gap t.outside ++ name Space t.name.name ∷ sign Touching (codes ":") ∷
    shape_words t.shape
    ++ sign Space (codes "=") ∷ start_words t.init ++ semicolon

-- a state variable
abbrev pub state_type_words : Option Lit → List Word
state_type_words None = keyword Space (codes "int") ∷ []
state_type_words (Some scale) = fixed_words scale

abbrev pub state_words : Gap → StateDecl → List Word
state_words gap s = name gap s.name.name ∷ sign Touching (codes ":") ∷ state_type_words s.scale

-- a clause of names, if there are any
abbrev pub names_clause : List ℕ → List Ident → List Word
names_clause word [] = []
names_clause word (i ∷ is) = clause word (listed ident_words Space (i ∷ is))

abbrev pub noise_clause : List Field → List Word
noise_clause [] = []
noise_clause (f ∷ fs) = clause (codes "noise") (listed field_words Space (f ∷ fs))

abbrev pub next_clause : Next → List Word
next_clause n =
    clause (codes "next") (name Space n.name.name ∷ sign Space (codes "=") ∷ expression_words
    n.value Space)

abbrev pub each : {A : Type 0} → (A → List Word) → List A → List Word
each item [] = []
each item (x ∷ xs) = item x ++ each item xs

-- the clauses of a plant before `next`
abbrev pub plant_clauses : Plant → List Word
plant_clauses p =
    clause (codes "state") (listed state_words Space p.states)
    ++ names_clause (codes "input") p.inputs ++ names_clause (codes "sees") p.sees
    ++ noise_clause p.noise

abbrev pub plant_words : Gap → Plant → List Word
plant_words gap p =
    keyword gap (codes "plant") ∷ name Space p.name.name ∷ sign Space (codes "{") ∷ plant_clauses p
    ++ each next_clause p.next ++ closing

abbrev pub timing_words : Gap → Lit → Lit → List Word
timing_words gap period offset =
    keyword gap (codes "period") ∷ literal_words Space period
    ++ keyword Space (codes "offset") ∷ literal_words Space offset

abbrev pub local_name_words : Local → List Word
local_name_words l = name Space l.name.name ∷ sign Touching (codes ":") ∷ scalar_words l.scalar

abbrev pub local_clause : Local → List Word
local_clause l =
    clause (codes "local") (local_name_words l
    ++ sign Space (codes "=") ∷ constant_words Space l.init)

-- a node up to its opening brace
abbrev pub node_head_words : Gap → List ℕ → Node → List Word
node_head_words gap word n =
    keyword gap word ∷ name Space n.name.name ∷ timing_words Space n.period n.offset
    ++ sign Space (codes "{") ∷ []

abbrev pub node_clauses : Node → List Word
node_clauses n =
    names_clause (codes "reads") n.reads ++ names_clause (codes "writes") n.writes
    ++ each local_clause n.locals

abbrev pub do_clause : Block → List Word
do_clause b = keyword (Line 2) (codes "do") ∷ braced_words 2 (block_words b)

-- `external` for a node without a body
abbrev pub node_of : Gap → Node → Option Block → List Word
node_of gap n None = node_head_words gap (codes "external") n ++ node_clauses n ++ closing
node_of gap n (Some b) =
    node_head_words gap (codes "node") n ++ node_clauses n ++ do_clause b ++ closing

abbrev pub node_words : Gap → Node → List Word
node_words gap n = node_of gap n n.body

abbrev pub area_words : Area → List Word
area_words a =
    sign Space (codes "[") ∷ listed bounds_words Touching a.sides ++ sign Touching (codes "]") ∷ []

-- boxes with a bar before each but the first
abbrev pub bar : Bool → List Word
bar true = []
bar false = sign Space (codes "|") ∷ []

abbrev pub areas_from : Bool → List Area → List Word
areas_from first [] = []
areas_from first (a ∷ as_) = bar first ++ area_words a ++ areas_from false as_

abbrev pub region_words : List Area → List Word
region_words [] = keyword Space (codes "none") ∷ []
region_words (a ∷ as_) = areas_from true (a ∷ as_)

abbrev pub control_clauses : Module → List Word
control_clauses m =
    clause (codes "ac") (ident_words Space m.ac) ++ clause (codes "sc") (ident_words Space m.sc)
    ++ timing_words (Line 2) m.period m.offset ++ semicolon

abbrev pub region_clauses : Module → List Word
region_clauses m =
    clause (codes "plant") (ident_words Space m.plant)
    ++ clause (codes "safe") (region_words m.safe) ++ clause (codes "safer") (region_words m.safer)

abbrev pub module_words : Gap → Module → List Word
module_words gap m =
    keyword gap (codes "module") ∷ name Space m.name.name ∷ sign Space (codes "{") ∷ control_clauses
    m ++ region_clauses m ++ closing

abbrev pub declaration_words : Gap → Declaration → List Word
declaration_words gap (a_topic t) = topic_words gap t
declaration_words gap (a_plant p) = plant_words gap p
declaration_words gap (a_node n) = node_words gap n
declaration_words gap (a_module m) = module_words gap m

-- each on a line of its own; nothing stands before the first
abbrev pub own_line : Bool → Gap
own_line true = Touching
own_line false = Line 0

abbrev pub declarations_from : Bool → List Declaration → List Word
declarations_from first [] = []
declarations_from first (d ∷ ds) =
    declaration_words (own_line first) d ++ declarations_from false ds

-- all words of a program, in order
abbrev pub words : Program → List Word
words p = declarations_from true p.decls

abbrev pub canonical : Program → List ℕ
canonical p = text_of (words p)
