-- Programs that are the same have the same words: no word tells a place.
use Rattle.std.proofs.Common.{◌≡◌, ℕ, ◌+◌, List, [], ◌∷◌, ◌++◌, map, Bool, true, false, cond, Option, None, Some, codes, refl, sym, ap, ap₂, ◌∙◌}
use Rattle.std.specs.Option.{option_map}
use Rattle.sot_syntax_tree.specs.declared.tree.Ident.{Ident}
use Rattle.sot_syntax_tree.specs.declared.tree.Lit.{Lit}
use Rattle.sot_syntax_tree.specs.declared.tree.Scalar.{Scalar}
use Rattle.sot_syntax_tree.specs.declared.tree.Scalar.TheVariants.{Int, Fix, Bool as Truths}
use Rattle.sot_syntax_tree.specs.declared.tree.Field.{Field}
use Rattle.sot_syntax_tree.specs.declared.tree.Const.{Const}
use Rattle.sot_syntax_tree.specs.declared.tree.Const.TheVariants.{Number, Truth}
use Rattle.sot_syntax_tree.specs.declared.tree.StateDecl.{StateDecl}
use Rattle.sot_syntax_tree.specs.Trees.{Tree, Trees, number, truth, named, binary, rest, negated, denied, called, rescaled, chosen, no_tree, one_more, Statement}
use Rattle.sot_syntax_tree.specs.Trees.{Block, assigned, published, branched, repeated, no_statement, statement, Form, one, fields, Start, one_value, values, Topic}
use Rattle.sot_syntax_tree.specs.Trees.{Next, Local, Plant, Node, Area, Module, Declaration, a_topic, a_plant, a_node, a_module, Program}
use Rattle.sot_print.specs.declared.gap.Gap.{Gap}
use Rattle.sot_print.specs.declared.gap.Gap.TheVariants.{Touching, Space, Line}
use Rattle.sot_print.specs.Words.{Word, keyword, sign, name, text_of}
use Rattle.sot_print.specs.Leaves.{literal_words, ident_words, reference_words, constant_words, items_from, bounds_words, scalar_words, field_words}
use Rattle.sot_print.specs.Expressions.{operator, function_name, is_plain, operand_words, expression_words, parts_from}
use Rattle.sot_print.specs.Statements.{semicolon, otherwise_words, statement_words, block_words}
use Rattle.sot_print.specs.Canonical.{clause, closing, shape_words, start_words, topic_head_words, topic_words, state_type_words, state_words, names_clause}
use Rattle.sot_print.specs.Canonical.{noise_clause, next_clause, each, plant_clauses, plant_words, local_clause, node_head_words, node_clauses, node_of}
use Rattle.sot_print.specs.Canonical.{area_words, bar, areas_from, region_words, control_clauses, module_words, declaration_words, own_line, declarations_from}
use Rattle.sot_print.specs.Canonical.{canonical}
use Rattle.sot_law_print_parse.specs.Unplaced.{unplaced_name, unplaced_literal, unplaced_bounds, unplaced_scalar, unplaced_field, unplaced_const, unplaced_tree}
use Rattle.sot_law_print_parse.specs.Unplaced.{unplaced_trees, unplaced_statement, unplaced_block, unplaced_shape, unplaced_start, unplaced_topic, unplaced_state}
use Rattle.sot_law_print_parse.specs.Unplaced.{unplaced_next, unplaced_local, unplaced_plant, unplaced_node, unplaced_area, unplaced_module, unplaced_declaration}
use Rattle.sot_law_print_parse.specs.Unplaced.{without_places, AreSame}
use Rattle.sot_law_print_parse.proofs.Kept.{also}

-- lists
items_same : {A : Type 0} (item : Gap → A → List Word) (bare : A → A) → ((g : Gap) (x : A) → item g (bare x) ≡ item g x)
    → (gap : Gap) (first : Bool) (xs : List A) → items_from item gap first (map bare xs) ≡ items_from item gap first xs
items_same item bare same gap first [] = refl
items_same item bare same gap true (x ∷ xs) = ap₂ (λ a b. a ++ b) (same gap x) (items_same item bare same gap false xs)
items_same item bare same gap false (x ∷ xs) = ap₂ (λ a b. sign Touching (codes ",") ∷ a ++ b) (same Space x) (items_same item bare same gap false xs)

each_same : {A : Type 0} (item : A → List Word) (bare : A → A) → ((x : A) → item (bare x) ≡ item x) → (xs : List A) → each item (map bare xs) ≡ each item xs
each_same item bare same [] = refl
each_same item bare same (x ∷ xs) = ap₂ (λ a b. a ++ b) (same x) (each_same item bare same xs)

-- leaves
scalar_same : (s : Scalar) → scalar_words (unplaced_scalar s) ≡ scalar_words s
scalar_same (Int b) = refl
scalar_same (Fix scale b) = refl
scalar_same (Truths at) = refl

field_same : (g : Gap) (f : Field) → field_words g (unplaced_field f) ≡ field_words g f
field_same g f = ap (λ ws. name g f.name.name ∷ sign Touching (codes ":") ∷ ws) (scalar_same f.scalar)

constant_same : (g : Gap) (c : Const) → constant_words g (unplaced_const c) ≡ constant_words g c
constant_same g (Number l) = refl
constant_same g (Truth value at) = refl

reference_same : (g : Gap) (first : Ident) (field : Option Ident)
    → reference_words g (unplaced_name first) (option_map unplaced_name field) ≡ reference_words g first field
reference_same g first None = refl
reference_same g first (Some f) = refl

-- expressions
plain_same : (e : Tree) → is_plain (unplaced_tree e) ≡ is_plain e
plain_same (number l) = refl
plain_same (truth value at) = refl
plain_same (named first field) = refl
plain_same (binary op left right at) = refl
plain_same (rest left by at) = refl
plain_same (negated part at) = refl
plain_same (denied part at) = refl
plain_same (called func parts at) = refl
plain_same (rescaled part to at) = refl
plain_same (chosen cond_ yes_ no_ at) = refl

operand_same : (e : Tree) (gap : Gap) → ((g : Gap) → expression_words (unplaced_tree e) g ≡ expression_words e g)
    → operand_words (unplaced_tree e) gap (expression_words (unplaced_tree e)) ≡ operand_words e gap (expression_words e)
operand_same e gap same =
    ap (λ b. cond b (expression_words (unplaced_tree e) gap)
    (sign gap (codes "(") ∷ expression_words (unplaced_tree e) Touching ++ sign Touching (codes ")") ∷ [])) (plain_same e)
    ∙ ap₂ (λ a b. cond (is_plain e) a (sign gap (codes "(") ∷ b ++ sign Touching (codes ")") ∷ [])) (same gap) (same Touching)

mutual
  tree_same : (e : Tree) (g : Gap) → expression_words (unplaced_tree e) g ≡ expression_words e g
  tree_same (number l) g = refl
  tree_same (truth value at) g = refl
  tree_same (named first field) g = reference_same g first field
  tree_same (binary op left right at) g = ap₂ (λ a b. a ++ operator op ∷ b) (operand_same left g (tree_same left)) (operand_same right Space (tree_same right))
  tree_same (rest left by at) g = ap (λ a. a ++ sign Space (codes "%") ∷ literal_words Space by) (operand_same left g (tree_same left))
  tree_same (negated part at) g = ap (λ a. sign g (codes "-") ∷ sign Touching (codes "(") ∷ a ++ sign Touching (codes ")") ∷ []) (tree_same part Touching)
  tree_same (denied part at) g = ap (λ a. keyword g (codes "not") ∷ sign Space (codes "(") ∷ a ++ sign Touching (codes ")") ∷ []) (tree_same part Touching)
  tree_same (called func parts at) g =
      ap (λ a. keyword g (function_name func) ∷ sign Touching (codes "(") ∷ a ++ sign Touching (codes ")") ∷ []) (parts_same parts true)
  tree_same (rescaled part to at) g =
      ap (λ a. keyword g (codes "rescale") ∷ sign Touching (codes "(") ∷ a ++ sign Touching (codes ",") ∷ literal_words Space to
      ++ sign Touching (codes ")") ∷ []) (tree_same part Touching)
  tree_same (chosen cond_ yes_ no_ at) g =
      also (ap₂ (λ a b c. keyword g (codes "if") ∷ a ++ keyword Space (codes "then") ∷ b ++ keyword Space (codes "else") ∷ c)
      (operand_same cond_ Space (tree_same cond_)) (operand_same yes_ Space (tree_same yes_))) (operand_same no_ Space (tree_same no_))

  parts_same : (es : Trees) (first : Bool) → parts_from first (unplaced_trees es) ≡ parts_from first es
  parts_same no_tree first = refl
  parts_same (one_more e rest_) true = ap₂ (λ a b. a ++ b) (tree_same e Touching) (parts_same rest_ false)
  parts_same (one_more e rest_) false = ap₂ (λ a b. sign Touching (codes ",") ∷ a ++ b) (tree_same e Space) (parts_same rest_ false)

-- statements
otherwise_same : (b : Block) (indent : ℕ) → ((i : ℕ) → block_words (unplaced_block b) i ≡ block_words b i)
    → otherwise_words (unplaced_block b) indent (block_words (unplaced_block b)) ≡ otherwise_words b indent (block_words b)
otherwise_same no_statement indent same = refl
otherwise_same (statement s rest_) indent same =
    ap (λ a. keyword Space (codes "else") ∷ sign Space (codes "{") ∷ a ++ sign (Line indent) (codes "}") ∷ []) (same (indent + 2))

mutual
  statement_same : (s : Statement) (indent : ℕ) → statement_words (unplaced_statement s) indent ≡ statement_words s indent
  statement_same (assigned target value) indent = ap (λ a. name (Line indent) target.name ∷ sign Space (codes ":=") ∷ a ++ semicolon) (tree_same value Space)
  statement_same (published topic field value) indent =
      ap₂ (λ a b. keyword (Line indent) (codes "publish") ∷ a ++ sign Space (codes "=") ∷ b ++ semicolon) (reference_same Space topic field)
      (tree_same value Space)
  statement_same (branched cond_ yes_ no_ at) indent =
      also (ap₂ (λ a b c. keyword (Line indent) (codes "if") ∷ a ++ (sign Space (codes "{") ∷ b ++ sign (Line indent) (codes "}") ∷ []) ++ c)
      (tree_same cond_ Space) (block_same yes_ (indent + 2))) (otherwise_same no_ indent (block_same no_))
  statement_same (repeated times body at) indent =
      ap (λ a. keyword (Line indent) (codes "repeat") ∷ literal_words Space times ++ (sign Space (codes "{") ∷ a ++ sign (Line indent) (codes "}") ∷ []))
      (block_same body (indent + 2))

  block_same : (b : Block) (indent : ℕ) → block_words (unplaced_block b) indent ≡ block_words b indent
  block_same no_statement indent = refl
  block_same (statement s rest_) indent = ap₂ (λ a b. a ++ b) (statement_same s indent) (block_same rest_ indent)

-- the parts of declarations
shape_same : (s : Form) → shape_words (unplaced_shape s) ≡ shape_words s
shape_same (one s) = scalar_same s
shape_same (fields fs) =
    ap (λ a. sign Space (codes "{") ∷ a ++ sign Touching (codes "}") ∷ []) (items_same field_words unplaced_field field_same Touching true fs)

start_same : (s : Start) → start_words (unplaced_start s) ≡ start_words s
start_same (one_value c) = constant_same Space c
start_same (values cs at) =
    ap (λ a. sign Space (codes "{") ∷ a ++ sign Touching (codes "}") ∷ []) (items_same constant_words unplaced_const constant_same Touching true cs)

names_same : (word : List ℕ) (is : List Ident) → names_clause word (map unplaced_name is) ≡ names_clause word is
names_same word [] = refl
names_same word (i ∷ is) = ap (clause word) (items_same ident_words unplaced_name (λ g x. refl) Space true (i ∷ is))

noise_same : (fs : List Field) → noise_clause (map unplaced_field fs) ≡ noise_clause fs
noise_same [] = refl
noise_same (f ∷ fs) = ap (clause (codes "noise")) (items_same field_words unplaced_field field_same Space true (f ∷ fs))

state_same : (g : Gap) (s : StateDecl) → state_words g (unplaced_state s) ≡ state_words g s
state_same g s = ap (λ ws. name g s.name.name ∷ sign Touching (codes ":") ∷ ws) (type_same s.scale)
  where
    type_same : (scale : Option Lit) → state_type_words (option_map unplaced_literal scale) ≡ state_type_words scale
    type_same None = refl
    type_same (Some l) = refl

next_same : (n : Next) → next_clause (unplaced_next n) ≡ next_clause n
next_same n = ap (λ a. clause (codes "next") (name Space n.name.name ∷ sign Space (codes "=") ∷ a)) (tree_same n.value Space)

local_same : (l : Local) → local_clause (unplaced_local l) ≡ local_clause l
local_same l =
    ap₂ (λ a b. clause (codes "local") ((name Space l.name.name ∷ sign Touching (codes ":") ∷ a) ++ sign Space (codes "=") ∷ b)) (scalar_same l.scalar)
    (constant_same Space l.init)

area_same : (a : Area) → area_words (unplaced_area a) ≡ area_words a
area_same a =
    ap (λ ws. sign Space (codes "[") ∷ ws ++ sign Touching (codes "]") ∷ []) (items_same bounds_words unplaced_bounds (λ g x. refl) Touching true a.sides)

areas_same : (first : Bool) (as_ : List Area) → areas_from first (map unplaced_area as_) ≡ areas_from first as_
areas_same first [] = refl
areas_same first (a ∷ as_) = ap₂ (λ x y. bar first ++ x ++ y) (area_same a) (areas_same false as_)

region_same : (as_ : List Area) → region_words (map unplaced_area as_) ≡ region_words as_
region_same [] = refl
region_same (a ∷ as_) = areas_same true (a ∷ as_)

-- declarations
topic_same : (g : Gap) (t : Topic) → topic_words g (unplaced_topic t) ≡ topic_words g t
topic_same g t =
    ap₂ (λ a b. topic_head_words g t.outside ++ name Space t.name.name ∷ sign Touching (codes ":") ∷ a ++ sign Space (codes "=") ∷ b ++ semicolon)
    (shape_same t.shape) (start_same t.init)

plant_same : (g : Gap) (p : Plant) → plant_words g (unplaced_plant p) ≡ plant_words g p
plant_same g p =
    let clauses : plant_clauses (unplaced_plant p) ≡ plant_clauses p =
    also (also (ap₂ (λ a b c d. a ++ b ++ c ++ d) (ap (clause (codes "state")) (items_same state_words unplaced_state state_same Space true p.states))
    (names_same (codes "input") p.inputs))
    (names_same (codes "sees") p.sees)) (noise_same p.noise) in
    ap₂ (λ a b. keyword g (codes "plant") ∷ name Space p.name.name ∷ sign Space (codes "{") ∷ a ++ b ++ closing) clauses
    (each_same next_clause unplaced_next next_same p.next)

clauses_same : (n : Node) → node_clauses (unplaced_node n) ≡ node_clauses n
clauses_same n =
    also (ap₂ (λ a b c. a ++ b ++ c) (names_same (codes "reads") n.reads) (names_same (codes "writes") n.writes))
    (each_same local_clause unplaced_local local_same n.locals)

node_same_of : (g : Gap) (n : Node) (body : Option Block) → node_of g (unplaced_node n) (option_map unplaced_block body) ≡ node_of g n body
node_same_of g n None = ap (λ a. node_head_words g (codes "external") n ++ a ++ closing) (clauses_same n)
node_same_of g n (Some b) =
    ap₂ (λ a c. node_head_words g (codes "node") n ++ a ++ (keyword (Line 2) (codes "do") ∷ sign Space (codes "{") ∷ c ++ sign (Line 2) (codes "}") ∷ [])
    ++ closing)
    (clauses_same n) (block_same b (2 + 2))

module_same : (g : Gap) (m : Module) → module_words g (unplaced_module m) ≡ module_words g m
module_same g m =
    ap₂ (λ a b. keyword g (codes "module") ∷ name Space m.name.name ∷ sign Space (codes "{") ∷ control_clauses m
    ++ (clause (codes "plant") (ident_words Space m.plant) ++ clause (codes "safe") a ++ clause (codes "safer") b) ++ closing) (region_same m.safe)
    (region_same m.safer)

declaration_same : (g : Gap) (d : Declaration) → declaration_words g (unplaced_declaration d) ≡ declaration_words g d
declaration_same g (a_topic t) = topic_same g t
declaration_same g (a_plant p) = plant_same g p
declaration_same g (a_node n) = node_same_of g n n.body
declaration_same g (a_module m) = module_same g m

declarations_same : (first : Bool) (ds : List Declaration) → declarations_from first (map unplaced_declaration ds) ≡ declarations_from first ds
declarations_same first [] = refl
declarations_same first (d ∷ ds) = ap₂ (λ a b. a ++ b) (declaration_same (own_line first) d) (declarations_same false ds)

canonical_same : (p : Program) → canonical (without_places p) ≡ canonical p
canonical_same p = ap text_of (declarations_same true p.decls)

pub one_text : (p q : Program) → AreSame p q → canonical p ≡ canonical q
one_text p q same = sym (canonical_same p) ∙ ap canonical same ∙ canonical_same q
