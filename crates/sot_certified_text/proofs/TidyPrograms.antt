-- The words of declarations and programs are tidy, so canonical texts are plain.
use Rattle.std.proofs.Common.{◌≡◌, ℕ, Bool, true, false, Option, None, Some, List, [], ◌∷◌, ◌++◌, codes, refl}
use Rattle.sot_text.specs.declared.token.Kind.TheVariants.{Name}
use Rattle.sot_text.specs.Lexeme.{IsTokenText}
use Rattle.sot_syntax_tree.specs.declared.tree.Ident.{Ident}
use Rattle.sot_syntax_tree.specs.declared.tree.Lit.{Lit}
use Rattle.sot_syntax_tree.specs.declared.tree.Field.{Field}
use Rattle.sot_syntax_tree.specs.declared.tree.StateDecl.{StateDecl}
use Rattle.sot_syntax_tree.specs.Trees.{Block, Form, one, fields, Start, one_value, values, Topic, Next, Local, Plant, Node, Area, Module, Declaration, a_topic}
use Rattle.sot_syntax_tree.specs.Trees.{a_plant, a_node, a_module}
use Rattle.sot_syntax_tree.specs.Formed.{Each, IsName, IfThere, AreBounds, IsField, IsConst, IsBlock, IsForm, IsStart, IsTopic, IsState, IsNext, IsPlant, IsLocal}
use Rattle.sot_syntax_tree.specs.Formed.{IsNode, IsArea, IsModule, IsDeclaration}
use Rattle.sot_print.specs.declared.gap.Gap.{Gap}
use Rattle.sot_print.specs.declared.gap.Gap.TheVariants.{Touching, Space, Line}
use Rattle.sot_print.specs.Words.{Word, keyword, sign, name, text_of}
use Rattle.sot_print.specs.Leaves.{literal_words, ident_words, constant_words, listed, bounds_words, scalar_words, field_words}
use Rattle.sot_print.specs.Expressions.{expression_words}
use Rattle.sot_print.specs.Statements.{semicolon, block_words}
use Rattle.sot_print.specs.Canonical.{clause, closing, shape_words, start_words, topic_head_words, topic_words, state_type_words, state_words, names_clause}
use Rattle.sot_print.specs.Canonical.{noise_clause, next_clause, each, plant_clauses, plant_words, timing_words, local_name_words, local_clause}
use Rattle.sot_print.specs.Canonical.{node_head_words, node_clauses, do_clause, node_of, area_words, bar, areas_from, region_words, control_clauses}
use Rattle.sot_print.specs.Canonical.{region_clauses, module_words, declaration_words, declarations_from, words}
use Rattle.sot_certified_text.specs.Plain.{CanonicalTextsArePlain}
use Rattle.sot_certified_text.proofs.Tidy.{is_tidy, Tidy, opens_plain, joined, then_word, plain_words, ended_words}
use Rattle.sot_certified_text.proofs.TidyLeaves.{literal_tidy, name_tidy, ident_tidy, constant_tidy, listed_tidy, bounds_tidy, fixed_tidy, scalar_tidy}
use Rattle.sot_certified_text.proofs.TidyLeaves.{field_tidy}
use Rattle.sot_certified_text.proofs.TidyStatements.{expression_tidy, braced_tidy, block_tidy}

-- a clause, after its word
clause_tidy : (word : List ℕ) (ws : List Word) → is_tidy (keyword (Line 2) word) ≡ true → Tidy ws → Tidy (clause word ws)
clause_tidy word ws own tidy = joined (keyword (Line 2) word ∷ ws) semicolon (then_word (keyword (Line 2) word) ws own tidy) refl

-- items in record braces
record_tidy : {A : Type 0} (item : Gap → A → List Word) (P : A → Type 0) → ((x : A) (gap : Gap) → P x → Tidy (item gap x)) → (xs : List A) → Each P xs
    → Tidy (sign Space (codes "{") ∷ listed item Touching xs ++ sign Touching (codes "}") ∷ [])
record_tidy item P tidy xs all =
    joined (sign Space (codes "{") ∷ listed item Touching xs) (sign Touching (codes "}") ∷ []) (listed_tidy item P tidy Touching xs all) refl

shape_tidy : (s : Form) → IsForm s → Tidy (shape_words s)
shape_tidy (one s) is = scalar_tidy s
shape_tidy (fields fs) is = record_tidy field_words IsField field_tidy fs is.1

start_tidy : (s : Start) → IsStart s → Tidy (start_words s)
start_tidy (one_value c) is = constant_tidy c Space
start_tidy (values cs at) is = record_tidy constant_words IsConst (λ c gap given. constant_tidy c gap) cs is.1

topic_head_tidy : (gap : Gap) (outside : Bool) → Tidy (topic_head_words gap outside)
topic_head_tidy gap true = refl
topic_head_tidy gap false = refl

topic_tidy : (t : Topic) (gap : Gap) → IsTopic t → Tidy (topic_words gap t)
topic_tidy t gap is =
    let head : List Word = topic_head_words gap t.outside in
    let type_ : List Word = name Space t.name.name ∷ sign Touching (codes ":") ∷ shape_words t.shape in
    let value : List Word = sign Space (codes "=") ∷ start_words t.init in
    joined ((head ++ type_) ++ value) semicolon
    (joined (head ++ type_) value
    (joined head type_ (topic_head_tidy gap t.outside) (then_word (name Space t.name.name) (sign Touching (codes ":") ∷ shape_words t.shape)
    (name_tidy Space t.name.name is.0) (shape_tidy t.shape is.1)))
    (start_tidy t.init is.2))
    refl

state_type_tidy : (scale : Option Lit) → Tidy (state_type_words scale)
state_type_tidy None = refl
state_type_tidy (Some scale) = fixed_tidy scale

state_tidy : (s : StateDecl) (gap : Gap) → IsState s → Tidy (state_words gap s)
state_tidy s gap is =
    then_word (name gap s.name.name) (sign Touching (codes ":") ∷ state_type_words s.scale) (name_tidy gap s.name.name is.0) (state_type_tidy s.scale)

names_tidy : (word : List ℕ) (is : List Ident) → is_tidy (keyword (Line 2) word) ≡ true → Each IsName is → Tidy (names_clause word is)
names_tidy word [] own all = refl
names_tidy word (i ∷ is) own all = clause_tidy word (listed ident_words Space (i ∷ is)) own (listed_tidy ident_words IsName ident_tidy Space (i ∷ is) all)

noise_tidy : (fs : List Field) → Each IsField fs → Tidy (noise_clause fs)
noise_tidy [] all = refl
noise_tidy (f ∷ fs) all = clause_tidy (codes "noise") (listed field_words Space (f ∷ fs)) refl (listed_tidy field_words IsField field_tidy Space (f ∷ fs) all)

next_tidy : (n : Next) → IsNext n → Tidy (next_clause n)
next_tidy n is =
    clause_tidy (codes "next") (name Space n.name.name ∷ sign Space (codes "=") ∷ expression_words n.value Space) refl
    (then_word (name Space n.name.name) (sign Space (codes "=") ∷ expression_words n.value Space) (name_tidy Space n.name.name is.0)
    (expression_tidy n.value is.1 Space))

each_tidy : {A : Type 0} (item : A → List Word) (P : A → Type 0) → ((x : A) → P x → Tidy (item x)) → (xs : List A) → Each P xs → Tidy (each item xs)
each_tidy item P tidy [] all = refl
each_tidy item P tidy (x ∷ xs) all = joined (item x) (each item xs) (tidy x all.0) (each_tidy item P tidy xs all.1)

plant_clauses_tidy : (p : Plant) → IsPlant p → Tidy (plant_clauses p)
plant_clauses_tidy p is =
    let states : List Word = clause (codes "state") (listed state_words Space p.states) in
    let inputs : List Word = names_clause (codes "input") p.inputs in
    let seen : List Word = names_clause (codes "sees") p.sees in
    joined ((states ++ inputs) ++ seen) (noise_clause p.noise)
    (joined (states ++ inputs) seen
    (joined states inputs (clause_tidy (codes "state") (listed state_words Space p.states) refl
    (listed_tidy state_words IsState state_tidy Space p.states is.states)) (names_tidy (codes "input") p.inputs refl is.inputs))
    (names_tidy (codes "sees") p.sees refl is.sees))
    (noise_tidy p.noise is.noise)

-- the word, the name and the brace that a plant or a module begins with
head_tidy : (word own : List ℕ) (ws : List Word) (gap : Gap) → is_tidy (keyword gap word) ≡ true → IsTokenText Name own → Tidy ws
    → Tidy (keyword gap word ∷ name Space own ∷ sign Space (codes "{") ∷ ws)
head_tidy word own ws gap key is tidy =
    then_word (keyword gap word) (name Space own ∷ sign Space (codes "{") ∷ ws) key
    (then_word (name Space own) (sign Space (codes "{") ∷ ws) (name_tidy Space own is) tidy)

plant_tidy : (p : Plant) (gap : Gap) → IsPlant p → Tidy (plant_words gap p)
plant_tidy p gap is =
    let head : List Word = keyword gap (codes "plant") ∷ name Space p.name.name ∷ sign Space (codes "{") ∷ plant_clauses p in
    joined (head ++ each next_clause p.next) closing
    (joined head (each next_clause p.next) (head_tidy (codes "plant") p.name.name (plant_clauses p) gap refl is.name (plant_clauses_tidy p is))
    (each_tidy next_clause IsNext next_tidy p.next is.next))
    refl

timing_tidy : (period offset : Lit) (gap : Gap) → Tidy (timing_words gap period offset)
timing_tidy period offset gap =
    joined (keyword gap (codes "period") ∷ literal_words Space period) (keyword Space (codes "offset") ∷ literal_words Space offset) (literal_tidy period Space)
    (literal_tidy offset Space)

local_tidy : (l : Local) → IsLocal l → Tidy (local_clause l)
local_tidy l is =
    clause_tidy (codes "local") (local_name_words l ++ sign Space (codes "=") ∷ constant_words Space l.init) refl
    (joined (local_name_words l) (sign Space (codes "=") ∷ constant_words Space l.init)
    (then_word (name Space l.name.name) (sign Touching (codes ":") ∷ scalar_words l.scalar) (name_tidy Space l.name.name is.0) (scalar_tidy l.scalar))
    (constant_tidy l.init Space))

node_head_tidy : (word : List ℕ) (n : Node) (gap : Gap) → is_tidy (keyword gap word) ≡ true → IsNode n → Tidy (node_head_words gap word n)
node_head_tidy word n gap key is =
    joined (keyword gap word ∷ name Space n.name.name ∷ timing_words Space n.period n.offset) (sign Space (codes "{") ∷ [])
    (then_word (keyword gap word) (name Space n.name.name ∷ timing_words Space n.period n.offset) key
    (then_word (name Space n.name.name) (timing_words Space n.period n.offset) (name_tidy Space n.name.name is.name) (timing_tidy n.period n.offset Space)))
    refl

node_clauses_tidy : (n : Node) → IsNode n → Tidy (node_clauses n)
node_clauses_tidy n is =
    joined (names_clause (codes "reads") n.reads ++ names_clause (codes "writes") n.writes) (each local_clause n.locals)
    (joined (names_clause (codes "reads") n.reads) (names_clause (codes "writes") n.writes) (names_tidy (codes "reads") n.reads refl is.reads)
    (names_tidy (codes "writes") n.writes refl is.writes))
    (each_tidy local_clause IsLocal local_tidy n.locals is.locals)

do_tidy : (b : Block) → IsBlock b → Tidy (do_clause b)
do_tidy b is = braced_tidy 2 (block_words b) (block_tidy b is)

node_of_tidy : (n : Node) (body : Option Block) (gap : Gap) → IsNode n → IfThere IsBlock body → Tidy (node_of gap n body)
node_of_tidy n None gap is body_is =
    joined (node_head_words gap (codes "external") n ++ node_clauses n) closing
    (joined (node_head_words gap (codes "external") n) (node_clauses n) (node_head_tidy (codes "external") n gap refl is) (node_clauses_tidy n is))
    refl
node_of_tidy n (Some b) gap is body_is =
    joined ((node_head_words gap (codes "node") n ++ node_clauses n) ++ do_clause b) closing
    (joined (node_head_words gap (codes "node") n ++ node_clauses n) (do_clause b)
    (joined (node_head_words gap (codes "node") n) (node_clauses n) (node_head_tidy (codes "node") n gap refl is) (node_clauses_tidy n is))
    (do_tidy b body_is))
    refl

area_tidy : (b : Area) → IsArea b → Tidy (area_words b)
area_tidy b is =
    joined (sign Space (codes "[") ∷ listed bounds_words Touching b.sides) (sign Touching (codes "]") ∷ [])
    (listed_tidy bounds_words AreBounds (λ x gap given. bounds_tidy x gap) Touching b.sides is.1) refl

bar_tidy : (first : Bool) → Tidy (bar first)
bar_tidy true = refl
bar_tidy false = refl

areas_tidy : (first : Bool) (bs : List Area) → Each IsArea bs → Tidy (areas_from first bs)
areas_tidy first [] all = refl
areas_tidy first (b ∷ bs) all =
    joined (bar first ++ area_words b) (areas_from false bs) (joined (bar first) (area_words b) (bar_tidy first) (area_tidy b all.0))
    (areas_tidy false bs all.1)

region_tidy : (bs : List Area) → Each IsArea bs → Tidy (region_words bs)
region_tidy [] all = refl
region_tidy (b ∷ bs) all = areas_tidy true (b ∷ bs) all

-- a clause of one name
one_tidy : (word : List ℕ) (i : Ident) → is_tidy (keyword (Line 2) word) ≡ true → IsName i → Tidy (clause word (ident_words Space i))
one_tidy word i own is = clause_tidy word (ident_words Space i) own (ident_tidy i Space is)

control_tidy : (m : Module) → IsModule m → Tidy (control_clauses m)
control_tidy m is =
    let ac_ : List Word = clause (codes "ac") (ident_words Space m.ac) in
    let sc_ : List Word = clause (codes "sc") (ident_words Space m.sc) in
    let times : List Word = timing_words (Line 2) m.period m.offset in
    joined ((ac_ ++ sc_) ++ times) semicolon
    (joined (ac_ ++ sc_) times (joined ac_ sc_ (one_tidy (codes "ac") m.ac refl is.ac) (one_tidy (codes "sc") m.sc refl is.sc))
    (timing_tidy m.period m.offset (Line 2)))
    refl

region_clauses_tidy : (m : Module) → IsModule m → Tidy (region_clauses m)
region_clauses_tidy m is =
    let plant_ : List Word = clause (codes "plant") (ident_words Space m.plant) in
    let safe_ : List Word = clause (codes "safe") (region_words m.safe) in
    joined (plant_ ++ safe_) (clause (codes "safer") (region_words m.safer))
    (joined plant_ safe_ (one_tidy (codes "plant") m.plant refl is.plant) (clause_tidy (codes "safe") (region_words m.safe) refl (region_tidy m.safe is.safe)))
    (clause_tidy (codes "safer") (region_words m.safer) refl (region_tidy m.safer is.safer))

module_tidy : (m : Module) (gap : Gap) → IsModule m → Tidy (module_words gap m)
module_tidy m gap is =
    let head : List Word = keyword gap (codes "module") ∷ name Space m.name.name ∷ sign Space (codes "{") ∷ control_clauses m in
    joined (head ++ region_clauses m) closing
    (joined head (region_clauses m) (head_tidy (codes "module") m.name.name (control_clauses m) gap refl is.name (control_tidy m is))
    (region_clauses_tidy m is))
    refl

declaration_tidy : (d : Declaration) (gap : Gap) → IsDeclaration d → Tidy (declaration_words gap d)
declaration_tidy (a_topic t) gap is = topic_tidy t gap is
declaration_tidy (a_plant p) gap is = plant_tidy p gap is
declaration_tidy (a_node n) gap is = node_of_tidy n n.body gap is is.body
declaration_tidy (a_module m) gap is = module_tidy m gap is

declarations_tidy : (first : Bool) (ds : List Declaration) → Each IsDeclaration ds → Tidy (declarations_from first ds)
declarations_tidy first [] all = refl
declarations_tidy true (d ∷ ds) all =
    joined (declaration_words Touching d) (declarations_from false ds) (declaration_tidy d Touching all.0) (declarations_tidy false ds all.1)
declarations_tidy false (d ∷ ds) all =
    joined (declaration_words (Line 0) d) (declarations_from false ds) (declaration_tidy d (Line 0) all.0) (declarations_tidy false ds all.1)

-- a program's text begins with a keyword

topic_opens : (outside : Bool) (a b c d : List Word) → opens_plain (text_of ((((topic_head_words Touching outside ++ a) ++ b) ++ c) ++ d)) ≡ true
topic_opens true a b c d = refl
topic_opens false a b c d = refl

node_opens : (n : Node) (body : Option Block) (ws : List Word) → opens_plain (text_of (node_of Touching n body ++ ws)) ≡ true
node_opens n None ws = refl
node_opens n (Some b) ws = refl

program_opens : (ds : List Declaration) → opens_plain (text_of (declarations_from true ds)) ≡ true
program_opens [] = refl
program_opens (a_topic t ∷ ds) =
    topic_opens t.outside (name Space t.name.name ∷ sign Touching (codes ":") ∷ shape_words t.shape) (sign Space (codes "=") ∷ start_words t.init) semicolon
    (declarations_from false ds)
program_opens (a_plant p ∷ ds) = refl
program_opens (a_node n ∷ ds) = node_opens n n.body (declarations_from false ds)
program_opens (a_module m ∷ ds) = refl

pub canonical_plain : CanonicalTextsArePlain
canonical_plain p is = (ended_words (words p), plain_words (words p) (declarations_tidy true p.decls is) (program_opens p.decls))
