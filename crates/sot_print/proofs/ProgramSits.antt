-- The words of declarations and programs are tokens that may follow one another.
use Rattle.std.proofs.Common.{ℕ, Bool, true, false, Option, None, Some, List, [], ◌∷◌, ◌++◌, append-nil, codes, refl, subst}
use Rattle.sot_text.specs.declared.token.Kind.TheVariants.{Name, Keyword}
use Rattle.sot_text.specs.Lexeme.{IsTokenText}
use Rattle.sot_syntax_tree.specs.declared.tree.Ident.{Ident}
use Rattle.sot_syntax_tree.specs.declared.tree.Lit.{Lit}
use Rattle.sot_syntax_tree.specs.declared.tree.Field.{Field}
use Rattle.sot_syntax_tree.specs.declared.tree.StateDecl.{StateDecl}
use Rattle.sot_syntax_tree.specs.Trees.{Block, Form, one, fields, Start, one_value, values, Topic, Next, Local, Plant, Node, Area, Module, Declaration, a_topic}
use Rattle.sot_syntax_tree.specs.Trees.{a_plant, a_node, a_module, Program}
use Rattle.sot_print.specs.declared.gap.Gap.{Gap}
use Rattle.sot_print.specs.declared.gap.Gap.TheVariants.{Touching, Space, Line}
use Rattle.sot_print.specs.Words.{Word, keyword, sign, name}
use Rattle.sot_print.specs.Leaves.{literal_words, ident_words, constant_words, listed, bounds_words, scalar_words, field_words}
use Rattle.sot_print.specs.Expressions.{expression_words}
use Rattle.sot_print.specs.Statements.{semicolon, block_words}
use Rattle.sot_print.specs.Canonical.{clause, closing, shape_words, start_words, topic_head_words, topic_words, state_type_words, state_words, names_clause}
use Rattle.sot_print.specs.Canonical.{noise_clause, next_clause, each, plant_clauses, plant_words, timing_words, local_name_words, local_clause}
use Rattle.sot_print.specs.Canonical.{node_head_words, node_clauses, do_clause, node_of, area_words, bar, areas_from, region_words, control_clauses}
use Rattle.sot_print.specs.Canonical.{region_clauses, module_words, declaration_words, declarations_from, words, canonical}
use Rattle.sot_print.specs.Layout.{Reads}
use Rattle.sot_syntax_tree.specs.Formed.{Each, IsName, IsLiteral, IsNumber, IfThere, AreBounds, IsField, IsConst, IsBlock, IsForm, IsStart, IsTopic, IsState, IsNext}
use Rattle.sot_syntax_tree.specs.Formed.{IsPlant, IsLocal, IsNode, IsArea, IsModule, IsDeclaration, IsFormed}
use Rattle.sot_print.proofs.Sits.{IsTok, Follows, Sits, SitsAnywhere, Enters, spaced, lined, ended, then_word, joined, choice, sign_token, closes, opens}
use Rattle.sot_print.proofs.Sits.{round_ends, square_ends, brace_ends, follows_parted}
use Rattle.sot_print.proofs.LeafSits.{literal_sits, ident_sits, constant_sits, listed_sits, bounds_sits, fixed_sits, scalar_sits, field_sits}
use Rattle.sot_print.proofs.ExpressionSits.{expression_sits}
use Rattle.sot_print.proofs.StatementSits.{semicolon_sits, braced_sits, block_sits}
use Rattle.sot_print.proofs.ReadBack.{words_read}

clause_sits : (word : List ℕ) (ws : List Word) → IsTokenText Keyword word → SitsAnywhere ws → SitsAnywhere (clause word ws)
clause_sits word ws is sits = λ v tok. joined (keyword (Line 2) word ∷ ws) semicolon (then_word is tt (sits (keyword (Line 2) word) is)) semicolon_sits

closing_sits : SitsAnywhere closing
closing_sits = λ v tok. let end : IsTok (sign (Line 0) (codes "}")) = sign_token (codes "}") refl in then_word end tt (ended (sign (Line 0) (codes "}")) end)

-- items behind a space
spread : {A : Type 0} (item : Gap → A → List Word) (P : A → Type 0) → ((x : A) (a : Word) (gap : Gap) → P x → Enters a gap → Sits a (item gap x))
    → (xs : List A) → Each P xs → SitsAnywhere (listed item Space xs)
spread item P sits xs all = λ v tok. listed_sits item P sits xs v Space tok all (spaced v)

-- items in record braces
record_sits : {A : Type 0} (item : Gap → A → List Word) (P : A → Type 0) → ((x : A) (a : Word) (gap : Gap) → P x → Enters a gap → Sits a (item gap x))
    → (xs : List A) → Each P xs
    → SitsAnywhere (sign Space (codes "{") ∷ listed item Touching xs ++ sign Touching (codes "}") ∷ [])
record_sits item P sits xs all = λ v tok.
    let brace : IsTok (sign Space (codes "{")) = sign_token (codes "{") refl in
    joined (sign Space (codes "{") ∷ listed item Touching xs) (sign Touching (codes "}") ∷ [])
    (then_word brace tt (listed_sits item P sits xs (sign Space (codes "{")) Touching brace all (opens Space (codes "{") refl brace_ends)))
    (closes (codes "}") [] refl refl (ended (sign Touching (codes "}")) (sign_token (codes "}") refl)))

shape_sits : (s : Form) → IsForm s → SitsAnywhere (shape_words s)
shape_sits (one s) is = λ v tok. scalar_sits s v is
shape_sits (fields fs) is = record_sits field_words IsField field_sits fs is.1

start_sits : (s : Start) → IsStart s → SitsAnywhere (start_words s)
start_sits (one_value c) is = λ v tok. constant_sits c v Space is (spaced v)
start_sits (values cs at) is = record_sits constant_words IsConst constant_sits cs is.1

topic_head_sits : (gap : Gap) (outside : Bool) (a : Word) → Enters a gap → Sits a (topic_head_words gap outside)
topic_head_sits gap outside a enters =
    choice outside (keyword gap (codes "environment") ∷ keyword Space (codes "topic") ∷ []) (keyword gap (codes "topic") ∷ [])
    (then_word refl (enters (keyword gap (codes "environment")) refl) (then_word refl tt (ended (keyword Space (codes "topic")) refl)))
    (then_word refl (enters (keyword gap (codes "topic")) refl) (ended (keyword gap (codes "topic")) refl))

topic_sits : (t : Topic) (a : Word) (gap : Gap) → IsTopic t → Enters a gap → Sits a (topic_words gap t)
topic_sits t a gap is enters =
    let head : List Word = topic_head_words gap t.outside in
    let type_ : List Word = name Space t.name.name ∷ sign Touching (codes ":") ∷ shape_words t.shape in
    let value : List Word = sign Space (codes "=") ∷ start_words t.init in
    joined ((head ++ type_) ++ value) semicolon
    (joined (head ++ type_) value
    (joined head type_ (topic_head_sits gap t.outside a enters)
    (λ v tok. then_word is.0 tt (closes (codes ":") (shape_words t.shape) refl refl
    (shape_sits t.shape is.1 (sign Touching (codes ":")) (sign_token (codes ":") refl)) (name Space t.name.name) is.0)))
    (λ v tok. then_word (sign_token (codes "=") refl) tt (start_sits t.init is.2 (sign Space (codes "=")) (sign_token (codes "=") refl))))
    semicolon_sits

state_type_sits : (scale : Option Lit) (a : Word) → IfThere IsNumber scale → Sits a (state_type_words scale)
state_type_sits None a is = then_word refl tt (ended (keyword Space (codes "int")) refl)
state_type_sits (Some scale) a is = fixed_sits scale a is.0

state_sits : (s : StateDecl) (a : Word) (gap : Gap) → IsState s → Enters a gap → Sits a (state_words gap s)
state_sits s a gap is enters =
    then_word is.0 (enters (name gap s.name.name) is.0)
    (closes (codes ":") (state_type_words s.scale) refl refl (state_type_sits s.scale (sign Touching (codes ":")) is.1) (name gap s.name.name) is.0)

names_sits : (word : List ℕ) (is : List Ident) → IsTokenText Keyword word → Each IsName is → SitsAnywhere (names_clause word is)
names_sits word [] key all = ended
names_sits word (i ∷ is) key all = clause_sits word (listed ident_words Space (i ∷ is)) key (spread ident_words IsName ident_sits (i ∷ is) all)

noise_sits : (fs : List Field) → Each IsField fs → SitsAnywhere (noise_clause fs)
noise_sits [] all = ended
noise_sits (f ∷ fs) all = clause_sits (codes "noise") (listed field_words Space (f ∷ fs)) refl (spread field_words IsField field_sits (f ∷ fs) all)

next_sits : (n : Next) → IsNext n → SitsAnywhere (next_clause n)
next_sits n is =
    clause_sits (codes "next") (name Space n.name.name ∷ sign Space (codes "=") ∷ expression_words n.value Space) refl
    (λ v tok. then_word is.0 tt (then_word (sign_token (codes "=") refl) tt
    (expression_sits n.value is.1 (sign Space (codes "=")) Space (spaced (sign Space (codes "="))))))

each_sits : {A : Type 0} (item : A → List Word) (P : A → Type 0) → ((x : A) → P x → SitsAnywhere (item x)) → (xs : List A) → Each P xs
    → SitsAnywhere (each item xs)
each_sits item P sits [] all = ended
each_sits item P sits (x ∷ xs) all = λ v tok. joined (item x) (each item xs) (sits x all.0 v tok) (each_sits item P sits xs all.1)

plant_clauses_sit : (p : Plant) → IsPlant p → SitsAnywhere (plant_clauses p)
plant_clauses_sit p is = λ v tok.
    let states : List Word = clause (codes "state") (listed state_words Space p.states) in
    let inputs : List Word = names_clause (codes "input") p.inputs in
    let seen : List Word = names_clause (codes "sees") p.sees in
    joined ((states ++ inputs) ++ seen) (noise_clause p.noise)
    (joined (states ++ inputs) seen
    (joined states inputs (clause_sits (codes "state") (listed state_words Space p.states) refl (spread state_words IsState state_sits p.states is.states) v
    tok) (names_sits (codes "input") p.inputs refl is.inputs))
    (names_sits (codes "sees") p.sees refl is.sees))
    (noise_sits p.noise is.noise)

-- the word, the name and the brace that a plant or a module begins with
head_sits : (word own : List ℕ) (ws : List Word) (a : Word) (gap : Gap) → IsTokenText Keyword word → IsTokenText Name own → SitsAnywhere ws → Enters a gap
    → Sits a (keyword gap word ∷ name Space own ∷ sign Space (codes "{") ∷ ws)
head_sits word own ws a gap key is sits enters =
    then_word key (enters (keyword gap word) key) (then_word is tt
    (then_word (sign_token (codes "{") refl) tt (sits (sign Space (codes "{")) (sign_token (codes "{") refl))))

plant_sits : (p : Plant) (a : Word) (gap : Gap) → IsPlant p → Enters a gap → Sits a (plant_words gap p)
plant_sits p a gap is enters =
    let head : List Word = keyword gap (codes "plant") ∷ name Space p.name.name ∷ sign Space (codes "{") ∷ plant_clauses p in
    joined (head ++ each next_clause p.next) closing
    (joined head (each next_clause p.next) (head_sits (codes "plant") p.name.name (plant_clauses p) a gap refl is.name (plant_clauses_sit p is) enters)
    (each_sits next_clause IsNext next_sits p.next is.next))
    closing_sits

timing_sits : (period offset : Lit) (a : Word) (gap : Gap) → IsLiteral period → IsLiteral offset → Enters a gap → Sits a (timing_words gap period offset)
timing_sits period offset a gap period_is offset_is enters =
    joined (keyword gap (codes "period") ∷ literal_words Space period) (keyword Space (codes "offset") ∷ literal_words Space offset)
    (then_word refl (enters (keyword gap (codes "period")) refl)
    (literal_sits period (keyword gap (codes "period")) Space period_is (spaced (keyword gap (codes "period")))))
    (λ v tok. then_word refl tt (literal_sits offset (keyword Space (codes "offset")) Space offset_is (spaced (keyword Space (codes "offset")))))

local_name_sits : (l : Local) → IsLocal l → SitsAnywhere (local_name_words l)
local_name_sits l is =
    λ v tok. then_word is.0 tt (closes (codes ":") (scalar_words l.scalar) refl refl (scalar_sits l.scalar (sign Touching (codes ":")) is.1)
    (name Space l.name.name) is.0)

local_sits : (l : Local) → IsLocal l → SitsAnywhere (local_clause l)
local_sits l is =
    clause_sits (codes "local") (local_name_words l ++ sign Space (codes "=") ∷ constant_words Space l.init) refl
    (λ v tok. joined (local_name_words l) (sign Space (codes "=") ∷ constant_words Space l.init) (local_name_sits l is v tok)
    (λ u is_tok. then_word (sign_token (codes "=") refl) tt (constant_sits l.init (sign Space (codes "=")) Space is.2 (spaced (sign Space (codes "="))))))

node_head_sits : (word : List ℕ) (n : Node) (a : Word) (gap : Gap) → IsTokenText Keyword word → IsNode n → Enters a gap → Sits a (node_head_words gap word n)
node_head_sits word n a gap key is enters =
    joined (keyword gap word ∷ name Space n.name.name ∷ timing_words Space n.period n.offset) (sign Space (codes "{") ∷ [])
    (then_word key (enters (keyword gap word) key) (then_word is.name tt
    (timing_sits n.period n.offset (name Space n.name.name) Space is.period.0 is.offset.0 (spaced (name Space n.name.name)))))
    (λ v tok. then_word (sign_token (codes "{") refl) tt (ended (sign Space (codes "{")) (sign_token (codes "{") refl)))

node_clauses_sit : (n : Node) → IsNode n → SitsAnywhere (node_clauses n)
node_clauses_sit n is = λ v tok.
    joined (names_clause (codes "reads") n.reads ++ names_clause (codes "writes") n.writes) (each local_clause n.locals)
    (joined (names_clause (codes "reads") n.reads) (names_clause (codes "writes") n.writes) (names_sits (codes "reads") n.reads refl is.reads v tok)
    (names_sits (codes "writes") n.writes refl is.writes))
    (each_sits local_clause IsLocal local_sits n.locals is.locals)

do_sits : (b : Block) → IsBlock b → SitsAnywhere (do_clause b)
do_sits b is = λ v tok. then_word refl tt (braced_sits 2 (block_words b) (block_sits b is) (keyword (Line 2) (codes "do")) refl)

node_of_sits : (n : Node) (body : Option Block) (a : Word) (gap : Gap) → IsNode n → IfThere IsBlock body → Enters a gap → Sits a (node_of gap n body)
node_of_sits n None a gap is body_is enters =
    joined (node_head_words gap (codes "external") n ++ node_clauses n) closing
    (joined (node_head_words gap (codes "external") n) (node_clauses n) (node_head_sits (codes "external") n a gap refl is enters) (node_clauses_sit n is))
    closing_sits
node_of_sits n (Some b) a gap is body_is enters =
    joined ((node_head_words gap (codes "node") n ++ node_clauses n) ++ do_clause b) closing
    (joined (node_head_words gap (codes "node") n ++ node_clauses n) (do_clause b)
    (joined (node_head_words gap (codes "node") n) (node_clauses n) (node_head_sits (codes "node") n a gap refl is enters) (node_clauses_sit n is))
    (do_sits b body_is))
    closing_sits

area_sits : (b : Area) → IsArea b → SitsAnywhere (area_words b)
area_sits b is = λ v tok.
    let square : IsTok (sign Space (codes "[")) = sign_token (codes "[") refl in
    joined (sign Space (codes "[") ∷ listed bounds_words Touching b.sides) (sign Touching (codes "]") ∷ [])
    (then_word square tt (listed_sits bounds_words AreBounds bounds_sits b.sides (sign Space (codes "[")) Touching square is.1
    (opens Space (codes "[") refl square_ends)))
    (closes (codes "]") [] refl refl (ended (sign Touching (codes "]")) (sign_token (codes "]") refl)))

bar_sits : (first : Bool) → SitsAnywhere (bar first)
bar_sits true = ended
bar_sits false = λ v tok. then_word (sign_token (codes "|") refl) tt (ended (sign Space (codes "|")) (sign_token (codes "|") refl))

areas_sit : (first : Bool) (bs : List Area) → Each IsArea bs → SitsAnywhere (areas_from first bs)
areas_sit first [] all = ended
areas_sit first (b ∷ bs) all = λ v tok.
    joined (bar first ++ area_words b) (areas_from false bs) (joined (bar first) (area_words b) (bar_sits first v tok) (area_sits b all.0))
    (areas_sit false bs all.1)

region_sits : (bs : List Area) → Each IsArea bs → SitsAnywhere (region_words bs)
region_sits [] all = λ v tok. then_word refl tt (ended (keyword Space (codes "none")) refl)
region_sits (b ∷ bs) all = areas_sit true (b ∷ bs) all

name_sits : (word : List ℕ) (i : Ident) → IsTokenText Keyword word → IsName i → SitsAnywhere (clause word (ident_words Space i))
name_sits word i key is = clause_sits word (ident_words Space i) key (λ v tok. ident_sits i v Space is (spaced v))

control_sits : (m : Module) → IsModule m → SitsAnywhere (control_clauses m)
control_sits m is = λ v tok.
    let ac_ : List Word = clause (codes "ac") (ident_words Space m.ac) in
    let sc_ : List Word = clause (codes "sc") (ident_words Space m.sc) in
    let times : List Word = timing_words (Line 2) m.period m.offset in
    joined ((ac_ ++ sc_) ++ times) semicolon
    (joined (ac_ ++ sc_) times (joined ac_ sc_ (name_sits (codes "ac") m.ac refl is.ac v tok) (name_sits (codes "sc") m.sc refl is.sc))
    (λ u is_tok. timing_sits m.period m.offset u (Line 2) is.period.0 is.offset.0 (lined u 2)))
    semicolon_sits

region_clauses_sit : (m : Module) → IsModule m → SitsAnywhere (region_clauses m)
region_clauses_sit m is = λ v tok.
    let plant_ : List Word = clause (codes "plant") (ident_words Space m.plant) in
    let safe_ : List Word = clause (codes "safe") (region_words m.safe) in
    joined (plant_ ++ safe_) (clause (codes "safer") (region_words m.safer))
    (joined plant_ safe_ (name_sits (codes "plant") m.plant refl is.plant v tok)
    (clause_sits (codes "safe") (region_words m.safe) refl (region_sits m.safe is.safe)))
    (clause_sits (codes "safer") (region_words m.safer) refl (region_sits m.safer is.safer))

module_sits : (m : Module) (a : Word) (gap : Gap) → IsModule m → Enters a gap → Sits a (module_words gap m)
module_sits m a gap is enters =
    let head : List Word = keyword gap (codes "module") ∷ name Space m.name.name ∷ sign Space (codes "{") ∷ control_clauses m in
    joined (head ++ region_clauses m) closing
    (joined head (region_clauses m) (head_sits (codes "module") m.name.name (control_clauses m) a gap refl is.name (control_sits m is) enters)
    (region_clauses_sit m is))
    closing_sits

declaration_sits : (d : Declaration) (a : Word) (gap : Gap) → IsDeclaration d → Enters a gap → Sits a (declaration_words gap d)
declaration_sits (a_topic t) a gap is enters = topic_sits t a gap is enters
declaration_sits (a_plant p) a gap is enters = plant_sits p a gap is enters
declaration_sits (a_node n) a gap is enters = node_of_sits n n.body a gap is is.body enters
declaration_sits (a_module m) a gap is enters = module_sits m a gap is enters

further_declarations : (ds : List Declaration) → Each IsDeclaration ds → SitsAnywhere (declarations_from false ds)
further_declarations [] all = ended
further_declarations (d ∷ ds) all = λ v tok.
    joined (declaration_words (Line 0) d) (declarations_from false ds) (declaration_sits d v (Line 0) all.0 (lined v 0)) (further_declarations ds all.1)

-- an opening sign, which any token may touch, stands for the beginning of the text
begins : (ds : List Declaration) → Each IsDeclaration ds → Sits (sign Touching (codes "(")) (declarations_from true ds)
begins [] all = ended (sign Touching (codes "(")) (sign_token (codes "(") refl)
begins (d ∷ ds) all =
    joined (declaration_words Touching d) (declarations_from false ds)
    (declaration_sits d (sign Touching (codes "(")) Touching all.0 (opens Touching (codes "(") refl round_ends)) (further_declarations ds all.1)

pub canonical_read : (p : Program) → IsFormed p → Reads (canonical p) (words p)
canonical_read p is =
    let all : Follows (sign Touching (codes "(")) (words p) =
    subst (Follows (sign Touching (codes "("))) (append-nil (words p)) ((begins p.decls is).go [] (λ v tok. tt)) in
    let parted = follows_parted (sign Touching (codes "(")) (words p) all in
    words_read (words p) parted.0 parted.2
