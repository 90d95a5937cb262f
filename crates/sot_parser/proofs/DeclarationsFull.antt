-- Declarations: what is of the grammar is read.
use Rattle.std.proofs.Common.{◌≡◌, ℕ, ◌≤◌, ◌||◌, codes, map, List, [], ◌∷◌, Bool, true, false, Option, None, Some, Ok, refl, arith}
use Rattle.std.specs.Str.{bytes_eq}
use Rattle.std.proofs.lemmas.Bool.{or_from, or_left}
use Rattle.sot_text.specs.Reading.{Lexeme}
use Rattle.sot_expression.specs.Lexemes.{begins, is_sign, is_keyword}
use Rattle.sot_expression.specs.Readers.{name_at}
use Rattle.sot_parser.specs.ListReaders.{optional_at}
use Rattle.sot_parser.specs.Pieces.{Keyword, Sign, Named, spelled_name, name_of, spelled_field, field_of, spelled_const, const_of, spelled_side, side_of}
use Rattle.sot_parser.specs.Pieces.{ConstForm, a_literal, a_yes, a_no, LiteralForm, plain, negative, spelled_literal, each, maybe, ClauseForm, spelled_clause}
use Rattle.sot_parser.specs.Pieces.{clause_or_none}
use Rattle.sot_parser.specs.Declarations.{ShapeForm, one_scalar, a_record, spelled_shape, shape_of, InitForm, one_const, consts, spelled_init, init_of}
use Rattle.sot_parser.specs.Declarations.{TopicForm, spelled_outside, spelled_topic, topic_of, is_given, ScaleForm, whole, scaled, spelled_scale, scale_of}
use Rattle.sot_parser.specs.Declarations.{StateForm, spelled_state, state_of, NextForm, spelled_next, next_of, PlantForm, spelled_plant, spelled_names}
use Rattle.sot_parser.specs.Declarations.{plant_of, most, next_levels, plant_levels, LocalForm, spelled_local, local_of, CodedForm, spelled_coded, coded_of}
use Rattle.sot_parser.specs.Declarations.{ExternalForm, spelled_external, external_of, BoxForm, spelled_box, box_of, RegionForm, no_box, some_boxes}
use Rattle.sot_parser.specs.Declarations.{spelled_region, region_of, BoundForm, spelled_bound, bound_of, ModuleForm, spelled_module, module_of, DeclarationForm}
use Rattle.sot_parser.specs.Declarations.{a_topic, a_plant, a_coded, an_external, a_module, spelled_declaration, declaration_of, declaration_levels}
use Rattle.sot_parser.specs.Statements.{block_levels}
use Rattle.sot_parser.specs.DeclarationReaders.{side_at, named_scalar_at, const_at, fields_at, one_scalar_at, shape_at, consts_at, one_const_at, init_at}
use Rattle.sot_parser.specs.DeclarationReaders.{environment_at, outside_at, topic_at, whole_at, scaled_at, scale_at, state_at, next_at, signals_at, plant_at}
use Rattle.sot_parser.specs.DeclarationReaders.{local_at, head_at, code_at, coded_at, external_at, box_at, no_box_at, region_at, bound_at, pairing_at}
use Rattle.sot_parser.specs.DeclarationReaders.{bounds_at, module_at, a_topic_at, a_plant_at, a_coded_at, an_external_at, a_module_at, declaration_at}
use Rattle.sot_parser.specs.DeclarationReaders.{declarations_at, is_some}
use Rattle.sot_parser.proofs.DeclarationParts.{SignalsForm, spelled_signals, signals_of, HeadForm, spelled_head, head_of, CodeForm, spelled_code, code_of}
use Rattle.sot_parser.proofs.DeclarationParts.{PairingForm, spelled_pairing, pairing_of, BoundsForm, spelled_bounds, bounds_of}
use Rattle.sot_parser.proofs.SoundSteps.{Any}
use Rattle.sot_parser.proofs.ListsSound.{Each}
use Rattle.sot_parser.proofs.DeclarationsSound.{NextFits, DeclarationFits}
use Rattle.sot_parser.proofs.Shorter.{name_short, side_short, named_scalar_short, const_short, state_short, next_short, local_short, box_short}
use Rattle.sot_parser.proofs.Shorter.{declaration_short}
use Rattle.sot_expression.proofs.ReadSteps.{give}
use Rattle.sot_parser.proofs.FullSteps.{yes_by, no_by, keyword_full, sign_full, name_full, keyword_test, sign_test, keyword_other, sign_other, keyword_no_sign}
use Rattle.sot_parser.proofs.FullSteps.{sign_no_keyword, number_no_sign}
use Rattle.sot_parser.proofs.ListsFull.{all_full, any_each, separated_full, clause_full, optional_full, other_clause}
use Rattle.sot_parser.proofs.PiecesFull.{side_full, fix_full, scalar_full, field_full, const_full, scalar_no_sign, timing_full, role_full}
use Rattle.sot_parser.proofs.StatementsFull.{tree_full, block_full, semicolon_stops}

shape_full : (s : ShapeForm) (us : List Lexeme) → shape_at (spelled_shape s us) ≡ Ok (shape_of s, us)
unfolding shape_at fields_at one_scalar_at
shape_full (one_scalar s) us = no_by (scalar_no_sign (codes "{") s us) _ (give (scalar_full s us) _ _ refl)
shape_full (a_record opening fs closing) us =
    yes_by (sign_test opening) _ (give (sign_full opening _) _ _
    (give (separated_full spelled_field field_of named_scalar_at field_full named_scalar_short (codes ",") fs _ (sign_other (codes ",") closing refl)) _ _
    (give (sign_full closing us) _ _ refl)))

literal_no_brace : (l : LiteralForm) (us : List Lexeme) → begins (is_sign (codes "{")) (spelled_literal l us) ≡ false
literal_no_brace (plain n) us = number_no_sign (codes "{") n
literal_no_brace (negative minus n) us = sign_other (codes "{") minus refl

const_no_brace : (c : ConstForm) (us : List Lexeme) → begins (is_sign (codes "{")) (spelled_const c us) ≡ false
const_no_brace (a_literal l) us = literal_no_brace l us
const_no_brace (a_yes word) us = keyword_no_sign (codes "{") word
const_no_brace (a_no word) us = keyword_no_sign (codes "{") word

init_full : (i : InitForm) (us : List Lexeme) → init_at (spelled_init i us) ≡ Ok (init_of i, us)
unfolding init_at consts_at one_const_at
init_full (one_const c) us = no_by (const_no_brace c us) _ (give (const_full c us) _ _ refl)
init_full (consts opening cs closing) us =
    yes_by (sign_test opening) _ (give (sign_full opening _) _ _
    (give (separated_full spelled_const const_of const_at const_full const_short (codes ",") cs _ (sign_other (codes ",") closing refl)) _ _
    (give (sign_full closing us) _ _ refl)))

outside_full : (o : Option (Keyword (codes "environment"))) (us : List Lexeme) → begins (is_keyword (codes "environment")) us ≡ false
    → outside_at (spelled_outside o us) ≡ Ok (is_given o, us)
unfolding outside_at environment_at
outside_full None us off = no_by off _ refl
outside_full (Some word) us off = yes_by (keyword_test word) _ (give (keyword_full word us) _ _ refl)

topic_full : (t : TopicForm) (us : List Lexeme) → topic_at (spelled_topic t us) ≡ Ok (topic_of t, us)
unfolding topic_at
topic_full t us =
    give (outside_full t.environment _ (keyword_other (codes "environment") t.word refl)) _ _
    (give (keyword_full t.word _) _ _ (give (name_full t.name _) _ _ (give (sign_full t.colon _) _ _
    (give (shape_full t.shape _) _ _ (give (sign_full t.equals _) _ _ (give (init_full t.init _) _ _ (give (sign_full t.semicolon us) _ _ refl)))))))

scale_full : (s : ScaleForm) (us : List Lexeme) → scale_at (spelled_scale s us) ≡ Ok (scale_of s, us)
unfolding scale_at whole_at scaled_at
scale_full (whole word) us = yes_by (keyword_test word) _ (give (keyword_full word us) _ _ refl)
scale_full (scaled f) us = no_by (keyword_other (codes "int") f.fix refl) _ (give (fix_full f us) _ _ refl)

state_full : (s : StateForm) (us : List Lexeme) → state_at (spelled_state s us) ≡ Ok (state_of s, us)
unfolding state_at
state_full s us = give (name_full s.name _) _ _ (give (sign_full s.colon _) _ _ (give (scale_full s.scale us) _ _ refl))

next_full : (room : ℕ) (n : NextForm) → NextFits room n → (us : List Lexeme) → next_at room (spelled_next n us) ≡ Ok (next_of n, us)
unfolding next_at
next_full room n fits us =
    give (keyword_full n.word _) _ _ (give (name_full n.name _) _ _
    (give (sign_full n.equals _) _ _ (give (tree_full room n.value _ fits (semicolon_stops n.semicolon us)) _ _ (give (sign_full n.semicolon us) _ _ refl))))

pub fit_most : {F : Type 0} (levels : F → ℕ) (room : ℕ) (fs : List F) → most levels fs ≤ room → Each (λ f. levels f ≤ room) fs
fit_most levels room [] fits = tt
fit_most levels room (f ∷ fs) fits = (omega (arith, fits), fit_most levels room fs (omega (arith, fits)))

names_full : (text : List ℕ) (c : Option (ClauseForm text Named)) (us : List Lexeme) → begins (is_keyword text) us ≡ false
    → optional_at text name_at (spelled_names c us) ≡ Ok (clause_or_none name_of c, us)
names_full text c us off = optional_full spelled_name name_of name_at name_full name_short text c us off

-- no clause of another keyword follows
nexts_other : (other : List ℕ) (ns : List NextForm) (closing : Sign (codes "}")) (us : List Lexeme) → bytes_eq (codes "next") other ≡ false
    → begins (is_keyword other) (each spelled_next ns (closing.token ∷ us)) ≡ false
nexts_other other [] closing us differ = sign_no_keyword other closing
nexts_other other (n ∷ ns) closing us differ = keyword_other other n.word differ

signals_full : (s : SignalsForm) (us : List Lexeme) → begins (is_keyword (codes "input")) us ≡ false → begins (is_keyword (codes "sees")) us ≡ false
    → begins (is_keyword (codes "noise")) us ≡ false
    → signals_at (spelled_signals s us) ≡ Ok (signals_of s, us)
unfolding signals_at
signals_full s us no_input no_sees no_noise =
    let noise : List Lexeme = maybe (spelled_clause spelled_field) s.noise us in
    let sees : List Lexeme = spelled_names s.sees noise in
    let sees_off : begins (is_keyword (codes "sees")) noise ≡ false = other_clause spelled_field (codes "sees") (codes "noise") s.noise us refl no_sees in
    let input_off : begins (is_keyword (codes "input")) sees ≡ false =
    other_clause spelled_name (codes "input") (codes "sees") s.sees noise refl
    (other_clause spelled_field (codes "input") (codes "noise") s.noise us refl no_input) in
    give (clause_full spelled_state state_of state_at state_full state_short (codes "state") s.states _) _ _
    (give (names_full (codes "input") s.inputs sees input_off) _ _
    (give (names_full (codes "sees") s.sees noise sees_off) _ _
    (give (optional_full spelled_field field_of named_scalar_at field_full named_scalar_short (codes "noise") s.noise us no_noise) _ _ refl)))

plant_full : (room : ℕ) (p : PlantForm) (us : List Lexeme) → plant_levels p ≤ room → plant_at room (spelled_plant p us) ≡ Ok (plant_of p, us)
unfolding plant_at
plant_full room p us fits =
    let off : (other : List ℕ) → bytes_eq (codes "next") other ≡ false
    → begins (is_keyword other) (each spelled_next p.next (p.closing.token ∷ us)) ≡ false = λ other differ. nexts_other other p.next p.closing us differ in
    give (keyword_full p.word _) _ _ (give (name_full p.name _) _ _ (give (sign_full p.opening _) _ _
    (give (signals_full (record { states = p.states; inputs = p.inputs; sees = p.sees; noise = p.noise }) (each spelled_next p.next (p.closing.token ∷ us))
    (off (codes "input") refl) (off (codes "sees") refl) (off (codes "noise") refl)) _ _
    (give (all_full spelled_next next_of (NextFits room) (begins (is_keyword (codes "next"))) (next_at room) (next_full room) (λ n vs. keyword_test n.word)
    (next_short room) p.next (fit_most next_levels room p.next fits) (p.closing.token ∷ us)
    (sign_no_keyword (codes "next") p.closing)) _ _
    (give (sign_full p.closing us) _ _ refl)))))

local_full : (l : LocalForm) → Any l → (us : List Lexeme) → local_at (spelled_local l us) ≡ Ok (local_of l, us)
unfolding local_at
local_full l any us =
    give (keyword_full l.word _) _ _ (give (name_full l.name _) _ _
    (give (sign_full l.colon _) _ _ (give (scalar_full l.scalar _) _ _
    (give (sign_full l.equals _) _ _ (give (const_full l.init _) _ _ (give (sign_full l.semicolon us) _ _ refl))))))

locals_other : (other : List ℕ) (ls : List LocalForm) (word : Keyword (codes "do")) (us : List Lexeme) → bytes_eq (codes "local") other ≡ false
    → bytes_eq (codes "do") other ≡ false → begins (is_keyword other) (each spelled_local ls (word.token ∷ us)) ≡ false
locals_other other [] word us differ differ_too = keyword_other other word differ_too
locals_other other (l ∷ ls) word us differ differ_too = keyword_other other l.word differ

head_full : (h : HeadForm) (us : List Lexeme) → begins (is_keyword (codes "reads")) us ≡ false → begins (is_keyword (codes "writes")) us ≡ false
    → head_at (spelled_head h us) ≡ Ok (head_of h, us)
unfolding head_at
head_full h us no_reads no_writes =
    give (name_full h.name _) _ _ (give (timing_full h.timing _) _ _ (give (sign_full h.opening _) _ _
    (give (names_full (codes "reads") h.reads _ (other_clause spelled_name (codes "reads") (codes "writes") h.writes us refl no_reads)) _ _
    (give (names_full (codes "writes") h.writes us no_writes) _ _ refl))))

code_full : (room : ℕ) (c : CodeForm) (us : List Lexeme) → block_levels c.body ≤ room → code_at room (spelled_code c us) ≡ Ok (code_of c, us)
unfolding code_at
code_full room c us fits =
    give (all_full spelled_local local_of Any (begins (is_keyword (codes "local"))) local_at local_full (λ l vs. keyword_test l.word) local_short c.locals
    (any_each c.locals) _ (keyword_other (codes "local") c.do_word refl)) _ _
    (give (keyword_full c.do_word _) _ _ (give (block_full c.body room us fits) _ _ refl))

coded_full : (room : ℕ) (n : CodedForm) (us : List Lexeme) → block_levels n.body ≤ room → coded_at room (spelled_coded n us) ≡ Ok (coded_of n, us)
unfolding coded_at
coded_full room n us fits =
    let c : CodeForm = record { locals = n.locals; do_word = n.do_word; body = n.body } in
    give (keyword_full n.word _) _ _
    (give (head_full (record { name = n.name; timing = n.timing; opening = n.opening; reads = n.reads; writes = n.writes })
    (spelled_code c (n.closing.token ∷ us)) (locals_other (codes "reads") n.locals n.do_word _ refl refl)
    (locals_other (codes "writes") n.locals n.do_word _ refl refl)) _ _
    (give (code_full room c (n.closing.token ∷ us) fits) _ _ (give (sign_full n.closing us) _ _ refl)))

external_full : (n : ExternalForm) (us : List Lexeme) → external_at (spelled_external n us) ≡ Ok (external_of n, us)
unfolding external_at
external_full n us =
    give (keyword_full n.word _) _ _
    (give (head_full (record { name = n.name; timing = n.timing; opening = n.opening; reads = n.reads; writes = n.writes }) (n.closing.token ∷ us)
    (sign_no_keyword (codes "reads") n.closing) (sign_no_keyword (codes "writes") n.closing)) _ _
    (give (sign_full n.closing us) _ _ refl))

box_full : (b : BoxForm) (us : List Lexeme) → box_at (spelled_box b us) ≡ Ok (box_of b, us)
unfolding box_at
box_full b us =
    give (sign_full b.opening _) _ _ (give (separated_full spelled_side side_of side_at side_full side_short (codes ",") b.sides _
    (sign_other (codes ",") b.closing refl)) _ _ (give (sign_full b.closing us) _ _ refl))

region_full : (r : RegionForm) (us : List Lexeme) → begins (is_sign (codes "|")) us ≡ false → region_at (spelled_region r us) ≡ Ok (region_of r, us)
unfolding region_at no_box_at
region_full (no_box word) us off = yes_by (keyword_test word) _ (give (keyword_full word us) _ _ refl)
region_full (some_boxes bs) us off =
    no_by (sign_no_keyword (codes "none") bs.first.opening) _ (separated_full spelled_box box_of box_at box_full box_short (codes "|") bs us off)

bound_full : (text : List ℕ) (b : BoundForm text) (us : List Lexeme) → bound_at text (spelled_bound b us) ≡ Ok (bound_of b, us)
unfolding bound_at
bound_full text b us =
    give (keyword_full b.word _) _ _ (give (region_full b.region _ (sign_other (codes "|") b.semicolon refl)) _ _ (give (sign_full b.semicolon us) _ _ refl))

pairing_full : (p : PairingForm) (us : List Lexeme) → pairing_at (spelled_pairing p us) ≡ Ok (pairing_of p, us)
unfolding pairing_at
pairing_full p us =
    give (role_full (codes "ac") p.ac _) _ _ (give (role_full (codes "sc") p.sc _) _ _
    (give (timing_full p.timing _) _ _ (give (sign_full p.semicolon _) _ _ (give (role_full (codes "plant") p.plant us) _ _ refl))))

bounds_full : (b : BoundsForm) (us : List Lexeme) → bounds_at (spelled_bounds b us) ≡ Ok (bounds_of b, us)
unfolding bounds_at
bounds_full b us = give (bound_full (codes "safe") b.safe _) _ _ (give (bound_full (codes "safer") b.safer us) _ _ refl)

module_full : (m : ModuleForm) (us : List Lexeme) → module_at (spelled_module m us) ≡ Ok (module_of m, us)
unfolding module_at
module_full m us =
    let b : BoundsForm = record { safe = m.safe; safer = m.safer } in
    give (keyword_full m.word _) _ _ (give (name_full m.name _) _ _ (give (sign_full m.opening _) _ _
    (give (pairing_full (record { ac = m.ac; sc = m.sc; timing = m.timing; semicolon = m.semicolon; plant = m.plant })
    (spelled_bounds b (m.closing.token ∷ us))) _ _
    (give (bounds_full b (m.closing.token ∷ us)) _ _ (give (sign_full m.closing us) _ _ refl)))))

-- the keyword that a declaration begins with
or_second : (b c : Bool) → b ≡ false → c ≡ true → (b || c) ≡ true
or_second true c e f = refl
or_second false c e f = f

is_topic : List Lexeme → Bool
is_topic ts = begins (is_keyword (codes "topic")) ts || begins (is_keyword (codes "environment")) ts

topic_starts : (t : TopicForm) (us : List Lexeme) → is_topic (spelled_topic t us) ≡ true
unfolding is_topic
topic_starts t us = by_case t.environment
  where
    by_case : (o : Option (Keyword (codes "environment"))) → is_topic
        (spelled_outside o (t.word.token ∷ t.name.token ∷ t.colon.token ∷ spelled_shape t.shape
        (t.equals.token ∷ spelled_init t.init (t.semicolon.token ∷ us)))) ≡ true
    by_case None = or_left _ _ (keyword_test t.word)
    by_case (Some word) = or_second _ _ (keyword_other (codes "topic") word refl) (keyword_test word)

no_topic : {text : List ℕ} (word : Keyword text) (us : List Lexeme) → bytes_eq text (codes "topic") ≡ false → bytes_eq text (codes "environment") ≡ false
    → is_topic (word.token ∷ us) ≡ false
unfolding is_topic
no_topic word us differ differ_too = or_from _ _ (keyword_other (codes "topic") word differ) (keyword_other (codes "environment") word differ_too)

declaration_full : (room : ℕ) (d : DeclarationForm) → DeclarationFits room d → (us : List Lexeme)
    → declaration_at room (spelled_declaration d us) ≡ Ok (declaration_of d, us)
unfolding declaration_at is_topic a_topic_at a_plant_at a_coded_at an_external_at a_module_at
declaration_full room (a_topic t) fits us = yes_by (topic_starts t us) _ (give (topic_full t us) _ _ refl)
declaration_full room (a_plant p) fits us = no_by (no_topic p.word [] refl refl) _ (yes_by (keyword_test p.word) _ (give (plant_full room p us fits) _ _ refl))
declaration_full room (a_coded n) fits us =
    no_by (no_topic n.word [] refl refl) _ (no_by (keyword_other (codes "plant") n.word refl) _
    (yes_by (keyword_test n.word) _ (give (coded_full room n us fits) _ _ refl)))
declaration_full room (an_external n) fits us =
    no_by (no_topic n.word [] refl refl) _ (no_by (keyword_other (codes "plant") n.word refl) _
    (no_by (keyword_other (codes "node") n.word refl) _ (yes_by (keyword_test n.word) _ (give (external_full n us) _ _ refl))))
declaration_full room (a_module m) fits us =
    no_by (no_topic m.word [] refl refl) _ (no_by (keyword_other (codes "plant") m.word refl) _
    (no_by (keyword_other (codes "node") m.word refl) _ (no_by (keyword_other (codes "external") m.word refl) _ (give (module_full m us) _ _ refl))))

outside_some : (o : Option (Keyword (codes "environment"))) (t : Lexeme) (us : List Lexeme) → is_some (spelled_outside o (t ∷ us)) ≡ true
outside_some None t us = refl
outside_some (Some word) t us = refl

declaration_starts : (d : DeclarationForm) (us : List Lexeme) → is_some (spelled_declaration d us) ≡ true
declaration_starts (a_topic t) us = outside_some t.environment t.word.token _
declaration_starts (a_plant p) us = refl
declaration_starts (a_coded n) us = refl
declaration_starts (an_external n) us = refl
declaration_starts (a_module m) us = refl

pub declarations_full : (room : ℕ) (ds : List DeclarationForm) → most declaration_levels ds ≤ room
    → declarations_at room (each spelled_declaration ds []) ≡ Ok (map declaration_of ds, [])
unfolding declarations_at
declarations_full room ds fits =
    all_full spelled_declaration declaration_of (DeclarationFits room) is_some (declaration_at room) (declaration_full room) declaration_starts
    (declaration_short room) ds (fit_most declaration_levels room ds fits) [] refl
