-- What is read takes tokens, so less is left.
use Rattle.std.proofs.Common.{ℕ, zero, suc, ◌<◌, ◌≤◌, ◌||◌, ◌==◌, List, [], Bool, true, false, codes, length, None, Result, Ok, Err, ap, arith}
use Rattle.sot_text.specs.Reading.{Lexeme}
use Rattle.sot_text.specs.Ahead.{Ahead}
use Rattle.std.specs.Prelude.{IfOk}
use Rattle.sot_syntax_tree.specs.declared.tree.Bounds.{Bounds}
use Rattle.sot_syntax_tree.specs.declared.tree.Field.{Field}
use Rattle.sot_syntax_tree.specs.declared.tree.Const.{Const}
use Rattle.sot_syntax_tree.specs.declared.tree.StateDecl.{StateDecl}
use Rattle.sot_expression.specs.declared.fail.Fail.{Fail}
use Rattle.sot_expression.specs.Returned.{Gives}
use Rattle.sot_syntax_tree.specs.Trees.{Tree, Statement, Block, no_statement}
use Rattle.sot_expression.specs.Lexemes.{begins, is_sign, is_keyword, is_name, is_number, ident, literal}
use Rattle.sot_expression.specs.Readers.{Read, ◌>>=◌, one_token, expect, name_at, number_at, literal_at}
use Rattle.sot_parser.specs.ListReaders.{repeated, all_at, further_at, separated_at, clause_at, optional_at}
use Rattle.sot_expression.specs.ExpressionReaders.{expression_at, tree_at}
use Rattle.sot_parser.specs.StatementReaders.{assign_at, field_at, dot_at, publish_at, plain_at, otherwise_at, else_at, branch_at, loop_at, nested_at, block_at}
use Rattle.sot_parser.specs.StatementReaders.{statement_at, goes_on, begins_nested, begins_statement, statement_with}
use Rattle.sot_parser.specs.DeclarationReaders.{side_at, range_at, fix_at, int_scalar_at, fix_scalar_at, bool_scalar_at, scalar_at, named_scalar_at, truth_at}
use Rattle.sot_parser.specs.DeclarationReaders.{number_const_at, const_at, fields_at, one_scalar_at, shape_at, consts_at, one_const_at, init_at, environment_at}
use Rattle.sot_parser.specs.DeclarationReaders.{outside_at, topic_at, whole_at, scaled_at, scale_at, state_at, next_at, signals_at, plant_at, timing_at}
use Rattle.sot_parser.specs.DeclarationReaders.{local_at, head_at, code_at, coded_at, external_at, box_at, no_box_at, region_at, bound_at, role_at, pairing_at}
use Rattle.sot_parser.specs.DeclarationReaders.{bounds_at, module_at, a_topic_at, a_plant_at, a_coded_at, an_external_at, a_module_at, declaration_at}
use Rattle.sot_parser.proofs.SoundSteps.{Leads, either, token_ok}
use Rattle.sot_expression.proofs.ReadSteps.{bind_ok, ok_is}
use Rattle.sot_parser.proofs.PiecesSound.{literal_sound}
use Rattle.sot_expression.proofs.PhraseLaws.{expression_sound, phrase_longer}
use Rattle.sot_parser.specs.Pieces.{LiteralForm, plain, negative, spelled_literal}

abbrev pub Short : {A : Type 0} → (List Lexeme → Read A) → Type 0
Short g = Leads g (λ y ts. length y.1 < length ts)

-- the same, or nothing is taken
abbrev pub Slim : {A : Type 0} → (List Lexeme → Read A) → Type 0
Slim g = Leads g (λ y ts. length y.1 ≤ length ts)

abbrev ok : {A : Type 0} → A × List Lexeme → Read A
ok x = Ok x

pub rest : {A : Type 0} {g : List Lexeme → Read A} → Short g → Slim g
rest short_g ts y e = omega (arith, short_g ts y e)

-- chains of steps
module _ {A B : Type 0} {g : List Lexeme → Read A} where
  pub short : Short g → (k : A × List Lexeme → Read B) → ((x : A) → Slim (λ us. k (x, us))) → Short (λ ts. g ts >>= k)
  short short_g k more ts y e =
      let b = bind_ok (g ts) k y e in
      omega (arith, short_g ts b.0 b.1, more b.0.0 b.0.1 y b.2)

  pub slim : Slim g → (k : A × List Lexeme → Read B) → ((x : A) → Slim (λ us. k (x, us))) → Slim (λ ts. g ts >>= k)
  slim slim_g k more ts y e =
      let b = bind_ok (g ts) k y e in
      omega (arith, slim_g ts b.0 b.1, more b.0.0 b.0.1 y b.2)

  pub late : Slim g → (k : A × List Lexeme → Read B) → ((x : A) → Short (λ us. k (x, us))) → Short (λ ts. g ts >>= k)
  late slim_g k more ts y e =
      let b = bind_ok (g ts) k y e in
      omega (arith, slim_g ts b.0 b.1, more b.0.0 b.0.1 y b.2)

  pub next : Short g → (k : A × List Lexeme → Read B) → ((x : A) → Slim (λ us. k (x, us))) → Slim (λ ts. g ts >>= k)
  next short_g k more ts y e = rest (short short_g k more) ts y e

pub over : {A : Type 0} (x : A) → Slim (λ us. ok (x, us))
over x us y e = omega (arith, ap (λ z. length z.1) (ok_is (x, us) y e))

token_short : {A : Type 0} (test : Lexeme → Bool) (view : Lexeme → A) → Short (one_token test view)
token_short test view ts y e = let t = token_ok test view ts y e in omega (arith, ap length t.2)

sign_short : (text : List ℕ) → Short (expect (is_sign text))
sign_short text = token_short (is_sign text) (λ t. t.at)

keyword_short : (text : List ℕ) → Short (expect (is_keyword text))
keyword_short text = token_short (is_keyword text) (λ t. t.at)

pub name_short : Short name_at
name_short = token_short is_name ident

number_short : Short number_at
number_short = token_short is_number literal

literal_longer : (l : LiteralForm) (us : List Lexeme) → length us < length (spelled_literal l us)
literal_longer (plain n) us = omega arith
literal_longer (negative minus n) us = omega arith

literal_short : Short literal_at
literal_short ts y e = let l = literal_sound ts y e in omega (arith, literal_longer l.0 y.1, ap length l.2)

module _ {A : Type 0} where
  repeated_slim : (goes_on : List Lexeme → Bool) (item : List Lexeme → Read A) → Short item → (n : ℕ) → Slim (repeated goes_on item n)
  unfolding repeated
  repeated_slim goes_on item short_item zero = over []
  repeated_slim goes_on item short_item (suc n) =
      either goes_on _ _ _ (next short_item _ (λ _. slim (repeated_slim goes_on item short_item n) _ (λ _. over _))) (over [])

  pub all_slim : (goes_on : List Lexeme → Bool) (item : List Lexeme → Read A) → Short item → Slim (all_at goes_on item)
  unfolding all_at
  all_slim goes_on item short_item ts y e = repeated_slim goes_on item short_item (suc (length ts)) ts y e

  pub further_short : (text : List ℕ) (item : List Lexeme → Read A) → Short item → Short (further_at text item)
  unfolding further_at
  further_short text item short_item = short (sign_short text) _ (λ _. rest short_item)

  pub separated_short : (text : List ℕ) (item : List Lexeme → Read A) → Short item → Short (separated_at text item)
  unfolding separated_at
  separated_short text item short_item =
      short short_item _ (λ _. slim (all_slim (begins (is_sign text)) (further_at text item) (further_short text item short_item)) _ (λ _. over _))

  clause_short : (text : List ℕ) (item : List Lexeme → Read A) → Short item → Short (clause_at text item)
  unfolding clause_at
  clause_short text item short_item =
      short (keyword_short text) _ (λ _. next (separated_short (codes ",") item short_item) _ (λ _. next (sign_short (codes ";")) _ (λ _. over _)))

  optional_slim : (text : List ℕ) (item : List Lexeme → Read A) → Short item → Slim (optional_at text item)
  unfolding optional_at
  optional_slim text item short_item = either (begins (is_keyword text)) _ _ _ (rest (clause_short text item short_item)) (over [])

expression_slim : (room : ℕ) → Slim (expression_at room)
expression_slim room ts y e = let f = expression_sound room ts y.1 y.0 e in omega (arith, phrase_longer f.0 y.1, ap length f.2)

pub tree_slim : (room : ℕ) → Slim (tree_at room)
unfolding tree_at
tree_slim room = slim (expression_slim room) _ (λ _. over _)

assign_short : (expression : List Lexeme → Read Tree) → Slim expression → Short (assign_at expression)
unfolding assign_at
assign_short expression slim_expression =
    short name_short _ (λ _.
    next (sign_short (codes ":=")) _ (λ _.
    slim slim_expression _ (λ _.
    next (sign_short (codes ";")) _ (λ _.
    over _))))

field_short : Short field_at
unfolding field_at
field_short = short (sign_short (codes ".")) _ (λ _. next name_short _ (λ _. over _))

dot_slim : Slim dot_at
unfolding dot_at
dot_slim = either (begins (is_sign (codes "."))) _ _ _ (rest field_short) (over None)

publish_short : (expression : List Lexeme → Read Tree) → Slim expression → Short (publish_at expression)
unfolding publish_at
publish_short expression slim_expression =
    short (keyword_short (codes "publish")) _ (λ _.
    next name_short _ (λ _.
    slim dot_slim _ (λ _.
    next (sign_short (codes "=")) _ (λ _.
    slim slim_expression _ (λ _.
    next (sign_short (codes ";")) _ (λ _.
    over _))))))

plain_short : (expression : List Lexeme → Read Tree) → Slim expression → Short (plain_at expression)
unfolding plain_at
plain_short expression slim_expression =
    either (begins (is_keyword (codes "publish"))) _ _ _ (publish_short expression slim_expression) (assign_short expression slim_expression)

otherwise_short : (block : List Lexeme → Read Block) → Short block → Short (otherwise_at block)
unfolding otherwise_at
otherwise_short block short_block = short (keyword_short (codes "else")) _ (λ _. rest short_block)

else_slim : (block : List Lexeme → Read Block) → Short block → Slim (else_at block)
unfolding else_at
else_slim block short_block = either (begins (is_keyword (codes "else"))) _ _ _ (rest (otherwise_short block short_block)) (over no_statement)

branch_short : (expression : List Lexeme → Read Tree) → (block : List Lexeme → Read Block) → Slim expression → Short block → Short (branch_at expression block)
unfolding branch_at
branch_short expression block slim_expression short_block =
    short (keyword_short (codes "if")) _ (λ _.
    slim slim_expression _ (λ _.
    next short_block _ (λ _.
    slim (else_slim block short_block) _ (λ _.
    over _))))

loop_short : (block : List Lexeme → Read Block) → Short block → Short (loop_at block)
unfolding loop_at
loop_short block short_block = short (keyword_short (codes "repeat")) _ (λ _. next number_short _ (λ _. next short_block _ (λ _. over _)))

nested_short : (room : ℕ) (expression : List Lexeme → Read Tree) (block : List Lexeme → Read Block) → Slim expression → Short block
    → Short (nested_at room expression block)
unfolding nested_at
nested_short room expression block slim_expression short_block =
    either (begins (is_keyword (codes "if"))) _ _ _ (either (λ _. room == 0) _ _ _ (λ ts y e. absurd cc)
    (branch_short expression block slim_expression short_block)) (loop_short block short_block)

block_short : (item : List Lexeme → Read Statement) → Short item → Short (block_at item)
unfolding block_at
block_short item short_item =
    short (sign_short (codes "{")) _ (λ _.
    slim (all_slim goes_on item short_item) _ (λ _.
    next (sign_short (codes "}")) _ (λ _.
    over _)))

with_short : (room : ℕ) (nested : List Lexeme → Read Statement) → Short nested → Short (statement_with room nested)
with_short room nested short_nested = either begins_nested _ _ _ short_nested (plain_short (tree_at room) (tree_slim room))

pub statement_short : (room : ℕ) → Short (statement_at room)
unfolding statement_at
statement_short zero = either begins_statement _ _ _ (λ ts y e. absurd cc) (λ ts y e. absurd cc)
statement_short (suc r) =
    with_short (suc r) (nested_at r (tree_at r) (block_at (statement_at r)))
    (nested_short r (tree_at r) (block_at (statement_at r)) (tree_slim r) (block_short (statement_at r) (statement_short r)))

pub body_short : (room : ℕ) → Short (block_at (statement_at room))
body_short room = block_short (statement_at room) (statement_short room)

pub side_short : Short side_at
unfolding side_at
side_short = short literal_short _ (λ _. next (sign_short (codes "..")) _ (λ _. next literal_short _ (λ _. over _)))

range_short : Short range_at
unfolding range_at
range_short = short (sign_short (codes "[")) _ (λ _. next side_short _ (λ _. next (sign_short (codes "]")) _ (λ _. over _)))

fix_short : Short fix_at
unfolding fix_at
fix_short =
    short (keyword_short (codes "fix")) _ (λ _.
    next (sign_short (codes "(")) _ (λ _.
    next number_short _ (λ _.
    next (sign_short (codes ")")) _ (λ _.
    over _))))

int_scalar_short : Short int_scalar_at
unfolding int_scalar_at
int_scalar_short = short (keyword_short (codes "int")) _ (λ _. next range_short _ (λ _. over _))

fix_scalar_short : Short fix_scalar_at
unfolding fix_scalar_at
fix_scalar_short = short fix_short _ (λ _. next range_short _ (λ _. over _))

bool_scalar_short : Short bool_scalar_at
unfolding bool_scalar_at
bool_scalar_short = short (keyword_short (codes "bool")) _ (λ _. over _)

scalar_short : Short scalar_at
unfolding scalar_at
scalar_short =
    either (begins (is_keyword (codes "int"))) _ _ _ int_scalar_short (either (begins (is_keyword (codes "fix"))) _ _ _ fix_scalar_short bool_scalar_short)

pub named_scalar_short : Short named_scalar_at
unfolding named_scalar_at
named_scalar_short = short name_short _ (λ _. next (sign_short (codes ":")) _ (λ _. next scalar_short _ (λ _. over _)))

truth_short : (value : Bool) → (text : List ℕ) → Short (truth_at value text)
unfolding truth_at
truth_short value text = short (keyword_short text) _ (λ _. over _)

number_const_short : Short number_const_at
unfolding number_const_at
number_const_short = short literal_short _ (λ _. over _)

pub const_short : Short const_at
unfolding const_at
const_short =
    either (begins (is_keyword (codes "true"))) _ _ _ (truth_short true (codes "true"))
    (either (begins (is_keyword (codes "false"))) _ _ _ (truth_short false (codes "false")) number_const_short)

fields_short : Short fields_at
unfolding fields_at
fields_short =
    short (sign_short (codes "{")) _ (λ _.
    next (separated_short (codes ",") named_scalar_at named_scalar_short) _ (λ _.
    next (sign_short (codes "}")) _ (λ _.
    over _)))

one_scalar_short : Short one_scalar_at
unfolding one_scalar_at
one_scalar_short = short scalar_short _ (λ _. over _)

shape_short : Short shape_at
unfolding shape_at
shape_short = either (begins (is_sign (codes "{"))) _ _ _ fields_short one_scalar_short

consts_short : Short consts_at
unfolding consts_at
consts_short =
    short (sign_short (codes "{")) _ (λ _.
    next (separated_short (codes ",") const_at const_short) _ (λ _.
    next (sign_short (codes "}")) _ (λ _.
    over _)))

one_const_short : Short one_const_at
unfolding one_const_at
one_const_short = short const_short _ (λ _. over _)

init_short : Short init_at
unfolding init_at
init_short = either (begins (is_sign (codes "{"))) _ _ _ consts_short one_const_short

environment_short : Short environment_at
unfolding environment_at
environment_short = short (keyword_short (codes "environment")) _ (λ _. over _)

outside_slim : Slim outside_at
unfolding outside_at
outside_slim = either (begins (is_keyword (codes "environment"))) _ _ _ (rest environment_short) (over false)

topic_short : Short topic_at
unfolding topic_at
topic_short =
    late outside_slim _ (λ _.
    short (keyword_short (codes "topic")) _ (λ _.
    next name_short _ (λ _.
    next (sign_short (codes ":")) _ (λ _.
    next shape_short _ (λ _.
    next (sign_short (codes "=")) _ (λ _.
    next init_short _ (λ _.
    next (sign_short (codes ";")) _ (λ _.
    over _))))))))

whole_short : Short whole_at
unfolding whole_at
whole_short = short (keyword_short (codes "int")) _ (λ _. over _)

scaled_short : Short scaled_at
unfolding scaled_at
scaled_short = short fix_short _ (λ _. over _)

scale_short : Short scale_at
unfolding scale_at
scale_short = either (begins (is_keyword (codes "int"))) _ _ _ whole_short scaled_short

pub state_short : Short state_at
unfolding state_at
state_short = short name_short _ (λ _. next (sign_short (codes ":")) _ (λ _. next scale_short _ (λ _. over _)))

pub next_short : (room : ℕ) → Short (next_at room)
unfolding next_at
next_short room =
    short (keyword_short (codes "next")) _ (λ _.
    next name_short _ (λ _.
    next (sign_short (codes "=")) _ (λ _.
    slim (tree_slim room) _ (λ _.
    next (sign_short (codes ";")) _ (λ _.
    over _)))))

signals_short : Short signals_at
unfolding signals_at
signals_short =
    short (clause_short (codes "state") state_at state_short) _ (λ _.
    slim (optional_slim (codes "input") name_at name_short) _ (λ _.
    slim (optional_slim (codes "sees") name_at name_short) _ (λ _.
    slim (optional_slim (codes "noise") named_scalar_at named_scalar_short) _ (λ _.
    over _))))

plant_short : (room : ℕ) → Short (plant_at room)
unfolding plant_at
plant_short room =
    short (keyword_short (codes "plant")) _ (λ _.
    next name_short _ (λ _.
    next (sign_short (codes "{")) _ (λ _.
    next signals_short _ (λ _.
    slim (all_slim (begins (is_keyword (codes "next"))) (next_at room) (next_short room)) _ (λ _.
    next (sign_short (codes "}")) _ (λ _.
    over _))))))

timing_short : Short timing_at
unfolding timing_at
timing_short =
    short (keyword_short (codes "period")) _ (λ _.
    next number_short _ (λ _.
    next (keyword_short (codes "offset")) _ (λ _.
    next number_short _ (λ _.
    over _))))

pub local_short : Short local_at
unfolding local_at
local_short =
    short (keyword_short (codes "local")) _ (λ _.
    next name_short _ (λ _.
    next (sign_short (codes ":")) _ (λ _.
    next scalar_short _ (λ _.
    next (sign_short (codes "=")) _ (λ _.
    next const_short _ (λ _.
    next (sign_short (codes ";")) _ (λ _.
    over _)))))))

head_short : Short head_at
unfolding head_at
head_short =
    short name_short _ (λ _.
    next timing_short _ (λ _.
    next (sign_short (codes "{")) _ (λ _.
    slim (optional_slim (codes "reads") name_at name_short) _ (λ _.
    slim (optional_slim (codes "writes") name_at name_short) _ (λ _.
    over _)))))

code_slim : (room : ℕ) → Slim (code_at room)
unfolding code_at
code_slim room =
    slim (all_slim (begins (is_keyword (codes "local"))) local_at local_short) _ (λ _.
    next (keyword_short (codes "do")) _ (λ _.
    next (body_short room) _ (λ _.
    over _)))

coded_short : (room : ℕ) → Short (coded_at room)
unfolding coded_at
coded_short room =
    short (keyword_short (codes "node")) _ (λ _. next head_short _ (λ _. slim (code_slim room) _ (λ _. next (sign_short (codes "}")) _ (λ _. over _))))

external_short : Short external_at
unfolding external_at
external_short = short (keyword_short (codes "external")) _ (λ _. next head_short _ (λ _. next (sign_short (codes "}")) _ (λ _. over _)))

pub box_short : Short box_at
unfolding box_at
box_short =
    short (sign_short (codes "[")) _ (λ _.
    next (separated_short (codes ",") side_at side_short) _ (λ _.
    next (sign_short (codes "]")) _ (λ _.
    over _)))

no_box_short : Short no_box_at
unfolding no_box_at
no_box_short = short (keyword_short (codes "none")) _ (λ _. over _)

region_short : Short region_at
unfolding region_at
region_short = either (begins (is_keyword (codes "none"))) _ _ _ no_box_short (separated_short (codes "|") box_at box_short)

bound_short : (text : List ℕ) → Short (bound_at text)
unfolding bound_at
bound_short text = short (keyword_short text) _ (λ _. next region_short _ (λ _. next (sign_short (codes ";")) _ (λ _. over _)))

role_short : (text : List ℕ) → Short (role_at text)
unfolding role_at
role_short text = short (keyword_short text) _ (λ _. next name_short _ (λ _. next (sign_short (codes ";")) _ (λ _. over _)))

pairing_short : Short pairing_at
unfolding pairing_at
pairing_short =
    short (role_short (codes "ac")) _ (λ _.
    next (role_short (codes "sc")) _ (λ _.
    next timing_short _ (λ _.
    next (sign_short (codes ";")) _ (λ _.
    next (role_short (codes "plant")) _ (λ _.
    over _)))))

bounds_short : Short bounds_at
unfolding bounds_at
bounds_short = short (bound_short (codes "safe")) _ (λ _. next (bound_short (codes "safer")) _ (λ _. over _))

module_short : Short module_at
unfolding module_at
module_short =
    short (keyword_short (codes "module")) _ (λ _.
    next name_short _ (λ _.
    next (sign_short (codes "{")) _ (λ _.
    next pairing_short _ (λ _.
    next bounds_short _ (λ _.
    next (sign_short (codes "}")) _ (λ _.
    over _))))))

a_topic_short : Short a_topic_at
unfolding a_topic_at
a_topic_short = short topic_short _ (λ _. over _)

a_plant_short : (room : ℕ) → Short (a_plant_at room)
unfolding a_plant_at
a_plant_short room = short (plant_short room) _ (λ _. over _)

a_coded_short : (room : ℕ) → Short (a_coded_at room)
unfolding a_coded_at
a_coded_short room = short (coded_short room) _ (λ _. over _)

an_external_short : Short an_external_at
unfolding an_external_at
an_external_short = short external_short _ (λ _. over _)

a_module_short : Short a_module_at
unfolding a_module_at
a_module_short = short module_short _ (λ _. over _)

pub declaration_short : (room : ℕ) → Short (declaration_at room)
unfolding declaration_at
declaration_short room =
    either (λ ts. begins (is_keyword (codes "topic")) ts || begins (is_keyword (codes "environment")) ts) _ _ _ a_topic_short
    (either (begins (is_keyword (codes "plant"))) _ _ _ (a_plant_short room)
    (either (begins (is_keyword (codes "node"))) _ _ _ (a_coded_short room)
    (either (begins (is_keyword (codes "external"))) _ _ _ an_external_short a_module_short)))

-- the same of what a function returned
abbrev IsShorter : {X : Type 0} → Result X Fail → Ahead → Ahead → Type 0
IsShorter r before after = IfOk r (λ _. length after.tokens < length before.tokens)

short_result : {X : Type 0} (g : List Lexeme → Read X) → Short g → (r : Result X Fail) (before after : Ahead) → Gives (λ x. x) r before after (g before.tokens)
    → IsShorter r before after
short_result g short_g (Ok x) before after gives = short_g before.tokens (x, after.tokens) gives.0
short_result g short_g (Err e) before after gives = tt

pub side_result : (r : Result Bounds Fail) (before after : Ahead) → Gives (λ x. x) r before after (side_at before.tokens) → IsShorter r before after
side_result = short_result side_at side_short

pub named_scalar_result : (r : Result Field Fail) (before after : Ahead) → Gives (λ x. x) r before after (named_scalar_at before.tokens)
    → IsShorter r before after
named_scalar_result = short_result named_scalar_at named_scalar_short

pub const_result : (r : Result Const Fail) (before after : Ahead) → Gives (λ x. x) r before after (const_at before.tokens) → IsShorter r before after
const_result = short_result const_at const_short

pub state_result : (r : Result StateDecl Fail) (before after : Ahead) → Gives (λ x. x) r before after (state_at before.tokens) → IsShorter r before after
state_result = short_result state_at state_short
