-- Statements: where reading stops, what was read begins a form.
use Rattle.std.proofs.Common.{◌≡◌, ℕ, zero, suc, cond, ◌==◌, ◌||◌, List, [], ◌∷◌, ◌++◌, Bool, true, false, codes, None, Some, Err, refl, sym, ap, ◌∙◌}
use Rattle.std.proofs.Common.{append_assoc, arith}
use Rattle.std.proofs.lemmas.Bool.Decides.{nat_tests}
use Rattle.sot_text.specs.Reading.{Lexeme}
use Rattle.sot_syntax_tree.specs.Trees.{Tree, Statement, Block}
use Rattle.sot_expression.specs.Lexemes.{begins, is_sign, is_keyword, is_name}
use Rattle.sot_expression.specs.Readers.{Read, Fault, deep}
use Rattle.sot_expression.specs.ExpressionReaders.{tree_at}
use Rattle.sot_expression.proofs.TokenTests.{name_ok, keyword_ok}
use Rattle.sot_parser.specs.Pieces.{Keyword, Sign, Digits, each, maybe, spelled_keyword, spelled_sign, spelled_number}
use Rattle.sot_parser.specs.Statements.{ExpressionForm, spelled_expression, expression_of, AssignForm, spelled_assign, spelled_dot, PublishForm}
use Rattle.sot_parser.specs.Statements.{spelled_publish, StatementForm, an_assign, a_publish, an_if, a_repeat, BlockForm, braces, ElseForm, no_else, with_else}
use Rattle.sot_parser.specs.Statements.{StatementsForm, no_more, one_more, spelled_statement, spelled_block, spelled_else, spelled_statements, statement_of}
use Rattle.sot_parser.specs.Statements.{block_of}
use Rattle.sot_parser.specs.StatementReaders.{assign_at, field_at, dot_at, publish_at, plain_at, otherwise_at, else_at, branch_at, loop_at, choice_at}
use Rattle.sot_parser.specs.StatementReaders.{nested_at, begins_nested, begins_statement, goes_on, block_at, statement_with, statement_at}
use Rattle.sot_parser.proofs.SoundSteps.{Sound, keyword_sound, sign_sound, name_sound, number_sound}
use Rattle.sot_parser.proofs.StatementsSound.{TreeFits, StatementFits, BlockFits, tree_sound, dot_sound, statements_from, statements_spelled, block_sound}
use Rattle.sot_parser.proofs.StatementsSound.{statement_sound}
use Rattle.sot_parser.proofs.ListsSound.{all_sound}
use Rattle.sot_law_fault_place.proofs.Stops.{err, real_append, Spelling, Appends, Begun, Stop, Stops, Twin, both, inside, stop_inside, stops_inside}
use Rattle.sot_law_fault_place.proofs.Stops.{either_stops, cases_stops, never_stops, too_deep, twin_of, then_twin, last_twin}
use Rattle.sot_law_fault_place.proofs.Tokens.{becomes_real, close_brace_real, dot_real, equals_real, open_brace_real, semicolon_real, begun_by, sign, name}
use Rattle.sot_law_fault_place.proofs.Tokens.{digits, keyword_twin, sign_twin, name_twin, number_twin, stays_at}
use Rattle.sot_law_fault_place.proofs.ListStops.{maybe_appends, all_twin}
use Rattle.sot_law_fault_place.proofs.ExpressionStops.{tree_twin}

assign_twin : (room : ℕ) (expression : List Lexeme → Read Tree) → Sound spelled_expression expression_of (TreeFits room) expression
    → Twin spelled_expression expression → Twin spelled_assign (assign_at expression)
unfolding assign_at
assign_twin room expression sound twin =
    twin_of (λ p. record { target = p.0; becomes = p.1.0; value = p.1.1.0; semicolon = p.1.1.1 }) (λ a. (a.target, (a.becomes, (a.value, a.semicolon))))
    (λ p behind. refl) (λ a behind. refl)
    (then_twin name_sound name_twin _ (λ _. then_twin (sign_sound (codes ":=")) (sign_twin (codes ":=") becomes_real) _
    (λ _. then_twin sound twin _ (λ _. last_twin (sign_twin (codes ";") semicolon_real) (λ x. (_, refl))))))

dot_chain : Twin spelled_dot field_at
unfolding field_at
dot_chain =
    twin_of (λ p. record { dot = p.0; name = p.1 }) (λ d. (d.dot, d.name)) (λ p behind. refl) (λ d behind. refl)
    (then_twin (sign_sound (codes ".")) (sign_twin (codes ".") dot_real) _ (λ _. last_twin name_twin (λ x. (_, refl))))

dot_twin : Twin (maybe spelled_dot) dot_at
unfolding dot_at
dot_twin = record {
  appends = maybe_appends spelled_dot dot_chain.appends;
  some = begun_by None [] tt (λ behind. refl);
  stops = either_stops (begins (is_sign (codes "."))) _ _ (stops_inside Some (λ f behind. refl) dot_chain.stops) (never_stops _ (λ ts. (_, refl)));
}

publish_twin : (room : ℕ) (expression : List Lexeme → Read Tree) → Sound spelled_expression expression_of (TreeFits room) expression
    → Twin spelled_expression expression → Twin spelled_publish (publish_at expression)
unfolding publish_at
publish_twin room expression sound twin =
    twin_of (λ p. record { word = p.0; topic = p.1.0; field = p.1.1.0; equals = p.1.1.1.0; value = p.1.1.1.1.0; semicolon = p.1.1.1.1.1 })
    (λ q. (q.word, (q.topic, (q.field, (q.equals, (q.value, q.semicolon)))))) (λ p behind. refl) (λ q behind. refl)
    (then_twin (keyword_sound (codes "publish")) (keyword_twin (codes "publish") refl) _
    (λ _. then_twin name_sound name_twin _ (λ _. then_twin dot_sound dot_twin _ (λ _.
    then_twin (sign_sound (codes "=")) (sign_twin (codes "=") equals_real) _
    (λ _. then_twin sound twin _ (λ _. last_twin (sign_twin (codes ";") semicolon_real) (λ x. (_, refl))))))))

-- what stands behind a form of any kind stays
assign_appends : (room : ℕ) (a : AssignForm) → Appends (spelled_assign a)
assign_appends room a = (assign_twin (suc room) (tree_at (suc room)) (tree_sound (suc room)) (tree_twin room)).appends a

publish_appends : (room : ℕ) (p : PublishForm) → Appends (spelled_publish p)
publish_appends room p = (publish_twin (suc room) (tree_at (suc room)) (tree_sound (suc room)) (tree_twin room)).appends p

mutual
  statement_appends : (s : StatementForm) → Appends (spelled_statement s)
  statement_appends (an_assign a) us vs = assign_appends zero a us vs
  statement_appends (a_publish p) us vs = publish_appends zero p us vs
  statement_appends (an_if word cond_ yes_ no_) us vs =
      ap (λ ws. word.token ∷ ws) (ap (λ ws. spelled_expression cond_ ws)
      (ap (λ ws. spelled_block yes_ ws) (else_appends no_ us vs) ∙ block_appends yes_ (spelled_else no_ us) vs)
      ∙ (tree_twin zero).appends cond_ (spelled_block yes_ (spelled_else no_ us)) vs)
  statement_appends (a_repeat word times body) us vs = ap (λ ws. word.token ∷ times.token ∷ ws) (block_appends body us vs)

  block_appends : (b : BlockForm) → Appends (spelled_block b)
  block_appends (braces opening body closing) us vs = ap (λ ws. opening.token ∷ ws) (statements_append body (closing.token ∷ us) vs)

  else_appends : (b : ElseForm) → Appends (spelled_else b)
  else_appends no_else us vs = refl
  else_appends (with_else word body) us vs = ap (λ ws. word.token ∷ ws) (block_appends body us vs)

  statements_append : (ss : StatementsForm) → Appends (spelled_statements ss)
  statements_append no_more us vs = refl
  statements_append (one_more s rest_) us vs = ap (spelled_statement s) (statements_append rest_ us vs) ∙ statement_appends s (spelled_statements rest_ us) vs

some_assign : Begun spelled_statement []
some_assign = inside an_assign (λ f behind. refl) (assign_twin 1 (tree_at 1) (tree_sound 1) (tree_twin zero)).some

plain_stops : (room : ℕ) (expression : List Lexeme → Read Tree) → Sound spelled_expression expression_of (TreeFits room) expression
    → Twin spelled_expression expression → Stops spelled_statement (plain_at expression)
unfolding plain_at
plain_stops room expression sound twin =
    either_stops (begins (is_keyword (codes "publish"))) _ _ (stops_inside a_publish (λ f behind. refl) (publish_twin room expression sound twin).stops)
    (stops_inside an_assign (λ f behind. refl) (assign_twin room expression sound twin).stops)

otherwise_twin : (block : List Lexeme → Read Block) → Twin spelled_block block
    → Twin (both (spelled_keyword {text = codes "else"}) spelled_block) (otherwise_at block)
unfolding otherwise_at
otherwise_twin block twin = then_twin (keyword_sound (codes "else")) (keyword_twin (codes "else") refl) _ (λ _. twin)

else_twin : (block : List Lexeme → Read Block) → Twin spelled_block block → Twin spelled_else (else_at block)
unfolding else_at
else_twin block twin = record {
  appends = else_appends;
  some = begun_by no_else [] tt (λ behind. refl);
  stops =
      either_stops (begins (is_keyword (codes "else"))) _ _ (stops_inside (λ p. with_else p.0 p.1) (λ p behind. refl) (otherwise_twin block twin).stops)
      (never_stops _ (λ ts. (_, refl)));
}

abbrev spelled_branch : Spelling (Keyword (codes "if") × (ExpressionForm × (BlockForm × ElseForm)))
spelled_branch = both spelled_keyword (both spelled_expression (both spelled_block spelled_else))

branch_twin : (room : ℕ) (expression : List Lexeme → Read Tree) (block : List Lexeme → Read Block)
    → Sound spelled_expression expression_of (TreeFits room) expression → Twin spelled_expression expression
    → Sound spelled_block block_of (BlockFits room) block → Twin spelled_block block → Twin spelled_branch (branch_at expression block)
unfolding branch_at
branch_twin room expression block expressions twin blocks block_twin_ =
    then_twin (keyword_sound (codes "if")) (keyword_twin (codes "if") refl) _
    (λ _. then_twin expressions twin _ (λ _. then_twin blocks block_twin_ _ (λ _. last_twin (else_twin block block_twin_) (λ x. (_, refl)))))

abbrev spelled_loop : Spelling (Keyword (codes "repeat") × (Digits × BlockForm))
spelled_loop = both spelled_keyword (both spelled_number spelled_block)

loop_twin : (block : List Lexeme → Read Block) → Twin spelled_block block → Twin spelled_loop (loop_at block)
unfolding loop_at
loop_twin block twin =
    then_twin (keyword_sound (codes "repeat")) (keyword_twin (codes "repeat") refl) _
    (λ _. then_twin number_sound number_twin _ (λ _. last_twin twin (λ x. (_, refl))))

-- forms that begin with a token that begins some statement
branch_begun : (t : Lexeme) → is_keyword (codes "if") t ≡ true → Begun spelled_statement (t ∷ [])
branch_begun t is =
    let word : Keyword (codes "if") = record { token = t; is = keyword_ok (codes "if") t is } in
    let empty : BlockForm = braces (sign (codes "{")) no_more (sign (codes "}")) in
    let value = (tree_twin zero).some in
    record {
      form = an_if word value.form empty no_else;
      more = value.more ++ ((sign (codes "{")).token ∷ (sign (codes "}")).token ∷ []);
      real = real_append value.more ((sign (codes "{")).token ∷ (sign (codes "}")).token ∷ []) value.real (open_brace_real, (close_brace_real, tt));
      spells =
          λ behind. ap (λ us. t ∷ us) (value.spells (spelled_block empty behind)
          ∙ sym (append_assoc value.more ((sign (codes "{")).token ∷ (sign (codes "}")).token ∷ []) behind));
    }

loop_begun : (t : Lexeme) → is_keyword (codes "repeat") t ≡ true → Begun spelled_statement (t ∷ [])
loop_begun t is =
    let word : Keyword (codes "repeat") = record { token = t; is = keyword_ok (codes "repeat") t is } in
    record {
      form = a_repeat word digits (braces (sign (codes "{")) no_more (sign (codes "}")));
      more =
          digits.token ∷ (sign (codes "{")).token ∷ (sign (codes "}")).token ∷ [];
      real =
          (refl, (open_brace_real, (close_brace_real, tt)));
      spells = λ behind. refl;
    }

publish_begun : (t : Lexeme) → is_keyword (codes "publish") t ≡ true → Begun spelled_statement (t ∷ [])
publish_begun t is =
    let value = (tree_twin zero).some in
    let semicolon = sign (codes ";") in
    let form : PublishForm = record {
      word = record { token = t; is = keyword_ok (codes "publish") t is };
      topic = name;
      field = None;
      equals = sign (codes "=");
      value = value.form;
      semicolon = semicolon;
    } in
    record {
      form = a_publish form;
      more = name.token ∷ (sign (codes "=")).token ∷ (value.more ++ semicolon.token ∷ []);
      real = (refl, (equals_real, real_append value.more (semicolon.token ∷ []) value.real (semicolon_real, tt)));
      spells =
          λ behind. ap (λ us. t ∷ name.token ∷ (sign (codes "=")).token ∷ us)
          (value.spells (semicolon.token ∷ behind) ∙ sym (append_assoc value.more (semicolon.token ∷ []) behind));
    }

assign_begun : (t : Lexeme) → is_name t ≡ true → Begun spelled_statement (t ∷ [])
assign_begun t is =
    let value = (tree_twin zero).some in
    let semicolon = sign (codes ";") in
    let form : AssignForm = record { target = record { token = t; is = name_ok t is }; becomes = sign (codes ":="); value = value.form; semicolon = semicolon }
    in
    record {
      form = an_assign form;
      more = (sign (codes ":=")).token ∷ (value.more ++ semicolon.token ∷ []);
      real = (becomes_real, real_append value.more (semicolon.token ∷ []) value.real (semicolon_real, tt));
      spells =
          λ behind. ap (λ us. t ∷ (sign (codes ":=")).token ∷ us)
          (value.spells (semicolon.token ∷ behind) ∙ sym (append_assoc value.more (semicolon.token ∷ []) behind));
    }

one_of : (a b : Bool) (P : Type 0) → (a || b) ≡ true → (a ≡ true → P) → (b ≡ true → P) → P
one_of true b P e f g = f refl
one_of false b P e f g = g e

statement_begun : (t : Lexeme) (ts : List Lexeme) → begins_statement (t ∷ ts) ≡ true → Begun spelled_statement (t ∷ [])
statement_begun t ts is =
    one_of (is_name t || is_keyword (codes "publish") t) (is_keyword (codes "if") t || is_keyword (codes "repeat") t) _ is
    (λ a. one_of (is_name t) (is_keyword (codes "publish") t) _ a (assign_begun t) (publish_begun t))
    (λ b. one_of (is_keyword (codes "if") t) (is_keyword (codes "repeat") t) _ b (branch_begun t) (loop_begun t))

-- a statement with others inside
choice_stops : (room : ℕ) (block : List Lexeme → Read Block) → Sound spelled_block block_of (BlockFits room) block → Twin spelled_block block
    → (ts : List Lexeme) (e : Fault × List Lexeme) → begins (is_keyword (codes "if")) ts ≡ true → choice_at room (tree_at room) block ts ≡ Err e
    → Stop spelled_statement e ts
choice_stops room block sound twin [] e is eq = absurd cc
choice_stops zero block sound twin (t ∷ ts) e is eq = too_deep t (branch_begun t is) ts e cc
choice_stops (suc r) block sound twin (t ∷ ts) e is eq =
    let some : (suc r == 0) ≡ false = grind (arith, nat_tests) in
    let e1 : branch_at (tree_at (suc r)) block (t ∷ ts) ≡ Err e = ap (λ b. cond b (err (deep, t ∷ ts)) (branch_at (tree_at (suc r)) block (t ∷ ts))) (sym some)
    ∙ eq in
    stop_inside (λ p. an_if p.0 p.1.0 p.1.1.0 p.1.1.1) (λ p behind. refl) e (t ∷ ts)
    ((branch_twin (suc r) (tree_at (suc r)) block (tree_sound (suc r)) (tree_twin r) sound twin).stops (t ∷ ts) e e1)

nested_stops : (room : ℕ) (block : List Lexeme → Read Block) → Sound spelled_block block_of (BlockFits room) block → Twin spelled_block block
    → Stops spelled_statement (nested_at room (tree_at room) block)
unfolding nested_at
nested_stops room block sound twin =
    cases_stops (begins (is_keyword (codes "if"))) _ _ (choice_stops room block sound twin)
    (stops_inside (λ p. a_repeat p.0 p.1.0 p.1.1) (λ p behind. refl) (loop_twin block twin).stops)

abbrev spelled_braces : Spelling (Sign (codes "{") × (List StatementForm × Sign (codes "}")))
spelled_braces = both spelled_sign (both (each spelled_statement) spelled_sign)

braces_twin : (room : ℕ) (item : List Lexeme → Read Statement) → Sound spelled_statement statement_of (StatementFits room) item → Twin spelled_statement item
    → Twin spelled_braces (block_at item)
unfolding block_at
braces_twin room item sound twin =
    then_twin (sign_sound (codes "{")) (sign_twin (codes "{") open_brace_real) _
    (λ _. then_twin (all_sound spelled_statement statement_of (StatementFits room) goes_on item sound) (all_twin goes_on item sound twin) _
    (λ _. last_twin (sign_twin (codes "}") close_brace_real) (λ x. (_, refl))))

block_twin : (room : ℕ) (item : List Lexeme → Read Statement) → Sound spelled_statement statement_of (StatementFits room) item → Twin spelled_statement item
    → Twin spelled_block (block_at item)
block_twin room item sound twin =
    let b = braces_twin room item sound twin in
    let whole : Sign (codes "{") × (List StatementForm × Sign (codes "}")) → BlockForm = λ p. braces p.0 (statements_from p.1.0) p.1.1 in
    let same : (p : Sign (codes "{") × (List StatementForm × Sign (codes "}"))) (behind : List Lexeme)
    → spelled_block (whole p) behind ≡ spelled_braces p behind = λ p behind.
    ap (λ us. p.0.token ∷ us) (sym (statements_spelled p.1.0 (p.1.1.token ∷ behind))) in
    record { appends = block_appends; some = inside whole same b.some; stops = stops_inside whole same b.stops }

with_stops : (room : ℕ) (nested : List Lexeme → Read Statement) → Stops spelled_statement nested → Stops spelled_statement (statement_with (suc room) nested)
with_stops room nested stops = either_stops begins_nested _ _ stops (plain_stops (suc room) (tree_at (suc room)) (tree_sound (suc room)) (tree_twin room))

no_room_stops : (ts : List Lexeme) (e : Fault × List Lexeme) → begins_statement ts ≡ true → err {A = Statement} (deep, ts) ≡ Err e → Stop spelled_statement e ts
no_room_stops [] e is eq = absurd cc
no_room_stops (t ∷ ts) e is eq = too_deep t (statement_begun t ts is) ts e cc

statement_stops : (room : ℕ) → Stops spelled_statement (statement_at room)
unfolding statement_at
statement_stops zero = cases_stops begins_statement _ _ no_room_stops (λ ts e eq. stays_at some_assign ts e cc)
statement_stops (suc r) =
    with_stops r _ (nested_stops r (block_at (statement_at r)) (block_sound r (statement_at r) (statement_sound r))
    (block_twin r (statement_at r) (statement_sound r) (record { appends = statement_appends; some = some_assign; stops = statement_stops r })))

pub statement_twin : (room : ℕ) → Twin spelled_statement (statement_at room)
statement_twin room = record { appends = statement_appends; some = some_assign; stops = statement_stops room }

pub body_twin : (room : ℕ) → Twin spelled_block (block_at (statement_at room))
body_twin room = block_twin room (statement_at room) (statement_sound room) (statement_twin room)
