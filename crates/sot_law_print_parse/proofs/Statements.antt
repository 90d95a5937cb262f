-- Statements and blocks.
use Rattle.std.proofs.Common.{ℕ, ◌+◌, List, [], ◌∷◌, ◌++◌, Option, None, Some, codes, refl, ap, ap₂, arith}
use Rattle.std.specs.Option.{option_map}
use Rattle.std.proofs.lemmas.Int.{clamps}
use Rattle.std.proofs.Math.Nat.{le_refl}
use Rattle.sot_text.specs.Reading.{Lexeme}
use Rattle.sot_syntax_tree.specs.declared.tree.Ident.{Ident}
use Rattle.sot_syntax_tree.specs.declared.tree.Lit.{Lit}
use Rattle.sot_syntax_tree.specs.Trees.{Tree, Statement, Block, assigned, published, branched, repeated, statement}
use Rattle.sot_parser.specs.Pieces.{Keyword, Sign, Named, Digits, spelled_number, name_of, number_of, maybe}
use Rattle.sot_parser.specs.Statements.{ExpressionForm, spelled_expression, expression_of, AssignForm, DotForm, spelled_dot, dot_of, PublishForm, StatementForm}
use Rattle.sot_parser.specs.Statements.{BlockForm, ElseForm, StatementsForm, an_assign, a_publish, an_if, a_repeat, braces, no_else, with_else, no_more}
use Rattle.sot_parser.specs.Statements.{one_more, spelled_statement, spelled_block, spelled_else, spelled_statements, statement_of, block_of, else_of}
use Rattle.sot_parser.specs.Statements.{statements_of, statement_levels, block_levels, else_levels, statements_levels}
use Rattle.sot_print.specs.declared.gap.Gap.{Gap}
use Rattle.sot_print.specs.declared.gap.Gap.TheVariants.{Space, Line}
use Rattle.sot_print.specs.Words.{Word, sign}
use Rattle.sot_print.specs.Leaves.{literal_words, reference_words}
use Rattle.sot_print.specs.Expressions.{expression_words}
use Rattle.sot_print.specs.Statements.{semicolon, braced_words, otherwise_words, statement_words, block_words}
use Rattle.sot_syntax_tree.specs.Formed.{IsName as IsNameText, IfThere, IsStatement, IsBlock}
use Rattle.sot_law_print_parse.specs.Unplaced.{nowhere, unplaced_name, unplaced_statement, unplaced_block}
use Rattle.sot_law_print_parse.proofs.Takes.{Takes, split, a_keyword, a_sign, a_name, led, onto}
use Rattle.sot_law_print_parse.proofs.Texts.{AreTexts}
use Rattle.sot_law_print_parse.proofs.Kept.{Production, Again, Kept, no_level, also}
use Rattle.sot_law_print_parse.proofs.Leaves.{same_name, name_text, numbers, numbers_keep}
use Rattle.sot_law_print_parse.proofs.Expressions.{expressions, expressions_keep, ended_again}

-- a statement
abbrev pub statements : Production ℕ StatementForm Statement
statements = record {
  spelled = spelled_statement;
  tree = statement_of;
  unplaced = unplaced_statement;
  levels = statement_levels;
  Holds = IsStatement;
  words = λ indent s. statement_words s indent;
}

assign_again : (a : AssignForm) → Kept expressions a.value → (indent : ℕ) (ts us : List Lexeme)
    → Takes ts (statement_words (statement_of (an_assign a)) indent) us → Again statements (an_assign a) ts us
assign_again a value indent ts us h =
    let becomes = h.2 in
    let e = ended_again a.value value becomes.0 us becomes.2 in
    record {
      form = an_assign (record { target = a_name h.1; becomes = a_sign becomes.1; value = e.form; semicolon = e.last });
      tokens = led h.1 (led becomes.1 e.tokens);
      same = ap₂ assigned (same_name h.1.text) e.same;
      nests = e.nests;
    }

assigns_keep : (a : AssignForm) (more : List Lexeme) → AreTexts (spelled_statement (an_assign a) more) → Kept statements (an_assign a) × AreTexts more
assigns_keep a more texts =
    let value = expressions_keep a.value (a.semicolon.token ∷ more) texts.1.1 in
    (record { holds = (name_text a.target.token a.target.is texts.0, value.0.holds); again = assign_again a value.0 }, value.1.1)

-- NAME ["." NAME]
record Reference : Type 0 where
  first : Named
  field : Option DotForm

abbrev pair : Ident → Option Ident → Ident × Option Ident
pair first field = (first, field)

abbrev references : Production Gap Reference (Ident × Option Ident)
references = record {
  spelled = λ r more. r.first.token ∷ maybe spelled_dot r.field more;
  tree = λ r. (name_of r.first, dot_of r.field);
  unplaced = λ r. (unplaced_name r.0, option_map unplaced_name r.1);
  levels = no_level;
  Holds = λ r. IsNameText r.0 × IfThere IsNameText r.1;
  words = λ gap r. reference_words gap r.0 r.1;
}

reference_keeps : (first : Named) (field : Option DotForm) (more : List Lexeme) → AreTexts (first.token ∷ maybe spelled_dot field more)
    → Kept references (record { first = first; field = field }) × AreTexts more
reference_keeps first None more texts = (
  record {
    holds = (name_text first.token first.is texts.0, tt);
    again = λ gap ts us h.
        record {
          form = record { first = a_name h.1; field = None };
          tokens = led h.1 h.2;
          same = ap (λ (i : Ident). pair i None) (same_name h.1.text);
          nests = le_refl 0;
        };
  },
  texts.1,
)
reference_keeps first (Some dot) more texts = (
  record {
    holds = (name_text first.token first.is texts.0, name_text dot.name.token dot.name.is texts.1.1.0);
    again = λ gap ts us h.
        let point = h.2 in
        let last = point.2 in
        record {
          form = record { first = a_name h.1; field = Some (record { dot = a_sign point.1; name = a_name last.1 }) };
          tokens = led h.1 (led point.1 (led last.1 last.2));
          same = ap₂ (λ (i j : Ident). pair i (Some j)) (same_name h.1.text) (same_name last.1.text);
          nests = le_refl 0;
        };
  },
  texts.1.1.1,
)

publish_again : (p : PublishForm) → Kept references (record { first = p.topic; field = p.field }) → Kept expressions p.value
    → (indent : ℕ) (ts us : List Lexeme) → Takes ts (statement_words (statement_of (a_publish p)) indent) us → Again statements (a_publish p) ts us
publish_again p target value indent ts us h =
    let goal_words : List Word = reference_words Space (name_of p.topic) (dot_of p.field) in
    let value_words : List Word = expression_words (expression_of p.value) Space in
    let outer = split (goal_words ++ sign Space (codes "=") ∷ value_words) semicolon h.0 us h.2 in
    let inner = split goal_words (sign Space (codes "=") ∷ value_words) h.0 outer.0 outer.1 in
    let a = target.again Space h.0 inner.0 inner.1 in
    let equals = inner.2 in
    let e = value.again Space equals.0 outer.0 equals.2 in
    let last = outer.2 in
    record {
      form =
          a_publish (record {
            word = a_keyword h.1;
            topic = a.form.first;
            field = a.form.field;
            equals = a_sign equals.1;
            value = e.form;
            semicolon = a_sign last.1;
          });
      tokens =
          led h.1 (onto (λ vs. a.form.first.token ∷ maybe spelled_dot a.form.field vs) a.tokens (
          led equals.1 (onto (spelled_expression e.form) e.tokens (led last.1 last.2))));
      same = ap₂ (λ (r : Ident × Option Ident) (v : Tree). published r.0 r.1 v) a.same e.same;
      nests = e.nests;
    }

publishes_keep : (p : PublishForm) (more : List Lexeme) → AreTexts (spelled_statement (a_publish p) more) → Kept statements (a_publish p) × AreTexts more
publishes_keep p more texts =
    let target = reference_keeps p.topic p.field (p.equals.token ∷ spelled_expression p.value (p.semicolon.token ∷ more)) texts.1 in
    let value = expressions_keep p.value (p.semicolon.token ∷ more) target.1.1 in
    (record { holds = (target.0.holds.0, target.0.holds.1, value.0.holds); again = publish_again p target.0 value.0 }, value.1.1)

-- blocks
abbrev pub blocks : Production ℕ StatementsForm Block
blocks = record {
  spelled = spelled_statements;
  tree = statements_of;
  unplaced = unplaced_block;
  levels = statements_levels;
  Holds = IsBlock;
  words = λ indent b. block_words b indent;
}

abbrev pub bodies : Production ℕ BlockForm Block
bodies = record {
  spelled = spelled_block;
  tree = block_of;
  unplaced = unplaced_block;
  levels = block_levels;
  Holds = IsBlock;
  words = λ indent b. braced_words indent (block_words b);
}

abbrev otherwises : Production ℕ ElseForm Block
otherwises = record {
  spelled = spelled_else;
  tree = else_of;
  unplaced = unplaced_block;
  levels = else_levels;
  Holds = IsBlock;
  words = λ indent b. otherwise_words b indent (block_words b);
}

braced_again : (opening : Sign (codes "{")) (body : StatementsForm) (closing : Sign (codes "}")) → Kept blocks body
    → (indent : ℕ) (ts us : List Lexeme) → Takes ts (braced_words indent (block_words (statements_of body))) us
    → Again bodies (braces opening body closing) ts us
braced_again opening body closing kept indent ts us h =
    let parts = split (block_words (statements_of body) (indent + 2)) (sign (Line indent) (codes "}") ∷ []) h.0 us h.2 in
    let a = kept.again (indent + 2) h.0 parts.0 parts.1 in
    let last = parts.2 in
    record {
      form = braces (a_sign h.1) a.form (a_sign last.1);
      tokens = led h.1 (onto (spelled_statements a.form) a.tokens (led last.1 last.2));
      same = a.same;
      nests = a.nests;
    }

kept_body : (opening : Sign (codes "{")) (body : StatementsForm) (closing : Sign (codes "}")) → Kept blocks body → Kept bodies (braces opening body closing)
kept_body opening body closing kept = record { holds = kept.holds; again = braced_again opening body closing kept }

-- an empty block behind `else` is left out
kept_else : (word : Keyword (codes "else")) (body : BlockForm) → Kept bodies body → Kept otherwises (with_else word body)
kept_else word (braces opening no_more closing) kept = record {
  holds = tt;
  again = λ indent ts us h. record { form = no_else; tokens = h; same = refl; nests = le_refl 0 };
}
kept_else word (braces opening (one_more s rest_) closing) kept = record {
  holds = kept.holds;
  again = λ indent ts us h.
      let a = kept.again indent h.0 us h.2 in
      record { form = with_else (a_keyword h.1) a.form; tokens = led h.1 a.tokens; same = a.same; nests = a.nests };
}

branch_again : (word : Keyword (codes "if")) (cond : ExpressionForm) (yes_ : BlockForm) (no_ : ElseForm) → Kept expressions cond → Kept bodies yes_
    → Kept otherwises no_
    → (indent : ℕ) (ts us : List Lexeme) → Takes ts (statement_words (statement_of (an_if word cond yes_ no_)) indent) us
    → Again statements (an_if word cond yes_ no_) ts us
branch_again word cond yes_ no_ cond_kept yes_kept no_kept indent ts us h =
    let of_cond : List Word = expression_words (expression_of cond) Space in
    let of_yes : List Word = braced_words indent (block_words (block_of yes_)) in
    let of_no : List Word = otherwise_words (else_of no_) indent (block_words (else_of no_)) in
    let outer = split (of_cond ++ of_yes) of_no h.0 us h.2 in
    let inner = split of_cond of_yes h.0 outer.0 outer.1 in
    let a = cond_kept.again Space h.0 inner.0 inner.1 in
    let b = yes_kept.again indent inner.0 outer.0 inner.2 in
    let c = no_kept.again indent outer.0 us outer.2 in
    record {
      form = an_if (a_keyword h.1) a.form b.form c.form;
      tokens = led h.1 (onto (spelled_expression a.form) a.tokens (onto (spelled_block b.form) b.tokens c.tokens));
      same = also (ap₂ (λ e x y. branched e x y nowhere) a.same b.same) c.same;
      nests = omega (arith, clamps, a.nests, b.nests, c.nests);
    }

kept_branch : (word : Keyword (codes "if")) (cond : ExpressionForm) (yes_ : BlockForm) (no_ : ElseForm) → Kept expressions cond → Kept bodies yes_
    → Kept otherwises no_ → Kept statements (an_if word cond yes_ no_)
kept_branch word cond yes_ no_ cond_kept yes_kept no_kept = record {
  holds = (cond_kept.holds, yes_kept.holds, no_kept.holds);
  again = branch_again word cond yes_ no_ cond_kept yes_kept no_kept;
}

repeat_again : (word : Keyword (codes "repeat")) (times : Digits) (body : BlockForm) → Kept numbers times → Kept bodies body
    → (indent : ℕ) (ts us : List Lexeme) → Takes ts (statement_words (statement_of (a_repeat word times body)) indent) us
    → Again statements (a_repeat word times body) ts us
repeat_again word times body count kept indent ts us h =
    let parts = split (literal_words Space (number_of times)) (braced_words indent (block_words (block_of body))) h.0 us h.2 in
    let a = count.again Space h.0 parts.0 parts.1 in
    let b = kept.again indent parts.0 us parts.2 in
    record {
      form = a_repeat (a_keyword h.1) a.form b.form;
      tokens = led h.1 (onto (spelled_number a.form) a.tokens b.tokens);
      same = ap₂ (λ (n : Lit) (x : Block). repeated n x nowhere) a.same b.same;
      nests = omega (arith, b.nests);
    }

kept_repeat : (word : Keyword (codes "repeat")) (times : Digits) (body : BlockForm) → Kept numbers times → Kept bodies body
    → Kept statements (a_repeat word times body)
kept_repeat word times body count kept = record { holds = (count.holds, kept.holds); again = repeat_again word times body count kept }

row_again : (s : StatementForm) (rest_ : StatementsForm) → Kept statements s → Kept blocks rest_
    → (indent : ℕ) (ts us : List Lexeme) → Takes ts (block_words (statements_of (one_more s rest_)) indent) us → Again blocks (one_more s rest_) ts us
row_again s rest_ first others indent ts us h =
    let parts = split (statement_words (statement_of s) indent) (block_words (statements_of rest_) indent) ts us h in
    let a = first.again indent ts parts.0 parts.1 in
    let b = others.again indent parts.0 us parts.2 in
    record {
      form = one_more a.form b.form;
      tokens = onto (spelled_statement a.form) a.tokens b.tokens;
      same = ap₂ statement a.same b.same;
      nests = omega (arith, clamps, a.nests, b.nests);
    }

kept_row : (s : StatementForm) (rest_ : StatementsForm) → Kept statements s → Kept blocks rest_ → Kept blocks (one_more s rest_)
kept_row s rest_ first others = record { holds = (first.holds, others.holds); again = row_again s rest_ first others }

kept_none : Kept blocks no_more
kept_none = record { holds = tt; again = λ indent ts us h. record { form = no_more; tokens = h; same = refl; nests = le_refl 0 } }

kept_no_else : Kept otherwises no_else
kept_no_else = record { holds = tt; again = λ indent ts us h. record { form = no_else; tokens = h; same = refl; nests = le_refl 0 } }

mutual
  pub statements_keep : (s : StatementForm) (more : List Lexeme) → AreTexts (spelled_statement s more) → Kept statements s × AreTexts more
  statements_keep (an_assign a) more texts = assigns_keep a more texts
  statements_keep (a_publish p) more texts = publishes_keep p more texts
  statements_keep (an_if word cond yes_ no_) more texts =
      let a = expressions_keep cond (spelled_block yes_ (spelled_else no_ more)) texts.1 in
      let b = bodies_keep yes_ (spelled_else no_ more) a.1 in
      let c = otherwises_keep no_ more b.1 in
      (kept_branch word cond yes_ no_ a.0 b.0 c.0, c.1)
  statements_keep (a_repeat word times body) more texts =
      let a = numbers_keep times (spelled_block body more) texts.1 in
      let b = bodies_keep body more a.1 in
      (kept_repeat word times body a.0 b.0, b.1)

  pub bodies_keep : (b : BlockForm) (more : List Lexeme) → AreTexts (spelled_block b more) → Kept bodies b × AreTexts more
  bodies_keep (braces opening body closing) more texts =
      let a = blocks_keep body (closing.token ∷ more) texts.1 in
      (kept_body opening body closing a.0, a.1.1)

  otherwises_keep : (e : ElseForm) (more : List Lexeme) → AreTexts (spelled_else e more) → Kept otherwises e × AreTexts more
  otherwises_keep no_else more texts = (kept_no_else, texts)
  otherwises_keep (with_else word body) more texts =
      let a = bodies_keep body more texts.1 in
      (kept_else word body a.0, a.1)

  pub blocks_keep : (ss : StatementsForm) (more : List Lexeme) → AreTexts (spelled_statements ss more) → Kept blocks ss × AreTexts more
  blocks_keep no_more more texts = (kept_none, texts)
  blocks_keep (one_more s rest_) more texts =
      let a = statements_keep s (spelled_statements rest_ more) texts in
      let b = blocks_keep rest_ more a.1 in
      (kept_row s rest_ a.0 b.0, b.1)
