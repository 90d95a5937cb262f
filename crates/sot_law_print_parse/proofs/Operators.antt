-- Operators, choices and a minus.
use Rattle.std.proofs.Common.{◌≡◌, ◌+◌, ◌<◌, List, ◌∷◌, ◌++◌, false, codes, refl, sym, ap, ap₂, ◌∙◌, subst, arith}
use Rattle.std.proofs.lemmas.Int.{clamps}
use Rattle.std.proofs.lemmas.Bool.{cond-false}
use Rattle.std.proofs.Math.Nat.{le_refl}
use Rattle.sot_text.specs.Lexeme.{IsTokenText}
use Rattle.sot_text.specs.Reading.{Lexeme}
use Rattle.sot_syntax_tree.specs.declared.operator.Op.{Op}
use Rattle.sot_syntax_tree.specs.declared.operator.Op.TheVariants.{Add, Sub, Mul, Div, Less, LessEqual, Greater, GreaterEqual, Equal, NotEqual, And, Or}
use Rattle.sot_syntax_tree.specs.declared.tree.Lit.{Lit}
use Rattle.sot_syntax_tree.specs.Trees.{Tree, number, binary, rest, negated, denied, chosen}
use Rattle.sot_expression.specs.Lexemes.{IsSign, IsNumber, literal, negative_literal}
use Rattle.sot_parser.specs.Pieces.{LiteralForm, plain, negative, spelled_literal, literal_of}
use Rattle.sot_expression.proofs.FirstTokens.{some_tier}
use Rattle.sot_expression.specs.Phrases.{Phrase, a_number, a_truth, a_name, a_field, a_group, an_abs, a_pair, a_clamp, a_rescale, a_minus, a_rest, a_join}
use Rattle.sot_expression.specs.Phrases.{a_not, an_if, spelled, IsOperator, IsPhrase, with_minus, tree_of, is_numeral, levels_of}
use Rattle.sot_print.specs.declared.gap.Gap.{Gap}
use Rattle.sot_print.specs.declared.gap.Gap.TheVariants.{Touching, Space}
use Rattle.sot_print.specs.Words.{Word, keyword, sign}
use Rattle.sot_print.specs.Leaves.{literal_words}
use Rattle.sot_print.specs.Expressions.{operator, operand_words, expression_words}
use Rattle.sot_syntax_tree.specs.Formed.{IsTree}
use Rattle.sot_law_print_parse.specs.Unplaced.{nowhere, unplaced_literal, unplaced_tree}
use Rattle.sot_law_print_parse.proofs.Takes.{Takes, split, led, onto}
use Rattle.sot_law_print_parse.proofs.Texts.{AreTexts}
use Rattle.sot_law_print_parse.proofs.Kept.{Kept, also}
use Rattle.sot_law_print_parse.proofs.Leaves.{numbers, negative_kept}
use Rattle.sot_law_print_parse.proofs.Phrases.{Rewritten, KeptPhrase, is_a_keyword, is_a_sign, grouped_again, operand_again}

-- operators
operator_word : (op : Op) (t : Lexeme) → t.kind ≡ (operator op).kind → t.text ≡ (operator op).text → IsOperator op t
operator_word Add t kind text = record { kind = kind; text_is = text }
operator_word Sub t kind text = record { kind = kind; text_is = text }
operator_word Mul t kind text = record { kind = kind; text_is = text }
operator_word Div t kind text = record { kind = kind; text_is = text }
operator_word Less t kind text = record { kind = kind; text_is = text }
operator_word LessEqual t kind text = record { kind = kind; text_is = text }
operator_word Greater t kind text = record { kind = kind; text_is = text }
operator_word GreaterEqual t kind text = record { kind = kind; text_is = text }
operator_word Equal t kind text = record { kind = kind; text_is = text }
operator_word NotEqual t kind text = record { kind = kind; text_is = text }
operator_word And t kind text = record { kind = kind; text_is = text }
operator_word Or t kind text = record { kind = kind; text_is = text }

join_again : (op : Op) (f : Phrase) (t : Lexeme) (g : Phrase) → KeptPhrase f → KeptPhrase g
    → (gap : Gap) (ts us : List Lexeme) → Takes ts (expression_words (tree_of (a_join op f t g)) gap) us → Rewritten (a_join op f t g) ts us
join_again op f t g left right gap ts us h =
    let parts = split (operand_words (tree_of f) gap (expression_words (tree_of f)))
    (operator op ∷ operand_words (tree_of g) Space (expression_words (tree_of g))) ts us h in
    let a = operand_again f left gap ts parts.0 parts.1 in
    let word = parts.2 in
    let b = operand_again g right Space word.0 us word.2 in
    record {
      form = a_join op a.form word.1.token b.form;
      is = (a.is, omega (arith, a.first_tier), operator_word op word.1.token word.1.kind word.1.text, b.is, omega (arith, b.first_tier, some_tier op));
      tokens = onto (spelled a.form) a.tokens (led word.1 b.tokens);
      same = ap₂ (λ x y. binary op x y nowhere) a.same b.same;
      nests = omega (arith, clamps, a.nests, b.nests);
      ungrouped = refl;
      first_tier = λ e. absurd cc;
    }

pub kept_join : (op : Op) (f : Phrase) (t : Lexeme) (g : Phrase) → KeptPhrase f → KeptPhrase g → KeptPhrase (a_join op f t g)
kept_join op f t g left right = record { holds = (left.holds, right.holds); again = join_again op f t g left right }

rest_again : (f : Phrase) (t n : Lexeme) (is : IsNumber n) → KeptPhrase f → Kept numbers (record { token = n; is = is })
    → (gap : Gap) (ts us : List Lexeme) → Takes ts (expression_words (tree_of (a_rest f t n)) gap) us → Rewritten (a_rest f t n) ts us
rest_again f t n is left by gap ts us h =
    let parts = split (operand_words (tree_of f) gap (expression_words (tree_of f))) (sign Space (codes "%") ∷ literal_words Space (literal n)) ts us h in
    let a = operand_again f left gap ts parts.0 parts.1 in
    let word = parts.2 in
    let b = by.again Space word.0 us word.2 in
    record {
      form = a_rest a.form word.1.token b.form.token;
      is = (a.is, omega (arith, a.first_tier), is_a_sign word.1, b.form.is);
      tokens = onto (spelled a.form) a.tokens (led word.1 b.tokens);
      same = ap₂ (λ (x : Tree) (y : Lit). rest x y nowhere) a.same b.same;
      nests = omega (arith, a.nests);
      ungrouped = refl;
      first_tier = λ e. absurd cc;
    }

pub kept_rest : (f : Phrase) (t n : Lexeme) (is : IsNumber n) → KeptPhrase f → Kept numbers (record { token = n; is = is }) → KeptPhrase (a_rest f t n)
kept_rest f t n is left by = record { holds = (left.holds, by.holds); again = rest_again f t n is left by }

not_again : (t : Lexeme) (f : Phrase) → KeptPhrase f → (gap : Gap) (ts us : List Lexeme) → Takes ts (expression_words (tree_of (a_not t f)) gap) us
    → Rewritten (a_not t f) ts us
not_again t f kept gap ts us h =
    let a = grouped_again f kept Space h.0 us h.2 in
    record {
      form = a_not h.1.token (a_group a.opening a.inner a.closing);
      is = (is_a_keyword h.1, a.is, omega arith);
      tokens = led h.1 a.tokens;
      same = ap (λ e. denied e nowhere) a.same;
      nests = omega (arith, a.nests);
      ungrouped = refl;
      first_tier = λ e. absurd cc;
    }

pub kept_not : (t : Lexeme) (f : Phrase) → KeptPhrase f → KeptPhrase (a_not t f)
kept_not t f kept = record { holds = kept.holds; again = not_again t f kept }

choice_again : (t : Lexeme) (c : Phrase) (u : Lexeme) (f : Phrase) (v : Lexeme) (g : Phrase) → KeptPhrase c → KeptPhrase f → KeptPhrase g
    → (gap : Gap) (ts us : List Lexeme) → Takes ts (expression_words (tree_of (an_if t c u f v g)) gap) us → Rewritten (an_if t c u f v g) ts us
choice_again t c u f v g cond_kept yes_kept no_kept gap ts us h =
    let of_cond : List Word = operand_words (tree_of c) Space (expression_words (tree_of c)) in
    let of_yes : List Word = keyword Space (codes "then") ∷ operand_words (tree_of f) Space (expression_words (tree_of f)) in
    let of_no : List Word = keyword Space (codes "else") ∷ operand_words (tree_of g) Space (expression_words (tree_of g)) in
    let outer = split (of_cond ++ of_yes) of_no h.0 us h.2 in
    let inner = split of_cond of_yes h.0 outer.0 outer.1 in
    let a = operand_again c cond_kept Space h.0 inner.0 inner.1 in
    let then_ = inner.2 in
    let b = operand_again f yes_kept Space then_.0 outer.0 then_.2 in
    let else_ = outer.2 in
    let d = operand_again g no_kept Space else_.0 us else_.2 in
    record {
      form = an_if h.1.token a.form then_.1.token b.form else_.1.token d.form;
      is = (is_a_keyword h.1, a.is, is_a_keyword then_.1, b.is, is_a_keyword else_.1, d.is);
      tokens = led h.1 (onto (spelled a.form) a.tokens (led then_.1 (onto (spelled b.form) b.tokens (led else_.1 d.tokens))));
      same = also (ap₂ (λ x y z. chosen x y z nowhere) a.same b.same) d.same;
      nests = omega (arith, clamps, a.nests, b.nests, d.nests);
      ungrouped = refl;
      first_tier = λ e. absurd cc;
    }

pub kept_choice : (t : Lexeme) (c : Phrase) (u : Lexeme) (f : Phrase) (v : Lexeme) (g : Phrase) → KeptPhrase c → KeptPhrase f → KeptPhrase g
    → KeptPhrase (an_if t c u f v g)
kept_choice t c u f v g cond_kept yes_kept no_kept = record {
  holds = (cond_kept.holds, yes_kept.holds, no_kept.holds);
  again = choice_again t c u f v g cond_kept yes_kept no_kept;
}

-- a minus: before a number it is part of a literal, and else an operator
no_numeral : (t : Lexeme) (f : Phrase) → is_numeral f ≡ false → with_minus t f (tree_of f) ≡ negated (tree_of f) t.at
no_numeral t (a_number n) e = absurd cc
no_numeral t (a_truth value w) e = refl
no_numeral t (a_name n) e = refl
no_numeral t (a_field n dot f) e = refl
no_numeral t (a_group open_ f close) e = refl
no_numeral t (an_abs w open_ f close) e = refl
no_numeral t (a_pair func w open_ f comma g close) e = refl
no_numeral t (a_clamp w open_ f comma g comma2 h close) e = refl
no_numeral t (a_rescale w open_ f comma n close) e = refl
no_numeral t (a_minus u f) e = refl
no_numeral t (a_rest f u n) e = refl
no_numeral t (a_join op f u g) e = refl
no_numeral t (a_not u f) e = refl
no_numeral t (an_if u c v f w g) e = refl

minus_again : (t : Lexeme) (f : Phrase) → is_numeral f ≡ false → KeptPhrase f
    → (gap : Gap) (ts us : List Lexeme) → Takes ts (expression_words (negated (tree_of f) t.at) gap) us → Rewritten (a_minus t f) ts us
minus_again t f other kept gap ts us h =
    let a = grouped_again f kept Touching h.0 us h.2 in
    record {
      form = a_minus h.1.token (a_group a.opening a.inner a.closing);
      is = (is_a_sign h.1, a.is, refl);
      tokens = led h.1 a.tokens;
      same = ap (λ e. negated e nowhere) a.same ∙ sym (ap unplaced_tree (no_numeral t f other));
      nests = omega (arith, a.nests, cond-false (is_numeral f) 1 (1 + levels_of f) other);
      ungrouped = refl;
      first_tier = λ _. refl;
    }

kept_negated : (t : Lexeme) (f : Phrase) → is_numeral f ≡ false → KeptPhrase f → KeptPhrase (a_minus t f)
kept_negated t f other kept =
    let P : Tree → Type 0 = IsTree in
    record {
      holds = subst P (sym (no_numeral t f other)) kept.holds;
      again = λ gap ts us h.
          let Q : Tree → Type 0 = λ e. Takes ts (expression_words e gap) us in
          minus_again t f other kept gap ts us (subst Q (no_numeral t f other) h);
    }

literal_again : (t n : Lexeme) (form : LiteralForm) (ts us : List Lexeme) → ts ≡ spelled_literal form us
    → unplaced_literal (literal_of form) ≡ unplaced_literal (negative_literal t n)
    → Rewritten (a_minus t (a_number n)) ts us
literal_again t n (plain d) ts us tokens same = record {
  form = a_number d.token;
  is = d.is;
  tokens = tokens;
  same = ap number same;
  nests = le_refl 1;
  ungrouped = refl;
  first_tier = λ _. refl;
}
literal_again t n (negative minus d) ts us tokens same = record {
  form = a_minus minus.token (a_number d.token);
  is = (minus.is, d.is, refl);
  tokens = tokens;
  same = ap number same;
  nests = le_refl 1;
  ungrouped = refl;
  first_tier = λ _. refl;
}

kept_negative : (t n : Lexeme) → IsSign (codes "-") t → IsNumber n → IsTokenText n.kind n.text → KeptPhrase (a_minus t (a_number n))
kept_negative t n minus is text =
    let kept = negative_kept (record { token = t; is = minus }) (record { token = n; is = is }) text in
    record {
      holds = kept.holds;
      again = λ gap ts us h.
          let a = kept.again gap ts us h in
          literal_again t n a.form ts us a.tokens a.same;
    }

pub kept_minus : (t : Lexeme) (f : Phrase) (more : List Lexeme) → IsSign (codes "-") t → IsPhrase f → AreTexts (spelled f more) → KeptPhrase f
    → KeptPhrase (a_minus t f)
kept_minus t (a_number n) more minus is texts kept = kept_negative t n minus is texts.0
kept_minus t f more minus is texts kept = kept_negated t f refl kept
