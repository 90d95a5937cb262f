-- Expressions.
use Rattle.std.proofs.Common.{◌≡◌, ◌≤◌, List, ◌∷◌, ◌++◌, codes}
use Rattle.sot_text.specs.Reading.{Lexeme}
use Rattle.sot_syntax_tree.specs.Trees.{Tree}
use Rattle.sot_parser.specs.Pieces.{Sign}
use Rattle.sot_expression.specs.Phrases.{Phrase, a_number, a_truth, a_name, a_field, a_group, an_abs, a_pair, a_clamp, a_rescale, a_minus, a_rest, a_join}
use Rattle.sot_expression.specs.Phrases.{a_not, an_if, spelled, IsPhrase}
use Rattle.sot_print.specs.declared.gap.Gap.{Gap}
use Rattle.sot_print.specs.declared.gap.Gap.TheVariants.{Space}
use Rattle.sot_print.specs.Expressions.{expression_words}
use Rattle.sot_syntax_tree.specs.Formed.{IsTree}
use Rattle.sot_law_print_parse.specs.Unplaced.{unplaced_tree}
use Rattle.sot_law_print_parse.proofs.Takes.{Takes, split, a_sign, led, onto}
use Rattle.sot_law_print_parse.proofs.Texts.{AreTexts}
use Rattle.sot_law_print_parse.proofs.Kept.{Kept, Production, Keeps}
use Rattle.sot_law_print_parse.proofs.Leaves.{numbers_keep}
use Rattle.sot_law_print_parse.proofs.Phrases.{KeptPhrase, kept_number, kept_truth, kept_name, kept_field, kept_group}
use Rattle.sot_law_print_parse.proofs.Calls.{kept_abs, kept_pair, kept_clamp, kept_rescale}
use Rattle.sot_law_print_parse.proofs.Operators.{kept_join, kept_rest, kept_not, kept_choice, kept_minus}
use Rattle.sot_parser.specs.Statements.{ExpressionForm, spelled_expression, expression_of, expression_levels}
use Rattle.sot_print.specs.Statements.{semicolon}

-- each phrase
pub phrases_keep : (f : Phrase) (more : List Lexeme) → IsPhrase f → AreTexts (spelled f more) → KeptPhrase f × AreTexts more
phrases_keep (a_number n) more is texts = (kept_number n is texts.0, texts.1)
phrases_keep (a_truth value t) more is texts = (kept_truth value t, texts.1)
phrases_keep (a_name n) more is texts = (kept_name n is texts.0, texts.1)
phrases_keep (a_field n dot f) more is texts = (kept_field n dot f is.0 is.2 texts.0 texts.1.1.0, texts.1.1.1)
phrases_keep (a_group open_ f close) more is texts =
    let inner = phrases_keep f (close ∷ more) is.1 texts.1 in
    (kept_group open_ f close inner.0, inner.1.1)
phrases_keep (an_abs w open_ f close) more is texts =
    let part = phrases_keep f (close ∷ more) is.2 texts.1.1 in
    (kept_abs w open_ f close part.0, part.1.1)
phrases_keep (a_pair func w open_ f comma g close) more is texts =
    let one = phrases_keep f (comma ∷ spelled g (close ∷ more)) is.2 texts.1.1 in
    let other = phrases_keep g (close ∷ more) is.4 one.1.1 in
    (kept_pair func w open_ f comma g close is.0 one.0 other.0, other.1.1)
phrases_keep (a_clamp w open_ f comma g comma2 e close) more is texts =
    let one = phrases_keep f (comma ∷ spelled g (comma2 ∷ spelled e (close ∷ more))) is.2 texts.1.1 in
    let other = phrases_keep g (comma2 ∷ spelled e (close ∷ more)) is.4 one.1.1 in
    let third = phrases_keep e (close ∷ more) is.6 other.1.1 in
    (kept_clamp w open_ f comma g comma2 e close one.0 other.0 third.0, third.1.1)
phrases_keep (a_rescale w open_ f comma n close) more is texts =
    let part = phrases_keep f (comma ∷ n ∷ close ∷ more) is.2 texts.1.1 in
    let count = numbers_keep (record { token = n; is = is.4 }) (close ∷ more) part.1.1 in
    (kept_rescale w open_ f comma n close is.4 part.0 count.0, count.1.1)
phrases_keep (a_minus t f) more is texts =
    let part = phrases_keep f more is.1 texts.1 in
    (kept_minus t f more is.0 is.1 texts.1 part.0, part.1)
phrases_keep (a_rest f t n) more is texts =
    let part = phrases_keep f (t ∷ n ∷ more) is.0 texts in
    let by = numbers_keep (record { token = n; is = is.3 }) more part.1.1 in
    (kept_rest f t n is.3 part.0 by.0, by.1)
phrases_keep (a_join op f t g) more is texts =
    let left = phrases_keep f (t ∷ spelled g more) is.0 texts in
    let right = phrases_keep g more is.3 left.1.1 in
    (kept_join op f t g left.0 right.0, right.1)
phrases_keep (a_not t f) more is texts =
    let part = phrases_keep f more is.1 texts.1 in
    (kept_not t f part.0, part.1)
phrases_keep (an_if t c u f v g) more is texts =
    let cond_ = phrases_keep c (u ∷ spelled f (v ∷ spelled g more)) is.1 texts.1 in
    let yes_ = phrases_keep f (v ∷ spelled g more) is.3 cond_.1.1 in
    let no_ = phrases_keep g more is.5 yes_.1.1 in
    (kept_choice t c u f v g cond_.0 yes_.0 no_.0, no_.1)

-- expr
abbrev pub expressions : Production Gap ExpressionForm Tree
expressions = record {
  spelled = spelled_expression;
  tree = expression_of;
  unplaced = unplaced_tree;
  levels = expression_levels;
  Holds = IsTree;
  words = λ gap e. expression_words e gap;
}

pub expressions_keep : Keeps expressions
expressions_keep e more texts =
    let kept = phrases_keep e.phrase more e.is texts in (
      record {
        holds = kept.0.holds;
        again = λ gap ts us h.
            let a = kept.0.again gap ts us h in
            record { form = record { phrase = a.form; is = a.is }; tokens = a.tokens; same = a.same; nests = a.nests };
      },
      kept.1,
    )

-- an expression and ";"
pub record Ended (e : ExpressionForm) (ts us : List Lexeme) : Type 0 where
  pub form : ExpressionForm
  pub last : Sign (codes ";")
  pub tokens : ts ≡ spelled_expression form (last.token ∷ us)
  pub same : unplaced_tree (expression_of form) ≡ unplaced_tree (expression_of e)
  pub nests : expression_levels form ≤ expression_levels e

pub ended_again : (e : ExpressionForm) → Kept expressions e → (ts us : List Lexeme) → Takes ts (expression_words (expression_of e) Space ++ semicolon) us
    → Ended e ts us
ended_again e kept ts us h =
    let parts = split (expression_words (expression_of e) Space) semicolon ts us h in
    let a = kept.again Space ts parts.0 parts.1 in
    let last = parts.2 in
    record { form = a.form; last = a_sign last.1; tokens = onto (spelled_expression a.form) a.tokens (led last.1 last.2); same = a.same; nests = a.nests }
