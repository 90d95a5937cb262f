-- Phrases: operands, and what has no parts. Parentheses of the source are left out.
use Rattle.std.proofs.Common.{◌≡◌, ℕ, ◌+◌, ◌≤◌, List, [], ◌∷◌, Bool, true, false, inl, inr, None, Some, codes, refl, sym, ap, ap₂, subst, arith}
use Rattle.std.proofs.lemmas.Bool.{cases_Bool, cond-true, cond-false}
use Rattle.std.proofs.Math.Nat.{le_refl}
use Rattle.sot_text.specs.Lexeme.{IsTokenText}
use Rattle.sot_text.specs.Reading.{Lexeme}
use Rattle.sot_syntax_tree.specs.declared.tree.Ident.{Ident}
use Rattle.sot_syntax_tree.specs.Trees.{number, named}
use Rattle.sot_expression.specs.Lexemes.{IsKeyword, IsSign, IsName, IsNumber}
use Rattle.sot_expression.specs.Phrases.{Phrase, a_number, a_truth, a_name, a_field, a_group, spelled, tier_of, IsPhrase, tree_of, is_group, levels_of}
use Rattle.sot_print.specs.declared.gap.Gap.{Gap}
use Rattle.sot_print.specs.declared.gap.Gap.TheVariants.{Touching}
use Rattle.sot_print.specs.Words.{Word, keyword, sign}
use Rattle.sot_print.specs.Expressions.{is_plain, grouped_words, operand_words, expression_words}
use Rattle.sot_syntax_tree.specs.Formed.{IsTree}
use Rattle.sot_law_print_parse.specs.Unplaced.{unplaced_tree}
use Rattle.sot_law_print_parse.proofs.Takes.{First, Takes, split, led, onto}
use Rattle.sot_law_print_parse.proofs.Kept.{Kept}
use Rattle.sot_law_print_parse.proofs.Leaves.{same_name, name_text, numbers, numbers_keep}

-- The tokens of the words of an expression are a phrase: one with no parentheses around it, and with none needed if it is plain.
pub record Rewritten (f : Phrase) (ts us : List Lexeme) : Type 0 where
  pub form : Phrase
  pub is : IsPhrase form
  pub tokens : ts ≡ spelled form us
  pub same : unplaced_tree (tree_of form) ≡ unplaced_tree (tree_of f)
  pub nests : levels_of form ≤ levels_of f
  pub ungrouped : is_group form ≡ false
  pub first_tier : is_plain (tree_of f) ≡ true → tier_of form ≡ 0

pub record KeptPhrase (f : Phrase) : Type 0 where
  pub holds : IsTree (tree_of f)
  pub again : (gap : Gap) (ts us : List Lexeme) → Takes ts (expression_words (tree_of f) gap) us → Rewritten f ts us

-- an operand, in parentheses or not
pub record Operand (f : Phrase) (ts us : List Lexeme) : Type 0 where
  pub form : Phrase
  pub is : IsPhrase form
  pub tokens : ts ≡ spelled form us
  pub same : unplaced_tree (tree_of form) ≡ unplaced_tree (tree_of f)
  pub nests : levels_of form ≤ levels_of f
  pub first_tier : tier_of form ≡ 0

pub is_a_keyword : {gap : Gap} {text : List ℕ} {ts vs : List Lexeme} (w : First (keyword gap text) ts vs) → IsKeyword text w.token
is_a_keyword w = record { kind = w.kind; text_is = w.text }

pub is_a_sign : {gap : Gap} {text : List ℕ} {ts vs : List Lexeme} (w : First (sign gap text) ts vs) → IsSign text w.token
is_a_sign w = record { kind = w.kind; text_is = w.text }

pub record Grouped (f : Phrase) (ts us : List Lexeme) : Type 0 where
  pub opening : Lexeme
  pub inner : Phrase
  pub closing : Lexeme
  pub is : IsPhrase (a_group opening inner closing)
  pub tokens : ts ≡ spelled (a_group opening inner closing) us
  pub same : unplaced_tree (tree_of inner) ≡ unplaced_tree (tree_of f)
  pub nests : levels_of (a_group opening inner closing) ≤ levels_of f

pub grouped_again : (f : Phrase) → KeptPhrase f → (gap : Gap) (ts us : List Lexeme) → Takes ts (grouped_words gap (expression_words (tree_of f))) us
    → Grouped f ts us
grouped_again f kept gap ts us h =
    let parts = split (expression_words (tree_of f) Touching) (sign Touching (codes ")") ∷ []) h.0 us h.2 in
    let a = kept.again Touching h.0 parts.0 parts.1 in
    let closing = parts.2 in
    let P : ℕ → Type 0 = λ n. n ≤ levels_of f in
    record {
      opening = h.1.token;
      inner = a.form;
      closing = closing.1.token;
      is = (is_a_sign h.1, a.is, is_a_sign closing.1);
      tokens = led h.1 (onto (spelled a.form) a.tokens (led closing.1 closing.2));
      same = a.same;
      nests = subst P (sym (cond-false (is_group a.form) (1 + levels_of a.form) (levels_of a.form) a.ungrouped)) a.nests;
    }

pub operand_again : (f : Phrase) → KeptPhrase f → (gap : Gap) (ts us : List Lexeme) → Takes ts (operand_words (tree_of f) gap (expression_words (tree_of f))) us
    → Operand f ts us
operand_again f kept gap ts us h =
    let P : List Word → Type 0 = λ ws. Takes ts ws us in
    elim (cases_Bool (is_plain (tree_of f))) [
      | inl flat ↦
          let a = kept.again gap ts us (subst P (cond-true (is_plain (tree_of f)) _ _ flat) h) in
          record { form = a.form; is = a.is; tokens = a.tokens; same = a.same; nests = a.nests; first_tier = a.first_tier flat }
      | inr deep ↦
          let a = grouped_again f kept gap ts us (subst P (cond-false (is_plain (tree_of f)) _ _ deep) h) in
          record { form = a_group a.opening a.inner a.closing; is = a.is; tokens = a.tokens; same = a.same; nests = a.nests; first_tier = refl }
    ]

-- the leaves
pub kept_number : (n : Lexeme) → IsNumber n → IsTokenText n.kind n.text → KeptPhrase (a_number n)
kept_number n is text =
    let kept : Kept numbers (record { token = n; is = is }) = (numbers_keep (record { token = n; is = is }) [] (text, tt)).0 in
    record {
      holds = kept.holds.0;
      again = λ gap ts us h.
          let a = kept.again gap ts us h in
          record {
            form = a_number a.form.token;
            is = a.form.is;
            tokens = a.tokens;
            same = ap number a.same;
            nests = le_refl 1;
            ungrouped = refl;
            first_tier = λ _. refl;
          };
    }

pub kept_truth : (value : Bool) (t : Lexeme) → KeptPhrase (a_truth value t)
kept_truth true t = record {
  holds = tt;
  again =
      λ gap ts us h. record {
        form = a_truth true h.1.token;
        is = is_a_keyword h.1;
        tokens = led h.1 h.2;
        same = refl;
        nests = le_refl 1;
        ungrouped = refl;
        first_tier = λ _. refl;
      };
}
kept_truth false t = record {
  holds = tt;
  again =
      λ gap ts us h. record {
        form = a_truth false h.1.token;
        is = is_a_keyword h.1;
        tokens = led h.1 h.2;
        same = refl;
        nests = le_refl 1;
        ungrouped = refl;
        first_tier = λ _. refl;
      };
}

pub kept_name : (n : Lexeme) → IsName n → IsTokenText n.kind n.text → KeptPhrase (a_name n)
kept_name n is text = record {
  holds = (name_text n is text, tt);
  again = λ gap ts us h.
      record {
        form = a_name h.1.token;
        is = h.1.kind;
        tokens = led h.1 h.2;
        same = ap (λ (i : Ident). named i None) (same_name h.1.text);
        nests = le_refl 1;
        ungrouped = refl;
        first_tier = λ _. refl;
      };
}

pub kept_field : (n dot f : Lexeme) → IsName n → IsName f → IsTokenText n.kind n.text → IsTokenText f.kind f.text → KeptPhrase (a_field n dot f)
kept_field n dot f name_is field_is name_texts field_texts = record {
  holds = (name_text n name_is name_texts, name_text f field_is field_texts);
  again = λ gap ts us h.
      let point = h.2 in
      let last = point.2 in
      record {
        form = a_field h.1.token point.1.token last.1.token;
        is = (h.1.kind, is_a_sign point.1, last.1.kind);
        tokens = led h.1 (led point.1 (led last.1 last.2));
        same = ap₂ (λ (i j : Ident). named i (Some j)) (same_name h.1.text) (same_name last.1.text);
        nests = le_refl 1;
        ungrouped = refl;
        first_tier = λ _. refl;
      };
}

-- parentheses of the source are left out
group_levels : (open_ : Lexeme) (f : Phrase) (close : Lexeme) → levels_of f ≤ levels_of (a_group open_ f close)
group_levels open_ f close =
    let P : ℕ → Type 0 = λ n. levels_of f ≤ n in
    elim (cases_Bool (is_group f)) [
      | inl doubled ↦ subst P (sym (cond-true (is_group f) (1 + levels_of f) (levels_of f) doubled)) (omega arith)
      | inr once ↦ subst P (sym (cond-false (is_group f) (1 + levels_of f) (levels_of f) once)) (le_refl (levels_of f))
    ]

pub kept_group : (open_ : Lexeme) (f : Phrase) (close : Lexeme) → KeptPhrase f → KeptPhrase (a_group open_ f close)
kept_group open_ f close kept = record {
  holds = kept.holds;
  again = λ gap ts us h.
      let a = kept.again gap ts us h in
      record {
        form = a.form;
        is = a.is;
        tokens = a.tokens;
        same = a.same;
        nests = omega (arith, a.nests, group_levels open_ f close);
        ungrouped = a.ungrouped;
        first_tier = a.first_tier;
      };
}
