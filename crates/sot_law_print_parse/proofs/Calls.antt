-- Calls.
use Rattle.std.proofs.Common.{◌≡◌, List, [], ◌∷◌, ◌++◌, false, codes, refl, ap, ap₂, subst, arith}
use Rattle.std.proofs.lemmas.Int.{clamps}
use Rattle.std.proofs.lemmas.List.{append-nil}
use Rattle.sot_text.specs.declared.token.Kind.TheVariants.{Keyword as KeywordKind}
use Rattle.sot_text.specs.Reading.{Lexeme}
use Rattle.sot_syntax_tree.specs.declared.operator.Func.{Func}
use Rattle.sot_syntax_tree.specs.declared.operator.Func.TheVariants.{Min, Max, Abs, Clamp}
use Rattle.sot_syntax_tree.specs.declared.tree.Lit.{Lit}
use Rattle.sot_syntax_tree.specs.Functions.{arity}
use Rattle.sot_syntax_tree.specs.Trees.{Tree, called, rescaled, no_tree, one_more}
use Rattle.sot_expression.specs.Lexemes.{IsNumber, literal}
use Rattle.sot_expression.specs.Phrases.{Phrase, an_abs, a_pair, a_clamp, a_rescale, spelled, IsPairWord, tree_of}
use Rattle.sot_print.specs.declared.gap.Gap.{Gap}
use Rattle.sot_print.specs.declared.gap.Gap.TheVariants.{Touching, Space}
use Rattle.sot_print.specs.Words.{Word, sign}
use Rattle.sot_print.specs.Leaves.{literal_words}
use Rattle.sot_print.specs.Expressions.{function_name, expression_words, parts_from}
use Rattle.sot_law_print_parse.specs.Unplaced.{nowhere, unplaced_tree}
use Rattle.sot_law_print_parse.proofs.Takes.{Takes, split, led, onto}
use Rattle.sot_law_print_parse.proofs.Kept.{Kept}
use Rattle.sot_law_print_parse.proofs.Leaves.{numbers}
use Rattle.sot_law_print_parse.proofs.Phrases.{Rewritten, KeptPhrase, is_a_keyword, is_a_sign}

last_taken : (ws : List Word) (ts us : List Lexeme) → Takes ts (ws ++ []) us → Takes ts ws us
last_taken ws ts us h = (let P : List Word → Type 0 = λ ys. Takes ts ys us in subst P (append-nil ws) h)

-- each function has as many parts as it takes
abs_arity : 1 ≡ arity Abs
abs_arity = refl

clamp_arity : 3 ≡ arity Clamp
clamp_arity = refl

pair_arity : (func : Func) (w : Lexeme) → IsPairWord func w → 2 ≡ arity func
pair_arity Min w is = refl
pair_arity Max w is = refl
pair_arity Abs w is = absurd is
pair_arity Clamp w is = absurd is

pub kept_abs : (w open_ : Lexeme) (f : Phrase) (close : Lexeme) → KeptPhrase f → KeptPhrase (an_abs w open_ f close)
kept_abs w open_ f close kept = record {
  holds = (abs_arity, (kept.holds, tt));
  again = λ gap ts us h.
      let opening = h.2 in
      let parts = split (expression_words (tree_of f) Touching ++ []) (sign Touching (codes ")") ∷ []) opening.0 us opening.2 in
      let a = kept.again Touching opening.0 parts.0 (last_taken (expression_words (tree_of f) Touching) opening.0 parts.0 parts.1) in
      let closing = parts.2 in
      record {
        form = an_abs h.1.token opening.1.token a.form closing.1.token;
        is = (is_a_keyword h.1, is_a_sign opening.1, a.is, is_a_sign closing.1);
        tokens = led h.1 (led opening.1 (onto (spelled a.form) a.tokens (led closing.1 closing.2)));
        same = ap (λ e. called Abs (one_more e no_tree) nowhere) a.same;
        nests = omega (arith, a.nests);
        ungrouped = refl;
        first_tier = λ _. refl;
      };
}

pair_word : (func : Func) (w t : Lexeme) → IsPairWord func w → t.kind ≡ KeywordKind → t.text ≡ function_name func → IsPairWord func t
pair_word Min w t is kind text = record { kind = kind; text_is = text }
pair_word Max w t is kind text = record { kind = kind; text_is = text }
pair_word Abs w t is kind text = absurd is
pair_word Clamp w t is kind text = absurd is

pair_again : (func : Func) (w open_ : Lexeme) (f : Phrase) (comma : Lexeme) (g : Phrase) (close : Lexeme) → IsPairWord func w → KeptPhrase f → KeptPhrase g
    → (gap : Gap) (ts us : List Lexeme) → Takes ts (expression_words (tree_of (a_pair func w open_ f comma g close)) gap) us
    → Rewritten (a_pair func w open_ f comma g close) ts us
pair_again func w open_ f comma g close word kept more gap ts us h =
    let opening = h.2 in
    let inside = split (expression_words (tree_of f) Touching ++ parts_from false (one_more (tree_of g) no_tree)) (sign Touching (codes ")") ∷ []) opening.0 us
    opening.2 in
    let parts = split (expression_words (tree_of f) Touching) (parts_from false (one_more (tree_of g) no_tree)) opening.0 inside.0 inside.1 in
    let a = kept.again Touching opening.0 parts.0 parts.1 in
    let between = parts.2 in
    let b = more.again Space between.0 inside.0 (last_taken (expression_words (tree_of g) Space) between.0 inside.0 between.2) in
    let closing = inside.2 in
    record {
      form = a_pair func h.1.token opening.1.token a.form between.1.token b.form closing.1.token;
      is = (pair_word func w h.1.token word h.1.kind h.1.text, is_a_sign opening.1, a.is, is_a_sign between.1, b.is, is_a_sign closing.1);
      tokens = led h.1 (led opening.1 (onto (spelled a.form) a.tokens (led between.1 (onto (spelled b.form) b.tokens (led closing.1 closing.2)))));
      same = ap₂ (λ d e. called func (one_more d (one_more e no_tree)) nowhere) a.same b.same;
      nests = omega (arith, clamps, a.nests, b.nests);
      ungrouped = refl;
      first_tier = λ _. refl;
    }

pub kept_pair : (func : Func) (w open_ : Lexeme) (f : Phrase) (comma : Lexeme) (g : Phrase) (close : Lexeme) → IsPairWord func w → KeptPhrase f → KeptPhrase g
    → KeptPhrase (a_pair func w open_ f comma g close)
kept_pair func w open_ f comma g close word kept more = record {
  holds = (pair_arity func w word, (kept.holds, (more.holds, tt)));
  again = pair_again func w open_ f comma g close word kept more;
}

clamp_again : (w open_ : Lexeme) (f : Phrase) (comma : Lexeme) (g : Phrase) (comma2 : Lexeme) (e : Phrase) (close : Lexeme) → KeptPhrase f → KeptPhrase g
    → KeptPhrase e
    → (gap : Gap) (ts us : List Lexeme) → Takes ts (expression_words (tree_of (a_clamp w open_ f comma g comma2 e close)) gap) us
    → Rewritten (a_clamp w open_ f comma g comma2 e close) ts us
clamp_again w open_ f comma g comma2 e close kept low high gap ts us h =
    let opening = h.2 in
    let third : List Word = parts_from false (one_more (tree_of e) no_tree) in
    let second : List Word = parts_from false (one_more (tree_of g) (one_more (tree_of e) no_tree)) in
    let inside = split (expression_words (tree_of f) Touching ++ second) (sign Touching (codes ")") ∷ []) opening.0 us opening.2 in
    let parts = split (expression_words (tree_of f) Touching) second opening.0 inside.0 inside.1 in
    let a = kept.again Touching opening.0 parts.0 parts.1 in
    let between = parts.2 in
    let others = split (expression_words (tree_of g) Space) third between.0 inside.0 between.2 in
    let b = low.again Space between.0 others.0 others.1 in
    let behind = others.2 in
    let c = high.again Space behind.0 inside.0 (last_taken (expression_words (tree_of e) Space) behind.0 inside.0 behind.2) in
    let closing = inside.2 in
    let same_ends : one_more (unplaced_tree (tree_of b.form)) (one_more (unplaced_tree (tree_of c.form)) no_tree)
    ≡ one_more (unplaced_tree (tree_of g)) (one_more (unplaced_tree (tree_of e)) no_tree) =
    ap₂ (λ x y. one_more x (one_more y no_tree)) b.same c.same in
    record {
      form = a_clamp h.1.token opening.1.token a.form between.1.token b.form behind.1.token c.form closing.1.token;
      is = (is_a_keyword h.1, is_a_sign opening.1, a.is, is_a_sign between.1, b.is, is_a_sign behind.1, c.is, is_a_sign closing.1);
      tokens =
          led h.1 (led opening.1 (onto (spelled a.form) a.tokens (
          led between.1 (onto (spelled b.form) b.tokens (led behind.1 (onto (spelled c.form) c.tokens (led closing.1 closing.2)))))));
      same = ap₂ (λ x y. called Clamp (one_more x y) nowhere) a.same same_ends;
      nests = omega (arith, clamps, a.nests, b.nests, c.nests);
      ungrouped = refl;
      first_tier = λ _. refl;
    }

pub kept_clamp : (w open_ : Lexeme) (f : Phrase) (comma : Lexeme) (g : Phrase) (comma2 : Lexeme) (e : Phrase) (close : Lexeme) → KeptPhrase f → KeptPhrase g
    → KeptPhrase e
    → KeptPhrase (a_clamp w open_ f comma g comma2 e close)
kept_clamp w open_ f comma g comma2 e close kept low high = record {
  holds = (clamp_arity, (kept.holds, (low.holds, (high.holds, tt))));
  again = clamp_again w open_ f comma g comma2 e close kept low high;
}

rescale_again : (w open_ : Lexeme) (f : Phrase) (comma n close : Lexeme) (is : IsNumber n) → KeptPhrase f → Kept numbers (record { token = n; is = is })
    → (gap : Gap) (ts us : List Lexeme) → Takes ts (expression_words (tree_of (a_rescale w open_ f comma n close)) gap) us
    → Rewritten (a_rescale w open_ f comma n close) ts us
rescale_again w open_ f comma n close is kept count gap ts us h =
    let opening = h.2 in
    let inside = split (expression_words (tree_of f) Touching ++ sign Touching (codes ",") ∷ literal_words Space (literal n)) (sign Touching (codes ")") ∷ [])
    opening.0 us opening.2 in
    let parts = split (expression_words (tree_of f) Touching) (sign Touching (codes ",") ∷ literal_words Space (literal n)) opening.0 inside.0 inside.1 in
    let a = kept.again Touching opening.0 parts.0 parts.1 in
    let between = parts.2 in
    let b = count.again Space between.0 inside.0 between.2 in
    let closing = inside.2 in
    record {
      form = a_rescale h.1.token opening.1.token a.form between.1.token b.form.token closing.1.token;
      is = (is_a_keyword h.1, is_a_sign opening.1, a.is, is_a_sign between.1, b.form.is, is_a_sign closing.1);
      tokens = led h.1 (led opening.1 (onto (spelled a.form) a.tokens (led between.1 (onto (λ vs. b.form.token ∷ vs) b.tokens (led closing.1 closing.2)))));
      same = ap₂ (λ (x : Tree) (y : Lit). rescaled x y nowhere) a.same b.same;
      nests = omega (arith, a.nests);
      ungrouped = refl;
      first_tier = λ _. refl;
    }

pub kept_rescale : (w open_ : Lexeme) (f : Phrase) (comma n close : Lexeme) (is : IsNumber n) → KeptPhrase f → Kept numbers (record { token = n; is = is })
    → KeptPhrase (a_rescale w open_ f comma n close)
kept_rescale w open_ f comma n close is kept count = record {
  holds = (kept.holds, count.holds);
  again = rescale_again w open_ f comma n close is kept count;
}
