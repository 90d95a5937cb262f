-- A text means one formula, since all that it can be read as leaves the same parts.
use Rattle.std.proofs.Common.{◌≡◌, ◌∙◌, ℕ, List, [], false, Some, None, ⊎_elim, sym, ap, ap₂, subst}
use Rattle.std.proofs.lemmas.Bool.{cases_Bool, false≢true}
use Rattle.std.proofs.lemmas.Option.{same_Some}
use Rattle.sot_text.specs.Lexeme.{mantissa_of}
use Rattle.sot_text.specs.Reading.{Lexeme}
use Rattle.sot_lang.specs.Tables.{Tables}
use Rattle.sot_lang.specs.TableRules.{MeetsTableRules}
use Rattle.sot_expression.specs.Lexemes.{IsSign}
use Rattle.sot_expression.proofs.ReadSteps.{ok_is}
use Rattle.sot_formula.specs.declared.quantity.Quantity.{Quantity}
use Rattle.sot_formula.specs.declared.quantity.Comparison.{Comparison}
use Rattle.sot_formula.specs.declared.quantity.Pairing.{Pairing}
use Rattle.sot_formula.specs.declared.words.Single.TheVariants as singles
use Rattle.sot_formula.specs.declared.words.Double.TheVariants as doubles
use Rattle.sot_formula.specs.declared.finding.FoundQuantity.{FoundQuantity}
use Rattle.sot_formula.specs.Formulas.{Formula, Compared, Against, Paired, Not, And, Or, Implies, Once, Always, Since, Within}
use Rattle.sot_formula.specs.Phrases.{Relation, to_number, to_another, of_two, Reference, Phrase, a_truth, a_single, a_double, a_row, a_within, a_comparison, IsFormulaText}
use Rattle.sot_formula.specs.Meanings.{Names, sign_text, pair_text, mantissa, decimals, IsCompared, Means}
use Rattle.sot_formula.specs.Parts.{IsPart}
use Rattle.sot_formula.specs.Reading.{Laid, none_laid, place}
use Rattle.sot_formula.proofs.Laying.{laid, signs, pair_signs}
use Rattle.sot_formula.proofs.Meant.{names_found, meant}
use Rattle.sot_formula.proofs.Causes.{unknown_set, differs_set, means_known, means_same}
use Rattle.sot_formula.proofs.Texts.{read_text}
use Rattle.sot_law_formula_meaning.specs.Laws.{TextsMeanOnce}
use Rattle.sot_law_formula_meaning.proofs.PartShapes.{part_once}

module _ (p : Tables) (rules : MeetsTableRules p) where
  abbrev found_as : Quantity → ℕ → FoundQuantity
  found_as q scale = record { of = q; scale = scale }

  sign_once : (c d : Comparison) (by : Lexeme) → IsSign (sign_text c) by → IsSign (sign_text d) by → c ≡ d
  sign_once c d by a b = same_Some c d (sym (signs c by a) ∙ signs d by b)

  pair_once : (c d : Pairing) (t : Lexeme) → IsSign (pair_text c) t → IsSign (pair_text d) t → c ≡ d
  pair_once c d t a b = same_Some c d (sym (pair_signs c t a) ∙ pair_signs d t b)

  -- a reference names one quantity
  named_once : (r : Reference) (q k : Quantity) (m n : ℕ) → Names p r q m → Names p r k n → q ≡ k
  named_once r q k m n a b =
      let e : Some (found_as q m) ≡ Some (found_as k n) = sym (names_found p rules r q m a) ∙ names_found p rules r k n b in
      ap (λ (x : FoundQuantity). x.of) (same_Some (found_as q m) (found_as k n) e)

  compared_once : (c : Relation) (x y : Formula) → IsCompared p c x → IsCompared p c y → x ≡ y
  compared_once (to_number r by z) x y (q, c, names, sign, is) (k, d, names', sign', is') =
      is ∙ ap₂ (λ (a : Quantity) (b : Comparison). Compared a b (mantissa z)) (named_once r q k _ _ names names') (sign_once c d by sign sign') ∙ sym is'
  compared_once (to_another r by q) x y (a, b, c, m, names, named, sign, is) (a', b', d, n, names', named', sign', is') =
      is
      ∙ ap (λ (k : Quantity). Against k c b) (named_once r a a' m n names names')
      ∙ ap (λ (k : Quantity). Against a' c k) (named_once q b b' m n named named')
      ∙ ap (λ (k : Comparison). Against a' k b') (sign_once c d by sign sign')
      ∙ sym is'
  compared_once (of_two r pair q by z) x y (a, b, j, c, names, named, paired, sign, is) (a', b', i, d, names', named', paired', sign', is') =
      is
      ∙ ap (λ (k : Quantity). Paired k j b c (mantissa z)) (named_once r a a' _ _ names names')
      ∙ ap (λ (k : Pairing). Paired a' k b c (mantissa z)) (pair_once j i pair paired paired')
      ∙ ap (λ (k : Quantity). Paired a' i k c (mantissa z)) (named_once q b b' _ _ named named')
      ∙ ap (λ (k : Comparison). Paired a' i b' k (mantissa z)) (sign_once c d by sign sign')
      ∙ sym is'

  -- a phrase has one meaning
  phrase_once : (f : Phrase) (x y : Formula) → Means p f x → Means p f y → x ≡ y
  phrase_once (a_truth value t) x y a b = a ∙ sym b
  phrase_once (a_single singles.Not w begin f end) x y (u, m, is) (v, n, is') = is ∙ ap Not (phrase_once f u v m n) ∙ sym is'
  phrase_once (a_single singles.Once w begin f end) x y (u, m, is) (v, n, is') = is ∙ ap Once (phrase_once f u v m n) ∙ sym is'
  phrase_once (a_single singles.Always w begin f end) x y (u, m, is) (v, n, is') = is ∙ ap Always (phrase_once f u v m n) ∙ sym is'
  phrase_once (a_double o w begin row end) x y a b = phrase_once row x y a b
  phrase_once (a_row doubles.And f comma g) x y (u, u', m, m', is) (v, v', n, n', is') =
      is ∙ ap₂ And (phrase_once f u v m n) (phrase_once g u' v' m' n') ∙ sym is'
  phrase_once (a_row doubles.Or f comma g) x y (u, u', m, m', is) (v, v', n, n', is') =
      is ∙ ap₂ Or (phrase_once f u v m n) (phrase_once g u' v' m' n') ∙ sym is'
  phrase_once (a_row doubles.Since f comma g) x y (u, u', m, m', is) (v, v', n, n', is') =
      is ∙ ap₂ Since (phrase_once f u v m n) (phrase_once g u' v' m' n') ∙ sym is'
  phrase_once (a_row doubles.Implies f comma g) x y (u, u', m, m', is) (v, v', n, n', is') =
      is ∙ ap₂ Implies (phrase_once f u v m n) (phrase_once g u' v' m' n') ∙ sym is'
  phrase_once (a_within w begin n comma f end) x y (u, m, is) (v, k, is') = is ∙ ap (Within (mantissa_of n.text)) (phrase_once f u v m k) ∙ sym is'
  phrase_once (a_comparison c) x y a b = compared_once c x y a b

  -- where a phrase has a meaning, its parts are that of it
  means_part : (bytes : List ℕ) (f : Phrase) (x : Formula) → IsFormulaText bytes f → Means p f x
      → IsPart (laid p f none_laid).whats (place (laid p f none_laid)) x
  means_part bytes f x text means =
      let known : (laid p f none_laid).unknown ≡ false = ⊎_elim
      (λ yes'. absurd (⊎_elim (λ no'. false≢true no') (means_known p rules f x means) (unknown_set p rules f none_laid yes'))) (λ no'. no')
      (cases_Bool (laid p f none_laid).unknown) in
      let same : (laid p f none_laid).differs ≡ false = ⊎_elim
      (λ yes'. absurd (⊎_elim (λ no'. false≢true no') (means_same p rules f x means) (differs_set p rules f none_laid yes'))) (λ no'. no')
      (cases_Bool (laid p f none_laid).differs) in
      let m = meant p rules f None none_laid text.phrase known same in
      subst (λ (y : Formula). IsPart (laid p f none_laid).whats (place (laid p f none_laid)) y) (phrase_once f m.formula x m.means means) m.part

-- two readings of a text leave the same parts
abbrev Got : Type 0
Got = Laid × List Lexeme

one_laid : (p : Tables) (bytes : List ℕ) (f g : Phrase) → IsFormulaText bytes f → IsFormulaText bytes g → laid p f none_laid ≡ laid p g none_laid
one_laid p bytes f g text text' =
    let a = read_text p bytes f text in
    let b = read_text p bytes g text' in
    ap (λ (x : Got). x.0) (ok_is (laid p f none_laid, []) (laid p g none_laid, []) (sym a.0 ∙ b.0))

pub mean_once : TextsMeanOnce
mean_once p bytes f g x y rules text text' means means' =
    let here = subst (λ (s : Laid). IsPart s.whats (place s) x) (one_laid p bytes f g text text') (means_part p rules bytes f x text means) in
    part_once (laid p g none_laid).whats (place (laid p g none_laid)) x y here (means_part p rules bytes g y text' means')
