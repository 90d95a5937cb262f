-- What is read as an expression is one.
use Rattle.std.proofs.Common.{◌≡◌, ℕ, ◌==◌, zero, suc, ◌+◌, ◌<◌, ◌≤◌, max, nat_lt, List, [], ◌∷◌, Bool, true, false, inl, inr, codes, Option, Some, None, Ok}
use Rattle.std.proofs.Common.{if◌then◌else◌, refl, sym, ap, subst, ◌∙◌, arith}
use Rattle.std.proofs.lemmas.Bool.{cases_Bool}
use Rattle.std.proofs.lemmas.Bool.Decides.{nat_tests}
use Rattle.sot_text.specs.Reading.{Lexeme}
use Rattle.sot_syntax_tree.specs.declared.operator.Op.{Op}
use Rattle.sot_syntax_tree.specs.declared.operator.Func.{Func}
use Rattle.sot_syntax_tree.specs.declared.operator.Func.TheVariants.{Abs, Clamp}
use Rattle.sot_syntax_tree.specs.declared.tree.Ident.{Ident}
use Rattle.sot_syntax_tree.specs.declared.tree.Lit.{Lit}
use Rattle.sot_syntax_tree.specs.Trees.{number, truth, named, binary, rest, called, rescaled, chosen, no_tree, one_more}
use Rattle.sot_expression.specs.declared.operators.Infix.{Infix}
use Rattle.sot_expression.specs.declared.operators.Infix.TheVariants.{Joins, Rests}
use Rattle.sot_expression.specs.Lexemes.{IsKeyword, IsSign, IsName, IsNumber, begins, is_sign, is_keyword, ident, literal}
use Rattle.sot_expression.specs.Readers.{Read, ◌>>=◌, expect, name_at, number_at}
use Rattle.sot_expression.specs.Operators.{infix_at}
use Rattle.sot_expression.specs.ExpressionReaders.{Part, Reader, leaf, over, grouped, within, operation_at, remainder_at, joined_at, gone_on, chain_at}
use Rattle.sot_expression.specs.ExpressionReaders.{number_part, truth_part, field_at, named_at, group_at, opened_at, further_at, abs_at, pair_at, limits_at}
use Rattle.sot_expression.specs.ExpressionReaders.{clamp_at, target_at, rescale_at, held_group, chosen_at}
use Rattle.sot_expression.specs.Phrases.{Phrase, a_number, a_truth, a_name, a_field, a_group, an_abs, a_pair, a_clamp, a_rescale, a_rest, a_join, an_if}
use Rattle.sot_expression.specs.Phrases.{spelled, tier_of, IsTruth, IsPairWord, left_tier, IsPhrase, tree_of, is_group, levels_of, part_of}
use Rattle.sot_expression.proofs.TokenTests.{infix_ok, infix_end}
use Rattle.sot_expression.proofs.ReadSteps.{ok, bind_ok, ok_is, guard_ok, unless_ok, chosen_by, sign_taken, keyword_taken, name_taken, number_taken}

-- at most so many levels, and one less for parentheses directly in parentheses
abbrev pub FitsIn : ℕ → Bool → Phrase → Type 0
FitsIn room held f = (levels_of f ≤ room) × (held ≡ true → is_group f ≡ true → levels_of f + 1 ≤ room)

-- a phrase of this tier stands at the front
pub record Found (tier room : ℕ) (held : Bool) (ts : List Lexeme) (x : Part × List Lexeme) : Type 0 where
  pub phrase : Phrase
  pub is : IsPhrase phrase
  pub low : tier_of phrase ≤ tier
  pub tokens : ts ≡ spelled phrase x.1
  pub part : x.0 ≡ part_of phrase
  pub fits : FitsIn room held phrase

abbrev pub Reads : ℕ → ℕ → Bool → Reader → Type 0
Reads tier room held g = (ts : List Lexeme) (x : Part × List Lexeme) → g ts ≡ Ok x → Found tier room held ts x

pub looser : (a b room : ℕ) (held : Bool) (ts : List Lexeme) (x : Part × List Lexeme) → a ≤ b → Found a room held ts x → Found b room held ts x
looser a b room held ts x le f = record { phrase = f.phrase; is = f.is; low = omega (arith, f.low, le); tokens = f.tokens; part = f.part; fits = f.fits }

-- what is no pair of parentheses
plain : (room : ℕ) (held : Bool) (f : Phrase) → is_group f ≡ false → levels_of f ≤ room → FitsIn room held f
plain room held f no_group le = (le, λ _ yes_. absurd cc)

abbrev part_of_pair : (z : Part × List Lexeme) → Part
part_of_pair z = z.0

abbrev rest_of_pair : (z : Part × List Lexeme) → List Lexeme
rest_of_pair z = z.1

-- the last step of a reader
pub made : (tier room : ℕ) (held : Bool) (ts : List Lexeme) (f : Phrase) (y x : Part × List Lexeme) → IsPhrase f → tier_of f ≤ tier → is_group f ≡ false
    → levels_of f ≤ room
    → ts ≡ spelled f y.1 → y.0 ≡ part_of f → ok y ≡ Ok x → Found tier room held ts x
made tier room held ts f y x is low no_group le tokens part e =
    let same = ok_is y x e in record {
      phrase = f;
      is = is;
      low = low;
      tokens = tokens ∙ ap (λ (z : Part × List Lexeme). spelled f z.1) same;
      part = sym (ap part_of_pair same) ∙ part;
      fits = plain room held f no_group le;
    }

-- if
chosen_is : (t u v : Lexeme) (c y n : Part) (fc fy fn : Phrase) → c ≡ part_of fc → y ≡ part_of fy → n ≡ part_of fn
    → over (chosen c.tree y.tree n.tree t.at) (max c.levels (max y.levels n.levels)) ≡ part_of (an_if t fc u fy v fn)
chosen_is t u v c y n fc fy fn a b d = rw (a, b, d) refl

pub if_ok : (r : ℕ) (held : Bool) (part : Reader) → Reads 7 r false part → (t : Lexeme) (ts : List Lexeme) (x : Part × List Lexeme) → IsKeyword (codes "if") t
    → chosen_at part (t ∷ ts) ≡ Ok x → Found 7 (suc r) held (t ∷ ts) x
unfolding chosen_at
if_ok r held part reads t ts x word e =
    let c = bind_ok (part ts) _ x e in
    let u = bind_ok (expect (is_keyword (codes "then")) c.0.1) _ x c.2 in
    let y = bind_ok (part u.0.1) _ x u.2 in
    let v = bind_ok (expect (is_keyword (codes "else")) y.0.1) _ x y.2 in
    let n = bind_ok (part v.0.1) _ x v.2 in
    let fc = reads ts c.0 c.1 in
    let fy = reads u.0.1 y.0 y.1 in
    let fn = reads v.0.1 n.0 n.1 in
    let wu = keyword_taken (codes "then") c.0.1 u.0 u.1 in
    let wv = keyword_taken (codes "else") y.0.1 v.0 v.1 in
    made 7 (suc r) held (t ∷ ts) (an_if t fc.phrase wu.0 fy.phrase wv.0 fn.phrase)
    (over (chosen c.0.0.tree y.0.0.tree n.0.0.tree t.at) (max c.0.0.levels (max y.0.0.levels n.0.0.levels)), n.0.1) x
    (word, fc.is, wu.2, fy.is, wv.2, fn.is)
    (omega arith) refl (omega (arith, fc.fits.0, fy.fits.0, fn.fits.0))
    (ap (λ (us : List Lexeme). t ∷ us) (fc.tokens ∙ ap (spelled fc.phrase)
    (wu.1 ∙ ap (λ (us : List Lexeme). wu.0 ∷ us) (fy.tokens ∙ ap (spelled fy.phrase) (wv.1 ∙ ap (λ (us : List Lexeme). wv.0 ∷ us) fn.tokens)))))
    (chosen_is t wu.0 wv.0 c.0.0 y.0.0 n.0.0 fc.phrase fy.phrase fn.phrase fc.part fy.part fn.part)
    n.2

-- what an operator makes of a left part
pub record Grown (tier room : ℕ) (held : Bool) (f : Phrase) (ts : List Lexeme) (x : Part × List Lexeme) : Type 0 where
  pub phrase : Phrase
  pub is : IsPhrase phrase
  pub low : tier_of phrase ≤ tier
  pub tokens : spelled f ts ≡ spelled phrase x.1
  pub part : x.0 ≡ part_of phrase
  pub fits : FitsIn room held phrase

grown_by : (tier room : ℕ) (held : Bool) (f : Phrase) (ts : List Lexeme) (g : Phrase) (y x : Part × List Lexeme) → IsPhrase g → tier_of g ≤ tier
    → is_group g ≡ false → levels_of g ≤ room
    → spelled f ts ≡ spelled g y.1 → y.0 ≡ part_of g → ok y ≡ Ok x → Grown tier room held f ts x
grown_by tier room held f ts g y x is low no_group le tokens part e =
    let same = ok_is y x e in record {
      phrase = g;
      is = is;
      low = low;
      tokens = tokens ∙ ap (λ (z : Part × List Lexeme). spelled g z.1) same;
      part = sym (ap part_of_pair same) ∙ part;
      fits = plain room held g no_group le;
    }

not_grown : (tier room : ℕ) (held : Bool) (f : Phrase) → IsPhrase f → tier_of f ≤ tier → FitsIn room held f → (ts : List Lexeme) (x : Part × List Lexeme)
    → ok (part_of f, ts) ≡ Ok x → Grown tier room held f ts x
not_grown tier room held f is low fits ts x e =
    let same = ok_is (part_of f, ts) x e in
    record { phrase = f; is = is; low = low; tokens = ap (λ (z : Part × List Lexeme). spelled f z.1) same; part = sym (ap part_of_pair same); fits = fits }

binary_is : (op : Op) (f : Phrase) (t : Lexeme) (r : Part) (g : Phrase) → r ≡ part_of g
    → over (binary op (tree_of f) r.tree t.at) (max (levels_of f) r.levels) ≡ part_of (a_join op f t g)
binary_is op f t r g e = rw e refl

pub joined_ok : (r tier k : ℕ) (held : Bool) (o : Infix) (right : Reader) → Reads k r false right → k < tier → (f : Phrase) → IsPhrase f
    → tier_of f ≤ left_tier tier → levels_of f < suc r → (ts : List Lexeme) (x : Part × List Lexeme)
    → infix_at tier ts ≡ Some o → joined_at o right (part_of f) ts ≡ Ok x → Grown tier (suc r) held f ts x
unfolding joined_at operation_at remainder_at
joined_ok r tier k held o right reads lt f is low less [] x infix_is e = absurd (infix_end tier o infix_is)
joined_ok r tier k held (Joins op) right reads lt f is low less (t ∷ ts) x infix_is e =
    let word = infix_ok tier t ts (Joins op) infix_is in
    let q = bind_ok (right ts) _ x e in
    let fq = reads ts q.0 q.1 in
    grown_by tier (suc r) held f (t ∷ ts) (a_join op f t fq.phrase) (over (binary op (tree_of f) q.0.0.tree t.at) (max (levels_of f) q.0.0.levels), q.0.1) x
    (is, subst (λ j. tier_of f ≤ left_tier j) (sym word.1) low, word.0, fq.is, omega (arith, fq.low, lt, word.1))
    (omega (arith, word.1)) refl (omega (arith, less, fq.fits.0))
    (ap (λ (us : List Lexeme). spelled f (t ∷ us)) fq.tokens)
    (binary_is op f t q.0.0 fq.phrase fq.part)
    q.2
joined_ok r tier k held Rests right reads lt f is low less (t ∷ ts) x infix_is e =
    let word = infix_ok tier t ts Rests infix_is in
    let n = bind_ok (number_at ts) _ x e in
    let d = number_taken ts n.0 n.1 in
    let low_one : tier_of f ≤ 1 = subst (λ j. tier_of f ≤ left_tier j) (sym word.1) low in
    grown_by tier (suc r) held f (t ∷ ts) (a_rest f t d.0) (over (rest (tree_of f) n.0.0 t.at) (levels_of f), n.0.1) x
    (is, low_one, word.0, d.2)
    (omega (arith, word.1)) refl (omega (arith, less))
    (ap (λ (us : List Lexeme). spelled f (t ∷ us)) d.1)
    (ap (λ (l : Lit). over (rest (tree_of f) l t.at) (levels_of f)) d.3)
    n.2

left_again : (n tier a : ℕ) → (tier ≡ 3 → suc n ≤ 1) → 1 ≤ n → a ≤ tier → a ≤ left_tier tier
left_again n tier a once h le = elim (cases_Bool (tier == 3)) [
  | inl three ↦ absurd (let is : tier ≡ 3 = grind (arith, nat_tests) in omega (arith, once is, h))
  | inr other ↦ rw other le
]

-- comparisons do not go on
turn_ok : (n r tier k : ℕ) (held : Bool) (right : Reader) → Reads k r false right → k < tier → (tier ≡ 3 → suc n ≤ 1) → (f : Phrase) → IsPhrase f
    → tier_of f ≤ tier → tier_of f ≤ left_tier tier → FitsIn (suc r) held f
    → ((g : Phrase) → IsPhrase g → tier_of g ≤ tier → (1 ≤ n → tier_of g ≤ left_tier tier) → FitsIn (suc r) held g → (us : List Lexeme) (x : Part × List Lexeme)
    → chain_at n (suc r) tier right (part_of g) us ≡ Ok x → Grown tier (suc r) held g us x)
    → (ts : List Lexeme) (x : Part × List Lexeme) (o : Option Infix) → infix_at tier ts ≡ o
    → gone_on (suc r) (λ o. joined_at o right (part_of f) ts >>= λ p. chain_at n (suc r) tier right p.0 p.1) o (part_of f) ts ≡ Ok x
    → Grown tier (suc r) held f ts x
turn_ok n r tier k held right reads lt once f is le left fits ih ts x None infix_is e = not_grown tier (suc r) held f is le fits ts x e
turn_ok n r tier k held right reads lt once f is le left fits ih ts x (Some o) infix_is e =
    let g = guard_ok (nat_lt (levels_of f) (suc r)) (joined_at o right (part_of f) ts >>= λ p. chain_at n (suc r) tier right p.0 p.1) _ x e in
    let less : levels_of f < suc r = grind (arith, nat_tests, g.0) in
    let p = bind_ok (joined_at o right (part_of f) ts) _ x g.1 in
    let grown = joined_ok r tier k held o right reads lt f is left less ts p.0 infix_is p.1 in
    let next : chain_at n (suc r) tier right (part_of grown.phrase) p.0.1 ≡ Ok x = sym (ap (λ (q : Part). chain_at n (suc r) tier right q p.0.1) grown.part)
    ∙ p.2 in
    let left_of : 1 ≤ n → tier_of grown.phrase ≤ left_tier tier = λ h. left_again n tier (tier_of grown.phrase) once h grown.low in
    let last = ih grown.phrase grown.is grown.low left_of grown.fits p.0.1 x next in
    record { phrase = last.phrase; is = last.is; low = last.low; tokens = grown.tokens ∙ last.tokens; part = last.part; fits = last.fits }

pub chain_ok : (n r tier k : ℕ) (held : Bool) (right : Reader) → Reads k r false right → k < tier → (tier ≡ 3 → n ≤ 1) → (f : Phrase) → IsPhrase f
    → tier_of f ≤ tier → (1 ≤ n → tier_of f ≤ left_tier tier) → FitsIn (suc r) held f
    → (ts : List Lexeme) (x : Part × List Lexeme) → chain_at n (suc r) tier right (part_of f) ts ≡ Ok x → Grown tier (suc r) held f ts x
unfolding chain_at
chain_ok zero r tier k held right reads lt once f is le left fits ts x e = not_grown tier (suc r) held f is le fits ts x e
chain_ok (suc n) r tier k held right reads lt once f is le left fits ts x e =
    turn_ok n r tier k held right reads lt once f is le (left (omega arith)) fits (chain_ok n r tier k held right reads lt (λ h. omega (arith, once h))) ts x
    (infix_at tier ts) refl e

-- names, numbers and truth values
pub numeral_found : (r : ℕ) (held : Bool) (ts : List Lexeme) (x : Part × List Lexeme) → number_part ts ≡ Ok x → Found 0 (suc r) held ts x
unfolding number_part
numeral_found r held ts x e =
    let n = bind_ok (number_at ts) _ x e in
    let w = number_taken ts n.0 n.1 in
    made 0 (suc r) held ts (a_number w.0) (leaf (number n.0.0), n.0.1) x w.2 (omega arith) refl (omega arith) w.1 (ap (λ (l : Lit). leaf (number l)) w.3) n.2

pub truth_found : (r : ℕ) (held value : Bool) (t : Lexeme) (ts : List Lexeme) (x : Part × List Lexeme) → IsTruth value t → truth_part value (t ∷ ts) ≡ Ok x
    → Found 0 (suc r) held (t ∷ ts) x
unfolding truth_part
truth_found r held value t ts x word e =
    made 0 (suc r) held (t ∷ ts) (a_truth value t) (leaf (truth value t.at), ts) x word (omega arith) refl (omega arith) refl refl e

field_is : (a b n f : Ident) → a ≡ n → b ≡ f → leaf (named a (Some b)) ≡ leaf (named n (Some f))
field_is a b n f p q = rw (p, q) refl

field_found : (r : ℕ) (held : Bool) (first : Ident) (n : Lexeme) (ts : List Lexeme) (x : Part × List Lexeme) → IsName n → first ≡ ident n
    → field_at first ts ≡ Ok x → Found 0 (suc r) held (n ∷ ts) x
unfolding field_at
field_found r held first n ts x is first_is e =
    let d = bind_ok (expect (is_sign (codes ".")) ts) _ x e in
    let f = bind_ok (name_at d.0.1) _ x d.2 in
    let wd = sign_taken (codes ".") ts d.0 d.1 in
    let wf = name_taken d.0.1 f.0 f.1 in
    made 0 (suc r) held (n ∷ ts) (a_field n wd.0 wf.0) (leaf (named first (Some f.0.0)), f.0.1) x (is, wd.2, wf.2) (omega arith) refl (omega arith)
    (ap (λ (us : List Lexeme). n ∷ us) (wd.1 ∙ ap (λ (us : List Lexeme). wd.0 ∷ us) wf.1))
    (field_is first f.0.0 (ident n) (ident wf.0) first_is wf.3)
    f.2

pub named_found : (r : ℕ) (held : Bool) (ts : List Lexeme) (x : Part × List Lexeme) → named_at ts ≡ Ok x → Found 0 (suc r) held ts x
unfolding named_at
named_found r held ts x e =
    let n = bind_ok (name_at ts) _ x e in
    let w = name_taken ts n.0 n.1 in
    chosen_by (begins (is_sign (codes ".")) n.0.1) (field_at n.0.0 n.0.1) (Ok (leaf (named n.0.0 None), n.0.1)) x (Found 0 (suc r) held ts x) n.2
    (λ _ e1. subst (λ (us : List Lexeme). Found 0 (suc r) held us x) (sym w.1) (field_found r held n.0.0 w.0 n.0.1 x w.2 w.3 e1))
    (λ _ e1. made 0 (suc r) held ts (a_name w.0) (leaf (named n.0.0 None), n.0.1) x w.2 (omega arith) refl (omega arith) w.1
    (ap (λ (m : Ident). leaf (named m None)) w.3) e1)

-- parentheses
group_is : (p : Part) (t : Lexeme) (f : Phrase) (u : Lexeme) → p ≡ part_of f → grouped p ≡ part_of (a_group t f u)
group_is p t f u e = rw e refl

pub group_levels : (room : ℕ) (t : Lexeme) (f : Phrase) (u : Lexeme) → FitsIn room true f → levels_of (a_group t f u) ≤ room
group_levels room t f u fits = elim (cases_Bool (is_group f)) [
  | inl yes_ ↦ rw yes_ (let h = fits.1 refl yes_ in omega (arith, h))
  | inr no_ ↦ rw no_ fits.0
]

group_found : (room inside : ℕ) (held : Bool) (inner : Reader) → Reads 7 inside true inner → inside ≤ room → (held ≡ true → inside + 1 ≤ room)
    → (t : Lexeme) (ts : List Lexeme) (x : Part × List Lexeme) → IsSign (codes "(") t
    → group_at inner (t ∷ ts) ≡ Ok x → Found 0 room held (t ∷ ts) x
unfolding group_at
group_found room inside held inner reads le less t ts x word e =
    let p = bind_ok (inner ts) _ x e in
    let close = bind_ok (expect (is_sign (codes ")")) p.0.1) _ x p.2 in
    let same = ok_is (grouped p.0.0, close.0.1) x close.2 in
    let fp = reads ts p.0 p.1 in
    let w = sign_taken (codes ")") p.0.1 close.0 close.1 in
    let levels = group_levels inside t fp.phrase w.0 fp.fits in record {
      phrase = a_group t fp.phrase w.0;
      is = (word, fp.is, w.2);
      low = omega arith;
      tokens = ap (λ (us : List Lexeme). t ∷ us) (fp.tokens ∙ ap (spelled fp.phrase) (w.1 ∙ ap (λ (z : Part × List Lexeme). w.0 ∷ z.1) same));
      part = sym (ap part_of_pair same) ∙ group_is p.0.0 t fp.phrase w.0 fp.part;
      fits = (omega (arith, levels, le), λ h _. omega (arith, levels, less h));
    }

pub within_ok : (room : ℕ) (ts : List Lexeme) (m : Read Part) (x : Part × List Lexeme) → within room ts m ≡ Ok x → m ≡ Ok x
within_ok room ts m x e = (unless_ok (nat_lt room 2) m _ x e).1

-- the room of what stands in parentheses
abbrev pub room_inside : ℕ → Bool → ℕ
room_inside r held = if held then r else suc r

pub held_found : (r : ℕ) (held : Bool) (inner : Reader) → Reads 7 (room_inside r held) true inner → (t : Lexeme) (ts : List Lexeme) (x : Part × List Lexeme)
    → IsSign (codes "(") t → held_group (suc r) held inner (t ∷ ts) ≡ Ok x → Found 0 (suc r) held (t ∷ ts) x
held_found r true inner reads t ts x word e =
    group_found (suc r) r true inner reads (omega arith) (λ _. omega arith) t ts x word (within_ok (suc r) (t ∷ ts) (group_at inner (t ∷ ts)) x e)
held_found r false inner reads t ts x word e = group_found (suc r) (suc r) false inner reads (omega arith) (λ h. absurd cc) t ts x word e

-- calls
pub record Argument (r : ℕ) (sign : List ℕ) (ts : List Lexeme) (x : Part × List Lexeme) : Type 0 where
  pub before : Lexeme
  pub is_before : IsSign sign before
  pub phrase : Phrase
  pub is : IsPhrase phrase
  pub tokens : ts ≡ before ∷ spelled phrase x.1
  pub part : x.0 ≡ part_of phrase
  pub levels : levels_of phrase ≤ r

argument_found : (r : ℕ) (sign : List ℕ) (part : Reader) → Reads 7 r false part → (ts : List Lexeme) (x : Part × List Lexeme)
    → (expect (is_sign sign) ts >>= λ s. part s.1) ≡ Ok x → Argument r sign ts x
argument_found r sign part reads ts x e =
    let s = bind_ok (expect (is_sign sign) ts) _ x e in
    let w = sign_taken sign ts s.0 s.1 in
    let f = reads s.0.1 x s.2 in
    record {
      before = w.0;
      is_before = w.2;
      phrase = f.phrase;
      is = f.is;
      tokens = w.1 ∙ ap (λ (us : List Lexeme). w.0 ∷ us) f.tokens;
      part = f.part;
      levels = f.fits.0;
    }

opened_found : (r : ℕ) (part : Reader) → Reads 7 r false part → (ts : List Lexeme) (x : Part × List Lexeme) → opened_at part ts ≡ Ok x
    → Argument r (codes "(") ts x
unfolding opened_at
opened_found r part reads ts x e = argument_found r (codes "(") part reads ts x e

further_found : (r : ℕ) (part : Reader) → Reads 7 r false part → (ts : List Lexeme) (x : Part × List Lexeme) → further_at part ts ≡ Ok x
    → Argument r (codes ",") ts x
unfolding further_at
further_found r part reads ts x e = argument_found r (codes ",") part reads ts x e

abs_is : (w o u : Lexeme) (a : Part) (f : Phrase) → a ≡ part_of f → over (called Abs (one_more a.tree no_tree) w.at) a.levels ≡ part_of (an_abs w o f u)
abs_is w o u a f e = rw e refl

pub abs_found : (r : ℕ) (held : Bool) (part : Reader) → Reads 7 r false part → (t : Lexeme) (ts : List Lexeme) (x : Part × List Lexeme)
    → IsKeyword (codes "abs") t → abs_at part (t ∷ ts) ≡ Ok x → Found 0 (suc r) held (t ∷ ts) x
unfolding abs_at
abs_found r held part reads t ts x word e =
    let a = bind_ok (opened_at part ts) _ x e in
    let close = bind_ok (expect (is_sign (codes ")")) a.0.1) _ x a.2 in
    let fa = opened_found r part reads ts a.0 a.1 in
    let w = sign_taken (codes ")") a.0.1 close.0 close.1 in
    made 0 (suc r) held (t ∷ ts) (an_abs t fa.before fa.phrase w.0) (over (called Abs (one_more a.0.0.tree no_tree) t.at) a.0.0.levels, close.0.1) x
    (word, fa.is_before, fa.is, w.2) (omega arith) refl (omega (arith, fa.levels))
    (ap (λ (us : List Lexeme). t ∷ us) (fa.tokens ∙ ap (λ (us : List Lexeme). fa.before ∷ spelled fa.phrase us) w.1))
    (abs_is t fa.before w.0 a.0.0 fa.phrase fa.part)
    close.2

pair_is : (func : Func) (w o c u : Lexeme) (a b : Part) (f g : Phrase) → a ≡ part_of f → b ≡ part_of g
    → over (called func (one_more a.tree (one_more b.tree no_tree)) w.at) (max a.levels b.levels) ≡ part_of (a_pair func w o f c g u)
pair_is func w o c u a b f g p q = rw (p, q) refl

pub pair_found : (r : ℕ) (held : Bool) (func : Func) (part : Reader) → Reads 7 r false part → (t : Lexeme) (ts : List Lexeme) (x : Part × List Lexeme)
    → IsPairWord func t → pair_at func part (t ∷ ts) ≡ Ok x → Found 0 (suc r) held (t ∷ ts) x
unfolding pair_at
pair_found r held func part reads t ts x word e =
    let a = bind_ok (opened_at part ts) _ x e in
    let b = bind_ok (further_at part a.0.1) _ x a.2 in
    let close = bind_ok (expect (is_sign (codes ")")) b.0.1) _ x b.2 in
    let fa = opened_found r part reads ts a.0 a.1 in
    let fb = further_found r part reads a.0.1 b.0 b.1 in
    let w = sign_taken (codes ")") b.0.1 close.0 close.1 in
    made 0 (suc r) held (t ∷ ts) (a_pair func t fa.before fa.phrase fb.before fb.phrase w.0)
    (over (called func (one_more a.0.0.tree (one_more b.0.0.tree no_tree)) t.at) (max a.0.0.levels b.0.0.levels), close.0.1) x
    (word, fa.is_before, fa.is, fb.is_before, fb.is, w.2) (omega arith) refl (omega (arith, fa.levels, fb.levels))
    (ap (λ (us : List Lexeme). t ∷ us) (fa.tokens ∙ ap (λ (us : List Lexeme). fa.before ∷ spelled fa.phrase us)
    (fb.tokens ∙ ap (λ (us : List Lexeme). fb.before ∷ spelled fb.phrase us) w.1)))
    (pair_is func t fa.before fb.before w.0 a.0.0 b.0.0 fa.phrase fb.phrase fa.part fb.part)
    close.2

clamp_is : (w o c d u : Lexeme) (a b l : Part) (f g h : Phrase) → a ≡ part_of f → b ≡ part_of g → l ≡ part_of h
    → over (called Clamp (one_more a.tree (one_more b.tree (one_more l.tree no_tree))) w.at) (max a.levels (max b.levels l.levels))
    ≡ part_of (a_clamp w o f c g d h u)
clamp_is w o c d u a b l f g h p q s = rw (p, q, s) refl

-- the second and the third argument, and the end of the call
record Limits (r : ℕ) (ts : List Lexeme) (x : (Part × Part) × List Lexeme) : Type 0 where
  behind_low : List Lexeme
  behind_high : List Lexeme
  low : Argument r (codes ",") ts (x.0.0, behind_low)
  high : Argument r (codes ",") behind_low (x.0.1, behind_high)
  closing : Lexeme
  closes : IsSign (codes ")") closing
  tokens : behind_high ≡ closing ∷ x.1

limits_found : (r : ℕ) (part : Reader) → Reads 7 r false part → (ts : List Lexeme) (x : (Part × Part) × List Lexeme) → limits_at part ts ≡ Ok x → Limits r ts x
unfolding limits_at
limits_found r part reads ts x e =
    let b = bind_ok (further_at part ts) _ x e in
    let c = bind_ok (further_at part b.0.1) _ x b.2 in
    let close = bind_ok (expect (is_sign (codes ")")) c.0.1) _ x c.2 in
    let fb = further_found r part reads ts b.0 b.1 in
    let fc = further_found r part reads b.0.1 c.0 c.1 in
    let w = sign_taken (codes ")") c.0.1 close.0 close.1 in
    subst (Limits r ts) (ok_is ((b.0.0, c.0.0), close.0.1) x close.2)
    (record { behind_low = b.0.1; behind_high = c.0.1; low = fb; high = fc; closing = w.0; closes = w.2; tokens = w.1 })

pub clamp_found : (r : ℕ) (held : Bool) (part : Reader) → Reads 7 r false part → (t : Lexeme) (ts : List Lexeme) (x : Part × List Lexeme)
    → IsKeyword (codes "clamp") t → clamp_at part (t ∷ ts) ≡ Ok x → Found 0 (suc r) held (t ∷ ts) x
unfolding clamp_at
clamp_found r held part reads t ts x word e =
    let a = bind_ok (opened_at part ts) _ x e in
    let m = bind_ok (limits_at part a.0.1) _ x a.2 in
    let fa = opened_found r part reads ts a.0 a.1 in
    let l = limits_found r part reads a.0.1 m.0 m.1 in
    let fb = l.low in
    let fc = l.high in
    made 0 (suc r) held (t ∷ ts) (a_clamp t fa.before fa.phrase fb.before fb.phrase fc.before fc.phrase l.closing) (
      over (called Clamp (one_more a.0.0.tree (one_more m.0.0.0.tree (one_more m.0.0.1.tree no_tree))) t.at)
          (max a.0.0.levels (max m.0.0.0.levels m.0.0.1.levels)),
      m.0.1,
    ) x
    (word, fa.is_before, fa.is, fb.is_before, fb.is, fc.is_before, fc.is, l.closes) (omega arith) refl (omega (arith, fa.levels, fb.levels, fc.levels))
    (ap (λ (us : List Lexeme). t ∷ us) (fa.tokens ∙ ap (λ (us : List Lexeme). fa.before ∷ spelled fa.phrase us)
    (fb.tokens ∙ ap (λ (us : List Lexeme). fb.before ∷ spelled fb.phrase us)
    (fc.tokens ∙ ap (λ (us : List Lexeme). fc.before ∷ spelled fc.phrase us) l.tokens))))
    (clamp_is t fa.before fb.before fc.before l.closing a.0.0 m.0.0.0 m.0.0.1 fa.phrase fb.phrase fc.phrase fa.part fb.part fc.part)
    m.2

rescale_is : (w o c n u : Lexeme) (a : Part) (f : Phrase) (l : Lit) → a ≡ part_of f → l ≡ literal n
    → over (rescaled a.tree l w.at) a.levels ≡ part_of (a_rescale w o f c n u)
rescale_is w o c n u a f l p q = rw (p, q) refl

-- a comma, a number and the end of the call
target_found : (ts : List Lexeme) (x : Lit × List Lexeme) → target_at ts ≡ Ok x
    → (c : Lexeme) × (n : Lexeme) × (u : Lexeme) × (ts ≡ c ∷ n ∷ u ∷ x.1) × IsSign (codes ",") c × IsNumber n × IsSign (codes ")") u × (x.0 ≡ literal n)
unfolding target_at
target_found ts x e =
    let c = bind_ok (expect (is_sign (codes ",")) ts) _ x e in
    let n = bind_ok (number_at c.0.1) _ x c.2 in
    let close = bind_ok (expect (is_sign (codes ")")) n.0.1) _ x n.2 in
    let wc = sign_taken (codes ",") ts c.0 c.1 in
    let wn = number_taken c.0.1 n.0 n.1 in
    let w = sign_taken (codes ")") n.0.1 close.0 close.1 in
    let same = ok_is (n.0.0, close.0.1) x close.2 in (
      wc.0,
      wn.0,
      w.0,
      wc.1 ∙ ap (λ (us : List Lexeme). wc.0 ∷ us)
          (wn.1 ∙ ap (λ (us : List Lexeme). wn.0 ∷ us) (w.1 ∙ ap (λ (z : Lit × List Lexeme). w.0 ∷ z.1) same)),
      wc.2,
      wn.2,
      w.2,
      sym (ap (λ (z : Lit × List Lexeme). z.0) same) ∙ wn.3,
    )

pub rescale_found : (r : ℕ) (held : Bool) (part : Reader) → Reads 7 r false part → (t : Lexeme) (ts : List Lexeme) (x : Part × List Lexeme)
    → IsKeyword (codes "rescale") t → rescale_at part (t ∷ ts) ≡ Ok x → Found 0 (suc r) held (t ∷ ts) x
unfolding rescale_at
rescale_found r held part reads t ts x word e =
    let a = bind_ok (opened_at part ts) _ x e in
    let to = bind_ok (target_at a.0.1) _ x a.2 in
    let fa = opened_found r part reads ts a.0 a.1 in
    let w = target_found a.0.1 to.0 to.1 in
    made 0 (suc r) held (t ∷ ts) (a_rescale t fa.before fa.phrase w.0 w.1 w.2) (over (rescaled a.0.0.tree to.0.0 t.at) a.0.0.levels, to.0.1) x
    (word, fa.is_before, fa.is, w.4, w.5, w.6) (omega arith) refl (omega (arith, fa.levels))
    (ap (λ (us : List Lexeme). t ∷ us) (fa.tokens ∙ ap (λ (us : List Lexeme). fa.before ∷ spelled fa.phrase us) w.3))
    (rescale_is t fa.before w.0 w.1 w.2 a.0.0 fa.phrase to.0.0 fa.part w.7)
    to.2
