-- What is read as an expression is one: the productions together.
use Rattle.std.proofs.Common.{◌≡◌, ℕ, ◌==◌, zero, suc, ◌≤◌, nat_lt, List, [], ◌∷◌, Bool, true, false, inl, inr, codes, Ok, refl, sym, ap, subst, ◌∙◌, arith}
use Rattle.std.proofs.lemmas.Bool.{cases_Bool}
use Rattle.std.proofs.lemmas.Bool.Decides.{nat_tests}
use Rattle.sot_text.specs.Reading.{Lexeme}
use Rattle.sot_syntax_tree.specs.declared.tree.Lit.{Lit}
use Rattle.sot_syntax_tree.specs.Trees.{number, negated, denied}
use Rattle.sot_expression.specs.declared.operators.Opening.{Opening}
use Rattle.sot_expression.specs.declared.operators.Opening.TheVariants as openings
use Rattle.sot_expression.specs.Lexemes.{IsKeyword, IsSign, begins, is_sign, is_keyword, is_number}
use Rattle.sot_expression.specs.Readers.{◌>>=◌, negative_at}
use Rattle.sot_expression.specs.Operators.{opening_of}
use Rattle.sot_expression.specs.ExpressionReaders.{Part, Reader, Around, leaf, over, chain_at, pair_at, abs_at, clamp_at, rescale_at, atom_from, atom_at}
use Rattle.sot_expression.specs.ExpressionReaders.{minus_at, unary_at, denied_at, denial_at, chosen_at, choice_at, turns, tier_at, part_at, expression_at}
use Rattle.sot_expression.specs.Phrases.{Phrase, a_number, a_truth, a_name, a_field, a_group, an_abs, a_pair, a_clamp, a_rescale, a_minus, a_rest, a_join}
use Rattle.sot_expression.specs.Phrases.{a_not, an_if, spelled, tier_of, left_tier, IsPhrase, tree_of, is_numeral, levels_of, part_of}
use Rattle.sot_expression.specs.Laws.{ReadsOnlyPhrases}
use Rattle.sot_expression.proofs.TokenTests.{sign_ok, keyword_ok, IsOpening, opening_tells}
use Rattle.sot_expression.proofs.ReadSteps.{bind_ok, unless_ok, chosen_by, negative_taken}
use Rattle.sot_expression.proofs.Founds.{Found, Reads, looser, made, if_ok, chain_ok, numeral_found, truth_found, named_found, within_ok, room_inside}
use Rattle.sot_expression.proofs.Founds.{held_found, abs_found, pair_found, clamp_found, rescale_found}

-- an atom, by what it begins with
pub atom_ok : (r : ℕ) (held : Bool) (below : ℕ → Reader) (inner : Reader) → ((k : ℕ) → Reads k r false (below k)) → Reads 7 (room_inside r held) true inner
    → (o : Opening) (t : Lexeme) (ts : List Lexeme) (x : Part × List Lexeme) → IsOpening t o
    → atom_from o (record { room = suc r; held = held; below = below; inner = inner }) (t ∷ ts) ≡ Ok x → Found 0 (suc r) held (t ∷ ts) x
unfolding atom_from
atom_ok r held below inner low reads openings.Number t ts x word e = numeral_found r held (t ∷ ts) x e
atom_ok r held below inner low reads openings.Name t ts x word e = named_found r held (t ∷ ts) x e
atom_ok r held below inner low reads openings.Group t ts x word e = held_found r held inner reads t ts x word e
atom_ok r held below inner low reads (openings.Truth value) t ts x word e = truth_found r held value t ts x word e
atom_ok r held below inner low reads (openings.Pair func) t ts x word e =
    pair_found r held func (below 7) (low 7) t ts x word (within_ok (suc r) (t ∷ ts) (pair_at func (below 7) (t ∷ ts)) x e)
atom_ok r held below inner low reads openings.Abs t ts x word e =
    abs_found r held (below 7) (low 7) t ts x word (within_ok (suc r) (t ∷ ts) (abs_at (below 7) (t ∷ ts)) x e)
atom_ok r held below inner low reads openings.Clamp t ts x word e =
    clamp_found r held (below 7) (low 7) t ts x word (within_ok (suc r) (t ∷ ts) (clamp_at (below 7) (t ∷ ts)) x e)
atom_ok r held below inner low reads openings.Rescale t ts x word e =
    rescale_found r held (below 7) (low 7) t ts x word (within_ok (suc r) (t ∷ ts) (rescale_at (below 7) (t ∷ ts)) x e)
atom_ok r held below inner low reads openings.Other t ts x word e = absurd cc

pub negated_is : (t : Lexeme) (f : Phrase) (us : List Lexeme) → IsPhrase f → begins is_number (spelled f us) ≡ false
    → over (negated (tree_of f) t.at) (levels_of f) ≡ part_of (a_minus t f)
negated_is t (a_number n) us is e = let test : is_number n ≡ true = rw is refl in absurd cc
negated_is t (a_truth value u) us is e = refl
negated_is t (a_name n) us is e = refl
negated_is t (a_field n dot f) us is e = refl
negated_is t (a_group open_ f close) us is e = refl
negated_is t (an_abs w open_ f close) us is e = refl
negated_is t (a_pair func w open_ f comma g close) us is e = refl
negated_is t (a_clamp w open_ f comma g comma2 h close) us is e = refl
negated_is t (a_rescale w open_ f comma n close) us is e = refl
negated_is t (a_minus u f) us is e = refl
negated_is t (a_rest f u n) us is e = refl
negated_is t (a_join op f u g) us is e = refl
negated_is t (a_not u f) us is e = refl
negated_is t (an_if u c v f w g) us is e = refl

literal_ok : (r : ℕ) (held : Bool) (t : Lexeme) (ts : List Lexeme) (x : Part × List Lexeme) → IsSign (codes "-") t
    → (negative_at t ts >>= λ n. Ok (leaf (number n.0), n.1)) ≡ Ok x → Found 0 (suc r) held (t ∷ ts) x
literal_ok r held t ts x word e =
    let n = bind_ok (negative_at t ts) _ x e in
    let w = negative_taken t ts n.0 n.1 in
    made 0 (suc r) held (t ∷ ts) (a_minus t (a_number w.0)) (leaf (number n.0.0), n.0.1) x (word, w.2, refl) (omega arith) refl (omega arith)
    (ap (λ (us : List Lexeme). t ∷ us) w.1) (ap (λ (l : Lit). leaf (number l)) w.3) n.2

minus_levels : (t : Lexeme) (f : Phrase) (r : ℕ) → levels_of f ≤ r → levels_of (a_minus t f) ≤ suc r
minus_levels t f r le = elim (cases_Bool (is_numeral f)) [
  | inl yes_ ↦ rw yes_ (omega arith)
  | inr no_ ↦ rw no_ (omega (arith, le))
]

pub minus_ok : (r : ℕ) (held : Bool) (operand : Reader) → Reads 0 r false operand → (t : Lexeme) (ts : List Lexeme) (x : Part × List Lexeme)
    → IsSign (codes "-") t → minus_at (suc r) t operand ts ≡ Ok x → Found 0 (suc r) held (t ∷ ts) x
unfolding minus_at
minus_ok r held operand reads t ts x word e =
    chosen_by (begins is_number ts) _ _ x (Found 0 (suc r) held (t ∷ ts) x) e
    (λ b e1. literal_ok r held t ts x word e1)
    (λ b e1.
    let e2 = (unless_ok (nat_lt (suc r) 2) _ _ x e1).1 in
    let p = bind_ok (operand ts) _ x e2 in
    let fp = reads ts p.0 p.1 in
    let no_number : begins is_number (spelled fp.phrase p.0.1) ≡ false = sym (ap (begins is_number) fp.tokens) ∙ b in
    made 0 (suc r) held (t ∷ ts) (a_minus t fp.phrase) (over (negated p.0.0.tree t.at) p.0.0.levels, p.0.1) x
    (word, fp.is, omega (arith, fp.low)) (omega arith) refl (minus_levels t fp.phrase r fp.fits.0)
    (ap (λ (us : List Lexeme). t ∷ us) fp.tokens)
    (ap (λ (q : Part). over (negated q.tree t.at) q.levels) fp.part ∙ negated_is t fp.phrase p.0.1 fp.is no_number)
    p.2)

pub unary_ok : (r : ℕ) (held : Bool) (below : ℕ → Reader) (inner : Reader) → ((k : ℕ) → Reads k r false (below k)) → Reads 7 (room_inside r held) true inner
    → Reads 0 (suc r) held (unary_at (record { room = suc r; held = held; below = below; inner = inner }))
unfolding unary_at atom_at atom_from
unary_ok r held below inner low reads [] x e = absurd cc
unary_ok r held below inner low reads (t ∷ ts) x e =
    chosen_by (is_sign (codes "-") t) _ _ x (Found 0 (suc r) held (t ∷ ts) x) e
    (λ b e1. minus_ok r held (below 0) (low 0) t ts x (sign_ok (codes "-") t b) e1)
    (λ _ e1. atom_ok r held below inner low reads (opening_of t) t ts x (opening_tells t) e1)

denied_ok : (r : ℕ) (held : Bool) (part : Reader) → Reads 4 r false part → (t : Lexeme) (ts : List Lexeme) (x : Part × List Lexeme) → IsKeyword (codes "not") t
    → denied_at part (t ∷ ts) ≡ Ok x → Found 4 (suc r) held (t ∷ ts) x
unfolding denied_at
denied_ok r held part reads t ts x word e =
    let p = bind_ok (part ts) _ x e in
    let fp = reads ts p.0 p.1 in
    made 4 (suc r) held (t ∷ ts) (a_not t fp.phrase) (over (denied p.0.0.tree t.at) p.0.0.levels, p.0.1) x
    (word, fp.is, fp.low) (omega arith) refl (omega (arith, fp.fits.0))
    (ap (λ (us : List Lexeme). t ∷ us) fp.tokens)
    (ap (λ (q : Part). over (denied q.tree t.at) q.levels) fp.part)
    p.2

denial_ok : (r : ℕ) (held : Bool) (part next : Reader) → Reads 4 r false part → Reads 3 (suc r) held next → Reads 4 (suc r) held (denial_at (suc r) part next)
unfolding denial_at
denial_ok r held part next reads after [] x e = looser 3 4 (suc r) held [] x (omega arith) (after [] x e)
denial_ok r held part next reads after (t ∷ ts) x e =
    chosen_by (is_keyword (codes "not") t) _ _ x (Found 4 (suc r) held (t ∷ ts) x) e
    (λ b e1. denied_ok r held part reads t ts x (keyword_ok (codes "not") t b) (within_ok (suc r) (t ∷ ts) (denied_at part (t ∷ ts)) x e1))
    (λ _ e1. looser 3 4 (suc r) held (t ∷ ts) x (omega arith) (after (t ∷ ts) x e1))

choice_ok : (r : ℕ) (held : Bool) (part next : Reader) → Reads 7 r false part → Reads 6 (suc r) held next → Reads 7 (suc r) held (choice_at (suc r) part next)
unfolding choice_at
choice_ok r held part next reads after [] x e = looser 6 7 (suc r) held [] x (omega arith) (after [] x e)
choice_ok r held part next reads after (t ∷ ts) x e =
    chosen_by (is_keyword (codes "if") t) _ _ x (Found 7 (suc r) held (t ∷ ts) x) e
    (λ b e1. if_ok r held part reads t ts x (keyword_ok (codes "if") t b) (within_ok (suc r) (t ∷ ts) (chosen_at part (t ∷ ts)) x e1))
    (λ _ e1. looser 6 7 (suc r) held (t ∷ ts) x (omega arith) (after (t ∷ ts) x e1))

pub left_least : (k a : ℕ) → a ≤ k → a ≤ left_tier (suc k)
left_least k a le = elim (cases_Bool (suc k == 3)) [
  | inl three ↦ (let is : suc k ≡ 3 = grind (arith, nat_tests) in rw three (omega arith))
  | inr other ↦ rw other (omega arith)
]

pub once : (tier room : ℕ) → tier ≡ 3 → turns tier room ≤ 1
once tier room e = rw e (omega arith)

chain_tier_ok : (r k : ℕ) (held : Bool) (here right : Reader) → Reads k (suc r) held here → Reads k r false right
    → Reads (suc k) (suc r) held (λ ts. here ts >>= λ p. chain_at (turns (suc k) (suc r)) (suc r) (suc k) right p.0 p.1)
chain_tier_ok r k held here right reads low ts x e =
    let p = bind_ok (here ts) _ x e in
    let fp = reads ts p.0 p.1 in
    let next : chain_at (turns (suc k) (suc r)) (suc r) (suc k) right (part_of fp.phrase) p.0.1 ≡ Ok x =
    sym (ap (λ (q : Part). chain_at (turns (suc k) (suc r)) (suc r) (suc k) right q p.0.1) fp.part) ∙ p.2 in
    let low_enough : tier_of fp.phrase ≤ left_tier (suc k) = left_least k (tier_of fp.phrase) fp.low in
    let last = chain_ok (turns (suc k) (suc r)) r (suc k) k held right low (omega arith) (once (suc k) (suc r)) fp.phrase fp.is (omega (arith, fp.low))
    (λ _. low_enough) fp.fits p.0.1 x next in
    record { phrase = last.phrase; is = last.is; low = last.low; tokens = fp.tokens ∙ last.tokens; part = last.part; fits = last.fits }

pub tier_ok : (k r : ℕ) (held : Bool) (below : ℕ → Reader) (inner : Reader) → ((j : ℕ) → Reads j r false (below j)) → Reads 7 (room_inside r held) true inner
    → Reads k (suc r) held (tier_at k (record { room = suc r; held = held; below = below; inner = inner }))
unfolding tier_at
tier_ok zero r held below inner low reads ts x e = unary_ok r held below inner low reads ts x e
tier_ok (suc k) r held below inner low reads ts x e =
    let a : Around = record { room = suc r; held = held; below = below; inner = inner } in
    chosen_by (k == 3) _ _ x (Found (suc k) (suc r) held ts x) e
    (λ b e1. let is : k ≡ 3 = grind (arith, nat_tests) in looser 4 (suc k) (suc r) held ts x (omega arith)
    (denial_ok r held (below 4) (tier_at k a) (low 4) (subst (λ j. Reads j (suc r) held (tier_at k a)) is (tier_ok k r held below inner low reads)) ts x
    e1))
    (λ _ e1. chosen_by (k == 6) _ _ x (Found (suc k) (suc r) held ts x) e1
    (λ b e2. let is : k ≡ 6 = grind (arith, nat_tests) in looser 7 (suc k) (suc r) held ts x (omega arith)
    (choice_ok r held (below 7) (tier_at k a) (low 7) (subst (λ j. Reads j (suc r) held (tier_at k a)) is (tier_ok k r held below inner low reads)) ts x
    e2))
    (λ _ e2. chain_tier_ok r k held (tier_at k a) (below k) (tier_ok k r held below inner low reads) (low k) ts x e2))

pub part_ok : (room : ℕ) (held : Bool) (tier : ℕ) → Reads tier room held (part_at room held tier)
unfolding part_at
part_ok zero held tier ts x e = absurd cc
part_ok (suc r) true tier ts x e = tier_ok tier r true (part_at r false) (part_at r true 7) (part_ok r false) (part_ok r true 7) ts x e
part_ok (suc r) false tier ts x e =
    tier_ok tier r false (part_at r false) (λ us. tier_at 7 (record { room = suc r; held = true; below = part_at r false; inner = part_at r true 7 }) us)
    (part_ok r false) (tier_ok 7 r true (part_at r false) (part_at r true 7) (part_ok r false) (part_ok r true 7)) ts x e

-- what is read as an expression is one
pub reads_only_phrases : ReadsOnlyPhrases
unfolding expression_at
reads_only_phrases room ts part us e =
    let f = part_ok room false 7 ts (part, us) e in
    record { phrase = f.phrase; is_phrase = f.is; tokens = f.tokens; part_is = f.part; levels = f.fits.0 }
