-- Each phrase is read, and tokens spell at most one.
use Rattle.std.proofs.Common.{◌≡◌, ℕ, ◌==◌, cond, zero, suc, ◌≤◌, max, List, ◌∷◌, Bool, true, false, inl, inr, codes, Ok, refl, sym, ap, subst, ◌∙◌, arith}
use Rattle.std.proofs.lemmas.Bool.{cases_Bool}
use Rattle.std.proofs.lemmas.Bool.Decides.{nat_tests}
use Rattle.sot_text.specs.Reading.{Lexeme}
use Rattle.sot_syntax_tree.specs.Trees.{denied}
use Rattle.sot_expression.specs.declared.operators.Opening.{Opening}
use Rattle.sot_expression.specs.declared.operators.Opening.TheVariants as openings
use Rattle.sot_expression.specs.Lexemes.{IsSign, is_sign, is_keyword}
use Rattle.sot_expression.specs.Readers.{Read, ◌>>=◌, expect}
use Rattle.sot_expression.specs.Operators.{opening_of}
use Rattle.sot_expression.specs.ExpressionReaders.{Part, Reader, Around, over, within, chain_at, pair_at, abs_at, clamp_at, rescale_at, field_at, atom_from}
use Rattle.sot_expression.specs.ExpressionReaders.{atom_at, minus_at, unary_at, denied_at, denial_at, chosen_at, choice_at, turns, tier_at, part_at}
use Rattle.sot_expression.specs.ExpressionReaders.{expression_at}
use Rattle.sot_expression.specs.Phrases.{Phrase, a_number, a_truth, a_name, a_field, a_group, an_abs, a_pair, a_clamp, a_rescale, a_minus, a_rest, a_join}
use Rattle.sot_expression.specs.Phrases.{a_not, an_if, spelled, tier_of, IsPhrase, levels_of, part_of}
use Rattle.sot_expression.specs.Laws.{ReadsEachPhrase, PhrasesAreUnique}
use Rattle.sot_expression.proofs.TokenTests.{sign_is, keyword_is, number_opens, name_opens, group_opens, truth_opens, pair_opens, abs_opens, clamp_opens}
use Rattle.sot_expression.proofs.TokenTests.{rescale_opens}
use Rattle.sot_expression.proofs.ReadSteps.{ok_is}
use Rattle.sot_expression.proofs.Tiers.{denial_passed, choice_passed}
use Rattle.sot_expression.proofs.Founds.{FitsIn, room_inside}
use Rattle.sot_expression.proofs.FirstTokens.{StopsAt, stops_at, stops_lower, then_stops, else_stops, tier_most, some_levels, some_tier, op_most, no_four}
use Rattle.sot_expression.proofs.FirstTokens.{no_not, no_if, number_no_minus, name_no_minus, group_no_minus, truth_no_minus, pair_no_minus, abs_no_minus}
use Rattle.sot_expression.proofs.FirstTokens.{clamp_no_minus, rescale_no_minus}
use Rattle.sot_expression.proofs.Chains.{step, ReadsAll, unheld, Chain, chain_all, comparisons_all}
use Rattle.sot_expression.proofs.AtomsRead.{keyword_read, numeral_read, truth_read, named_read, field_read, held_read, within_read, abs_read, pair_read}
use Rattle.sot_expression.proofs.AtomsRead.{clamp_read, rescale_read, minus_read}

-- what is around a part
abbrev pub around_of : ℕ → Bool → (ℕ → Reader) → Reader → Around
around_of r held below inner = record { room = suc r; held = held; below = below; inner = inner }

atom_by : (a : Around) (o : Opening) (t : Lexeme) (ts : List Lexeme) (y : Read Part) → is_sign (codes "-") t ≡ false → opening_of t ≡ o
    → atom_from o a (t ∷ ts) ≡ y → unary_at a (t ∷ ts) ≡ y
unfolding unary_at atom_at
atom_by a o t ts y no_minus opens h =
    ap (λ b. cond b (minus_at a.room t (a.below 0) ts) (atom_from (opening_of t) a (t ∷ ts))) no_minus ∙ ap (λ o. atom_from o a (t ∷ ts)) opens ∙ h

minus_by : (a : Around) (t : Lexeme) (ts : List Lexeme) (y : Read Part) → IsSign (codes "-") t → minus_at a.room t (a.below 0) ts ≡ y → unary_at a (t ∷ ts) ≡ y
unfolding unary_at
minus_by a t ts y word h = ap (λ b. cond b (minus_at a.room t (a.below 0) ts) (atom_at a (t ∷ ts))) (ap (is_sign (codes "-")) (sign_is (codes "-") t word)) ∙ h

unary_all : (r : ℕ) (held : Bool) (below : ℕ → Reader) (inner : Reader) → ((k : ℕ) → ReadsAll k r false (below k)) → ReadsAll 7 (room_inside r held) true inner
    → ReadsAll 0 (suc r) held (unary_at (around_of r held below inner))
unfolding atom_from
unary_all r held below inner low reads (a_number n) is le fits ts stops =
    atom_by (around_of r held below inner) openings.Number n ts (Ok (part_of (a_number n), ts)) (number_no_minus n is) (number_opens n is)
    (numeral_read n ts is)
unary_all r held below inner low reads (a_truth value t) is le fits ts stops =
    atom_by (around_of r held below inner) (openings.Truth value) t ts (Ok (part_of (a_truth value t), ts)) (truth_no_minus value t is) (truth_opens value t is)
    (truth_read value t ts)
unary_all r held below inner low reads (a_name n) is le fits ts stops =
    atom_by (around_of r held below inner) openings.Name n ts (Ok (part_of (a_name n), ts)) (name_no_minus n is) (name_opens n is)
    (named_read n ts (Ok (part_of (a_name n), ts)) is (ap (λ b. cond b (field_at (record { name = n.text; at = n.at }) ts) (Ok (part_of (a_name n), ts)))
    stops.1))
unary_all r held below inner low reads (a_field n dot f) is le fits ts stops =
    atom_by (around_of r held below inner) openings.Name n (dot ∷ f ∷ ts) (Ok (part_of (a_field n dot f), ts)) (name_no_minus n is.0) (name_opens n is.0)
    (named_read n (dot ∷ f ∷ ts) (Ok (part_of (a_field n dot f), ts)) is.0
    (ap (λ b. cond b (field_at (record { name = n.text; at = n.at }) (dot ∷ f ∷ ts)) (Ok (part_of (a_name n), dot ∷ f ∷ ts)))
    (ap (is_sign (codes ".")) (sign_is (codes ".") dot is.1)) ∙ field_read n dot f ts is.1 is.2))
unary_all r held below inner low reads (a_group o f u) is le fits ts stops =
    atom_by (around_of r held below inner) openings.Group o (spelled f (u ∷ ts)) (Ok (part_of (a_group o f u), ts)) (group_no_minus o is.0) (group_opens o is.0)
    (held_read r held inner reads o f u ts is.1 (tier_most f) is.2 fits)
unary_all r held below inner low reads (an_abs w o f u) is le fits ts stops =
    let y : Read Part = Ok (part_of (an_abs w o f u), ts) in
    let some = some_levels f in
    atom_by (around_of r held below inner) openings.Abs w (o ∷ spelled f (u ∷ ts)) y (abs_no_minus w is.0) (abs_opens w is.0)
    (within_read r (w ∷ o ∷ spelled f (u ∷ ts)) (abs_at (below 7) (w ∷ o ∷ spelled f (u ∷ ts))) y (omega (arith, fits.0, some))
    (abs_read r (below 7) (low 7) w o f u ts is (tier_most f) (omega (arith, fits.0))))
unary_all r held below inner low reads (a_pair func w o f c g u) is le fits ts stops =
    let y : Read Part = Ok (part_of (a_pair func w o f c g u), ts) in
    let some = some_levels f in
    let us : List Lexeme = o ∷ spelled f (c ∷ spelled g (u ∷ ts)) in
    atom_by (around_of r held below inner) (openings.Pair func) w us y (pair_no_minus func w is.0) (pair_opens func w is.0)
    (within_read r (w ∷ us) (pair_at func (below 7) (w ∷ us)) y (omega (arith, fits.0, some))
    (pair_read r (below 7) (low 7) func w o f c g u ts is (tier_most f) (tier_most g) (omega (arith, fits.0)) (omega (arith, fits.0))))
unary_all r held below inner low reads (a_clamp w o f c g d h u) is le fits ts stops =
    let y : Read Part = Ok (part_of (a_clamp w o f c g d h u), ts) in
    let some = some_levels f in
    let us : List Lexeme = o ∷ spelled f (c ∷ spelled g (d ∷ spelled h (u ∷ ts))) in
    atom_by (around_of r held below inner) openings.Clamp w us y (clamp_no_minus w is.0) (clamp_opens w is.0)
    (within_read r (w ∷ us) (clamp_at (below 7) (w ∷ us)) y (omega (arith, fits.0, some))
    (clamp_read r (below 7) (low 7) w o f c g d h u ts is (tier_most f) (tier_most g) (tier_most h) (omega (arith, fits.0)) (omega (arith, fits.0))
    (omega (arith, fits.0))))
unary_all r held below inner low reads (a_rescale w o f c n u) is le fits ts stops =
    let y : Read Part = Ok (part_of (a_rescale w o f c n u), ts) in
    let some = some_levels f in
    let us : List Lexeme = o ∷ spelled f (c ∷ n ∷ u ∷ ts) in
    atom_by (around_of r held below inner) openings.Rescale w us y (rescale_no_minus w is.0) (rescale_opens w is.0)
    (within_read r (w ∷ us) (rescale_at (below 7) (w ∷ us)) y (omega (arith, fits.0, some))
    (rescale_read r (below 7) (low 7) w o f c n u ts is (tier_most f) (omega (arith, fits.0))))
unary_all r held below inner low reads (a_minus t f) is le fits ts stops =
    minus_by (around_of r held below inner) t (spelled f ts) (Ok (part_of (a_minus t f), ts)) is.0
    (minus_read r (below 0) (low 0) t f ts is.1 is.2 fits.0 stops)
unary_all r held below inner low reads (a_rest f t n) is le fits ts stops = absurd (omega (arith, le))
unary_all r held below inner low reads (a_join op f t g) is le fits ts stops = absurd (omega (arith, le, some_tier op))
unary_all r held below inner low reads (a_not t f) is le fits ts stops = absurd (omega (arith, le))
unary_all r held below inner low reads (an_if t c u f v g) is le fits ts stops = absurd (omega (arith, le))

-- `not`
denied_read : (r : ℕ) (part : Reader) → ReadsAll 4 r false part → (t : Lexeme) (f : Phrase) (ts : List Lexeme) → IsPhrase f → tier_of f ≤ 4 → levels_of f ≤ r
    → StopsAt 4 ts → denied_at part (t ∷ spelled f ts) ≡ Ok (part_of (a_not t f), ts)
unfolding denied_at
denied_read r part reads t f ts is low fits stops =
    step (part (spelled f ts)) (λ p. Ok (over (denied p.0.tree t.at) p.0.levels, p.1)) (part_of f, ts) (Ok (part_of (a_not t f), ts))
    (reads f is low (unheld r f fits) ts stops) refl

denial_read : (r : ℕ) (part next : Reader) → ReadsAll 4 r false part → (t : Lexeme) (f : Phrase) (ts : List Lexeme) → IsPhrase (a_not t f)
    → levels_of (a_not t f) ≤ suc r → StopsAt 4 ts → denial_at (suc r) part next (t ∷ spelled f ts) ≡ Ok (part_of (a_not t f), ts)
unfolding denial_at
denial_read r part next reads t f ts is fits stops =
    let some = some_levels f in
    ap (λ b. cond b (within (suc r) (t ∷ spelled f ts) (denied_at part (t ∷ spelled f ts))) (next (t ∷ spelled f ts)))
    (ap (is_keyword (codes "not")) (keyword_is (codes "not") t is.0))
    ∙ within_read r (t ∷ spelled f ts) (denied_at part (t ∷ spelled f ts)) (Ok (part_of (a_not t f), ts)) (omega (arith, fits, some))
    (denied_read r part reads t f ts is.1 is.2 (omega (arith, fits)) stops)

denial_lower : (r : ℕ) (held : Bool) (part next : Reader) → ReadsAll 3 (suc r) held next → (f : Phrase) → IsPhrase f → tier_of f ≤ 3 → FitsIn (suc r) held f
    → (ts : List Lexeme) → StopsAt 4 ts → denial_at (suc r) part next (spelled f ts) ≡ Ok (part_of f, ts)
denial_lower r held part next after f is low fits ts stops =
    denial_passed (suc r) part next (spelled f ts) (Ok (part_of f, ts)) (no_not f ts is low) (after f is low fits ts (stops_lower 3 4 ts (omega arith) stops))

denial_all : (r : ℕ) (held : Bool) (part next : Reader) → ReadsAll 4 r false part → ReadsAll 3 (suc r) held next
    → ReadsAll 4 (suc r) held (denial_at (suc r) part next)
denial_all r held part next reads after (a_number n) is le fits ts stops = denial_lower r held part next after (a_number n) is (omega arith) fits ts stops
denial_all r held part next reads after (a_truth value t) is le fits ts stops =
    denial_lower r held part next after (a_truth value t) is (omega arith) fits ts stops
denial_all r held part next reads after (a_name n) is le fits ts stops = denial_lower r held part next after (a_name n) is (omega arith) fits ts stops
denial_all r held part next reads after (a_field n dot f) is le fits ts stops =
    denial_lower r held part next after (a_field n dot f) is (omega arith) fits ts stops
denial_all r held part next reads after (a_group o f u) is le fits ts stops = denial_lower r held part next after (a_group o f u) is (omega arith) fits ts stops
denial_all r held part next reads after (an_abs w o f u) is le fits ts stops =
    denial_lower r held part next after (an_abs w o f u) is (omega arith) fits ts stops
denial_all r held part next reads after (a_pair func w o f c g u) is le fits ts stops =
    denial_lower r held part next after (a_pair func w o f c g u) is (omega arith) fits ts stops
denial_all r held part next reads after (a_clamp w o f c g d h u) is le fits ts stops =
    denial_lower r held part next after (a_clamp w o f c g d h u) is (omega arith) fits ts stops
denial_all r held part next reads after (a_rescale w o f c n u) is le fits ts stops =
    denial_lower r held part next after (a_rescale w o f c n u) is (omega arith) fits ts stops
denial_all r held part next reads after (a_minus t f) is le fits ts stops = denial_lower r held part next after (a_minus t f) is (omega arith) fits ts stops
denial_all r held part next reads after (a_rest f t n) is le fits ts stops = denial_lower r held part next after (a_rest f t n) is (omega arith) fits ts stops
denial_all r held part next reads after (a_join op f t g) is le fits ts stops =
    denial_lower r held part next after (a_join op f t g) is (no_four op le) fits ts stops
denial_all r held part next reads after (a_not t f) is le fits ts stops = denial_read r part next reads t f ts is fits.0 stops
denial_all r held part next reads after (an_if t c u f v g) is le fits ts stops = absurd (omega (arith, le))

-- `if`
chosen_read : (r : ℕ) (part : Reader) → ReadsAll 7 r false part
    → (t : Lexeme) (c : Phrase) (u : Lexeme) (f : Phrase) (v : Lexeme) (g : Phrase) (ts : List Lexeme) → IsPhrase (an_if t c u f v g)
    → levels_of (an_if t c u f v g) ≤ suc r → StopsAt 7 ts
    → chosen_at part (spelled (an_if t c u f v g) ts) ≡ Ok (part_of (an_if t c u f v g), ts)
unfolding chosen_at
chosen_read r part reads t c u f v g ts is fits stops =
    let y : Read Part = Ok (part_of (an_if t c u f v g), ts) in
    let no_part : List Lexeme = v ∷ spelled g ts in
    let yes_part : List Lexeme = u ∷ spelled f no_part in
    step (part (spelled c yes_part)) _ (part_of c, yes_part) y
    (reads c is.1 (tier_most c) (unheld r c (omega (arith, fits))) yes_part (then_stops 7 u (spelled f no_part) is.2))
    (step (expect (is_keyword (codes "then")) yes_part) _ (u.at, spelled f no_part) y
    (keyword_read (codes "then") u (spelled f no_part) (ap (is_keyword (codes "then")) (keyword_is (codes "then") u is.2)))
    (step (part (spelled f no_part)) _ (part_of f, no_part) y
    (reads f is.3 (tier_most f) (unheld r f (omega (arith, fits))) no_part (else_stops 7 v (spelled g ts) is.4))
    (step (expect (is_keyword (codes "else")) no_part) _ (v.at, spelled g ts) y
    (keyword_read (codes "else") v (spelled g ts) (ap (is_keyword (codes "else")) (keyword_is (codes "else") v is.4)))
    (step (part (spelled g ts)) _ (part_of g, ts) y (reads g is.5 (tier_most g) (unheld r g (omega (arith, fits))) ts stops) refl))))

choice_read : (r : ℕ) (part next : Reader) → ReadsAll 7 r false part
    → (t : Lexeme) (c : Phrase) (u : Lexeme) (f : Phrase) (v : Lexeme) (g : Phrase) (ts : List Lexeme) → IsPhrase (an_if t c u f v g)
    → levels_of (an_if t c u f v g) ≤ suc r → StopsAt 7 ts
    → choice_at (suc r) part next (spelled (an_if t c u f v g) ts) ≡ Ok (part_of (an_if t c u f v g), ts)
unfolding choice_at
choice_read r part next reads t c u f v g ts is fits stops =
    let us : List Lexeme = spelled (an_if t c u f v g) ts in
    let some = some_levels c in
    ap (λ b. cond b (within (suc r) us (chosen_at part us)) (next us)) (ap (is_keyword (codes "if")) (keyword_is (codes "if") t is.0))
    ∙ within_read r us (chosen_at part us) (Ok (part_of (an_if t c u f v g), ts)) (omega (arith, fits, some))
    (chosen_read r part reads t c u f v g ts is fits stops)

choice_lower : (r : ℕ) (held : Bool) (part next : Reader) → ReadsAll 6 (suc r) held next → (f : Phrase) → IsPhrase f → tier_of f ≤ 6 → FitsIn (suc r) held f
    → (ts : List Lexeme) → StopsAt 7 ts → choice_at (suc r) part next (spelled f ts) ≡ Ok (part_of f, ts)
choice_lower r held part next after f is low fits ts stops =
    choice_passed (suc r) part next (spelled f ts) (Ok (part_of f, ts)) (no_if f ts is low) (after f is low fits ts (stops_lower 6 7 ts (omega arith) stops))

choice_all : (r : ℕ) (held : Bool) (part next : Reader) → ReadsAll 7 r false part → ReadsAll 6 (suc r) held next
    → ReadsAll 7 (suc r) held (choice_at (suc r) part next)
choice_all r held part next reads after (a_number n) is le fits ts stops = choice_lower r held part next after (a_number n) is (omega arith) fits ts stops
choice_all r held part next reads after (a_truth value t) is le fits ts stops =
    choice_lower r held part next after (a_truth value t) is (omega arith) fits ts stops
choice_all r held part next reads after (a_name n) is le fits ts stops = choice_lower r held part next after (a_name n) is (omega arith) fits ts stops
choice_all r held part next reads after (a_field n dot f) is le fits ts stops =
    choice_lower r held part next after (a_field n dot f) is (omega arith) fits ts stops
choice_all r held part next reads after (a_group o f u) is le fits ts stops = choice_lower r held part next after (a_group o f u) is (omega arith) fits ts stops
choice_all r held part next reads after (an_abs w o f u) is le fits ts stops =
    choice_lower r held part next after (an_abs w o f u) is (omega arith) fits ts stops
choice_all r held part next reads after (a_pair func w o f c g u) is le fits ts stops =
    choice_lower r held part next after (a_pair func w o f c g u) is (omega arith) fits ts stops
choice_all r held part next reads after (a_clamp w o f c g d h u) is le fits ts stops =
    choice_lower r held part next after (a_clamp w o f c g d h u) is (omega arith) fits ts stops
choice_all r held part next reads after (a_rescale w o f c n u) is le fits ts stops =
    choice_lower r held part next after (a_rescale w o f c n u) is (omega arith) fits ts stops
choice_all r held part next reads after (a_minus t f) is le fits ts stops = choice_lower r held part next after (a_minus t f) is (omega arith) fits ts stops
choice_all r held part next reads after (a_rest f t n) is le fits ts stops = choice_lower r held part next after (a_rest f t n) is (omega arith) fits ts stops
choice_all r held part next reads after (a_join op f t g) is le fits ts stops =
    choice_lower r held part next after (a_join op f t g) is (op_most op) fits ts stops
choice_all r held part next reads after (a_not t f) is le fits ts stops = choice_lower r held part next after (a_not t f) is (omega arith) fits ts stops
choice_all r held part next reads after (an_if t c u f v g) is le fits ts stops = choice_read r part next reads t c u f v g ts is fits.0 stops

-- a tier above another
tier_by : (b : Bool) (m n y : Read Part) → (b ≡ true → m ≡ y) → (b ≡ false → n ≡ y) → cond b m n ≡ y
tier_by true m n y f g = f refl
tier_by false m n y f g = g refl

chain_tier_all : (r k : ℕ) (held : Bool) (here right : Reader) → ReadsAll k (suc r) held here → ReadsAll k r false right → (k ≡ 3 → ⊥) → (k ≡ 6 → ⊥)
    → ReadsAll (suc k) (suc r) held (λ ts. here ts >>= λ p. chain_at (turns (suc k) (suc r)) (suc r) (suc k) right p.0 p.1)
chain_tier_all r k held here right reads low three six = elim (cases_Bool (suc k == 3)) [
  | inl yes_ ↦
      let is : 2 ≡ k = grind (arith, nat_tests) in
      let here_two : ReadsAll 2 (suc r) held here = subst (λ j. ReadsAll j (suc r) held here) (sym is) reads in
      let right_two : ReadsAll 2 r false right = subst (λ j. ReadsAll j r false right) (sym is) low in
      subst (λ j. ReadsAll (suc j) (suc r) held (λ ts. here ts >>= λ p. chain_at (turns (suc j) (suc r)) (suc r) (suc j) right p.0 p.1)) is
      (comparisons_all r held here right here_two right_two)
  | inr no_ ↦
      let chain : Chain k r held here right = record {
        all_here = reads;
        all_right = low;
        no_not = λ e. three (omega (arith, e));
        no_if = λ e. six (omega (arith, e));
      } in
      subst (λ (b : Bool). ReadsAll (suc k) (suc r) held (λ ts. here ts >>= λ p. chain_at (cond b 1 (suc r)) (suc r) (suc k) right p.0 p.1)) (sym no_)
      (chain_all k r held here right chain)
]

tier_all : (k r : ℕ) (held : Bool) (below : ℕ → Reader) (inner : Reader) → ((j : ℕ) → ReadsAll j r false (below j)) → ReadsAll 7 (room_inside r held) true inner
    → ReadsAll k (suc r) held (tier_at k (around_of r held below inner))
unfolding tier_at
tier_all zero r held below inner low reads f is le fits ts stops = unary_all r held below inner low reads f is le fits ts stops
tier_all (suc k) r held below inner low reads f is_phrase le fits ts stops =
    let here = tier_at k (around_of r held below inner) in
    let all_here : ReadsAll k (suc r) held here = tier_all k r held below inner low reads in
    let y : Read Part = Ok (part_of f, ts) in
    tier_by (k == 3) _ _ y
    (λ b. let is : k ≡ 3 = grind (arith, nat_tests) in denial_all r held (below 4) here (low 4) (subst (λ j. ReadsAll j (suc r) held here) is all_here) f
    is_phrase (omega (arith, le, is)) fits ts (subst (λ j. StopsAt (suc j) ts) is stops))
    (λ b. tier_by (k == 6) _ _ y
    (λ c. let is : k ≡ 6 = grind (arith, nat_tests) in choice_all r held (below 7) here (low 7) (subst (λ j. ReadsAll j (suc r) held here) is all_here) f
    is_phrase (omega (arith, le, is)) fits ts (subst (λ j. StopsAt (suc j) ts) is stops))
    (λ c. chain_tier_all r k held here (below k) all_here (low k) (grind (arith, nat_tests)) (grind (arith, nat_tests)) f is_phrase le fits ts stops))

part_all : (room : ℕ) (held : Bool) (tier : ℕ) → ReadsAll tier room held (part_at room held tier)
unfolding part_at
part_all zero held tier f is le fits ts stops = absurd (omega (arith, fits.0, some_levels f))
part_all (suc r) true tier f is le fits ts stops =
    tier_all tier r true (part_at r false) (part_at r true 7) (part_all r false) (part_all r true 7) f is le fits ts stops
part_all (suc r) false tier f is le fits ts stops =
    tier_all tier r false (part_at r false) (λ us. tier_at 7 (record { room = suc r; held = true; below = part_at r false; inner = part_at r true 7 }) us)
    (part_all r false) (tier_all 7 r true (part_at r false) (part_at r true 7) (part_all r false) (part_all r true 7)) f is le fits ts stops

-- each phrase is read
pub reads_each_phrase : ReadsEachPhrase
unfolding expression_at
reads_each_phrase room f us is fits stops = part_all room false 7 f is (tier_most f) (unheld room f fits) us (stops_at 7 us stops)

-- tokens spell at most one
pub phrases_are_unique : PhrasesAreUnique
phrases_are_unique f g us is_f is_g stops same =
    let room = max (levels_of f) (levels_of g) in
    let first = reads_each_phrase room f us is_f (omega arith) stops in
    let second = reads_each_phrase room g us is_g (omega arith) stops in
    let both = ok_is (part_of f, us) (part_of g, us) (sym first ∙ ap (expression_at room) same ∙ second) in
    ap (λ (x : Part × List Lexeme). x.0) both
