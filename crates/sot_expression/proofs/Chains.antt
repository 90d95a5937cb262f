-- Operators of one tier are read, one after another.
use Rattle.std.proofs.Common.{◌≡◌, ℕ, ◌⊎◌, cond, zero, suc, ◌+◌, ◌<◌, ◌≤◌, max, nat_lt, nat_le, List, ◌∷◌, Bool, true, false, inl, inr, codes, None, Ok, Err}
use Rattle.std.proofs.Common.{refl, sym, ap, subst, ◌∙◌, arith}
use Rattle.std.proofs.lemmas.Bool.{cases_Bool}
use Rattle.std.proofs.lemmas.Bool.Decides.{nat_tests}
use Rattle.sot_text.specs.Reading.{Lexeme}
use Rattle.sot_syntax_tree.specs.declared.operator.Op.{Op}
use Rattle.sot_syntax_tree.specs.Trees.{binary, rest}
use Rattle.sot_expression.specs.declared.operators.Infix.TheVariants.{Joins, Rests}
use Rattle.sot_expression.specs.Lexemes.{IsSign, IsNumber, is_number, literal}
use Rattle.sot_expression.specs.Readers.{Read, ◌>>=◌, stuck, deep, number_at}
use Rattle.sot_expression.specs.Operators.{tier_of_op, infix_at}
use Rattle.sot_expression.specs.ExpressionReaders.{Part, Reader, over, operation_at, remainder_at, joined_at, gone_on, chain_at}
use Rattle.sot_expression.specs.Phrases.{Phrase, a_number, a_truth, a_name, a_field, a_group, an_abs, a_pair, a_clamp, a_rescale, a_minus, a_rest, a_join}
use Rattle.sot_expression.specs.Phrases.{a_not, an_if, spelled, tier_of, IsOperator, left_tier, IsPhrase, tree_of, levels_of, part_of}
use Rattle.sot_expression.proofs.TokenTests.{number_is, join_is, rest_is, infix_is}
use Rattle.sot_expression.proofs.Founds.{FitsIn}
use Rattle.sot_expression.proofs.FirstTokens.{StopsAt, stops_lower, join_stops, rest_stops, some_levels, left_below}

pub step : {A B : Type 0} (m : Read A) (f : A × List Lexeme → Read B) (x : A × List Lexeme) (y : Read B) → m ≡ Ok x → f x ≡ y → (m >>= f) ≡ y
step m f x y e h = ap (λ n. n >>= f) e ∙ h

-- every phrase of this tier is read, where no operator goes on with it
abbrev pub ReadsAll : ℕ → ℕ → Bool → Reader → Type 0
ReadsAll k room held g =
    (f : Phrase) → IsPhrase f → tier_of f ≤ k → FitsIn room held f → (ts : List Lexeme) → StopsAt k ts → g (spelled f ts) ≡ Ok (part_of f, ts)

pub number_read : (n : Lexeme) (ts : List Lexeme) → IsNumber n → number_at (n ∷ ts) ≡ Ok (literal n, ts)
number_read n ts h = ap (λ b. cond b (Ok (literal n, ts)) (Err (stuck, n ∷ ts))) (ap is_number (number_is n h))

at_most_or : (a k : ℕ) → a ≤ suc k → (a ≤ k) ⊎ (a ≡ suc k)
at_most_or a k le = elim (cases_Bool (nat_le a k)) [
  | inl yes_ ↦ inl (grind (arith, nat_tests))
  | inr no_ ↦ inr (grind (arith, nat_tests))
]

-- what is not in parentheses fits alike
pub left_fits : (room : ℕ) (held : Bool) (f : Phrase) → levels_of f < room → FitsIn room held f
left_fits room held f less = (omega (arith, less), λ _ _. omega (arith, less))

pub unheld : (room : ℕ) (f : Phrase) → levels_of f ≤ room → FitsIn room false f
unheld room f le = (le, λ held _. absurd cc)

-- one operator and its right part
join_turn : (r m k : ℕ) (right : Reader) → ReadsAll k r false right → (op : Op) (l : Phrase) (t : Lexeme) (g : Phrase) (ts : List Lexeme) → IsOperator op t
    → tier_of_op op ≡ suc k → IsPhrase g → tier_of g ≤ k
    → levels_of l < suc r → levels_of g ≤ r → StopsAt k ts
    → chain_at (suc m) (suc r) (suc k) right (part_of l) (t ∷ spelled g ts) ≡ chain_at m (suc r) (suc k) right (part_of (a_join op l t g)) ts
unfolding chain_at joined_at operation_at
join_turn r m k right reads op l t g ts word tier is low less fits stops =
    let found = infix_is (suc k) t (spelled g ts) (Joins op) (join_is op t word) tier in
    let small : nat_lt (levels_of l) (suc r) ≡ true = grind (arith, nat_tests) in
    let turns : Read Part = joined_at (Joins op) right (part_of l) (t ∷ spelled g ts) >>= λ p. chain_at m (suc r) (suc k) right p.0 p.1 in
    ap (λ o. gone_on (suc r) (λ o. joined_at o right (part_of l) (t ∷ spelled g ts) >>= λ p. chain_at m (suc r) (suc k) right p.0 p.1) o (part_of l)
    (t ∷ spelled g ts)) found
    ∙ ap (λ b. cond b turns (Err (deep, t ∷ spelled g ts))) small
    ∙ ap (λ q. (q >>= λ p. Ok (over (binary op (tree_of l) p.0.tree t.at) (max (levels_of l) p.0.levels), p.1)) >>= λ p.
    chain_at m (suc r) (suc k) right p.0 p.1) (reads g is low (unheld r g fits) ts stops)

rest_turn : (r m k : ℕ) (right : Reader) (l : Phrase) (t n : Lexeme) (ts : List Lexeme) → IsSign (codes "%") t → 1 ≡ suc k → IsNumber n → levels_of l < suc r
    → chain_at (suc m) (suc r) (suc k) right (part_of l) (t ∷ n ∷ ts) ≡ chain_at m (suc r) (suc k) right (part_of (a_rest l t n)) ts
unfolding chain_at joined_at remainder_at
rest_turn r m k right l t n ts word tier is less =
    let found = infix_is (suc k) t (n ∷ ts) Rests (rest_is t word) tier in
    let small : nat_lt (levels_of l) (suc r) ≡ true = grind (arith, nat_tests) in
    let turns : Read Part = joined_at Rests right (part_of l) (t ∷ n ∷ ts) >>= λ p. chain_at m (suc r) (suc k) right p.0 p.1 in
    ap (λ o. gone_on (suc r) (λ o. joined_at o right (part_of l) (t ∷ n ∷ ts) >>= λ p. chain_at m (suc r) (suc k) right p.0 p.1) o (part_of l) (t ∷ n ∷ ts))
    found
    ∙ ap (λ b. cond b turns (Err (deep, t ∷ n ∷ ts))) small
    ∙ ap (λ q. (q >>= λ by. Ok (over (rest (tree_of l) by.0 t.at) (levels_of l), by.1)) >>= λ p. chain_at m (suc r) (suc k) right p.0 p.1) (number_read n ts is)

pub chain_stops : (n room tier : ℕ) (right : Reader) (p : Part) (ts : List Lexeme) → infix_at tier ts ≡ None → chain_at n room tier right p ts ≡ Ok (p, ts)
unfolding chain_at
chain_stops zero room tier right p ts e = refl
chain_stops (suc n) room tier right p ts e = ap (λ o. gone_on room (λ o. joined_at o right p ts >>= λ q. chain_at n room tier right q.0 q.1) o p ts) e

-- what a tier of operators is read by
pub record Chain (k r : ℕ) (held : Bool) (here right : Reader) : Type 0 where
  pub all_here : ReadsAll k (suc r) held here
  pub all_right : ReadsAll k r false right
  pub no_not : suc k ≡ 4 → ⊥
  pub no_if : suc k ≡ 7 → ⊥

-- reading has come behind a phrase, with enough turns left
pub record Leads (k r : ℕ) (here right : Reader) (f : Phrase) (ts : List Lexeme) : Type 0 where
  pub left : ℕ
  pub enough : suc r + 1 ≤ left + levels_of f
  pub same : (here (spelled f ts) >>= λ p. chain_at (suc r) (suc r) (suc k) right p.0 p.1) ≡ chain_at left (suc r) (suc k) right (part_of f) ts

lower : (k r : ℕ) (held : Bool) (here right : Reader) → Chain k r held here right → (f : Phrase) → IsPhrase f → tier_of f ≤ k → FitsIn (suc r) held f
    → (ts : List Lexeme) → StopsAt k ts → Leads k r here right f ts
lower k r held here right c f is low fits ts stops = record {
  left = suc r;
  enough = omega (arith, some_levels f);
  same = ap (λ m. m >>= λ p. chain_at (suc r) (suc r) (suc k) right p.0 p.1) (c.all_here f is low fits ts stops);
}

some_turn : (n r a : ℕ) → suc r + 1 ≤ n + a → a < suc r → (m : ℕ) × (n ≡ suc m)
some_turn zero r a h less = absurd (omega (arith, h, less))
some_turn (suc m) r a h less = (m, refl)

lead_join : (k r : ℕ) (held : Bool) (here right : Reader) → Chain k r held here right → (op : Op) (l : Phrase) (t : Lexeme) (g : Phrase) (ts : List Lexeme)
    → IsOperator op t → tier_of_op op ≡ suc k → IsPhrase g → tier_of g ≤ k
    → levels_of (a_join op l t g) ≤ suc r → StopsAt k ts → Leads k r here right l (t ∷ spelled g ts) → Leads k r here right (a_join op l t g) ts
lead_join k r held here right c op l t g ts word tier is low fits stops before =
    let less : levels_of l < suc r = omega (arith, fits) in
    let m = some_turn before.left r (levels_of l) before.enough less in record {
      left = m.0;
      enough = omega (arith, before.enough, m.1);
      same =
          before.same ∙ ap (λ n. chain_at n (suc r) (suc k) right (part_of l) (t ∷ spelled g ts)) m.1
          ∙ join_turn r m.0 k right c.all_right op l t g ts word tier is low less (omega (arith, fits)) stops;
    }

lead_rest : (k r : ℕ) (here right : Reader) (l : Phrase) (t n : Lexeme) (ts : List Lexeme) → IsSign (codes "%") t → 1 ≡ suc k → IsNumber n
    → levels_of (a_rest l t n) ≤ suc r → Leads k r here right l (t ∷ n ∷ ts) → Leads k r here right (a_rest l t n) ts
lead_rest k r here right l t n ts word tier is fits before =
    let less : levels_of l < suc r = omega (arith, fits) in
    let m = some_turn before.left r (levels_of l) before.enough less in record {
      left = m.0;
      enough = omega (arith, before.enough, m.1);
      same = before.same ∙ ap (λ a. chain_at a (suc r) (suc k) right (part_of l) (t ∷ n ∷ ts)) m.1 ∙ rest_turn r m.0 k right l t n ts word tier is less;
    }

lead : (k r : ℕ) (held : Bool) (here right : Reader) → Chain k r held here right → (f : Phrase) → IsPhrase f → tier_of f ≤ suc k → FitsIn (suc r) held f
    → (ts : List Lexeme) → StopsAt k ts → Leads k r here right f ts
lead k r held here right c (a_number n) is le fits ts stops = lower k r held here right c (a_number n) is (omega arith) fits ts stops
lead k r held here right c (a_truth value t) is le fits ts stops = lower k r held here right c (a_truth value t) is (omega arith) fits ts stops
lead k r held here right c (a_name n) is le fits ts stops = lower k r held here right c (a_name n) is (omega arith) fits ts stops
lead k r held here right c (a_field n dot f) is le fits ts stops = lower k r held here right c (a_field n dot f) is (omega arith) fits ts stops
lead k r held here right c (a_group o f u) is le fits ts stops = lower k r held here right c (a_group o f u) is (omega arith) fits ts stops
lead k r held here right c (an_abs w o f u) is le fits ts stops = lower k r held here right c (an_abs w o f u) is (omega arith) fits ts stops
lead k r held here right c (a_pair func w o f d g u) is le fits ts stops = lower k r held here right c (a_pair func w o f d g u) is (omega arith) fits ts stops
lead k r held here right c (a_clamp w o f d g e h u) is le fits ts stops = lower k r held here right c (a_clamp w o f d g e h u) is (omega arith) fits ts stops
lead k r held here right c (a_rescale w o f d n u) is le fits ts stops = lower k r held here right c (a_rescale w o f d n u) is (omega arith) fits ts stops
lead k r held here right c (a_minus t f) is le fits ts stops = lower k r held here right c (a_minus t f) is (omega arith) fits ts stops
lead k r held here right c (a_not t f) is le fits ts stops =
    elim (at_most_or 4 k le) [
      | inl low ↦ lower k r held here right c (a_not t f) is low fits ts stops
      | inr top ↦ absurd (c.no_not (sym top))
    ]
lead k r held here right c (an_if t b u f v g) is le fits ts stops =
    elim (at_most_or 7 k le) [
      | inl low ↦ lower k r held here right c (an_if t b u f v g) is low fits ts stops
      | inr top ↦ absurd (c.no_if (sym top))
    ]
lead k r held here right c (a_rest f t n) is le fits ts stops =
    elim (at_most_or 1 k le) [
      | inl low ↦ lower k r held here right c (a_rest f t n) is low fits ts stops
      | inr top ↦
          lead_rest k r here right f t n ts is.2 top is.3 fits.0
          (lead k r held here right c f is.0 (omega (arith, is.1, top)) (left_fits (suc r) held f (omega (arith, fits.0))) (t ∷ n ∷ ts)
          (rest_stops k t (n ∷ ts) is.2 top))
    ]
lead k r held here right c (a_join op f t g) is le fits ts stops =
    elim (at_most_or (tier_of_op op) k le) [
      | inl low ↦ lower k r held here right c (a_join op f t g) is low fits ts stops
      | inr top ↦
          let left_low = subst (λ j. tier_of f ≤ left_tier j) top is.1 in
          lead_join k r held here right c op f t g ts is.2 top is.3 (omega (arith, is.4, top)) fits.0 stops
          (lead k r held here right c f is.0 (left_below k (tier_of f) left_low) (left_fits (suc r) held f (omega (arith, fits.0))) (t ∷ spelled g ts)
          (join_stops k op t (spelled g ts) is.2 top))
    ]

-- a tier of operators reads every phrase of it
pub chain_all : (k r : ℕ) (held : Bool) (here right : Reader) → Chain k r held here right
    → ReadsAll (suc k) (suc r) held (λ ts. here ts >>= λ p. chain_at (suc r) (suc r) (suc k) right p.0 p.1)
chain_all k r held here right c f is le fits ts stops =
    let l = lead k r held here right c f is le fits ts (stops_lower k (suc k) ts (omega arith) stops) in
    l.same ∙ chain_stops l.left (suc r) (suc k) right (part_of f) ts (stops.0 (suc k) (omega arith))

-- a comparison, which does not go on
comparison : (r : ℕ) (held : Bool) (here right : Reader) → ReadsAll 2 (suc r) held here → ReadsAll 2 r false right
    → (op : Op) (l : Phrase) (t : Lexeme) (g : Phrase) (ts : List Lexeme) → IsPhrase (a_join op l t g) → tier_of_op op ≡ 3 → levels_of (a_join op l t g) ≤ suc r
    → StopsAt 2 ts
    → (here (spelled (a_join op l t g) ts) >>= λ p. chain_at 1 (suc r) 3 right p.0 p.1) ≡ Ok (part_of (a_join op l t g), ts)
unfolding chain_at
comparison r held here right all_here all_right op l t g ts is tier fits stops =
    let left_low : tier_of l ≤ 2 = subst (λ j. tier_of l ≤ left_tier j) tier is.1 in
    let less : levels_of l < suc r = omega (arith, fits) in
    step (here (spelled l (t ∷ spelled g ts))) (λ p. chain_at 1 (suc r) 3 right p.0 p.1) (part_of l, t ∷ spelled g ts) (Ok (part_of (a_join op l t g), ts))
    (all_here l is.0 left_low (left_fits (suc r) held l less) (t ∷ spelled g ts) (join_stops 2 op t (spelled g ts) is.2 tier))
    (join_turn r 0 2 right all_right op l t g ts is.2 tier is.3 (omega (arith, is.4, tier)) less (omega (arith, fits)) stops)

alone : (r : ℕ) (held : Bool) (here right : Reader) → ReadsAll 2 (suc r) held here → (f : Phrase) → IsPhrase f → tier_of f ≤ 2 → FitsIn (suc r) held f
    → (ts : List Lexeme) → StopsAt 3 ts
    → (here (spelled f ts) >>= λ p. chain_at 1 (suc r) 3 right p.0 p.1) ≡ Ok (part_of f, ts)
alone r held here right all_here f is low fits ts stops =
    step (here (spelled f ts)) (λ p. chain_at 1 (suc r) 3 right p.0 p.1) (part_of f, ts) (Ok (part_of f, ts))
    (all_here f is low fits ts (stops_lower 2 3 ts (omega arith) stops))
    (chain_stops 1 (suc r) 3 right (part_of f) ts (stops.0 3 (omega arith)))

pub comparisons_all : (r : ℕ) (held : Bool) (here right : Reader) → ReadsAll 2 (suc r) held here → ReadsAll 2 r false right
    → ReadsAll 3 (suc r) held (λ ts. here ts >>= λ p. chain_at 1 (suc r) 3 right p.0 p.1)
comparisons_all r held here right a b (a_number n) is le fits ts stops = alone r held here right a (a_number n) is (omega arith) fits ts stops
comparisons_all r held here right a b (a_truth value t) is le fits ts stops = alone r held here right a (a_truth value t) is (omega arith) fits ts stops
comparisons_all r held here right a b (a_name n) is le fits ts stops = alone r held here right a (a_name n) is (omega arith) fits ts stops
comparisons_all r held here right a b (a_field n dot f) is le fits ts stops = alone r held here right a (a_field n dot f) is (omega arith) fits ts stops
comparisons_all r held here right a b (a_group o f u) is le fits ts stops = alone r held here right a (a_group o f u) is (omega arith) fits ts stops
comparisons_all r held here right a b (an_abs w o f u) is le fits ts stops = alone r held here right a (an_abs w o f u) is (omega arith) fits ts stops
comparisons_all r held here right a b (a_pair func w o f d g u) is le fits ts stops =
    alone r held here right a (a_pair func w o f d g u) is (omega arith) fits ts stops
comparisons_all r held here right a b (a_clamp w o f d g e h u) is le fits ts stops =
    alone r held here right a (a_clamp w o f d g e h u) is (omega arith) fits ts stops
comparisons_all r held here right a b (a_rescale w o f d n u) is le fits ts stops =
    alone r held here right a (a_rescale w o f d n u) is (omega arith) fits ts stops
comparisons_all r held here right a b (a_minus t f) is le fits ts stops = alone r held here right a (a_minus t f) is (omega arith) fits ts stops
comparisons_all r held here right a b (a_rest f t n) is le fits ts stops = alone r held here right a (a_rest f t n) is (omega arith) fits ts stops
comparisons_all r held here right a b (a_not t f) is le fits ts stops = absurd (omega (arith, le))
comparisons_all r held here right a b (an_if t c u f v g) is le fits ts stops = absurd (omega (arith, le))
comparisons_all r held here right a b (a_join op f t g) is le fits ts stops =
    elim (at_most_or (tier_of_op op) 2 le) [
      | inl low ↦ alone r held here right a (a_join op f t g) is low fits ts stops
      | inr top ↦ comparison r held here right a b op f t g ts is top fits.0 (stops_lower 2 3 ts (omega arith) stops)
    ]
