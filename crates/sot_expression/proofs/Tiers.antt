-- A part of a tier is read by what is around it.
use Rattle.std.proofs.Common.{◌≡◌, ℕ, ◌==◌, cond, zero, suc, ◌-◌, ◌≤◌, List, Bool, true, false, codes, refl, sym, ap, subst, ◌∙◌, arith}
use Rattle.sot_text.specs.Reading.{Lexeme}
use Rattle.sot_expression.specs.Lexemes.{begins, is_keyword}
use Rattle.sot_expression.specs.Readers.{Read, ◌>>=◌}
use Rattle.sot_expression.specs.ExpressionReaders.{Around, Part, Reader, within, part_at, tier_at, unary_at, denied_at, denial_at, chosen_at, choice_at}
use Rattle.sot_expression.specs.ExpressionReaders.{chain_at, turns}
use Rattle.sot_expression.specs.Parts.{around, below}

-- the same with the room below as a number of its own
abbrev around_with : ℕ → ℕ → Bool → Around
around_with m room held = record { room = room; held = held; below = λ t us. part_at m false t us; inner = λ us. part_at (cond held m room) true 7 us }

pub read_around : (room : ℕ) (held : Bool) (tier : ℕ) (ts : List Lexeme) → 1 ≤ room → part_at room held tier ts ≡ tier_at tier (around room held) ts
unfolding part_at
read_around zero held tier ts h = absurd (omega (arith, h))
read_around (suc r) true tier ts h =
    let e : suc r - 1 ≡ r = omega arith in subst (λ m. part_at (suc r) true tier ts ≡ tier_at tier (around_with m (suc r) true) ts) (sym e) refl
read_around (suc r) false tier ts h =
    let e : suc r - 1 ≡ r = omega arith in subst (λ m. part_at (suc r) false tier ts ≡ tier_at tier (around_with m (suc r) false) ts) (sym e) refl

pub read_unary : (room : ℕ) (held : Bool) (ts : List Lexeme) → 1 ≤ room → part_at room held 0 ts ≡ unary_at (around room held) ts
unfolding tier_at
read_unary room held ts h = read_around room held 0 ts h

pub read_denial : (room : ℕ) (held : Bool) (ts : List Lexeme) → 1 ≤ room → part_at room held 4 ts ≡ denial_at room (below room 4) (part_at room held 3) ts
unfolding part_at tier_at
read_denial zero held ts h = absurd (omega (arith, h))
read_denial (suc r) true ts h =
    let e : suc r - 1 ≡ r = omega arith in subst (λ m. part_at (suc r) true 4 ts ≡ denial_at (suc r) (λ us. part_at m false 4 us) (part_at (suc r) true 3) ts)
    (sym e) refl
read_denial (suc r) false ts h =
    let e : suc r - 1 ≡ r = omega arith in subst (λ m. part_at (suc r) false 4 ts ≡ denial_at (suc r) (λ us. part_at m false 4 us) (part_at (suc r) false 3) ts)
    (sym e) refl

pub read_choice : (room : ℕ) (held : Bool) (ts : List Lexeme) → 1 ≤ room → part_at room held 7 ts ≡ choice_at room (below room 7) (part_at room held 6) ts
unfolding part_at tier_at
read_choice zero held ts h = absurd (omega (arith, h))
read_choice (suc r) true ts h =
    let e : suc r - 1 ≡ r = omega arith in subst (λ m. part_at (suc r) true 7 ts ≡ choice_at (suc r) (λ us. part_at m false 7 us) (part_at (suc r) true 6) ts)
    (sym e) refl
read_choice (suc r) false ts h =
    let e : suc r - 1 ≡ r = omega arith in subst (λ m. part_at (suc r) false 7 ts ≡ choice_at (suc r) (λ us. part_at m false 7 us) (part_at (suc r) false 6) ts)
    (sym e) refl

either : (b c : Bool) (x y z : Read Part) → b ≡ false → c ≡ false → cond b x (cond c y z) ≡ z
either false false x y z p q = refl
either true c x y z p q = absurd cc
either false true x y z p q = absurd cc

pub step_chain : (room : ℕ) (held : Bool) (k : ℕ) (ts : List Lexeme) → 1 ≤ room → (k == 3) ≡ false → (k == 6) ≡ false
    → part_at room held (suc k) ts ≡ (part_at room held k ts >>= λ p. chain_at (turns (suc k) room) room (suc k) (below room k) p.0 p.1)
unfolding part_at tier_at
step_chain zero held k ts h a b = absurd (omega (arith, h))
step_chain (suc r) true k ts h a b =
    let e : suc r - 1 ≡ r = omega arith in
    subst (λ m. part_at (suc r) true (suc k) ts ≡ (part_at (suc r) true k ts >>= λ p.
    chain_at (turns (suc k) (suc r)) (suc r) (suc k) (λ us. part_at m false k us) p.0 p.1)) (sym e) (either (k == 3) (k == 6) _ _ _ a b)
step_chain (suc r) false k ts h a b =
    let e : suc r - 1 ≡ r = omega arith in
    subst (λ m. part_at (suc r) false (suc k) ts ≡ (part_at (suc r) false k ts >>= λ p.
    chain_at (turns (suc k) (suc r)) (suc r) (suc k) (λ us. part_at m false k us) p.0 p.1)) (sym e) (either (k == 3) (k == 6) _ _ _ a b)

pub denial_passed : (room : ℕ) (part next : Reader) (ts : List Lexeme) (y : Read Part) → begins (is_keyword (codes "not")) ts ≡ false → next ts ≡ y
    → denial_at room part next ts ≡ y
unfolding denial_at
denial_passed room part next ts y no_ h = ap (λ b. cond b (within room ts (denied_at part ts)) (next ts)) no_ ∙ h

pub choice_passed : (room : ℕ) (part next : Reader) (ts : List Lexeme) (y : Read Part) → begins (is_keyword (codes "if")) ts ≡ false → next ts ≡ y
    → choice_at room part next ts ≡ y
unfolding choice_at
choice_passed room part next ts y no_ h = ap (λ b. cond b (within room ts (chosen_at part ts)) (next ts)) no_ ∙ h

pub denial_taken : (room : ℕ) (part next : Reader) (ts : List Lexeme) → begins (is_keyword (codes "not")) ts ≡ true
    → denial_at room part next ts ≡ within room ts (denied_at part ts)
unfolding denial_at
denial_taken room part next ts word = ap (λ b. cond b (within room ts (denied_at part ts)) (next ts)) word

pub choice_taken : (room : ℕ) (part next : Reader) (ts : List Lexeme) → begins (is_keyword (codes "if")) ts ≡ true
    → choice_at room part next ts ≡ within room ts (chosen_at part ts)
unfolding choice_at
choice_taken room part next ts word = ap (λ b. cond b (within room ts (chosen_at part ts)) (next ts)) word
