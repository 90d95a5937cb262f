-- Operators are read as they come, each by its own tier.
use Rattle.std.proofs.Common.{◌≡◌, ℕ, ◌==◌, zero, suc, ◌+◌, ◌-◌, ◌<◌, ◌≤◌, max, nat_lt, cond, List, Bool, true, false, inl, inr, codes, Option, Some, None, Ok}
use Rattle.std.proofs.Common.{Err, refl, sym, ap, subst, ◌∙◌, arith}
use Rattle.std.proofs.lemmas.Bool.{cases_Bool}
use Rattle.std.proofs.lemmas.Bool.Decides.{nat_tests}
use Rattle.sot_text.specs.Reading.{Lexeme}
use Rattle.sot_syntax_tree.specs.declared.operator.Op.{Op}
use Rattle.sot_expression.specs.declared.operators.Infix.{Infix}
use Rattle.sot_expression.specs.declared.operators.Infix.TheVariants.{Joins, Rests}
use Rattle.sot_expression.specs.Lexemes.{begins, is_keyword}
use Rattle.sot_expression.specs.Stream.{first_of}
use Rattle.sot_expression.specs.Readers.{Read, Fault, ◌>>=◌, deep, number_at}
use Rattle.sot_expression.specs.Operators.{tier_of_infix, of_tier, operator_from, infix_at}
use Rattle.sot_expression.specs.ExpressionReaders.{Part, Reader, any_token, operation_at, remainder_at, joined_at, gone_on, chain_at, within, unary_at}
use Rattle.sot_expression.specs.ExpressionReaders.{denied_at, chosen_at, turns, part_at}
use Rattle.sot_expression.specs.Parts.{below, around, climbed, onward, turned, plain_at, not_at}
use Rattle.sot_expression.proofs.ReadSteps.{bind_ok, ok_is}
use Rattle.sot_expression.proofs.FirstTokens.{of_tier_other, no_four, op_most}
use Rattle.sot_expression.proofs.Chains.{chain_stops}
use Rattle.sot_expression.proofs.Tiers.{read_unary, read_denial, read_choice, step_chain, denial_passed, choice_passed, denial_taken, choice_taken}

-- steps of reading
same_steps : {A B : Type 0} (m : Read A) (f g : A × List Lexeme → Read B) → ((x : A × List Lexeme) → m ≡ Ok x → f x ≡ g x) → (m >>= f) ≡ (m >>= g)
same_steps (Ok x) f g h = h x refl
same_steps (Err e) f g h = refl

regrouped : {A B C : Type 0} (m : Read A) (f : A × List Lexeme → Read B) (g : B × List Lexeme → Read C) → ((m >>= f) >>= g) ≡ (m >>= λ x. f x >>= g)
regrouped (Ok x) f g = refl
regrouped (Err e) f g = refl

stays : {A : Type 0} (m : Read A) (f : A × List Lexeme → Read A) → ((x : A × List Lexeme) → f x ≡ Ok x) → (m >>= f) ≡ m
stays (Ok x) f h = h x
stays (Err e) f h = refl

guarded : {A B : Type 0} (b : Bool) (m : Read A) (e : Fault × List Lexeme) (f : A × List Lexeme → Read B) → (cond b m (Err e) >>= f) ≡ cond b (m >>= f) (Err e)
guarded true m e f = refl
guarded false m e f = refl

barred : {A B : Type 0} (b : Bool) (m : Read A) (e : Fault × List Lexeme) (f : A × List Lexeme → Read B) → (cond b (Err e) m >>= f) ≡ cond b (Err e) (m >>= f)
barred true m e f = refl
barred false m e f = refl

-- an operator makes a part that nests deeper
operation_deeper : (op : Op) (right : Reader) (p : Part) (ts : List Lexeme) (q : Part × List Lexeme) → operation_at op right p ts ≡ Ok q → p.levels < q.0.levels
unfolding operation_at
operation_deeper op right p ts q e =
    let t = bind_ok (any_token ts) _ q e in
    let r = bind_ok (right t.0.1) _ q t.2 in
    let levels : 1 + max p.levels r.0.0.levels ≡ q.0.levels = ap (λ (z : Part × List Lexeme). z.0.levels) (ok_is _ q r.2) in
    omega (arith, levels)

remainder_deeper : (p : Part) (ts : List Lexeme) (q : Part × List Lexeme) → remainder_at p ts ≡ Ok q → p.levels < q.0.levels
unfolding remainder_at
remainder_deeper p ts q e =
    let t = bind_ok (any_token ts) _ q e in
    let n = bind_ok (number_at t.0.1) _ q t.2 in
    let levels : 1 + p.levels ≡ q.0.levels = ap (λ (z : Part × List Lexeme). z.0.levels) (ok_is _ q n.2) in
    omega (arith, levels)

deeper : (o : Infix) (right : Reader) (p : Part) (ts : List Lexeme) (q : Part × List Lexeme) → joined_at o right p ts ≡ Ok q → p.levels < q.0.levels
unfolding joined_at
deeper (Joins op) right p ts q e = operation_deeper op right p ts q e
deeper Rests right p ts q e = remainder_deeper p ts q e

-- turns that the room lets nobody use up
gone_alike : (room : ℕ) (f g : Infix → Read Part) (x : Option Infix) (p : Part) (ts : List Lexeme) → ((o : Infix) → p.levels < room → f o ≡ g o)
    → gone_on room f x p ts ≡ gone_on room g x p ts
gone_alike room f g None p ts h = refl
gone_alike room f g (Some o) p ts h = elim (cases_Bool (nat_lt p.levels room)) [
  | inl yes_ ↦ (let less : p.levels < room = grind (arith, nat_tests) in ap (λ (m : Read Part). cond (nat_lt p.levels room) m (Err (deep, ts))) (h o less))
  | inr no_ ↦ rw no_ refl
]

enough_turns : (n m room tier : ℕ) (right : Reader) (p : Part) (ts : List Lexeme) → 1 ≤ n → 1 ≤ m → suc room ≤ n + p.levels → suc room ≤ m + p.levels
    → chain_at n room tier right p ts ≡ chain_at m room tier right p ts
unfolding chain_at
enough_turns zero m room tier right p ts a b c d = absurd (omega (arith, a))
enough_turns (suc n) zero room tier right p ts a b c d = absurd (omega (arith, b))
enough_turns (suc n) (suc m) room tier right p ts a b c d =
    gone_alike room (λ o. joined_at o right p ts >>= λ q. chain_at n room tier right q.0 q.1)
    (λ o. joined_at o right p ts >>= λ q. chain_at m room tier right q.0 q.1) (infix_at tier ts) p ts
    (λ o less. same_steps (joined_at o right p ts) _ _
    (λ q e. let more = deeper o right p ts q e in enough_turns n m room tier right q.0 q.1 (omega (arith, less, c)) (omega (arith, less, d))
    (omega (arith, more, c)) (omega (arith, more, d))))

-- where no operator of these tiers comes
passes : (n room tier : ℕ) (p : Part) (ts : List Lexeme) → ((t : ℕ) → tier < t → t ≤ tier + n → infix_at t ts ≡ None) → climbed n room tier p ts ≡ Ok (p, ts)
unfolding climbed
passes zero room tier p ts none = refl
passes (suc n) room tier p ts none =
    ap (λ m. m >>= λ q. climbed n room (suc tier) q.0 q.1) (chain_stops (turns (suc tier) room) room (suc tier) (below room tier) p ts
    (none (suc tier) (omega arith) (omega arith)))
    ∙ passes n room (suc tier) p ts (λ t less le. none t (omega (arith, less)) (omega (arith, le)))

pub no_operator : (n room tier : ℕ) (p : Part) (ts : List Lexeme) → operator_from (first_of ts) ≡ None → climbed n room tier p ts ≡ Ok (p, ts)
no_operator n room tier p ts none = passes n room tier p ts (λ t _ _. ap (of_tier t) none)

pub other_operator : (n room tier : ℕ) (p : Part) (ts : List Lexeme) (o : Infix) → operator_from (first_of ts) ≡ Some o
    → (tier < tier_of_infix o → tier_of_infix o ≤ tier + n → ⊥) → climbed n room tier p ts ≡ Ok (p, ts)
other_operator n room tier p ts o comes out =
    passes n room tier p ts (λ t less le. ap (of_tier t) comes ∙ of_tier_other t o (λ same. out (omega (arith, same, less)) (omega (arith, same, le))))

-- where an operator of the lowest of these tiers comes
chain_then : {A : Type 0} (m room tier : ℕ) (right : Reader) (p : Part) (ts : List Lexeme) (o : Infix) → infix_at tier ts ≡ Some o
    → (next : Part × List Lexeme → Read A)
    → (chain_at (suc m) room tier right p ts >>= next) ≡ cond (nat_lt p.levels room)
    (joined_at o right p ts >>= λ q. chain_at m room tier right q.0 q.1 >>= next) (Err (deep, ts))
unfolding chain_at
chain_then m room tier right p ts o comes next =
    ap (λ x. gone_on room (λ i. joined_at i right p ts >>= λ q. chain_at m room tier right q.0 q.1) x p ts >>= next) comes
    ∙ guarded (nat_lt p.levels room) (joined_at o right p ts >>= λ q. chain_at m room tier right q.0 q.1) (deep, ts) next
    ∙ ap (λ r. cond (nat_lt p.levels room) r (Err (deep, ts))) (regrouped (joined_at o right p ts) (λ q. chain_at m room tier right q.0 q.1) next)

alike : {A : Type 0} (n room : ℕ) (x y z : Read A) → (n < room → x ≡ y) → cond (nat_lt n room) x z ≡ cond (nat_lt n room) y z
alike n room x y z h = elim (cases_Bool (nat_lt n room)) [
  | inl yes_ ↦ (let less : n < room = grind (arith, nat_tests) in ap (λ r. cond (nat_lt n room) r z) (h less))
  | inr no_ ↦ rw no_ refl
]

-- one operator, and the tiers above one
abbrev goes_on : ℕ → ℕ → ℕ → ℕ → Infix → Part → List Lexeme → Read Part
goes_on room right n tier o p ts = cond (nat_lt p.levels room) (joined_at o (below room right) p ts >>= λ q. climbed n room tier q.0 q.1) (Err (deep, ts))

comparison_here : (n room : ℕ) (p : Part) (ts : List Lexeme) (o : Infix) → infix_at 3 ts ≡ Some o → climbed (suc n) room 2 p ts ≡ goes_on room 2 n 3 o p ts
unfolding climbed chain_at
comparison_here n room p ts o comes = chain_then 0 room 3 (below room 2) p ts o comes (λ q. climbed n room 3 q.0 q.1)

chain_here : (n r tier : ℕ) (p : Part) (ts : List Lexeme) (o : Infix) → infix_at (suc tier) ts ≡ Some o → (suc tier == 3) ≡ false → 1 ≤ p.levels
    → climbed (suc n) (suc r) tier p ts ≡ goes_on (suc r) tier (suc n) tier o p ts
unfolding climbed
chain_here n r tier p ts o comes other some =
    let all_turns : turns (suc tier) (suc r) ≡ suc r = ap (λ b. cond b 1 (suc r)) other in
    let next : Part × List Lexeme → Read Part = λ q. climbed n (suc r) (suc tier) q.0 q.1 in
    let right = below (suc r) tier in
    ap (λ k. chain_at k (suc r) (suc tier) right p ts >>= next) all_turns
    ∙ chain_then r (suc r) (suc tier) right p ts o comes next
    ∙ alike p.levels (suc r) _ _ (Err (deep, ts)) (λ less. same_steps (joined_at o right p ts) _ _ (λ q e.
    let more = deeper o right p ts q e in
    ap (λ m. m >>= next) (enough_turns r (suc r) (suc r) (suc tier) right q.0 q.1 (omega (arith, less, some)) (omega arith) (omega (arith, more, some))
    (omega (arith, more, some))
    ∙ ap (λ k. chain_at k (suc r) (suc tier) right q.0 q.1) (sym all_turns))))

some_infix : (t : ℕ) (ts : List Lexeme) (o : Infix) → operator_from (first_of ts) ≡ Some o → tier_of_infix o ≡ t → infix_at t ts ≡ Some o
some_infix t ts o comes is =
    let test : (tier_of_infix o == t) ≡ true = grind (arith, nat_tests) in
    ap (of_tier t) comes ∙ ap (λ b. cond b (Some o) None) test

here : (n r tier : ℕ) (p : Part) (ts : List Lexeme) (o : Infix) → operator_from (first_of ts) ≡ Some o → tier_of_infix o ≡ suc tier → 1 ≤ p.levels
    → climbed (suc n) (suc r) tier p ts ≡ goes_on (suc r) tier (suc tier + n - onward (suc tier)) (onward (suc tier)) o p ts
here n r tier p ts o comes is some = elim (cases_Bool (suc tier == 3)) [
  | inl three ↦
      let two : 2 ≡ tier = grind (arith, nat_tests) in
      let count : n ≡ 3 + n - 3 = omega arith in
      subst (λ k. climbed (suc n) (suc r) k p ts ≡ goes_on (suc r) k (suc k + n - onward (suc k)) (onward (suc k)) o p ts) two
      (comparison_here n (suc r) p ts o (some_infix 3 ts o comes (omega (arith, is, two))) ∙ ap (λ k. goes_on (suc r) 2 k 3 o p ts) count)
  | inr other ↦
      let back : tier ≡ onward (suc tier) = omega (arith, ap (λ b. cond b (suc tier) (suc tier - 1)) other) in
      let count : suc n ≡ suc tier + n - onward (suc tier) = omega (arith, back) in
      chain_here n r tier p ts o (some_infix (suc tier) ts o comes is) other some
      ∙ ap (λ k. goes_on (suc r) tier k tier o p ts) count
      ∙ ap (λ k. goes_on (suc r) tier (suc tier + n - onward (suc tier)) k o p ts) back
]

climbs_to : (n r tier t : ℕ) (p : Part) (ts : List Lexeme) (o : Infix) → operator_from (first_of ts) ≡ Some o → tier_of_infix o ≡ t → tier < t → t ≤ tier + n
    → 1 ≤ p.levels
    → climbed n (suc r) tier p ts ≡ goes_on (suc r) (t - 1) (tier + n - onward t) (onward t) o p ts
unfolding climbed
climbs_to zero r tier t p ts o comes is above low some = absurd (omega (arith, above, low))
climbs_to (suc n) r tier t p ts o comes is above low some =
    let count : suc tier + n ≡ tier + suc n = omega arith in
    elim (cases_Bool (suc tier == t)) [
      | inl at ↦
          let same : suc tier ≡ t = grind (arith, nat_tests) in
          let back : tier ≡ suc tier - 1 = omega arith in
          subst (λ u. climbed (suc n) (suc r) tier p ts ≡ goes_on (suc r) (u - 1) (tier + suc n - onward u) (onward u) o p ts) same
          (here n r tier p ts o comes (omega (arith, is, same)) some
          ∙ ap (λ k. goes_on (suc r) k (suc tier + n - onward (suc tier)) (onward (suc tier)) o p ts) back
          ∙ ap (λ k. goes_on (suc r) (suc tier - 1) (k - onward (suc tier)) (onward (suc tier)) o p ts) count)
      | inr later ↦
          let less : suc tier < t = grind (arith, nat_tests) in
          let none = ap (of_tier (suc tier)) comes ∙ of_tier_other (suc tier) o (λ same. omega (arith, same, is, less)) in
          ap (λ m. m >>= λ q. climbed n (suc r) (suc tier) q.0 q.1) (chain_stops (turns (suc tier) (suc r)) (suc r) (suc tier) (below (suc r) tier) p ts none)
          ∙ climbs_to n r (suc tier) t p ts o comes is less (omega (arith, low)) some
          ∙ ap (λ k. goes_on (suc r) (t - 1) (k - onward t) (onward t) o p ts) count
    ]

turn_found : (room tier to : ℕ) (p : Part) (ts : List Lexeme) (o : Infix) → 1 ≤ room → operator_from (first_of ts) ≡ Some o → tier < tier_of_infix o
    → tier_of_infix o ≤ to → 1 ≤ p.levels
    → climbed (to - tier) room tier p ts ≡ goes_on room (tier_of_infix o - 1) (to - onward (tier_of_infix o)) (onward (tier_of_infix o)) o p ts
turn_found zero tier to p ts o some_room comes above low some = absurd (omega (arith, some_room))
turn_found (suc r) tier to p ts o some_room comes above low some =
    let t : ℕ = tier_of_infix o in
    let count : tier + (to - tier) ≡ to = omega (arith, above, low) in
    climbs_to (to - tier) r tier t p ts o comes refl above (omega (arith, low, count)) some
    ∙ ap (λ k. goes_on (suc r) (t - 1) (k - onward t) (onward t) o p ts) count

-- an operator that goes on, and one that would nest too deep
pub turns_on : (room tier to : ℕ) (p : Part) (ts : List Lexeme) (o : Infix) → operator_from (first_of ts) ≡ Some o → tier < tier_of_infix o
    → tier_of_infix o ≤ to → 1 ≤ p.levels → p.levels < room
    → climbed (to - tier) room tier p ts ≡ turned room o (tier_of_infix o) to p ts
unfolding turned
turns_on room tier to p ts o comes above low some less =
    let small : nat_lt p.levels room ≡ true = grind (arith, nat_tests) in
    let t : ℕ = tier_of_infix o in
    turn_found room tier to p ts o (omega (arith, less)) comes above low some
    ∙ ap (λ b. cond b (joined_at o (below room (t - 1)) p ts >>= λ q. climbed (to - onward t) room (onward t) q.0 q.1) (Err (deep, ts))) small

pub turns_too_deep : (room tier to : ℕ) (p : Part) (ts : List Lexeme) (o : Infix) → 1 ≤ room → operator_from (first_of ts) ≡ Some o → tier < tier_of_infix o
    → tier_of_infix o ≤ to → 1 ≤ p.levels → room ≤ p.levels
    → climbed (to - tier) room tier p ts ≡ Err (deep, ts)
turns_too_deep room tier to p ts o some_room comes above low some le =
    let large : nat_lt p.levels room ≡ false = grind (arith, nat_tests) in
    let t : ℕ = tier_of_infix o in
    turn_found room tier to p ts o some_room comes above low some
    ∙ ap (λ b. cond b (joined_at o (below room (t - 1)) p ts >>= λ q. climbed (to - onward t) room (onward t) q.0 q.1) (Err (deep, ts))) large

-- the operators of one tier, and then those of the next
abbrev tier_on : ℕ → ℕ → Part × List Lexeme → Read Part
tier_on room k q = chain_at (turns (suc k) room) room (suc k) (below room k) q.0 q.1

climbed_end : (n room tier : ℕ) (p : Part) (ts : List Lexeme) → climbed (suc n) room tier p ts ≡ (climbed n room tier p ts >>= tier_on room (tier + n))
unfolding climbed
climbed_end zero room tier p ts =
    let e : tier ≡ tier + 0 = omega arith in
    stays (tier_on room tier (p, ts)) (λ q. Ok (q.0, q.1)) (λ q. refl) ∙ ap (λ k. tier_on room k (p, ts)) e
climbed_end (suc n) room tier p ts =
    let e : suc tier + n ≡ tier + suc n = omega arith in
    same_steps (tier_on room tier (p, ts)) (λ q. climbed (suc n) room (suc tier) q.0 q.1)
    (λ q. climbed n room (suc tier) q.0 q.1 >>= tier_on room (suc tier + n)) (λ q _. climbed_end n room (suc tier) q.0 q.1)
    ∙ sym (regrouped (tier_on room tier (p, ts)) (λ q. climbed n room (suc tier) q.0 q.1) (tier_on room (suc tier + n)))
    ∙ ap (λ k. (tier_on room tier (p, ts) >>= λ q. climbed n room (suc tier) q.0 q.1) >>= tier_on room k) e

no_tier : (t : ℕ) (x : Option Infix) → ((o : Infix) → tier_of_infix o ≡ t → ⊥) → of_tier t x ≡ None
no_tier t None h = refl
no_tier t (Some o) h = of_tier_other t o (h o)

not_four : (o : Infix) → tier_of_infix o ≡ 4 → ⊥
not_four (Joins op) e = let low = no_four op (omega (arith, e)) in omega (arith, e, low)
not_four Rests e = omega (arith, e)

not_seven : (o : Infix) → tier_of_infix o ≡ 7 → ⊥
not_seven (Joins op) e = omega (arith, e, op_most op)
not_seven Rests e = omega (arith, e)

not_tier : (room : ℕ) (held : Bool) (k : ℕ) (ts : List Lexeme) → 1 ≤ room → k ≡ 3 → begins (is_keyword (codes "not")) ts ≡ false
    → part_at room held (suc k) ts ≡ (part_at room held k ts >>= tier_on room k)
not_tier room held k ts some is no_ =
    subst (λ j. part_at room held (suc j) ts ≡ (part_at room held j ts >>= tier_on room j)) (sym is)
    (read_denial room held ts some
    ∙ denial_passed room (below room 4) (part_at room held 3) ts (part_at room held 3 ts) no_ refl
    ∙ sym (stays (part_at room held 3 ts) (tier_on room 3) (λ q.
    chain_stops room room 4 (below room 3) q.0 q.1 (no_tier 4 (operator_from (first_of q.1)) not_four))))

if_tier : (room : ℕ) (held : Bool) (k : ℕ) (ts : List Lexeme) → 1 ≤ room → k ≡ 6 → begins (is_keyword (codes "if")) ts ≡ false
    → part_at room held (suc k) ts ≡ (part_at room held k ts >>= tier_on room k)
if_tier room held k ts some is no_ =
    subst (λ j. part_at room held (suc j) ts ≡ (part_at room held j ts >>= tier_on room j)) (sym is)
    (read_choice room held ts some
    ∙ choice_passed room (below room 7) (part_at room held 6) ts (part_at room held 6 ts) no_ refl
    ∙ sym (stays (part_at room held 6 ts) (tier_on room 6) (λ q.
    chain_stops room room 7 (below room 6) q.0 q.1 (no_tier 7 (operator_from (first_of q.1)) not_seven))))

next_tier : (room : ℕ) (held : Bool) (k : ℕ) (ts : List Lexeme) → 1 ≤ room → (k ≡ 3 → begins (is_keyword (codes "not")) ts ≡ false)
    → (k ≡ 6 → begins (is_keyword (codes "if")) ts ≡ false) → part_at room held (suc k) ts ≡ (part_at room held k ts >>= tier_on room k)
next_tier room held k ts some no_not no_if = elim (cases_Bool (k == 3)) [
  | inl three ↦ (let is : k ≡ 3 = grind (arith, nat_tests) in not_tier room held k ts some is (no_not is))
  | inr a ↦ elim (cases_Bool (k == 6)) [
    | inl six ↦ (let is : k ≡ 6 = grind (arith, nat_tests) in if_tier room held k ts some is (no_if is))
    | inr b ↦ step_chain room held k ts some a b
  ]
]

-- a part, and the operators behind it up to a tier
rises : (n room : ℕ) (held : Bool) (tier : ℕ) (ts : List Lexeme) → 1 ≤ room → (tier ≤ 3 → 4 ≤ tier + n → begins (is_keyword (codes "not")) ts ≡ false)
    → (tier ≤ 6 → 7 ≤ tier + n → begins (is_keyword (codes "if")) ts ≡ false)
    → part_at room held (tier + n) ts ≡ (part_at room held tier ts >>= λ p. climbed n room tier p.0 p.1)
unfolding climbed
rises zero room held tier ts some no_not no_if =
    let e : tier + 0 ≡ tier = omega arith in
    ap (λ k. part_at room held k ts) e ∙ sym (stays (part_at room held tier ts) (λ p. Ok (p.0, p.1)) (λ p. refl))
rises (suc n) room held tier ts some no_not no_if =
    let e : tier + suc n ≡ suc (tier + n) = omega arith in
    ap (λ k. part_at room held k ts) e
    ∙ next_tier room held (tier + n) ts some (λ is. no_not (omega (arith, is)) (omega (arith, is))) (λ is. no_if (omega (arith, is)) (omega (arith, is)))
    ∙ ap (λ m. m >>= tier_on room (tier + n)) (rises n room held tier ts some (λ low high. no_not low (omega (arith, high)))
    (λ low high. no_if low (omega (arith, high))))
    ∙ regrouped (part_at room held tier ts) (λ p. climbed n room tier p.0 p.1) (tier_on room (tier + n))
    ∙ same_steps (part_at room held tier ts) _ _ (λ p _. sym (climbed_end n room tier p.0 p.1))

-- a part that begins with an operand
pub reads_plain : (room : ℕ) (held : Bool) (tier : ℕ) (ts : List Lexeme) → 1 ≤ room → (4 ≤ tier → begins (is_keyword (codes "not")) ts ≡ false)
    → (7 ≤ tier → begins (is_keyword (codes "if")) ts ≡ false)
    → part_at room held tier ts ≡ plain_at room held tier ts
unfolding plain_at
reads_plain room held tier ts some no_not no_if =
    let e : tier ≡ 0 + tier = omega arith in
    let count : tier ≡ tier - 0 = omega arith in
    ap (λ k. part_at room held k ts) e
    ∙ rises tier room held 0 ts some (λ _ high. no_not (omega (arith, high))) (λ _ high. no_if (omega (arith, high)))
    ∙ ap (λ m. m >>= λ p. climbed tier room 0 p.0 p.1) (read_unary room held ts some)
    ∙ ap (λ k. unary_at (around room held) ts >>= λ p. climbed k room 0 p.0 p.1) count

-- one that begins with a `not`
pub reads_not : (room : ℕ) (held : Bool) (tier : ℕ) (ts : List Lexeme) → 1 ≤ room → 4 ≤ tier → begins (is_keyword (codes "not")) ts ≡ true
    → (7 ≤ tier → begins (is_keyword (codes "if")) ts ≡ false)
    → part_at room held tier ts ≡ within room ts (not_at room tier ts)
unfolding not_at
reads_not room held tier ts some high word no_if =
    let e : tier ≡ 4 + (tier - 4) = omega (arith, high) in
    ap (λ k. part_at room held k ts) e
    ∙ rises (tier - 4) room held 4 ts some (λ low _. absurd (omega (arith, low))) (λ _ top. no_if (omega (arith, top)))
    ∙ ap (λ m. m >>= λ p. climbed (tier - 4) room 4 p.0 p.1) (read_denial room held ts some ∙ denial_taken room (below room 4) (part_at room held 3) ts word)
    ∙ barred (nat_lt room 2) (denied_at (below room 4) ts) (deep, ts) (λ p. climbed (tier - 4) room 4 p.0 p.1)

-- and one that begins with an `if`
pub reads_if : (room : ℕ) (held : Bool) (ts : List Lexeme) → 1 ≤ room → begins (is_keyword (codes "if")) ts ≡ true
    → part_at room held 7 ts ≡ within room ts (chosen_at (below room 7) ts)
reads_if room held ts some word = read_choice room held ts some ∙ choice_taken room (below room 7) (part_at room held 6) ts word
