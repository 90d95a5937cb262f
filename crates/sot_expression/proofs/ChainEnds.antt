-- Where a chain of operators reads no further, and what a call of three parts reads.
use Rattle.std.proofs.Common.{◌≡◌, ◌≢◌, ℕ, zero, suc, ◌≤◌, max, nat_lt, cond, List, Bool, Some, Ok, Err, false, refl, ap, ◌∙◌, arith}
use Rattle.std.proofs.lemmas.Bool.Decides.{nat_tests}
use Rattle.sot_text.specs.Reading.{Lexeme}
use Rattle.sot_syntax_tree.specs.declared.operator.Func.TheVariants.{Clamp}
use Rattle.sot_syntax_tree.specs.Trees.{Tree, called, no_tree, one_more}
use Rattle.sot_expression.specs.declared.fail.Fail.{Fail}
use Rattle.sot_expression.specs.declared.fail.Fail.TheVariants.{Token, Deep, Memory}
use Rattle.sot_expression.specs.declared.operators.Infix.{Infix}
use Rattle.sot_expression.specs.Readers.{Read, Fault, ◌>>=◌, deep}
use Rattle.sot_expression.specs.Returned.{Fails}
use Rattle.sot_expression.specs.Operators.{infix_at}
use Rattle.sot_expression.specs.ExpressionReaders.{Reader, Part, over, gone_on, joined_at, chain_at, any_token, opened_at, limits_at, clamp_at}
use Rattle.sot_expression.proofs.ReadSteps.{give}

-- an operator that would nest too deep
pub too_deep : (n room tier : ℕ) (right : Reader) (left : Part) (ts : List Lexeme) (o : Infix) → n ≢ 0 → infix_at tier ts ≡ Some o → room ≤ left.levels
    → chain_at n room tier right left ts ≡ Err (deep, ts)
unfolding chain_at
too_deep zero room tier right left ts o some at le = absurd (some refl)
too_deep (suc n) room tier right left ts o some at le =
    let small : nat_lt left.levels room ≡ false = grind (arith, nat_tests) in
    ap (λ x. gone_on room (λ o. joined_at o right left ts >>= λ p. chain_at n room tier right p.0 p.1) x left ts) at
    ∙ ap (λ b. cond b (joined_at o right left ts >>= λ p. chain_at n room tier right p.0 p.1) (Err (deep, ts))) small

-- the same fault, of what stands in front
pub fails_on : {A B : Type 0} (f : Fail) (after : List Lexeme) (m : Read A) (r : Read B) → ((e : Fault × List Lexeme) → m ≡ Err e → r ≡ Err e) → Fails f after m
    → Fails f after r
fails_on Token after m r on is = on _ is
fails_on Deep after m r on is = on _ is
fails_on Memory after m r on is = tt

-- what is read of a call of three parts
abbrev clamp_of : Lexeme → Part → Part × Part → Part
clamp_of word a more =
    over (called Clamp (one_more a.tree (one_more more.0.tree (one_more more.1.tree no_tree))) word.at) (max a.levels (max more.0.levels more.1.levels))

pub clamp_stops : (part : Reader) (ts : List Lexeme) (word : Lexeme × List Lexeme) (a : Part × List Lexeme) → any_token ts ≡ Ok word
    → opened_at part word.1 ≡ Ok a → (e : Fault × List Lexeme) → limits_at part a.1 ≡ Err e → clamp_at part ts ≡ Err e
unfolding clamp_at
clamp_stops part ts word a w x e stopped = give w _ _ (give x _ _ (ap (λ m. m >>= λ more. Ok (clamp_of word.0 a.0 more.0, more.1)) stopped))

pub clamp_made : (part : Reader) (ts : List Lexeme) (word : Lexeme × List Lexeme) (a : Part × List Lexeme) (more : (Part × Part) × List Lexeme)
    → any_token ts ≡ Ok word → opened_at part word.1 ≡ Ok a → limits_at part a.1 ≡ Ok more
    → clamp_at part ts ≡ Ok (clamp_of word.0 a.0 more.0, more.1)
unfolding clamp_at
clamp_made part ts word a more w x y = give w _ _ (give x _ _ (give y _ _ refl))

abbrev pub part_with : Tree → ℕ → Bool → Part
part_with tree levels bare = record { tree = tree; levels = levels; bare = bare }

pub same_part : (t u : Tree) (m n : ℕ) (b c : Bool) → t ≡ u → m ≡ n → b ≡ c → part_with t m b ≡ part_with u n c
same_part t u m n b c p q r = rw (p, q, r) refl
