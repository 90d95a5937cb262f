-- What operators and calls make of sorts that are known.
use Rattle.std.proofs.Common.{◌≡◌, ℕ, ◌+◌, ◌≤◌, nat_lt, List, [], ◌∷◌, fold, refl, sym, ap, subst, Bool, true, false, ◌||◌, arith}
use Rattle.std.specs.List.{list_any}
use Rattle.sot_syntax_tree.specs.declared.operator.Op.{Op}
use Rattle.sot_syntax_tree.specs.declared.operator.Op.TheVariants.{Add, Sub, Mul, Div, Less, LessEqual, Greater, GreaterEqual, Equal, NotEqual, And, Or}
use Rattle.sot_lang.specs.TermRules.{GivesTruth}
use Rattle.sot_rules.specs.declared.expressions.sort.Sort.{Sort}
use Rattle.sot_rules.specs.declared.expressions.sort.Sort.TheVariants.{Scaled, Truthful, Anything}
use Rattle.sot_rules.specs.Sorts.{is_truthful, is_scaled, kinds_misfit, scales_misfit, operator_sort, unless, given, call_sort, branches_misfit}
use Rattle.sot_typing.proofs.Ranges.{IsKnown}

-- two numbers, two truth values
both_scaled : (P : Sort → Sort → Type 0) → ((s t : ℕ) → s ≤ 6 → t ≤ 6 → P (Scaled s) (Scaled t)) → (a b : Sort) → IsKnown a → IsKnown b
    → (is_truthful a || is_truthful b) ≡ false → P a b
both_scaled P make (Scaled s) (Scaled t) x y e = make s t x y
both_scaled P make (Scaled s) Truthful x y e = cc
both_scaled P make Truthful b x y e = cc
both_scaled P make Anything b x y e = absurd x
both_scaled P make (Scaled s) Anything x y e = absurd y

both_truthful : (P : Sort → Sort → Type 0) → P Truthful Truthful → (a b : Sort) → IsKnown a → IsKnown b → (is_scaled a || is_scaled b) ≡ false → P a b
both_truthful P make Truthful Truthful x y e = make
both_truthful P make (Scaled s) b x y e = cc
both_truthful P make Truthful (Scaled t) x y e = cc
both_truthful P make Truthful Anything x y e = absurd y
both_truthful P make Anything b x y e = absurd x

-- `and` and `or` have truth values
abbrev pub OperandSorts : Op → Sort → Sort → Type 0
OperandSorts And a b = (a ≡ Truthful) × (b ≡ Truthful)
OperandSorts Or a b = (a ≡ Truthful) × (b ≡ Truthful)
OperandSorts _ a b = Unit {0}

pub record IsOperation (op : Op) (a b : Sort) : Type 0 where
  pub known : IsKnown (given a (given b (operator_sort op a b)))
  pub truth : given a (given b (operator_sort op a b)) ≡ Truthful → GivesTruth op
  pub operands : OperandSorts op a b

compares : (op : Op) → ((a b : Sort) → operator_sort op a b ≡ Truthful) → GivesTruth op → ((a b : Sort) → OperandSorts op a b) → (a b : Sort) → IsKnown a
    → IsKnown b → (is_truthful a || is_truthful b) ≡ false → IsOperation op a b
compares op gives truth any a b x y e =
    both_scaled (λ a b. IsOperation op a b) (λ s t u v. record
    { known = subst IsKnown (sym (gives (Scaled s) (Scaled t))) tt; truth = λ q. truth; operands = any (Scaled s) (Scaled t) }) a b x y e

product : (s t : ℕ) → nat_lt 6 (s + t) ≡ false → s + t ≤ 6
product s t e = grind arith

pub operation_is : (op : Op) (a b : Sort) → IsKnown a → IsKnown b → kinds_misfit op a b ≡ false → scales_misfit op a b ≡ false → IsOperation op a b
operation_is Add a b x y k m = both_scaled (λ a b. IsOperation Add a b) (λ s t u v. record { known = u; truth = λ q. cc; operands = tt }) a b x y k
operation_is Sub a b x y k m = both_scaled (λ a b. IsOperation Sub a b) (λ s t u v. record { known = u; truth = λ q. cc; operands = tt }) a b x y k
operation_is Mul a b x y k m =
    both_scaled (λ a b. scales_misfit Mul a b ≡ false → IsOperation Mul a b) (λ s t u v e. record { known = product s t e; truth = λ q. cc; operands = tt }) a b
    x y k m
operation_is Div a b x y k m = both_scaled (λ a b. IsOperation Div a b) (λ s t u v. record { known = omega arith; truth = λ q. cc; operands = tt }) a b x y k
operation_is Less a b x y k m = compares Less (λ a b. refl) tt (λ a b. tt) a b x y k
operation_is LessEqual a b x y k m = compares LessEqual (λ a b. refl) tt (λ a b. tt) a b x y k
operation_is Greater a b x y k m = compares Greater (λ a b. refl) tt (λ a b. tt) a b x y k
operation_is GreaterEqual a b x y k m = compares GreaterEqual (λ a b. refl) tt (λ a b. tt) a b x y k
operation_is Equal a b x y k m = compares Equal (λ a b. refl) tt (λ a b. tt) a b x y k
operation_is NotEqual a b x y k m = compares NotEqual (λ a b. refl) tt (λ a b. tt) a b x y k
operation_is And a b x y k m = both_truthful (λ a b. IsOperation And a b) (record { known = tt; truth = λ q. tt; operands = (refl, refl) }) a b x y k
operation_is Or a b x y k m = both_truthful (λ a b. IsOperation Or a b) (record { known = tt; truth = λ q. tt; operands = (refl, refl) }) a b x y k

-- a sort where no rule fails
pub unless_fails : (b : Bool) (s : Sort) → b ≡ false → unless b s ≡ s
unless_fails b s e = ap (λ x. unless x s) e

-- one that is a number, one that is a truth value
pub is_number : (a : Sort) → is_truthful a ≡ false → a ≡ Truthful → ⊥
is_number a e q = (let r : is_truthful a ≡ true = ap is_truthful q in cc)

pub is_truth_value : (a : Sort) → IsKnown a → is_scaled a ≡ false → a ≡ Truthful
is_truth_value (Scaled s) x e = cc
is_truth_value Truthful x e = refl
is_truth_value Anything x e = absurd x

pub given_known : (a s : Sort) → IsKnown a → given a s ≡ s
given_known (Scaled t) s x = refl
given_known Truthful s x = refl
given_known Anything s x = absurd x

-- the branches of an `if`
pub branches_are : (c a b : Sort) → IsKnown c → IsKnown a → IsKnown b → branches_misfit c a b ≡ false → (c ≡ Truthful) × (a ≡ Truthful → b ≡ Truthful)
branches_are (Scaled s) a b x y z e = cc
branches_are Anything a b x y z e = absurd x
branches_are Truthful (Scaled s) b x y z e = (refl, λ q. cc)
branches_are Truthful Truthful (Scaled t) x y z e = cc
branches_are Truthful Truthful Truthful x y z e = (refl, λ q. refl)
branches_are Truthful Truthful Anything x y z e = absurd z
branches_are Truthful Anything b x y z e = absurd y

-- the operands of a call
abbrev pub AreKnown : List Sort → Type 0
AreKnown [] = Unit {0}
AreKnown (s ∷ more) = IsKnown s × AreKnown more

pub call_is : (s : Sort) (more : List Sort) → IsKnown s → AreKnown more → list_any is_truthful (s ∷ more) ≡ false
    → IsKnown (call_sort (s ∷ more)) × (is_truthful (call_sort (s ∷ more)) ≡ false)
call_is s more x y e = step s more x y e
  where
    parts : (a b : Bool) → (a || b) ≡ false → (a ≡ false) × (b ≡ false)
    parts true b e = cc
    parts false b e = (refl, e)

    step : (s : Sort) (more : List Sort) → IsKnown s → AreKnown more → (is_truthful s || list_any is_truthful more) ≡ false
        → IsKnown (fold given s more) × (is_truthful (fold given s more) ≡ false)
    step s [] x y e = (x, (parts (is_truthful s) false e).0)
    step s (t ∷ more) x y e =
        let q = given_known s t x in
        subst (λ z. IsKnown (fold given z more) × (is_truthful (fold given z more) ≡ false)) (sym q)
        (step t more y.0 y.1 (parts (is_truthful s) (list_any is_truthful (t ∷ more)) e).1)
