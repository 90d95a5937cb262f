-- Steps of the loops that note faults item by item.
use Rattle.std.proofs.Common.{◌≡◌, ℕ, ◌+◌, ◌<◌, ◌≤◌, List, [], ◌∷◌, ◌++◌, length, get_or, drop, map, refl, sym, ap, ◌∙◌, Option, Some, Bool, true, false, ◌||◌}
use Rattle.std.proofs.Common.{fold}
use Rattle.std.specs.List.{list_any, slice_get, flat_map}
use Rattle.std.proofs.lemmas.List.{drop_all}
use Rattle.std.proofs.lemmas.Option.{slice_get_within, get_or_from_slice_get}
use Rattle.sot_rules.specs.declared.fault.TypeFault.{TypeFault}
use Rattle.sot_rules.specs.declared.expressions.sort.Sort.{Sort}
use Rattle.sot_rules.specs.declared.expressions.operands.Operands.{Operands}
use Rattle.sot_rules.specs.Sorts.{is_truthful, differ_after, given}
use Rattle.sot_rules.specs.Operands.{with_operand}
use Rattle.sot_rules.specs.Faults.{least}
use Rattle.sot_rules.proofs.Least.{least_append}
pub use Rattle.sot_names.proofs.Steps.{rest_is}

-- an item's faults are noted, and then what is left
pub step_least : {X : Type 0} (faults : List X → List TypeFault) (one : X → List TypeFault)
    → ((x : X) (more : List X) → faults (x ∷ more) ≡ one x ++ faults more) → (xs : List X) (i : ℕ) (x : X) (a b c : Option TypeFault) → i < length xs
    → x ≡ get_or xs i x → least a (faults (drop i xs)) ≡ c → b ≡ least a (one x) → least b (faults (drop (i + 1) xs)) ≡ c
step_least faults one shape xs i x a b c lt e inv now =
    ap (λ z. least z (faults (drop (i + 1) xs))) now
    ∙ sym (least_append a (one x) (faults (drop (i + 1) xs)))
    ∙ ap (least a) (sym (shape x (drop (i + 1) xs)))
    ∙ ap (λ z. least a (faults z)) (sym (rest_is xs i x lt e))
    ∙ inv

-- the same of an item that is looked up
pub step_got : {X : Type 0} (faults : List X → List TypeFault) (one : X → List TypeFault) → ((x : X) (more : List X) → faults (x ∷ more) ≡ one x ++ faults more)
    → (xs : List X) (i : ℕ) (x : X) (a b c : Option TypeFault) → slice_get xs i ≡ Some x → least a (faults (drop i xs)) ≡ c → b ≡ least a (one x)
    → least b (faults (drop (i + 1) xs)) ≡ c
step_got faults one shape xs i x a b c got inv now =
    step_least faults one shape xs i x a b c (slice_get_within xs i x got) (sym (get_or_from_slice_get xs i x x got)) inv now

-- the same where each item has a list of its own
pub step_each : {X : Type 0} (one : X → List TypeFault) (xs : List X) (i : ℕ) (x : X) (a b c : Option TypeFault) → i < length xs → x ≡ get_or xs i x
    → least a (flat_map one (drop i xs)) ≡ c → b ≡ least a (one x) → least b (flat_map one (drop (i + 1) xs)) ≡ c
step_each one xs i x a b c lt e inv now = step_least (λ ys. flat_map one ys) one (λ y more. refl) xs i x a b c lt e inv now

pub step_viewed : {X Y : Type 0} (view : X → Y) (one : Y → List TypeFault) (xs : List X) (i : ℕ) (x : X) (a b c : Option TypeFault) → i < length xs
    → x ≡ get_or xs i x → least a (flat_map one (map view (drop i xs))) ≡ c → b ≡ least a (one (view x))
    → least b (flat_map one (map view (drop (i + 1) xs))) ≡ c
step_viewed view one xs i x a b c lt e inv now = step_least (λ ys. flat_map one (map view ys)) (λ y. one (view y)) (λ y more. refl) xs i x a b c lt e inv now

-- no item is left
pub none_left : {X : Type 0} (faults : List X → List TypeFault) → faults [] ≡ [] → (xs : List X) (i : ℕ) (a c : Option TypeFault) → length xs ≤ i
    → least a (faults (drop i xs)) ≡ c → a ≡ c
none_left faults empty xs i a c le inv = ap (least a) (sym (ap faults (drop_all i xs le) ∙ empty)) ∙ inv

-- an operand is taken in, and then what is left
pub step_fold : {X : Type 0} (of : List X → List Sort) (one : X → Sort) → ((x : X) (more : List X) → of (x ∷ more) ≡ one x ∷ of more)
    → (xs : List X) (i : ℕ) (x : X) (a b c : Operands) → i < length xs → x ≡ get_or xs i x → fold with_operand a (of (drop i xs)) ≡ c
    → b ≡ with_operand a (one x) → fold with_operand b (of (drop (i + 1) xs)) ≡ c
step_fold of one shape xs i x a b c lt e inv now =
    ap (λ z. fold with_operand z (of (drop (i + 1) xs))) now
    ∙ ap (fold with_operand a) (sym (shape x (drop (i + 1) xs)))
    ∙ ap (λ z. fold with_operand a (of z)) (sym (rest_is xs i x lt e))
    ∙ inv

-- what is kept of operands is what is asked of them
or_assoc : (a b c : Bool) → ((a || b) || c) ≡ (a || (b || c))
or_assoc true b c = refl
or_assoc false b c = refl

pub truth_of : (o : Operands) (xs : List Sort) → (fold with_operand o xs).truth ≡ (o.truth || list_any is_truthful xs)
truth_of o [] = or_none o.truth
  where
    or_none : (b : Bool) → b ≡ (b || false)
    or_none true = refl
    or_none false = refl
truth_of o (x ∷ xs) = truth_of (with_operand o x) xs ∙ or_assoc o.truth (is_truthful x) (list_any is_truthful xs)

pub differ_of : (o : Operands) (xs : List Sort) → (fold with_operand o xs).differ ≡ (o.differ || differ_after o.last xs)
differ_of o [] = or_none o.differ
  where
    or_none : (b : Bool) → b ≡ (b || false)
    or_none true = refl
    or_none false = refl
differ_of o (x ∷ xs) = differ_of (with_operand o x) xs ∙ or_assoc o.differ _ (differ_after _ xs)

pub sort_of : (o : Operands) (xs : List Sort) → (fold with_operand o xs).sort ≡ fold given o.sort xs
sort_of o [] = refl
sort_of o (x ∷ xs) = sort_of (with_operand o x) xs
