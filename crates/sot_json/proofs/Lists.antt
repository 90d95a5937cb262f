-- Items one after the other, as a loop reads them, and keys among names.
use Rattle.std.proofs.Common.{◌≡◌, ℕ, zero, suc, ◌+◌, ◌<◌, ◌≤◌, List, [], ◌∷◌, ◌++◌, length, map, drop, get_or, Bool, false, ◌||◌, bytes_eq, Bor, Some, None}
use Rattle.std.proofs.Common.{Ok, refl, sym, ap, subst, ◌∙◌, decimal, arith}
use Rattle.serde_json.specs.Data.{Data, no_items, item}
use Rattle.serde_json.specs.Events.{items_len}
use Rattle.serde_json.specs.View.{view, items_view}
use Rattle.serde_json.specs.declared.value.Value.{Value}
use Rattle.sot_json.specs.declared.fault.JsonFail.{JsonFail}
use Rattle.sot_json.specs.Says.{Says}
use Rattle.sot_json.specs.Json.{two, each_after, is_among}
use Rattle.sot_json.specs.Answers.{Fails, IsUnder}
use Rattle.sot_json.proofs.Faults.{part_fails}

pub two_none : (vs : List Value) → (length vs ≡ 2 → ⊥) → two (items_view vs) ≡ None
two_none [] h = refl
two_none (a ∷ []) h = refl
two_none (a ∷ b ∷ []) h = absurd (h refl)
two_none (a ∷ b ∷ c ∷ vs) h = refl

pub two_some : (vs : List Value) (d e : Value) → length vs ≡ 2 → two (items_view vs) ≡ Some (view (get_or vs 0 d), view (get_or vs 1 e))
two_some [] d e h = absurd (omega arith)
two_some (a ∷ []) d e h = absurd (omega arith)
two_some (a ∷ b ∷ []) d e h = refl
two_some (a ∷ b ∷ c ∷ vs) d e h = absurd (omega arith)

pub items_len_view : (vs : List Value) → items_len (items_view vs) ≡ length vs
items_len_view [] = refl
items_len_view (v ∷ vs) = ap suc (items_len_view vs)

rest_at : (vs : List Value) (i : ℕ) (v : Value) → i < length vs → v ≡ get_or vs i v → items_view (drop i vs) ≡ item (view v) (items_view (drop (suc i) vs))
rest_at [] i v h is = absurd (omega arith)
rest_at (w ∷ vs) zero v h is = ap (λ u. item (view u) (items_view vs)) (sym is)
rest_at (w ∷ vs) (suc i) v h is = rest_at vs i v (omega arith) is

rest_from : (vs : List Value) (i : ℕ) (v : Value) → i < length vs → v ≡ get_or vs i v → items_view (drop i vs) ≡ item (view v) (items_view (drop (i + 1) vs))
rest_from vs i v lt is =
    let k : suc i ≡ i + 1 = omega arith in
    subst (λ n. items_view (drop i vs) ≡ item (view v) (items_view (drop n vs))) k (rest_at vs i v lt is)

rest_past : (vs : List Value) (i : ℕ) → length vs ≤ i → items_view (drop i vs) ≡ no_items
rest_past [] zero h = refl
rest_past [] (suc i) h = refl
rest_past (v ∷ vs) zero h = absurd (omega arith)
rest_past (v ∷ vs) (suc i) h = rest_past vs i (omega arith)

-- The item v at place i was read as x.
pub goes_on : {A : Type 0} (f : List A → Data → Says A) (done : List A) (vs : List Value) (i : ℕ) (v : Value) (x : A) (total : Says (List A)) → i < length vs
    → v ≡ get_or vs i v → f done (view v) ≡ Ok x
    → each_after f done (items_view (drop i vs)) ≡ total → each_after f (done ++ x ∷ []) (items_view (drop (i + 1) vs)) ≡ total
unfolding each_after
goes_on f done vs i v x total lt is h so_far =
    let one : each_after f done (items_view (drop i vs)) ≡ each_after f (done ++ x ∷ []) (items_view (drop (i + 1) vs)) = rw (rest_from vs i v lt is, h) refl in
    sym one ∙ so_far

-- The item v at place i has a fault.
pub ends : {A : Type 0} (f : List A → Data → Says A) (done : List A) (vs : List Value) (i : ℕ) (v : Value) (e r : JsonFail) (total : Says (List A))
    → i < length vs → v ≡ get_or vs i v → IsUnder (decimal (length done)) e r → Fails e (f done (view v))
    → each_after f done (items_view (drop i vs)) ≡ total → Fails r total
unfolding each_after
ends f done vs i v e r total lt is below h so_far =
    let one : Fails r (each_after f done (items_view (drop i vs))) =
    rw (rest_from vs i v lt is) (part_fails e r (decimal (length done)) (f done (view v)) _ below h) in
    subst (λ (s : Says (List _)). Fails r s) so_far one

-- All items were read.
pub is_done : {A : Type 0} (f : List A → Data → Says A) (done : List A) (vs : List Value) (i : ℕ) (total : Says (List A)) → length vs ≤ i
    → each_after f done (items_view (drop i vs)) ≡ total → total ≡ Ok done
unfolding each_after
is_done f done vs i total le so_far =
    let one : each_after f done (items_view (drop i vs)) ≡ Ok done = rw (rest_past vs i le) refl in
    sym so_far ∙ one

names_at : (ns : List (Bor (List ℕ))) (i : ℕ) (n : Bor (List ℕ)) → i < length ns → n ≡ get_or ns i n
    → map (λ m. m.now) (drop i ns) ≡ n.now ∷ map (λ m. m.now) (drop (suc i) ns)
names_at [] i n lt is = absurd (omega arith)
names_at (m ∷ ns) zero n lt is = ap (λ (k : Bor (List ℕ)). k.now ∷ map (λ o. o.now) ns) (sym is)
names_at (m ∷ ns) (suc i) n lt is = names_at ns i n (omega arith) is

pub among_from : (k : List ℕ) (ns : List (Bor (List ℕ))) (i : ℕ) (n : Bor (List ℕ)) (b : Bool) → i < length ns → n ≡ get_or ns i n → bytes_eq k n.now ≡ b
    → is_among k (map (λ m. m.now) (drop i ns)) ≡ (b || is_among k (map (λ m. m.now) (drop (i + 1) ns)))
among_from k ns i n b lt is h =
    let s : suc i ≡ i + 1 = omega arith in
    subst (λ j. is_among k (map (λ m. m.now) (drop i ns)) ≡ (b || is_among k (map (λ m. m.now) (drop j ns)))) s (rw (names_at ns i n lt is, h) refl)

pub among_past : (k : List ℕ) (ns : List (Bor (List ℕ))) (i : ℕ) → length ns ≤ i → is_among k (map (λ m. m.now) (drop i ns)) ≡ false
among_past k [] zero h = refl
among_past k [] (suc i) h = refl
among_past k (n ∷ ns) zero h = absurd (omega arith)
among_past k (n ∷ ns) (suc i) h = among_past k ns i (omega arith)
