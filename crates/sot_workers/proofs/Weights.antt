-- How many statements bodies have, and which of them are long.
use Rattle.std.proofs.Common.{◌≡◌, ℕ, zero, suc, ◌+◌, ◌*◌, ◌-◌, ◌^◌, ◌≤◌, ◌<◌, min, Bool, List, [], ◌∷◌, take, drop}
use Rattle.std.proofs.Common.{refl, sym, ap, ap₂, ◌∙◌, subst, arith, ⊎_elim, add-one}
use Rattle.std.specs.Global.{Vec}
use Rattle.std.specs.Prelude.{nat_le, if◌then◌else◌}
use Rattle.std.proofs.lemmas.Bool.{cases_lt, le-leb}
use Rattle.std.proofs.lemmas.Option.{none-some}
use Rattle.std.proofs.Math.Nat.{mul_comm, mul-zero, zero-mul, le-mul_of_pos_right}
use Rattle.sot_lists.specs.Places.{At}
use Rattle.sot_lists.proofs.Places.{drop_at}
use Rattle.sot_lang.specs.declared.term.Term.{Term}
use Rattle.sot_lang.specs.declared.act.Act.{Act, If, Repeat, Row_of-Act, end_of-Act, more_of-Act, items-the_row-Act, items_hidden-the_row-Act-0}
use Rattle.sot_lang.specs.declared.act.Act.TheBlock.{hidden-the_row-Act-0}
use Rattle.sot_lang.specs.declared.tables.NodeInfo.{NodeInfo}
use Rattle.sot_workers.specs.Threads.{weight, row_weight, statements, has_long_body, long_count}

row_items : {m : _} (us : Row_of-Act m) → row_weight us ≡ statements (items-the_row-Act _ us)
row_items end_of-Act = refl
row_items (more_of-Act a rest) = ap (λ n. weight a + n) (row_items rest)

row_is : (v : Vec Act) → row_weight (hidden-the_row-Act-0 v) ≡ statements v.items
row_is v = row_items (hidden-the_row-Act-0 v) ∙ ap statements (items_hidden-the_row-Act-0 v)

-- the statements of an `if` and of a `repeat`
pub weight-If : (a : Act) (t : Term) (u v : Vec Act) → a ≡ If t u v → weight a ≡ suc (statements u.items + statements v.items)
weight-If a t u v is = ap weight is ∙ ap₂ (λ x y. suc (x + y)) (row_is u) (row_is v)

pub weight-Repeat : (n : ℕ) (u : Vec Act) → weight (Repeat n u) ≡ suc (n * statements u.items)
weight-Repeat n u = ap (λ x. suc (n * x)) (row_is u)

pub statements_more : (acts : List Act) (i : ℕ) (a : Act) → At acts i a → statements (drop i acts) ≡ weight a + statements (drop (i + 1) acts)
statements_more acts i a at = ap statements (drop_at acts i a at)

cut_both : (a b m : ℕ) → m ≤ a → m ≤ b → min a m ≡ min b m
cut_both a b m p q = omega (arith, p, q)

-- a number that is cut off, so many times
pub times_cut : (n x m : ℕ) → min (min x m * n) m ≡ min (n * x) m
times_cut zero x m = ap (λ k. min k m) (mul-zero (min x m) ∙ sym (zero-mul x))
times_cut (suc n) x m = ⊎_elim below past (cases_lt x m)
  where
    below : x < m → min (min x m * suc n) m ≡ min (suc n * x) m
    below lt = (let same : min x m ≡ x = omega (arith, lt) in ap (λ k. min k m) (ap (λ k. k * suc n) same ∙ mul_comm x (suc n)))

    past : m ≤ x → min (min x m * suc n) m ≡ min (suc n * x) m
    past le =
        let same : m ≡ min x m = omega (arith, le) in
        let one : m ≤ m * suc n = le-mul_of_pos_right m (omega arith) in
        let other : x ≤ x * suc n = le-mul_of_pos_right x (omega arith) in
        let more : x ≤ suc n * x = subst (λ k. x ≤ k) (mul_comm x (suc n)) other in
        cut_both (min x m * suc n) (suc n * x) m (subst (λ k. m ≤ k * suc n) same one) (omega (arith, le, more))

-- a count that is cut off tells whether a body is long
pub long_cut : (n k : ℕ) → k ≡ min n (2 ^ 32 - 1) → nat_le 1000 k ≡ nat_le 1000 n
long_cut n k is =
    ⊎_elim (λ low. ap (nat_le 1000) (let same : k ≡ n = omega (arith, is, low) in same))
    (λ high. le-leb 1000 k (omega (arith, is, high)) ∙ sym (le-leb 1000 n high)) (cases_lt n 1000)

-- one node more is counted, where it has a long body
abbrev pub bump : Bool → ℕ
bump b = if b then 1 else 0

pub long_more : (nodes : List NodeInfo) (i : ℕ) (x : NodeInfo) → At nodes i x
    → long_count (take (i + 1) nodes) ≡ long_count (take i nodes) + bump (has_long_body x)
long_more nodes i x at = rw (add-one i) (from nodes i at)
  where
    from : (ys : List NodeInfo) (k : ℕ) → At ys k x → long_count (take (suc k) ys) ≡ long_count (take k ys) + bump (has_long_body x)
    from [] k e = absurd (none-some x e)
    from (y ∷ ys) zero e = (let same : y ≡ x = cc in subst (λ z. bump (has_long_body y) + 0 ≡ 0 + bump (has_long_body z)) same (omega arith))
    from (y ∷ ys) (suc k) e = omega (arith, from ys k e)
