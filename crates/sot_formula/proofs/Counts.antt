-- A program has few scalars: each is in the range of some topic, and a topic has at most 8.
use Rattle.std.proofs.Common.{◌≡◌, ℕ, zero, suc, ◌+◌, ◌-◌, ◌*◌, ◌≤◌, ◌<◌, nat_lt, Bool, true, false, cond, List, [], ◌∷◌, length, ⊎_elim, ap, arith}
use Rattle.std.proofs.lemmas.Bool.{cases_lt}
use Rattle.std.proofs.lemmas.Bool.Decides.{nat_tests}
use Rattle.std.proofs.lemmas.Option.{none-some, same_Some}
use Rattle.sot_lists.specs.Places.{At}
use Rattle.sot_lists.proofs.Places.{at_below}
use Rattle.sot_lang.specs.declared.tables.TopicInfo.{TopicInfo}
use Rattle.sot_lang.specs.Tables.{Tables}
use Rattle.sot_lang.specs.TableRules.{MeetsTableRules}

abbrev is_below : ℕ → ℕ → ℕ
is_below a n = cond (nat_lt a n) 1 0

below_is : (a n : ℕ) → a < n → is_below a n ≡ 1
below_is a n lt = (let e : nat_lt a n ≡ true = grind (arith, nat_tests) in ap (λ (b : Bool). cond b 1 0) e)

above_is : (a n : ℕ) → n ≤ a → is_below a n ≡ 0
above_is a n le = (let e : nat_lt a n ≡ false = grind (arith, nat_tests) in ap (λ (b : Bool). cond b 1 0) e)

one_more : (a m n : ℕ) → m ≤ n → is_below a m ≤ is_below a n
one_more a m n le =
    ⊎_elim
    (λ (lt : a < m). (let e = below_is a m lt in let f = below_is a n (omega (arith, lt, le)) in omega (arith, e, f)))
    (λ (ge : m ≤ a). (let e = above_is a m ge in omega (arith, e)))
    (cases_lt a m)

one_most : (a n : ℕ) → is_below a n ≤ 1
one_most a n = ⊎_elim (λ (lt : a < n). (let e = below_is a n lt in omega (arith, e))) (λ (ge : n ≤ a). (let e = above_is a n ge in omega (arith, e)))
    (cases_lt a n)

-- how many topics begin below a place
abbrev begun : ℕ → List TopicInfo → ℕ
begun n [] = 0
begun n (x ∷ ts) = is_below x.first n + begun n ts

begun_more : (m n : ℕ) (ts : List TopicInfo) → m ≤ n → begun m ts ≤ begun n ts
begun_more m n [] le = omega arith
begun_more m n (x ∷ ts) le = (let a = one_more x.first m n le in let b = begun_more m n ts le in omega (arith, a, b))

begun_most : (n : ℕ) (ts : List TopicInfo) → begun n ts ≤ length ts
begun_most n [] = omega arith
begun_most n (x ∷ ts) = (let a = one_most x.first n in let b = begun_most n ts in omega (arith, a, b))

-- one that begins between two places is counted at the second alone
begun_one : (m n : ℕ) (ts : List TopicInfo) (t : ℕ) (x : TopicInfo) → At ts t x → m ≤ x.first → x.first < n → begun m ts + 1 ≤ begun n ts
begun_one m n [] t x at low high = absurd (none-some x at)
begun_one m n (y ∷ ts) zero x at low high =
    let same : y.first ≡ x.first = ap (λ (z : TopicInfo). z.first) (same_Some y x at) in
    let a = above_is y.first m (omega (arith, same, low)) in
    let b = below_is y.first n (omega (arith, same, high)) in
    let rest = begun_more m n ts (omega (arith, low, high)) in
    omega (arith, a, b, rest)
begun_one m n (y ∷ ts) (suc t) x at low high =
    let a = one_more y.first m n (omega (arith, low, high)) in
    let b = begun_one m n ts t x at low high in
    omega (arith, a, b)

abbrev IsCovered : List TopicInfo → ℕ → Type 0
IsCovered ts k = (t : ℕ) × (x : TopicInfo) × At ts t x × (x.first ≤ k) × (k < x.first + 8)

covered : (ts : List TopicInfo) (room n : ℕ) → n ≤ room → ((k : ℕ) → k < n → IsCovered ts k) → n ≤ 8 * begun n ts
covered ts room zero le each = omega arith
covered ts zero (suc n) le each = absurd (omega (arith, le))
covered ts (suc room) (suc n) le each =
    let c = each n (omega arith) in
    let m = suc n - 8 in
    let rest = covered ts room m (omega (arith, le)) (λ k lt. each k (omega (arith, lt))) in
    let one = begun_one m (suc n) ts c.0 c.1 c.2 (omega (arith, c.4)) (omega (arith, c.3)) in
    omega (arith, rest, one)

pub few_scalars : (p : Tables) → MeetsTableRules p → length p.scalars ≤ 4096
few_scalars p rules =
    let n = length p.scalars in
    let each = λ (k : ℕ) (lt : k < n). (let info = at_below p.scalars k lt in
    let own = rules.typed.scalar_topic k info.0 info.1 in
    let few = (rules.topics info.0.topic own.0 own.1).1 in
    let is : IsCovered p.topics k = (info.0.topic, own.0, own.1, own.2, omega (arith, own.3, few)) in is) in
    let a = covered p.topics n n (omega arith) each in
    let b = begun_most n p.topics in
    omega (arith, a, b, rules.topic_count)
