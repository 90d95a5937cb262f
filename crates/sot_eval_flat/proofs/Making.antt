-- Instructions that are made for an expression reckon its value.
use Rattle.std.proofs.Common.{◌≡◌, ℕ, ◌+◌, ◌<◌, ◌≤◌, ℤ, pos, Bool, true, false, List, [], ◌∷◌, ◌++◌, Result, Ok, Err, take, length, get_or, sym, ap}
use Rattle.std.proofs.Common.{ap₂, ◌∙◌, subst, arith, append_assoc}
use Rattle.std.proofs.lemmas.List.{get_or-take}
use Rattle.std.proofs.lemmas.Option.{slice_get_within}
use Rattle.std.specs.Global.{Vec}
use Rattle.std.specs.Prelude.{if◌then◌else◌, IfOk, not, neg_ℤ, ◌-ℤ◌, ◌*ℤ◌}
use Rattle.sot_lists.specs.Places.{At}
use Rattle.sot_text.specs.declared.token.Span.{Span}
use Rattle.sot_syntax_tree.specs.declared.operator.Func.{Func}
use Rattle.sot_lang.specs.declared.term.Term.{Term, Number, Place, Call}
use Rattle.sot_lang.specs.declared.trap.TrapKind.TheVariants.{ZeroDivisor}
use Rattle.sot_syntax_tree.specs.declared.operator.Op.{Op}
use Rattle.sot_lang.specs.Values.{Outcome, value_of, trap, one_more, both, apply, then_with, word, truth, is_true, floor_div, rescaled}
use Rattle.sot_lang.specs.Ticks.{values}
use Rattle.sot_lang.specs.Bodies.{within}
use Rattle.sot_lang.proofs.Rows.{value_of-Call}
use Rattle.sot_eval_flat.specs.declared.instruction.Instruction.{Instruction}
use Rattle.sot_eval_flat.specs.declared.instruction.Make.TheVariants.{Within}
use Rattle.sot_eval_flat.specs.Instructions.{number_at}
use Rattle.sot_eval_flat.specs.Shapes.{IsRoom, Leads, Reckons, Gives, ReckonsCall, Bounds}
use Rattle.sot_eval_flat.proofs.Lines.{runs_part}
use Rattle.sot_eval_flat.proofs.Reckoning.{room_stays, leads_none, two_behind}

pub if_ok : {A E : Type 0} (o : Result A E) (P Q : A → Type 0) → ((x : A) → P x → Q x) → IfOk o P → IfOk o Q
if_ok (Ok x) P Q f h = f x h
if_ok (Err e) P Q f h = tt

-- a last instruction
pub finish : {E : Type 0} (o : Result ℕ E) (base : ℕ) (l0 l1 l2 added : List Instruction) (i : Instruction) (Wanted : List Instruction → ℕ → Type 0)
    → IfOk o (λ place. (place ≡ base) × (l2 ≡ l1 ++ i ∷ [])) → l1 ≡ l0 ++ added → Wanted (added ++ i ∷ []) base
    → IfOk o (λ place. (x : List Instruction) × (l2 ≡ l0 ++ x) × Wanted x place)
finish (Ok place) base l0 l1 l2 added i Wanted h is w =
    (added ++ i ∷ [], h.1 ∙ ap (λ l. l ++ i ∷ []) is ∙ append_assoc l0 added (i ∷ []), subst (Wanted (added ++ i ∷ [])) (sym h.0) w)
finish (Err e) base l0 l1 l2 added i Wanted h is w = tt

-- where a divisor is tested first
pub tested : (at : Span) (b : Bool) (v z : ℤ) → (if b then Ok v else trap at ZeroDivisor) ≡ Ok z → Ok v ≡ (let o : Outcome ℤ = Ok z in o)
tested at true v z e = e
tested at false v z e = cc

module _ (n : ℕ) (stated : List ℤ) (counts base : ℕ) (le : n + length stated ≤ base) where
  -- a number that the body states
  pub states : (k : ℕ) (z : ℤ) (place : ℕ) (t : Term) → At stated k z → place ≡ n + k → t ≡ Number z → Reckons n stated counts base t [] place
  states k z place t at place_is is = (
    (let lt = slice_get_within stated k z at in omega (arith, lt, le, place_is)),
    leads_none n stated counts base (λ names ys. value_of t names ≡ Ok (number_at ys place))
        (λ xs room. ap (λ u. value_of u (take n xs)) is ∙ ap Ok (sym (ap (number_at xs) place_is ∙ room.1 k z at))),
  )

  -- the number of a name
  pub named : (k place : ℕ) (t : Term) → k < n → place ≡ k → t ≡ Place k → Reckons n stated counts base t [] place
  named k place t lt place_is is = (
    omega (arith, lt, le, place_is),
    leads_none n stated counts base (λ names ys. value_of t names ≡ Ok (number_at ys place))
        (λ xs room. ap (λ u. value_of u (take n xs)) is ∙ ap Ok (get_or-take n xs k (pos 0) lt ∙ ap (number_at xs) (sym place_is))),
  )

  -- what is told holds beside the stated numbers in their places
  pub leads_room : (line : List Instruction) (Told : List ℤ → List ℤ → Type 0) → Leads n stated counts base line Told
      → Leads n stated counts base line (λ names ys. Told names ys × IsRoom n stated ys)
  leads_room line Told lead xs ys room runs =
      let l = lead xs ys room runs in
      (l.0, l.1, λ w. (l.2 w, room_stays n stated xs ys base le l.0 l.1 room))

  -- a call of a function
  pub reckons_call : (f : Func) (v : Vec Term) (at : Span) (t : Term) (line : List Instruction) (place : ℕ) → t ≡ Call f v at
      → ReckonsCall n stated counts base f v.items line place → Reckons n stated counts base t line place
  reckons_call f v at t line place is h = (
    h.0,
    λ xs ys room runs.
        let l = h.1 xs ys room runs in
        (l.0, l.1, λ w. ap (λ u. value_of u (take n xs)) is ∙ value_of-Call f v at (take n xs) ∙ l.2 w at),
  )

-- at the number 1 traps count
one_counts : (xs : List ℤ) (k : ℕ) → number_at xs k ≡ pos 1 → is_true (number_at xs k) ≡ true
one_counts xs k e = ap is_true e

-- where traps always count
pub always : (n : ℕ) (stated : List ℤ) (counts base : ℕ) (t : Term) (line : List Instruction) (place k : ℕ) → n + length stated ≤ base → At stated k (pos 1)
    → counts ≡ n + k → Reckons n stated counts base t line place → Gives n stated base t line place
always n stated counts base t line place k le one counts_is reckons = (
  reckons.0,
  λ xs ys room runs.
      let l = reckons.1 xs ys room runs in
      let kept = room_stays n stated xs ys base le l.0 l.1 room in
      (l.0, l.1, l.2 (one_counts ys counts (ap (number_at ys) counts_is ∙ kept.1 k (pos 1) one))),
)

-- a value that is in a range, at a place
pub bounds_are : (n : ℕ) (stated : List ℤ) (t : Term) (lo hi : ℤ) (to a b c counts : ℕ) (fs : List Instruction) (i j k : ℕ)
    → Gives n stated (n + length stated) t fs a → At stated i lo → b ≡ n + i → At stated j hi → c ≡ n + j → At stated k (pos 1) → counts ≡ n + k
    → Bounds n stated t lo hi to (fs ++ (record { make = Within; to = to; a = a; b = b; c = c; counts = counts }) ∷ [])
bounds_are n stated t lo hi to a b c counts fs i j k reckons lo_at b_is hi_at c_is one_at counts_is xs ys room runs =
    let r = runs_part fs ((record { make = Within; to = to; a = a; b = b; c = c; counts = counts }) ∷ []) xs ys runs in
    let ms = r.0 in
    let l = reckons.1 xs ms room r.1 in
    let kept = room_stays n stated xs ms (n + length stated) (omega arith) l.0 l.1 room in
    let lo_is : number_at ms b ≡ lo = ap (number_at ms) b_is ∙ kept.1 i lo lo_at in
    let hi_is : number_at ms c ≡ hi = ap (number_at ms) c_is ∙ kept.1 j hi hi_at in
    let counted = one_counts ms counts (ap (number_at ms) counts_is ∙ kept.1 k (pos 1) one_at) in (
      ms,
      number_at ms a,
      r.2.1.0,
      l.0,
      l.1,
      l.2,
      λ at. ap₂ (λ p q. within (record { lo = p; hi = q }) at (number_at ms a)) (sym lo_is) (sym hi_is) ∙ r.2.1.1 counted at,
      r.2.2 ∙ r.2.1.2,
    )

-- the values of a call's parts
pub one_value : (ts : List Term) (a : Term) (names : List ℤ) (x : ℤ) → length ts ≡ 1 → a ≡ get_or ts 0 a → value_of a names ≡ Ok x
    → values ts names ≡ Ok (x ∷ [])
one_value [] a names x size a_is va = absurd (omega arith)
one_value (t ∷ []) a names x size a_is va = ap (λ p. one_more p (Ok [])) (ap (λ e. value_of e names) (sym a_is) ∙ va)
one_value (t ∷ u ∷ ts) a names x size a_is va = absurd (omega arith)

pub two_values : (ts : List Term) (a b : Term) (names : List ℤ) (x y : ℤ) → length ts ≡ 2 → a ≡ get_or ts 0 a → b ≡ get_or ts 1 b
    → value_of a names ≡ Ok x → value_of b names ≡ Ok y → values ts names ≡ Ok (x ∷ y ∷ [])
two_values [] a b names x y size a_is b_is va vb = absurd (omega arith)
two_values (t ∷ []) a b names x y size a_is b_is va vb = absurd (omega arith)
two_values (t ∷ u ∷ []) a b names x y size a_is b_is va vb =
    ap₂ (λ p q. one_more p (one_more q (Ok []))) (ap (λ e. value_of e names) (sym a_is) ∙ va) (ap (λ e. value_of e names) (sym b_is) ∙ vb)
two_values (t ∷ u ∷ w ∷ ts) a b names x y size a_is b_is va vb = absurd (omega arith)

pub three_values : (ts : List Term) (a b c : Term) (names : List ℤ) (x y z : ℤ) → length ts ≡ 3 → a ≡ get_or ts 0 a → b ≡ get_or ts 1 b → c ≡ get_or ts 2 c
    → value_of a names ≡ Ok x → value_of b names ≡ Ok y → value_of c names ≡ Ok z → values ts names ≡ Ok (x ∷ y ∷ z ∷ [])
three_values [] a b c names x y z size a_is b_is c_is va vb vc = absurd (omega arith)
three_values (t ∷ []) a b c names x y z size a_is b_is c_is va vb vc = absurd (omega arith)
three_values (t ∷ u ∷ []) a b c names x y z size a_is b_is c_is va vb vc = absurd (omega arith)
three_values (t ∷ u ∷ w ∷ []) a b c names x y z size a_is b_is c_is va vb vc =
    ap₂ (λ p q. one_more p q) (ap (λ e. value_of e names) (sym a_is) ∙ va)
    (ap₂ (λ p q. one_more p (one_more q (Ok []))) (ap (λ e. value_of e names) (sym b_is) ∙ vb) (ap (λ e. value_of e names) (sym c_is) ∙ vc))
three_values (t ∷ u ∷ w ∷ v ∷ ts) a b c names x y z size a_is b_is c_is va vb vc = absurd (omega arith)

pub both_are : (op : Op) (at : Span) (a b : Outcome ℤ) (x y : ℤ) → a ≡ Ok x → b ≡ Ok y → both (apply op at) a b ≡ apply op at x y
both_are op at a b x y va vb = ap₂ (both (apply op at)) va vb

pub value_of-Neg : (t : Term) (at : Span) (names : List ℤ) (x : ℤ) → value_of t names ≡ Ok x
    → then_with (value_of t names) (λ y. word at (neg_ℤ y)) ≡ word at (neg_ℤ x)
value_of-Neg t at names x e = ap (λ o. then_with o (λ y. word at (neg_ℤ y))) e

pub value_of-Not : (t : Term) (at : Span) (names : List ℤ) (x : ℤ) → value_of t names ≡ Ok x
    → then_with (value_of t names) (λ y. Ok (truth (not (is_true y)))) ≡ Ok (truth (not (is_true x)))
value_of-Not t at names x e = ap (λ o. then_with o (λ y. Ok (truth (not (is_true y))))) e

pub value_of-Rescale : (t : Term) (from to : ℕ) (at : Span) (names : List ℤ) (x : ℤ) → value_of t names ≡ Ok x
    → then_with (value_of t names) (rescaled at from to) ≡ rescaled at from to x
value_of-Rescale t from to at names x e = ap (λ o. then_with o (rescaled at from to)) e

pub value_of-Rest : (t : Term) (by : ℤ) (at : Span) (names : List ℤ) (x : ℤ) → value_of t names ≡ Ok x
    → then_with (value_of t names) (λ y. Ok (y -ℤ (by *ℤ floor_div y by))) ≡ Ok (x -ℤ (by *ℤ floor_div x by))
value_of-Rest t by at names x e = ap (λ o. then_with o (λ y. Ok (y -ℤ (by *ℤ floor_div y by)))) e

pub plus_two : (k : ℕ) → k + 2 ≡ k + 1 + 1
plus_two k = omega arith

pub plus_three : (k : ℕ) → k + 3 ≡ k + 1 + 2
plus_three k = omega arith

pub plus_four : (k : ℕ) → k + 4 ≡ k + 1 + 2 + 1
plus_four k = omega arith

pub three_behind : (l0 l1 l2 l3 fs bs ds : List Instruction) → l1 ≡ l0 ++ fs → l2 ≡ l1 ++ bs → l3 ≡ l2 ++ ds → l3 ≡ l0 ++ (fs ++ (bs ++ ds))
three_behind l0 l1 l2 l3 fs bs ds a b d = two_behind l0 l1 l3 fs (bs ++ ds) a (two_behind l1 l2 l3 bs ds b d)

pub five_behind : (l0 l1 l2 l3 l4 l5 fs bs ds es gs : List Instruction) → l1 ≡ l0 ++ fs → l2 ≡ l1 ++ bs → l3 ≡ l2 ++ ds → l4 ≡ l3 ++ es → l5 ≡ l4 ++ gs
    → l5 ≡ l0 ++ (fs ++ (bs ++ (ds ++ (es ++ gs))))
five_behind l0 l1 l2 l3 l4 l5 fs bs ds es gs a b d e g =
    two_behind l0 l1 l5 fs (bs ++ (ds ++ (es ++ gs))) a (two_behind l1 l2 l5 bs (ds ++ (es ++ gs)) b (three_behind l2 l3 l4 l5 ds es gs d e g))
