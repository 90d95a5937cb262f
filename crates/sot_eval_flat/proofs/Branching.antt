-- Both sides of a condition are computed, and traps count on the side that is taken.
use Rattle.std.proofs.Common.{◌≡◌, ℕ, ◌+◌, ◌<◌, ◌≤◌, ℤ, pos, Bool, true, false, List, ◌∷◌, ◌++◌, take, length, sym, ap, ◌∙◌, arith, ⊎_elim}
use Rattle.std.proofs.lemmas.Bool.{cases_Bool}
use Rattle.std.proofs.lemmas.List.{get_or-set_same, length-set, take-set-le}
use Rattle.std.specs.Prelude.{Ok}
use Rattle.sot_text.specs.declared.token.Span.{Span}
use Rattle.sot_lang.specs.declared.term.Term.{Term}
use Rattle.sot_lang.specs.Values.{Outcome, value_of, is_true, branch}
use Rattle.sot_eval_flat.specs.declared.instruction.Instruction.{Instruction}
use Rattle.sot_eval_flat.specs.declared.instruction.Make.{Make}
use Rattle.sot_eval_flat.specs.declared.instruction.Make.TheVariants.{And, Without}
use Rattle.sot_eval_flat.specs.Instructions.{made, number_at}
use Rattle.sot_eval_flat.specs.Shapes.{Leads, Reckons}
use Rattle.sot_eval_flat.proofs.Lines.{runs_part}
use Rattle.sot_eval_flat.proofs.Reckoning.{same_at, shorter, counts_before, room_stays}

-- an instruction by which traps count on a side, where they counted before and the condition is this
abbrev Sets : Make → Bool → Type 0
Sets make b = (x y w z : ℤ) → ((at : Span) → made make at x y w ≡ Ok z) → is_true x ≡ true → is_true y ≡ b → is_true z ≡ true

true_one : (z : ℤ) → (let o : Outcome ℤ = Ok (pos 1) in o ≡ Ok z) → is_true z ≡ true
true_one z e = (let same : pos 1 ≡ z = cc in ap is_true (sym same))

and_sets : (at : Span) → Sets And true
and_sets at x y w z e counts taken = true_one z (rw (counts, taken) at (e at))

without_sets : (at : Span) → Sets Without false
without_sets at x y w z e counts taken = true_one z (rw (counts, taken) at (e at))

module _ (n : ℕ) (stated : List ℤ) (counts cond : ℕ) where
  abbrev pub counter : Make → ℕ → Instruction
  counter make k = record { make = make; to = k; a = counts; b = cond; c = cond; counts = counts }

  -- one side
  side_leads : (k : ℕ) (make : Make) (b : Bool) (t : Term) (line : List Instruction) (place : ℕ) → n + length stated ≤ k → counts < k → cond < k → k ≤ 255
      → Sets make b → Reckons n stated k (k + 1) t line place
      → Leads n stated counts k (counter make k ∷ line) (λ names ys. is_true (number_at ys cond) ≡ b → value_of t names ≡ Ok (number_at ys place))
  side_leads k make b t line place le below before few sets reckons xs ys room runs =
      let zs = runs.0 in
      let z = runs.1.0 in
      let low : take k zs ≡ take k xs = ap (take k) runs.1.2 ∙ take-set-le k xs k z (omega arith) in
      let size : length zs ≡ 256 = ap length runs.1.2 ∙ length-set xs k z ∙ room.0 in
      let l = reckons.1 zs ys (room_stays n stated xs zs k le low size room) runs.2 in
      let all : take k ys ≡ take k xs = shorter zs ys k (k + 1) (omega arith) l.0 ∙ low in
      let names : take n zs ≡ take n xs = shorter xs zs n k (omega (arith, le)) low in
      let set_is : number_at ys k ≡ z =
      same_at zs ys (k + 1) k l.0 (omega arith) ∙ ap (λ q. number_at q k) runs.1.2 ∙ get_or-set_same xs k z (pos 0) (omega (arith, room.0, few)) in (
        all,
        l.1,
        λ w taken.
            let counted = counts_before xs ys k counts all below w in
            let here : is_true (number_at xs cond) ≡ b = ap is_true (sym (same_at xs ys k cond all before)) ∙ taken in
            let true_here = sets (number_at xs counts) (number_at xs cond) (number_at xs cond) z (runs.1.1 counted) counted here in
            ap (value_of t) (sym names) ∙ l.2 (ap is_true set_is ∙ true_here),
      )

  -- both sides
  pub sides_lead : (at : Span) (k : ℕ) (l r : Term) (fs bs : List Instruction) (p q : ℕ) → n + length stated ≤ k → counts < k → cond < k → k ≤ 251
      → Reckons n stated k (k + 1) l fs p → Reckons n stated (k + 2) (k + 2 + 1) r bs q
      → Leads n stated counts k ((counter And k ∷ fs) ++ counter Without (k + 2) ∷ bs) (λ names ys.
      (is_true (number_at ys cond) ≡ true → value_of l names ≡ Ok (number_at ys p))
      × (is_true (number_at ys cond) ≡ false → value_of r names ≡ Ok (number_at ys q)))
  sides_lead at k l r fs bs p q le below before few first second xs ys room runs =
      let parts = runs_part (counter And k ∷ fs) (counter Without (k + 2) ∷ bs) xs ys runs in
      let ms = parts.0 in
      let a = side_leads k And true l fs p le below before (omega (arith, few)) (and_sets at) first xs ms room parts.1 in
      let b =
      side_leads (k + 2) Without false r bs q (omega (arith, le)) (omega (arith, below)) (omega (arith, before)) (omega (arith, few)) (without_sets at) second
      ms ys (room_stays n stated xs ms k le a.0 a.1 room) parts.2 in
      let low : take k ys ≡ take k ms = shorter ms ys k (k + 2) (omega arith) b.0 in
      let names : take n ms ≡ take n xs = shorter xs ms n k (omega (arith, le)) a.0 in
      let kept : number_at ys p ≡ number_at ms p = same_at ms ys (k + 2) p b.0 (omega (arith, first.0)) in (
        low ∙ a.0,
        b.1,
        λ w. (
          λ e. a.2 (counts_before ms ys k counts low below w) (ap is_true (sym (same_at ms ys k cond low before)) ∙ e) ∙ ap Ok (sym kept),
          λ e. ap (value_of r) (sym names) ∙ b.2 w e,
        ),
      )

-- the side that is taken
pub taken_is : (c a b : Outcome ℤ) (x y w z : ℤ) → c ≡ Ok x → (is_true x ≡ true → a ≡ Ok y) → (is_true x ≡ false → b ≡ Ok w)
    → branch (Ok x) (Ok y) (Ok w) ≡ Ok z → branch c a b ≡ Ok z
taken_is c a b x y w z cond first second e =
    ap (λ o. branch o a b) cond ∙ ⊎_elim (λ t. rw t (first t ∙ (rw t at e))) (λ t. rw t (second t ∙ (rw t at e))) (cases_Bool (is_true x))
