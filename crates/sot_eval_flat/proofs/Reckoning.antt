-- What instructions for the parts of an expression compute together.
use Rattle.std.proofs.Common.{◌≡◌, ℕ, ◌+◌, ◌<◌, ◌≤◌, ℤ, pos, true, List, [], ◌∷◌, ◌++◌, take, length, get_or, sym, ap, ◌∙◌, subst, arith, append_assoc}
use Rattle.std.proofs.lemmas.List.{get_or-take, get_or-set_same, length-set, take-set-le}
use Rattle.std.proofs.lemmas.Option.{slice_get_within}
use Rattle.std.proofs.Math.Seq.{take-take}
use Rattle.std.specs.Prelude.{slice_set, Ok}
use Rattle.sot_text.specs.declared.token.Span.{Span}
use Rattle.sot_lang.specs.declared.term.Term.{Term}
use Rattle.sot_lang.specs.Values.{value_of, is_true}
use Rattle.sot_eval_flat.specs.declared.instruction.Instruction.{Instruction}
use Rattle.sot_eval_flat.specs.Instructions.{made, number_at}
use Rattle.sot_eval_flat.specs.Shapes.{IsRoom, Leads, Reckons}
use Rattle.sot_eval_flat.proofs.Lines.{runs_part}

pub same_at : (xs ys : List ℤ) (base k : ℕ) → take base ys ≡ take base xs → k < base → number_at ys k ≡ number_at xs k
same_at xs ys base k e lt = sym (get_or-take base ys k (pos 0) lt) ∙ ap (λ l. get_or l k (pos 0)) e ∙ get_or-take base xs k (pos 0) lt

pub shorter : (xs ys : List ℤ) (n base : ℕ) → n ≤ base → take base ys ≡ take base xs → take n ys ≡ take n xs
shorter xs ys n base le e = sym (take-take n base ys le) ∙ ap (take n) e ∙ take-take n base xs le

-- whether traps count is not changed behind its place
pub counts_before : (xs ys : List ℤ) (base k : ℕ) → take base ys ≡ take base xs → k < base → is_true (number_at ys k) ≡ true → is_true (number_at xs k) ≡ true
counts_before xs ys base k e lt w = ap is_true (sym (same_at xs ys base k e lt)) ∙ w

module _ (n : ℕ) (stated : List ℤ) where
  pub room_stays : (xs ys : List ℤ) (base : ℕ) → n + length stated ≤ base → take base ys ≡ take base xs → length ys ≡ 256 → IsRoom n stated xs
      → IsRoom n stated ys
  room_stays xs ys base le e size h = (
    size,
    λ k z at.
        let lt : k < length stated = slice_get_within stated k z at in
        let below : n + k < base = omega (arith, lt, le) in
        same_at xs ys base (n + k) e below ∙ h.1 k z at,
  )

  -- no instruction
  pub leads_none : (counts base : ℕ) (Told : List ℤ → List ℤ → Type 0) → ((xs : List ℤ) → IsRoom n stated xs → Told (take n xs) xs)
      → Leads n stated counts base [] Told
  leads_none counts base Told h xs ys room r =
      (ap (take base) r, ap length r ∙ room.0, λ _. subst (λ l. Told (take n xs) l) (sym r) (h xs room))

  -- one more instruction, which puts what it makes at the base
  pub leads_more : (counts base : ℕ) (line : List Instruction) (i : Instruction) (Told : List ℤ → List ℤ → Type 0) (New : List ℤ → ℤ → Type 0)
      → i.to ≡ base → i.counts ≡ counts → counts < base → base ≤ 255
      → Leads n stated counts base line Told
      → ((names ms : List ℤ) (z : ℤ) → Told names ms
      → ((at : Span) → made i.make at (number_at ms i.a) (number_at ms i.b) (number_at ms i.c) ≡ Ok z) → New names z)
      → Leads n stated counts base (line ++ i ∷ []) (λ names ys. New names (number_at ys base))
  leads_more counts base line i Told New to same below few lead make xs ys room runs =
      let r = runs_part line (i ∷ []) xs ys runs in
      let ms = r.0 in
      let l = lead xs ms room r.1 in
      let zs = r.2.0 in
      let z = r.2.1.0 in
      let set_is : ys ≡ slice_set ms base z = r.2.2 ∙ r.2.1.2 ∙ ap (λ k. slice_set ms k z) to in
      let inside : base < length ms = omega (arith, l.1, few) in
      let low : take base ys ≡ take base ms = ap (take base) set_is ∙ take-set-le base ms base z (omega arith) in (
        low ∙ l.0,
        ap length set_is ∙ length-set ms base z ∙ l.1,
        λ w.
            let before = counts_before ms ys base counts low below w in
            subst (New (take n xs)) (sym (ap (λ k. number_at k base) set_is ∙ get_or-set_same ms base z (pos 0) inside))
            (make (take n xs) ms z (l.2 before) (r.2.1.1 (ap (λ k. is_true (number_at ms k)) same ∙ before))),
      )

  -- the instructions of an operand, and then others that leave its place
  pub leads_then : (counts base : ℕ) (t : Term) (front back : List Instruction) (place : ℕ) (Told : List ℤ → List ℤ → Type 0) → n + length stated ≤ base
      → counts < base → Reckons n stated counts base t front place → Leads n stated counts (base + 1) back Told
      → Leads n stated counts base (front ++ back) (λ names ys. (value_of t names ≡ Ok (number_at ys place)) × Told names ys)
  leads_then counts base t front back place Told le below first second xs ys room runs =
      let r = runs_part front back xs ys runs in
      let ms = r.0 in
      let a = first.1 xs ms room r.1 in
      let b = second ms ys (room_stays xs ms base le a.0 a.1 room) r.2 in
      let low : take base ys ≡ take base ms = shorter ms ys base (base + 1) (omega arith) b.0 in
      let names : take n ms ≡ take n xs = shorter xs ms n base (omega (arith, le)) a.0 in
      let kept : number_at ys place ≡ number_at ms place = same_at ms ys (base + 1) place b.0 (omega (arith, first.0)) in
      (low ∙ a.0, b.1, λ w. (a.2 (counts_before ms ys base counts low below w) ∙ ap Ok (sym kept), subst (λ l. Told l ys) names (b.2 w)))

-- where instructions stand that are appended one list after another
pub two_behind : (l0 l1 l2 fs bs : List Instruction) → l1 ≡ l0 ++ fs → l2 ≡ l1 ++ bs → l2 ≡ l0 ++ (fs ++ bs)
two_behind l0 l1 l2 fs bs a b = b ∙ ap (λ l. l ++ bs) a ∙ append_assoc l0 fs bs
