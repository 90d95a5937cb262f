-- Places in lists that are put together, and in the statements of a block with loops unrolled.
use Rattle.std.proofs.Common.{◌≡◌, ◌≢◌, ◌∙◌, ℕ, zero, suc, ◌+◌, ◌-◌, ◌*◌, ◌/◌, ◌%◌, ◌<◌, ◌≤◌, List, [], ◌∷◌, ◌++◌, length, get_or, drop, Some, refl, sym, ap}
use Rattle.std.proofs.Common.{subst, arith, add-one, nat_abs, length-append}
use Rattle.std.specs.List.{slice_get}
use Rattle.std.proofs.lemmas.List.{drop_all}
use Rattle.std.specs.Global.{Box, Vec}
use Rattle.std.proofs.Math.Nat.{suc-mul, div-lt_iff_lt-mul}
use Rattle.sot_text.specs.declared.token.Span.{Span}
use Rattle.sot_syntax_tree.specs.declared.tree.Lit.{Lit}
use Rattle.sot_syntax_tree.specs.declared.tree.Branch.{Branch}
use Rattle.sot_syntax_tree.specs.declared.tree.Stmt.{Stmt, If, Repeat}
use Rattle.sot_syntax_tree.specs.TreeViews.{statement_view, block_view}
use Rattle.sot_syntax_tree.proofs.BlockRows.{branch_view, repeat_view}
use Rattle.sot_rules.specs.declared.statements.unrolled.Reached.{Reached}
use Rattle.sot_rules.specs.declared.statements.unrolled.Reached.TheVariants.{At, Left}
use Rattle.sot_rules.specs.Tests.{copies, unrolled, block_unrolled}
use Rattle.sot_rules.specs.Reached.{IsReached}
use Rattle.sot_rules.proofs.Loops.{rest_is}

-- a list and then another
in_first : {X : Type 0} (xs ys : List X) (k : ℕ) (x : X) → slice_get xs k ≡ Some x → slice_get (xs ++ ys) k ≡ Some x
in_first [] ys k x e = cc
in_first (y ∷ xs) ys zero x e = e
in_first (y ∷ xs) ys (suc k) x e = in_first xs ys k x e

within_first : {X : Type 0} (xs ys : List X) (k : ℕ) → k < length xs → slice_get (xs ++ ys) k ≡ slice_get xs k
within_first [] ys k lt = absurd (omega arith)
within_first (x ∷ xs) ys zero lt = refl
within_first (x ∷ xs) ys (suc k) lt = within_first xs ys k (omega arith)

past_first : {X : Type 0} (xs ys : List X) (n k : ℕ) → k ≡ length xs + n → slice_get (xs ++ ys) k ≡ slice_get ys n
past_first [] ys n k e = let q : k ≡ n = omega arith in ap (slice_get ys) q
past_first (x ∷ xs) ys n k e =
    let q : k ≡ suc (length xs + n) = omega arith in
    ap (slice_get (x ∷ (xs ++ ys))) q ∙ past_first xs ys n (length xs + n) refl

reached_then : (k n : ℕ) (xs ys : List Span) (r : Reached) → k ≡ length xs + n → IsReached n ys r → IsReached k (xs ++ ys) r
reached_then k n xs ys (At at) e h = past_first xs ys n k e ∙ h
reached_then k n xs ys (Left m) e h = omega (arith, length-append xs ys)

reached_next : (k m : ℕ) (x : Span) (xs : List Span) (r : Reached) → k ≡ m + 1 → IsReached m xs r → IsReached k (x ∷ xs) r
reached_next k m x xs (At at) e h = ap (slice_get (x ∷ xs)) (e ∙ add-one m) ∙ h
reached_next k m x xs (Left n) e h = omega arith

-- copies of a list
length_copies : (n : ℕ) (xs : List Span) → length (copies n xs) ≡ n * length xs
length_copies zero xs = grind arith
length_copies (suc n) xs =
    length-append xs (copies n xs) ∙ ap (λ m. length xs + m) (length_copies n xs)
    ∙ (let e = suc-mul n (length xs) in omega arith)

copies_at : (n : ℕ) (xs : List Span) (q r k : ℕ) → q < n → r < length xs → k ≡ q * length xs + r → slice_get (copies n xs) k ≡ slice_get xs r
copies_at zero xs q r k lt in_list e = absurd (omega arith)
copies_at (suc n) xs zero r k lt in_list e =
    let q : k ≡ r = omega arith in
    ap (slice_get (xs ++ copies n xs)) q ∙ within_first xs (copies n xs) r in_list
copies_at (suc n) xs (suc q) r k lt in_list e =
    let product = suc-mul q (length xs) in
    past_first xs (copies n xs) (q * length xs + r) k (omega arith)
    ∙ copies_at n xs q r (q * length xs + r) (omega arith) in_list refl

pub copies_in : (n k : ℕ) (xs : List Span) (at : Span) → n ≢ 0 → slice_get xs k ≡ Some at → IsReached k (copies n xs) (At at)
copies_in zero k xs at some e = absurd (some refl)
copies_in (suc n) k xs at some e = in_first xs (copies n xs) k at e

pub copies_none : (n k : ℕ) (xs : List Span) → n ≡ 0 → IsReached k (copies n xs) (Left k)
copies_none zero k xs e = omega arith
copies_none (suc n) k xs e = absurd (omega arith)

copies_past : (n k left : ℕ) (xs : List Span) → k ≡ n * length xs + left → IsReached k (copies n xs) (Left left)
copies_past n k left xs e = e ∙ ap (λ m. m + left) (sym (length_copies n xs))

copies_inside : (n k : ℕ) (xs : List Span) (r : Reached) → k < n * length xs → 0 < length xs → IsReached (k % length xs) xs r → IsReached k (copies n xs) r
copies_inside n k xs (At at) lt some h =
    copies_at n xs (k / length xs) (k % length xs) k ((div-lt_iff_lt-mul some).1 lt) (omega arith) (let e = some in omega arith) ∙ h
copies_inside n k xs (Left m) lt some h = absurd (omega arith)

-- the statements of a block
pub block_then : (ss : List Stmt) (i k n : ℕ) (s : Stmt) (r : Reached) → i < length ss → s ≡ get_or ss i s → k ≡ length (unrolled (statement_view s)) + n
    → IsReached n (block_unrolled (block_view (drop (i + 1) ss))) r → IsReached k (block_unrolled (block_view (drop i ss))) r
block_then ss i k n s r lt e counted h =
    subst (λ xs. IsReached k (block_unrolled (block_view xs)) r) (sym (rest_is ss i s lt e))
    (reached_then k n (unrolled (statement_view s)) (block_unrolled (block_view (drop (i + 1) ss))) r counted h)

pub block_at : (ss : List Stmt) (i k : ℕ) (s : Stmt) (at : Span) → i < length ss → s ≡ get_or ss i s → slice_get (unrolled (statement_view s)) k ≡ Some at
    → IsReached k (block_unrolled (block_view (drop i ss))) (At at)
block_at ss i k s at lt e h =
    subst (λ xs. IsReached k (block_unrolled (block_view xs)) (At at)) (sym (rest_is ss i s lt e))
    (in_first (unrolled (statement_view s)) (block_unrolled (block_view (drop (i + 1) ss))) k at h)

pub block_done : (ss : List Stmt) (i k : ℕ) → length ss ≤ i → IsReached k (block_unrolled (block_view (drop i ss))) (Left k)
block_done ss i k le = subst (λ xs. IsReached k (block_unrolled (block_view xs)) (Left k)) (sym (drop_all i ss le)) (omega arith)

-- an `if`, past its own place
module _ (b : Box Branch) (at : Span) (k : ℕ) where
  branch_by : (r : Reached) → k ≡ (k - 1) + 1 → IsReached (k - 1)
      (block_unrolled (block_view b.value.yes.items) ++ block_unrolled (block_view b.value.no.items)) r → IsReached k (unrolled (statement_view (If b at))) r
  branch_by r some h =
      subst (λ s. IsReached k (unrolled s) r) (sym (branch_view b at))
      (reached_next k (k - 1) at (block_unrolled (block_view b.value.yes.items) ++ block_unrolled (block_view b.value.no.items)) r some h)

  pub branch_at : (found : Span) → k ≡ (k - 1) + 1 → slice_get (block_unrolled (block_view b.value.yes.items)) (k - 1) ≡ Some found
      → IsReached k (unrolled (statement_view (If b at))) (At found)
  branch_at found some h =
      branch_by (At found) some (in_first (block_unrolled (block_view b.value.yes.items)) (block_unrolled (block_view b.value.no.items)) (k - 1) found h)

  pub branch_then : (n : ℕ) (r : Reached) → k ≡ (k - 1) + 1 → k - 1 ≡ length (block_unrolled (block_view b.value.yes.items)) + n
      → IsReached n (block_unrolled (block_view b.value.no.items)) r → IsReached k (unrolled (statement_view (If b at))) r
  branch_then n r some counted h =
      branch_by r some (reached_then (k - 1) n (block_unrolled (block_view b.value.yes.items)) (block_unrolled (block_view b.value.no.items)) r counted h)

-- a loop, past its own place
pub repeat_by : (l : Lit) (v : Vec Stmt) (at : Span) (k count : ℕ) (r : Reached) → k ≡ (k - 1) + 1 → count ≡ nat_abs l.mantissa
    → IsReached (k - 1) (copies count (block_unrolled (block_view v.items))) r → IsReached k (unrolled (statement_view (Repeat l v at))) r
repeat_by l v at k count r some counted h =
    subst (λ s. IsReached k (unrolled s) r) (sym (repeat_view l v at))
    (reached_next k (k - 1) at (copies (nat_abs l.mantissa) (block_unrolled (block_view v.items))) r some
    (subst (λ n. IsReached (k - 1) (copies n (block_unrolled (block_view v.items))) r) counted h))

-- the body that is looked into again, at what is left of the place
pub inside_by : (n k left : ℕ) (xs : List Span) (r : Reached) → k ≡ length xs + left → k < n * (k - left) → 0 < k - left → IsReached (k % (k - left)) xs r
    → IsReached k (copies n xs) r
inside_by n k left xs r e lt some h =
    let len : k - left ≡ length xs = omega arith in
    copies_inside n k xs r (subst (λ m. k < n * m) len lt) (subst (λ m. 0 < m) len some) (subst (λ m. IsReached (k % m) xs r) len h)

pub past_by : (n k left rest : ℕ) (xs : List Span) → k ≡ length xs + left → k ≡ n * (k - left) + rest → IsReached k (copies n xs) (Left rest)
past_by n k left rest xs e past =
    let len : k - left ≡ length xs = omega arith in
    copies_past n k rest xs (subst (λ m. k ≡ n * m + rest) len past)
