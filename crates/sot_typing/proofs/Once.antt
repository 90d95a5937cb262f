-- Names that stand once, and limits that are kept: what is known where no rule fails.
use Rattle.std.proofs.Common.{◌≡◌, ℕ, zero, suc, ◌+◌, ◌<◌, ◌≤◌, ◌⊎◌, inl, inr, List, [], ◌∷◌, map, length, take, sum_by, refl, sym, subst, true, arith}
use Rattle.std.proofs.lemmas.List.{take_all}
use Rattle.std.proofs.lemmas.Slice.Eq.{bytes_eq-Decides}
use Rattle.sot_lists.specs.Places.{At}
use Rattle.sot_text.specs.declared.token.Span.{Span}
use Rattle.sot_syntax_tree.specs.declared.tree.Ident.{Ident}
use Rattle.sot_rules.specs.Lists.{are_same, IsRepeated, IsPast, IsPassedBy}
use Rattle.sot_typing.proofs.Lists.{at_below, at_map, any_at}
use Rattle.sot_typing.proofs.Joined.{order, sum_next}

pub same_name : (a b : Ident) → are_same a b ≡ true → a.name ≡ b.name
same_name a b e = (bytes_eq-Decides a.name b.name).0 e

pub name_same : (a b : Ident) → a.name ≡ b.name → are_same a b ≡ true
name_same a b e = (bytes_eq-Decides a.name b.name).1 e

-- items with one name are one item
abbrev pub AreOnce : {A : Type 0} → (A → Ident) → List A → Type 0
AreOnce {A} name xs = (i j : ℕ) (a b : A) → At xs i a → At xs j b → (name a).name ≡ (name b).name → i ≡ j

at_take : {A : Type 0} (xs : List A) (i j : ℕ) (x : A) → At xs i x → i < j → At (take j xs) i x
at_take [] i j x a l = cc
at_take (y ∷ ys) i zero x a l = absurd (omega arith)
at_take (y ∷ ys) zero (suc j) x a l = a
at_take (y ∷ ys) (suc i) (suc j) x a l = at_take ys i j x a (omega arith)

repeated : (names : List Ident) (i j : ℕ) (a b : Ident) → At names i a → At names j b → i < j → a.name ≡ b.name → IsRepeated names b.at
repeated names i j a b x y l e = record {
  place = j;
  name = b;
  stands = y;
  before = any_at (are_same b) (take j names) i a (at_take names i j a x l) (name_same b a (sym e));
  here = refl;
}

pub names_once : (names : List Ident) → ((at : Span) → IsRepeated names at → ⊥) → AreOnce (λ (i : Ident). i) names
names_once names none i j a b x y e = by (order i j)
  where
    by : (i ≡ j) ⊎ ((i < j) ⊎ (j < i)) → i ≡ j
    by (inl q) = q
    by (inr (inl l)) = absurd (none b.at (repeated names i j a b x y l e))
    by (inr (inr l)) = absurd (none a.at (repeated names j i b a y x l (sym e)))

pub once_map : {A : Type 0} (name : A → Ident) (xs : List A) → ((at : Span) → IsRepeated (map name xs) at → ⊥) → AreOnce name xs
once_map name xs none i j a b x y e = names_once (map name xs) none i j (name a) (name b) (at_map name xs i a x) (at_map name xs j b y) e

-- at most as many as a limit
pub not_past : {A : Type 0} (limit : ℕ) (place : A → Span) (xs : List A) → ((at : Span) → IsPast limit (map place xs) at → ⊥) → length xs ≤ limit
not_past limit place xs none = by (order limit (length xs))
  where
    by : (limit ≡ length xs) ⊎ ((limit < length xs) ⊎ (length xs < limit)) → length xs ≤ limit
    by (inl e) = omega arith
    by (inr (inl l)) = (let r = at_below xs limit l in absurd (none (place r.0) (at_map place xs limit r.0 r.1)))
    by (inr (inr l)) = omega arith

below : (size : Ident → ℕ) (limit : ℕ) (names : List Ident) → ((at : Span) → IsPassedBy size limit names at → ⊥) → (k : ℕ) → k ≤ length names
    → sum_by size (take k names) ≤ limit
below size limit names none zero l = omega arith
below size limit names none (suc k) l = by (at_below names k (omega arith)) (below size limit names none k (omega arith))
  where
    by : (x : Ident) × At names k x → sum_by size (take k names) ≤ limit → sum_by size (take (suc k) names) ≤ limit
    by x h = at_most (order limit (sum_by size (take k names) + size x.0))
      where
        e : sum_by size (take (suc k) names) ≡ sum_by size (take k names) + size x.0
        e = sum_next size names k x.0 x.1

        at_most : (limit ≡ sum_by size (take k names) + size x.0)
            ⊎ ((limit < sum_by size (take k names) + size x.0) ⊎ (sum_by size (take k names) + size x.0 < limit)) → sum_by size (take (suc k) names) ≤ limit
        at_most (inl q) = omega (arith, e)
        at_most (inr (inl q)) = absurd (none x.0.at (record { place = k; name = x.0; stands = x.1; before = h; after = q; here = refl }))
        at_most (inr (inr q)) = omega (arith, e)

pub not_passed : (size : Ident → ℕ) (limit : ℕ) (names : List Ident) → ((at : Span) → IsPassedBy size limit names at → ⊥) → sum_by size names ≤ limit
not_passed size limit names none =
    subst (λ l. sum_by size l ≤ limit) (take_all (length names) names (omega arith)) (below size limit names none (length names) (omega arith))
