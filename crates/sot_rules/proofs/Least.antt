-- What the least of a list is.
use Rattle.std.proofs.Common.{◌≡◌, ℕ, ◌<◌, ◌≤◌, ◌⊎◌, inl, inr, List, [], ◌∷◌, ◌++◌, Option, Some, refl, ap, sym, ◌∙◌, subst, arith, true, false, Bool, ◌||◌}
use Rattle.std.proofs.Common.{◌&&◌, ◌==◌, nat_lt, if◌then◌else◌, fold}
use Rattle.std.proofs.lemmas.List.Sums.{fold-append}
use Rattle.sot_text.specs.declared.token.Span.{Span}
use Rattle.sot_text.specs.Place.{rank}
use Rattle.sot_rules.specs.declared.fault.TypeFault.{TypeFault}
use Rattle.sot_rules.specs.declared.fault.TypeKind.{TypeKind}
use Rattle.sot_rules.specs.First.{number_of, IsNotAfter}
use Rattle.sot_rules.specs.Faults.{fault, when, is_before, lesser, least}
use Rattle.sot_rules.proofs.Members.{In}

-- the least of two lists, one after the other
pub least_append : (first : Option TypeFault) (xs ys : List TypeFault) → least first (xs ++ ys) ≡ least (least first xs) ys
least_append first xs ys = fold-append lesser first xs ys

not_after_refl : (f : TypeFault) → IsNotAfter f f
not_after_refl f = inr (refl, omega arith)

not_after_trans : (f g h : TypeFault) → IsNotAfter f g → IsNotAfter g h → IsNotAfter f h
not_after_trans f g h (inl a) (inl b) = inl (omega arith)
not_after_trans f g h (inl a) (inr b) = inl (let e = b.0 in omega arith)
not_after_trans f g h (inr a) (inl b) = inl (let e = a.0 in omega arith)
not_after_trans f g h (inr a) (inr b) = inr (a.0 ∙ b.0, (let x = a.1 in let y = b.1 in omega arith))

-- the order is total, and the test decides it
or_true : (p q r : Bool) → (p || (q && r)) ≡ true → (p ≡ true) ⊎ ((q ≡ true) × (r ≡ true))
or_true true q r e = inl refl
or_true false true true e = inr (refl, refl)
or_true false true false e = cc
or_true false false r e = cc

or_false : (p q r : Bool) → (p || (q && r)) ≡ false → (p ≡ false) × ((q ≡ false) ⊎ (r ≡ false))
or_false true q r e = cc
or_false false true true e = cc
or_false false true false e = (refl, inr refl)
or_false false false r e = (refl, inl refl)

some_is : {f g : TypeFault} → Some f ≡ Some g → f ≡ g
some_is e = cc

before_by : (a b c d : ℕ) → (nat_lt a b ≡ true) ⊎ (((a == b) ≡ true) × (nat_lt c d ≡ true)) → (a < b) ⊎ ((a ≡ b) × (c ≤ d))
before_by a b c d (inl h) = inl (grind arith)
before_by a b c d (inr h) = let x = h.0 in let y = h.1 in inr (grind arith, grind arith)

le_cases : (a b : ℕ) → b ≤ a → (b < a) ⊎ (b ≡ a)
le_cases a b h = grind arith

not_before_by : (a b c d : ℕ) → nat_lt a b ≡ false → (((a == b) ≡ false) ⊎ (nat_lt c d ≡ false)) → (b < a) ⊎ ((b ≡ a) × (d ≤ c))
not_before_by a b c d p (inl q) = inl (grind arith)
not_before_by a b c d p (inr q) = elim (le_cases a b (grind arith)) [ inl h ↦ inl h | inr h ↦ inr (h, grind arith) ]

before_is : (f g : TypeFault) → is_before f g ≡ true → IsNotAfter f g
before_is f g e = before_by (rank f.at) (rank g.at) (number_of f.kind) (number_of g.kind) (or_true _ _ _ e)

not_before_is : (f g : TypeFault) → is_before f g ≡ false → IsNotAfter g f
not_before_is f g e = let h = or_false _ _ _ e in not_before_by (rank f.at) (rank g.at) (number_of f.kind) (number_of g.kind) h.0 h.1

-- the lesser of two is one of them, and not after either
abbrev IsLesser : TypeFault → TypeFault → TypeFault → Type 0
IsLesser f g h = ((h ≡ f) ⊎ (h ≡ g)) × IsNotAfter h f × IsNotAfter h g

lesser_by : (f g h : TypeFault) (b : Bool) → is_before g f ≡ b → (if b then Some g else Some f) ≡ Some h → IsLesser f g h
lesser_by f g h true e i =
    let q : g ≡ h = some_is i in (inr (sym q), subst (λ z. IsNotAfter z f) q (before_is g f e), subst (λ z. IsNotAfter z g) q (not_after_refl g))
lesser_by f g h false e i =
    let q : f ≡ h = some_is i in (inl (sym q), subst (λ z. IsNotAfter z f) q (not_after_refl f), subst (λ z. IsNotAfter z g) q (not_before_is g f e))

lesser_is : (f g h : TypeFault) → lesser (Some f) g ≡ Some h → IsLesser f g h
lesser_is f g h e = lesser_by f g h (is_before g f) refl e

lesser_some_by : (f g : TypeFault) (b : Bool) → (h : TypeFault) × ((if b then Some g else Some f) ≡ Some h)
lesser_some_by f g true = (g, refl)
lesser_some_by f g false = (f, refl)

lesser_some : (f g : TypeFault) → (h : TypeFault) × (lesser (Some f) g ≡ Some h)
lesser_some f g = lesser_some_by f g (is_before g f)

-- h is f or of the list, and not after any of these
abbrev pub IsLeast : TypeFault → List TypeFault → TypeFault → Type 0
IsLeast f xs h = ((h ≡ f) ⊎ In h xs) × IsNotAfter h f × ((g : TypeFault) → In g xs → IsNotAfter h g)

least_step : (f x m h : TypeFault) (xs : List TypeFault) → IsLesser f x m → IsLeast m xs h → IsLeast f (x ∷ xs) h
least_step f x m h xs a b = (
  elim b.0 [ inl p ↦ elim a.0 [ inl q ↦ inl (p ∙ q) | inr q ↦ inr (inl (sym (p ∙ q))) ] | inr i ↦ inr (inr i) ],
  not_after_trans h m f b.1 a.1,
  λ g i. elim i [ inl e ↦ subst (λ z. IsNotAfter h z) e (not_after_trans h m x b.1 a.2) | inr j ↦ b.2 g j ],
)

pub least_is : (f : TypeFault) (xs : List TypeFault) (h : TypeFault) → least (Some f) xs ≡ Some h → IsLeast f xs h
least_is f [] h e = let q : f ≡ h = some_is e in (inl (sym q), subst (λ z. IsNotAfter z f) q (not_after_refl f), λ g i. absurd i)
least_is f (x ∷ xs) h e =
    let s = lesser_some f x in least_step f x s.0 h xs (lesser_is f x s.0 s.1) (least_is s.0 xs h (subst (λ z. fold lesser z xs ≡ Some h) s.1 e))

-- a list with a fault has a least one
pub least_some : (f : TypeFault) (xs : List TypeFault) → (h : TypeFault) × (least (Some f) xs ≡ Some h)
least_some f [] = (f, refl)
least_some f (x ∷ xs) = let s = lesser_some f x in let r = least_some s.0 xs in (r.0, subst (λ z. fold lesser z xs ≡ Some r.0) (sym s.1) r.1)

-- the first fault stays where another one is not before it
pub stays : (f : TypeFault) (at : Span) (k : TypeKind) (fails : Bool) → is_before (fault at k) f ≡ false → least (Some f) (when fails at k) ≡ Some f
stays f at k false e = refl
stays f at k true e = ap (λ b. if b then Some (fault at k) else Some f) e
