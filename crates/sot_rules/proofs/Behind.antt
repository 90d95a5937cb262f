-- Faults behind a place where a fault is known: they change nothing.
use Rattle.std.proofs.Common.{◌≡◌, ◌∙◌, ℕ, zero, suc, ◌+◌, ◌<◌, ◌≤◌, ◌⊎◌, inl, inr, nat_lt, nat_le, Bool, true, false, ◌&&◌, if◌then◌else◌, List, [], ◌∷◌, ◌++◌}
use Rattle.std.proofs.Common.{Option, Some, None, refl, sym, ap, ap₂, subst, arith}
use Rattle.std.specs.List.{flat_map, list_any, list_all, slice_get}
use Rattle.std.specs.Str.{bytes_eq}
use Rattle.std.proofs.lemmas.List.Elements.{filter-append}
use Rattle.sot_text.specs.declared.token.Span.{Span}
use Rattle.sot_text.specs.Place.{rank}
use Rattle.sot_syntax_tree.specs.declared.tree.Ident.{Ident}
use Rattle.sot_rules.specs.declared.fault.TypeFault.{TypeFault}
use Rattle.sot_rules.specs.declared.fault.TypeKind.{TypeKind}
use Rattle.sot_rules.specs.declared.fault.TypeKind.TheVariants.{Twice, TooMany}
use Rattle.sot_rules.specs.Faults.{fault, when, is_before, lesser, least, repeats, one_past, passes}
use Rattle.sot_rules.specs.Behind.{up_to, AreBehind, is_behind, names_behind}

-- both parts of a conjunction
pub and_left : (a b : Bool) → (a && b) ≡ true → a ≡ true
and_left true b e = refl
and_left false b e = cc

pub and_right : (a b : Bool) → (a && b) ≡ true → b ≡ true
and_right true b e = e
and_right false b e = cc

-- no fault that is known so far stands at the place or before it
abbrev IsHigh : Span → Option TypeFault → Type 0
IsHigh from None = Unit {0}
IsHigh from (Some f) = rank from < rank f.at

-- the same so far, or nothing that counts
abbrev AreRelated : Span → Option TypeFault → Option TypeFault → Type 0
AreRelated from a b = (a ≡ b) ⊎ (IsHigh from a × IsHigh from b)

before_true : (f g : TypeFault) → rank g.at < rank f.at → is_before g f ≡ true
before_true f g lt = let e : nat_lt (rank g.at) (rank f.at) ≡ true = grind arith in cc

before_false : (f g : TypeFault) → rank f.at < rank g.at → is_before g f ≡ false
before_false f g lt = grind arith

lesser_high : (from : Span) (o : Option TypeFault) (g : TypeFault) → IsHigh from o → rank from < rank g.at → IsHigh from (lesser o g)
lesser_high from None g h lt = lt
lesser_high from (Some f) g h lt = by (is_before g f)
  where
    by : (b : Bool) → IsHigh from (if b then Some g else Some f)
    by true = lt
    by false = h

lesser_low : (from : Span) (o : Option TypeFault) (g : TypeFault) → IsHigh from o → rank g.at ≤ rank from → lesser o g ≡ Some g
lesser_low from None g h le = refl
lesser_low from (Some f) g h le = ap (λ b. if b then Some g else Some f) (before_true f g (omega arith))

lesser_stays : (f g : TypeFault) → rank f.at < rank g.at → lesser (Some f) g ≡ Some f
lesser_stays f g lt = ap (λ b. if b then Some g else Some f) (before_false f g lt)

le_or_gt : (a b : ℕ) → (a ≤ b) ⊎ (b < a)
le_or_gt a b = grind arith

-- a fault behind the place
skip_related : (from : Span) (a b : Option TypeFault) (g : TypeFault) → rank from < rank g.at → AreRelated from a b → AreRelated from (lesser a g) b
skip_related from None b g lt (inl e) = inr (lt, subst (IsHigh from) e tt)
skip_related from (Some f) b g lt (inl e) = elim (le_or_gt (rank f.at) (rank from)) [
  | inl le ↦ inl (lesser_stays f g (omega arith) ∙ e)
  | inr gt ↦ inr (lesser_high from (Some f) g gt lt, subst (IsHigh from) e gt)
]
skip_related from a b g lt (inr h) = inr (lesser_high from a g h.0 lt, h.1)

-- a fault that counts
keep_related : (from : Span) (a b : Option TypeFault) (g : TypeFault) → rank g.at ≤ rank from → AreRelated from a b → AreRelated from (lesser a g) (lesser b g)
keep_related from a b g le (inl e) = inl (ap (λ o. lesser o g) e)
keep_related from a b g le (inr h) = inl (lesser_low from a g h.0 le ∙ sym (lesser_low from b g h.1 le))

related : (from : Span) (a b : Option TypeFault) (xs : List TypeFault) → AreRelated from a b → AreRelated from (least a xs) (least b (up_to from xs))
related from a b [] r = r
related from a b (x ∷ xs) r = elim (le_or_gt (rank x.at) (rank from)) [
  | inl le ↦ subst (λ z. AreRelated from (least (lesser a x) xs) (least b (if z then x ∷ up_to from xs else up_to from xs))) (yes (rank x.at) le)
      (related from (lesser a x) (lesser b x) xs (keep_related from a b x le r))
  | inr gt ↦ subst (λ z. AreRelated from (least (lesser a x) xs) (least b (if z then x ∷ up_to from xs else up_to from xs))) (no (rank x.at) gt)
      (related from (lesser a x) b xs (skip_related from a b x gt r))
]
  where
    yes : (k : ℕ) → k ≤ rank from → true ≡ nat_le k (rank from)
    yes k le = grind arith

    no : (k : ℕ) → rank from < k → false ≡ nat_le k (rank from)
    no k gt = grind arith

same_low : (f : TypeFault) (a b : Option TypeFault) → AreRelated f.at a b → a ≡ Some f → b ≡ Some f
same_low f a b (inl e) q = sym e ∙ q
same_low f a b (inr h) q = let bad : rank f.at < rank f.at = subst (IsHigh f.at) q h.0 in absurd (irrefl (rank f.at) bad)
  where
    irrefl : (k : ℕ) → k < k → ⊥
    irrefl k lt = omega arith

swap : (from : Span) (a b : Option TypeFault) → AreRelated from a b → AreRelated from b a
swap from a b (inl e) = inl (sym e)
swap from a b (inr h) = inr (h.1, h.0)

-- two lists with the same faults up to their first one have the same first one
pub settled : (o : Option TypeFault) (xs ys : List TypeFault) (f : TypeFault) → up_to f.at xs ≡ up_to f.at ys → least o ys ≡ Some f → least o xs ≡ Some f
settled o xs ys f e q =
    let low : least o (up_to f.at ys) ≡ Some f = same_low f _ _ (related f.at o o ys (inl refl)) q in
    same_low f _ _ (swap f.at _ _ (related f.at o o xs (inl refl))) (ap (least o) e ∙ low)

-- where the faults of a list stand behind the first fault, that stays
pub stays_before : (f : TypeFault) (xs : List TypeFault) → AreBehind f.at xs → least (Some f) xs ≡ Some f
stays_before f xs e = settled (Some f) xs [] f e refl

-- lists of faults behind a place
pub both_behind : (from : Span) (xs ys : List TypeFault) → AreBehind from xs → AreBehind from ys → AreBehind from (xs ++ ys)
both_behind from xs ys a b = filter-append (λ f. nat_le (rank f.at) (rank from)) xs ys ∙ ap₂ (λ u v. u ++ v) a b

pub when_behind : (from : Span) (fails : Bool) (at : Span) (k : TypeKind) → is_behind from at ≡ true → AreBehind from (when fails at k)
when_behind from false at k h = refl
when_behind from true at k h = ap (λ b. if b then fault at k ∷ [] else []) (no (rank at) h)
  where
    no : (n : ℕ) → nat_lt (rank from) n ≡ true → nat_le n (rank from) ≡ false
    no n h = grind arith

module _ {X : Type 0} (from : Span) (test : X → Bool) (one : X → List TypeFault) (h : (x : X) → test x ≡ true → AreBehind from (one x)) where
  pub each_behind : (xs : List X) → list_all test xs ≡ true → AreBehind from (flat_map one xs)
  each_behind [] e = refl
  each_behind (x ∷ xs) e =
      both_behind from (one x) (flat_map one xs) (h x (and_left (test x) (list_all test xs) e)) (each_behind xs (and_right (test x) (list_all test xs) e))

pub repeats_behind : (from : Span) (seen : List (List ℕ)) (is : List Ident) → names_behind from is ≡ true → AreBehind from (repeats seen is)
repeats_behind from seen [] e = refl
repeats_behind from seen (i ∷ is) e =
    both_behind from (when (list_any (bytes_eq i.name) seen) i.at Twice) _
    (when_behind from (list_any (bytes_eq i.name) seen) i.at Twice (and_left (is_behind from i.at) (names_behind from is) e))
    (repeats_behind from (if list_any (bytes_eq i.name) seen then seen else seen ++ i.name ∷ []) is (and_right (is_behind from i.at) (names_behind from is) e))

pub passes_behind : (from : Span) (size : Ident → ℕ) (limit sum : ℕ) (is : List Ident) → names_behind from is ≡ true → AreBehind from (passes size limit sum is)
passes_behind from size limit sum [] e = refl
passes_behind from size limit sum (i ∷ is) e =
    both_behind from (when (nat_le sum limit && nat_lt limit (sum + size i)) i.at TooMany) _
    (when_behind from (nat_le sum limit && nat_lt limit (sum + size i)) i.at TooMany (and_left (is_behind from i.at) (names_behind from is) e))
    (passes_behind from size limit (sum + size i) is (and_right (is_behind from i.at) (names_behind from is) e))

pub past_behind : (from : Span) (ats : List Span) (limit : ℕ) → list_all (is_behind from) ats ≡ true → AreBehind from (one_past (slice_get ats limit))
past_behind from [] limit e = refl
past_behind from (at ∷ ats) zero e = when_behind from true at TooMany (and_left (is_behind from at) (list_all (is_behind from) ats) e)
past_behind from (at ∷ ats) (suc k) e = past_behind from ats k (and_right (is_behind from at) (list_all (is_behind from) ats) e)

-- a list that goes on behind the place
module _ (from : Span) (rest : List Ident) (e : names_behind from rest ≡ true) where
  same_start : (xs ys zs : List TypeFault) → up_to from ys ≡ up_to from zs → up_to from (xs ++ ys) ≡ up_to from (xs ++ zs)
  same_start xs ys zs q =
      filter-append (λ f. nat_le (rank f.at) (rank from)) xs ys ∙ ap (λ z. up_to from xs ++ z) q
      ∙ sym (filter-append (λ f. nat_le (rank f.at) (rank from)) xs zs)

  pub each_front : (one : Ident → List TypeFault) → ((i : Ident) → is_behind from i.at ≡ true → AreBehind from (one i)) → (front : List Ident)
      → up_to from (flat_map one (front ++ rest)) ≡ up_to from (flat_map one front)
  each_front one h [] = each_behind from (λ i. is_behind from i.at) one h rest e
  each_front one h (i ∷ front) = same_start (one i) (flat_map one (front ++ rest)) (flat_map one front) (each_front one h front)

  pub repeats_front : (seen : List (List ℕ)) (front : List Ident) → up_to from (repeats seen (front ++ rest)) ≡ up_to from (repeats seen front)
  repeats_front seen [] = repeats_behind from seen rest e
  repeats_front seen (i ∷ front) =
      same_start (when (list_any (bytes_eq i.name) seen) i.at Twice) _ _
      (repeats_front (if list_any (bytes_eq i.name) seen then seen else seen ++ i.name ∷ []) front)

  pub passes_front : (size : Ident → ℕ) (limit sum : ℕ) (front : List Ident)
      → up_to from (passes size limit sum (front ++ rest)) ≡ up_to from (passes size limit sum front)
  passes_front size limit sum [] = passes_behind from size limit sum rest e
  passes_front size limit sum (i ∷ front) =
      same_start (when (nat_le sum limit && nat_lt limit (sum + size i)) i.at TooMany) _ _
      (passes_front size limit (sum + size i) front)
