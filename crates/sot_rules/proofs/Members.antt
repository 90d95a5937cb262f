-- What is in a list of faults that is put together of parts.
use Rattle.std.proofs.Common.{◌≡◌, ℕ, zero, suc, ◌⊎◌, inl, inr, List, [], ◌∷◌, ◌++◌, refl, ap, subst, Some, true, false, Bool}
use Rattle.std.specs.Prelude.{flat_map, slice_index_or}
use Rattle.sot_lists.specs.Places.{Has}
use Rattle.sot_text.specs.declared.token.Span.{Span}
use Rattle.sot_rules.specs.declared.fault.TypeFault.{TypeFault}
use Rattle.sot_rules.specs.declared.fault.TypeKind.{TypeKind}
use Rattle.sot_rules.specs.declared.fault.TypeKind.TheVariants.{Unknown, ScaleDiffers, KindDiffers}
use Rattle.sot_rules.specs.Names.{Reading, gives, nothing_at}
use Rattle.sot_rules.specs.Faults.{fault, when, misfits, together, reading_faults}

-- f is in the list
abbrev pub In : TypeFault → List TypeFault → Type 0
In f [] = ⊥
In f (x ∷ xs) = (x ≡ f) ⊎ In f xs

pub has_in : (f : TypeFault) (xs : List TypeFault) → Has xs f → In f xs
has_in f [] (k, e) = cc
has_in f (x ∷ xs) (zero, e) = inl cc
has_in f (x ∷ xs) (suc k, e) = inr (has_in f xs (k, e))

pub in_has : (f : TypeFault) (xs : List TypeFault) → In f xs → Has xs f
in_has f [] h = absurd h
in_has f (x ∷ xs) (inl e) = (0, ap (λ z. Some z) e)
in_has f (x ∷ xs) (inr h) = let r = in_has f xs h in (suc r.0, r.1)

pub before : (f : TypeFault) (xs ys : List TypeFault) → In f xs → In f (xs ++ ys)
before f [] ys h = absurd h
before f (x ∷ xs) ys (inl e) = inl e
before f (x ∷ xs) ys (inr h) = inr (before f xs ys h)

pub after : (f : TypeFault) (xs ys : List TypeFault) → In f ys → In f (xs ++ ys)
after f [] ys h = h
after f (x ∷ xs) ys h = inr (after f xs ys h)

pub split : {P : Type 0} (f : TypeFault) (xs ys : List TypeFault) → In f (xs ++ ys) → (In f xs → P) → (In f ys → P) → P
split f [] ys h left right = right h
split f (x ∷ xs) ys (inl e) left right = left (inl e)
split f (x ∷ xs) ys (inr h) left right = split f xs ys h (λ a. left (inr a)) right

-- one test
pub in_when : (b : Bool) (at : Span) (k : TypeKind) → b ≡ true → In (fault at k) (when b at k)
in_when true at k e = inl refl
in_when false at k e = cc

pub of_when : (P : Span → TypeKind → Type 0) (b : Bool) (w : Span) (kind : TypeKind) → (b ≡ true → P w kind) → (at : Span) (k : TypeKind)
    → In (fault at k) (when b w kind) → P at k
of_when P true w kind make at k (inl e) = subst (λ (z : TypeFault). P z.at z.kind) e (make refl)
of_when P true w kind make at k (inr h) = absurd h
of_when P false w kind make at k h = absurd h

-- the two tests of operands
pub in_kind : (kind scale : Bool) (at : Span) → kind ≡ true → In (fault at KindDiffers) (misfits kind scale at)
in_kind kind scale at e = before (fault at KindDiffers) (when kind at KindDiffers) _ (in_when kind at KindDiffers e)

pub in_scale : (kind scale : Bool) (at : Span) → scale ≡ true → In (fault at ScaleDiffers) (misfits kind scale at)
in_scale kind scale at e = after (fault at ScaleDiffers) (when kind at KindDiffers) _ (in_when scale at ScaleDiffers e)

pub of_misfits : (P : Span → TypeKind → Type 0) (kind scale : Bool) (w : Span) → (kind ≡ true → P w KindDiffers) → (scale ≡ true → P w ScaleDiffers)
    → (at : Span) (k : TypeKind) → In (fault at k) (misfits kind scale w) → P at k
of_misfits P kind scale w one two at k h =
    split (fault at k) (when kind w KindDiffers) (when scale w ScaleDiffers) h
    (of_when P kind w KindDiffers one at k)
    (of_when P scale w ScaleDiffers two at k)

-- a name that is looked up
pub in_reading : (r : Reading) (at : Span) → r ≡ nothing_at at → In (fault at Unknown) (reading_faults r)
in_reading (gives s) at e = cc
in_reading (nothing_at w) at e = inl (let q : w ≡ at = cc in ap (λ z. fault z Unknown) q)

pub of_reading : (P : Span → TypeKind → Type 0) (r : Reading) → ((w : Span) → r ≡ nothing_at w → P w Unknown) → (at : Span) (k : TypeKind)
    → In (fault at k) (reading_faults r) → P at k
of_reading P (gives s) make at k h = absurd h
of_reading P (nothing_at w) make at k (inl e) = subst (λ (z : TypeFault). P z.at z.kind) e (make w refl)
of_reading P (nothing_at w) make at k (inr h) = absurd h

-- several lists, one after another
pub in_together : (f : TypeFault) (lists : List (List TypeFault)) (place : ℕ) → In f (slice_index_or lists place []) → In f (together lists)
in_together f [] place h = absurd h
in_together f (xs ∷ more) zero h = before f xs _ h
in_together f (xs ∷ more) (suc place) h = after f xs _ (in_together f more place h)

-- a way out of each of several lists
abbrev pub FromEach : TypeFault → Type 0 → List (List TypeFault) → Type 0
FromEach f P [] = Unit {0}
FromEach f P (xs ∷ more) = (In f xs → P) × FromEach f P more

pub of_together : (P : Type 0) (f : TypeFault) (lists : List (List TypeFault)) → FromEach f P lists → In f (together lists) → P
of_together P f [] ways h = absurd h
of_together P f (xs ∷ more) ways h = split f xs (together more) h ways.0 (of_together P f more ways.1)

-- a list of each item
pub in_each : {A : Type 0} (f : TypeFault) (g : A → List TypeFault) (xs : List A) (x : A) → Has xs x → In f (g x) → In f (flat_map g xs)
in_each f g [] x (k, e) h = cc
in_each f g (y ∷ ys) x (zero, e) h = before f (g y) _ (let q : x ≡ y = cc in subst (λ z. In f (g z)) q h)
in_each f g (y ∷ ys) x (suc k, e) h = after f (g y) _ (in_each f g ys x (k, e) h)

pub of_each : {A P : Type 0} (f : TypeFault) (g : A → List TypeFault) (xs : List A) → In f (flat_map g xs) → ((x : A) → Has xs x → In f (g x) → P) → P
of_each f g [] h make = absurd h
of_each f g (y ∷ ys) h make =
    split f (g y) (flat_map g ys) h
    (λ a. make y (0, refl) a)
    (λ a. of_each f g ys a (λ x b c. make x (suc b.0, b.1) c))
