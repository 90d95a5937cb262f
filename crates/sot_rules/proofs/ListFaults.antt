-- Names that stand twice, limits that are passed, and clauses out of order, as lists of faults.
use Rattle.std.proofs.Common.{◌≡◌, ℕ, zero, suc, ◌+◌, ◌<◌, ◌≤◌, nat_lt, nat_le, inl, inr, List, [], ◌∷◌, ◌++◌, take, sum_by, refl, sym, ap, subst, ◌∙◌, Option}
use Rattle.std.proofs.Common.{Some, None, true, false, Bool, not, ◌&&◌, ◌||◌, if◌then◌else◌, append_assoc, append-nil, arith}
use Rattle.std.specs.List.{list_any}
use Rattle.std.specs.Str.{bytes_eq}
use Rattle.std.specs.Prelude.{slice_get}
use Rattle.std.proofs.lemmas.List.Folds.{list_any-append}
use Rattle.std.proofs.lemmas.List.Sums.{sum_by-cons}
use Rattle.std.proofs.lemmas.Map.Steps.{list_any_congr}
use Rattle.std.proofs.lemmas.Cmp.{nat_list_eq_equiv}
use Rattle.std.proofs.lemmas.Bool.{not_from_false, not-true}
use Rattle.sot_lists.specs.Places.{At}
use Rattle.sot_text.specs.declared.token.Span.{Span}
use Rattle.sot_syntax_tree.specs.declared.tree.Ident.{Ident}
use Rattle.sot_syntax_tree.specs.declared.tree.StateDecl.{StateDecl}
use Rattle.sot_syntax_tree.specs.Trees.{Next}
use Rattle.sot_rules.specs.declared.fault.TypeFault.{TypeFault}
use Rattle.sot_rules.specs.declared.fault.TypeKind.{TypeKind}
use Rattle.sot_rules.specs.declared.fault.TypeKind.TheVariants.{Twice, TooMany, NextMissing}
use Rattle.sot_rules.specs.Lists.{are_same, is_among, IsRepeated, IsPast, IsPassedBy}
use Rattle.sot_rules.specs.Tests.{is_state}
use Rattle.sot_rules.specs.Faults.{fault, when, repeats, one_past, past, passes, order_faults}
use Rattle.sot_names.specs.SeenNames.{with_name}
use Rattle.sot_rules.proofs.Members.{In, before, after, split, in_when, of_when}

-- the names that were seen are those that stood before
abbrev pub Saw : List (List ℕ) → List Ident → Type 0
Saw seen names = (i : Ident) → list_any (bytes_eq i.name) seen ≡ is_among i names

-- a name that is equal to one that was seen is no new one
saw_same : (seen : List (List ℕ)) (i j : Ident) (b : Bool) → list_any (bytes_eq i.name) seen ≡ true → bytes_eq j.name i.name ≡ b
    → list_any (bytes_eq j.name) seen ≡ (list_any (bytes_eq j.name) seen || (b || false))
saw_same seen i j true h e =
    let q : list_any (bytes_eq j.name) seen ≡ true = list_any_congr nat_list_eq_equiv j.name i.name seen e ∙ h in
    q ∙ sym (ap (λ z. z || true) q)
saw_same seen i j false h e = or_false (list_any (bytes_eq j.name) seen)
  where
    or_false : (b : Bool) → b ≡ (b || false)
    or_false true = refl
    or_false false = refl

saw_by : (seen : List (List ℕ)) (names : List Ident) (i j : Ident) (b : Bool) → Saw seen names → list_any (bytes_eq i.name) seen ≡ b
    → list_any (bytes_eq j.name) (if b then seen else seen ++ i.name ∷ []) ≡ is_among j (names ++ i ∷ [])
saw_by seen names i j true saw e =
    saw_same seen i j (bytes_eq j.name i.name) e refl
    ∙ ap (λ z. z || (bytes_eq j.name i.name || false)) (saw j)
    ∙ sym (list_any-append (are_same j) names (i ∷ []))
saw_by seen names i j false saw e =
    list_any-append (bytes_eq j.name) seen (i.name ∷ [])
    ∙ ap (λ z. z || (bytes_eq j.name i.name || false)) (saw j)
    ∙ sym (list_any-append (are_same j) names (i ∷ []))

pub saw_more : (seen : List (List ℕ)) (names : List Ident) (i : Ident) → Saw seen names → Saw (with_name seen i) (names ++ i ∷ [])
saw_more seen names i saw j = saw_by seen names i j (list_any (bytes_eq i.name) seen) saw refl

step : (name i : Ident) (names more : List Ident) → is_among name (names ++ i ∷ more) ≡ true → is_among name ((names ++ i ∷ []) ++ more) ≡ true
step name i names more h = ap (is_among name) (append_assoc names (i ∷ []) more) ∙ h

step_back : (name i : Ident) (names more : List Ident) → is_among name ((names ++ i ∷ []) ++ more) ≡ true → is_among name (names ++ i ∷ more) ≡ true
step_back name i names more h = ap (is_among name) (sym (append_assoc names (i ∷ []) more)) ∙ h

repeat_in : (seen : List (List ℕ)) (names items : List Ident) → Saw seen names → (place : ℕ) (name : Ident) → At items place name
    → is_among name (names ++ take place items) ≡ true → In (fault name.at Twice) (repeats seen items)
repeat_in seen names [] saw place name s h = cc
repeat_in seen names (i ∷ more) saw zero name s h =
    let q : i ≡ name = cc in
    let m : list_any (bytes_eq i.name) seen ≡ true = saw i ∙ ap (is_among i) (sym (append-nil names))
    ∙ subst (λ z. is_among z (names ++ []) ≡ true) (sym q) h in
    before _ (when (list_any (bytes_eq i.name) seen) i.at Twice) _
    (subst (λ (z : Ident). In (fault z.at Twice) (when (list_any (bytes_eq i.name) seen) i.at Twice)) q
    (in_when (list_any (bytes_eq i.name) seen) i.at Twice m))
repeat_in seen names (i ∷ more) saw (suc place) name s h =
    after _ (when (list_any (bytes_eq i.name) seen) i.at Twice) _
    (repeat_in (with_name seen i) (names ++ i ∷ []) more (saw_more seen names i saw) place name s (step name i names (take place more) h))

of_repeat : (P : Span → TypeKind → Type 0) (seen : List (List ℕ)) (names items : List Ident) → Saw seen names
    → ((place : ℕ) (name : Ident) → At items place name → is_among name (names ++ take place items) ≡ true → P name.at Twice) → (at : Span) (k : TypeKind)
    → In (fault at k) (repeats seen items) → P at k
of_repeat P seen names [] saw make at k h = absurd h
of_repeat P seen names (i ∷ more) saw make at k h =
    split (fault at k) (when (list_any (bytes_eq i.name) seen) i.at Twice) _ h
    (of_when P (list_any (bytes_eq i.name) seen) i.at Twice (λ e. make 0 i refl (ap (is_among i) (append-nil names) ∙ sym (saw i) ∙ e)) at k)
    (of_repeat P (with_name seen i) (names ++ i ∷ []) more (saw_more seen names i saw)
    (λ place name s b. make (suc place) name s (step_back name i names (take place more) b)) at k)

-- a name that stands twice
pub repeats_in : (names : List Ident) (at : Span) → IsRepeated names at → In (fault at Twice) (repeats [] names)
repeats_in names at r = subst (λ z. In (fault z Twice) (repeats [] names)) r.here (repeat_in [] [] names (λ i. refl) r.place r.name r.stands r.before)

pub of_repeats : (P : Span → TypeKind → Type 0) (names : List Ident) → ((at : Span) → IsRepeated names at → P at Twice) → (at : Span) (k : TypeKind)
    → In (fault at k) (repeats [] names) → P at k
of_repeats P names make at k h =
    of_repeat P [] [] names (λ i. refl)
    (λ place name s b. make name.at (record { place = place; name = name; stands = s; before = b; here = refl }))
    at k h

-- the item past a limit
pub past_in : (limit : ℕ) (items : List Span) (at : Span) → IsPast limit items at → In (fault at TooMany) (past limit items)
past_in limit items at h = subst (λ o. In (fault at TooMany) (one_past o)) (sym h) (inl refl)

one_of : (P : Span → TypeKind → Type 0) (o : Option Span) → ((w : Span) → o ≡ Some w → P w TooMany) → (at : Span) (k : TypeKind) → In (fault at k) (one_past o)
    → P at k
one_of P None make at k h = absurd h
one_of P (Some w) make at k (inl e) = subst (λ (z : TypeFault). P z.at z.kind) e (make w refl)
one_of P (Some w) make at k (inr h) = absurd h

pub of_past : (P : Span → TypeKind → Type 0) (limit : ℕ) (items : List Span) → ((at : Span) → IsPast limit items at → P at TooMany) → (at : Span) (k : TypeKind)
    → In (fault at k) (past limit items) → P at k
of_past P limit items make at k h = one_of P (slice_get items limit) make at k h

-- the name with which a sum passes a limit
both : (a b c : ℕ) → a ≤ b → b < c → (nat_le a b && nat_lt b c) ≡ true
both a b c p q = grind arith

one_side : (a b c : ℕ) → (nat_le a b && nat_lt b c) ≡ true → a ≤ b
one_side a b c h = grind arith

other_side : (a b c : ℕ) → (nat_le a b && nat_lt b c) ≡ true → b < c
other_side a b c h = grind arith

pass_in : (size : Ident → ℕ) (limit sum : ℕ) (items : List Ident) (place : ℕ) (name : Ident) → At items place name
    → sum + sum_by size (take place items) ≤ limit → limit < (sum + sum_by size (take place items)) + size name
    → In (fault name.at TooMany) (passes size limit sum items)
pass_in size limit sum [] place name s a b = cc
pass_in size limit sum (i ∷ more) zero name s a b =
    let q : i ≡ name = cc in
    before _ (when (nat_le sum limit && nat_lt limit (sum + size i)) i.at TooMany) _
    (subst (λ (z : Ident). In (fault z.at TooMany) (when (nat_le sum limit && nat_lt limit (sum + size i)) i.at TooMany)) q
    (in_when (nat_le sum limit && nat_lt limit (sum + size i)) i.at TooMany
    (both sum limit (sum + size i) (omega arith) (let e : size i ≡ size name = ap size q in omega arith))))
pass_in size limit sum (i ∷ more) (suc place) name s a b =
    let e = sum_by-cons size i (take place more) in
    after _ (when (nat_le sum limit && nat_lt limit (sum + size i)) i.at TooMany) _
    (pass_in size limit (sum + size i) more place name s (omega arith) (omega arith))

of_pass : (P : Span → TypeKind → Type 0) (size : Ident → ℕ) (limit sum : ℕ) (items : List Ident)
    → ((place : ℕ) (name : Ident) → At items place name → sum + sum_by size (take place items) ≤ limit
    → limit < (sum + sum_by size (take place items)) + size name → P name.at TooMany) → (at : Span) (k : TypeKind)
    → In (fault at k) (passes size limit sum items) → P at k
of_pass P size limit sum [] make at k h = absurd h
of_pass P size limit sum (i ∷ more) make at k h =
    split (fault at k) (when (nat_le sum limit && nat_lt limit (sum + size i)) i.at TooMany) _ h
    (of_when P (nat_le sum limit && nat_lt limit (sum + size i)) i.at TooMany
    (λ e. make 0 i refl (let r = one_side sum limit (sum + size i) e in omega arith) (let r = other_side sum limit (sum + size i) e in omega arith)) at k)
    (of_pass P size limit (sum + size i) more
    (λ place name s a b. let e = sum_by-cons size i (take place more) in make (suc place) name s (omega arith) (omega arith)) at k)

pub passes_in : (size : Ident → ℕ) (limit : ℕ) (names : List Ident) (at : Span) → IsPassedBy size limit names at
    → In (fault at TooMany) (passes size limit 0 names)
passes_in size limit names at r =
    let a = r.before in
    let b = r.after in
    subst (λ z. In (fault z TooMany) (passes size limit 0 names)) r.here (pass_in size limit 0 names r.place r.name r.stands (omega arith) (omega arith))

pub of_passes : (P : Span → TypeKind → Type 0) (size : Ident → ℕ) (limit : ℕ) (names : List Ident)
    → ((at : Span) → IsPassedBy size limit names at → P at TooMany) → (at : Span) (k : TypeKind) → In (fault at k) (passes size limit 0 names) → P at k
of_passes P size limit names make at k h =
    of_pass P size limit 0 names
    (λ place name s a b. make name.at (record { place = place; name = name; stands = s; before = omega arith; after = omega arith; here = refl }))
    at k h

-- a clause that does not give the state variable at its place
pub order_in : (states : List StateDecl) (items : List Next) (place : ℕ) (n : Next) → At items place n → is_state n.name (slice_get states place) ≡ false
    → In (fault n.name.at NextMissing) (order_faults states items)
order_in states [] place n s h = cc
order_in [] (m ∷ more) zero n s h = inl (let q : m ≡ n = cc in ap (λ (z : Next). fault z.name.at NextMissing) q)
order_in [] (m ∷ more) (suc place) n s h = inr (order_in [] more place n s h)
order_in (t ∷ states) (m ∷ more) zero n s h =
    let q : m ≡ n = cc in
    before _ (when (not (are_same m.name t.name)) m.name.at NextMissing) _
    (subst (λ (z : Next). In (fault z.name.at NextMissing) (when (not (are_same m.name t.name)) m.name.at NextMissing)) q
    (in_when (not (are_same m.name t.name)) m.name.at NextMissing
    (not_from_false (are_same m.name t.name) (subst (λ (z : Next). are_same z.name t.name ≡ false) (sym q) h))))
order_in (t ∷ states) (m ∷ more) (suc place) n s h = after _ (when (not (are_same m.name t.name)) m.name.at NextMissing) _ (order_in states more place n s h)

pub of_order : (P : Span → TypeKind → Type 0) (states : List StateDecl) (items : List Next)
    → ((place : ℕ) (n : Next) → At items place n → is_state n.name (slice_get states place) ≡ false → P n.name.at NextMissing) → (at : Span) (k : TypeKind)
    → In (fault at k) (order_faults states items) → P at k
of_order P states [] make at k h = absurd h
of_order P [] (m ∷ more) make at k (inl e) = subst (λ (z : TypeFault). P z.at z.kind) e (make 0 m refl refl)
of_order P [] (m ∷ more) make at k (inr h) = of_order P [] more (λ place n s b. make (suc place) n s refl) at k h
of_order P (t ∷ states) (m ∷ more) make at k h =
    split (fault at k) (when (not (are_same m.name t.name)) m.name.at NextMissing) _ h
    (of_when P (not (are_same m.name t.name)) m.name.at NextMissing (λ e. make 0 m refl (not-true (are_same m.name t.name) e)) at k)
    (of_order P states more (λ place n s b. make (suc place) n s b) at k)
