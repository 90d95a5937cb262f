-- What is kept of numbers is the numbers, or one of them has more than 64 bits.
use Rattle.std.proofs.Common.{◌≡◌, ◌⊎◌, ℕ, zero, suc, ◌-◌, ◌<◌, ◌≤◌, ◌^◌, Bool, true, false, nat_lt, cond, List, [], ◌∷◌, ◌++◌, Option, Some, None, map, length}
use Rattle.std.proofs.Common.{inl, inr, refl, sym, ap, ap₂, subst, ◌∙◌, arith, append_assoc, length-append}
use Rattle.std.specs.Prelude.{ℤ, pos, negsuc, replicate, slice_set}
use Rattle.std.specs.Option.{option_map}
use Rattle.std.proofs.lemmas.Bool.{cases_Bool, cond-true, cond-false}
use Rattle.std.proofs.lemmas.Bool.Decides.{nat_tests}
use Rattle.std.proofs.lemmas.List.{append-nil, length-map}
use Rattle.sot_lists.specs.Places.{Has}
use Rattle.sot_trace_lines.specs.Bits.{Has64Bits}
use Rattle.sot_trace_lines.specs.Shown.{Reads, Holds, ShowsDraft}
use Rattle.sot_trace_lines.specs.Kept.{bounded, Kept, put_one, put_all, draft_one, put_slot, draft_all}

low_is : (n : ℕ) → nat_lt n (2 ^ 63) ≡ false → n < 2 ^ 63 → ⊥
low_is n test lt = grind (arith, nat_tests)

-- the number, or it has more than 64 bits
bounded_cases : (z : ℤ) → (bounded z ≡ Some z) ⊎ ((bounded z ≡ None) × (Has64Bits z → ⊥))
bounded_cases (pos n) =
    elim (cases_Bool (nat_lt n (2 ^ 63))) [
      | inl low ↦ inl (cond-true (nat_lt n (2 ^ 63)) _ _ low)
      | inr high ↦ inr (cond-false (nat_lt n (2 ^ 63)) _ _ high, low_is n high)
    ]
bounded_cases (negsuc n) =
    elim (cases_Bool (nat_lt n (2 ^ 63))) [
      | inl low ↦ inl (cond-true (nat_lt n (2 ^ 63)) _ _ low)
      | inr high ↦ inr (cond-false (nat_lt n (2 ^ 63)) _ _ high, low_is n high)
    ]

pub reads_time : (time : Option ℤ) (z : ℤ) → time ≡ bounded z → Reads time z
reads_time time z is =
    elim (bounded_cases z) [
      | inl some ↦ subst (λ o. Reads o z) (sym (is ∙ some)) refl
      | inr none ↦ subst (λ o. Reads o z) (sym (is ∙ none.0)) none.1
    ]

all_kept : (kept : Kept) (zs : List ℤ) → (put_all kept zs).1 ≡ true → (kept.1 ≡ true) × ((put_all kept zs).0 ≡ kept.0 ++ zs)
all_kept kept [] whole = (whole, sym (append-nil kept.0))
all_kept kept (z ∷ zs) whole =
    let more = all_kept (put_one kept (bounded z)) zs whole in
    elim (bounded_cases z) [
      | inl some ↦ (
          let one : put_one kept (bounded z) ≡ (kept.0 ++ (z ∷ []), kept.1) = ap (put_one kept) some in
          (sym (ap (λ (k : Kept). k.1) one) ∙ more.0, more.1 ∙ ap (λ (k : Kept). k.0 ++ zs) one ∙ append_assoc kept.0 (z ∷ []) zs)
          )
      | inr none ↦ (let never : false ≡ true = sym (ap (λ o. (put_one kept o).1) none.0) ∙ more.0 in absurd cc)
    ]

some_lost : (kept : Kept) (zs : List ℤ) → (put_all kept zs).1 ≡ false → (kept.1 ≡ false) ⊎ ((z : ℤ) × Has zs z × (Has64Bits z → ⊥))
some_lost kept [] lost = inl lost
some_lost kept (z ∷ zs) lost =
    elim (bounded_cases z) [
      | inl some ↦
          elim (some_lost (put_one kept (bounded z)) zs lost) [
            | inl before ↦ inl (sym (ap (λ o. (put_one kept o).1) some) ∙ before)
            | inr later ↦ inr (later.0, (suc later.1.0, later.1.1), later.2)
          ]
      | inr none ↦ inr (z, (0, refl), none.1)
    ]

holds_when : (b : Bool) (list zs : List ℤ) → put_all ([], true) zs ≡ (list, b) → Holds b list zs
holds_when true list zs e = sym (ap (λ (k : Kept). k.0) e) ∙ (all_kept ([], true) zs (ap (λ (k : Kept). k.1) e)).1
holds_when false list zs e =
    elim (some_lost ([], true) zs (ap (λ (k : Kept). k.1) e)) [
      | inl never ↦ absurd cc
      | inr lost ↦ lost
    ]

pub holds_all : (list zs : List ℤ) (whole : Bool) → put_all ([], true) zs ≡ (list, whole) → Holds whole list zs
holds_all list zs whole e = holds_when whole list zs e

-- the number of a slot without its mark
abbrev pub bare : Option (Bool × ℤ) → Option ℤ
bare slot = option_map (λ s. s.1) slot

set_next : (done : List (Option ℤ)) (n : ℕ) (slot : Option ℤ)
    → slice_set (done ++ replicate (suc n) None) (length done) slot ≡ (done ++ (slot ∷ [])) ++ replicate n None
set_next [] n slot = refl
set_next (x ∷ done) n slot = ap (λ xs. x ∷ xs) (set_next done n slot)

blank_next : (done : List (Option ℤ)) (n : ℕ) → done ++ replicate (suc n) None ≡ (done ++ (None ∷ [])) ++ replicate n None
blank_next done n = sym (append_assoc done (None ∷ []) (replicate n None))

-- a slot in its place
put_next : (done : List (Option ℤ)) (n : ℕ) (whole : Bool) (slot : Option (Bool × ℤ))
    → (put_slot (length done) (done ++ replicate (suc n) None, whole) slot).1 ≡ true
    → (whole ≡ true) × ((put_slot (length done) (done ++ replicate (suc n) None, whole) slot).0 ≡ (done ++ (bare slot ∷ [])) ++ replicate n None)
put_next done n whole None is = (is, blank_next done n)
put_next done n whole (Some (m, z)) is =
    let kept : List (Option ℤ) × Bool = (done ++ replicate (suc n) None, whole) in
    elim (bounded_cases z) [
      | inl some ↦ (
          let one = ap (draft_one (length done) kept) some in
          (sym (ap (λ (k : List (Option ℤ) × Bool). k.1) one) ∙ is, ap (λ (k : List (Option ℤ) × Bool). k.0) one ∙ set_next done n (Some z))
          )
      | inr none ↦ (let never : false ≡ true = sym (ap (λ o. (draft_one (length done) kept o).1) none.0) ∙ is in absurd cc)
    ]

lost_next : (done : List (Option ℤ)) (whole : Bool) (i : ℕ) (slot : Option (Bool × ℤ)) → (put_slot i (done, whole) slot).1 ≡ false
    → (whole ≡ false) ⊎ ((s : Bool × ℤ) × (slot ≡ Some s) × (Has64Bits s.1 → ⊥))
lost_next done whole i None lost = inl lost
lost_next done whole i (Some (m, z)) lost =
    elim (bounded_cases z) [
      | inl some ↦ inl (sym (ap (λ o. (draft_one i (done, whole) o).1) some) ∙ lost)
      | inr none ↦ inr ((m, z), refl, none.1)
    ]

-- a draft with a place for each slot that is still to come
abbrev pub Drafted : Type 0
Drafted = List (Option ℤ) × Bool

-- once one number is lost, not all are kept
stays_lost : (slots : List (Option (Bool × ℤ))) (i : ℕ) (kept : Drafted) → (draft_all i kept slots).1 ≡ true → kept.1 ≡ true
stays_lost [] i kept is = is
stays_lost (None ∷ slots) i kept is = stays_lost slots (suc i) kept is
stays_lost (Some (m, z) ∷ slots) i kept is =
    let one : (draft_one i kept (bounded z)).1 ≡ true = stays_lost slots (suc i) (put_slot i kept (Some (m, z))) is in
    elim (bounded_cases z) [
      | inl some ↦ sym (ap (λ o. (draft_one i kept o).1) some) ∙ one
      | inr none ↦ (let never : false ≡ true = sym (ap (λ o. (draft_one i kept o).1) none.0) ∙ one in absurd cc)
    ]

parts_are : (kept : Drafted) (draft : List (Option ℤ)) → kept.1 ≡ true → kept.0 ≡ draft → kept ≡ (draft, true)
parts_are (d, w) draft is same = ap₂ (λ x y. (x, y)) same is

all_drafted : (slots : List (Option (Bool × ℤ))) (done : List (Option ℤ)) (n : ℕ) → length slots ≤ n
    → (draft_all (length done) (done ++ replicate n None, true) slots).1 ≡ true
    → (draft_all (length done) (done ++ replicate n None, true) slots).0 ≡ (done ++ map bare slots) ++ replicate (n - length slots) None
all_drafted [] done n few is = (let left : n ≡ n - 0 = omega arith in ap₂ (λ xs m. xs ++ replicate m None) (sym (append-nil done)) left)
all_drafted (slot ∷ slots) done zero few is = absurd (omega arith)
all_drafted (slot ∷ slots) done (suc n) few is =
    let one : (put_slot (length done) (done ++ replicate (suc n) None, true) slot).1 ≡ true =
    stays_lost slots (suc (length done)) (put_slot (length done) (done ++ replicate (suc n) None, true) slot) is in
    let next : put_slot (length done) (done ++ replicate (suc n) None, true) slot ≡ ((done ++ (bare slot ∷ [])) ++ replicate n None, true) =
    parts_are _ _ one (put_next done n true slot one).1 in
    let count : suc (length done) ≡ length (done ++ (bare slot ∷ [])) = omega (arith, length-append done (bare slot ∷ [])) in
    let whole = ap₂ (λ k (d : Drafted). draft_all k d slots) count next in
    let left : n - length slots ≡ suc n - length (slot ∷ slots) = omega arith in
    ap (λ (d : Drafted). d.0) whole
    ∙ all_drafted slots (done ++ (bare slot ∷ [])) n (omega arith) (sym (ap (λ (d : Drafted). d.1) whole) ∙ is)
    ∙ ap₂ (λ xs m. xs ++ replicate m None) (append_assoc done (bare slot ∷ []) (map bare slots)) left

some_undrafted : (slots : List (Option (Bool × ℤ))) (i : ℕ) (kept : Drafted) → (draft_all i kept slots).1 ≡ false
    → (kept.1 ≡ false) ⊎ ((slot : Bool × ℤ) × Has slots (Some slot) × (Has64Bits slot.1 → ⊥))
some_undrafted [] i kept lost = inl lost
some_undrafted (slot ∷ slots) i kept lost =
    elim (some_undrafted slots (suc i) (put_slot i kept slot) lost) [
      | inl now' ↦
          elim (lost_next kept.0 kept.1 i slot now') [
            | inl before ↦ inl before
            | inr here ↦ inr (here.0, (0, ap Some here.1), here.2)
          ]
      | inr later ↦ inr (later.0, (suc later.1.0, later.1.1), later.2)
    ]

shows_when : (b : Bool) (draft : List (Option ℤ)) (slots : List (Option (Bool × ℤ))) → length slots ≤ 8
    → draft_all 0 (replicate 8 None, true) slots ≡ (draft, b)
    → ShowsDraft (cond b (Some draft) None) slots
shows_when true draft slots few e =
    let all = all_drafted slots [] 8 few (ap (λ (k : Drafted). k.1) e) in
    sym (ap (λ (k : Drafted). k.0) e) ∙ all ∙ ap (λ m. map bare slots ++ replicate (8 - m) None) (sym (length-map slots bare))
shows_when false draft slots few e =
    elim (some_undrafted slots 0 (replicate 8 None, true) (ap (λ (k : Drafted). k.1) e)) [
      | inl never ↦ absurd cc
      | inr lost ↦ lost
    ]

-- what is kept of the slots
pub shows_draft : (draft : List (Option ℤ)) (whole : Bool) (slots : List (Option (Bool × ℤ))) → length slots ≤ 8
    → draft_all 0 (replicate 8 None, true) slots ≡ (draft, whole)
    → ShowsDraft (cond whole (Some draft) None) slots
shows_draft draft whole slots few e = shows_when whole draft slots few e
