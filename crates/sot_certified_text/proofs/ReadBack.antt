-- A certificate's JSON says that certificate.
use Rattle.std.proofs.Common.{◌≡◌, ℕ, zero, suc, ◌≤◌, ℤ, pos, negsuc, ◌≤ℤ◌, true, Ok, List, [], ◌∷◌, ◌++◌, length, codes, refl, sym, ap, ◌∙◌, subst, arith}
use Rattle.std.proofs.Common.{decimal, eq-eqb, inl, inr}
use Rattle.std.specs.Prelude.{int_le}
use Rattle.std.proofs.lemmas.Int.{ints}
use Rattle.std.proofs.lemmas.Bool.{cases_Bool, le-leb}
use Rattle.std.proofs.lemmas.List.{append-nil, append_assoc}
use Rattle.serde_json.specs.Data.{Data, number}
use Rattle.serde_json.specs.Events.{items_len}
use Rattle.serde_json.specs.Find.{of_integer}
use Rattle.sot_box.specs.Sides.{Side, AreOrdered}
use Rattle.sot_box.proofs.Indexes.{le_false}
use Rattle.sot_lists.specs.Places.{At}
use Rattle.sot_json.specs.declared.fault.JsonKind.TheVariants.{OutsideRange, Empty, Width, TooMany}
use Rattle.sot_json.specs.Says.{Says, ◌>>=◌, unless, part}
use Rattle.sot_json.specs.Json.{whole, each_after, each}
use Rattle.sot_cert.specs.CertFormat.{number as number_says, side, cell, cells, region_of}
use Rattle.sot_certified_text.proofs.PlainTexts.{both}
use Rattle.sot_certified_text.specs.CertText.{side_data, cell_data, cells_data, items_by}
use Rattle.sot_certified_text.specs.ReadBack.{IsShort, AreShort}

pub le_test : (a b : ℤ) → a ≤ℤ b → int_le a b ≡ true
le_test a b h = elim (cases_Bool (int_le a b)) [
  | inl yes' ↦ yes'
  | inr no' ↦ absurd (let lt = le_false a b no' in omega (arith, ints, h, lt))
]

number_read : (z : ℤ) → negsuc 999999999999 ≤ℤ z → z ≤ℤ pos 1000000000000 → number_says (number (of_integer z)) ≡ Ok z
unfolding number_says whole
number_read (pos n) h k =
    ap (λ t. unless OutsideRange t >>= λ ok. Ok (pos n)) (both (int_le (negsuc 999999999999) (pos n)) (int_le (pos n) (pos 1000000000000)) (le_test _ _ h)
    (le_test _ _ k))
number_read (negsuc n) h k =
    ap (λ t. unless OutsideRange t >>= λ ok. Ok (negsuc n))
    (both (int_le (negsuc 999999999999) (negsuc n)) (int_le (negsuc n) (pos 1000000000000)) (le_test _ _ h) (le_test _ _ k))

side_read : (r : Side) → r.lo ≤ℤ r.hi → IsShort r → side (side_data r) ≡ Ok r
unfolding side
side_read r ordered short =
    let lo = number_read r.lo short.0 (omega (arith, ints, ordered, short.1)) in
    let hi = number_read r.hi (omega (arith, ints, ordered, short.0)) short.1 in
    ap (λ s. part (codes "0") s >>= λ a. part (codes "1") (number_says (number (of_integer r.hi))) >>= λ b. unless Empty (int_le a b) >>= λ ok.
    Ok (record { lo = a; hi = b })) lo
    ∙ ap (λ s. part (codes "1") s >>= λ b. unless Empty (int_le r.lo b) >>= λ ok. Ok (record { lo = r.lo; hi = b })) hi
    ∙ ap (λ t. unless Empty t >>= λ ok. Ok r) (le_test r.lo r.hi ordered)

-- items that are read one after another
items_read : {A : Type 0} (f : Data → Says A) (g : A → Data) (done xs : List A) → ((i : ℕ) (x : A) → At xs i x → f (g x) ≡ Ok x)
    → each_after (λ before. f) done (items_by g xs) ≡ Ok (done ++ xs)
unfolding each_after
items_read f g done [] h = ap Ok (sym (append-nil done))
items_read f g done (x ∷ xs) h =
    ap (λ s. part (decimal (length done)) s >>= λ y. each_after (λ before. f) (done ++ y ∷ []) (items_by g xs)) (h 0 x refl)
    ∙ items_read f g (done ++ x ∷ []) xs (λ i. h (suc i)) ∙ ap Ok (append_assoc done (x ∷ []) xs)

items_count : {A : Type 0} (g : A → Data) (xs : List A) → items_len (items_by g xs) ≡ length xs
items_count g [] = refl
items_count g (x ∷ xs) = ap suc (items_count g xs)

sides_read : (sides : List Side) → AreOrdered sides → AreShort sides → (i : ℕ) (r : Side) → At sides i r → side (side_data r) ≡ Ok r
sides_read [] o h i r at = absurd (cc)
sides_read (s ∷ ss) o h zero r at = (let e : s ≡ r = cc in subst (λ q. side (side_data q) ≡ Ok q) e (side_read s o.0 (h 0 s refl)))
sides_read (s ∷ ss) o h (suc i) r at = sides_read ss o.1 (λ j. h (suc j)) i r at

cell_read : (width : ℕ) (sides : List Side) → length sides ≡ width → AreOrdered sides → AreShort sides → cell width (cell_data sides) ≡ Ok sides
unfolding cell
cell_read width sides long o h =
    ap (λ t. unless Width t >>= λ ok. each side (items_by side_data sides))
    (eq-eqb (items_len (items_by side_data sides)) width (items_count side_data sides ∙ long))
    ∙ items_read side side_data [] sides (sides_read sides o h)

pub cells_read : (width : ℕ) (boxes : List (List Side)) → length boxes ≤ 4096 → ((i : ℕ) (b : List Side) → At boxes i b → (length b ≡ width) × AreOrdered b)
    → ((i : ℕ) (b : List Side) → At boxes i b → AreShort b)
    → cells width (cells_data boxes) ≡ Ok (region_of width boxes)
unfolding cells
cells_read width boxes few fit short =
    ap (λ t. unless TooMany t >>= λ ok. each (cell width) (items_by cell_data boxes) >>= λ list. Ok (region_of width list))
    (le-leb (items_len (items_by cell_data boxes)) 4096 (omega (arith, few, items_count cell_data boxes)))
    ∙ ap (λ s. s >>= λ list. Ok (region_of width list)) (items_read (cell width) cell_data [] boxes
    (λ i b at. let f = fit i b at in cell_read width b f.0 f.1 (short i b at)))
