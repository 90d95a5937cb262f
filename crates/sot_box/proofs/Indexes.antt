-- The entries of an index, and the boxes that they name.
use Rattle.std.proofs.Common.{◌≡◌, ℕ, zero, suc, ◌+◌, ◌-◌, ◌<◌, ◌≤◌, ℤ, pos, ◌≤ℤ◌, ◌<ℤ◌, inl, inr, List, [], ◌∷◌, length, slice_get, Option, Some, get_or, take}
use Rattle.std.proofs.Common.{◌++◌, add-one, false, true, arith, refl, sym, ap, ◌∙◌, subst}
use Rattle.std.specs.List.{All, Contains}
use Rattle.std.specs.Ordering.{is_lt, int_cmp}
use Rattle.std.specs.Prelude.{int_le}
use Rattle.std.specs.Cmp.{int_cmp_total}
use Rattle.std.specs.List.Sorted.{IsPermutation, IsSortedByKey, IsPartitionedBy}
use Rattle.std.proofs.lemmas.List.Sorted.{Contains-permutation, All-permutation, sorted_far, ranks_by}
use Rattle.std.proofs.lemmas.List.{take_all, length-append, get_or_append_left}
use Rattle.std.proofs.Math.Seq.{get_or-append_seam}
use Rattle.std.proofs.lemmas.Option.{slice_get_read, slice_get_within, get_or_from_slice_get}
use Rattle.std.proofs.lemmas.Bool.{cases_lt}
use Rattle.std.specs.Int.{int_max}
use Rattle.std.proofs.lemmas.Int.{ints, clamps}
use Rattle.sot_box.specs.Sides.{Side}
use Rattle.sot_lists.specs.Places.{At}
use Rattle.sot_box.specs.Boxes.{IsWithin, lows, highs}
use Rattle.sot_box.specs.Regions.{IsInRegion}
use Rattle.sot_box.specs.Sweep.{HoldsAt, coordinate}
use Rattle.sot_box.specs.Index.{entries_from, AreInOrder, AreReaches, IsIndex}
use Rattle.sot_box.specs.declared.index.Entry.{Entry}
use Rattle.sot_box.proofs.Within.{region-place, within-low, within-high, within-width}
use Rattle.sot_box.proofs.Sweeps.{holds-same}

same_some : (b c : List Side) → ◌≡◌ {A = Option (List Side)} (Some b) (Some c) → b ≡ c
same_some b c e = cc

no_box : (i : ℕ) (b : List Side) → slice_get [] i ≡ Some b → ⊥
no_box i b e = cc

first_box : (b c : List Side) (bs : List (List Side)) → slice_get (b ∷ bs) zero ≡ Some c → b ≡ c
first_box b c bs e = cc

entry_is : (a b : ℤ) (m n : ℕ) → a ≡ b → m ≡ n → ◌≡◌ {A = Entry} (record { low = a; place = m }) (record { low = b; place = n })
entry_is a b m n e f = cc

-- the entries of the boxes up to one more
next_entry : (boxes : List (List Side)) (n i : ℕ) (b : List Side) (lo : ℤ) → At boxes i b → coordinate (lows b) 0 ≡ lo
    → take (suc i) (entries_from n boxes) ≡ take i (entries_from n boxes) ++ record { low = lo; place = n + i } ∷ []
next_entry [] n i b lo e l = absurd (no_box i b e)
next_entry (x ∷ xs) n zero b lo e l =
    let s : x ≡ b = first_box x b xs e in
    let z : n ≡ n + 0 = omega arith in
    ap (λ (d : Entry). d ∷ []) (entry_is (coordinate (lows x) 0) lo n (n + 0) (ap (λ y. coordinate (lows y) 0) s ∙ l) z)
next_entry (x ∷ xs) n (suc i) b lo e l =
    let z : (n + 1) + i ≡ n + suc i = omega arith in
    let rest : List Entry = entries_from (n + 1) xs in
    ap (λ ys. record { low = coordinate (lows x) 0; place = n } ∷ ys)
    (next_entry xs (n + 1) i b lo e l ∙ ap (λ m. take i (entries_from (n + 1) xs) ++ record { low = lo; place = m } ∷ []) z)

pub entries_more : (boxes : List (List Side)) (i : ℕ) (b : List Side) (lo : ℤ) (items : List Entry) → At boxes i b → coordinate (lows b) 0 ≡ lo
    → items ≡ take i (entries_from 0 boxes) → items ++ record { low = lo; place = i } ∷ [] ≡ take (i + 1) (entries_from 0 boxes)
entries_more boxes i b lo items e l s =
    let z : 0 + i ≡ i = omega arith in
    sym (rw add-one (next_entry boxes 0 i b lo e l ∙ ap (λ m. take i (entries_from 0 boxes) ++ record { low = lo; place = m } ∷ []) z
    ∙ ap (λ xs. xs ++ record { low = lo; place = i } ∷ []) (sym s)))

entries_width : (boxes : List (List Side)) (n : ℕ) → length (entries_from n boxes) ≡ length boxes
entries_width [] n = refl
entries_width (x ∷ xs) n = ap suc (entries_width xs (n + 1))

pub entries_all : (boxes : List (List Side)) (i : ℕ) → length boxes ≤ i → take i (entries_from 0 boxes) ≡ entries_from 0 boxes
entries_all boxes i le = take_all i (entries_from 0 boxes) (omega (arith, entries_width boxes 0))

-- the entries are at first in the order of the boxes, and begin where these do
entry_place : (boxes : List (List Side)) (n k : ℕ) (d : Entry) → k < length (entries_from n boxes) → (get_or (entries_from n boxes) k d).place ≡ n + k
entry_place [] n k d lt = absurd (omega arith)
entry_place (x ∷ xs) n zero d lt = omega arith
entry_place (x ∷ xs) n (suc k) d lt = omega (arith, entry_place xs (n + 1) k d (omega arith))

entry_low : (boxes : List (List Side)) (n k : ℕ) (d : Entry) (b : List Side) → At boxes k b → (get_or (entries_from n boxes) k d).low ≡ coordinate (lows b) 0
entry_low [] n k d b e = absurd (no_box k b e)
entry_low (x ∷ xs) n zero d b e = ap (λ y. coordinate (lows y) 0) (first_box x b xs e)
entry_low (x ∷ xs) n (suc k) d b e = entry_low xs (n + 1) k d b e

-- each entry names a box
pub places_below : (boxes : List (List Side)) (entries : List Entry) → IsPermutation (entries_from 0 boxes) entries → All (λ e. e.place < length boxes) entries
places_below boxes entries names = All-permutation (λ e. e.place < length boxes) (entries_from 0 boxes) entries names
    (λ k d lt. let at : (get_or (entries_from 0 boxes) k d).place ≡ 0 + k = entry_place boxes 0 k d lt in omega (arith, entries_width boxes 0))

-- and begins where this box does
pub lows_of_boxes : (boxes : List (List Side)) (entries : List Entry) → IsPermutation (entries_from 0 boxes) entries
    → All (λ e. (b : List Side) → At boxes e.place b → e.low ≡ coordinate (lows b) 0) entries
lows_of_boxes boxes entries names =
    All-permutation (λ e. (b : List Side) → At boxes e.place b → e.low ≡ coordinate (lows b) 0) (entries_from 0 boxes) entries names
    (λ k d lt b at.
    let place : (get_or (entries_from 0 boxes) k d).place ≡ k = omega (arith, entry_place boxes 0 k d lt) in
    entry_low boxes 0 k d b (subst (λ (i : ℕ). At boxes i b) place at))

-- each box has an entry
entry_of_box : (boxes : List (List Side)) (n i : ℕ) (b : List Side) → At boxes i b
    → Contains (entries_from n boxes) (record { low = coordinate (lows b) 0; place = n + i })
entry_of_box [] n i b e = absurd (no_box i b e)
entry_of_box (x ∷ xs) n zero b e =
    let s : x ≡ b = first_box x b xs e in
    let z : n ≡ n + 0 = omega arith in
    (zero, omega arith, entry_is (coordinate (lows x) 0) (coordinate (lows b) 0) n (n + 0) (ap (λ y. coordinate (lows y) 0) s) z)
entry_of_box (x ∷ xs) n (suc i) b e =
    let z : (n + 1) + i ≡ n + suc i = omega arith in
    later (record { low = coordinate (lows x) 0; place = n }) (entries_from (n + 1) xs) (record { low = coordinate (lows b) 0; place = n + suc i })
    (subst (λ (m : ℕ). Contains (entries_from (n + 1) xs) (record { low = coordinate (lows b) 0; place = m })) z (entry_of_box xs (n + 1) i b e))
  where
    later : (d : Entry) (ds : List Entry) (e : Entry) → Contains ds e → Contains (d ∷ ds) e
    later d ds e c = (suc c.0, omega (arith, c.1), c.2)

not_less : (a b : ℤ) → is_lt (int_cmp a b) ≡ false → b ≤ℤ a
not_less a b e = grind (arith, ints)

-- entries sorted on their low ends are in order
pub order_from_sort : (entries : List Entry) → IsSortedByKey (λ e. e.low) int_cmp entries → AreInOrder entries
order_from_sort entries sorted i j d le lt =
    not_less _ _ (sorted_far (λ x y. is_lt (int_cmp x.low y.low)) (ranks_by int_cmp_total (λ (e : Entry). e.low)) entries sorted i j d le lt)

le_true : (x y z : ℤ) → x ≤ℤ y → int_le y z ≡ true → int_le x z ≡ true
le_true x y z le h = grind (arith, ints)

pub le_false : (x y : ℤ) → int_le x y ≡ false → y <ℤ x
le_false x y h = grind (arith, ints)

pub parted_on_low : (entries : List Entry) (x : ℤ) → AreInOrder entries → IsPartitionedBy (λ e. int_le e.low x) entries
parted_on_low entries x order i j d le lt h = le_true _ _ x (order i j d le lt) h

entry_at : (entries : List Entry) (e : Entry) (c : Contains entries e) → At entries c.0 e
entry_at entries e c = slice_get_read entries (length entries) c.0 e refl c.1 (sym c.2)

-- no box holds a point where none does that an entry names
pub none_holds : (boxes : List (List Side)) (entries : List Entry) (p : List ℤ) → IsPermutation (entries_from 0 boxes) entries
    → ((k : ℕ) (e : Entry) → At entries k e → HoldsAt boxes e.place p → ⊥) → IsInRegion boxes p → ⊥
none_holds boxes entries p names none r =
    let q = region-place boxes p r in
    let e : Entry = record { low = coordinate (lows q.2.0) 0; place = 0 + q.0 } in
    let c = Contains-permutation (entries_from 0 boxes) entries e names (entry_of_box boxes 0 q.0 q.2.0 q.2.1) in
    let z : q.0 ≡ 0 + q.0 = omega arith in
    none c.0 e (entry_at entries e c) (subst (λ (i : ℕ). HoldsAt boxes i p) z q.2)

entry_read : (entries : List Entry) (k : ℕ) (e d : Entry) → At entries k e → get_or entries k d ≡ e
entry_read entries k e d at = get_or_from_slice_get entries k e d at

-- the search has come down to the entry at place m: no box of a later entry holds the point
pub record IsBehind (boxes : List (List Side)) (entries : List Entry) (p : List ℤ) (m : ℕ) : Type 0 where
  pub within : m ≤ length entries
  pub behind : (k : ℕ) (e : Entry) → m ≤ k → At entries k e → HoldsAt boxes e.place p → ⊥

-- a box that begins behind the point does not hold it
pub behind_start : (boxes : List (List Side)) (entries : List Entry) (p : List ℤ) (x : ℤ) (m : ℕ) → IsPermutation (entries_from 0 boxes) entries
    → slice_get p 0 ≡ Some x → m ≤ length entries
    → ((k : ℕ) (d : Entry) → m ≤ k → k < length entries → x <ℤ (get_or entries k d).low) → IsBehind boxes entries p m
behind_start boxes entries p x m names first le later = record {
  within = le;
  behind = λ k e above at h.
      let lt : k < length entries = slice_get_within entries k e at in
      let read : get_or entries k e ≡ e = entry_read entries k e e at in
      let low : e.low ≡ coordinate (lows h.0) 0 =
      subst (λ (d : Entry). d.low ≡ coordinate (lows h.0) 0) read
      (lows_of_boxes boxes entries names k e lt h.0 (subst (λ (d : Entry). At boxes d.place h.0) (sym read) h.1)) in
      let begin : x <ℤ e.low = subst (λ (d : Entry). x <ℤ d.low) read (later k e above lt) in
      let here : coordinate p 0 ≡ x = get_or_from_slice_get p 0 x (pos 0) first in
      let some : 0 < length p = slice_get_within p 0 x first in
      let w : coordinate (lows h.0) 0 ≤ℤ coordinate p 0 = within-low h.0 p 0 h.2 (omega (arith, within-width h.0 p h.2)) in
      absurd (omega (arith, ints));
}

-- the entry at place m names a box that does not hold the point
pub behind_more : (boxes : List (List Side)) (entries : List Entry) (p : List ℤ) (m : ℕ) (d : Entry) (b : List Side) → 0 < m
    → IsBehind boxes entries p m → At boxes (get_or entries (m - 1) d).place b → (IsWithin b p → ⊥) → IsBehind boxes entries p (m - 1)
behind_more boxes entries p m d b some r place not_in = record {
  within = let le : m ≤ length entries = r.within in omega arith;
  behind = λ k e above at h. elim (cases_lt k m) [
    | inl here ↦
        let same : m - 1 ≡ k = omega arith in
        let read : get_or entries (m - 1) d ≡ e = subst (λ (i : ℕ). get_or entries i d ≡ e) (sym same) (entry_read entries k e d at) in
        not_in (holds-same boxes e.place p b h (subst (λ (x : Entry). At boxes x.place b) read place))
    | inr later ↦ r.behind k e later at h
  ];
}

-- the point lies behind all boxes that are left
pub behind_all : (boxes : List (List Side)) (entries : List Entry) (reaches p : List ℤ) (m : ℕ) (x : ℤ) → 0 < m → IsIndex boxes entries reaches
    → IsBehind boxes entries p m → slice_get p 0 ≡ Some x → coordinate reaches (m - 1) <ℤ x → IsInRegion boxes p → ⊥
behind_all boxes entries reaches p m x some index r first short = none_holds boxes entries p index.names
    (λ k e at h. elim (cases_lt k m) [
      | inl before ↦
          let le : m ≤ length entries = r.within in
          let width : length reaches ≡ length entries = index.reach.width in
          let reach : coordinate (highs h.0) 0 ≤ℤ coordinate reaches (m - 1) = index.reach.above k (m - 1) e h.0 (omega arith) (omega arith) at h.1 in
          let here : coordinate p 0 ≡ x = get_or_from_slice_get p 0 x (pos 0) first in
          let wide : 0 < length p = slice_get_within p 0 x first in
          let w : coordinate p 0 ≤ℤ coordinate (highs h.0) 0 = within-high h.0 p 0 h.2 (omega (arith, within-width h.0 p h.2)) in
          absurd (omega (arith, ints))
      | inr later ↦ r.behind k e later at h
    ])

-- none is left
pub behind_none : (boxes : List (List Side)) (entries : List Entry) (reaches p : List ℤ) (m : ℕ) → m ≤ 0 → IsIndex boxes entries reaches
    → IsBehind boxes entries p m → IsInRegion boxes p → ⊥
behind_none boxes entries reaches p m none index r = none_holds boxes entries p index.names (λ k e at h. r.behind k e (omega arith) at h)

-- how far the boxes of the first i entries reach
pub record IsReachedTo (boxes : List (List Side)) (entries : List Entry) (i : ℕ) (greatest : ℤ) (reaches : List ℤ) : Type 0 where
  pub width : length reaches ≡ i
  pub passed : (k : ℕ) (e : Entry) (b : List Side) → k < i → At entries k e → At boxes e.place b → coordinate (highs b) 0 ≤ℤ greatest
  pub above : (k j : ℕ) (e : Entry) (b : List Side) → k ≤ j → j < length reaches → At entries k e → At boxes e.place b
      → coordinate (highs b) 0 ≤ℤ coordinate reaches j

pub reached_start : (boxes : List (List Side)) (entries : List Entry) (g : ℤ) → IsReachedTo boxes entries 0 g []
reached_start boxes entries g = record {
  width = refl;
  passed = λ k e b lt. absurd (omega arith);
  above = λ k j e b le lt. absurd (omega arith);
}

pub reached_more : (boxes : List (List Side)) (entries : List Entry) (i : ℕ) (g g' : ℤ) (rs rs' : List ℤ) (d : Entry) (b : List Side)
    → IsReachedTo boxes entries i g rs
    → At boxes (get_or entries i d).place b → g' ≡ int_max g (coordinate (highs b) 0) → rs' ≡ rs ++ g' ∷ [] → IsReachedTo boxes entries (i + 1) g' rs'
reached_more boxes entries i g g' rs rs' d b r place max more = record {
  width = width;
  passed = passed;
  above = λ k j e c le lt at at'. elim (cases_lt j i) [
    | inl before ↦
        let was : coordinate rs' j ≡ coordinate rs j =
        ap (λ xs. coordinate xs j) more ∙ get_or_append_left rs (g' ∷ []) (pos 0) j (omega (arith, r.width)) in
        let h : coordinate (highs c) 0 ≤ℤ coordinate rs j = r.above k j e c le (omega (arith, r.width)) at at' in
        omega (arith, ints)
    | inr here ↦
        let same : length rs ≡ j = omega (arith, r.width, width) in
        let now : coordinate rs' j ≡ g' =
        ap (λ xs. coordinate xs j) more ∙ subst (λ (n : ℕ). coordinate (rs ++ g' ∷ []) n ≡ g') same (get_or-append_seam rs g' [] (pos 0)) in
        let h : coordinate (highs c) 0 ≤ℤ g' = passed k e c (omega (arith, r.width, width)) at at' in
        omega (arith, ints)
  ];
}
  where
    width : length rs' ≡ i + 1
    width = ap length more ∙ length-append rs (g' ∷ []) ∙ ap (λ n. n + 1) r.width

    passed : (k : ℕ) (e : Entry) (c : List Side) → k < i + 1 → At entries k e → At boxes e.place c → coordinate (highs c) 0 ≤ℤ g'
    passed k e c lt at at' = elim (cases_lt k i) [
      | inl before ↦
          let h : coordinate (highs c) 0 ≤ℤ g = r.passed k e c before at at' in
          omega (arith, ints, clamps)
      | inr here ↦
          let same : k ≡ i = omega arith in
          let read : get_or entries i d ≡ e = entry_read entries i e d (subst (λ (n : ℕ). At entries n e) same at) in
          let box : b ≡ c = same_some b c (sym (subst (λ (x : Entry). At boxes x.place b) read place) ∙ at') in
          let h : coordinate (highs c) 0 ≡ coordinate (highs b) 0 = ap (λ y. coordinate (highs y) 0) (sym box) in
          omega (arith, ints, clamps)
    ]

pub reached_all : (boxes : List (List Side)) (entries : List Entry) (i : ℕ) (g : ℤ) (rs : List ℤ) → i ≤ length entries → length entries ≤ i
    → IsReachedTo boxes entries i g rs → AreReaches boxes entries rs
reached_all boxes entries i g rs le ge r = record {
  width = omega (arith, r.width);
  above = r.above;
}
