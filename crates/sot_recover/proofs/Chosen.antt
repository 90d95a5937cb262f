-- The cells of rank k at most.
use Rattle.std.proofs.Common.{◌≡◌, ℕ, zero, suc, ◌+◌, ◌≤◌, Bool, true, false, ⊎_elim, List, [], ◌∷◌, ◌++◌, Some, map, length, refl, sym, ap}
use Rattle.std.proofs.Common.{◌∙◌, subst, arith, drop, take}
use Rattle.std.specs.Prelude.{ℤ, slice_index_or, nat_le, if◌then◌else◌}
use Rattle.std.proofs.lemmas.Bool.{leb-true, le-leb, false≢true}
use Rattle.std.proofs.lemmas.List.{append_assoc}
use Rattle.std.proofs.lemmas.Option.{same_Some, none-some, get_or_from_slice_get}
use Rattle.sot_lists.specs.Places.{At, Has}
use Rattle.sot_lists.proofs.Places.{drop_at}
use Rattle.sot_box.specs.Sides.{Side}
use Rattle.sot_box.specs.Boxes.{IsWithin}
use Rattle.sot_box.specs.Regions.{IsInRegion, CoversAll}
use Rattle.sot_law_runs.proofs.OneRank.{choose}
use Rattle.sot_recover.specs.Chosen.{places_from, chosen}

-- one place more
pub chosen_more : (cells : List (List Side)) (ranks : List ℕ) (k i r : ℕ) (cell : List Side) (by by' all : List (List Side)) → At ranks i r → At cells i cell
    → by' ≡ (if nat_le r k then by ++ cell ∷ [] else by) →
    by ++ map (λ j. slice_index_or cells j []) (places_from k i (drop i ranks)) ≡ all
    → by' ++ map (λ j. slice_index_or cells j []) (places_from k (i + 1) (drop (i + 1) ranks)) ≡ all
chosen_more cells ranks k i r cell by by' all at_r at_c is whole =
    go (nat_le r k) is (subst (λ l. by ++ map (λ j. slice_index_or cells j []) (places_from k i l) ≡ all) (drop_at ranks i r at_r) whole)
  where
    rest : List (List Side)
    rest = map (λ j. slice_index_or cells j []) (places_from k (i + 1) (drop (i + 1) ranks))

    go : (b : Bool) → by' ≡ (if b then by ++ cell ∷ [] else by)
        → by ++ map (λ j. slice_index_or cells j []) (if b then i ∷ places_from k (i + 1) (drop (i + 1) ranks) else places_from k (i + 1) (drop (i + 1) ranks))
        ≡ all → by' ++ rest ≡ all
    go true e w = ap (λ l. l ++ rest) e ∙ append_assoc by (cell ∷ []) rest ∙ ap (λ c. by ++ (c ∷ rest)) (sym (get_or_from_slice_get cells i cell [] at_c)) ∙ w
    go false e w = ap (λ l. l ++ rest) e ∙ w

-- the first boxes of a list, and one more
pub take_next : (xs : List (List Side)) (i : ℕ) (x : List Side) → At xs i x → take i xs ++ x ∷ [] ≡ take (i + 1) xs
take_next xs i x at = (let e : suc i ≡ i + 1 = omega arith in subst (λ n. take i xs ++ x ∷ [] ≡ take n xs) e (next xs i at))
  where
    next : (ys : List (List Side)) (k : ℕ) → At ys k x → take k ys ++ x ∷ [] ≡ take (suc k) ys
    next [] k a = absurd (none-some x a)
    next (y ∷ ys) zero a = ap (λ z. z ∷ []) (sym (same_Some y x a))
    next (y ∷ ys) (suc k) a = ap (λ l. y ∷ l) (next ys k a)

-- none is left
pub chosen_end : (cells : List (List Side)) (ranks : List ℕ) (k i : ℕ) (by all : List (List Side)) → length ranks ≤ i
    → by ++ map (λ j. slice_index_or cells j []) (places_from k i (drop i ranks)) ≡ all → by ≡ all
chosen_end cells ranks k i by all past whole =
    let none : drop i ranks ≡ [] = drop_all i ranks past in
    sym (append_nil by) ∙ subst (λ l. by ++ map (λ j. slice_index_or cells j []) (places_from k i l) ≡ all) none whole
  where
    drop_all : (n : ℕ) (xs : List ℕ) → length xs ≤ n → drop n xs ≡ []
    drop_all zero [] le = refl
    drop_all zero (x ∷ xs) le = absurd (omega (arith, le))
    drop_all (suc n) [] le = refl
    drop_all (suc n) (x ∷ xs) le = drop_all n xs (omega (arith, le))

    append_nil : (xs : List (List Side)) → xs ++ [] ≡ xs
    append_nil [] = refl
    append_nil (x ∷ xs) = ap (λ l. x ∷ l) (append_nil xs)

-- which places are chosen
pub chosen_has : (k n : ℕ) (ranks : List ℕ) (i r : ℕ) → At ranks i r → r ≤ k → Has (places_from k n ranks) (n + i)
chosen_has k n [] i r at le = absurd (none-some r at)
chosen_has k n (q ∷ qs) zero r at le = here (nat_le q k) (subst (λ x. nat_le x k ≡ true) (sym (same_Some q r at)) (le-leb r k le))
  where
    here : (b : Bool) → b ≡ true → Has (if b then n ∷ places_from k (n + 1) qs else places_from k (n + 1) qs) (n + 0)
    here true e = (let s : n ≡ n + 0 = omega arith in (0, ap Some s))
    here false e = absurd (false≢true e)
chosen_has k n (q ∷ qs) (suc i) r at le =
    later (nat_le q k) (let s : (n + 1) + i ≡ n + suc i = omega arith in subst (Has (places_from k (n + 1) qs)) s (chosen_has k (n + 1) qs i r at le))
  where
    later : (b : Bool) → Has (places_from k (n + 1) qs) (n + suc i) → Has (if b then n ∷ places_from k (n + 1) qs else places_from k (n + 1) qs) (n + suc i)
    later true h = (suc h.0, h.1)
    later false h = h

-- what is said of a place of the rest
later_place : (k n i q : ℕ) (qs : List ℕ) → (x : ℕ) × (r : ℕ) × (i ≡ (n + 1) + x) × At qs x r × (r ≤ k)
    → (x : ℕ) × (r : ℕ) × (i ≡ n + x) × At (q ∷ qs) x r × (r ≤ k)
later_place k n i q qs h = (let e = h.2 in (suc h.0, h.1, omega (arith, e), h.3, h.4))

pub has_chosen : (k n : ℕ) (ranks : List ℕ) (i j : ℕ) → At (places_from k n ranks) j i → (q : ℕ) × (r : ℕ) × (i ≡ n + q) × At ranks q r × (r ≤ k)
has_chosen k n [] i j at = absurd (none-some i at)
has_chosen k n (q ∷ qs) i j at = go (nat_le q k) refl (λ y a. later_place k n i q qs (has_chosen k (n + 1) qs i y a)) j at
  where
    go :
        (b : Bool) → nat_le q k ≡ b → ((y : ℕ) → At (places_from k (n + 1) qs) y i → (x : ℕ) × (r : ℕ) × (i ≡ n + x) × At (q ∷ qs) x r × (r ≤ k)) → (y : ℕ) →
        At (if b then n ∷ places_from k (n + 1) qs else places_from k (n + 1) qs) y i → (x : ℕ) × (r : ℕ) × (i ≡ n + x) × At (q ∷ qs) x r × (r ≤ k)
    go true e rest zero a = (let s = same_Some n i a in (0, q, omega (arith, s), refl, leb-true q k e))
    go true e rest (suc y) a = rest y a
    go false e rest y a = rest y a

-- what is in some chosen cell
chosen_in : (of : ℕ → List Side) (places : List ℕ) (t : List ℤ) → IsInRegion (map of places) t → (i : ℕ) × (n : ℕ) × At places n i × IsWithin (of i) t
chosen_in of [] t h = absurd h
chosen_in of (i ∷ is) t h = ⊎_elim (λ w. (i, 0, refl, w)) (λ more. let r = chosen_in of is t more in (r.0, suc r.1, r.2, r.3)) h

-- cells of a rank are cells of each greater one, so what the ones cover the others cover
pub covers_more : (safe cells : List (List Side)) (ranks : List ℕ) (k l : ℕ) → k ≤ l → CoversAll safe (chosen cells ranks k)
    → CoversAll safe (chosen cells ranks l)
covers_more [] cells ranks k l le covers = tt
covers_more (b ∷ bs) cells ranks k l le covers = (λ s w. into s (covers.0 s w), covers_more bs cells ranks k l le covers.1)
  where
    into : (s : List ℤ) → IsInRegion (chosen cells ranks k) s → IsInRegion (chosen cells ranks l) s
    into s h =
        let c = chosen_in (λ i. slice_index_or cells i []) (places_from k 0 ranks) s h in
        let r = has_chosen k 0 ranks c.0 c.1 c.2 in
        let small = r.4 in
        let has = chosen_has l 0 ranks r.0 r.1 r.3 (omega (arith, small, le)) in
        let same : 0 + r.0 ≡ c.0 = (let e = r.2 in omega (arith, e)) in
        choose (λ i. slice_index_or cells i []) (places_from l 0 ranks) s c.0 (subst (Has (places_from l 0 ranks)) same has).0
        (subst (Has (places_from l 0 ranks)) same has).1 c.3
