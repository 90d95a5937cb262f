-- What the parts of a step leave, place by place.
use Rattle.std.proofs.Common.{◌↔◌, inl, inr, ⊎_elim, IsTrue, length-append, ◌≡◌, ℕ, zero, suc, ◌+◌, ◌-◌, ◌<◌, ℤ, Bool, true, false, List, [], ◌∷◌, ◌++◌, Option}
use Rattle.std.proofs.Common.{Some, None, map, take, drop, replicate, length, refl, sym, ap, ◌∙◌, subst, arith, append_assoc}
use Rattle.std.specs.Prelude.{slice_index_or, slice_set}
use Rattle.std.proofs.lemmas.Bool.{cases_lt}
use Rattle.std.proofs.lemmas.List.{append-nil, get_or-set_same, get_or-set_other}
use Rattle.std.proofs.lemmas.Option.{none-some, same_Some, slice_get_cases}
use Rattle.sot_box.specs.Regions.{IsInRegion}
use Rattle.sot_lang.specs.declared.tables.PlantInfo.{PlantInfo}
use Rattle.sot_lang.specs.declared.tables.ModuleInfo.{ModuleInfo}
use Rattle.sot_lang.specs.OwnerNames.{width_of, seen_width}
use Rattle.sot_tube.specs.Tubes.{Keeps}
use Rattle.sot_world.specs.Configurations.{Mode, Ac, Sc}
use Rattle.sot_world.specs.Events.{cut}
use Rattle.sot_lists.specs.Places.{At}
use Rattle.sot_lang.specs.Tables.{Tables}
use Rattle.sot_lang.specs.Ranges.{range_of}
use Rattle.sot_lang.specs.Ticks.{joined}
use Rattle.sot_world.specs.Steps.{publish, published}
use Rattle.sot_world.specs.Changes.{put_drafted, IsNextMode}
use Rattle.sot_lang.proofs.Owners.{width_at}
use Rattle.sot_lists.proofs.Places.{drop_at}

publish_one : (p : Tables) (k : ℕ) (ks : List ℕ) (slot : Option ℤ) (draft : List (Option ℤ)) (xs : List ℤ)
    → publish p (k ∷ ks) (slot ∷ draft) xs ≡ publish p ks draft (put_drafted (range_of p.scalars k) k slot xs)
publish_one p k ks None draft xs = refl
publish_one p k ks (Some z) draft xs = refl

-- one more slot of a draft is published
pub publish_step : (p : Tables) (ws : List ℕ) (draft : List (Option ℤ)) (i k : ℕ) (slot : Option ℤ) (xs : List ℤ) → At ws i k → At draft i slot
    → publish p (drop i ws) (drop i draft) xs ≡ publish p (drop (i + 1) ws) (drop (i + 1) draft) (put_drafted (range_of p.scalars k) k slot xs)
publish_step p ws draft i k slot xs at_w at_d =
    ap (λ a. publish p a (drop i draft) xs) (drop_at ws i k at_w)
    ∙ ap (λ b. publish p (k ∷ drop (i + 1) ws) b xs) (drop_at draft i slot at_d)
    ∙ publish_one p k (drop (i + 1) ws) slot (drop (i + 1) draft) xs

publish_blank : (p : Tables) (ws : List ℕ) (n : ℕ) (xs : List ℤ) → publish p ws (replicate n None) xs ≡ xs
publish_blank p [] n xs = refl
publish_blank p (k ∷ ks) zero xs = refl
publish_blank p (k ∷ ks) (suc n) xs = publish_blank p ks n xs

publish_padded : (p : Tables) (ws : List ℕ) (draft : List (Option ℤ)) (n : ℕ) (xs : List ℤ)
    → publish p ws (draft ++ replicate n None) xs ≡ publish p ws draft xs
publish_padded p [] draft n xs = refl
publish_padded p (k ∷ ks) [] n xs = publish_blank p (k ∷ ks) n xs
publish_padded p (k ∷ ks) (None ∷ draft) n xs = publish_padded p ks draft n xs
publish_padded p (k ∷ ks) (Some z ∷ draft) n xs = publish_padded p ks draft n _

publish_taken : (p : Tables) (ws : List ℕ) (draft : List (Option ℤ)) (xs : List ℤ) → publish p ws draft xs ≡ publish p ws (take (length ws) draft) xs
publish_taken p [] draft xs = refl
publish_taken p (k ∷ ks) [] xs = refl
publish_taken p (k ∷ ks) (None ∷ draft) xs = publish_taken p ks draft xs
publish_taken p (k ∷ ks) (Some z ∷ draft) xs = publish_taken p ks draft _

-- what stands in the slots past a draft's own is not published
pub published_padded : (b : Bool) (p : Tables) (ws : List ℕ) (draft : List (Option ℤ)) (n : ℕ) (xs : List ℤ)
    → published b p ws (draft ++ replicate n None) xs ≡ published b p ws draft xs
published_padded true p ws draft n xs = publish_padded p ws draft n xs
published_padded false p ws draft n xs = refl

pub published_taken : (b : Bool) (p : Tables) (ws : List ℕ) (draft : List (Option ℤ)) (xs : List ℤ)
    → published b p ws draft xs ≡ published b p ws (take (length ws) draft) xs
published_taken true p ws draft xs = publish_taken p ws draft xs
published_taken false p ws draft xs = refl

blank_from : (draft : List (Option ℤ)) (i n : ℕ) (slot : Option ℤ) → At draft i slot → At (take i draft ++ replicate (suc n) None) i None
blank_from [] i n slot at = absurd (none-some slot at)
blank_from (x ∷ xs) zero n slot at = refl
blank_from (x ∷ xs) (suc i) n slot at = blank_from xs i n slot at

-- .. which was blank before
pub slot_blank : (draft : List (Option ℤ)) (i : ℕ) (slot : Option ℤ) → At draft i slot → i < 8 → At (take i draft ++ replicate (8 - i) None) i None
slot_blank draft i slot at lt =
    (let e : 8 - i ≡ suc (8 - (i + 1)) = omega arith in subst (λ n. At (take i draft ++ replicate n None) i None) (sym e)
    (blank_from draft i (8 - (i + 1)) slot at))

-- the points of one more plant
pub joined_more : (f : ℕ → List ℤ) (ks : List ℕ) (i k : ℕ) → At ks i k → joined (map f (take (i + 1) ks)) ≡ joined (map f (take i ks)) ++ f k
joined_more f ks i k at = (let e : i + 1 ≡ suc i = omega arith in ap (λ n. joined (map f (take n ks))) e ∙ from ks i at)
  where
    from : (ys : List ℕ) (j : ℕ) → At ys j k → joined (map f (take (suc j) ys)) ≡ joined (map f (take j ys)) ++ f k
    from [] j at_j = absurd (none-some k at_j)
    from (y ∷ ys) zero at_j = ap (λ z. f z ++ []) (same_Some y k at_j) ∙ append-nil (f k)
    from (y ∷ ys) (suc j) at_j = ap (λ l. f y ++ l) (from ys j at_j) ∙ sym (append_assoc (f y) (joined (map f (take j ys))) (f k))

-- a fact of each element up to a place, and of the one that is put there
pub set_more : {A : Type 0} (d : A) (P : ℕ → A → Type 0) (xs : List A) (k : ℕ) (y : A) → k < length xs → P k y → ((j : ℕ) → j < k → P j (slice_index_or xs j d))
    → (j : ℕ) → j < k + 1 → P j (slice_index_or (slice_set xs k y) j d)
set_more d P xs k y inside here before j lt =
    ⊎_elim
    (λ less. subst (P j) (sym (get_or-set_other xs k j y d (λ e. omega (arith, less, e)))) (before j less))
    (λ more.
    let e : k ≡ j = omega (arith, lt, more) in
    subst (λ n. P n (slice_index_or (slice_set xs k y) n d)) e (subst (P k) (sym (get_or-set_same xs k y d inside)) here))
    (cases_lt j k)

head_of : {A : Type 0} (d : A) (xs : List A) (k : ℕ) (y : A) (ys : List A) → drop k xs ≡ y ∷ ys → (slice_index_or xs k d ≡ y) × (drop (suc k) xs ≡ ys)
head_of d [] zero y ys e = cc
head_of d [] (suc k) y ys e = cc
head_of d (x ∷ xs) zero y ys e = (cc, cc)
head_of d (x ∷ xs) (suc k) y ys e = head_of d xs k y ys e

-- a plant's part of the disturbances, and the rest behind it
pub cut_step :
    (plants : List PlantInfo) (noise rest : List ℤ) (k : ℕ) (plant : PlantInfo) → At plants k plant → drop k (cut plants noise) ≡ cut (drop k plants) rest
    → (slice_index_or (cut plants noise) k [] ≡ take (length plant.noise.items) rest)
    × (drop (k + 1) (cut plants noise) ≡ cut (drop (k + 1) plants) (drop (length plant.noise.items) rest))
cut_step plants noise rest k plant at same =
    let e : suc k ≡ k + 1 = omega arith in
    let parts = head_of [] (cut plants noise) k (take (length plant.noise.items) rest) (cut (drop (k + 1) plants) (drop (length plant.noise.items) rest))
    (same ∙ ap (λ ks. cut ks rest) (drop_at plants k plant at)) in
    (parts.0, ap (λ n. drop n (cut plants noise)) (sym e) ∙ parts.1)

-- how many numbers the points of these plants have
pub seen_length :
    (plants : List PlantInfo) (points : List (List ℤ)) (ks : List ℕ) → length points ≡ length plants
    → ((k : ℕ) (plant : PlantInfo) → At plants k plant → length (slice_index_or points k []) ≡ length plant.states.items)
    → ((i n : ℕ) → At ks i n → n < length points) → length (joined (map (λ k. slice_index_or points k []) ks)) ≡ seen_width plants ks
seen_length plants points [] each wide there = refl
seen_length plants points (k ∷ ks) each wide there =
    let here : length (slice_index_or points k []) ≡ width_of plants k = ⊎_elim
    (λ at. wide k at.0 at.2 ∙ sym (width_at plants k at.0 at.2))
    (λ past. absurd (omega (arith, past.0, there 0 k refl, each)))
    (slice_get_cases plants k).1 in
    let more = seen_length plants points ks each wide (λ i n at. there (suc i) n at) in
    length-append (slice_index_or points k []) (joined (map (λ j. slice_index_or points j []) ks)) ∙ omega (arith, here, more)

-- an element that is put where it stands
pub set_there : {A : Type 0} (xs : List A) (i : ℕ) (x : A) → At xs i x → xs ≡ slice_set xs i x
set_there [] i x at = absurd (none-some x at)
set_there (y ∷ ys) zero x at = ap (λ z. z ∷ ys) (same_Some y x at)
set_there (y ∷ ys) (suc i) x at = ap (λ zs. y ∷ zs) (set_there ys i x at)

-- the mode after a decision in mode Ac, and in mode Sc
pub next_by_keeps : (p : Tables) (j : ℕ) (a : ModuleInfo) (mode next : Mode) (s : List ℤ) (b : Bool) → mode ≡ Ac → ((next ≡ Ac) ↔ IsTrue b)
    → (IsTrue b ↔ Keeps p j a s) → IsNextMode p j a mode s next
next_by_keeps p j a mode next s b is n k = (
  (λ e. inr (is, k.0 (n.0 e))),
  (λ o. ⊎_elim (λ x. let e : Sc ≡ Ac = sym x.0 ∙ is in cc) (λ x. n.1 (k.1 x.1)) o),
)

pub next_by_safer : (p : Tables) (j : ℕ) (a : ModuleInfo) (mode next : Mode) (s : List ℤ) (b : Bool) → mode ≡ Sc → ((next ≡ Ac) ↔ IsTrue b)
    → (IsTrue b ↔ IsInRegion a.safer.boxes s) → IsNextMode p j a mode s next
next_by_safer p j a mode next s b is n k = (
  (λ e. inl (is, k.0 (n.0 e))),
  (λ o. ⊎_elim (λ x. n.1 (k.1 x.1)) (λ x. let e : Sc ≡ Ac = sym is ∙ x.0 in cc) o),
)
