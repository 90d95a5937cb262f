-- What was found for each of a list, and read of each of the items of a list, by place.
use Rattle.std.proofs.Common.{◌≡◌, ℕ, zero, suc, ◌+◌, ◌<◌, List, [], ◌∷◌, ◌++◌, length, take, Ok, Err, decimal, refl, sym, ap, ap₂, subst, ◌∙◌, arith}
use Rattle.std.proofs.Common.{length-append}
use Rattle.std.specs.Prelude.{slice_get}
use Rattle.std.proofs.lemmas.Option.{same_Some, none-some, slice_get_within}
use Rattle.std.proofs.lemmas.List.{take_all, length-take-le}
use Rattle.serde_json.specs.Data.{Data, Items, no_items, item}
use Rattle.serde_json.specs.Events.{items_len}
use Rattle.sot_lists.specs.Places.{At}
use Rattle.sot_lists.proofs.Places.{at_below, at_same}
use Rattle.sot_json.specs.Says.{Says, ◌>>=◌, part}
use Rattle.sot_json.specs.Json.{each_after, at}
use Rattle.sot_json.proofs.Binds.{bind_ok, part_ok, ok_same}
use Rattle.sot_flight.specs.ListForms.{for_each_after}

-- ---- what was found for each of a list

at_taken : {A : Type 0} (xs : List A) (n k : ℕ) (x : A) → At (take n xs) k x → At xs k x
at_taken xs zero k x h = absurd (none-some x h)
at_taken [] (suc n) k x h = h
at_taken (y ∷ ys) (suc n) zero x h = h
at_taken (y ∷ ys) (suc n) (suc k) x h = at_taken ys n k x h

at_end : {A : Type 0} (xs : List A) (x : A) → At (xs ++ x ∷ []) (length xs) x
at_end [] x = refl
at_end (y ∷ ys) x = at_end ys x

take_less : {A : Type 0} (xs front : List A) (x : A) (n : ℕ) → take n xs ≡ front ++ x ∷ [] → length (front ++ x ∷ []) ≡ n → take (length front) xs ≡ front
take_less xs [] x n is size = refl
take_less [] (y ∷ front) x zero is size = cc
take_less [] (y ∷ front) x (suc n) is size = cc
take_less (z ∷ xs) (y ∷ front) x zero is size = cc
take_less (z ∷ xs) (y ∷ front) x (suc n) is size =
    let head : z ≡ y = cc in
    let rest : take n xs ≡ front ++ x ∷ [] = cc in
    ap₂ (λ a as'. a ∷ as') head (take_less xs front x n rest (omega (arith, size)))

module _ {X A : Type 0} (f : List A → X → Says A) where
  pub found_len : (done : List A) (xs : List X) (ys : List A) → for_each_after f done xs ≡ Ok ys → length ys ≡ length done + length xs
  unfolding for_each_after
  found_len done [] ys h = omega (arith, ap length (ok_same done ys h))
  found_len done (x ∷ xs) ys h =
      let b = bind_ok (f done x) _ ys h in
      omega (arith, found_len (done ++ b.0 ∷ []) xs ys b.2, length-append done (b.0 ∷ []))

  pub found_front : (done : List A) (xs : List X) (ys : List A) → for_each_after f done xs ≡ Ok ys → take (length done) ys ≡ done
  unfolding for_each_after
  found_front done [] ys h = (let e = ok_same done ys h in rw (← e) (take_all (length done) done (omega arith)))
  found_front done (x ∷ xs) ys h =
      let b = bind_ok (f done x) _ ys h in
      take_less ys done b.0 (length (done ++ b.0 ∷ [])) (found_front (done ++ b.0 ∷ []) xs ys b.2) refl

  found_from : (done : List A) (xs : List X) (ys : List A) → for_each_after f done xs ≡ Ok ys → (i : ℕ) (x : X) (y : A) → At xs i x → At ys (length done + i) y
      → f (take (length done + i) ys) x ≡ Ok y
  unfolding for_each_after
  found_from done [] ys h i x y at is = absurd (none-some x at)
  found_from done (w ∷ xs) ys h zero x y at is =
      let b = bind_ok (f done w) _ ys h in
      let e : length done + 0 ≡ length done = omega arith in
      let front = found_front done (w ∷ xs) ys h in
      let here = at_taken ys _ (length done) b.0 (subst (λ l. At l (length done) b.0) (sym (found_front (done ++ b.0 ∷ []) xs ys b.2)) (at_end done b.0)) in
      let same : b.0 ≡ y = at_same ys (length done) b.0 y here (ap (λ n. slice_get ys n) (sym e) ∙ is) in
      ap (λ n. f (take n ys) x) e ∙ ap (λ l. f l x) front ∙ ap (f done) (sym (same_Some w x at)) ∙ b.1 ∙ ap Ok same
  found_from done (w ∷ xs) ys h (suc i) x y at is =
      let b = bind_ok (f done w) _ ys h in
      let e : length (done ++ b.0 ∷ []) + i ≡ length done + suc i = omega (arith, length-append done (b.0 ∷ [])) in
      let more = found_from (done ++ b.0 ∷ []) xs ys b.2 i x y at (ap (λ n. slice_get ys n) e ∙ is) in
      ap (λ n. f (take n ys) x) (sym e) ∙ more

  -- what was found at a place was found after those before
  pub found_at : (xs : List X) (ys : List A) → for_each_after f [] xs ≡ Ok ys → (i : ℕ) (x : X) (y : A) → At xs i x → At ys i y → f (take i ys) x ≡ Ok y
  found_at xs ys h i x y at is =
      let e : length {A = A} [] + i ≡ i = omega arith in
      ap (λ n. f (take n ys) x) (sym e) ∙ found_from [] xs ys h i x y at (ap (λ n. slice_get ys n) e ∙ is)

-- ---- what was read of the items of a list

listed : Items → List Data
listed no_items = []
listed (item d ds) = d ∷ listed ds

listed_len : (ds : Items) → length (listed ds) ≡ items_len ds
unfolding listed
listed_len no_items = refl
listed_len (item d ds) = ap suc (listed_len ds)

named : {A : Type 0} → (List A → Data → Says A) → List A → Data → Says A
named f done d = part (decimal (length done)) (f done d)

each_as : {A : Type 0} (f : List A → Data → Says A) (done : List A) (ds : Items) → each_after f done ds ≡ for_each_after (named f) done (listed ds)
unfolding each_after for_each_after listed named
each_as f done no_items = refl
each_as {A = A} f done (item d ds) = go (part (decimal (length done)) (f done d)) (λ x. each_as f (done ++ x ∷ []) ds)
  where
    go : (says : Says A) → ((x : A) → each_after f (done ++ x ∷ []) ds
        ≡ for_each_after (λ done d. part (decimal (length done)) (f done d)) (done ++ x ∷ []) (listed ds))
        → (says >>= λ x. each_after f (done ++ x ∷ []) ds) ≡ (says >>= λ x.
        for_each_after (λ done d. part (decimal (length done)) (f done d)) (done ++ x ∷ []) (listed ds))
    go (Ok x) more = more x
    go (Err e) more = refl

module _ {A : Type 0} (f : List A → Data → Says A) (ds : Items) (ys : List A) (h : each_after f [] ds ≡ Ok ys) where
  -- there are as many as items
  pub read_len : length ys ≡ items_len ds
  read_len = omega (arith, found_len (named f) [] (listed ds) ys (sym (each_as f [] ds) ∙ h), listed_len ds)

  -- what was read at a place was read of an item, after those before
  pub read_at_place : (i : ℕ) (y : A) → At ys i y → (d : Data) × (f (take i ys) d ≡ Ok y)
  unfolding named
  read_at_place i y at =
      let lt : i < length (listed ds) = omega (arith, slice_get_within ys i y at, read_len, listed_len ds) in
      let d = at_below (listed ds) i lt in
      (d.0, part_ok (decimal (length (take i ys))) (f (take i ys) d.0) y (found_at (named f) (listed ds) ys (sym (each_as f [] ds) ∙ h) i d.0 y d.1 at))

  pub taken_len : (i : ℕ) (y : A) → At ys i y → length (take i ys) ≡ i
  taken_len i y at = length-take-le i ys (omega (arith, slice_get_within ys i y at))
