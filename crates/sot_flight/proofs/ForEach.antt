-- Something for each of a list, as a loop finds it.
use Rattle.std.proofs.Common.{◌≡◌, ℕ, ◌+◌, ◌<◌, ◌≤◌, List, [], ◌∷◌, ◌++◌, length, map, drop, get_or, Ok, refl, sym, ap, subst, ◌∙◌}
use Rattle.std.proofs.lemmas.List.{map-append}
use Rattle.std.proofs.Math.ListN.{drop_of_length-le}
use Rattle.std.proofs.lemmas.Option.{slice_get_read}
use Rattle.sot_lists.proofs.Places.{drop_at}
use Rattle.sot_json.specs.declared.fault.JsonFail.{JsonFail}
use Rattle.sot_json.specs.Says.{Says}
use Rattle.sot_json.specs.Answers.{Fails}
use Rattle.sot_cert.proofs.Modules.{bind_fails}
use Rattle.sot_flight.specs.ListForms.{for_each_after}

drop_past : {X : Type 0} (xs : List X) (i : ℕ) → length xs ≤ i → drop i xs ≡ []
drop_past xs i le = drop_of_length-le xs le

module _ {X A : Type 0} (f : List A → X → Says A) where
  -- for x at place i there is y
  pub found_on : (done : List A) (xs : List X) (i : ℕ) (x : X) (y : A) (total : Says (List A)) → i < length xs → x ≡ get_or xs i x → f done x ≡ Ok y
      → for_each_after f done (drop i xs) ≡ total → for_each_after f (done ++ y ∷ []) (drop (i + 1) xs) ≡ total
  unfolding for_each_after
  found_on done xs i x y total lt is h so_far =
      let one : for_each_after f done (drop i xs) ≡ for_each_after f (done ++ y ∷ []) (drop (i + 1) xs) =
      rw (drop_at xs i x (slice_get_read xs (length xs) i x refl lt is), h) refl in
      sym one ∙ so_far

  -- for x at place i there is a fault
  pub found_end : (done : List A) (xs : List X) (i : ℕ) (x : X) (r : JsonFail) (total : Says (List A)) → i < length xs → x ≡ get_or xs i x → Fails r (f done x)
      → for_each_after f done (drop i xs) ≡ total → Fails r total
  unfolding for_each_after
  found_end done xs i x r total lt is h so_far =
      let one : Fails r (for_each_after f done (drop i xs)) = rw (drop_at xs i x (slice_get_read xs (length xs) i x refl lt is)) (bind_fails r _ _ h) in
      subst (λ (s : Says (List A)). Fails r s) so_far one

  -- all were found
  pub found_all : (done : List A) (xs : List X) (i : ℕ) (total : Says (List A)) → length xs ≤ i → for_each_after f done (drop i xs) ≡ total → total ≡ Ok done
  unfolding for_each_after
  found_all done xs i total le so_far =
      let one : for_each_after f done (drop i xs) ≡ Ok done = rw (drop_past xs i le) refl in
      sym so_far ∙ one

module _ {X A B : Type 0} (of : B → A) (f : List A → X → Says A) where
  -- the same, where the loop keeps what stands for the things found
  pub kept_on : (done : List B) (xs : List X) (i : ℕ) (x : X) (y : B) (total : Says (List A)) → i < length xs → x ≡ get_or xs i x
      → f (map of done) x ≡ Ok (of y)
      → for_each_after f (map of done) (drop i xs) ≡ total → for_each_after f (map of (done ++ y ∷ [])) (drop (i + 1) xs) ≡ total
  kept_on done xs i x y total lt is h so_far =
      ap (λ l. for_each_after f l (drop (i + 1) xs)) (map-append of done (y ∷ [])) ∙ found_on f (map of done) xs i x (of y) total lt is h so_far
