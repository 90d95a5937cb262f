-- Rows read one after another, of which the loop keeps the lists.
use Rattle.std.proofs.Common.{◌≡◌, ℕ, ◌+◌, ◌<◌, ◌≤◌, List, [], ◌∷◌, ◌++◌, length, map, drop, get_or, Ok, sym, ap, subst, ◌∙◌, decimal}
use Rattle.std.proofs.lemmas.List.{length-map, map-append}
use Rattle.serde_json.specs.Data.{Data}
use Rattle.serde_json.specs.View.{view, items_view}
use Rattle.serde_json.specs.declared.value.Value.{Value}
use Rattle.sot_json.specs.declared.fault.JsonFail.{JsonFail}
use Rattle.sot_json.specs.Says.{Says}
use Rattle.sot_json.specs.Json.{each_after}
use Rattle.sot_json.specs.Answers.{Fails, IsUnder}
use Rattle.sot_json.proofs.Lists.{goes_on, ends, is_done}

module _ {A B : Type 0} (of : B → A) where
  -- the item v at place i was read as x, which the loop keeps as y
  pub rows_go_on : (f : List A → Data → Says A) (done : List B) (vs : List Value) (i : ℕ) (v : Value) (y : B) (total : Says (List A)) → i < length vs
      → v ≡ get_or vs i v → f (map of done) (view v) ≡ Ok (of y)
      → each_after f (map of done) (items_view (drop i vs)) ≡ total → each_after f (map of (done ++ y ∷ [])) (items_view (drop (i + 1) vs)) ≡ total
  rows_go_on f done vs i v y total lt is h so_far =
      ap (λ l. each_after f l (items_view (drop (i + 1) vs))) (map-append of done (y ∷ [])) ∙ goes_on f (map of done) vs i v (of y) total lt is h so_far

  -- the item v at place i has a fault
  pub rows_end : (f : List A → Data → Says A) (done : List B) (vs : List Value) (i : ℕ) (v : Value) (e r : JsonFail) (total : Says (List A)) → i < length vs
      → v ≡ get_or vs i v → IsUnder (decimal (length done)) e r → Fails e (f (map of done) (view v))
      → each_after f (map of done) (items_view (drop i vs)) ≡ total → Fails r total
  rows_end f done vs i v e r total lt is below h so_far =
      ends f (map of done) vs i v e r total lt is (subst (λ n. IsUnder (decimal n) e r) (sym (length-map done of)) below) h so_far

  -- all items were read
  pub rows_done : (f : List A → Data → Says A) (done : List B) (vs : List Value) (i : ℕ) (total : Says (List A)) → length vs ≤ i
      → each_after f (map of done) (items_view (drop i vs)) ≡ total → total ≡ Ok (map of done)
  rows_done f done vs i total le so_far = is_done f (map of done) vs i total le so_far
