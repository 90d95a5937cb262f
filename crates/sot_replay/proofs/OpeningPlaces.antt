-- The header and the start lines, place by place.
use Rattle.std.proofs.Common.{◌≡◌, ◌∙◌, inl, inr, ℕ, zero, suc, ◌+◌, ◌-◌, ◌<◌, ℤ, List, [], ◌∷◌, ◌++◌, Some, length, take, drop, refl, sym, ap, subst, arith}
use Rattle.std.proofs.Common.{append_assoc}
use Rattle.std.proofs.Math.Seq.{take-append_seam, drop-append_seam, take-length}
use Rattle.std.proofs.lemmas.List.{length-take-le}
use Rattle.std.proofs.lemmas.Option.{none-some, same_Some}
use Rattle.sot_lists.specs.Places.{At}
use Rattle.sot_lists.proofs.Places.{at_same}
use Rattle.sot_lang.specs.declared.tables.PlantInfo.{PlantInfo}
use Rattle.sot_lang.specs.Tables.{Tables}
use Rattle.sot_flight.specs.Plans.{Plan}
use Rattle.sot_trace.specs.Lines.{header, start_line, start_lines}
use Rattle.sot_replay.specs.Replays.{opening_lines}
use Rattle.sot_replay.specs.Openings.{RefusesOpening, IsOpeningRefused}
use Rattle.sot_replay.specs.declared.fail.LineKind.{LineKind}
use Rattle.sot_replay.specs.declared.fail.LineKind.TheVariants.{Missing}

starts_count : (plants : List PlantInfo) (points : List (List ℤ)) → length points ≡ length plants → length (start_lines plants points) ≡ length plants
starts_count [] points same = refl
starts_count (k ∷ ks) [] same = absurd (omega (arith, same))
starts_count (k ∷ ks) (x ∷ xs) same = ap suc (starts_count ks xs (omega (arith, same)))

start_at : (plants : List PlantInfo) (points : List (List ℤ)) (k : ℕ) (plant : PlantInfo) (point : List ℤ) → At plants k plant → At points k point
    → At (start_lines plants points) k (start_line plant point)
start_at [] points k plant point at_k at_x = absurd (none-some plant at_k)
start_at (q ∷ ks) [] k plant point at_k at_x = absurd (none-some point at_x)
start_at (q ∷ ks) (x ∷ xs) zero plant point at_k at_x = (let a = same_Some q plant at_k in let b = same_Some x point at_x in λ i. Some (start_line (a i) (b i)))
start_at (q ∷ ks) (x ∷ xs) (suc k) plant point at_k at_x = start_at ks xs k plant point at_k at_x

-- there are a header and a line for each plant
pub opening_count : (p : Tables) (f : Plan) → length f.start ≡ length p.plants → length (opening_lines p f) ≡ suc (length p.plants)
opening_count p f same = ap suc (starts_count p.plants f.start same)

-- the one in the first place
pub first_is : (p : Tables) (f : Plan) (place : ℕ) (line : List ℕ) → place ≡ 0 → At (opening_lines p f) place line → line ≡ header
first_is p f place line first at = sym (same_Some header line (subst (λ n. At (opening_lines p f) n line) first at))

-- .. and in a later one
pub later_is :
    (p : Tables) (f : Plan) (place : ℕ) (plant : PlantInfo) (point : List ℤ) (line : List ℕ) → (place ≡ 0 → ⊥) → At p.plants (place - 1) plant
    → At f.start (place - 1) point → At (opening_lines p f) place line → line ≡ start_line plant point
later_is p f place plant point line later at_k at_x at =
    let next : place ≡ suc (place - 1) = omega (arith, later) in
    let here : At (start_lines p.plants f.start) (place - 1) line = subst (λ n. At (opening_lines p f) n line) next at in
    at_same (start_lines p.plants f.start) (place - 1) line (start_line plant point) here (start_at p.plants f.start (place - 1) plant point at_k at_x)

-- one line more of the front
further : (xs : List (List ℕ)) (n : ℕ) (x : List ℕ) → At xs n x → take (suc n) xs ≡ take n xs ++ x ∷ []
further [] n x at = absurd (none-some x at)
further (y ∷ xs) zero x at = (let same = same_Some y x at in ap (λ z. z ∷ []) same)
further (y ∷ xs) (suc n) x at = ap (λ l. y ∷ l) (further xs n x at)

one_further : (xs : List (List ℕ)) (n : ℕ) (x : List ℕ) → At xs n x → take (n + 1) xs ≡ take n xs ++ x ∷ []
one_further xs n x at = (let one : n + 1 ≡ suc n = omega arith in ap (λ k. take k xs) one ∙ further xs n x at)

module _ (p : Tables) (f : Plan) (lines left : List (List ℕ)) (place : ℕ) (is : lines ≡ take place (opening_lines p f) ++ left)
    (inside : place < length (opening_lines p f)) where
  size : length (take place (opening_lines p f)) ≡ place
  size = length-take-le place (opening_lines p f) (omega (arith, inside))

  front : take place lines ≡ take place (opening_lines p f)
  front = ap (take place) is ∙ ap (λ n. take n (take place (opening_lines p f) ++ left)) (sym size) ∙ take-append_seam (take place (opening_lines p f)) left

  rest : drop place lines ≡ left
  rest = ap (drop place) is ∙ ap (λ n. drop n (take place (opening_lines p f) ++ left)) (sym size) ∙ drop-append_seam (take place (opening_lines p f)) left

  -- the lines stop there
  pub opening_stops : left ≡ [] → IsOpeningRefused p f lines place Missing
  opening_stops none = record { inside = inside; front = front; why = inl (rest ∙ none, refl) }

  -- .. or another one stands there
  pub opening_differs : (line : List ℕ) (more : List (List ℕ)) (kind : LineKind) → left ≡ line ∷ more → (At (opening_lines p f) place line → ⊥)
      → RefusesOpening p place line kind → IsOpeningRefused p f lines place kind
  opening_differs line more kind here other why = record { inside = inside; front = front; why = inr (line, more, rest ∙ here, other, why) }

  -- .. or the one that has to
  pub opening_goes : (line : List ℕ) (more : List (List ℕ)) → left ≡ line ∷ more → At (opening_lines p f) place line
      → lines ≡ take (place + 1) (opening_lines p f) ++ more
  opening_goes line more here at =
      is ∙ ap (λ l. take place (opening_lines p f) ++ l) here ∙ sym (append_assoc (take place (opening_lines p f)) (line ∷ []) more)
      ∙ ap (λ l. l ++ more) (sym (one_further (opening_lines p f) place line at))

-- behind the last place all of them stand there
pub opening_whole : (p : Tables) (f : Plan) (lines left : List (List ℕ)) (place : ℕ) → lines ≡ take place (opening_lines p f) ++ left
    → place ≡ length (opening_lines p f) → lines ≡ opening_lines p f ++ left
opening_whole p f lines left place is all = is ∙ ap (λ n. take n (opening_lines p f) ++ left) all ∙ ap (λ l. l ++ left) (take-length (opening_lines p f))
