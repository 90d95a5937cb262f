-- Histories with one entry more.
use Rattle.std.proofs.Common.{◌≡◌, ℕ, suc, ◌<◌, inl, inr, Bool, true, false, ℤ, Option, List, [], ◌∷◌, ◌++◌, length, refl, sym, ap, ◌∙◌, subst, arith}
use Rattle.std.specs.Prelude.{slice_index_or, slice_set, ◌==◌, if◌then◌else◌}
use Rattle.std.proofs.lemmas.Bool.{cases_Bool, eqb-true, eqb-false}
use Rattle.std.proofs.lemmas.List.{get_or-set_same, get_or-set_other, length-append}
use Rattle.sot_lang.specs.Tables.{Tables}
use Rattle.sot_world.specs.HistoryEntry.{Logged, InputAt, FireAt, DecideAt, TickAt}
use Rattle.sot_flight.specs.Plans.{Plan}
use Rattle.sot_board.specs.Flown.{Position, Flies, Leads, FlownSoFar}
use Rattle.sot_board.specs.Versions.{drafts_of, writes_topic, version}

pub leads_more : (p : Tables) (j : ℕ) (f : Plan) (P : Position) (es : List Logged) (Q : Position) (e : Logged) (R : Position) → Leads p j f P es Q
    → Flies p j f Q e R → Leads p j f P (es ++ e ∷ []) R
leads_more p j f P [] Q e R led flies = (R, subst (λ S. Flies p j f S e R) (sym led) flies, refl)
leads_more p j f P (x ∷ es) Q e R led flies = (led.0, led.1, leads_more p j f led.0 es Q e R led.2 flies)

pub flown_more : (p : Tables) (j : ℕ) (f : Plan) (es : List Logged) (Q : Position) (e : Logged) (R : Position) → FlownSoFar p j f es Q → Flies p j f Q e R
    → FlownSoFar p j f (es ++ e ∷ []) R
flown_more p j f es Q e R flown flies = (flown.0, flown.1, leads_more p j f flown.0 es Q e R flown.2 flies)

swap_if : (a b : Bool) (v : ℕ) → (if a then suc (if b then suc v else v) else (if b then suc v else v))
    ≡ (if b then suc (if a then suc v else v) else (if a then suc v else v))
swap_if true true v = refl
swap_if true false v = refl
swap_if false true v = refl
swap_if false false v = refl

pub version_more : (p : Tables) (k : ℕ) (es : List Logged) (e : Logged)
    → version p k (es ++ e ∷ []) ≡ (if writes_topic p k e then suc (version p k es) else version p k es)
version_more p k [] e = refl
version_more p k (x ∷ es) e =
    ap (λ v. if writes_topic p k x then suc v else v) (version_more p k es e) ∙ swap_if (writes_topic p k x) (writes_topic p k e) (version p k es)

if_append : (b : Bool) (d : List (Option ℤ)) (xs ys : List (List (Option ℤ))) → (if b then d ∷ (xs ++ ys) else (xs ++ ys)) ≡ (if b then d ∷ xs else xs) ++ ys
if_append true d xs ys = refl
if_append false d xs ys = refl

pub drafts_append : (n : ℕ) (es fs : List Logged) → drafts_of n (es ++ fs) ≡ drafts_of n es ++ drafts_of n fs
drafts_append n [] fs = refl
drafts_append n (FireAt time k draft enabled ∷ es) fs =
    ap (λ r. if n == k then draft ∷ r else r) (drafts_append n es fs) ∙ if_append (n == k) draft (drafts_of n es) (drafts_of n fs)
drafts_append n (InputAt time topic value ∷ es) fs = drafts_append n es fs
drafts_append n (DecideAt time m mode ∷ es) fs = drafts_append n es fs
drafts_append n (TickAt time noise states ∷ es) fs = drafts_append n es fs

-- the count of a node's firings with one firing more
pub count_firing :
    (n k time : ℕ) (draft : List (Option ℤ)) (enabled : Bool) (es : List Logged) (fired : List ℕ) → n < length fired
    → slice_index_or fired n 0 ≡ length (drafts_of n es)
    → slice_index_or (slice_set fired k (suc (slice_index_or fired k 0))) n 0 ≡ length (drafts_of n (es ++ FireAt time k draft enabled ∷ []))
count_firing n k time draft enabled es fired lt was =
    let all = drafts_append n es (FireAt time k draft enabled ∷ []) in
    let size = ap length all ∙ length-append (drafts_of n es) (drafts_of n (FireAt time k draft enabled ∷ [])) in
    elim (cases_Bool (n == k)) [
      | inl equal ↦
          let same : n ≡ k = eqb-true n k equal in
          let one : length (drafts_of n (FireAt time k draft enabled ∷ [])) ≡ 1 = ap (λ b. length (if b then draft ∷ [] else [])) equal in
          subst (λ i. slice_index_or (slice_set fired i (suc (slice_index_or fired i 0))) n 0 ≡ length (drafts_of n (es ++ FireAt time k draft enabled ∷ [])))
          same
          (get_or-set_same fired n (suc (slice_index_or fired n 0)) 0 lt ∙ omega (arith, was, size, one))
      | inr other ↦
          let none : length (drafts_of n (FireAt time k draft enabled ∷ [])) ≡ 0 = ap (λ b. length (if b then draft ∷ [] else [])) other in
          get_or-set_other fired k n (suc (slice_index_or fired k 0)) 0 (λ e. eqb-false n k other e) ∙ omega (arith, was, size, none)
    ]
