-- The text of a tick tells the disturbances and the states.
use Rattle.std.proofs.Common.{◌≡◌, ℕ, ℤ, ◌≤◌, Bool, false, List, [], ◌∷◌, ◌++◌, length, refl, sym, ap, ap₂, ◌∙◌, arith, take, drop, append_assoc, codes}
use Rattle.std.proofs.Common.{length-drop, take-append-drop}
use Rattle.std.proofs.lemmas.List.{append_cancel_left}
use Rattle.sot_lang.specs.declared.tables.PlantInfo.{PlantInfo}
use Rattle.sot_trace.specs.Numbers.{numbers}
use Rattle.sot_world.specs.Events.{noise_count}
use Rattle.sot_board.specs.Counts.{state_count}
use Rattle.sot_trace.specs.Moves.{move_text, moves_text}
use Rattle.sot_trace.proofs.Splits.{Stops, cut_same}
use Rattle.sot_trace.proofs.NumberTexts.{in_numbers, numbers_in, numbers_same}

pub moves_stop : (q : ℕ → Bool) → q 32 ≡ false → (ks : List PlantInfo) (noise states : List ℤ) → Stops q (moves_text ks noise states)
moves_stop q blank [] noise states = tt
moves_stop q blank (k ∷ ks) noise states = blank

pub move_opens : (k : PlantInfo) (a b : List ℤ) (x : List ℕ) → move_text k a b ++ x ≡ 32 ∷ (k.name ++ (40 ∷ (numbers a ++ (41 ∷ 61 ∷ (numbers b ++ x)))))
move_opens k a b x =
    ap (λ y. 32 ∷ y) (append_assoc k.name (codes "(" ++ (numbers a ++ (codes ")=" ++ numbers b))) x
    ∙ ap (λ y. k.name ++ (40 ∷ y)) (append_assoc (numbers a) (codes ")=" ++ numbers b) x))

no_numbers : (xs : List ℤ) → length xs ≤ 0 → xs ≡ []
no_numbers [] few = refl
no_numbers (x ∷ xs) few = absurd (omega arith)

-- the fronts and the rests of two lists
whole_same : (n : ℕ) (xs ys : List ℤ) → take n xs ≡ take n ys → drop n xs ≡ drop n ys → xs ≡ ys
whole_same n xs ys front rest = sym (take-append-drop n xs) ∙ ap₂ (λ a b. a ++ b) front rest ∙ take-append-drop n ys

-- the text of one plant and what follows it
move_same : (k : PlantInfo) (a b c d : List ℤ) (x y : List ℕ) → Stops in_numbers x → Stops in_numbers y → move_text k a b ++ x ≡ move_text k c d ++ y
    → (a ≡ c) × (b ≡ d) × (x ≡ y)
move_same k a b c d x y sx sy e =
    let whole = sym (move_opens k a b x) ∙ e ∙ move_opens k c d y in
    let inner : numbers a ++ (41 ∷ 61 ∷ (numbers b ++ x)) ≡ numbers c ++ (41 ∷ 61 ∷ (numbers d ++ y)) =
    ap (drop 1) (append_cancel_left k.name _ _ (ap (drop 1) whole)) in
    let first = cut_same in_numbers (numbers a) (numbers c) (41 ∷ 61 ∷ (numbers b ++ x)) (41 ∷ 61 ∷ (numbers d ++ y)) (numbers_in a) (numbers_in c) refl refl
    inner in
    let second = cut_same in_numbers (numbers b) (numbers d) x y (numbers_in b) (numbers_in d) sx sy (ap (drop 2) first.1) in
    (numbers_same a c first.0, numbers_same b d second.0, second.1)

-- no number stands past those of the last plant
pub moves_same : (ks : List PlantInfo) (v w s t : List ℤ) → length v ≤ noise_count ks → length w ≤ noise_count ks → length s ≤ state_count ks
    → length t ≤ state_count ks
    → moves_text ks v s ≡ moves_text ks w t → (v ≡ w) × (s ≡ t)
moves_same [] v w s t lv lw ls lt e = (no_numbers v lv ∙ sym (no_numbers w lw), no_numbers s ls ∙ sym (no_numbers t lt))
moves_same (k ∷ ks) v w s t lv lw ls lt e =
    let n : ℕ = length k.noise.items in
    let m : ℕ = length k.states.items in
    let one = move_same k (take n v) (take m s) (take n w) (take m t) (moves_text ks (drop n v) (drop m s)) (moves_text ks (drop n w) (drop m t))
    (moves_stop in_numbers refl ks _ _) (moves_stop in_numbers refl ks _ _) e in
    let more = moves_same ks (drop n v) (drop n w) (drop m s) (drop m t) (omega (arith, length-drop n v)) (omega (arith, length-drop n w))
    (omega (arith, length-drop m s)) (omega (arith, length-drop m t)) one.2 in
    (whole_same n v w one.0 more.0, whole_same m s t one.1 more.1)
