-- What the plant on a line comes to.
use Rattle.std.proofs.Common.{◌≡◌, ℕ, zero, suc, ◌≤◌, ℤ, pos, negsuc, ◌≤ℤ◌, ◌+ℤ◌, true, ◌⊎◌, inl, inr, ⊎_elim, List, [], ◌∷◌, Ok, Err, refl, sym, arith}
use Rattle.std.proofs.lemmas.Bool.{cases_Bool}
use Rattle.sot_text.specs.declared.token.Span.{Span}
use Rattle.sot_lang.specs.Ranges.{bounds}
use Rattle.sot_lang.specs.SafeRegions.{AreSafe}
use Rattle.std.proofs.lemmas.Int.{ints}
use Rattle.std.specs.Global.{Global}
use Rattle.sot_box.specs.Boxes.{IsWithin}
use Rattle.sot_lang.specs.Values.{Outcome, word, is_word, one_more}
use Rattle.sot_lang.specs.Ticks.{next_state}
use Rattle.sot_lang.specs.Reach.{TicksTo, ComesTo, HeldReach}
use Rattle.sot_lang.specs.Line.{somewhere, line, pos_plant}
use Rattle.sot_lang.specs.BodyExamples.{ReachOfTheLine}

is_word_of : (at : Span) (z y : ℤ) → word at z ≡ Ok y → z ≡ y
is_word_of at z y e =
    ⊎_elim
    (λ t. let h = rw t at e in same_Ok h)
    (λ f. let h = rw f at e in cc)
    (cases_Bool (is_word z))
  where
    same_Ok : {a b : ℤ} → ◌≡◌ {A = Outcome ℤ} (Ok a) (Ok b) → a ≡ b
    same_Ok e = cc

one_word : (o : Outcome ℤ) (y : ℤ) → one_more o (Ok []) ≡ Ok (y ∷ []) → o ≡ Ok y
one_word (Ok x) y e = cc
one_word (Err t) y e = cc

module _ (g : Global) where
  -- one tick moves by the command and a disturbance of at most 1
  moves : (s c y : ℤ) (w : List ℤ) → is_word (s +ℤ c) ≡ true → IsWithin (bounds (pos_plant g)) w → Ok (y ∷ []) ≡ next_state (pos_plant g) (s ∷ []) (c ∷ []) [] w
      → (x : ℤ) × (negsuc 0 ≤ℤ x) × (x ≤ℤ pos 1) × ((s +ℤ c) +ℤ x ≡ y)
  unfolding next_state
  moves s c y [] fits w e = absurd w
  moves s c y (x ∷ z ∷ zs) fits w e = absurd w.2
  moves s c y (x ∷ []) fits w e = (x, w.0, w.1, is_word_of somewhere ((s +ℤ c) +ℤ x) y (one_word (word somewhere ((s +ℤ c) +ℤ x)) y (rw fits at (sym e))))

  comes : (s c y : ℤ) → is_word (s +ℤ c) ≡ true → HeldReach (line g) (pos_plant g) (s ∷ []) (c ∷ []) 1 (Ok (y ∷ []))
      → (s ≡ y) ⊎ ((x : ℤ) × (negsuc 0 ≤ℤ x) × (x ≤ℤ pos 1) × ((s +ℤ c) +ℤ x ≡ y))
  comes s c y fits h = steps h.0 h.1 h.2
    where
      none_seen : (seen : List (List ℤ)) → AreSafe (line g).modules [] seen → seen ≡ []
      none_seen [] a = refl
      none_seen (x ∷ xs) a = absurd a

      steps : (j : ℕ) → j ≤ 1 → ComesTo (line g) (pos_plant g) (λ d. d ≡ c ∷ []) (s ∷ []) j (Ok (y ∷ []))
          → (s ≡ y) ⊎ ((x : ℤ) × (negsuc 0 ≤ℤ x) × (x ≤ℤ pos 1) × ((s +ℤ c) +ℤ x ≡ y))
      steps zero le h = inl (let e : Ok (y ∷ []) ≡ Ok (s ∷ []) = h in cc)
      steps (suc zero) le h =
          let t = h.2 in
          let from : h.0 ≡ s ∷ [] = (let e : Ok h.0 ≡ Ok (s ∷ []) = h.1 in cc) in
          inr (moves s c y t.w fits t.bounded (rw (from, t.allowed, none_seen t.seen t.safe) at t.is))
      steps (suc (suc j)) le h = absurd (omega (arith, le))

  held : (s : ℤ) (o : Outcome (List ℤ)) → o ≡ next_state (pos_plant g) (s ∷ []) (pos 2 ∷ []) [] (pos 1 ∷ [])
      → TicksTo (line g) (pos_plant g) (λ d. d ≡ pos 2 ∷ []) (s ∷ []) o
  held s o e = record { c = pos 2 ∷ []; seen = []; w = pos 1 ∷ []; allowed = refl; safe = tt; bounded = (omega (arith, ints), omega (arith, ints), tt); is = e }

  pub reach_of_the_line : ReachOfTheLine g
  unfolding next_state
  reach_of_the_line = (
    (0, omega arith, refl),
    (2, omega arith, (pos 13 ∷ [], (pos 10 ∷ [], refl, held (pos 10) _ refl), held (pos 13) _ refl)),
    (
      1,
      omega arith,
      (
        pos 10 ∷ [],
        refl,
        record {
          c = pos 2 ∷ [];
          seen = [];
          w = pos 1 ∷ [];
          allowed = (omega (arith, ints), omega (arith, ints), tt);
          safe = tt;
          bounded = (omega (arith, ints), omega (arith, ints), tt);
          is = refl;
        },
      ),
    ),
    (λ h. ⊎_elim (λ e. omega (arith, ints, e)) (λ x. omega (arith, ints, x.1, x.2, x.3)) (comes (pos 10) (pos 2) (pos 14) refl h)),
    (λ h. ⊎_elim (λ e. omega (arith, ints, e)) (λ x. omega (arith, ints, x.1, x.2, x.3)) (comes (pos 10) (pos 0) (pos 13) refl h)),
  )
