-- Items that a loop reads one after another.
use Rattle.std.proofs.Common.{◌≡◌, ℕ, zero, suc, ◌-◌, ◌<◌, Bool, true, false, List, [], ◌∷◌, ◌++◌, Ok, Err, refl, sym, ap, ◌∙◌, append_assoc, length, map}
use Rattle.std.proofs.Common.{subst, arith}
use Rattle.std.proofs.lemmas.List.{append-nil, map_push}
use Rattle.sot_text.specs.Reading.{Lexeme}
use Rattle.sot_expression.specs.declared.fail.Fail.{Fail}
use Rattle.sot_expression.specs.declared.fail.Fail.TheVariants.{Token, Deep, Memory}
use Rattle.sot_expression.specs.Readers.{Read, Fault, stuck, deep, ◌>>=◌}
use Rattle.sot_expression.specs.Returned.{Fails}
use Rattle.sot_parser.proofs.Shorter.{Short}
use Rattle.sot_expression.specs.Lexemes.{begins, is_sign}
use Rattle.sot_parser.specs.ListReaders.{repeated, all_at, further_at, separated_at}

-- what was read before, and what is still read
abbrev pub with_front : {A : Type 0} → List A → Read (List A) → Read (List A)
with_front front read = read >>= λ x. Ok (front ++ x.0, x.1)

regroup : {A : Type 0} (front : List A) (x : A) (read : Read (List A))
    → with_front front (read >>= λ more. Ok (x ∷ more.0, more.1)) ≡ with_front (front ++ x ∷ []) read
regroup {A} front x (Ok more) = ap (λ (xs : List A). Ok (xs, more.1)) (simp append_assoc)
regroup front x (Err e) = refl

module _ {A : Type 0} (goes_on : List Lexeme → Bool) (item : List Lexeme → Read A) (total : Read (List A)) where
  -- a loop has read these items and stands here; the fuel is enough for what is left
  pub record Loop (front : List A) (ts : List Lexeme) : Type 0 where
    pub fuel : ℕ
    pub enough : length ts < fuel
    pub so_far : with_front front (repeated goes_on item fuel ts) ≡ total

  -- one more item
  pub again : (front : List A) (ts after : List Lexeme) (x : A) → goes_on ts ≡ true → item ts ≡ Ok (x, after) → length after < length ts → Loop front ts
      → Loop (front ++ x ∷ []) after
  unfolding repeated
  again front ts after x more one shrinks l =
      let less : l.fuel ≡ suc (l.fuel - 1) = omega (arith, l.enough) in
      let step : with_front front (repeated goes_on item l.fuel ts) ≡ with_front (front ++ x ∷ []) (repeated goes_on item (l.fuel - 1) after) =
      ap (λ n. with_front front (repeated goes_on item n ts)) less ∙ rw (more, one) (regroup front x (repeated goes_on item (l.fuel - 1) after)) in
      record { fuel = l.fuel - 1; enough = omega (arith, l.enough, shrinks); so_far = sym step ∙ l.so_far }

  ends : (n : ℕ) (ts : List Lexeme) → goes_on ts ≡ false → repeated goes_on item n ts ≡ Ok ([], ts)
  unfolding repeated
  ends zero ts other = refl
  ends (suc n) ts other = rw other refl

  -- another token follows
  pub stops : (front : List A) (ts : List Lexeme) → goes_on ts ≡ false → Loop front ts → total ≡ Ok (front, ts)
  stops front ts other l =
      let end : with_front front (repeated goes_on item l.fuel ts) ≡ Ok (front, ts) =
      rw (ends l.fuel ts other) (ap (λ (xs : List A). Ok (xs, ts)) (append-nil front)) in
      sym l.so_far ∙ end

  breaks : (front : List A) (ts : List Lexeme) (e : Fault × List Lexeme) → goes_on ts ≡ true → item ts ≡ Err e → Loop front ts → total ≡ Err e
  unfolding repeated
  breaks front ts e more none l =
      let less : l.fuel ≡ suc (l.fuel - 1) = omega (arith, l.enough) in
      let end : with_front front (repeated goes_on item l.fuel ts) ≡ Err e = ap (λ n. with_front front (repeated goes_on item n ts)) less
      ∙ rw (more, none) refl in
      sym l.so_far ∙ end

  -- an item is at fault
  pub breaks_so : (front : List A) (ts after : List Lexeme) (e : Fail) → goes_on ts ≡ true → Fails e after (item ts) → Loop front ts → Fails e after total
  breaks_so front ts after Token more fails l = breaks front ts (stuck, after) more fails l
  breaks_so front ts after Deep more fails l = breaks front ts (deep, after) more fails l
  breaks_so front ts after Memory more fails l = tt

-- before the first item
pub begun : {A : Type 0} (goes_on : List Lexeme → Bool) (item : List Lexeme → Read A) (ts : List Lexeme) → Loop goes_on item (all_at goes_on item ts) [] ts
unfolding all_at
begun goes_on item ts = record { fuel = suc (length ts); enough = omega arith; so_far = unchanged (repeated goes_on item (suc (length ts)) ts) }
  where
    unchanged : {A : Type 0} (read : Read (List A)) → with_front [] read ≡ read
    unchanged (Ok x) = refl
    unchanged (Err e) = refl

-- behind the first item of a list
pub begun_separated : {A : Type 0} (text : List ℕ) (item : List Lexeme → Read A) (ts after : List Lexeme) (x : A) → item ts ≡ Ok (x, after)
    → Loop (begins (is_sign text)) (further_at text item) (separated_at text item ts) (x ∷ []) after
unfolding separated_at all_at
begun_separated text item ts after x one = record {
  fuel = suc (length after);
  enough = omega arith;
  so_far =
      sym (ap (λ m. m >>= λ first. repeated (begins (is_sign text)) (further_at text item) (suc (length first.1)) first.1 >>= λ more.
      Ok (first.0 ∷ more.0, more.1)) one);
}

-- the first item is at fault
pub separated_fails : {A : Type 0} (text : List ℕ) (item : List Lexeme → Read A) (ts after : List Lexeme) (e : Fail) → Fails e after (item ts)
    → Fails e after (separated_at text item ts)
unfolding separated_at
separated_fails text item ts after Token fails =
    ap (λ m. m >>= λ first. all_at (begins (is_sign text)) (further_at text item) first.1 >>= λ more. Ok (first.0 ∷ more.0, more.1)) fails
separated_fails text item ts after Deep fails =
    ap (λ m. m >>= λ first. all_at (begins (is_sign text)) (further_at text item) first.1 >>= λ more. Ok (first.0 ∷ more.0, more.1)) fails
separated_fails text item ts after Memory fails = tt

-- one more item, seen by what it stands for
pub again_seen : {X A : Type 0} (view : X → A) (goes_on : List Lexeme → Bool) (item : List Lexeme → Read A) → Short item
    → (total : Read (List A)) (front : List X) (x : X) (ts after : List Lexeme)
    → goes_on ts ≡ true → item ts ≡ Ok (view x, after) → Loop goes_on item total (map view front) ts
    → Loop goes_on item total (map view (front ++ x ∷ [])) after
again_seen view goes_on item short_item total front x ts after more one l =
    subst (λ ys. Loop goes_on item total ys after) (sym (map_push view front x))
    (again goes_on item total (map view front) ts after (view x) more one (short_item ts (view x, after) one) l)
