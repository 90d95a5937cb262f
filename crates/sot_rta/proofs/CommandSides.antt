-- The interval of a command, found scalar by scalar.
use Rattle.std.proofs.Common.{◌≡◌, ℕ, zero, suc, ◌<◌, List, [], ◌∷◌, ◌++◌, length, drop, get_or, Some, refl, sym, ap, ◌∙◌, arith, eqb, replicate, Bool, true}
use Rattle.std.proofs.Common.{false, subst}
use Rattle.std.specs.Prelude.{slice_get, if◌then◌else◌}
use Rattle.std.proofs.lemmas.Bool.{cond-true, cond-false, eq-eqb, ne_eqb}
use Rattle.std.proofs.lemmas.Option.{same_Some, none-some}
use Rattle.sot_box.specs.Sides.{Side}
use Rattle.sot_lang.specs.Tables.{Tables}
use Rattle.sot_lang.specs.Ranges.{range_of}
use Rattle.sot_iv.specs.declared.drafted.Drafted.{Drafted}
use Rattle.sot_iv.specs.declared.drafted.Drafted.TheVariants.{Absent, Maybe, Sure}
use Rattle.sot_tube.specs.Certified.{sure_interval, command_interval}

module _ (p : Tables) (k : ℕ) where
  pub drafted_here : (ws : List ℕ) (ds : List Drafted) (i : ℕ) (d : Drafted) → i < length ws → slice_get ds i ≡ Some d → get_or ws i 0 ≡ k
      → command_interval p (drop i ws) (drop i ds) k ≡ sure_interval (range_of p.scalars k) d
  drafted_here [] ds i d lt at e = absurd (omega arith)
  drafted_here (w ∷ ws) [] i d lt at e = absurd (none-some d at)
  drafted_here (w ∷ ws) (x ∷ ds) zero d lt at e =
      cond-true (eqb w k) (sure_interval (range_of p.scalars k) x) (command_interval p ws ds k) (eq-eqb w k e)
      ∙ ap (sure_interval (range_of p.scalars k)) (same_Some x d at)
  drafted_here (w ∷ ws) (x ∷ ds) (suc i) d lt at e = drafted_here ws ds i d (omega arith) at e

  none_left : (ws : List ℕ) → command_interval p ws [] k ≡ range_of p.scalars k
  none_left [] = refl
  none_left (w ∷ ws) = refl

  drop_none : (i : ℕ) → drop i (let none : List Drafted = [] in none) ≡ []
  drop_none zero = refl
  drop_none (suc i) = refl

  none_on : (ws vs : List ℕ) (i j : ℕ) → command_interval p ws (drop i (let none : List Drafted = [] in none)) k
      ≡ command_interval p vs (drop j (let none : List Drafted = [] in none)) k
  none_on ws vs i j =
      ap (λ l. command_interval p ws l k) (drop_none i) ∙ none_left ws
      ∙ sym (ap (λ l. command_interval p vs l k) (drop_none j) ∙ none_left vs)

  one_on : (ws : List ℕ) (ds : List Drafted) (i : ℕ) → i < length ws → (get_or ws i 0 ≡ k → ⊥)
      → command_interval p (drop i ws) (drop i ds) k ≡ command_interval p (drop (suc i) ws) (drop (suc i) ds) k
  one_on [] ds i lt ne = absurd (omega arith)
  one_on (w ∷ ws) [] i lt ne = none_on (drop i (w ∷ ws)) (drop i ws) i (suc i)
  one_on (w ∷ ws) (x ∷ ds) zero lt ne = cond-false (eqb w k) (sure_interval (range_of p.scalars k) x) (command_interval p ws ds k) (ne_eqb w k ne)
  one_on (w ∷ ws) (x ∷ ds) (suc i) lt ne = one_on ws ds i (omega arith) ne

  pub further : (ws : List ℕ) (ds : List Drafted) (i n : ℕ) → i < length ws → (get_or ws i 0 ≡ k → ⊥) → n ≡ suc i
      → command_interval p (drop i ws) (drop i ds) k ≡ command_interval p (drop n ws) (drop n ds) k
  further ws ds i n lt ne e =
      subst (λ j. command_interval p (drop i ws) (drop i ds) k ≡ command_interval p (drop j ws) (drop j ds) k) (sym e) (one_on ws ds i lt ne)

  pub not_sure : (d : Drafted) (whole : Side) → ((r : Side) → d ≡ Sure r → ⊥) → sure_interval whole d ≡ whole
  not_sure Absent whole no' = refl
  not_sure (Maybe r) whole no' = refl
  not_sure (Sure r) whole no' = absurd (no' r refl)

  absent_left : (ws : List ℕ) (n : ℕ) → command_interval p ws (replicate n Absent) k ≡ range_of p.scalars k
  absent_left ws zero = none_left ws
  absent_left [] (suc n) = refl
  absent_left (w ∷ ws) (suc n) = either (eqb w k) (absent_left ws n)
    where
      either : (b : Bool) → command_interval p ws (replicate n Absent) k ≡ range_of p.scalars k
          → (if b then range_of p.scalars k else command_interval p ws (replicate n Absent) k) ≡ range_of p.scalars k
      either true e = refl
      either false e = e

  -- slots past what is drafted say nothing
  pub padded : (ws : List ℕ) (ds : List Drafted) (n : ℕ) → command_interval p ws (ds ++ replicate n Absent) k ≡ command_interval p ws ds k
  padded ws [] n = absent_left ws n ∙ sym (none_left ws)
  padded [] (d ∷ ds) n = refl
  padded (w ∷ ws) (d ∷ ds) n = either (eqb w k) (padded ws ds n)
    where
      either : (b : Bool) → command_interval p ws (ds ++ replicate n Absent) k ≡ command_interval p ws ds k
          → (if b then sure_interval (range_of p.scalars k) d else command_interval p ws (ds ++ replicate n Absent) k)
          ≡ (if b then sure_interval (range_of p.scalars k) d else command_interval p ws ds k)
      either true e = refl
      either false e = e
