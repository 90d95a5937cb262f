-- Holds in runs, and parts of runs.
use Rattle.std.proofs.Common.{◌≡◌, ℕ, zero, suc, ◌+◌, ◌≤◌, ℤ, Bool, true, false, ⊎_elim, List, [], ◌∷◌, ◌++◌, append_assoc}
use Rattle.std.proofs.Common.{length, drop, refl, sym, ap, ◌∙◌, subst, arith, add-one}
use Rattle.std.proofs.lemmas.Bool.{cases_Bool, eqb-true}
use Rattle.std.proofs.lemmas.Option.{same_Some, none-some}
use Rattle.sot_lists.specs.Places.{At}
use Rattle.sot_lists.proofs.Places.{at_same}
use Rattle.sot_lang.specs.declared.cert.Cert.{Cert}
use Rattle.sot_lang.specs.Tables.{Tables}
use Rattle.sot_lang.specs.TableRules.{IsTyped}
use Rattle.sot_tube.specs.Certified.{IsWellCertified}
use Rattle.sot_tube.specs.WellFormed.{IsWellFormed}
use Rattle.sot_tube.proofs.Certificate.{certified_well}
use Rattle.sot_world.specs.declared.mode.Mode.TheVariants.{Sc}
use Rattle.sot_world.specs.Configurations.{Configuration, mode_of, point_of}
use Rattle.sot_world.specs.Steps.{Event, Input, Code, Guest, Decide, Tick, Step, CodeFires}
use Rattle.sot_world.specs.Runs.{Run}
use Rattle.sot_world.specs.Invariant.{KeepsInvariant}
use Rattle.sot_world.proofs.Induction.{step_holds}
use Rattle.sot_world.proofs.Main.{runs_keep_invariant}
use Rattle.sot_law_runs.specs.Firings.{is_firing, count_of, one_if}
use Rattle.sot_law_runs.proofs.Firings.{one_more}
use Rattle.sot_law_runs.specs.Holds.{Guarded, IsHold}
use Rattle.sot_law_runs.specs.RunHolds.{points_after, FiringsAreHolds}
use Rattle.sot_law_runs.specs.RecoveryLaws.{RunsHold}
use Rattle.sot_law_runs.proofs.Commands.{whole}
use Rattle.sot_law_runs.proofs.Stays.{GoesOn, longer, stays, begins, long_enough}

-- the configuration after the first events of a run, and the run from there
pub halved : (p : Tables) (j : ℕ) (C : Configuration) (first es : List Event) (Ds : List Configuration) → Run p j C (first ++ es) Ds
    → (D : Configuration) × At (C ∷ Ds) (length first) D × Run p j D es (drop (length first) Ds)
halved p j C [] es Ds run = (C, refl, run)
halved p j C (e ∷ first) es [] run = absurd run
halved p j C (e ∷ first) es (E ∷ Ds) run = halved p j E first es Ds run.1

-- what stands behind them in the one list stands so far later in the other
pub later : (C D : Configuration) (Ds : List Configuration) (k i : ℕ) (E : Configuration) → At (C ∷ Ds) k D → At (D ∷ drop k Ds) i E → At (C ∷ Ds) (k + i) E
later C D Ds zero i E at_d at = (let e : i ≡ 0 + i = omega arith in subst (λ n. At (C ∷ Ds) n E) e (subst (λ x. At (x ∷ Ds) i E) (sym (same_Some C D at_d)) at))
later C D [] (suc k) i E at_d at = absurd (none-some D at_d)
later C D (F ∷ Ds) (suc k) i E at_d at = (let e : suc (k + i) ≡ suc k + i = omega arith in subst (λ n. At (C ∷ F ∷ Ds) n E) e (later F D Ds k i E at_d at))

pub dropped_at : (Ds : List Configuration) (k i : ℕ) (E : Configuration) → At Ds (k + i) E → At (drop k Ds) i E
dropped_at Ds zero i E at = (let e : 0 + i ≡ i = omega arith in subst (λ n. At Ds n E) e at)
dropped_at [] (suc k) i E at = absurd (none-some E at)
dropped_at (F ∷ Ds) (suc k) i E at = (let e : suc k + i ≡ suc (k + i) = omega arith in dropped_at Ds k i E (subst (λ n. At (F ∷ Ds) n E) e at))

drop_one : (Ds : List Configuration) (k : ℕ) → drop (k + 1) Ds ≡ drop 1 (drop k Ds)
drop_one Ds k = rw (add-one k) (from Ds k)
  where
    from : (xs : List Configuration) (n : ℕ) → drop (suc n) xs ≡ drop 1 (drop n xs)
    from [] zero = refl
    from [] (suc n) = refl
    from (x ∷ xs) zero = refl
    from (x ∷ xs) (suc n) = from xs n

module _ {p : Tables} {cert : Cert} {m : ℕ} (g : Guarded p cert m) (typed : IsTyped p) (c : IsWellCertified p cert.jitter cert) where
  well : IsWellFormed p cert.jitter
  well = certified_well p cert.jitter cert typed c

  -- the safe node is coded, so that a firing of it is one of code
  pub firing : (e : Event) (X Y : Configuration) → is_firing g.info.sc e ≡ true → Step p cert.jitter X e Y → CodeFires p g.info.sc X Y
  firing (Code n) X Y is step = subst (λ k. CodeFires p k X Y) (eqb-true n g.info.sc is) step
  firing (Guest n draft) X Y is step =
      let n_is = eqb-true n g.info.sc is in
      let same = at_same p.nodes g.info.sc g.sc step.node g.sc_is (subst (λ k. At p.nodes k step.node) n_is step.is) in
      let b = g.coded in
      absurd (none-some b.0 (sym step.external ∙ sym (ap (λ x. x.body) same) ∙ b.1))
  firing (Input topic value) X Y is step = cc
  firing (Decide k) X Y is step = cc
  firing (Tick noise) X Y is step = cc

  -- a path, with what events without a firing add
  longer_is : (e : Event) (Y : Configuration) (path : List (List ℤ)) (es : List Event) (Ds : List Configuration)
      → longer g e Y path ++ points_after g.info.plant es Ds ≡ path ++ points_after g.info.plant (e ∷ es) (Y ∷ Ds)
  longer_is (Tick noise) Y path es Ds = append_assoc path (point_of Y g.info.plant ∷ []) (points_after g.info.plant es Ds)
  longer_is (Input topic value) Y path es Ds = refl
  longer_is (Code n) Y path es Ds = refl
  longer_is (Guest n draft) Y path es Ds = refl
  longer_is (Decide k) Y path es Ds = refl

  -- between firings a hold goes on, and at the next one it is whole
  between_firings : (between rest : List Event) (X : Configuration) (Es : List Configuration) (s : List ℤ) (path : List (List ℤ))
      → KeepsInvariant p cert.jitter X → GoesOn g s path X → Run p cert.jitter X (between ++ Code g.info.sc ∷ rest) Es
      → ((i : ℕ) (Y : Configuration) → i ≤ length between → At (X ∷ Es) i Y → mode_of Y m ≡ Sc) → count_of (is_firing g.info.sc) between ≡ 0
      → IsHold g s (path ++ points_after g.info.plant between Es)
  between_firings [] rest X [] s path inv goes run modes none = absurd run
  between_firings [] rest X (Y ∷ Es) s path inv goes run modes none =
      let nil = append_nil path in
      let step = run.0 in
      subst (IsHold g s) (sym nil) (whole g s path goes.hold (long_enough g typed c X s path step.fires.was_left goes))
    where
      append_nil : (xs : List (List ℤ)) → xs ++ [] ≡ xs
      append_nil [] = refl
      append_nil (x ∷ xs) = ap (λ l. x ∷ l) (append_nil xs)
  between_firings (e ∷ between) rest X [] s path inv goes run modes none = absurd run
  between_firings (e ∷ between) rest X (Y ∷ Es) s path inv goes run modes none =
      let more = one_more (is_firing g.info.sc) e between in
      let mode = modes 0 X (omega arith) refl in
      ⊎_elim
      (λ is. absurd (some (is_firing g.info.sc e) (count_of (is_firing g.info.sc) between) is (sym more ∙ none)))
      (λ isnt.
      subst (IsHold g s) (longer_is e Y path between Es)
      (between_firings between rest Y Es s (longer g e Y path) (step_holds p cert.jitter typed well X Y e inv run.0)
      (stays g typed c e X Y s path inv mode isnt run.0 goes) run.1 (λ i Z le at. modes (suc i) Z (omega (arith, le)) at)
      (last (is_firing g.info.sc e) (count_of (is_firing g.info.sc) between) isnt (sym more ∙ none))))
      (cases_Bool (is_firing g.info.sc e))
    where
      some : (b : Bool) (n : ℕ) → b ≡ true → one_if b + n ≡ 0 → ⊥
      some true n is h = omega (arith, h)
      some false n is h = cc

      last : (b : Bool) (n : ℕ) → b ≡ false → one_if b + n ≡ 0 → n ≡ 0
      last true n is h = omega (arith, h)
      last false n is h = omega (arith, h)

  pub firings_are_holds : FiringsAreHolds g
  firings_are_holds start C D first between rest Ds stretch none at =
      let h = halved p cert.jitter C first (Code g.info.sc ∷ (between ++ Code g.info.sc ∷ rest)) Ds stretch.run in
      let same : h.0 ≡ D = at_same (C ∷ Ds) (length first) h.0 D h.1 at in
      let inv = runs_keep_invariant p cert.jitter typed well start C (first ++ (Code g.info.sc ∷ (between ++ Code g.info.sc ∷ rest))) Ds stretch.opening
      stretch.safer stretch.run (length first) D at in
      subst (λ Es. IsHold g (point_of D g.info.plant) (points_after g.info.plant between Es)) (sym (drop_one Ds (length first)))
      (from D (drop (length first) Ds) inv (subst (λ x. Run p cert.jitter x (Code g.info.sc ∷ (between ++ Code g.info.sc ∷ rest)) (drop (length first) Ds)) same
      h.2) (λ i Y le at'. stretch.mode i Y le (later C D Ds (length first) i Y at at')))
    where
      from : (X : Configuration) (Es : List Configuration) → KeepsInvariant p cert.jitter X
          → Run p cert.jitter X (Code g.info.sc ∷ (between ++ Code g.info.sc ∷ rest)) Es
          → ((i : ℕ) (Y : Configuration) → i ≤ length (Code g.info.sc ∷ between) → At (X ∷ Es) i Y → mode_of Y m ≡ Sc)
          → IsHold g (point_of X g.info.plant) (points_after g.info.plant between (drop 1 Es))
      from X [] inv run modes = absurd run
      from X (Y ∷ Es) inv run modes =
          between_firings between rest Y Es (point_of X g.info.plant) [] (step_holds p cert.jitter typed well X Y (Code g.info.sc) inv run.0)
          (begins g typed c X Y inv (modes 0 X (omega arith) refl) run.0) run.1 (λ i Z le at'. modes (suc i) Z (omega (arith, le)) at') none

pub runs_hold : RunsHold
runs_hold p cert m g typed c = firings_are_holds g typed c
