-- Decisions of the running example with other times.
use Rattle.std.proofs.Common.{◌≡◌, pos, ⊎_elim, false, inl, inr, refl, sym, subst, [], ◌∷◌, arith}
use Rattle.std.proofs.lemmas.Option.{same_Some}
use Rattle.std.proofs.lemmas.Int.{ints}
use Rattle.std.specs.Global.{Global}
use Rattle.sot_lang.specs.Line.{nav}
use Rattle.sot_tube.specs.Tubes.{Keeps}
use Rattle.sot_world.specs.Configurations.{Ac, Sc, point_of}
use Rattle.sot_world.specs.Steps.{Step, Decide}
use Rattle.sot_world.specs.Examples.{deciding}
use Rattle.sot_tube.specs.Examples.{line1}
use Rattle.sot_tube.proofs.LineTubes.{kept_at_12}

sc_not_ac : Sc ≡ Ac → ⊥
sc_not_ac e = cc

module _ (g : Global) where
  pub stays_ac : Step (line1 g) 0 (deciding 8 Ac (pos 12)) (Decide 0) (record (deciding 8 Ac (pos 12)) { left_dm = false ∷ [] })
  stays_ac = record {
    module_info = nav g;
    is = refl;
    was_left = refl;
    left_dm = refl;
    modes = refl;
    mode = ((λ e. inr (refl, (kept_at_12 g).0)), (λ o. refl));
    rest = refl;
  }

  pub switches : Step (line1 g) 0 (deciding 12 Ac (pos 20)) (Decide 0) (record (deciding 12 Sc (pos 20)) { left_dm = false ∷ [] })
  switches = record {
    module_info = nav g;
    is = refl;
    was_left = refl;
    left_dm = refl;
    modes = refl;
    mode = ((λ e. absurd (sc_not_ac e)), (λ o. ⊎_elim (λ s. absurd (sc_not_ac (sym s.0))) (λ k. absurd ((kept_at_12 g).1 k.1)) o));
    rest = refl;
  }

  pub no_stay : Step (line1 g) 0 (deciding 12 Ac (pos 20)) (Decide 0) (record (deciding 12 Ac (pos 20)) { left_dm = false ∷ [] }) → ⊥
  no_stay d =
      ⊎_elim (λ s. absurd (sc_not_ac (sym s.0))) (λ k. (kept_at_12 g).1
      (subst (λ a. Keeps (line1 g) 0 a (point_of (deciding 12 Ac (pos 20)) a.plant)) (sym (same_Some (nav g) d.module_info d.is)) k.1)) (d.mode.0 refl)

  -- 16 is not in the safer region
  pub stays_sc : Step (line1 g) 0 (deciding 16 Sc (pos 16)) (Decide 0) (record (deciding 16 Sc (pos 16)) { left_dm = false ∷ [] })
  stays_sc = record {
    module_info = nav g;
    is = refl;
    was_left = refl;
    left_dm = refl;
    modes = refl;
    mode = (
      (λ e. absurd (sc_not_ac e)),
      (λ o. ⊎_elim (λ s. ⊎_elim (λ w. absurd (omega (arith, ints, w.1))) (λ no'. absurd no') s.1) (λ k. absurd (sc_not_ac k.0))
          o),
    );
    rest = refl;
  }

  pub returns : Step (line1 g) 0 (deciding 20 Sc (pos 8)) (Decide 0) (record (deciding 20 Ac (pos 8)) { left_dm = false ∷ [] })
  returns = record {
    module_info = nav g;
    is = refl;
    was_left = refl;
    left_dm = refl;
    modes = refl;
    mode = ((λ e. inl (refl, inl (omega (arith, ints), omega (arith, ints), tt))), (λ e. refl));
    rest = refl;
  }
