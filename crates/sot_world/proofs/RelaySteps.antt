-- Inputs of a relay.
use Rattle.std.proofs.Common.{◌≡◌, ℕ, ◌+◌, pos, false, refl, sym, ap, subst, ◌∙◌, Some, [], ◌∷◌, arith}
use Rattle.std.proofs.lemmas.Int.{ints}
use Rattle.std.proofs.lemmas.Option.{same_Some}
use Rattle.std.proofs.lemmas.Bool.{false≢true}
use Rattle.std.specs.Global.{Global}
use Rattle.sot_lang.specs.Bodies.{execution}
use Rattle.sot_lang.specs.Ranges.{range_of}
use Rattle.sot_lists.proofs.ShortLists.{at_one}
use Rattle.sot_box.specs.Sides.{IsIn}
use Rattle.sot_world.specs.Configurations.{Configuration}
use Rattle.sot_world.specs.Steps.{Step, Input, Code}
use Rattle.sot_world.specs.Examples.{relay, relaying, copy, copy_acts, e_topic, m_topic}

module _ (g : Global) where
  pub input_5 : Step (relay g) 0 (relaying (pos 0) (pos 0)) (Input 0 (pos 5 ∷ [])) (relaying (pos 5) (pos 0))
  input_5 = record {
    info = e_topic g;
    is = refl;
    outside = refl;
    size = refl;
    typed = at_one (λ i z. IsIn (range_of (relay g).scalars (0 + i)) z) (pos 5) (omega (arith, ints), omega (arith, ints));
    scalars = refl;
    rest = refl;
  }

  pub copy_5 : Step (relay g) 0 (relaying (pos 5) (pos 0)) (Code 0) (record (relaying (pos 5) (pos 5)) { left = false ∷ [] })
  unfolding execution
  copy_5 = record {
    node = copy g;
    is = refl;
    acts = copy_acts g;
    coded = (_, refl, refl);
    fired = record { locals = []; draft = Some (pos 5) ∷ [] };
    runs = refl;
    fires = record { was_left = refl; time = refl; left = refl; left_dm = refl; modes = refl; points = refl; locals_set = refl; scalars = refl };
  }

  pub no_other : (D : Configuration) → Step (relay g) 0 (relaying (pos 0) (pos 0)) (Input 1 (pos 5 ∷ [])) D → ⊥
  no_other D s = false≢true (ap (λ x. x.outside) (same_Some (m_topic g) s.info s.is) ∙ s.outside)

  pub no_10 : (D : Configuration) → Step (relay g) 0 (relaying (pos 0) (pos 0)) (Input 0 (pos 10 ∷ [])) D → ⊥
  no_10 D s =
      (let t = subst (λ x. IsIn (range_of (relay g).scalars (x.first + 0)) (pos 10)) (sym (same_Some (e_topic g) s.info s.is)) (s.typed 0 (pos 10) refl) in
      omega (arith, ints, t.1))

  pub no_more : (D : Configuration) → Step (relay g) 0 (relaying (pos 0) (pos 0)) (Input 0 (pos 5 ∷ pos 5 ∷ [])) D → ⊥
  no_more D s = (let e : ◌≡◌ {A = ℕ} 2 1 = s.size ∙ ap (λ x. x.count) (sym (same_Some (e_topic g) s.info s.is)) in omega (arith, e))

  pub no_fewer : (D : Configuration) → Step (relay g) 0 (relaying (pos 0) (pos 0)) (Input 0 []) D → ⊥
  no_fewer D s = (let e : ◌≡◌ {A = ℕ} 0 1 = s.size ∙ ap (λ x. x.count) (sym (same_Some (e_topic g) s.info s.is)) in omega (arith, e))
