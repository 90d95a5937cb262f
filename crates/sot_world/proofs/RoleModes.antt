-- The role of a node tells whether it is enabled.
use Rattle.std.proofs.Common.{◌≡◌, ℕ, Bool, true, false, inl, inr, ⊎_elim, length, refl, sym, ap, ◌∙◌, arith}
use Rattle.std.specs.Prelude.{slice_index_or, not}
use Rattle.std.proofs.lemmas.Option.{slice_get_within}
use Rattle.sot_lang.specs.Tables.{Tables}
use Rattle.sot_lang.specs.TableRules.{IsTyped}
use Rattle.sot_tube.specs.WellFormed.{IsWellFormed}
use Rattle.sot_world.specs.declared.role.Role.{Role}
use Rattle.sot_world.specs.declared.role.Role.TheVariants.{Free, Advanced, Safe}
use Rattle.sot_world.specs.Configurations.{Configuration, Sc, mode_of}
use Rattle.sot_world.specs.Steps.{is_enabled}
use Rattle.sot_world.specs.Roles.{IsRole}
use Rattle.sot_world.specs.Changes.{is_ac, role_enables, IsOfModule}
use Rattle.sot_world.proofs.Enables.{allowed_true, allowed_false, allows_ac, allows_sc, allows_not}
use Rattle.sot_world.proofs.Modes.{same_module}

same_flag : (b c : Bool) → (c ≡ true → b ≡ true) → (c ≡ false → b ≡ false) → b ≡ c
same_flag b true yes' no' = yes' refl
same_flag b false yes' no' = no' refl

module _ {j : ℕ} (p : Tables) (typed : IsTyped p) (well : IsWellFormed p j) (C : Configuration) (n : ℕ) where
  -- a node is enabled exactly where its role is, since no node is of two modules
  pub role_enabled : (role : Role) → IsRole p.modules n role → role_enables role C.modes ≡ is_enabled p C n
  role_enabled Free none = same_flag true (is_enabled p C n) (λ e. refl) (λ e.
      let o = allowed_false p.modules C.modes n e in
      absurd (⊎_elim
      (λ x. none o.0 o.1 o.2 (inl x.0))
      (λ x. none o.0 o.1 o.2 (inr x.0))
      (allows_not o.1 (slice_index_or C.modes o.0 Sc) n o.3)))
  role_enabled (Advanced m) is = same_flag (is_ac (mode_of C m)) (is_enabled p C n)
      (λ e. ap is_ac (allows_ac is.0 (mode_of C m) n (allowed_true p.modules C.modes n m is.0 e is.1) is.2))
      (λ e.
      let o = allowed_false p.modules C.modes n e in
      ⊎_elim
      (λ first.
      let mm : m ≡ o.0 = well.composed.own_node m o.0 is.0 o.1 n is.1 o.2 (inl is.2) (inl first.0) in
      ap (λ k. is_ac (mode_of C k)) mm ∙ ap is_ac first.1)
      (λ second.
      let mm : m ≡ o.0 = well.composed.own_node m o.0 is.0 o.1 n is.1 o.2 (inl is.2) (inr second.0) in
      let ab : is.0 ≡ o.1 = same_module p.modules m o.0 is.0 o.1 mm is.1 o.2 in
      absurd (typed.apart m is.0 is.1 (is.2 ∙ sym second.0 ∙ sym (ap (λ x. x.sc) ab))))
      (allows_not o.1 (slice_index_or C.modes o.0 Sc) n o.3))
  role_enabled (Safe m) is = same_flag (not (is_ac (mode_of C m))) (is_enabled p C n)
      (λ e. ap (λ x. not (is_ac x)) (allows_sc is.0 (mode_of C m) n (allowed_true p.modules C.modes n m is.0 e is.1) is.2))
      (λ e.
      let o = allowed_false p.modules C.modes n e in
      ⊎_elim
      (λ first.
      let mm : m ≡ o.0 = well.composed.own_node m o.0 is.0 o.1 n is.1 o.2 (inr is.2) (inl first.0) in
      let ab : is.0 ≡ o.1 = same_module p.modules m o.0 is.0 o.1 mm is.1 o.2 in
      absurd (typed.apart m is.0 is.1 (ap (λ x. x.ac) ab ∙ first.0 ∙ sym is.2)))
      (λ second.
      let mm : m ≡ o.0 = well.composed.own_node m o.0 is.0 o.1 n is.1 o.2 (inr is.2) (inr second.0) in
      ap (λ k. not (is_ac (mode_of C k))) mm ∙ ap (λ x. not (is_ac x)) second.1)
      (allows_not o.1 (slice_index_or C.modes o.0 Sc) n o.3))

  -- the module of a role is there
  pub role_inside : (role : Role) → length C.modes ≡ length p.modules → IsRole p.modules n role → IsOfModule role (length C.modes)
  role_inside Free size is = tt
  role_inside (Advanced m) size is = omega (arith, slice_get_within p.modules m is.0 is.1)
  role_inside (Safe m) size is = omega (arith, slice_get_within p.modules m is.0 is.1)
