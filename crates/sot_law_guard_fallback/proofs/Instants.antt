-- What happens in an instant where every module is in mode Sc, and the models are not trusted.
use Rattle.std.proofs.Common.{◌≡◌, ℕ, zero, suc, ◌-◌, ℤ, Bool, true, false, inl, inr, List, [], ◌∷◌, Option, None, Ok, Err, length, refl, sym, ap, ap₂, ◌∙◌}
use Rattle.std.proofs.Common.{subst, not, ◌&&◌, ◌||◌, replicate}
use Rattle.std.specs.Prelude.{MatchResult, slice_index_or, ◌==◌}
use Rattle.std.specs.Option.{option_map_or}
use Rattle.std.proofs.lemmas.Option.{same_Some, none-some}
use Rattle.sot_lists.specs.Places.{At}
use Rattle.sot_lang.specs.declared.tables.NodeInfo.{NodeInfo}
use Rattle.sot_lang.specs.declared.tables.ModuleInfo.{ModuleInfo}
use Rattle.sot_lang.specs.Tables.{Tables}
use Rattle.sot_lang.specs.Values.{Outcome}
use Rattle.sot_lang.specs.Bodies as bodies
use Rattle.sot_code.specs.Recorded.{in_slots}
use Rattle.sot_world.specs.declared.mode.Mode.{Mode}
use Rattle.sot_world.specs.declared.mode.Mode.TheVariants.{Sc}
use Rattle.sot_world.specs.Configurations.{Configuration, mode_of, locals_of}
use Rattle.sot_world.specs.Steps.{Fires, allows, allowed_by, is_enabled, published}
use Rattle.sot_world.specs.Outcomes.{NodeFired}
use Rattle.sot_world.specs.declared.outcome.Firing.{Firing}
use Rattle.sot_world.proofs.Parts.{published_padded}
use Rattle.sot_trace.specs.Lines.{writes_of}
use Rattle.sot_guard.specs.declared.told.Told.{Told}
use Rattle.sot_guard.specs.declared.told.Told.TheVariants.{Decided, Fired}
use Rattle.sot_guard.specs.Instants.{AreTold, FiresNode}
use Rattle.sot_law_guard_fallback.specs.Distrust.{is_advanced, put_by_others, IsSafelyTold}

-- a node is enabled but where it is an advanced controller
not_or : (a b c : Bool) → c ≡ not b → (not a && c) ≡ not (a || b)
not_or true b c e = refl
not_or false b c e = e

pub allowed_others : (ms : List ModuleInfo) (modes : List Mode) (n : ℕ) → ((m : ℕ) → slice_index_or modes m Sc ≡ Sc)
    → allowed_by ms modes n ≡ not (is_advanced ms n)
allowed_others [] modes n all = refl
allowed_others (a ∷ ms) [] n all = not_or (a.ac == n) (is_advanced ms n) _ (allowed_others ms [] n all)
allowed_others (a ∷ ms) (mode ∷ modes) n all =
    let here : mode ≡ Sc = all 0 in
    ap (λ x. allows a x n && allowed_by ms modes n) here
    ∙ not_or (a.ac == n) (is_advanced ms n) _ (allowed_others ms modes n (λ m. all (suc m)))

-- every element after one that is so
at_either : {A : Type 0} (P : A → Type 0) (x : A) (xs : List A) → P x → ((i : ℕ) (y : A) → At xs i y → P y) → (i : ℕ) (y : A) → At (x ∷ xs) i y → P y
at_either P x xs here rest zero y at = subst P (same_Some x y at) here
at_either P x xs here rest (suc i) y at = rest i y at

told_draft : (draft d : List (Option ℤ)) (on enabled : Bool) → NodeFired draft on ≡ NodeFired d enabled → (draft ≡ d) × (on ≡ enabled)
told_draft draft d on enabled e = (cc, cc)

module _ (p : Tables) where
  -- what a firing publishes, by what is told of it
  record PublishesTold (n : ℕ) (C D : Configuration) (firing : Firing) : Type 0 where
    pub modes : D.modes ≡ C.modes
    pub enabled : firing.enabled ≡ is_enabled p C n
    pub scalars : D.scalars ≡ published firing.enabled p (writes_of p n) firing.draft C.scalars

  fires_told : (n : ℕ) (node : NodeInfo) (locals : List ℤ) (draft : List (Option ℤ)) (C D : Configuration) (firing : Firing) → At p.nodes n node
      → Fires p n node locals draft C D → firing.draft ≡ in_slots draft → firing.enabled ≡ is_enabled p C n → PublishesTold n C D firing
  fires_told n node locals draft C D firing at f slots on =
      let writes : writes_of p n ≡ node.writes.items = ap (λ o. option_map_or (λ x. x.writes.items) o []) at in
      record {
        modes = f.modes;
        enabled = on;
        scalars =
            f.scalars ∙ sym (published_padded (is_enabled p C n) p node.writes.items draft (8 - length draft) C.scalars)
            ∙ ap₂ (λ ws d. published (is_enabled p C n) p ws d C.scalars) (sym writes) (sym slots)
            ∙ ap (λ b. published b p (writes_of p n) firing.draft C.scalars) (sym on);
      }

  ends_told : (n : ℕ) (node : NodeInfo) (C D : Configuration) (firing : Firing) (o : Outcome bodies.Fired) → At p.nodes n node
      → firing.enabled ≡ is_enabled p C n
      → MatchResult o (λ fired. Fires p n node fired.locals fired.draft C D × (firing.draft ≡ in_slots fired.draft))
      (λ trap. Fires p n node (locals_of C n) [] C D × (firing.draft ≡ replicate 8 None)) → PublishesTold n C D firing
  ends_told n node C D firing (Ok f) at on m = fires_told n node f.locals f.draft C D firing at m.0 m.1 on
  ends_told n node C D firing (Err u) at on m = fires_told n node (locals_of C n) [] C D firing at m.0 m.1 on

  node_told : (trusted : Bool) (n : ℕ) (draft : List (Option ℤ)) (C D : Configuration) (firing : Firing) → FiresNode trusted p n draft C D firing
      → PublishesTold n C D firing
  node_told trusted n draft C D firing (inl f) = ends_told n f.fires.node C D firing _ f.fires.is f.fires.enabled f.fires.ends
  node_told trusted n draft C D firing (inr f) =
      let parts = told_draft _ f.told.0 (is_enabled p C n) firing.enabled f.told.1 in
      fires_told n f.step.node (locals_of C n) _ C D firing f.step.is f.step.fires (f.told.2 ∙ ap in_slots (sym parts.0)) (sym parts.1)

  -- what is told of an instant
  pub record GoesInSc (C D : Configuration) (es : List Told) : Type 0 where
    pub modes : D.modes ≡ C.modes
    pub told : (i : ℕ) (e : Told) → At es i e → IsSafelyTold p e
    pub held : D.scalars ≡ put_by_others p es C.scalars

  pub told_in_sc : (j : ℕ) (drafts : List (List (Option ℤ))) (C D : Configuration) (es : List Told) → ((m : ℕ) → mode_of C m ≡ Sc)
      → AreTold false p j drafts C es D → GoesInSc C D es
  told_in_sc j drafts C D [] sc same = record {
    modes = ap (λ (x : Configuration). x.modes) same;
    told = λ i e at. absurd (none-some e at);
    held = ap (λ (x : Configuration). x.scalars) same;
  }
  told_in_sc j drafts C D (Decided m mode ∷ es) sc (B, happens, more) =
      let stays = happens.0 in
      let modes : B.modes ≡ C.modes = ap (λ (x : Configuration). x.modes) stays.rest in
      let scalars : B.scalars ≡ C.scalars = ap (λ (x : Configuration). x.scalars) stays.rest in
      let sc_after : (k : ℕ) → mode_of B k ≡ Sc = λ k. ap (λ l. slice_index_or l k Sc) modes ∙ sc k in
      let rest = told_in_sc j drafts B D es sc_after more in
      record {
        modes = rest.modes ∙ modes;
        told = at_either (IsSafelyTold p) (Decided m mode) es (happens.1 ∙ sc_after m) rest.told;
        held = rest.held ∙ ap (put_by_others p es) scalars;
      }
  told_in_sc j drafts C D (Fired n firing ∷ es) sc (B, happens, more) =
      let fired = node_told false n (slice_index_or drafts n []) C B firing happens in
      let on : firing.enabled ≡ not (is_advanced p.modules n) = fired.enabled ∙ allowed_others p.modules C.modes n sc in
      let sc_after : (k : ℕ) → mode_of B k ≡ Sc = λ k. ap (λ l. slice_index_or l k Sc) fired.modes ∙ sc k in
      let rest = told_in_sc j drafts B D es sc_after more in
      record {
        modes = rest.modes ∙ fired.modes;
        told = at_either (IsSafelyTold p) (Fired n firing) es on rest.told;
        held =
            rest.held
            ∙ ap (put_by_others p es) (fired.scalars ∙ ap (λ b. published b p (writes_of p n) firing.draft C.scalars) on);
      }
