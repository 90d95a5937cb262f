-- What a guard does in an instant, told in order.
use Rattle.std.specs.Prelude.{ℕ, suc, ℤ, ◌≤◌, Bool, true, List, [], ◌∷◌, ◌++◌, Option, ◌≡◌, ◌⊎◌}
use Rattle.std.specs.Prelude.{length, take, slice_index_or}
use Rattle.sot_lang.specs.Tables.{Tables}
use Rattle.sot_world.specs.Configurations.{Configuration, mode_of}
use Rattle.sot_world.specs.Steps.{CodeFires, GuestFires, is_enabled}
use Rattle.sot_world.specs.Events.{slot_count}
use Rattle.sot_world.specs.Outcomes.{NodeFired}
use Rattle.sot_world.specs.StepOutcomes.{IsFiring}
use Rattle.sot_world.specs.declared.outcome.Firing.{Firing}
use Rattle.sot_guard.specs.declared.told.Told.{Told}
use Rattle.sot_guard.specs.declared.told.Told.TheVariants.{Decided, Fired}
use Rattle.sot_guard.specs.Changes.{DecidesWhere, FiresCode}

-- a coded node fires; while the models are trusted that is a firing of the semantics
pub record FiresCoded (trusted : Bool) (p : Tables) (n : ℕ) (C D : Configuration) (firing : Firing)
    : Type 0 where
  pub fires : FiresCode p n C D firing
  pub step : trusted ≡ true → CodeFires p n C D

-- an external node fires with this draft, of which its own slots count
pub record FiresDraft (p : Tables) (n : ℕ) (draft : List (Option ℤ)) (C D : Configuration)
    (firing : Firing) : Type 0 where
  pub step : GuestFires p n (take (slot_count p n) draft) C D
  pub told : IsFiring firing (NodeFired (take (slot_count p n) draft) (is_enabled p C n))

-- a node fires: by its body, or with this draft where it is external
abbrev pub FiresNode : Bool → Tables → ℕ → List (Option ℤ) → Configuration → Configuration → Firing
    → Type 0
FiresNode trusted p n draft C D firing =
    FiresCoded trusted p n C D firing ⊎ FiresDraft p n draft C D firing

-- what is told happens: a module decides, or a node fires, an external one with its draft
abbrev pub Happens : Bool → Tables → ℕ → List (List (Option ℤ)) → Configuration → Told
    → Configuration → Type 0
Happens trusted p jitter drafts C (Decided m mode) D =
    DecidesWhere trusted p jitter m C D × (mode ≡ mode_of D m)
Happens trusted p jitter drafts C (Fired n firing) D =
    FiresNode trusted p n (slice_index_or drafts n []) C D firing

-- these happen, one after another, and nothing else does
abbrev pub AreTold : Bool → Tables → ℕ → List (List (Option ℤ)) → Configuration → List Told
    → Configuration → Type 0
AreTold trusted p jitter drafts C [] D = D ≡ C
AreTold trusted p jitter drafts C (e ∷ es) D =
    (B : Configuration) × Happens trusted p jitter drafts C e B
    × AreTold trusted p jitter drafts B es D

-- decisions, each module at most once and in declared order, from this one on and below that one
abbrev pub DecideInOrder : ℕ → ℕ → List Told → Type 0
DecideInOrder from end [] = from ≤ end
DecideInOrder from end (Decided m mode ∷ es) = (from ≤ m) × DecideInOrder (suc m) end es
DecideInOrder from end (Fired n firing ∷ es) = ⊥

-- firings, each node at most once and in declared order, from this one on and below that one
abbrev pub FireInOrder : ℕ → ℕ → List Told → Type 0
FireInOrder from end [] = from ≤ end
FireInOrder from end (Decided m mode ∷ es) = ⊥
FireInOrder from end (Fired n firing ∷ es) = (from ≤ n) × FireInOrder (suc n) end es

-- the decisions come first and then the firings, each in declared order
pub record AreInOrder (p : Tables) (told : List Told) : Type 0 where
  pub decisions : List Told
  pub firings : List Told
  pub told_are : told ≡ decisions ++ firings
  pub decide : DecideInOrder 0 (length p.modules) decisions
  pub fire : FireInOrder 0 (length p.nodes) firings
