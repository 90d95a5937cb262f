-- Modules that no other plant concerns.
use Rattle.std.proofs.Common.{◌≡◌, ℕ, ◌≤◌, List, length, true, false, refl, subst, arith}
use Rattle.std.specs.Prelude.{◌↔◌, IsTrue}
use Rattle.std.proofs.lemmas.Option.{slice_get_within}
use Rattle.sot_lists.specs.Places.{At}
use Rattle.sot_lists.proofs.Places.{at_same}
use Rattle.sot_lang.specs.declared.tables.ModuleInfo.{ModuleInfo}
use Rattle.sot_lang.specs.declared.tables.NodeInfo.{NodeInfo}
use Rattle.sot_lang.specs.declared.tables.Slot.{Slot}
use Rattle.sot_lang.specs.declared.tables.Slot.TheVariants.{State}
use Rattle.sot_lang.specs.Tables.{Tables}
use Rattle.sot_tube.specs.Checks.{Check}
use Rattle.sot_rta.specs.Refused.{PassBefore}
use Rattle.sot_law_invariant_regions.specs.Alone.{IsAlone}

-- a slot is no state of another plant
abbrev pub own_slot : ℕ → ℕ → Slot → Check
own_slot plant i slot = record { Passes = (k v : ℕ) → slot ≡ State k v → k ≡ plant; Refuses = λ r. ⊥ }

pub one_other : (reads : List Slot) (plant i : ℕ) (slot : Slot) → At reads i slot → ¬ ((own_slot plant i slot).Passes)
    → IsTrue false ↔ ((i k v : ℕ) → At reads i (State k v) → k ≡ plant)
one_other reads plant i slot at other = (
  λ e. absurd cc,
  λ own. absurd (other (λ k v is. own i k v (subst (λ (s : Slot). At reads i s) is at))),
)

pub no_other : (reads : List Slot) (plant count : ℕ) → length reads ≤ count → PassBefore reads (own_slot plant) count
    → IsTrue true ↔ ((i k v : ℕ) → At reads i (State k v) → k ≡ plant)
no_other reads plant count all before = (
  λ e i k v at. let there = slice_get_within reads i (State k v) at in before i (State k v) (omega (arith, all, there)) at k v refl,
  λ own. refl,
)

-- the safe node of a module that no other plant concerns reads its own plant alone
pub own_reads : (p : Tables) (m : ℕ) (a info : ModuleInfo) (sc : NodeInfo) (reads : List Slot) → At p.modules m a → At p.modules m info → At p.nodes info.sc sc
    → reads ≡ sc.reads.items → IsAlone p a → (i k v : ℕ) → At reads i (State k v) → k ≡ info.plant
own_reads p m a info sc reads at_a at at_sc same alone i k v at_read =
    let own = subst (λ (x : ModuleInfo). IsAlone p x) (at_same p.modules m a info at_a at) alone in
    own.reads_own sc k v at_sc (i, subst (λ (l : List Slot). At l i (State k v)) same at_read)
