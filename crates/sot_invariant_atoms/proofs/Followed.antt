-- How a walk that is followed beside a set of atoms stands after some ticks.
use Rattle.std.proofs.Common.{◌≡◌, ℕ, suc, ◌-◌, ◌<◌, ◌⊎◌, ⊎_elim, ℤ, List, Ok, length, sym, ◌∙◌, subst}
use Rattle.sot_box.specs.Sides.{Side, AreOrdered}
use Rattle.sot_box.specs.Boxes.{IsWithin}
use Rattle.sot_lists.specs.Places.{At}
use Rattle.sot_lang.specs.declared.tables.PlantInfo.{PlantInfo}
use Rattle.sot_lang.specs.Tables.{Tables}
use Rattle.sot_lang.specs.TableRules.{MeetsTableRules}
use Rattle.sot_lang.proofs.Owners.{noise_ordered}
use Rattle.sot_iv.specs.PlantIntervals.{IsNextBox}
use Rattle.sot_atoms.specs.Grids.{Cut}
use Rattle.sot_law_invariant_regions.specs.Following.{LiesAmong, StaysAmong}
use Rattle.sot_law_invariant_regions.specs.Walks.{SomeTubeStays}
use Rattle.sot_law_invariant_regions.proofs.Walking.{stays_lies, stays_on, stays_never, some_on, some_never}
use Rattle.sot_invariant_atoms.specs.Greatest.{IsAmong}
use Rattle.sot_invariant_atoms.specs.Walking.{Walked, GoesBy, GoesTo, MayTrapNext, LeavesSet, IsApartFrom}
use Rattle.sot_invariant_atoms.specs.declared.tube.TubeInAtoms.{TubeInAtoms}
use Rattle.sot_invariant_atoms.specs.declared.tube.TubeInAtoms.TheVariants.{Leaves, Apart}

-- the tubes along which the walk goes from its first place go on from this one, and what was found so far
pub record FollowedTo (grid : Cut) (set : List ℕ) (first now : Walked) (n : ℕ) (found : TubeInAtoms) : Type 0 where
  pub program : now.program ≡ first.program
  pub plant : now.plant ≡ first.plant
  pub width : length now.area ≡ grid.width
  pub goes : (held seen : List Side) → GoesBy first held seen → GoesBy now held seen
  pub stays : (held seen : List Side) (info : PlantInfo) → GoesBy first held seen → At first.program.plants first.plant info
      → StaysAmong (IsAmong grid set) info held seen first.area first.ticks → StaysAmong (IsAmong grid set) info held seen now.area (first.ticks - n)
  pub some : (held seen : List Side) (info : PlantInfo) → GoesBy first held seen → AreOrdered seen → At first.program.plants first.plant info
      → SomeTubeStays (IsAmong grid set) info held seen first.area first.ticks → SomeTubeStays (IsAmong grid set) info held seen now.area (first.ticks - n)
  pub leaves : found ≡ Leaves → LeavesSet first grid set
  pub not_apart : found ≡ Apart → ⊥

module _ (grid : Cut) (set : List ℕ) (first : Walked) where
  abbrev P : List ℤ → Type 0
  P = IsAmong grid set

  module _ (now : Walked) (rules : MeetsTableRules now.program) (n : ℕ) (found : TubeInAtoms) (sofar : FollowedTo grid set first now n found)
      (lt : n < first.ticks) where
    at_now : (info : PlantInfo) → At first.program.plants first.plant info → At now.program.plants now.plant info
    at_now info at =
        subst (λ (t : Tables). At t.plants now.plant info) (sym sofar.program) (subst (λ k. At first.program.plants k info) (sym sofar.plant) at)

    pub trapped : MayTrapNext now → LeavesSet first grid set
    trapped (t, told) held seen info by at s =
        stays_never P info held seen now.area first.ticks n lt t (told held seen (sofar.goes held seen by) info (at_now info at))
        (sofar.stays held seen info by at s)

    module _ (next : List Side) (new : Walked) (to : GoesTo now next new) where
      told_now : (held seen : List Side) (info : PlantInfo) → GoesBy first held seen → At first.program.plants first.plant info
          → IsNextBox info now.area held seen (Ok next)
      told_now held seen info by at = to.told held seen (sofar.goes held seen by) info (at_now info at)

      pub next_width : length next ≡ grid.width
      next_width = to.width ∙ sofar.width

      stays_next : (held seen : List Side) (info : PlantInfo) → GoesBy first held seen → At first.program.plants first.plant info
          → StaysAmong P info held seen first.area first.ticks → StaysAmong P info held seen next (first.ticks - suc n)
      stays_next held seen info by at s =
          stays_on P info held seen now.area first.ticks n lt next (told_now held seen info by at) (sofar.stays held seen info by at s)

      some_next : (held seen : List Side) (info : PlantInfo) → GoesBy first held seen → AreOrdered seen → At first.program.plants first.plant info
          → SomeTubeStays P info held seen first.area first.ticks → SomeTubeStays P info held seen next (first.ticks - suc n)
      some_next held seen info by ordered at s =
          some_on P info held seen now.area first.ticks n lt next ordered
          (noise_ordered info.noise.items (λ i d at_d. ((rules.plants now.plant info (at_now info at)).noise_ranges i d at_d).1.0))
          (told_now held seen info by at) (sofar.some held seen info by ordered at s)

      pub apart_now : ((s : List ℤ) → IsWithin next s → P s → ⊥) → IsApartFrom first grid set
      apart_now apart held seen info by ordered at s =
          some_never P info held seen next (first.ticks - suc n) apart (some_next held seen info by ordered at s)

      -- what was found after one more box
      module _ (standing worse : TubeInAtoms) (either : (worse ≡ found) ⊎ (worse ≡ standing)) (leaves : standing ≡ Leaves → LiesAmong P next → ⊥)
          (not_apart : standing ≡ Apart → ⊥) where
        pub leaves_next : worse ≡ Leaves → LeavesSet first grid set
        leaves_next e held seen info by at s =
            ⊎_elim (λ (w : worse ≡ found). sofar.leaves (sym w ∙ e) held seen info by at s)
            (λ (w : worse ≡ standing). leaves (sym w ∙ e) (stays_lies P info held seen next (first.ticks - suc n) (stays_next held seen info by at s))) either

        pub not_apart_next : worse ≡ Apart → ⊥
        not_apart_next e = ⊎_elim (λ (w : worse ≡ found). sofar.not_apart (sym w ∙ e)) (λ (w : worse ≡ standing). not_apart (sym w ∙ e)) either

        pub followed_next : (m : ℕ) → m ≡ suc n → FollowedTo grid set first new m worse
        followed_next m is = record {
          program = to.program ∙ sofar.program;
          plant = to.plant ∙ sofar.plant;
          width = subst (λ (b : List Side). length b ≡ grid.width) (sym to.area) next_width;
          goes = λ held seen by. to.goes held seen (sofar.goes held seen by);
          stays = λ held seen info by at s. subst (λ b. StaysAmong P info held seen b (first.ticks - m)) (sym to.area)
              (subst (λ i. StaysAmong P info held seen next (first.ticks - i)) (sym is) (stays_next held seen info by at s));
          some = λ held seen info by ordered at s. subst (λ b. SomeTubeStays P info held seen b (first.ticks - m)) (sym to.area)
              (subst (λ i. SomeTubeStays P info held seen next (first.ticks - i)) (sym is) (some_next held seen info by ordered at s));
          leaves = leaves_next;
          not_apart = not_apart_next;
        }
