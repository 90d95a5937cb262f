-- A step of a walk, and a walk along a held tube.
use Rattle.std.proofs.Common.{◌≡◌, ℕ, ◌≤◌, List, ◌++◌, Ok, Err, length, refl, sym, ◌∙◌, subst}
use Rattle.std.specs.Prelude.{drop}
use Rattle.sot_lists.specs.Places.{At}
use Rattle.sot_box.specs.Sides.{Side, AreOrdered}
use Rattle.sot_lang.specs.declared.tables.PlantInfo.{PlantInfo}
use Rattle.sot_lang.specs.Tables.{Tables}
use Rattle.sot_lang.specs.TableRules.{MeetsTableRules}
use Rattle.sot_iv.specs.declared.may_trap.MayTrap.{MayTrap}
use Rattle.sot_iv.specs.Monotony.{AreNarrower}
use Rattle.sot_iv.specs.PlantTicks.{MayTickOver, IsBoxOver}
use Rattle.sot_tube.proofs.WalkRanges.{after, same, front_fits, ranges_next}
use Rattle.sot_atoms.specs.Grids.{Cut}
use Rattle.sot_law_invariant_regions.specs.Following.{StaysAmong, HeldStays}
use Rattle.sot_law_invariant_regions.specs.Walks.{SomeTubeStays}
use Rattle.sot_invariant_atoms.specs.Asking.{Asked}
use Rattle.sot_invariant_atoms.specs.Greatest.{IsAmong}
use Rattle.sot_invariant_atoms.specs.Walking.{Walked, GoesBy, Goes, GoesTo, GoesHeld, MayTrapNext}

module _ (w : Walked) (goes : Goes w) where
  pub may_step : MayTickOver w.program w.plant w.names
  may_step = record { box = w.area; held = goes.0; seen = goes.1; may = goes.2.may; are = goes.2.are }

  pub trap_next : (t : MayTrap) → IsBoxOver w.program w.plant w.names (Err t) → MayTrapNext w
  trap_next t over = (t, λ held seen by. after w.program w.plant w.area held seen w.names (Err t) by.are over)

  module _ (rules : MeetsTableRules w.program) (next : List Side) (over : IsBoxOver w.program w.plant w.names (Ok next)) where
    pub next_long : length next ≡ length w.area
    next_long =
        same w.program w.plant w.area goes.0 goes.1 w.names next rules goes.2.may goes.2.are
        (after w.program w.plant w.area goes.0 goes.1 w.names (Ok next) goes.2.are over)

    pub next_fits : length next ≤ length w.names
    next_fits =
        front_fits w.program w.plant w.area goes.0 goes.1 w.names next rules goes.2.may goes.2.are
        (after w.program w.plant w.area goes.0 goes.1 w.names (Ok next) goes.2.are over)

    module _ (names : List Side) (is : names ≡ next ++ drop (length next) w.names) where
      abbrev new : Walked
      new = record { program = w.program; plant = w.plant; area = next; names = names; ticks = w.ticks }

      goes_on : (held seen : List Side) → GoesBy w held seen → GoesBy new held seen
      goes_on held seen by = record {
        may = record { plant = by.may.plant; is = by.may.is; states = next_long ∙ by.may.states; inputs = by.may.inputs; seen_are = by.may.seen_are };
        are = ranges_next w.program w.plant w.area held seen w.names next rules by.may by.are
            (after w.program w.plant w.area held seen w.names (Ok next) by.are over) names is;
      }

      pub goes_next : Goes new
      goes_next = (goes.0, goes.1, goes_on goes.0 goes.1 goes.2)

      pub goes_to : GoesTo w next new
      goes_to = record {
        program = refl;
        plant = refl;
        ticks = refl;
        area = refl;
        width = next_long;
        told = λ held seen by. after w.program w.plant w.area held seen w.names (Ok next) by.are over;
        goes = goes_on;
      }

-- a walk along a held tube, from what is known of the tube
pub goes_held : (q : Asked) (first : List Side) (w : Walked) (p : Tables) (k ticks : ℕ) (info : PlantInfo) (held seen : List Side) → w.program ≡ p
    → w.plant ≡ k → w.area ≡ first → w.ticks ≡ ticks → GoesBy w held seen → AreOrdered seen → At p.plants k info
    → ((grid : Cut) (set : List ℕ) → HeldStays (IsAmong grid set) q.program q.jitter q.info first → StaysAmong (IsAmong grid set) info held seen first ticks)
    → ((grid : Cut) (set : List ℕ) (box : List Side) → AreNarrower box first → HeldStays (IsAmong grid set) q.program q.jitter q.info box
    → SomeTubeStays (IsAmong grid set) info held seen first ticks) → GoesHeld q first w
goes_held q first w p k ticks info held seen program_is plant_is area_is ticks_is by ordered at whole narrower = record {
  starts = area_is;
  held = held;
  seen = seen;
  goes = by;
  ordered = ordered;
  info = info;
  is = subst (λ (t : Tables). At t.plants w.plant info) (sym program_is) (subst (λ n. At p.plants n info) (sym plant_is) at);
  whole = λ grid set h. subst (λ b. StaysAmong (IsAmong grid set) info held seen b w.ticks) (sym area_is)
      (subst (StaysAmong (IsAmong grid set) info held seen first) (sym ticks_is) (whole grid set h));
  narrower = λ grid set box within h. subst (λ b. SomeTubeStays (IsAmong grid set) info held seen b w.ticks) (sym area_is)
      (subst (SomeTubeStays (IsAmong grid set) info held seen first) (sym ticks_is) (narrower grid set box within h));
}
