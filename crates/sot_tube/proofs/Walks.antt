-- A walk along a tube, tick by tick.
use Rattle.std.proofs.Common.{◌≡◌, ℕ, suc, ◌-◌, ◌<◌, inl, inr, List, [], ◌∷◌, Ok, Err, length, refl, sym, ap, ◌∙◌, subst, arith}
use Rattle.std.specs.Prelude.{ℤ}
use Rattle.sot_box.specs.Sides.{Side}
use Rattle.sot_lists.specs.Places.{At}
use Rattle.sot_box.specs.BoxList.{BoxList}
use Rattle.sot_box.specs.Regions.{Covers, IsGap}
use Rattle.sot_lang.specs.declared.tables.PlantInfo.{PlantInfo}
use Rattle.sot_lang.specs.Tables.{Tables}
use Rattle.sot_iv.specs.declared.may_trap.MayTrap.{MayTrap}
use Rattle.sot_tube.specs.declared.leave.Leave.TheVariants.{Out, Trap}
use Rattle.sot_iv.specs.PlantTicks.{MayTickBox, IsBoxAfterTick}
use Rattle.sot_iv.specs.TermIntervals.{AreTermIntervals}
use Rattle.sot_iv.proofs.Sound.{joins_ok}
use Rattle.sot_lang.specs.declared.term.Term.{Term}
use Rattle.sot_lang.specs.TableRules.{MeetsTableRules}
use Rattle.sot_tube.specs.Tubes.{StaysInside}
use Rattle.sot_tube.specs.Leaves.{Leaves}
use Rattle.sot_tube.specs.Walk.{IsWalked}

pub record WalkSoFar (p : Tables) (k : ℕ) (region : BoxList) (first held seen : List Side) (ticks : ℕ) (area : List Side) (n : ℕ) : Type 0 where
  pub step : MayTickBox p k area held seen
  pub width : length area ≡ region.width
  pub walked : (info : PlantInfo) → At p.plants k info → IsWalked info held seen region.boxes first ticks area n

-- there is one interval for each expression
pub terms_long : (ts : List Term) (rs xs : List Side) → AreTermIntervals ts rs (Ok xs) → length xs ≡ length ts
terms_long [] rs xs h = (let e : xs ≡ [] = cc in ap length e)
terms_long (t ∷ ts) rs xs h =
    let x = joins_ok h.0 xs _ h.2 in
    ap length x.4 ∙ ap suc (terms_long ts rs x.1 x.3)

-- some ticks are left: one, and the rest
pub one_left : (P : ℕ → Type 0) (k n : ℕ) → n < k → P (suc (k - suc n)) → P (k - n)
one_left P k n lt h = let e : suc (k - suc n) ≡ k - n = omega arith in subst P e h

none_left : (P : ℕ → Type 0) (k : ℕ) → P 0 → P (k - k)
none_left P k h = let e : 0 ≡ k - k = omega arith in subst P e h

module _ (p : Tables) (k : ℕ) (region : BoxList) (first held seen : List Side) (ticks : ℕ) where
  pub walk_start : MayTickBox p k first held seen → length first ≡ region.width → WalkSoFar p k region first held seen ticks first 0
  walk_start step width = record {
    step = step;
    width = width;
    walked = λ info at. let e : ticks - 0 ≡ ticks = omega arith in record {
      stays = λ s. subst (StaysInside info held seen region.boxes first) e s;
      leaves = λ leave l. subst (λ q. Leaves info held seen region.boxes first 0 q leave) e l;
    };
  }

  module _ (area : List Side) (n : ℕ) (sofar : WalkSoFar p k region first held seen ticks area n) where
    pub walk_next : (next : List Side) → MeetsTableRules p → n < ticks → Covers region.boxes area → IsBoxAfterTick p k area held seen (Ok next)
        → WalkSoFar p k region first held seen ticks next (suc n)
    walk_next next rules lt covers steps =
        let long : length next ≡ length sofar.step.plant.states.items = terms_long sofar.step.plant.next.items _ next (steps sofar.step.plant sofar.step.is)
        ∙ (rules.plants k sofar.step.plant sofar.step.is).one_next in let same : length next ≡ length area = long ∙ sym sofar.step.states in record {
          step = record { plant = sofar.step.plant; is = sofar.step.is; states = long; inputs = sofar.step.inputs; seen_are = sofar.step.seen_are };
          width = same ∙ sofar.width;
          walked = λ info at. let w = sofar.walked info at in record {
            stays = λ s. w.stays (one_left (StaysInside info held seen region.boxes area) ticks n lt (covers, (next, steps info at, s)));
            leaves =
                λ leave l. w.leaves leave (one_left (λ q. Leaves info held seen region.boxes area n q leave) ticks n lt
                (inr (inr (covers, next, steps info at, l))));
          };
        }

    pub walk_out : (info : PlantInfo) (s : List ℤ) → At p.plants k info → n < ticks → IsGap region.boxes area s
        → Leaves info held seen region.boxes first 0 ticks (Out n area s)
    walk_out info s at lt gap =
        (sofar.walked info at).leaves (Out n area s) (one_left (λ q. Leaves info held seen region.boxes area n q (Out n area s)) ticks n lt
        (inl (s, gap, refl)))

    pub walk_trap : (info : PlantInfo) (t : MayTrap) → At p.plants k info → n < ticks → Covers region.boxes area → IsBoxAfterTick p k area held seen (Err t)
        → Leaves info held seen region.boxes first 0 ticks (Trap n t.at)
    walk_trap info t at lt covers steps =
        (sofar.walked info at).leaves (Trap n t.at) (one_left (λ q. Leaves info held seen region.boxes area n q (Trap n t.at)) ticks n lt
        (inr (inl (covers, t, steps info at, refl))))

  pub walk_out_last : (area : List Side) (info : PlantInfo) (s : List ℤ) → WalkSoFar p k region first held seen ticks area ticks → At p.plants k info
      → IsGap region.boxes area s → Leaves info held seen region.boxes first 0 ticks (Out ticks area s)
  walk_out_last area info s sofar at gap =
      (sofar.walked info at).leaves (Out ticks area s) (none_left (λ q. Leaves info held seen region.boxes area ticks q (Out ticks area s)) ticks
      (s, gap, refl))

  pub walk_stays : (area : List Side) (info : PlantInfo) → WalkSoFar p k region first held seen ticks area ticks → At p.plants k info → Covers region.boxes area
      → StaysInside info held seen region.boxes first ticks
  walk_stays area info sofar at covers = (sofar.walked info at).stays (none_left (StaysInside info held seen region.boxes area) ticks covers)
