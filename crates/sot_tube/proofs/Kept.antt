-- A module keeps its plant from a point on exactly where the tube from the point's box is inside.
use Rattle.std.proofs.Common.{◌≡◌, ℕ, ◌+◌, ◌*◌, ℤ, List, Ok, Err, refl, sym, subst}
use Rattle.std.specs.Prelude.{Result, IsTrue, ◌↔◌}
use Rattle.std.specs.Result.{is_ok}
use Rattle.std.proofs.lemmas.Bool.{false≢true}
use Rattle.sot_lists.specs.Places.{At}
use Rattle.sot_box.specs.Boxes.{point_box}
use Rattle.sot_lang.specs.declared.tables.ModuleInfo.{ModuleInfo}
use Rattle.sot_lang.specs.Tables.{Tables}
use Rattle.sot_lang.specs.Ranges.{input_ranges}
use Rattle.sot_lang.specs.TableRules.{IsTyped}
use Rattle.sot_tube.specs.Tubes.{AnyTubeInside, Keeps}
use Rattle.sot_tube.specs.Leaves.{Leave}
use Rattle.sot_tube.specs.Calls.{AnswersAnyTube}
use Rattle.sot_tube.proofs.Leaving.{tube_leaves_not}

pub keeps_exactly : (p : Tables) (jitter m : ℕ) (s : List ℤ) (k : ℕ) (a : ModuleInfo) (r : Result (Unit {0}) Leave) → IsTyped p → At p.modules m a
    → k ≡ 2 * (a.period + jitter)
    → AnswersAnyTube p m (point_box s) k r → IsTrue (is_ok r) ↔ Keeps p jitter a s
keeps_exactly p jitter m s k a (Ok u) typed at long told = (
  (λ t. let there = typed.plant_is m a at in record {
    plant = there.0;
    is = there.1;
    inside = subst (AnyTubeInside p there.0 a.safe.boxes (point_box s)) long (told a there.0 at there.1);
  }),
  (λ h. refl),
)
keeps_exactly p jitter m s k a (Err l) typed at long told = (
  (λ f. absurd (false≢true f)),
  (λ h. absurd (tube_leaves_not p h.plant (input_ranges p h.plant) a.safe.boxes (point_box s) k l (told a h.plant at h.is)
      (subst (AnyTubeInside p h.plant a.safe.boxes (point_box s)) (sym long) h.inside))),
)
