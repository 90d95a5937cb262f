-- A scene of a program stays one.
use Rattle.std.proofs.Common.{◌≡◌, ◌∙◌, ℕ, suc, ◌≤◌, ◌&&◌, cond, ℤ, Bool, true, false, List, [], ◌∷◌, Option, Some, None, length, take, drop, refl, ap, arith}
use Rattle.std.specs.Prelude.{slice_index_or, slice_set, int_le}
use Rattle.std.proofs.lemmas.List.{length-map, length-set, length-drop, length-take-le}
use Rattle.sot_lists.specs.Places.{At}
use Rattle.sot_box.specs.Sides.{Side}
use Rattle.sot_lang.specs.declared.tables.PlantInfo.{PlantInfo}
use Rattle.sot_lang.specs.Tables.{Tables}
use Rattle.sot_lang.specs.Ranges.{range_of}
use Rattle.sot_world.specs.Steps.{put, publish, published, write_at}
use Rattle.sot_world.specs.Opens.{AreStarts}
use Rattle.sot_world.specs.HistoryEntry.{Logged, InputAt, FireAt, DecideAt, TickAt}
use Rattle.sot_board.specs.Counts.{state_count}
use Rattle.sot_trace.specs.Fitting.{FitsEntry}
use Rattle.sot_trace.specs.Lines.{writes_of}
use Rattle.sot_summary.specs.Outside.{points_in}
use Rattle.sot_summary.proofs.Points.{front_inside, point_at}
use Rattle.sot_history_state.specs.Scenes.{Scene, opening, first_of, after, IsSceneOf}
use Rattle.sot_history_state.specs.Laws.{ScenesKeepTheirSizes}
use Rattle.sot_history_state.proofs.Writing.{points_count}

write_length : (k : ℕ) (zs xs : List ℤ) → length (write_at k zs xs) ≡ length xs
write_length k [] xs = refl
write_length k (z ∷ zs) xs = write_length (suc k) zs (slice_set xs k z) ∙ length-set xs k z

put_length : (r : Side) (k : ℕ) (z : ℤ) (xs : List ℤ) → length (put r k z xs) ≡ length xs
put_length r k z xs = by_test (int_le r.lo z && int_le z r.hi)
  where
    by_test : (b : Bool) → length (cond b (slice_set xs k z) xs) ≡ length xs
    by_test true = length-set xs k z
    by_test false = refl

publish_length : (p : Tables) (ws : List ℕ) (draft : List (Option ℤ)) (xs : List ℤ) → length (publish p ws draft xs) ≡ length xs
publish_length p [] draft xs = refl
publish_length p (k ∷ ks) [] xs = refl
publish_length p (k ∷ ks) (None ∷ draft) xs = publish_length p ks draft xs
publish_length p (k ∷ ks) (Some z ∷ draft) xs = publish_length p ks draft (put (range_of p.scalars k) k z xs) ∙ put_length (range_of p.scalars k) k z xs

published_length : (b : Bool) (p : Tables) (ws : List ℕ) (draft : List (Option ℤ)) (xs : List ℤ) → length (published b p ws draft xs) ≡ length xs
published_length true p ws draft xs = publish_length p ws draft xs
published_length false p ws draft xs = refl

point_width : (plants : List PlantInfo) (states : List ℤ) (k : ℕ) (plant : PlantInfo) → length states ≡ state_count plants → At plants k plant
    → length (slice_index_or (points_in plants states) k []) ≡ length plant.states.items
point_width plants states k plant size at =
    let inside = front_inside plants k plant at in
    let front = state_count (take k plants) in
    let behind = length-drop front states in
    let room : length plant.states.items ≤ length (drop front states) = omega (arith, inside, size, behind) in
    ap length (point_at plants states k plant at) ∙ length-take-le (length plant.states.items) (drop front states) room

pub keep_sizes : ScenesKeepTheirSizes
keep_sizes p = (opens, follows)
  where
    opens : (start : List (List ℤ)) → AreStarts p start → IsSceneOf p (opening p start)
    opens start starts = record { modes = length-map p.modules _; scalars = length-map p.scalars _; points = starts.each; widths = starts.widths }

    follows : (e : Logged) (s : Scene) → FitsEntry p e → IsSceneOf p s → IsSceneOf p (after p e s)
    follows (InputAt time topic value) s fits is =
        record { modes = is.modes; scalars = write_length (first_of p topic) value s.scalars ∙ is.scalars; points = is.points; widths = is.widths }
    follows (FireAt time n draft enabled) s fits is =
        record { modes = is.modes; scalars = published_length enabled p (writes_of p n) draft s.scalars ∙ is.scalars; points = is.points; widths = is.widths }
    follows (DecideAt time m mode) s fits is =
        record { modes = length-set s.modes m mode ∙ is.modes; scalars = is.scalars; points = is.points; widths = is.widths }
    follows (TickAt time noise states) s fits is =
        record {
          modes = is.modes;
          scalars = is.scalars;
          points = points_count p.plants states;
          widths = λ k plant at. point_width p.plants states k plant fits.1 at;
        }
