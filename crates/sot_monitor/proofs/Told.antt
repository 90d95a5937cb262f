-- The moments that are told are those of the run.
use Rattle.std.proofs.Common.{◌≡◌, ◌∙◌, List, [], ◌∷◌, map, refl, sym, ap}
use Rattle.sot_history_state.specs.Scenes.{scene_of}
use Rattle.sot_history_state.specs.Laws.{moments_of}
use Rattle.sot_history_state.proofs.Scenes.{scenes_are_the_runs}
use Rattle.sot_monitor.specs.Moments.{number_in}
use Rattle.sot_monitor.specs.Laws.{MomentsAreTheRuns}

map_twice : {A B C : Type 0} (f : A → B) (g : B → C) (xs : List A) → map g (map f xs) ≡ map (λ x. g (f x)) xs
map_twice f g [] = refl
map_twice f g (x ∷ xs) = ap (λ ys. g (f x) ∷ ys) (map_twice f g xs)

pub told_runs : MomentsAreTheRuns
told_runs p jitter start entries Q run rules =
    ap (map number_in) (sym (scenes_are_the_runs p jitter start entries Q run rules).1) ∙ map_twice scene_of number_in (moments_of run.C run.events run.Ds)
