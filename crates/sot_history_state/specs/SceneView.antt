-- A scene of the code, as contracts see it.
use Rattle.sot_history_state.specs.declared.scene.Scene.TheInside.{Inside}
use Rattle.sot_history_state.specs.Scenes.{Scene}

abbrev pub scene_in : Inside → Scene
scene_in s = record { modes = s.modes.items; scalars = s.scalars.items; points = s.points.items }
