-- What is kept of answers that were given.
use Rattle.std.specs.Prelude.{IsTrue, ◌↔◌}
use Rattle.sot_lists.specs.Places.{At}
use Rattle.sot_lang.specs.declared.tables.ModuleInfo.{ModuleInfo}
use Rattle.sot_tube.specs.Admitted.{Admitted}
use Rattle.sot_tube.specs.Tubes.{Keeps}
use Rattle.sot_world.specs.declared.answers.KeepsAnswer.{KeepsAnswer}
use Rattle.sot_world.specs.declared.answers.KeepsAnswer.TheVariants.{Nothing, Given}

-- an answer is right: the module keeps its plant from that point on exactly where it says so
abbrev pub IsRight : Admitted → KeepsAnswer → Type 0
IsRight acc Nothing = Unit {0}
IsRight acc (Given kept m s) =
    (a : ModuleInfo) → At acc.program.modules m a
    → IsTrue kept ↔ Keeps acc.program acc.cert.jitter a s
