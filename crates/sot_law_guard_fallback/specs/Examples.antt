-- The running example at time 20 with its decision left, in mode Sc at 8, which is in the safer
-- region.
use Rattle.std.specs.Prelude.{ℕ, ℤ, pos, true, false, [], ◌∷◌, Some, None, replicate}
use Rattle.std.specs.Prelude.{◌≡◌}
use Rattle.std.specs.Global.{Global}
use Rattle.sot_lang.specs.Line.{line}
use Rattle.sot_tube.specs.Examples.{line1}
use Rattle.sot_world.specs.declared.mode.Mode.{Mode}
use Rattle.sot_world.specs.declared.mode.Mode.TheVariants.{Ac, Sc}
use Rattle.sot_world.specs.Configurations.{Configuration}
use Rattle.sot_world.specs.Examples.{deciding}
use Rattle.sot_guard.specs.declared.told.Told.{Told}
use Rattle.sot_guard.specs.declared.told.Told.TheVariants.{Decided, Fired}
use Rattle.sot_guard.specs.Instants.{Happens}
use Rattle.sot_law_guard_fallback.specs.Distrust.{put_by_others}

-- the running example at time 20 and at 8, with its decision made for this mode
abbrev pub has_decided : Mode → Configuration
has_decided mode = record (deciding 20 mode (pos 8)) { left_dm = false ∷ [] }

-- a guard that trusts the model decides for the advanced node
abbrev pub LineLeavesSc : Global → Type 0
LineLeavesSc g =
    Happens true (line1 g) 0 [] (deciding 20 Sc (pos 8)) (Decided 0 Ac) (has_decided Ac)

-- a guard that does not trust the model stays in mode Sc
abbrev pub LineStaysSc : Global → Type 0
LineStaysSc g =
    Happens false (line1 g) 0 [] (deciding 20 Sc (pos 8)) (Decided 0 Sc) (has_decided Sc)

-- a guard that does not trust the model does not decide for the advanced node
abbrev pub LineOnlyStaysSc : Global → Type 0
LineOnlyStaysSc g =
    (D : Configuration) → Happens false (line1 g) 0 [] (deciding 20 Sc (pos 8)) (Decided 0 Ac) D
    → ⊥

-- a node fires, and drafts this command
abbrev pub commands_to : ℕ → ℤ → Told
commands_to n z =
    Fired n (record { draft = Some z ∷ replicate 7 None; enabled = true })

-- the advanced node drafts 2: the command 1 stays
abbrev pub LineKeepsCommand : Global → Type 0
LineKeepsCommand g =
    put_by_others (line g) (commands_to 0 (pos 2) ∷ []) (pos 1 ∷ []) ≡ pos 1 ∷ []

-- the advanced node drafts 2 and then the safe node 0: the command is 0
abbrev pub LineHoldsSafeDraft : Global → Type 0
LineHoldsSafeDraft g =
    put_by_others (line g) (commands_to 0 (pos 2) ∷ commands_to 1 (pos 0) ∷ []) (pos 1 ∷ [])
    ≡ pos 0 ∷ []
