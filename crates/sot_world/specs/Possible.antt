-- What is possible is what has a step.
use Rattle.std.specs.Prelude.{ℕ, ◌≡◌, ◌⊎◌, length}
use Rattle.sot_lang.specs.declared.tables.ModuleInfo.{ModuleInfo}
use Rattle.sot_lang.specs.Tables.{Tables}
use Rattle.sot_lang.specs.TableRules.{MeetsTableRules}
use Rattle.sot_lists.specs.Places.{At}
use Rattle.sot_tube.specs.Tubes.{Keeps}
use Rattle.sot_tube.specs.WellFormed.{IsWellFormed}
use Rattle.sot_world.specs.declared.event.Event.{Event}
use Rattle.sot_world.specs.declared.event.Event.TheVariants.{Input, Code, Guest, Decide, Tick}
use Rattle.sot_world.specs.Configurations.{Configuration, point_of}
use Rattle.sot_world.specs.Steps.{Step}
use Rattle.sot_world.specs.Invariant.{KeepsInvariant}
use Rattle.sot_world.specs.Events.{Names, IsPossible, event_of}

-- a draft has eight slots, and of a decision it is settled whether the tube keeps
abbrev pub IsSettled : Tables → ℕ → Configuration → Event → Type 0
IsSettled p jitter C (Input topic value) = Unit {0}
IsSettled p jitter C (Code n) = Unit {0}
IsSettled p jitter C (Guest n draft) = length draft ≡ 8
IsSettled p jitter C (Decide m) =
    (a : ModuleInfo) → At p.modules m a
    → Keeps p jitter a (point_of C a.plant) ⊎ (Keeps p jitter a (point_of C a.plant) → ⊥)
IsSettled p jitter C (Tick noise) = Unit {0}

-- in a configuration that satisfies the invariant, an event that names what is there is possible
-- exactly where the semantics has a step by it
abbrev pub PossibleIsStep : Type 0
PossibleIsStep =
    (p : Tables) (jitter : ℕ) (C : Configuration) (e : Event) → MeetsTableRules p
    → IsWellFormed p jitter → KeepsInvariant p jitter C → Names p e →
    ((D : Configuration) → Step p jitter C (event_of p e) D → IsPossible p jitter C e)
    × (IsPossible p jitter C e → IsSettled p jitter C e
    → (D : Configuration) × Step p jitter C (event_of p e) D)
