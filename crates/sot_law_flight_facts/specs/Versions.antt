-- Entries that write a topic and entries that do not: topic 1 is an input of two numbers, and the
-- node writes the one number of topic 0 and the two of topic 2, all within -9..9 but the first one,
-- within -2..2.
use Rattle.std.specs.Prelude.{◌≡◌, ℤ, pos, negsuc, Bool, true, false, Option, Some, None, List, []}
use Rattle.std.specs.Prelude.{◌∷◌, replicate}
use Rattle.std.specs.Global.{Global}
use Rattle.sot_world.specs.HistoryEntry.{Logged, InputAt, FireAt, TickAt}
use Rattle.sot_board.specs.Versions.{writes_topic, version}
use Rattle.sot_trace.specs.Examples.{wide}

-- the node fires with these three slots
abbrev pub fires : Option ℤ → Option ℤ → Option ℤ → Bool → Logged
fires x y z enabled = FireAt 0 0 (x ∷ y ∷ z ∷ replicate 5 None) enabled

-- only the second number of topic 2 is published
abbrev pub LaterScalarIsWritten : Global → Type 0
LaterScalarIsWritten g =
    (writes_topic (wide g) 2 (fires None None (Some (pos 9)) true) ≡ true)
    × (writes_topic (wide g) 1 (fires None None (Some (pos 9)) true) ≡ false)
    × (writes_topic (wide g) 0 (fires None None (Some (pos 9)) true) ≡ false)
    × (writes_topic (wide g) 2 (fires (Some (pos 3)) (Some (pos 10)) (Some (negsuc 8)) true) ≡ true)
    × (writes_topic (wide g) 0 (fires (Some (pos 3)) (Some (pos 10)) (Some (negsuc 8)) true)
    ≡ false)

-- numbers outside their ranges on either side, a disabled node, and no number write nothing
abbrev pub NothingIsWritten : Global → Type 0
NothingIsWritten g =
    (writes_topic (wide g) 2 (fires None (Some (pos 10)) (Some (negsuc 9)) true) ≡ false)
    × (writes_topic (wide g) 0 (fires (Some (pos 3)) None None true) ≡ false)
    × (writes_topic (wide g) 2 (fires (Some (pos 1)) (Some (pos 1)) (Some (pos 1)) false) ≡ false)
    × (writes_topic (wide g) 2 (fires None None None true) ≡ false)
    × (writes_topic (wide g) 0 (TickAt 0 (pos 0 ∷ []) (pos 0 ∷ pos 0 ∷ [])) ≡ false)

-- an input writes its topic and no other one
abbrev pub InputsWrite : Global → Type 0
InputsWrite g =
    (writes_topic (wide g) 1 (InputAt 0 1 (pos 0 ∷ pos 0 ∷ [])) ≡ true)
    × (writes_topic (wide g) 0 (InputAt 0 1 (pos 0 ∷ pos 0 ∷ [])) ≡ false)
    × (writes_topic (wide g) 2 (InputAt 0 1 (pos 0 ∷ pos 0 ∷ [])) ≡ false)

-- a firing that publishes two numbers of a topic counts once, and the same number again counts
-- again
abbrev pub written : List Logged
written =
    InputAt 0 1 (pos 0 ∷ pos 0 ∷ []) ∷ fires None (Some (pos 1)) (Some (pos 1)) true ∷ fires
    (Some (pos 3)) None (Some (pos 1)) true ∷ fires (Some (pos 2)) None None false ∷ []

abbrev pub WritesAreCounted : Global → Type 0
WritesAreCounted g =
    (version (wide g) 0 written ≡ 0) × (version (wide g) 1 written ≡ 1)
    × (version (wide g) 2 written ≡ 2)
