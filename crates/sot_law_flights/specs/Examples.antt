-- Worked counts of writes and of firings.
use Rattle.std.specs.Prelude.{◌≡◌, ℤ, pos, true, false, Option, Some, None, List, [], ◌∷◌}
use Rattle.std.specs.Prelude.{replicate, length}
use Rattle.std.specs.Global.{Global}
use Rattle.sot_lang.specs.Line.{line}
use Rattle.sot_world.specs.Examples.{relay}
use Rattle.sot_world.specs.declared.mode.Mode.TheVariants.{Ac}
use Rattle.sot_world.specs.HistoryEntry.{InputAt, FireAt, DecideAt, TickAt}
use Rattle.sot_board.specs.Examples.{relay_history}
use Rattle.sot_board.specs.Versions.{drafts_of, version}

-- a draft of one number, and of none, in eight slots
abbrev pub one : ℤ → List (Option ℤ)
one z = Some z ∷ replicate 7 None

abbrev pub none : List (Option ℤ)
none = replicate 8 None

-- the nodes of the running example, 0 `fast` and 1 `slow`, both write its topic `cmd`, whose
-- numbers are from -2 to 2: what an enabled node drafts in this range is a version, and what it
-- drafts outside it, what is not drafted, what a disabled node drafts, a decision and a tick are
-- none
abbrev pub VersionsOnTheLine : Global → Type 0
VersionsOnTheLine g =
    (version (line g) 0 [] ≡ 0)
    × (version (line g) 0 (FireAt 0 0 (one (pos 2)) true ∷ []) ≡ 1)
    × (version (line g) 0 (FireAt 0 1 (one (pos 0)) true ∷ []) ≡ 1)
    × (version (line g) 0 (FireAt 0 0 (one (pos 3)) true ∷ []) ≡ 0)
    × (version (line g) 0 (FireAt 0 0 none true ∷ []) ≡ 0)
    × (version (line g) 0 (FireAt 0 0 (one (pos 2)) false ∷ []) ≡ 0)
    × (version (line g) 0 (DecideAt 0 0 Ac ∷ TickAt 0 (pos 0 ∷ []) (pos 0 ∷ []) ∷ []) ≡ 0)
    × (version (line g) 0 (FireAt 0 0 (one (pos 2)) true ∷ FireAt 0 1 (one (pos 0)) false ∷ FireAt 4
    0 (one (pos 2)) true ∷ []) ≡ 2)

-- on the relay the input is a version of topic 0, and what the node copies one of topic 1
abbrev pub VersionsOnTheRelay : Global → Type 0
VersionsOnTheRelay g =
    (version (relay g) 0 (InputAt 0 0 (pos 5 ∷ []) ∷ []) ≡ 1)
    × (version (relay g) 1 (InputAt 0 0 (pos 5 ∷ []) ∷ []) ≡ 0)
    × (version (relay g) 0 relay_history ≡ 1)
    × (version (relay g) 1 relay_history ≡ 1)

-- a node's firings are counted whether it is enabled or not, and another node's are not
abbrev pub FiringsCount : Type 0
FiringsCount =
    (drafts_of 0 (FireAt 0 0 (one (pos 2)) false ∷ FireAt 0 1 (one (pos 0)) true ∷ TickAt 0 [] [] ∷
    FireAt 4 0 none true ∷ []) ≡ one (pos 2) ∷ none ∷ [])
    × (length (drafts_of 1 (FireAt 0 0 (one (pos 2)) false ∷ FireAt 0 1 (one (pos 0)) true ∷ TickAt
    0 [] [] ∷ [])) ≡ 1)
