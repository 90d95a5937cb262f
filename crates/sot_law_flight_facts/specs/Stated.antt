-- What flights of the running example state, whose disturbance is within -1..1, and whose node
-- `fast` writes one number within -2..2.
use Rattle.std.specs.Prelude.{◌≡◌, ℤ, pos, negsuc, Option, Some, None, List, [], ◌∷◌}
use Rattle.std.proofs.Common.{refl}
use Rattle.std.specs.Global.{Global}
use Rattle.sot_lang.specs.declared.tables.PlantInfo.{PlantInfo}
use Rattle.sot_lang.specs.declared.tables.NodeInfo.{NodeInfo}
use Rattle.sot_lang.specs.Line.{line, fast, slow, pos_plant, vec}
use Rattle.sot_flight.specs.declared.spread.Spread.TheVariants.{Anywhere, Ends}
use Rattle.sot_flight.specs.Plans.{Still, Low, High, Listed, Drawn, Coded, Script, Wild, Guest}
use Rattle.sot_flight.specs.Stated.{noise_of, stated_noise, draft_of}
use Rattle.sot_board.specs.Examples.{relay_flight}

module _ (g : Global) where
  -- two disturbances, within -1..1 and 0..2
  abbrev pub windy : PlantInfo
  windy =
      record (pos_plant g) {
        noise = vec g
            (record { name = 119 ∷ []; scale = 0; lo = negsuc 0; hi = pos 1 } ∷ record
            { name = 118 ∷ []; scale = 0; lo = pos 0; hi = pos 2 } ∷ []) refl;
      }

  -- a node that writes twice
  abbrev pub twice : NodeInfo
  twice = record (fast g) { writes = vec g (0 ∷ 0 ∷ []) refl }

-- the low end and the high end of each disturbance, and nothing where there is none
abbrev pub EndsOfBounds : Global → Type 0
EndsOfBounds g =
    (noise_of (windy g) Low 3 ≡ negsuc 0 ∷ pos 0 ∷ [])
    × (noise_of (windy g) High 3 ≡ pos 1 ∷ pos 2 ∷ [])
    × (noise_of (pos_plant g) Still 3 ≡ [])
    × (stated_noise (line g) (record relay_flight { sways = High ∷ [] }) 0 ≡ (pos 1 ∷ []) ∷ [])

-- rows come one a tick, and the last one stays
abbrev pub two_rows : List (List ℤ)
two_rows = (pos 1 ∷ []) ∷ (negsuc 0 ∷ []) ∷ []

abbrev pub RowsStay : Global → Type 0
RowsStay g =
    (noise_of (pos_plant g) (Listed two_rows) 0 ≡ pos 1 ∷ [])
    × (noise_of (pos_plant g) (Listed two_rows) 1 ≡ negsuc 0 ∷ [])
    × (noise_of (pos_plant g) (Listed two_rows) 2 ≡ negsuc 0 ∷ [])
    × (noise_of (pos_plant g) (Listed two_rows) 7 ≡ negsuc 0 ∷ [])

-- one word a disturbance: tick 0 takes the words a15c02b7 and 7b47f409, tick 1 the words ba1d3330
-- and 83d2f293, each modulo 3
abbrev pub WordsOfSways : Global → Type 0
WordsOfSways g =
    (noise_of (windy g) (Drawn Anywhere 42 54) 0 ≡ negsuc 0 ∷ pos 0 ∷ [])
    × (noise_of (windy g) (Drawn Anywhere 42 54) 1 ≡ pos 1 ∷ pos 1 ∷ [])

-- of these words the third alone is even, so it stands for the low end of -1..1, and the others for
-- the high end of -1..1 or 0..2; for two ticks on end each
abbrev pub EdgesOfSways : Global → Type 0
EdgesOfSways g =
    (noise_of (windy g) (Drawn (Ends 2) 42 54) 0 ≡ pos 1 ∷ pos 2 ∷ [])
    × (noise_of (windy g) (Drawn (Ends 2) 42 54) 1 ≡ pos 1 ∷ pos 2 ∷ [])
    × (noise_of (windy g) (Drawn (Ends 2) 42 54) 2 ≡ negsuc 0 ∷ pos 2 ∷ [])
    × (noise_of (windy g) (Drawn (Ends 2) 42 54) 3 ≡ negsuc 0 ∷ pos 2 ∷ [])
    × (noise_of (windy g) (Drawn (Ends 1) 42 54) 1 ≡ negsuc 0 ∷ pos 2 ∷ [])

-- drafts come one a firing, and the last one stays; nothing is stated for code and guests
abbrev pub two_drafts : List (List (Option ℤ))
two_drafts = (Some (pos 5) ∷ []) ∷ (None ∷ []) ∷ []

abbrev pub DraftsStay : Global → Type 0
DraftsStay g =
    (draft_of (line g) (fast g) (Script two_drafts) 0 ≡ Some (Some (pos 5) ∷ []))
    × (draft_of (line g) (fast g) (Script two_drafts) 1 ≡ Some (None ∷ []))
    × (draft_of (line g) (fast g) (Script two_drafts) 6 ≡ Some (None ∷ []))
    × (draft_of (line g) (slow g) Coded 0 ≡ None)
    × (draft_of (line g) (fast g) (Guest 0) 0 ≡ None)

-- one word a number, modulo 5
abbrev pub WordsOfCrews : Global → Type 0
WordsOfCrews g =
    (draft_of (line g) (twice g) (Wild Anywhere 42 54) 0 ≡ Some (Some (pos 1) ∷ Some (pos 0) ∷ []))
    × (draft_of (line g) (twice g) (Wild Anywhere 42 54) 1
    ≡ Some (Some (pos 2) ∷ Some (negsuc 1) ∷ []))

-- the ends of -2..2, for three firings on end each
abbrev pub EdgesOfCrews : Global → Type 0
EdgesOfCrews g =
    (draft_of (line g) (twice g) (Wild (Ends 3) 42 54) 2 ≡ Some (Some (pos 2) ∷ Some (pos 2) ∷ []))
    × (draft_of (line g) (twice g) (Wild (Ends 3) 42 54) 3
    ≡ Some (Some (negsuc 1) ∷ Some (pos 2) ∷ []))
