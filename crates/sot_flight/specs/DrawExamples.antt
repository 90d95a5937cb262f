-- Worked words, numbers and rows, as statements that the functions of `facts` prove.
use Rattle.std.specs.Prelude.{◌≡◌, ℕ, ℤ, pos, negsuc, List, [], ◌∷◌, map, Option, Some, None}
use Rattle.sot_box.specs.Sides.{Side}
use Rattle.sot_random_words.specs.Words.{word}
use Rattle.sot_flight.specs.declared.spread.Spread.TheVariants.{Anywhere, Ends}
use Rattle.sot_flight.specs.Draws.{drawn_from, turn}
use Rattle.sot_flight.specs.Stated.{row_at}

-- the first three words of seed 42 on stream 54
abbrev pub Words : Type 0
Words = (word 42 54 0 ≡ 0xa15c02b7) × (word 42 54 1 ≡ 0x7b47f409) × (word 42 54 2 ≡ 0xba1d3330)

abbrev pub minus_one_to_one : Side
minus_one_to_one = record { lo = negsuc 0; hi = pos 1 }

-- what these words stand for in -1..1; the second word for a range of one number, and for one of
-- 2^32
abbrev pub Numbers : Type 0
Numbers =
    (drawn_from Anywhere 42 54 0 (minus_one_to_one ∷ minus_one_to_one ∷ minus_one_to_one ∷ [])
    ≡ negsuc 0 ∷ negsuc 0 ∷ pos 1 ∷ [])
    × (drawn_from Anywhere 42 54 1 (record { lo = pos 7; hi = pos 7 } ∷ []) ≡ pos 7 ∷ [])
    × (drawn_from Anywhere 42 54 1 (record { lo = pos 0; hi = pos 4294967295 } ∷ []) ≡ pos 0x7b47f409 ∷ [])

-- of a range the same words stand for its ends: the first two are odd, and the third is even. An end
-- that is held for three ticks takes a new word each third one
abbrev pub HeldEnds : Type 0
HeldEnds =
    (drawn_from (Ends 3) 42 54 0 (minus_one_to_one ∷ minus_one_to_one ∷ minus_one_to_one ∷ [])
    ≡ pos 1 ∷ pos 1 ∷ negsuc 0 ∷ [])
    × (map (turn (Ends 3)) (0 ∷ 2 ∷ 3 ∷ 5 ∷ 6 ∷ []) ≡ 0 ∷ 0 ∷ 1 ∷ 1 ∷ 2 ∷ [])
    × (map (turn Anywhere) (0 ∷ 1 ∷ 2 ∷ []) ≡ 0 ∷ 1 ∷ 2 ∷ [])

-- a list of one row goes on with it
abbrev pub OneRow : Type 0
OneRow = (t : ℕ) → row_at ((pos 3 ∷ []) ∷ []) t ≡ pos 3 ∷ []

-- a script of two drafts at its firings 0, 1 and 2
abbrev pub two_drafts : List (List (Option ℤ))
two_drafts = (Some (pos 5) ∷ []) ∷ (None ∷ []) ∷ []

abbrev pub TwoRows : Type 0
TwoRows =
    (row_at two_drafts 0 ≡ Some (pos 5) ∷ []) × (row_at two_drafts 1 ≡ None ∷ [])
    × (row_at two_drafts 2 ≡ None ∷ [])
