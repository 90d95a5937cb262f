-- Laws of the offsets and of the length of made texts.
use Rattle.std.specs.Prelude.{◌≡◌, ℕ, ◌%◌, ◌≤◌, ◌^◌, length}
use Rattle.sot_maker.specs.Offsets.{offsets_of}
use Rattle.sot_maker.specs.Missions.{mission_text}

-- no two of a module's three parts are due in one instant: its decisions and its advanced node
-- every 4 ticks, its safe node every 2
abbrev pub NoTwoAreDueTogether : Type 0
NoTwoAreDueTogether =
    (w t : ℕ) → let o = offsets_of w in
    (t % 4 ≡ o.decides → t % 4 ≡ o.fast → ⊥) × (t % 4 ≡ o.decides → t % 2 ≡ o.slow → ⊥)
    × (t % 4 ≡ o.fast → t % 2 ≡ o.slow → ⊥)

-- no made mission is longer than a million bytes
abbrev pub MadeTextsAreShort : Type 0
MadeTextsAreShort = (n seed : ℕ) → n ≤ 100 → seed ≤ 10 ^ 12 → length (mission_text n seed) ≤ 1000000
