-- The room of the list that holds the numbers of a line.
use Rattle.std.specs.Prelude.{ℕ, ◌+◌, ◌*◌, ◌≤◌, ℤ, length, vec_len, vec_capacity}
use Rattle.std.specs.Global.{Vec}
use Rattle.sot_lang.specs.Tables.{Tables}

-- room for the numbers of any line of a robot: four for each plant and one for each scalar
abbrev pub said_room : Tables → ℕ
said_room p = 4 * length p.plants + length p.scalars

-- the list has room for so many numbers more
abbrev pub HasRoom : ℕ → Vec ℤ → Type 0
HasRoom more list = vec_len list + more ≤ vec_capacity list
