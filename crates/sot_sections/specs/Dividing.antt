-- What the functions behind `split` promise each other.
use Rattle.std.specs.Prelude.{◌≡◌, ◌≢◌, ◌⊎◌, ℕ, suc, ◌+◌, ◌-◌, ◌<◌, ◌≤◌, List, [], ◌∷◌, Bool, true}
use Rattle.std.specs.Prelude.{◌==◌, if◌then◌else◌, length, slice_index, Option, None, Some}
use Rattle.sot_sections.specs.Sections.{Section, Division, division, place, title}
use Rattle.sot_text.specs.LineEnds.{lines}

-- a text, of which the first line has this number, is divided so
abbrev pub divided : ℕ → List ℕ → Division
divided number bytes = division number (lines bytes)

-- a section line begins here, or the text ends
abbrev pub begins_section : List ℕ → Bool
begins_section [] = true
begins_section (b ∷ bs) = b == 37

-- the number of the line behind the last
abbrev pub end_line : ℕ → List ℕ → ℕ
end_line number bytes = number + length (lines bytes)

-- the rest of a text begins at a section line, has the sections that are left, and ends where the
-- text ends
pub record IsRest (left : List Section) (stop limit : ℕ) (number : ℕ) (bytes : List ℕ) : Type 0
  where
    pub begins : begins_section bytes ≡ true
    pub same : (divided number bytes).sections ≡ left
    pub end : end_line number bytes ≡ stop
    pub room : number + length bytes ≤ limit

-- no section line begins before this place: each `%` there stands behind another byte of its line
abbrev pub NoneBegins : List ℕ → ℕ → Type 0
NoneBegins bytes at =
    (j : ℕ) → j < at → slice_index bytes j ≡ 37 → (j ≢ 0) × (slice_index bytes (j - 1) ≢ 10)

-- a section line begins in this place, or the text ends
abbrev pub IsCut : List ℕ → ℕ → Type 0
IsCut bytes at =
    (at ≡ length bytes) ⊎ ((slice_index bytes at ≡ 37)
    × ((at ≡ 0) ⊎ (slice_index bytes (at - 1) ≡ 10)))

-- how many lines a section takes with its section line, if it came
abbrev pub section_lines : Option (List ℕ) → ℕ
section_lines None = 0
section_lines (Some body) = suc (length (lines body))

-- the body of the first section, if it has this place
abbrev pub first_body : ℕ → List Section → Option (List ℕ)
first_body k [] = None
first_body k (s ∷ ss) = if place (title s.mark) == k then Some s.body else None

-- the sections behind it, or all of them
abbrev pub behind_first : ℕ → List Section → List Section
behind_first k [] = []
behind_first k (s ∷ ss) = if place (title s.mark) == k then ss else s ∷ ss
