-- What was put behind a text in memory.
use Rattle.std.specs.Prelude.{◌≡◌, ℕ, true, List, ◌++◌}
use Rattle.std.specs.String.{string_bytes}
use Rattle.sot_text_output.specs.declared.scratch.Scratch.{Scratch}

-- the scratch still holds its text; where there is memory for all at the end, there was before, and
-- the text has grown by what was put
abbrev pub Keeps : Scratch → Scratch → List ℕ → Type 0
Keeps before after more =
    (after.text.ghost_name ≡ before.text.ghost_name)
    × (after.is_whole ≡ true → (before.is_whole ≡ true)
    × (string_bytes after.text.now ≡ string_bytes before.text.now ++ more))
