-- The words that a program was started with.
use Rattle.std.specs.Prelude.{◌≡◌, ◌⊎◌, ℕ, String, List, [], ◌∷◌, Result, Ok, Err, drop}
use Rattle.std.specs.Prelude.{string_bytes}
use Rattle.std.specs.Global.{Global}
use Rattle.std.specs.declared.vec.IntoIter.{IntoIter}
use Rattle.std.specs.Vec.Iter.{into_iter_items}
use Rattle.std.specs.declared.io.Error.{Error}
use Rattle.std.specs.declared.io.ErrorKind.TheVariants.{InvalidData}
use Rattle.std.specs.IoError.{error_kind}

-- what a process was started with: its words, or why they cannot be had
abbrev pub Started : Type 0
Started = Result (IntoIter (String Global) Global) Error

-- the words behind the program's name; where some word is no text, one empty word; and no words
-- where they cannot be had for another reason
abbrev pub AreWordsOf : Started → List (String Global) → Type 0
AreWordsOf (Ok args) words = words ≡ drop 1 (into_iter_items args)
AreWordsOf (Err e) words =
    (error_kind e ≡ InvalidData)
    × ((word : String Global) × (words ≡ word ∷ []) × (string_bytes word ≡ []))

-- a process ends: at 6, for want of memory for its words; or as a call with them, of which this
-- says with which words it may end with which status
abbrev pub EndsAsCalled : (List (String Global) → ℕ → Type 0) → Started → ℕ → Type 0
EndsAsCalled Calls args status =
    (status ≡ 6)
    ⊎ ((words : List (String Global)) × AreWordsOf args words × Calls words status)
