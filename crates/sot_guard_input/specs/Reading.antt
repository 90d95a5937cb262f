-- Bytes that wait, and bytes that were passed.
use Rattle.std.specs.Prelude.{◌≡◌, ℕ, ◌+◌, ◌<◌, ◌≤◌, ◌⊎◌, ◌==◌, Bool, true, false, List, [], ◌∷◌}
use Rattle.std.specs.Prelude.{◌++◌, Option, length, take}
use Rattle.std.specs.Io.KnownBytes.{Consumes, IsAtEnd}
use Rattle.sot_text.specs.LineEnds.{lines}
use Rattle.sot_guard_input.specs.Waiting.{longest, has_end}
use Rattle.sot_guard_input.specs.declared.ear.Ear.{Ear}
use Rattle.sot_guard_input.specs.declared.ear.Next.{Next}
use Rattle.sot_guard_input.specs.declared.ear.Next.TheVariants.{Line, End, TooLong}
use Rattle.sot_guard_input.specs.declared.piece.FrontFail.{FrontFail}
use Rattle.sot_guard_input.specs.declared.piece.FrontFail.TheVariants as fails
use Rattle.sot_guard_input.specs.declared.piece.Piece.{Piece}
use Rattle.sot_guard_input.specs.declared.piece.Piece.TheVariants as pieces

-- bytes of the source came behind those that waited; so many of the first ones are passed, and the
-- others wait
pub record Reads (left left_after : Option (List ℕ)) (waiting waiting_after passed : List ℕ) :
    Type 0 where
  pub bytes : List ℕ
  pub taken : Consumes left left_after bytes
  pub kept : waiting ++ bytes ≡ passed ++ waiting_after

-- where the source was seen to end, nothing waits and nothing is left
abbrev pub IsSettled : Option (List ℕ) → List ℕ → Bool → Type 0
IsSettled left waiting ended = ended ≡ true → (waiting ≡ []) × IsAtEnd left

-- a text is empty, or its last line has a line end
abbrev pub ends_line : List ℕ → Bool
ends_line [] = true
ends_line (b ∷ []) = b == 10
ends_line (b ∷ c ∷ bs) = ends_line (c ∷ bs)

-- a text has one line, or none
abbrev pub IsAtMostALine : List ℕ → Type 0
IsAtMostALine text = (text ≡ []) ⊎ (lines text ≡ text ∷ [])

-- so many first bytes are a line. Only the last one of a source may have no line end
pub record IsLine (len : ℕ) (left : Option (List ℕ)) (e : Ear) : Type 0 where
  pub some : 0 < len
  pub few : len ≤ length e.buffer
  pub one : lines (take len e.buffer) ≡ take len e.buffer ∷ []
  pub whole : e.ended ≡ false → ends_line (take len e.buffer) ≡ true
  pub last : e.ended ≡ true → (len ≡ length e.buffer) × IsAtEnd left

-- what comes next: a line; nothing more; or as many bytes as a line may have, and no line end
abbrev pub IsNext : Next → Option (List ℕ) → Ear → Type 0
IsNext (Line len) left e = IsLine len left e
IsNext End left e = (e.ended ≡ true) × (e.buffer ≡ []) × IsAtEnd left
IsNext TooLong left e =
    (e.ended ≡ false) × (has_end e.buffer ≡ false) × (length e.buffer ≡ longest)

-- the source was seen to end: what waits is a line, or nothing
abbrev pub IsLast : Next → Ear → Type 0
IsLast (Line len) e = (e.ended ≡ true) × (len ≡ length e.buffer) × (0 < len)
IsLast End e = (e.ended ≡ true) × (e.buffer ≡ [])
IsLast TooLong e = ⊥

-- a piece ends a line, is a part of one, or is all that there was
abbrev pub IsPiece : Piece → Option (List ℕ) → Ear → List ℕ → Type 0
IsPiece pieces.Line left e piece =
    (e.ended ≡ false) × (lines piece ≡ piece ∷ []) × (ends_line piece ≡ true)
IsPiece pieces.Part left e piece =
    (e.ended ≡ false) × (has_end piece ≡ false) × (0 < length piece)
IsPiece pieces.Last left e piece =
    (e.ended ≡ true) × (e.buffer ≡ []) × IsAtEnd left × IsAtMostALine piece

-- a piece was passed, and put behind a text
pub record AddsPiece (kind : Piece) (left left_after : Option (List ℕ)) (e e_after : Ear)
    (text text_after : List ℕ) : Type 0 where
  pub piece : List ℕ
  pub reads : Reads left left_after e.buffer e_after.buffer piece
  pub is : IsPiece kind left_after e_after piece
  pub added : text_after ≡ text ++ piece

-- why there is no front: this holds where the source has failed, this where it is too long
abbrev pub IfFails : FrontFail → Type 0 → Type 0 → Type 0
IfFails fails.Fault Faulty Long = Faulty
IfFails fails.TooLong Faulty Long = Long
IfFails fails.Memory Faulty Long = Unit {0}

-- a piece of a line waits, which is too long behind so many bytes
pub record IsPieceTooLong (waiting : List ℕ) (before limit : ℕ) : Type 0 where
  pub piece : List ℕ
  pub rest : List ℕ
  pub waiting_are : waiting ≡ piece ++ rest
  pub one : lines piece ≡ piece ∷ []
  pub long : limit < before + length piece
