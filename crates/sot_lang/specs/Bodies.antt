-- What the execution of a node's body gives.
use Rattle.std.specs.Prelude.{ℕ, zero, suc, ℤ, if◌then◌else◌, ◌&&◌, int_le, List, [], ◌∷◌, Ok, Some}
use Rattle.std.specs.Prelude.{◌++◌, Option, None, slice_set, replicate, length}
use Rattle.sot_text.specs.declared.token.Span.{Span}
use Rattle.sot_lang.specs.declared.act.Act.{Act, Row_of-Act, end_of-Act, more_of-Act}
use Rattle.sot_lang.specs.declared.act.Act.TheVariants.{Assign, Publish, Repeat', If'}
use Rattle.sot_lang.specs.declared.trap.TrapKind.TheVariants.{OutsideRange}
use Rattle.sot_box.specs.Sides.{Side}
use Rattle.sot_lang.specs.Values.{Outcome, trap, is_true, then_with, value_of}

-- a firing's locals, and for each written scalar a number or nothing
pub record Fired : Type 0 where
  pub locals : List ℤ
  pub draft : List (Option ℤ)

-- a value in a range, else a trap
abbrev pub within : Side → Span → ℤ → Outcome ℤ
within r at z = if int_le r.lo z && int_le z r.hi then Ok z else trap at OutsideRange

-- a value in the range that stands at this place, else a trap
abbrev pub in_range : List Side → ℕ → Span → ℤ → Outcome ℤ
in_range [] k at z = trap at OutsideRange
in_range (r ∷ rs) zero at z = within r at z
in_range (r ∷ rs) (suc k) at z = in_range rs k at z

-- a block, n times
abbrev pub times : ℕ → (Fired → Outcome Fired) → Fired → Outcome Fired
times zero block f = Ok f
times (suc n) block f = then_with (block f) (times n block)

-- what the statements leave, given the numbers read, the ranges of the locals and those of the
-- written scalars
abbrev mutual
  pub act : List ℤ → List Side → List Side → Act → Fired → Outcome Fired
  act seen locals writes (Assign k t at) f =
      then_with
      (then_with (value_of t (seen ++ f.locals)) (in_range locals k at))
      (λ z. Ok (record { locals = slice_set f.locals k z; draft = f.draft }))
  act seen locals writes (Publish k t at) f =
      then_with
      (then_with (value_of t (seen ++ f.locals)) (in_range writes k at))
      (λ z. Ok (record { locals = f.locals; draft = slice_set f.draft k (Some z) }))
  act seen locals writes (If' t s1 us s2 vs) f =
      then_with
      (value_of t (seen ++ f.locals))
      (λ z. if is_true z then acts seen locals writes us f else acts seen locals writes vs f)
  act seen locals writes (Repeat' n s us) f = times n (acts seen locals writes us) f

  -- a block's statements, one after another
  pub acts : {m : _} → List ℤ → List Side → List Side → Row_of-Act m → Fired → Outcome Fired
  acts seen locals writes end_of-Act f = Ok f
  acts seen locals writes (more_of-Act a rest) f =
      then_with (act seen locals writes a f) (acts seen locals writes rest)

-- a body, from the numbers read, the ranges of the locals and those of the written scalars
abbrev pub body : List ℤ → List Side → List Side → List Act → Fired → Outcome Fired
body seen locals writes [] f = Ok f
body seen locals writes (a ∷ rest) f =
    then_with (act seen locals writes a f) (body seen locals writes rest)

-- the execution of a body: the new locals and the draft, or the first trap
unfoldable pub execution : List Act → List Side → List Side → List ℤ → List ℤ → Outcome Fired
execution acts locals writes seen at_start =
    body seen locals writes acts (record
    { locals = at_start; draft = replicate (length writes) None })
