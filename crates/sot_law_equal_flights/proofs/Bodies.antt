-- What a node's body leaves does not depend on where its parts lie in memory.
use Rattle.std.proofs.Common.{◌≡◌, ℤ, List, [], ◌∷◌, ◌++◌, Some, None, Ok, refl, replicate, length}
use Rattle.std.specs.Prelude.{if◌then◌else◌, slice_set}
use Rattle.sot_box.specs.Sides.{Side}
use Rattle.sot_lang.specs.declared.act.Act.{Act, Row_of-Act, end_of-Act, more_of-Act}
use Rattle.sot_lang.specs.declared.act.Act.TheVariants.{Assign, Publish, If', Repeat'}
use Rattle.sot_lang.specs.Values.{Outcome, is_true, then_with}
use Rattle.sot_lang.specs.Bodies.{Fired, in_range, times, act, acts, body, execution}
use Rattle.sot_typing.specs.Formulas.{Deed, assigned, published, branched, repeated, Deeds, no_deed, deed, deed_view, row_view, deeds_view}
use Rattle.sot_law_equal_flights.proofs.Values.{formula_value, value_view}

-- what statements without memory leave
abbrev mutual
  pub deed_leaves : List ℤ → List Side → List Side → Deed → Fired → Outcome Fired
  deed_leaves seen locals writes (assigned k t at) f =
      then_with
      (then_with (formula_value t (seen ++ f.locals)) (in_range locals k at))
      (λ z. Ok (record { locals = slice_set f.locals k z; draft = f.draft }))
  deed_leaves seen locals writes (published k t at) f =
      then_with
      (then_with (formula_value t (seen ++ f.locals)) (in_range writes k at))
      (λ z. Ok (record { locals = f.locals; draft = slice_set f.draft k (Some z) }))
  deed_leaves seen locals writes (branched t us vs) f =
      then_with
      (formula_value t (seen ++ f.locals))
      (λ z. if is_true z then deeds_leave seen locals writes us f else deeds_leave seen locals writes vs f)
  deed_leaves seen locals writes (repeated n us) f = times n (deeds_leave seen locals writes us) f

  pub deeds_leave : List ℤ → List Side → List Side → Deeds → Fired → Outcome Fired
  deeds_leave seen locals writes no_deed f = Ok f
  deeds_leave seen locals writes (deed a more) f = then_with (deed_leaves seen locals writes a f) (deeds_leave seen locals writes more)

-- statements leave what those leave that they look like
mutual
  act_view : (seen : List ℤ) (locals writes : List Side) (a : Act) (f : Fired) → act seen locals writes a f ≡ deed_leaves seen locals writes (deed_view a) f
  act_view seen locals writes (Assign k t at) f = λ i.
      then_with
      (then_with (value_view t (seen ++ f.locals) i) (in_range locals k at))
      (λ z. Ok (record { locals = slice_set f.locals k z; draft = f.draft }))
  act_view seen locals writes (Publish k t at) f = λ i.
      then_with
      (then_with (value_view t (seen ++ f.locals) i) (in_range writes k at))
      (λ z. Ok (record { locals = f.locals; draft = slice_set f.draft k (Some z) }))
  act_view seen locals writes (If' t s1 us s2 vs) f = λ i.
      then_with
      (value_view t (seen ++ f.locals) i)
      (λ z. if is_true z then rows_view seen locals writes us f i else rows_view seen locals writes vs f i)
  act_view seen locals writes (Repeat' n s us) f = λ i. times n (λ g. rows_view seen locals writes us g i) f

  rows_view : {m : _} (seen : List ℤ) (locals writes : List Side) (us : Row_of-Act m) (f : Fired)
      → acts seen locals writes us f ≡ deeds_leave seen locals writes (row_view us) f
  rows_view seen locals writes end_of-Act f = refl
  rows_view seen locals writes (more_of-Act a more) f = λ i.
      then_with (act_view seen locals writes a f i) (λ g. rows_view seen locals writes more g i)

body_view : (seen : List ℤ) (locals writes : List Side) (us : List Act) (f : Fired)
    → body seen locals writes us f ≡ deeds_leave seen locals writes (deeds_view us) f
body_view seen locals writes [] f = refl
body_view seen locals writes (a ∷ more) f = λ i.
    then_with (act_view seen locals writes a f i) (λ g. body_view seen locals writes more g i)

-- the execution of a body without memory
abbrev pub deeds_execution : Deeds → List Side → List Side → List ℤ → List ℤ → Outcome Fired
deeds_execution deeds locals writes seen at_start = deeds_leave seen locals writes deeds (record { locals = at_start; draft = replicate (length writes) None })

pub execution_view : (us : List Act) (locals writes : List Side) (seen at_start : List ℤ)
    → execution us locals writes seen at_start ≡ deeds_execution (deeds_view us) locals writes seen at_start
unfolding execution
execution_view us locals writes seen at_start = body_view seen locals writes us (record { locals = at_start; draft = replicate (length writes) None })
