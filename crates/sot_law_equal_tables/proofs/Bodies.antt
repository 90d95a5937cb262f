-- What a node's body leaves does not depend on where its parts lie in memory.
use Rattle.std.proofs.Common.{◌≡◌, List, [], ◌∷◌, ◌++◌, Ok, refl, replicate, length}
use Rattle.std.specs.Prelude.{slice_set}
use Rattle.sot_box.specs.Sides.{Side}
use Rattle.sot_lang.specs.declared.act.Act.{Act, Row_of-Act, end_of-Act, more_of-Act}
use Rattle.sot_lang.specs.declared.act.Act.TheVariants.{Assign, Publish, If', Repeat'}
use Rattle.sot_iv.specs.TermIntervals.{OrMayTrap, After, Chooses}
use Rattle.sot_iv.specs.declared.drafted.Drafted.TheVariants.{Absent, Sure}
use Rattle.sot_iv.specs.BodyIntervals.{Intervals, IsPut, IsJoin, IsTimes, IsActIntervals, AreActIntervals, IsBodyIntervals, IsExecutionIntervals}
use Rattle.sot_typing.specs.Formulas.{Deed, assigned, published, branched, repeated, Deeds, no_deed, deed, deed_view, row_view, deeds_view}
use Rattle.sot_law_equal_tables.proofs.Expressions.{IsFormulaInterval, term_view}

-- what statements without memory leave
abbrev mutual
  pub IsDeedIntervals : List Side → List Side → List Side → Deed → Intervals → OrMayTrap Intervals → Type 0
  IsDeedIntervals seen locals writes (assigned k t at) f o =
      (x : OrMayTrap Side) × IsFormulaInterval t (seen ++ f.locals) x
      × After x o (λ x. (y : OrMayTrap Side) × IsPut locals k at x y × After y o (λ y. o ≡ Ok (record { locals = slice_set f.locals k y; draft = f.draft })))
  IsDeedIntervals seen locals writes (published k t at) f o =
      (x : OrMayTrap Side) × IsFormulaInterval t (seen ++ f.locals) x
      × After x o (λ x. (y : OrMayTrap Side) × IsPut writes k at x y
      × After y o (λ y. o ≡ Ok (record { locals = f.locals; draft = slice_set f.draft k (Sure y) })))
  IsDeedIntervals seen locals writes (branched t us vs) f o =
      (x : OrMayTrap Side) × IsFormulaInterval t (seen ++ f.locals) x × After x o (λ x. Chooses x
      (AreDeedsIntervals seen locals writes us f o)
      (AreDeedsIntervals seen locals writes vs f o)
      ((y : OrMayTrap Intervals) × AreDeedsIntervals seen locals writes us f y
      × After y o (λ y. (z : OrMayTrap Intervals) × AreDeedsIntervals seen locals writes vs f z × After z o (λ z. IsJoin y z o))))
  IsDeedIntervals seen locals writes (repeated n us) f o = IsTimes n (λ g x. AreDeedsIntervals seen locals writes us g x) f o

  pub AreDeedsIntervals : List Side → List Side → List Side → Deeds → Intervals → OrMayTrap Intervals → Type 0
  AreDeedsIntervals seen locals writes no_deed f o = o ≡ Ok f
  AreDeedsIntervals seen locals writes (deed a more) f o =
      (x : OrMayTrap Intervals) × IsDeedIntervals seen locals writes a f x × After x o (λ g. AreDeedsIntervals seen locals writes more g o)

-- statements leave what those leave that they look like
mutual
  act_is : (seen locals writes : List Side) (a : Act) (f : Intervals) (o : OrMayTrap Intervals)
      → IsActIntervals seen locals writes a f o ≡ IsDeedIntervals seen locals writes (deed_view a) f o
  act_is seen locals writes (Assign k t at) f o = λ i.
      (x : OrMayTrap Side) × term_view t (seen ++ f.locals) x i
      × After x o (λ x. (y : OrMayTrap Side) × IsPut locals k at x y
      × After y o (λ y. o ≡ Ok (record { locals = slice_set f.locals k y; draft = f.draft })))
  act_is seen locals writes (Publish k t at) f o = λ i.
      (x : OrMayTrap Side) × term_view t (seen ++ f.locals) x i
      × After x o (λ x. (y : OrMayTrap Side) × IsPut writes k at x y
      × After y o (λ y. o ≡ Ok (record { locals = f.locals; draft = slice_set f.draft k (Sure y) })))
  act_is seen locals writes (If' t s1 us s2 vs) f o = λ i.
      (x : OrMayTrap Side) × term_view t (seen ++ f.locals) x i × After x o (λ x. Chooses x
      (row_is seen locals writes us f o i)
      (row_is seen locals writes vs f o i)
      ((y : OrMayTrap Intervals) × row_is seen locals writes us f y i
      × After y o (λ y. (z : OrMayTrap Intervals) × row_is seen locals writes vs f z i × After z o (λ z. IsJoin y z o))))
  act_is seen locals writes (Repeat' n s us) f o = λ i. IsTimes n (λ g x. row_is seen locals writes us g x i) f o

  row_is : {m : _} (seen locals writes : List Side) (us : Row_of-Act m) (f : Intervals) (o : OrMayTrap Intervals)
      → AreActIntervals seen locals writes us f o ≡ AreDeedsIntervals seen locals writes (row_view us) f o
  row_is seen locals writes end_of-Act f o = refl
  row_is seen locals writes (more_of-Act a more) f o = λ i.
      (x : OrMayTrap Intervals) × act_is seen locals writes a f x i × After x o (λ g. row_is seen locals writes more g o i)

body_is : (seen locals writes : List Side) (us : List Act) (f : Intervals) (o : OrMayTrap Intervals)
    → IsBodyIntervals seen locals writes us f o ≡ AreDeedsIntervals seen locals writes (deeds_view us) f o
body_is seen locals writes [] f o = refl
body_is seen locals writes (a ∷ more) f o = λ i.
    (x : OrMayTrap Intervals) × act_is seen locals writes a f x i × After x o (λ g. body_is seen locals writes more g o i)

-- what a body without memory leaves of the intervals of its locals, with nothing drafted at its start
abbrev pub IsDeedsExecution : Deeds → List Side → List Side → List Side → List Side → OrMayTrap Intervals → Type 0
IsDeedsExecution deeds locals writes seen at_start o =
    AreDeedsIntervals seen locals writes deeds (record { locals = at_start; draft = replicate (length writes) Absent }) o

pub execution_view : (acts : List Act) (locals writes seen at_start : List Side) (o : OrMayTrap Intervals)
    → IsExecutionIntervals acts locals writes seen at_start o ≡ IsDeedsExecution (deeds_view acts) locals writes seen at_start o
execution_view acts locals writes seen at_start o = body_is seen locals writes acts (record { locals = at_start; draft = replicate (length writes) Absent }) o
