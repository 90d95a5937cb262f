-- Least intervals of a node's body.
use Rattle.std.specs.Prelude.{ℕ, zero, suc, if◌then◌else◌, ◌&&◌, int_le, List, [], ◌∷◌, Ok, Err}
use Rattle.std.specs.Prelude.{◌≡◌, ◌++◌, slice_set, replicate, length}
use Rattle.sot_text.specs.declared.token.Span.{Span}
use Rattle.sot_lang.specs.declared.act.Act.{Act, Row_of-Act, end_of-Act, more_of-Act}
use Rattle.sot_lang.specs.declared.act.Act.TheVariants.{Assign, Publish, Repeat', If'}
use Rattle.sot_lang.specs.declared.trap.TrapKind.TheVariants.{OutsideRange}
use Rattle.sot_box.specs.Sides.{Side}
use Rattle.sot_lang.specs.Bodies.{acts}
use Rattle.sot_iv.specs.declared.drafted.Drafted.{Drafted}
use Rattle.sot_iv.specs.declared.drafted.Drafted.TheVariants.{Absent, Maybe, Sure}
use Rattle.sot_iv.specs.TermIntervals.{OrMayTrap, After, Chooses, IsIntervalHull, IsTermInterval}

-- the intervals of the locals, and for each written scalar whether it is drafted and with what
-- interval
pub record Intervals : Type 0 where
  pub locals : List Side
  pub draft : List Drafted

-- a value's interval where it is inside the range that stands at this place, and else the trap,
-- which shows the interval
abbrev pub IsPut : List Side → ℕ → Span → Side → OrMayTrap Side → Type 0
IsPut [] k at x o = o ≡ Err (record { at = at; kind = OutsideRange; lo = x.lo; hi = x.hi })
IsPut (r ∷ rs) zero at x o =
    o ≡ (if int_le r.lo x.lo && int_le x.hi r.hi then Ok x else Err
    (record { at = at; kind = OutsideRange; lo = x.lo; hi = x.hi }))
IsPut (r ∷ rs) (suc k) at x o = IsPut rs k at x o

-- the hulls of two lists of intervals, place by place
abbrev pub AreIntervalHulls : List Side → List Side → List Side → Type 0
AreIntervalHulls [] [] rs = rs ≡ []
AreIntervalHulls (a ∷ as') (b ∷ bs) (r ∷ rs) = IsIntervalHull a b r × AreIntervalHulls as' bs rs
AreIntervalHulls (a ∷ as') (b ∷ bs) [] = ⊥
AreIntervalHulls [] (b ∷ bs) rs = ⊥
AreIntervalHulls (a ∷ as') [] rs = ⊥

-- what both branches of an undecided statement leave of one scalar: the hull of what they draft,
-- surely where both surely do, and where one drafts nothing perhaps what the other drafts
abbrev pub IsDraftJoin : Drafted → Drafted → Drafted → Type 0
IsDraftJoin Absent Absent d = d ≡ Absent
IsDraftJoin Absent (Maybe b) d = d ≡ Maybe b
IsDraftJoin Absent (Sure b) d = d ≡ Maybe b
IsDraftJoin (Maybe a) Absent d = d ≡ Maybe a
IsDraftJoin (Sure a) Absent d = d ≡ Maybe a
IsDraftJoin (Maybe a) (Maybe b) d = (r : Side) × IsIntervalHull a b r × (d ≡ Maybe r)
IsDraftJoin (Maybe a) (Sure b) d = (r : Side) × IsIntervalHull a b r × (d ≡ Maybe r)
IsDraftJoin (Sure a) (Maybe b) d = (r : Side) × IsIntervalHull a b r × (d ≡ Maybe r)
IsDraftJoin (Sure a) (Sure b) d = (r : Side) × IsIntervalHull a b r × (d ≡ Sure r)

-- what two branches draft for all scalars is joined place by place
abbrev pub AreDraftJoins : List Drafted → List Drafted → List Drafted → Type 0
AreDraftJoins [] [] ds = ds ≡ []
AreDraftJoins (a ∷ as') (b ∷ bs) (d ∷ ds) = IsDraftJoin a b d × AreDraftJoins as' bs ds
AreDraftJoins (a ∷ as') (b ∷ bs) [] = ⊥
AreDraftJoins [] (b ∷ bs) ds = ⊥
AreDraftJoins (a ∷ as') [] ds = ⊥

-- what both branches of an undecided statement leave
abbrev pub IsJoin : Intervals → Intervals → OrMayTrap Intervals → Type 0
IsJoin f g o =
    (h : Intervals) × AreIntervalHulls f.locals g.locals h.locals
    × AreDraftJoins f.draft g.draft h.draft × (o ≡ Ok h)

-- a block n times, one after another
abbrev pub IsTimes : ℕ → (Intervals → OrMayTrap Intervals → Type 0) → Intervals
    → OrMayTrap Intervals → Type 0
IsTimes zero block f o = o ≡ Ok f
IsTimes (suc n) block f o =
    (x : OrMayTrap Intervals) × block f x × After x o (λ g. IsTimes n block g o)

-- what a statement leaves of these intervals, or the first operands or target of which some trap.
-- Both branches of an undecided condition run from the same intervals; a later draft of a scalar
-- replaces an earlier one
abbrev mutual
  pub IsActIntervals : List Side → List Side → List Side → Act → Intervals → OrMayTrap Intervals
      → Type 0
  IsActIntervals seen locals writes (Assign k t at) f o =
      (x : OrMayTrap Side) × IsTermInterval t (seen ++ f.locals) x
      × After x o (λ x. (y : OrMayTrap Side) × IsPut locals k at x y
      × After y o (λ y. o ≡ Ok (record { locals = slice_set f.locals k y; draft = f.draft })))
  IsActIntervals seen locals writes (Publish k t at) f o =
      (x : OrMayTrap Side) × IsTermInterval t (seen ++ f.locals) x
      × After x o (λ x. (y : OrMayTrap Side) × IsPut writes k at x y
      × After y o (λ y. o ≡ Ok (record {
        locals = f.locals;
        draft = slice_set f.draft k (Sure y);
      })))
  IsActIntervals seen locals writes (If' t s1 us s2 vs) f o =
      (x : OrMayTrap Side) × IsTermInterval t (seen ++ f.locals) x × After x o (λ x. Chooses x
      (AreActIntervals seen locals writes us f o)
      (AreActIntervals seen locals writes vs f o)
      ((y : OrMayTrap Intervals) × AreActIntervals seen locals writes us f y
      × After y o (λ y. (z : OrMayTrap Intervals) × AreActIntervals seen locals writes vs f z
      × After z o (λ z. IsJoin y z o))))
  IsActIntervals seen locals writes (Repeat' n s us) f o =
      IsTimes n (λ g x. AreActIntervals seen locals writes us g x) f o

  -- statements of a block, one after another
  pub AreActIntervals : {m : _} → List Side → List Side → List Side → Row_of-Act m → Intervals
      → OrMayTrap Intervals → Type 0
  AreActIntervals seen locals writes end_of-Act f o = o ≡ Ok f
  AreActIntervals seen locals writes (more_of-Act a rest) f o =
      (x : OrMayTrap Intervals) × IsActIntervals seen locals writes a f x
      × After x o (λ g. AreActIntervals seen locals writes rest g o)

-- statements of a body, one after another
abbrev pub IsBodyIntervals : List Side → List Side → List Side → List Act → Intervals
    → OrMayTrap Intervals → Type 0
IsBodyIntervals seen locals writes [] f o = o ≡ Ok f
IsBodyIntervals seen locals writes (a ∷ rest) f o =
    (x : OrMayTrap Intervals) × IsActIntervals seen locals writes a f x
    × After x o (λ g. IsBodyIntervals seen locals writes rest g o)

-- what a body leaves of the intervals of its locals, with nothing drafted at its start, or the
-- first operands or target of which some trap
abbrev pub IsExecutionIntervals : List Act → List Side → List Side → List Side → List Side
    → OrMayTrap Intervals → Type 0
IsExecutionIntervals acts locals writes seen at_start o =
    IsBodyIntervals seen locals writes acts
    (record { locals = at_start; draft = replicate (length writes) Absent }) o
