-- The interval evaluation as the code does it: expressions and bodies, by the ends.
use Rattle.std.specs.Prelude.{ℕ, zero, suc, if◌then◌else◌, ◌&&◌, int_le, List, [], ◌∷◌, ◌++◌, Ok}
use Rattle.std.specs.Prelude.{Err, ◌≡◌, Result, Option, Some, None, slice_index_or, slice_set}
use Rattle.sot_text.specs.declared.token.Span.{Span}
use Rattle.sot_syntax_tree.specs.declared.operator.Func.{Func}
use Rattle.sot_syntax_tree.specs.declared.operator.Func.TheVariants.{Min, Max, Abs, Clamp}
use Rattle.sot_lang.specs.declared.term.Term.{Term, Row_of-Term, end_of-Term, more_of-Term}
use Rattle.sot_lang.specs.declared.term.Term.TheVariants.{Number, Place, Binary', Rest', Neg', Not'}
use Rattle.sot_lang.specs.declared.term.Term.TheVariants.{Call', Rescale', If'}
use Rattle.sot_lang.specs.declared.act.Act.{Act, Row_of-Act, end_of-Act, more_of-Act}
use Rattle.sot_lang.specs.declared.act.Act.TheVariants.{Assign, Publish, Repeat'}
use Rattle.sot_lang.specs.declared.act.Act.TheVariants as act_of
use Rattle.sot_lang.specs.declared.trap.TrapKind.TheVariants.{OutsideRange}
use Rattle.sot_box.specs.Sides.{nought, Side}
use Rattle.sot_iv.specs.declared.may_trap.MayTrap.{MayTrap}
use Rattle.sot_iv.specs.declared.drafted.Drafted.{Drafted}
use Rattle.sot_iv.specs.declared.drafted.Drafted.TheVariants.{Absent, Maybe, Sure}
use Rattle.sot_iv.specs.TermIntervals.{OrMayTrap}
use Rattle.sot_iv.specs.BodyIntervals.{Intervals}
use Rattle.sot_iv.specs.Ends.{side, fitted, operated, rest, negation, denied, magnitude, least_side}
use Rattle.sot_iv.specs.Ends.{greatest_side, clamped, rescaled, hull, is_always, is_ever}

-- goes on with a value, or stops with its trap
abbrev pub and_then : {A B : Type 0} → OrMayTrap A → (A → OrMayTrap B) → OrMayTrap B
and_then (Err t) f = Err t
and_then (Ok x) f = f x

-- of two values one
abbrev pub joined : {A B C : Type 0} → (A → B → OrMayTrap C) → OrMayTrap A → OrMayTrap B
    → OrMayTrap C
joined f (Err t) b = Err t
joined f (Ok x) (Err t) = Err t
joined f (Ok x) (Ok y) = f x y

-- a condition's branch, or both together
abbrev pub chosen : {A : Type 0} → (A → A → OrMayTrap A) → Side → OrMayTrap A → OrMayTrap A
    → OrMayTrap A
chosen f c first second =
    if is_ever c then (if is_always c then first else joined f first second) else second

abbrev pub called_side : Func → Span → List Side → OrMayTrap Side
called_side Min at (a ∷ b ∷ []) = fitted at (least_side a b)
called_side Max at (a ∷ b ∷ []) = fitted at (greatest_side a b)
called_side Abs at (a ∷ []) = fitted at (magnitude a)
called_side Clamp at (a ∷ l ∷ h ∷ []) = fitted at (clamped a l h)
called_side _ at _ = Ok nought

abbrev mutual
  pub term_interval : Term → List Side → OrMayTrap Side
  term_interval (Number z) rs = Ok (side z z)
  term_interval (Place n) rs = Ok (slice_index_or rs n nought)
  term_interval (Binary' op p a q b at) rs =
      joined (operated op at) (term_interval a rs) (term_interval b rs)
  term_interval (Rest' p a by at) rs = and_then (term_interval a rs) (λ x. fitted at (rest by x))
  term_interval (Neg' p a at) rs = and_then (term_interval a rs) (λ x. fitted at (negation x))
  term_interval (Not' p a at) rs = and_then (term_interval a rs) (λ x. Ok (denied x))
  term_interval (Call' f shape parts at) rs = and_then (part_intervals parts rs) (called_side f at)
  term_interval (Rescale' p a from to at) rs =
      and_then (term_interval a rs) (λ x. fitted at (rescaled from to x))
  term_interval (If' p c q a r b at) rs =
      and_then (term_interval c rs) (λ x.
      chosen (λ y z. Ok (hull y z)) x (term_interval a rs) (term_interval b rs))

  pub part_intervals : {m : _} → Row_of-Term m → List Side → OrMayTrap (List Side)
  part_intervals end_of-Term rs = Ok []
  part_intervals (more_of-Term t rest) rs =
      joined (λ x xs. Ok (x ∷ xs)) (term_interval t rs) (part_intervals rest rs)

abbrev pub term_intervals : List Term → List Side → OrMayTrap (List Side)
term_intervals [] rs = Ok []
term_intervals (t ∷ ts) rs =
    joined (λ x xs. Ok (x ∷ xs)) (term_interval t rs) (term_intervals ts rs)

-- an interval in a target's range
abbrev pub put : Side → Span → Side → OrMayTrap Side
put r at x =
    if int_le r.lo x.lo && int_le x.hi r.hi then Ok x else Err
    (record { at = at; kind = OutsideRange; lo = x.lo; hi = x.hi })

-- an interval in the range that stands at this place
abbrev pub put_at : List Side → ℕ → Span → Side → OrMayTrap Side
put_at [] k at x = Err (record { at = at; kind = OutsideRange; lo = x.lo; hi = x.hi })
put_at (r ∷ rs) zero at x = put r at x
put_at (r ∷ rs) (suc k) at x = put_at rs k at x

abbrev pub hulls : List Side → List Side → List Side
hulls (a ∷ as') (b ∷ bs) = hull a b ∷ hulls as' bs
hulls _ _ = []

abbrev pub joined_draft : Drafted → Drafted → Drafted
joined_draft Absent Absent = Absent
joined_draft Absent (Maybe b) = Maybe b
joined_draft Absent (Sure b) = Maybe b
joined_draft (Maybe a) Absent = Maybe a
joined_draft (Sure a) Absent = Maybe a
joined_draft (Maybe a) (Maybe b) = Maybe (hull a b)
joined_draft (Maybe a) (Sure b) = Maybe (hull a b)
joined_draft (Sure a) (Maybe b) = Maybe (hull a b)
joined_draft (Sure a) (Sure b) = Sure (hull a b)

abbrev pub joined_drafts : List Drafted → List Drafted → List Drafted
joined_drafts (a ∷ as') (b ∷ bs) = joined_draft a b ∷ joined_drafts as' bs
joined_drafts _ _ = []

abbrev pub join_of : Intervals → Intervals → OrMayTrap Intervals
join_of f g =
    Ok (record { locals = hulls f.locals g.locals; draft = joined_drafts f.draft g.draft })

-- a block, n times
abbrev pub repeated : ℕ → (Intervals → OrMayTrap Intervals) → Intervals → OrMayTrap Intervals
repeated zero block f = Ok f
repeated (suc n) block f = and_then (block f) (repeated n block)

abbrev mutual
  pub act_intervals : List Side → List Side → List Side → Act → Intervals → OrMayTrap Intervals
  act_intervals seen locals writes (Assign k t at) f =
      and_then (and_then (term_interval t (seen ++ f.locals)) (put_at locals k at))
      (λ x. Ok (record { locals = slice_set f.locals k x; draft = f.draft }))
  act_intervals seen locals writes (Publish k t at) f =
      and_then (and_then (term_interval t (seen ++ f.locals)) (put_at writes k at))
      (λ x. Ok (record { locals = f.locals; draft = slice_set f.draft k (Sure x) }))
  act_intervals seen locals writes (act_of.If' t s1 us s2 vs) f =
      and_then (term_interval t (seen ++ f.locals))
      (λ c. chosen join_of c (block_intervals seen locals writes us f)
      (block_intervals seen locals writes vs f))
  act_intervals seen locals writes (Repeat' n s us) f =
      repeated n (block_intervals seen locals writes us) f

  pub block_intervals : {m : _} → List Side → List Side → List Side → Row_of-Act m → Intervals
      → OrMayTrap Intervals
  block_intervals seen locals writes end_of-Act f = Ok f
  block_intervals seen locals writes (more_of-Act a rest) f =
      and_then (act_intervals seen locals writes a f) (block_intervals seen locals writes rest)

abbrev pub body_intervals : List Side → List Side → List Side → List Act → Intervals
    → OrMayTrap Intervals
body_intervals seen locals writes [] f = Ok f
body_intervals seen locals writes (a ∷ rest) f =
    and_then (act_intervals seen locals writes a f) (body_intervals seen locals writes rest)

-- what a run of statements leaves in the locals and the draft
abbrev pub Leaves : {U : Type 0} → Result U MayTrap → List Side → List Drafted → OrMayTrap Intervals
    → Type 0
Leaves (Ok u) locals draft o = o ≡ Ok (record { locals = locals; draft = draft })
Leaves (Err t) locals draft o = o ≡ Err t

-- an answer that stands in a list is these intervals, or this trap
abbrev pub GivesSides : {U : Type 0} → Result U MayTrap → List Side → OrMayTrap (List Side) → Type 0
GivesSides (Ok u) sides o = o ≡ Ok sides
GivesSides (Err t) sides o = o ≡ Err t

-- a value that was found, or none and the trap that stands in its place, is this answer
abbrev pub Finds : {A : Type 0} → Option A → MayTrap → OrMayTrap A → Type 0
Finds (Some x) t o = o ≡ Ok x
Finds None t o = o ≡ Err t
