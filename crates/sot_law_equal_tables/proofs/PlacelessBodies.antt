-- A body that does not trap leaves one thing, wherever it stands in a text.
use Rattle.std.proofs.Common.{◌≡◌, ◌↔◌, ℕ, zero, suc, Bool, true, false, List, [], ◌∷◌, ◌++◌, Ok, Err, replicate, length}
use Rattle.std.specs.Prelude.{slice_set, if◌then◌else◌, ◌&&◌, int_le}
use Rattle.sot_text.specs.declared.token.Span.{Span}
use Rattle.sot_box.specs.Sides.{Side}
use Rattle.sot_iv.specs.TermIntervals.{OrMayTrap, After, Chooses}
use Rattle.sot_iv.specs.declared.may_trap.MayTrap.{MayTrap}
use Rattle.sot_iv.specs.declared.drafted.Drafted.TheVariants.{Absent, Sure}
use Rattle.sot_iv.specs.BodyIntervals.{Intervals, IsPut, IsJoin, IsTimes}
use Rattle.sot_typing.specs.Formulas.{Formula, Deed, assigned, published, branched, repeated, Deeds, no_deed, deed}
use Rattle.sot_law_equal_tables.proofs.Expressions.{IsFormulaInterval}
use Rattle.sot_law_equal_tables.proofs.Bodies.{IsDeedIntervals, AreDeedsIntervals, IsDeedsExecution}
use Rattle.sot_law_print_parse.specs.Unplaced.{nowhere}
use Rattle.sot_law_equal_tables.specs.UnplacedTables.{unplaced_formula, unplaced_deed, unplaced_deeds}
use Rattle.sot_law_equal_tables.proofs.Steps.{same_fact, no_trap, step, choose}
use Rattle.sot_law_equal_tables.proofs.PlacelessExpressions.{formula_same}

-- where a value is put
tested : (b : Bool) (x v : Side) (t s : MayTrap) → Ok v ≡ (if b then Ok x else Err t) → Ok v ≡ (if b then Ok x else Err s)
tested true x v t s e = e
tested false x v t s e = absurd (no_trap v t e)

put_there : (ranges : List Side) (k : ℕ) (at w : Span) (x v : Side) → IsPut ranges k at x (Ok v) → IsPut ranges k w x (Ok v)
put_there [] k at w x v e = absurd (no_trap v _ e)
put_there (r ∷ more) zero at w x v e = tested (int_le r.lo x.lo && int_le x.hi r.hi) x v _ _ e
put_there (r ∷ more) (suc k) at w x v e = put_there more k at w x v e

put_same : (ranges : List Side) (k : ℕ) (at w : Span) (x v : Side) → IsPut ranges k at x (Ok v) ↔ IsPut ranges k w x (Ok v)
put_same ranges k at w x v = (put_there ranges k at w x v, put_there ranges k w at x v)

-- a block n times
times_same : (n : ℕ) (block other : Intervals → OrMayTrap Intervals → Type 0) → ((f g : Intervals) → block f (Ok g) ↔ other f (Ok g)) → (f g : Intervals)
    → IsTimes n block f (Ok g) ↔ IsTimes n other f (Ok g)
times_same zero block other same f g = same_fact
times_same (suc n) block other same f g =
    step (block f) (other f) (λ h. IsTimes n block h (Ok g)) (λ h. IsTimes n other h (Ok g)) g (same f) (λ h. times_same n block other same h g)

-- a value that is put somewhere, and what comes of it
put_step : (a : Formula) (rs ranges : List Side) (k : ℕ) (at : Span) (went : Side → Type 0) (v : Intervals)
    → ((x : OrMayTrap Side) × IsFormulaInterval a rs x × After x (Ok v) (λ x. (y : OrMayTrap Side) × IsPut ranges k at x y × After y (Ok v) went))
    ↔ ((x : OrMayTrap Side) × IsFormulaInterval (unplaced_formula a) rs x
    × After x (Ok v) (λ x. (y : OrMayTrap Side) × IsPut ranges k nowhere x y × After y (Ok v) went))
put_step a rs ranges k at went v =
    step (IsFormulaInterval a rs) (IsFormulaInterval (unplaced_formula a) rs)
    (λ x. (y : OrMayTrap Side) × IsPut ranges k at x y × After y (Ok v) went)
    (λ x. (y : OrMayTrap Side) × IsPut ranges k nowhere x y × After y (Ok v) went)
    v
    (formula_same a rs)
    (λ x. step (IsPut ranges k at x) (IsPut ranges k nowhere x) went went v (put_same ranges k at nowhere x) (λ y. same_fact))

module _ (seen locals writes : List Side) where
  mutual
    deed_same : (d : Deed) (f v : Intervals) → IsDeedIntervals seen locals writes d f (Ok v) ↔ IsDeedIntervals seen locals writes (unplaced_deed d) f (Ok v)
    deed_same (assigned k a at) f v =
        put_step a (seen ++ f.locals) locals k at (λ y. Ok v ≡ Ok (record { locals = slice_set f.locals k y; draft = f.draft })) v
    deed_same (published k a at) f v =
        put_step a (seen ++ f.locals) writes k at (λ y. Ok v ≡ Ok (record { locals = f.locals; draft = slice_set f.draft k (Sure y) })) v
    deed_same (branched c taken other) f v =
        let leaves : Deeds → OrMayTrap Intervals → Type 0 = λ ds. AreDeedsIntervals seen locals writes ds f in
        step (IsFormulaInterval c (seen ++ f.locals)) (IsFormulaInterval (unplaced_formula c) (seen ++ f.locals))
        (λ x. Chooses x (leaves taken (Ok v)) (leaves other (Ok v))
        ((y : OrMayTrap Intervals) × leaves taken y × After y (Ok v)
        (λ y. (z : OrMayTrap Intervals) × leaves other z × After z (Ok v) (λ z. IsJoin y z (Ok v)))))
        (λ x. Chooses x (leaves (unplaced_deeds taken) (Ok v)) (leaves (unplaced_deeds other) (Ok v))
        ((y : OrMayTrap Intervals) × leaves (unplaced_deeds taken) y
        × After y (Ok v) (λ y. (z : OrMayTrap Intervals) × leaves (unplaced_deeds other) z × After z (Ok v) (λ z. IsJoin y z (Ok v)))))
        v
        (formula_same c (seen ++ f.locals))
        (λ x. choose x _ _ _ _ _ _ (deeds_same taken f v) (deeds_same other f v)
        (step (leaves taken) (leaves (unplaced_deeds taken))
        (λ y. (z : OrMayTrap Intervals) × leaves other z × After z (Ok v) (λ z. IsJoin y z (Ok v)))
        (λ y. (z : OrMayTrap Intervals) × leaves (unplaced_deeds other) z × After z (Ok v) (λ z. IsJoin y z (Ok v)))
        v
        (deeds_same taken f)
        (λ y. step (leaves other) (leaves (unplaced_deeds other)) (λ z. IsJoin y z (Ok v)) (λ z. IsJoin y z (Ok v)) v (deeds_same other f) (λ z. same_fact))))
    deed_same (repeated n body) f v =
        times_same n (AreDeedsIntervals seen locals writes body) (AreDeedsIntervals seen locals writes (unplaced_deeds body)) (deeds_same body) f v

    pub deeds_same : (ds : Deeds) (f v : Intervals) → AreDeedsIntervals seen locals writes ds f (Ok v)
        ↔ AreDeedsIntervals seen locals writes (unplaced_deeds ds) f (Ok v)
    deeds_same no_deed f v = same_fact
    deeds_same (deed d more) f v =
        step (IsDeedIntervals seen locals writes d f) (IsDeedIntervals seen locals writes (unplaced_deed d) f)
        (λ g. AreDeedsIntervals seen locals writes more g (Ok v)) (λ g. AreDeedsIntervals seen locals writes (unplaced_deeds more) g (Ok v))
        v (deed_same d f) (λ g. deeds_same more g v)

pub execution_same : (deeds : Deeds) (locals writes seen at_start : List Side) (v : Intervals)
    → IsDeedsExecution deeds locals writes seen at_start (Ok v) ↔ IsDeedsExecution (unplaced_deeds deeds) locals writes seen at_start (Ok v)
execution_same deeds locals writes seen at_start v =
    deeds_same seen locals writes deeds (record { locals = at_start; draft = replicate (length writes) Absent }) v
