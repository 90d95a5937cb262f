-- A line of an entry with which a flight goes on passes each test, and so does the last line at the end.
use Rattle.std.proofs.Common.{◌≡◌, ℕ, suc, ◌+◌, ℤ, true, List, [], ◌∷◌, Option, Some, None, length, refl, sym, ap, ◌∙◌, subst, arith}
use Rattle.std.specs.Prelude.{slice_index_or, sum_by}
use Rattle.std.proofs.lemmas.Bool.{false≢true}
use Rattle.std.proofs.lemmas.List.{length-map}
use Rattle.std.proofs.lemmas.List.Sums.{sum_by-cons}
use Rattle.std.proofs.lemmas.Option.{slice_get_within, none-some}
use Rattle.sot_lists.specs.Places.{At}
use Rattle.sot_box.specs.Sides.{Side}
use Rattle.sot_box.proofs.Ranges.{within_length}
use Rattle.sot_lang.specs.declared.tables.NodeInfo.{NodeInfo}
use Rattle.sot_lang.specs.declared.tables.PlantInfo.{PlantInfo}
use Rattle.sot_lang.specs.Tables.{Tables}
use Rattle.sot_lang.specs.TableRules.{MeetsTableRules}
use Rattle.sot_lang.specs.Ranges.{bounds}
use Rattle.sot_lang.specs.Ticks.{joined}
use Rattle.sot_world.specs.declared.outcome.Why.{Why}
use Rattle.sot_world.specs.declared.outcome.Why.TheVariants as whys
use Rattle.sot_world.specs.Configurations.{Configuration, is_left}
use Rattle.sot_world.specs.Steps.{Event, Input, Code, Guest, Decide, Tick, Step}
use Rattle.sot_world.specs.Events.{RefusesNode}
use Rattle.sot_world.specs.HistoryEntry.{Logged, InputAt, FireAt, DecideAt, TickAt}
use Rattle.sot_world.specs.Invariant.{KeepsInvariant}
use Rattle.sot_world.specs.Outcomes.{Recorded}
use Rattle.sot_flight.specs.Plans.{Plan}
use Rattle.sot_board.specs.Flown.{Position, IsStated, NoInputDue, Tells, Flies, Leads, IsEnd, FlownSoFar}
use Rattle.sot_board.specs.Standing.{Standing, IsStanding}
use Rattle.sot_board.proofs.Ticks.{joined_within}
use Rattle.sot_trace.specs.Lines.{writes_of, ticks_in, refused_in}
use Rattle.sot_trace.specs.Traces.{last_line}
use Rattle.sot_trace.proofs.Printable.{told_fits}
use Rattle.sot_trace_lines.specs.Spelled.{Spelled, InputLine, DecideLine, TickLine, EndLine, spelled_time, Fits}
use Rattle.sot_trace_lines.specs.Laws.{marks_of, spelled_of}
use Rattle.sot_replay.specs.Tests.{WorldRefuses, LeavesInputs, IsTooFar, IsNextLine, IsGiven, Fails}
use Rattle.sot_replay.specs.declared.fail.LineKind.{LineKind}
use Rattle.sot_replay.specs.declared.fail.LineKind.TheVariants.{NotALine, WrongTime, NotDue, AlreadyFired, NodesLeft, OutsideType, InputsLeft, TooFar, Differs}
use Rattle.sot_replay.specs.declared.fail.LineKind.TheVariants.{Ended, Missing}

marks_length : (p : Tables) (ks : List ℕ) (draft : List (Option ℤ)) → length (marks_of p ks draft) ≡ length ks
marks_length p [] draft = refl
marks_length p (k ∷ ks) [] = ap suc (marks_length p ks [])
marks_length p (k ∷ ks) (None ∷ draft) = ap suc (marks_length p ks draft)
marks_length p (k ∷ ks) (Some z ∷ draft) = ap suc (marks_length p ks draft)

module _ (p : Tables) (rules : MeetsTableRules p) (jitter : ℕ) (f : Plan) (P : Position) (holds : KeepsInvariant p jitter P.at) (entry : Logged) (Q : Position)
  where
    -- what the line of an entry spells names what is there
    fits_of : (e : Event) (r : Recorded) → Step p jitter P.at e Q.at → Tells P.at e r Q.at entry → Fits p (spelled_of p entry)
    fits_of (Input topic value) r step is = subst (λ x. Fits p (spelled_of p x)) (sym is) (step.info, step.is, step.outside, step.size)
    fits_of (Code n) r step (draft, enabled, was, is) =
        subst (λ x. Fits p (spelled_of p x)) (sym is) (slice_get_within p.nodes n step.node step.is, marks_length p (writes_of p n) _)
    fits_of (Guest n given) r step (draft, enabled, was, is) =
        subst (λ x. Fits p (spelled_of p x)) (sym is) (slice_get_within p.nodes n step.node step.is, marks_length p (writes_of p n) _)
    fits_of (Decide m) r step (mode, was, is) = subst (λ x. Fits p (spelled_of p x)) (sym is) (slice_get_within p.modules m step.module_info step.is)
    fits_of (Tick noise) r step is =
        subst (λ x. Fits p (spelled_of p x)) (sym is) (told_fits p rules jitter P Q (Tick noise) r (TickAt P.at.time (joined noise) (joined Q.at.points)) step
        refl)

    time_of : (e : Event) (r : Recorded) → Tells P.at e r Q.at entry → spelled_time (spelled_of p entry) ≡ P.at.time
    time_of (Input topic value) r is = ap (λ x. spelled_time (spelled_of p x)) is
    time_of (Code n) r (draft, enabled, was, is) = ap (λ x. spelled_time (spelled_of p x)) is
    time_of (Guest n given) r (draft, enabled, was, is) = ap (λ x. spelled_time (spelled_of p x)) is
    time_of (Decide m) r (mode, was, is) = ap (λ x. spelled_time (spelled_of p x)) is
    time_of (Tick noise) r is = ap (λ x. spelled_time (spelled_of p x)) is

    -- the world takes what happens
    takes_node : (n : ℕ) (node : NodeInfo) → At p.nodes n node → is_left P.at n ≡ true → (why : Why) → RefusesNode p jitter P.at n why → ⊥
    takes_node n node at left whys.NotDue failed = (let due = holds.due n node at left in failed (node, at, (due.0, due.1.due, due.1.past, due.2)))
    takes_node n node at left whys.AlreadyFired (due, fired) = false≢true (sym fired ∙ left)
    takes_node n node at left whys.NodesLeft failed = failed
    takes_node n node at left whys.OutsideType failed = failed

    takes : (e : Event) (r : Recorded) → Step p jitter P.at e Q.at → Tells P.at e r Q.at entry
        → (why : Why) → WorldRefuses p jitter P.at (spelled_of p entry) why
        → ⊥
    takes (Input topic value) r step is why failed = taken why (subst (λ x. WorldRefuses p jitter P.at (spelled_of p x) why) is failed)
      where
        taken : (why : Why) → WorldRefuses p jitter P.at (InputLine P.at.time topic value) why → ⊥
        taken whys.NotDue failed = failed
        taken whys.AlreadyFired failed = failed
        taken whys.NodesLeft failed = failed
        taken whys.OutsideType failed = failed (step.info, step.is, step.typed)
    takes (Code n) r step (draft, enabled, was, is) why failed =
        takes_node n step.node step.is step.fires.was_left why (subst (λ x. WorldRefuses p jitter P.at (spelled_of p x) why) is failed)
    takes (Guest n given) r step (draft, enabled, was, is) why failed =
        takes_node n step.node step.is step.fires.was_left why (subst (λ x. WorldRefuses p jitter P.at (spelled_of p x) why) is failed)
    takes (Decide m) r step (mode, was, is) why failed = taken why (subst (λ x. WorldRefuses p jitter P.at (spelled_of p x) why) is failed)
      where
        taken : (why : Why) → WorldRefuses p jitter P.at (DecideLine P.at.time m mode) why → ⊥
        taken whys.NotDue failed =
            (let due = holds.due_dm m step.module_info step.is step.was_left in failed (step.module_info, step.is, (due.0, due.1.due, due.1.past, due.2)))
        taken whys.AlreadyFired (due, fired) = false≢true (sym fired ∙ step.was_left)
        taken whys.NodesLeft failed = failed
        taken whys.OutsideType failed = failed
    takes (Tick noise) r step is why failed = taken why (subst (λ x. WorldRefuses p jitter P.at (spelled_of p x) why) is failed)
      where
        widths : (k : ℕ) (plant : PlantInfo) → At p.plants k plant → length (slice_index_or noise k []) ≡ length plant.noise.items
        widths k plant at =
            within_length (bounds plant) (slice_index_or noise k []) (step.bounded k plant at)
            ∙ length-map plant.noise.items (λ d. let s : Side = record { lo = d.lo; hi = d.hi } in s)

        taken : (why : Why) → WorldRefuses p jitter P.at (TickLine P.at.time (joined noise) (joined Q.at.points)) why → ⊥
        taken whys.NotDue failed = failed
        taken whys.AlreadyFired failed = failed
        taken whys.NodesLeft failed = failed step.may
        taken whys.OutsideType (may, failed) = failed (joined_within p.plants noise step.each widths step.bounded)

    leaves_none : (e : Event) (r : Recorded) → IsStated p f P e → Tells P.at e r Q.at entry → LeavesInputs P (spelled_of p entry) → ⊥
    leaves_none (Input topic value) r stated is left = subst (λ x. LeavesInputs P (spelled_of p x)) is left
    leaves_none (Code n) r stated (draft, enabled, was, is) left = subst (λ x. LeavesInputs P (spelled_of p x)) is left
    leaves_none (Guest n given) r stated (draft, enabled, was, is) left = subst (λ x. LeavesInputs P (spelled_of p x)) is left
    leaves_none (Decide m) r stated (mode, was, is) left = subst (λ x. LeavesInputs P (spelled_of p x)) is left
    leaves_none (Tick noise) r stated is left = subst (λ x. LeavesInputs P (spelled_of p x)) is left stated.1

    near_enough : (e : Event) (r : Recorded) → IsStated p f P e → Tells P.at e r Q.at entry → IsTooFar f P (spelled_of p entry) → ⊥
    near_enough (Input topic value) r stated is far = subst (λ x. IsTooFar f P (spelled_of p x)) is far
    near_enough (Code n) r stated (draft, enabled, was, is) far = subst (λ x. IsTooFar f P (spelled_of p x)) is far
    near_enough (Guest n given) r stated (draft, enabled, was, is) far = subst (λ x. IsTooFar f P (spelled_of p x)) is far
    near_enough (Decide m) r stated (mode, was, is) far = subst (λ x. IsTooFar f P (spelled_of p x)) is far
    near_enough (Tick noise) r stated is far = (let late = subst (λ x. IsTooFar f P (spelled_of p x)) is far in omega (arith, late, stated.0))

given_as : (p : Tables) (jitter : ℕ) (f : Plan) (entries : List Logged) (P : Position) (e : Logged) (line : List ℕ) → IsNextLine p jitter f P line
    → IsGiven p jitter f entries P (spelled_of p e) line
given_as p jitter f entries P (InputAt time topic value) line next = next
given_as p jitter f entries P (FireAt time node draft enabled) line next = next
given_as p jitter f entries P (DecideAt time decider mode) line next = next
given_as p jitter f entries P (TickAt time noise states) line next = next

-- the line of an entry with which the flight goes on
module _ (b : Standing) (is : IsStanding b) (entry : Logged) (Q : Position) (flies : Flies b.accepted.program b.accepted.cert.jitter b.plan b.position entry Q)
  where
    pub entry_fits : Fits b.accepted.program (spelled_of b.accepted.program entry)
    entry_fits =
        fits_of b.accepted.program is.kept.rules b.accepted.cert.jitter b.plan b.position is.kept.holds
        entry Q flies.event flies.recorded flies.step flies.tells

    world_takes : (why : Why) → WorldRefuses b.accepted.program b.accepted.cert.jitter b.position.at (spelled_of b.accepted.program entry) why → ⊥
    world_takes =
        takes b.accepted.program is.kept.rules b.accepted.cert.jitter b.plan b.position is.kept.holds entry Q flies.event flies.recorded flies.step flies.tells

    -- passes each test
    pub entry_passes : (line : List ℕ) → IsNextLine b.accepted.program b.accepted.cert.jitter b.plan b.position line → (kind : LineKind)
        → Fails kind b.accepted.program b.accepted.cert.jitter b.plan b.entries b.position (spelled_of b.accepted.program entry) line → ⊥
    entry_passes line next NotALine failed = failed
    entry_passes line next WrongTime failed =
        failed (time_of b.accepted.program is.kept.rules b.accepted.cert.jitter b.plan b.position is.kept.holds entry Q flies.event flies.recorded flies.tells)
    entry_passes line next NotDue failed = world_takes whys.NotDue failed
    entry_passes line next AlreadyFired failed = world_takes whys.AlreadyFired failed
    entry_passes line next NodesLeft failed = world_takes whys.NodesLeft failed
    entry_passes line next OutsideType failed = world_takes whys.OutsideType failed
    entry_passes line next InputsLeft failed =
        leaves_none b.accepted.program is.kept.rules b.accepted.cert.jitter b.plan b.position is.kept.holds entry Q flies.event flies.recorded flies.stated
        flies.tells failed
    entry_passes line next TooFar failed =
        near_enough b.accepted.program is.kept.rules b.accepted.cert.jitter b.plan b.position is.kept.holds entry Q flies.event flies.recorded flies.stated
        flies.tells failed
    entry_passes line next Differs failed = failed (given_as b.accepted.program b.accepted.cert.jitter b.plan b.entries b.position entry line next)
    entry_passes line next Ended failed = failed
    entry_passes line next Missing failed = failed

-- a history has as many ticks as its time says
module _ (p : Tables) (jitter : ℕ) (f : Plan) where
  stays : (P Q : Position) (x y : Logged) → Q.at.time ≡ P.at.time → ticks_in y ≡ 0 → x ≡ y → Q.at.time ≡ ticks_in x + P.at.time
  stays P Q x y time none is = omega (arith, time, none, ap ticks_in is)

  one_tick : (P Q : Position) (e : Event) (r : Recorded) (x : Logged) → Step p jitter P.at e Q.at → Tells P.at e r Q.at x → Q.at.time ≡ ticks_in x + P.at.time
  one_tick P Q (Input topic value) r x step is = stays P Q x (InputAt P.at.time topic value) (ap (λ (c : Configuration). c.time) step.rest) refl is
  one_tick P Q (Code n) r x step (draft, enabled, was, is) = stays P Q x _ step.fires.time refl is
  one_tick P Q (Guest n d) r x step (draft, enabled, was, is) = stays P Q x _ step.fires.time refl is
  one_tick P Q (Decide m) r x step (mode, was, is) = stays P Q x _ (ap (λ (c : Configuration). c.time) step.rest) refl is
  one_tick P Q (Tick noise) r x step is = (let one : ticks_in x ≡ 1 = ap ticks_in is in omega (arith, step.time, one))

  led_ticks : (P : Position) (xs : List Logged) (Q : Position) → Leads p jitter f P xs Q → Q.at.time ≡ sum_by ticks_in xs + P.at.time
  led_ticks P [] Q led = (let same : Q.at.time ≡ P.at.time = ap (λ (x : Position). x.at.time) (sym led) in omega (arith, same))
  led_ticks P (x ∷ xs) Q (R, flies, led) =
      (let one = one_tick P R flies.event flies.recorded x flies.step flies.tells in let rest = led_ticks R xs Q led in
      omega (arith, rest, one, sum_by-cons ticks_in x xs))

  pub flown_ticks : (xs : List Logged) (Q : Position) → FlownSoFar p jitter f xs Q → sum_by ticks_in xs ≡ Q.at.time
  flown_ticks xs Q (P, start, led) = omega (arith, led_ticks P xs Q led, start.opening.time)

-- what the last line spells
abbrev pub end_of : Tables → List Logged → Spelled
end_of p entries = EndLine (sum_by ticks_in entries) (length entries) (sum_by (refused_in p) entries)

-- the last line at the end passes each test
module _ (b : Standing) (is : IsStanding b) (ended : IsEnd b.accepted.program b.plan b.position) where
  none_due : NoInputDue b.position
  none_due i x at = absurd (none-some x (subst (λ l. At l i x) ended.inputs at))

  pub end_passes : (kind : LineKind) → Fails kind b.accepted.program b.accepted.cert.jitter b.plan b.entries b.position (end_of b.accepted.program b.entries)
      (last_line b.accepted.program b.entries) → ⊥
  end_passes NotALine failed = failed
  end_passes WrongTime failed = failed (flown_ticks b.accepted.program b.accepted.cert.jitter b.plan b.entries b.position is.flown)
  end_passes NotDue failed = failed
  end_passes AlreadyFired failed = failed
  end_passes NodesLeft failed = failed ended.nothing
  end_passes OutsideType failed = failed
  end_passes InputsLeft failed = failed none_due
  end_passes TooFar failed = (let time = ended.time in omega (arith, time, failed))
  end_passes Differs failed = failed refl
  end_passes Ended failed = failed
  end_passes Missing failed = failed
