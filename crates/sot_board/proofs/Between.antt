-- What stays between two moments of one instant.
use Rattle.std.proofs.Common.{◌≡◌, ◌≢◌, ⊎_elim, ℕ, suc, ◌+◌, ◌≤◌, ℤ, pos, Bool, true, false, List, [], ◌∷◌, ◌++◌, Option, Some, None, map, take, drop, refl}
use Rattle.std.proofs.Common.{sym, ap, ap₂, ◌∙◌, arith}
use Rattle.std.specs.Prelude.{slice_index_or, slice_set, int_le, ◌==◌, ◌&&◌, not, if◌then◌else◌}
use Rattle.std.proofs.lemmas.Bool.{cases_eq, eqb-false, both_ways, or_parts}
use Rattle.std.proofs.lemmas.List.{get_or-set_other, take-append-drop}
use Rattle.std.proofs.lemmas.Option.{get_or_from_slice_get}
use Rattle.sot_lists.specs.Places.{At}
use Rattle.sot_lists.proofs.Places.{at_map}
use Rattle.sot_box.specs.Sides.{Side}
use Rattle.sot_lang.specs.declared.tables.Slot.{Slot}
use Rattle.sot_lang.specs.declared.tables.Slot.TheVariants.{Scalar, State}
use Rattle.sot_lang.specs.declared.tables.NodeInfo.{NodeInfo}
use Rattle.sot_lang.specs.Tables.{Tables}
use Rattle.sot_lang.specs.TableRules.{IsTyped}
use Rattle.sot_lang.specs.Ranges.{range_of}
use Rattle.sot_lang.specs.Readings.{number_at, reading}
use Rattle.sot_code.specs.Recorded.{in_slots}
use Rattle.sot_world.specs.Configurations.{Configuration, is_left, number_of, locals_of}
use Rattle.sot_world.specs.Steps.{Event, Input, Code, Guest, Decide, Tick, Step, Fires, put, publish, published, is_enabled}
use Rattle.sot_world.specs.Outcomes.{Recorded, NodeFired, Records}
use Rattle.sot_world.specs.HistoryEntry.{Logged, FireAt}
use Rattle.sot_world.proofs.Modes.{left_none}
use Rattle.sot_world.proofs.Writes.{write_other}
use Rattle.sot_world.proofs.Parts.{published_padded}
use Rattle.sot_world.proofs.Unique.{steps_are_unique}
use Rattle.sot_flight.specs.Plans.{Plan}
use Rattle.sot_board.specs.Flown.{Position, Tells, Flies, Leads, FlownSoFar}
use Rattle.sot_board.specs.Versions.{topic_of, publishes_on, writes_topic, version}
use Rattle.sot_board.specs.Views.{slot_version}
use Rattle.sot_board.proofs.Going.{time_goes}
use Rattle.sot_board.proofs.Same.{from_front}

-- what is not published on a scalar's topic leaves the scalar
put_stays : (r : Side) (k s : ℕ) (z : ℤ) (same : Bool) (xs : List ℤ) → (same && not (not (int_le r.lo z && int_le z r.hi))) ≡ false → (same ≡ false → s ≢ k)
    → slice_index_or (put r k z xs) s (pos 0) ≡ slice_index_or xs s (pos 0)
put_stays r k s z same xs e apart = by_case (int_le r.lo z && int_le z r.hi) e
  where
    by_case : (b : Bool) → (same && not (not b)) ≡ false → slice_index_or (if b then slice_set xs k z else xs) s (pos 0) ≡ slice_index_or xs s (pos 0)
    by_case false e = refl
    by_case true e = get_or-set_other xs k s z (pos 0) (apart (on same e))
      where
        on : (x : Bool) → (x && true) ≡ false → x ≡ false
        on true f = cc
        on false f = refl

pub publish_stays : (p : Tables) (t s : ℕ) (ws : List ℕ) (ds : List (Option ℤ)) (xs : List ℤ) → topic_of p s ≡ t → publishes_on p t ws ds ≡ false
    → slice_index_or (publish p ws ds xs) s (pos 0) ≡ slice_index_or xs s (pos 0)
publish_stays p t s [] ds xs is e = refl
publish_stays p t s (k ∷ ks) [] xs is e = refl
publish_stays p t s (k ∷ ks) (None ∷ ds) xs is e = publish_stays p t s ks ds xs is (or_parts _ _ e).1
publish_stays p t s (k ∷ ks) (Some z ∷ ds) xs is e =
    let parts = or_parts _ _ e in
    publish_stays p t s ks ds (put (range_of p.scalars k) k z xs) is parts.1
    ∙ put_stays (range_of p.scalars k) k s z (topic_of p k == t) xs parts.0 (λ other same. eqb-false (topic_of p k) t other (ap (topic_of p) (sym same) ∙ is))

published_stays : (p : Tables) (t s : ℕ) (on : Bool) (ws : List ℕ) (ds : List (Option ℤ)) (xs : List ℤ) → topic_of p s ≡ t
    → (on && publishes_on p t ws ds) ≡ false → slice_index_or (published on p ws ds xs) s (pos 0) ≡ slice_index_or xs s (pos 0)
published_stays p t s true ws ds xs is e = publish_stays p t s ws ds xs is e
published_stays p t s false ws ds xs is e = refl

writes_at : (p : Tables) (n : ℕ) (node : NodeInfo) → At p.nodes n node → slice_index_or (map (λ x. x.writes.items) p.nodes) n [] ≡ node.writes.items
writes_at p n node at = get_or_from_slice_get (map (λ x. x.writes.items) p.nodes) n node.writes.items [] (at_map (λ x. x.writes.items) p.nodes n node at)

-- a firing that is told by an entry that does not write a scalar's topic
fires_stays :
    (p : Tables) (n s time : ℕ) (node : NodeInfo) (locals : List ℤ) (draft : List (Option ℤ)) (C D : Configuration) (entry : Logged) → At p.nodes n node
    → Fires p n node locals draft C D
    → entry ≡ FireAt time n (in_slots draft) (is_enabled p C n) → writes_topic p (topic_of p s) entry ≡ false → number_of D s ≡ number_of C s
fires_stays p n s time node locals draft C D entry at fires told not_ =
    let on = is_enabled p C n in
    let quiet = ap (λ ws. on && publishes_on p (topic_of p s) ws (in_slots draft)) (sym (writes_at p n node at)) ∙ ap (writes_topic p (topic_of p s)) (sym told)
    ∙ not_ in
    ap (λ xs. slice_index_or xs s (pos 0)) (fires.scalars ∙ sym (published_padded on p node.writes.items draft _ C.scalars))
    ∙ published_stays p (topic_of p s) s on node.writes.items (in_slots draft) C.scalars refl quiet

told_parts : (draft d : List (Option ℤ)) (on enabled : Bool) (r : Recorded) → r ≡ NodeFired draft on → r ≡ NodeFired d enabled → (draft ≡ d) × (on ≡ enabled)
told_parts draft d on enabled r a b = (let e = sym a ∙ b in (cc, cc))

-- an entry that does not write a scalar's topic leaves the scalar
pub scalar_stays : (p : Tables) (j : ℕ) (f : Plan) (s : ℕ) (P : Position) (entry : Logged) (Q : Position) → IsTyped p → Flies p j f P entry Q
    → writes_topic p (topic_of p s) entry ≡ false → number_of Q.at s ≡ number_of P.at s
scalar_stays p j f s P entry Q typed flies not_ = go flies.event flies.step flies.recorded flies.records flies.tells
  where
    go : (e : Event) → Step p j P.at e Q.at → (r : Recorded) → Records p P.at e Q.at r → Tells P.at e r Q.at entry → number_of Q.at s ≡ number_of P.at s
    go (Input topic value) step r records told =
        ap (λ xs. slice_index_or xs s (pos 0)) step.scalars
        ∙ write_other step.info.first value P.at.scalars s (λ i lt is.
        let scalar = typed.topic_scalar topic s step.info step.is (omega (arith, is)) (omega (arith, is, lt, step.size)) in
        let topic_is : topic_of p s ≡ topic = get_or_from_slice_get (map (λ x. x.topic) p.scalars) s scalar.0.topic 0
        (at_map (λ x. x.topic) p.scalars s scalar.0 scalar.1) ∙ scalar.2 in
        eqb-false (topic_of p s) topic (ap (writes_topic p (topic_of p s)) (sym told) ∙ not_) topic_is)
    go (Code n) step r records told =
        let own = steps_are_unique p j P.at (Code n) Q.at Q.at r (NodeFired step.fired.draft (is_enabled p P.at n)) step records step
        (record { node = step.node; is = step.is; acts = step.acts; coded = step.coded; fired = step.fired; runs = step.runs; recorded = refl }) in
        let parts = told_parts told.0 step.fired.draft told.1 (is_enabled p P.at n) r told.2 own.1 in
        fires_stays p n s P.at.time step.node step.fired.locals step.fired.draft P.at Q.at entry step.is step.fires
        (told.3 ∙ ap₂ (λ d o. FireAt P.at.time n (in_slots d) o) parts.0 parts.1) not_
    go (Guest n draft) step r records told =
        let parts = told_parts told.0 draft told.1 (is_enabled p P.at n) r told.2 records in
        fires_stays p n s P.at.time step.node (locals_of P.at n) draft P.at Q.at entry step.is step.fires
        (told.3 ∙ ap₂ (λ d o. FireAt P.at.time n (in_slots d) o) parts.0 parts.1) not_
    go (Decide m) step r records told = ap (λ C. number_of C s) step.rest
    go (Tick noise) step r records told = ap (λ C. number_of C s) step.rest

-- a firing keeps the points, and what is left after it was left before, with its locals
fires_keeps :
    (p : Tables) (m n : ℕ) (node : NodeInfo) (locals : List ℤ) (draft : List (Option ℤ)) (C D : Configuration) → Fires p m node locals draft C D
    → is_left D n ≡ true → (is_left C n ≡ true) × (locals_of D n ≡ locals_of C n)
fires_keeps p m n node locals draft C D fires left = ⊎_elim
    (λ same. absurd (both_ways (is_left D n) (ap (λ l. slice_index_or l n false) fires.left
    ∙ ap (λ k. slice_index_or (slice_set C.left k false) n false) (sym same) ∙ left_none C.left n) left))
    (λ other. (
      sym (ap (λ l. slice_index_or l n false) fires.left ∙ get_or-set_other C.left m n false false other)
          ∙ left,
      ap (λ l. slice_index_or l n []) fires.locals_set ∙ get_or-set_other C.locals m n locals [] other,
    ))
    (cases_eq n m)

-- what an event within an instant keeps
abbrev pub Keeps : Configuration → Configuration → Type 0
Keeps C D = (D.points ≡ C.points) × ((n : ℕ) → is_left D n ≡ true → (is_left C n ≡ true) × (locals_of D n ≡ locals_of C n))

event_keeps : (p : Tables) (j : ℕ) (C D : Configuration) (e : Event) → Step p j C e D → D.time ≡ C.time → Keeps C D
event_keeps p j C D (Input topic value) s now =
    (ap (λ x. x.points) s.rest, (λ n left. (sym (ap (λ x. is_left x n) s.rest) ∙ left, ap (λ x. locals_of x n) s.rest)))
event_keeps p j C D (Code m) s now = (s.fires.points, (λ n left. fires_keeps p m n s.node _ _ C D s.fires left))
event_keeps p j C D (Guest m draft) s now = (s.fires.points, (λ n left. fires_keeps p m n s.node _ _ C D s.fires left))
event_keeps p j C D (Decide m) s now = (ap (λ x. x.points) s.rest, (λ n left. (sym (ap (λ x. is_left x n) s.rest) ∙ left, ap (λ x. locals_of x n) s.rest)))
event_keeps p j C D (Tick noise) s now = absurd (omega (arith, s.time, now))

time_up : (p : Tables) (j : ℕ) (f : Plan) (es : List Logged) (P Q : Position) → Leads p j f P es Q → P.at.time ≤ Q.at.time
time_up p j f [] P Q led = (let e = ap (λ x. x.at.time) led in omega (arith, e))
time_up p j f (e ∷ es) P Q led =
    let rest = time_up p j f es led.0 Q led.2 in
    ⊎_elim (λ same. omega (arith, same, rest)) (λ (noise, is, later). omega (arith, later, rest)) (time_goes p j P.at led.0.at led.1.event led.1.step)

first_stays : (p : Tables) (j : ℕ) (f : Plan) (e : Logged) (es : List Logged) (P Q : Position) → (led : Leads p j f P (e ∷ es) Q) → P.at.time ≡ Q.at.time
    → led.0.at.time ≡ P.at.time
first_stays p j f e es P Q led now =
    let rest = time_up p j f es led.0 Q led.2 in
    ⊎_elim (λ same. same) (λ (noise, is, later). absurd (omega (arith, later, rest, now))) (time_goes p j P.at led.0.at led.1.event led.1.step)

pub instant_keeps : (p : Tables) (j : ℕ) (f : Plan) (es : List Logged) (P Q : Position) → Leads p j f P es Q → P.at.time ≡ Q.at.time → Keeps P.at Q.at
instant_keeps p j f [] P Q led now = (ap (λ x. x.at.points) (sym led), (λ n left. (ap (λ x. is_left x.at n) led ∙ left, ap (λ x. locals_of x.at n) (sym led))))
instant_keeps p j f (e ∷ es) P Q led now =
    let first = first_stays p j f e es P Q led now in
    let one = event_keeps p j P.at led.0.at led.1.event led.1.step first in
    let rest = instant_keeps p j f es led.0 Q led.2 (first ∙ now) in
    (rest.0 ∙ one.0, (λ n left. let r = rest.1 n left in let o = one.1 n r.0 in (o.0, r.1 ∙ o.1)))

quiet_parts : (w : Bool) (v : ℕ) → (if w then suc v else v) ≡ 0 → (w ≡ false) × (v ≡ 0)
quiet_parts true v e = absurd (omega (arith, e))
quiet_parts false v e = (refl, e)

-- a scalar stays where no entry writes its topic
pub quiet_stays : (p : Tables) (j : ℕ) (f : Plan) (s : ℕ) (es : List Logged) (P Q : Position) → IsTyped p → Leads p j f P es Q → version p (topic_of p s) es ≡ 0
    → number_of Q.at s ≡ number_of P.at s
quiet_stays p j f s [] P Q typed led none = ap (λ x. number_of x.at s) (sym led)
quiet_stays p j f s (e ∷ es) P Q typed led none =
    let parts = quiet_parts (writes_topic p (topic_of p s) e) (version p (topic_of p s) es) none in
    quiet_stays p j f s es led.0 Q typed led.2 parts.1 ∙ scalar_stays p j f s P e led.0 typed led.1 parts.0

version_append : (p : Tables) (t : ℕ) (es fs : List Logged) → version p t (es ++ fs) ≡ version p t es + version p t fs
version_append p t [] fs = omega arith
version_append p t (e ∷ es) fs =
    ap (λ v. if writes_topic p t e then suc v else v) (version_append p t es fs) ∙ out (writes_topic p t e) (version p t es) (version p t fs)
  where
    out : (b : Bool) (x y : ℕ) → (if b then suc (x + y) else (x + y)) ≡ (if b then suc x else x) + y
    out true x y = omega arith
    out false x y = refl

-- the numbers of slots are the same where the points are, and each scalar whose topic has the same version
slots_stay :
    (f g : Slot → ℕ) (xs ys : List ℤ) (ps qs : List (List ℤ)) (slots : List Slot) → ps ≡ qs
    → ((k : ℕ) → f (Scalar k) ≡ g (Scalar k) → slice_index_or xs k (pos 0) ≡ slice_index_or ys k (pos 0))
    → map f slots ≡ map g slots → map (number_at xs ps) slots ≡ map (number_at ys qs) slots
slots_stay f g xs ys ps qs [] points each e = refl
slots_stay f g xs ys ps qs (slot ∷ slots) points each e =
    let parts = heads (f slot) (g slot) (map f slots) (map g slots) e in
    ap₂ (λ z zs. z ∷ zs) (one slot parts.0) (slots_stay f g xs ys ps qs slots points each parts.1)
  where
    heads : (a b : ℕ) (us vs : List ℕ) → a ∷ us ≡ b ∷ vs → (a ≡ b) × (us ≡ vs)
    heads a b us vs e = (cc, cc)

    one : (s : Slot) → f s ≡ g s → number_at xs ps s ≡ number_at ys qs s
    one (Scalar k) same = each k same
    one (State k v) same = ap (λ l. slice_index_or (slice_index_or l k []) v (pos 0)) points

-- between a front of the history and now, at one time and with the same versions of what a node reads, which is left: its numbers and locals are the same
pub same_reading :
    (p : Tables) (j : ℕ) (f : Plan) (k : ℕ) (es : List Logged) (P Q : Position) (n : ℕ) (node : NodeInfo) → IsTyped p → FlownSoFar p j f (take k es) P
    → FlownSoFar p j f es Q → P.at.time ≡ Q.at.time
    → map (slot_version p (take k es)) node.reads.items ≡ map (slot_version p es) node.reads.items → is_left Q.at n ≡ true
    → (reading node P.at.scalars P.at.points ≡ reading node Q.at.scalars Q.at.points) × (locals_of P.at n ≡ locals_of Q.at n)
same_reading p j f k es P Q n node typed front all now versions left =
    let led = from_front p j f k es P Q front all in
    let keeps = instant_keeps p j f (drop k es) P Q led now in (
      slots_stay (slot_version p (take k es)) (slot_version p es) P.at.scalars Q.at.scalars P.at.points Q.at.points node.reads.items (sym keeps.0)
          (λ s same.
          let split = ap (version p (topic_of p s)) (take-append-drop k es) in
          let whole = version_append p (topic_of p s) (take k es) (drop k es) in
          sym (quiet_stays p j f s (drop k es) P Q typed led (omega (arith, same, split, whole))))
          versions,
      sym (keeps.1 n left).1,
    )
