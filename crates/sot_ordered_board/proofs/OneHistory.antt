-- What is flown in order is flown, and without guests in one way.
use Rattle.std.proofs.Common.{◌≡◌, ◌<◌, ⊎_elim, ℕ, ℤ, Bool, true, List, [], ◌∷◌, ◌++◌, length, Option, None, refl, sym, ap, ap₂, ◌∙◌, subst, arith}
use Rattle.std.proofs.Math.Seq.{take-append_seam, drop-append_seam}
use Rattle.std.proofs.lemmas.List.{append-nil}
use Rattle.std.proofs.lemmas.Bool.{cases_order}
use Rattle.std.proofs.lemmas.Option.{slice_get_within}
use Rattle.sot_lists.specs.Places.{At}
use Rattle.sot_lists.proofs.Places.{at_same}
use Rattle.sot_lang.specs.declared.tables.NodeInfo.{NodeInfo}
use Rattle.sot_lang.specs.Tables.{Tables}
use Rattle.sot_code.specs.Recorded.{in_slots}
use Rattle.sot_world.specs.Configurations.{Configuration, is_left, is_left_dm}
use Rattle.sot_world.specs.Steps.{Event, Input, Code, Guest, Decide, Tick, Step, CodeFires, GuestFires}
use Rattle.sot_world.specs.Outcomes.{Recorded, NodeFired, ModuleDecided, Records}
use Rattle.sot_world.specs.HistoryEntry.{Logged, FireAt, DecideAt}
use Rattle.sot_world.specs.declared.mode.Mode.{Mode}
use Rattle.sot_world.proofs.Unique.{steps_are_unique}
use Rattle.sot_flight.specs.Plans.{StatedInput, Plan}
use Rattle.sot_flight.specs.Plans as plans
use Rattle.sot_flight.specs.Stated.{draft_of}
use Rattle.sot_flight.specs.Fits.{FitsFlight, FitsCrew}
use Rattle.sot_board.specs.Flown.{Position, NoInputDue, fired_of, IsStated, IsStatedDraft, Tells, Flies, Leads, IsEnd, FlownSoFar, FlownBy, inputs_after, fired_after}
use Rattle.sot_board.proofs.InputsDue.{same_first}
use Rattle.sot_board.proofs.Same.{from_front}
use Rattle.sot_ordered_board.specs.Crews.{HasNoGuests}
use Rattle.sot_ordered_board.specs.Order.{HaveDecided, HaveFired, HasTurn, IsNext, LeadsInOrder, FlownInOrder, FliesInOrder}
use Rattle.sot_ordered_board.specs.Laws.{OrderedAreFlown, OneHistoryInOrder}

leads : (p : Tables) (j : ℕ) (f : Plan) (P : Position) (es : List Logged) (Q : Position) → LeadsInOrder p j f P es Q → Leads p j f P es Q
leads p j f P [] Q led = led
leads p j f P (e ∷ es) Q (next, (R, flies, led)) = (R, flies, leads p j f R es Q led)

pub flown_so_far : (p : Tables) (j : ℕ) (f : Plan) (history : List Logged) (Q : Position) → FlownInOrder p j f history Q → FlownSoFar p j f history Q
flown_so_far p j f history Q (P, start, led) = (P, start, leads p j f P history Q led)

pub ordered_are_flown : OrderedAreFlown
ordered_are_flown p j f history (Q, order, end) = (Q, flown_so_far p j f history Q order, end)

-- a whole history in order so far is one in order to the end
pub whole_in_order : (p : Tables) (j : ℕ) (f : Plan) (history : List Logged) (P : Position) → FlownInOrder p j f history P → FlownBy p j f history
    → FliesInOrder p j f history
whole_in_order p j f history P order (Q, flown, end) =
    let here = flown_so_far p j f history P order in
    let front = subst (λ es. FlownSoFar p j f es P) (sym (take-append_seam history [])) here in
    let all = subst (λ es. FlownSoFar p j f es Q) (sym (append-nil history)) flown in
    let led = from_front p j f (length history) (history ++ []) P Q front all in
    let same : P ≡ Q = subst (λ es. Leads p j f P es Q) (drop-append_seam history []) led in
    (P, order, subst (IsEnd p f) (sym same) end)

-- the flight is at its end, and no event comes
ended : (p : Tables) (j : ℕ) (f : Plan) (P : Position) (e : Event) (D : Configuration) → IsEnd p f P → IsStated p f P e → Step p j P.at e D → ⊥
ended p j f P (Input topic value) D end stated step = (let e = sym end.inputs ∙ stated.1 in cc)
ended p j f P (Code n) D end stated step = (let e = sym (end.nothing.nodes n step.node step.is) ∙ step.fires.was_left in cc)
ended p j f P (Guest n draft) D end stated step = (let e = sym (end.nothing.nodes n step.node step.is) ∙ step.fires.was_left in cc)
ended p j f P (Decide m) D end stated step = (let e = sym (end.nothing.modules m step.module_info step.is) ∙ step.was_left in cc)
ended p j f P (Tick noise) D end stated step = (let below = stated.0 in omega (arith, below, end.time))

-- an entry tells of one event with its record in one way
fired_same : (draft other : List (Option ℤ)) (on off : Bool) (r : Recorded) → r ≡ NodeFired draft on → r ≡ NodeFired other off
    → (draft ≡ other) × (on ≡ off)
fired_same draft other on off r a b = (let e = sym a ∙ b in (cc, cc))

mode_same : (mode other : Mode) (r : Recorded) → r ≡ ModuleDecided mode → r ≡ ModuleDecided other → mode ≡ other
mode_same mode other r a b = (let e = sym a ∙ b in cc)

told_same : (C : Configuration) (e : Event) (r : Recorded) (D : Configuration) (x y : Logged) → Tells C e r D x → Tells C e r D y → x ≡ y
told_same C (Input topic value) r D x y a b = a ∙ sym b
told_same C (Code n) r D x y (draft, on, is, a) (other, off, was, b) =
    let same = fired_same draft other on off r is was in
    a ∙ ap₂ (λ d o. FireAt C.time n (in_slots d) o) same.0 same.1 ∙ sym b
told_same C (Guest n given) r D x y (draft, on, is, a) (other, off, was, b) =
    let same = fired_same draft other on off r is was in
    a ∙ ap₂ (λ d o. FireAt C.time n (in_slots d) o) same.0 same.1 ∙ sym b
told_same C (Decide m) r D x y (mode, is, a) (other, was, b) = a ∙ ap (DecideAt C.time m) (mode_same mode other r is was) ∙ sym b
told_same C (Tick noise) r D x y a b = a ∙ sym b

module _ (p : Tables) (f : Plan) (P : Position) where
  -- when an event may come
  abbrev Comes : Event → Type 0
  Comes (Input topic value) = Unit {0}
  Comes (Code n) = HasTurn p f P n
  Comes (Guest n draft) = HasTurn p f P n
  Comes (Decide m) = NoInputDue P × HaveDecided P m
  Comes (Tick noise) = HasTurn p f P (length p.nodes)

  comes : HasNoGuests f → (e : Event) (r : Recorded) (D : Configuration) (entry : Logged) → Tells P.at e r D entry → IsNext p f P entry → Comes e
  comes none (Input topic value) r D entry told next = tt
  comes none (Code n) r D entry (draft, on, is, told) next = subst (IsNext p f P) told next (none n)
  comes none (Guest n given) r D entry (draft, on, is, told) next = subst (IsNext p f P) told next (none n)
  comes none (Decide m) r D entry (mode, is, told) next = subst (IsNext p f P) told next
  comes none (Tick noise) r D entry told next = subst (IsNext p f P) told next

  -- an input is due, and none is
  input_waits : (topic : ℕ) (value : List ℤ) → IsStated p f P (Input topic value) → NoInputDue P → ⊥
  input_waits topic value (rest, is) none = none 0 _ (subst (λ l. At l 0 (record { at = P.at.time; topic = topic; value = value })) (sym is) refl) refl

  -- a module is left, and none below that place is
  module_waits : (m count : ℕ) → is_left_dm P.at m ≡ true → m < count → HaveDecided P count → ⊥
  module_waits m count left below have = (let e = sym left ∙ have m below in cc)

  node_waits : HasNoGuests f → (n count : ℕ) → is_left P.at n ≡ true → n < count → HaveFired f P count → ⊥
  node_waits none n count left below have = (let e = sym left ∙ have n below (none n) in cc)

  -- two nodes that are left, of which each has its turn, are one
  turn_of_one : HasNoGuests f → (m n : ℕ) → is_left P.at m ≡ true → is_left P.at n ≡ true → HasTurn p f P m → HasTurn p f P n → m ≡ n
  turn_of_one none m n a b one two =
      ⊎_elim (λ e. e)
      (λ other. ⊎_elim (λ lt. absurd (node_waits none m n a lt two.fired)) (λ gt. absurd (node_waits none n m b gt one.fired)) other)
      (cases_order m n)

  decides_one : (m n : ℕ) → is_left_dm P.at m ≡ true → is_left_dm P.at n ≡ true → HaveDecided P m → HaveDecided P n → m ≡ n
  decides_one m n a b one two =
      ⊎_elim (λ e. e)
      (λ other. ⊎_elim (λ lt. absurd (module_waits m n a lt two)) (λ gt. absurd (module_waits n m b gt one)) other)
      (cases_order m n)

  -- the stated draft of an external node that no guest flies is one
  draft_same : (node : NodeInfo) (crew : plans.Crew) (k : ℕ) (draft other : List (Option ℤ)) → node.body ≡ None → FitsCrew node crew
      → ((i : ℕ) → crew ≡ plans.Guest i → ⊥) → IsStatedDraft (draft_of p node crew k) draft → IsStatedDraft (draft_of p node crew k) other → draft ≡ other
  draft_same node plans.Coded k draft other none fits not a b = absurd (let e = sym none ∙ fits.1.1 in cc)
  draft_same node (plans.Script drafts) k draft other none fits not a b = a ∙ sym b
  draft_same node (plans.Wild spread seed stream) k draft other none fits not a b = a ∙ sym b
  draft_same node (plans.Guest i) k draft other none fits not a b = absurd (not i refl)

  guest_same : (j guests : ℕ) → FitsFlight p guests f → HasNoGuests f → (n : ℕ) (draft other : List (Option ℤ)) (D : Configuration)
      → GuestFires p n draft P.at D → IsStated p f P (Guest n draft) → IsStated p f P (Guest n other) → draft ≡ other
  guest_same j guests fits none n draft other D step (node, crew, at, flown, one) (node', crew', at', flown', two) =
      let same = at_same p.nodes n node' node at' at in
      let same_crew = at_same f.crews n crew' crew flown' flown in
      let external = ap (λ (x : NodeInfo). x.body) (at_same p.nodes n node step.node at step.is) ∙ step.external in
      draft_same node crew (fired_of P n) draft other external (fits.crewed n node crew at flown)
      (λ i is. none n i (subst (At f.crews n) is flown)) one
      (subst (λ x. IsStatedDraft (draft_of p node x (fired_of P n)) other) same_crew
      (subst (λ x. IsStatedDraft (draft_of p x crew' (fired_of P n)) other) same two))

  not_both : (n : ℕ) (draft : List (Option ℤ)) (D E : Configuration) → CodeFires p n P.at D → GuestFires p n draft P.at E → ⊥
  not_both n draft D E s t =
      let both = sym s.coded.1 ∙ ap (λ (x : NodeInfo). x.body) (at_same p.nodes n s.node t.node s.is t.is) ∙ t.external in
      cc

-- the event that comes is one
one_event :
    (p : Tables) (j guests : ℕ) (f : Plan) (P : Position) → FitsFlight p guests f → HasNoGuests f → (e e' : Event) (D D' : Configuration) → Comes p f P e
    → IsStated p f P e → Step p j P.at e D → Comes p f P e' → IsStated p f P e' → Step p j P.at e' D' → e ≡ e'
one_event p j guests f P fits none (Input k v) (Input k' v') D D' c s t c' s' t' =
    let same = same_first _ _ _ _ (sym s.1 ∙ s'.1) in
    ap₂ Input (ap (λ (x : StatedInput). x.topic) same) (ap (λ (x : StatedInput). x.value) same)
one_event p j guests f P fits none (Input k v) (Code n) D D' c s t c' s' t' = absurd (input_waits p f P k v s c'.inputs)
one_event p j guests f P fits none (Input k v) (Guest n d) D D' c s t c' s' t' = absurd (input_waits p f P k v s c'.inputs)
one_event p j guests f P fits none (Input k v) (Decide m) D D' c s t c' s' t' = absurd (input_waits p f P k v s c'.0)
one_event p j guests f P fits none (Input k v) (Tick noise) D D' c s t c' s' t' = absurd (input_waits p f P k v s c'.inputs)
one_event p j guests f P fits none (Code n) (Input k v) D D' c s t c' s' t' = absurd (input_waits p f P k v s' c.inputs)
one_event p j guests f P fits none (Code n) (Code m) D D' c s t c' s' t' =
    ap Code (turn_of_one p f P none n m t.fires.was_left t'.fires.was_left c c')
one_event p j guests f P fits none (Code n) (Guest m d) D D' c s t c' s' t' =
    let same = turn_of_one p f P none n m t.fires.was_left t'.fires.was_left c c' in
    absurd (not_both p f P m d D D' (subst (λ x. CodeFires p x P.at D) same t) t')
one_event p j guests f P fits none (Code n) (Decide m) D D' c s t c' s' t' =
    absurd (module_waits p f P m (length p.modules) t'.was_left (slice_get_within p.modules m t'.module_info t'.is) c.decided)
one_event p j guests f P fits none (Code n) (Tick noise) D D' c s t c' s' t' =
    absurd (node_waits p f P none n (length p.nodes) t.fires.was_left (slice_get_within p.nodes n t.node t.is) c'.fired)
one_event p j guests f P fits none (Guest n d) (Input k v) D D' c s t c' s' t' = absurd (input_waits p f P k v s' c.inputs)
one_event p j guests f P fits none (Guest n d) (Code m) D D' c s t c' s' t' =
    let same = turn_of_one p f P none m n t'.fires.was_left t.fires.was_left c' c in
    absurd (not_both p f P n d D' D (subst (λ x. CodeFires p x P.at D') same t') t)
one_event p j guests f P fits none (Guest n d) (Guest m d') D D' c s t c' s' t' =
    let same = turn_of_one p f P none n m t.fires.was_left t'.fires.was_left c c' in
    ap₂ Guest same (guest_same p f P j guests fits none n d d' D t s (subst (λ x. IsStated p f P (Guest x d')) (sym same) s'))
one_event p j guests f P fits none (Guest n d) (Decide m) D D' c s t c' s' t' =
    absurd (module_waits p f P m (length p.modules) t'.was_left (slice_get_within p.modules m t'.module_info t'.is) c.decided)
one_event p j guests f P fits none (Guest n d) (Tick noise) D D' c s t c' s' t' =
    absurd (node_waits p f P none n (length p.nodes) t.fires.was_left (slice_get_within p.nodes n t.node t.is) c'.fired)
one_event p j guests f P fits none (Decide m) (Input k v) D D' c s t c' s' t' = absurd (input_waits p f P k v s' c.0)
one_event p j guests f P fits none (Decide m) (Code n) D D' c s t c' s' t' =
    absurd (module_waits p f P m (length p.modules) t.was_left (slice_get_within p.modules m t.module_info t.is) c'.decided)
one_event p j guests f P fits none (Decide m) (Guest n d) D D' c s t c' s' t' =
    absurd (module_waits p f P m (length p.modules) t.was_left (slice_get_within p.modules m t.module_info t.is) c'.decided)
one_event p j guests f P fits none (Decide m) (Decide n) D D' c s t c' s' t' =
    ap Decide (decides_one p f P m n t.was_left t'.was_left c.1 c'.1)
one_event p j guests f P fits none (Decide m) (Tick noise) D D' c s t c' s' t' =
    absurd (module_waits p f P m (length p.modules) t.was_left (slice_get_within p.modules m t.module_info t.is) c'.decided)
one_event p j guests f P fits none (Tick noise) (Input k v) D D' c s t c' s' t' = absurd (input_waits p f P k v s' c.inputs)
one_event p j guests f P fits none (Tick noise) (Code n) D D' c s t c' s' t' =
    absurd (node_waits p f P none n (length p.nodes) t'.fires.was_left (slice_get_within p.nodes n t'.node t'.is) c.fired)
one_event p j guests f P fits none (Tick noise) (Guest n d) D D' c s t c' s' t' =
    absurd (node_waits p f P none n (length p.nodes) t'.fires.was_left (slice_get_within p.nodes n t'.node t'.is) c.fired)
one_event p j guests f P fits none (Tick noise) (Decide m) D D' c s t c' s' t' =
    absurd (module_waits p f P m (length p.modules) t'.was_left (slice_get_within p.modules m t'.module_info t'.is) c.decided)
one_event p j guests f P fits none (Tick noise) (Tick other) D D' c s t c' s' t' = ap Tick (s.2 ∙ sym s'.2)

-- so is what is told of it, and where it leads
one_step :
    (p : Tables) (j guests : ℕ) (f : Plan) (P : Position) → FitsFlight p guests f → HasNoGuests f → (x y : Logged) (Q R : Position) → IsNext p f P x
    → Flies p j f P x Q → IsNext p f P y → Flies p j f P y R → (x ≡ y) × (Q ≡ R)
one_step p j guests f P fits none x y Q R next a next' b =
    let e = one_event p j guests f P fits none b.event a.event R.at Q.at (comes p f P none b.event b.recorded R.at y b.tells next') b.stated b.step
    (comes p f P none a.event a.recorded Q.at x a.tells next) a.stated a.step in
    let step = subst (λ v. Step p j P.at v R.at) e b.step in
    let records = subst (λ v. Records p P.at v R.at b.recorded) e b.records in
    let told = subst (λ v. Tells P.at v b.recorded R.at y) e b.tells in
    let same = steps_are_unique p j P.at a.event Q.at R.at a.recorded b.recorded a.step a.records step records in
    let there : Q ≡ R = λ i. record {
      at = same.0 i;
      inputs = (a.inputs ∙ ap (λ v. inputs_after v P.inputs) (sym e) ∙ sym b.inputs) i;
      fired = (a.fired ∙ ap (λ v. fired_after v P.fired) (sym e) ∙ sym b.fired) i;
    } in
    let told_there = subst (λ v. Tells P.at a.event v R.at y) (sym same.1) told in
    (told_same P.at a.event a.recorded Q.at x y a.tells (subst (λ v. Tells P.at a.event a.recorded v y) (sym same.0) told_there), there)

one_way :
    (p : Tables) (j guests : ℕ) (f : Plan) → FitsFlight p guests f → HasNoGuests f → (P P' : Position) → P ≡ P' → (xs ys : List Logged) (Q R : Position)
    → LeadsInOrder p j f P xs Q → IsEnd p f Q → LeadsInOrder p j f P' ys R → IsEnd p f R → xs ≡ ys
one_way p j guests f fits none P P' same [] [] Q R a end b end' = refl
one_way p j guests f fits none P P' same [] (y ∷ ys) Q R a end (next, (S, flies, b)) end' =
    absurd (ended p j f P' flies.event S.at (subst (IsEnd p f) (sym a ∙ same) end) flies.stated flies.step)
one_way p j guests f fits none P P' same (x ∷ xs) [] Q R (next, (S, flies, a)) end b end' =
    absurd (ended p j f P flies.event S.at (subst (IsEnd p f) (sym b ∙ sym same) end') flies.stated flies.step)
one_way p j guests f fits none P P' same (x ∷ xs) (y ∷ ys) Q R (next, (S, flies, a)) end (next', (T, flies', b)) end' =
    let one = one_step p j guests f P fits none x y S T next flies (subst (λ v. IsNext p f v y) (sym same) next')
    (subst (λ v. Flies p j f v y T) (sym same) flies') in
    ap₂ (λ u us. u ∷ us) one.0 (one_way p j guests f fits none S T one.1 xs ys Q R a end b end')

pub one_history_in_order : OneHistoryInOrder
one_history_in_order p j guests f history other fits none (Q, (P, start, led), end) (R, (P', start', led'), end') =
    let same : P ≡ P' = from_front p j f 0 [] P P' (P, start, refl) (P', start', refl) in
    one_way p j guests f fits none P P' same history other Q R led end led' end'
