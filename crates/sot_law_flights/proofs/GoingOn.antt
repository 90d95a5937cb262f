-- Wherever a flight stands it is at its end, or it goes on.
use Rattle.std.proofs.Common.{◌≡◌, ℕ, zero, suc, ◌+◌, ◌-◌, ◌≤◌, ◌<◌, ℤ, Bool, true, false, ◌⊎◌, ⊎_elim, inl, inr, List, [], ◌∷◌, ◌++◌, Option, Some, None}
use Rattle.std.proofs.Common.{length, replicate, refl, sym, ap, ◌∙◌, subst, arith}
use Rattle.std.specs.Prelude.{slice_index_or}
use Rattle.std.proofs.lemmas.Bool.{cases_eq, cases_lt, false≢true}
use Rattle.std.proofs.lemmas.List.{length-replicate, replicate-append-replicate}
use Rattle.std.proofs.lemmas.Option.{same_Some}
use Rattle.sot_lists.specs.Places.{At}
use Rattle.sot_lists.proofs.Places.{at_same, at_below}
use Rattle.sot_lang.specs.declared.tables.NodeInfo.{NodeInfo}
use Rattle.sot_lang.specs.Ticks.{joined}
use Rattle.sot_code.specs.Recorded.{in_slots}
use Rattle.sot_world.specs.Configurations.{is_left, is_left_dm, mode_of, point_of}
use Rattle.sot_world.specs.Steps.{Input, Code, Guest, Decide, Tick, MayTick, is_enabled}
use Rattle.sot_world.specs.HistoryEntry.{Logged, InputAt, FireAt, DecideAt, TickAt}
use Rattle.sot_world.specs.Progress.{CanGoOn}
use Rattle.sot_world.proofs.Stepping.{well_formed}
use Rattle.sot_world.proofs.Progress.{something_can_happen}
use Rattle.sot_flight.specs.Plans as plans
use Rattle.sot_flight.specs.Plans.{StatedInput, Plan}
use Rattle.sot_flight.specs.Stated.{stated_noise, draft_of}
use Rattle.sot_flight.specs.Fits.{FitsCrew}
use Rattle.sot_flight.proofs.Fitting.{crew_is, draft_size, stated_length, stated_within}
use Rattle.sot_board.specs.Flown.{Position, fired_of, NoInputDue, IsStatedDraft, Flies, inputs_after, fired_after, IsEnd}
use Rattle.sot_board.specs.Standing.{Standing, IsStanding}
use Rattle.sot_board.specs.Calls.{InputDue}
use Rattle.sot_board.proofs.InputsDue.{no_input_due, no_input_left}
use Rattle.sot_law_flights.specs.Completion.{GuestsDraftNothing}
use Rattle.sot_law_flights.proofs.Keeping.{keeps_settled}

-- the flight goes on by an entry with which no guest drafts anything
abbrev pub GoesOn : Standing → Type 0
GoesOn b =
    (entry : Logged) × (Q : Position) × Flies b.accepted.program b.accepted.cert.jitter b.plan b.position entry Q × GuestsDraftNothing b.plan (entry ∷ [])

-- an entry that is no firing has no draft
input_silent : (f : Plan) (t topic : ℕ) (value : List ℤ) → GuestsDraftNothing f (InputAt t topic value ∷ [])
input_silent f t topic value zero time n guest draft enabled at crew = absurd (let e = same_Some _ _ at in cc)
input_silent f t topic value (suc i) time n guest draft enabled at crew = cc

decision_silent : (f : Plan) (t m : ℕ) (mode : _) → GuestsDraftNothing f (DecideAt t m mode ∷ [])
decision_silent f t m mode zero time n guest draft enabled at crew = absurd (let e = same_Some _ _ at in cc)
decision_silent f t m mode (suc i) time n guest draft enabled at crew = cc

tick_silent : (f : Plan) (t : ℕ) (noise states : List ℤ) → GuestsDraftNothing f (TickAt t noise states ∷ [])
tick_silent f t noise states zero time n guest draft enabled at crew = absurd (let e = same_Some _ _ at in cc)
tick_silent f t noise states (suc i) time n guest draft enabled at crew = cc

-- a firing whose draft is none, if a guest flies the node
firing_silent : (f : Plan) (t k : ℕ) (slots : List (Option ℤ)) (on : Bool) → ((guest : ℕ) → At f.crews k (plans.Guest guest) → slots ≡ replicate 8 None)
    → GuestsDraftNothing f (FireAt t k slots on ∷ [])
firing_silent f t k slots on none zero time n guest draft enabled at crew =
    let e : FireAt t k slots on ≡ FireAt time n draft enabled = same_Some _ _ at in
    let node : n ≡ k = cc in
    let same : draft ≡ slots = cc in
    same ∙ none guest (subst (λ x. At f.crews x (plans.Guest guest)) node crew)
firing_silent f t k slots on none (suc i) time n guest draft enabled at crew = cc

-- nothing in any slot
nothing_in_slots : (n : ℕ) → n ≤ 8 → let none : List (Option ℤ) = replicate n None in in_slots none ≡ replicate 8 None
nothing_in_slots n few =
    let none : List (Option ℤ) = replicate n None in
    let size : length none ≡ n = length-replicate n None in
    let all : n + (8 - n) ≡ 8 = omega (arith, few) in
    ap (λ k. none ++ replicate (8 - k) None) size ∙ replicate-append-replicate n (8 - n) None ∙ ap (λ k. replicate k None) all

-- of some flags one is set, or none is
some_flag : (xs : List Bool) → ((n : ℕ) × (n < length xs) × (slice_index_or xs n false ≡ true)) ⊎ ((n : ℕ) → slice_index_or xs n false ≡ false)
some_flag [] = inr (λ n. refl)
some_flag (true ∷ xs) = inl (0, omega arith, refl)
some_flag (false ∷ xs) = ⊎_elim (λ here. inl (suc here.0, omega (arith, here.1), here.2)) (λ none. inr (later none)) (some_flag xs)
  where
    later : ((n : ℕ) → slice_index_or xs n false ≡ false) → (n : ℕ) → slice_index_or (false ∷ xs) n false ≡ false
    later none zero = refl
    later none (suc n) = none n

-- an input that is due now
at_its_time : (x : StatedInput) (t : ℕ) → x.at ≡ t → x ≡ record { at = t; topic = x.topic; value = x.value }
at_its_time x t now = ap (λ n. let y : StatedInput = record { at = n; topic = x.topic; value = x.value } in y) now

module _ (b : Standing) (is : IsStanding b) where
  can : CanGoOn b.accepted.program b.accepted.cert.jitter b.position.at
  can =
      something_can_happen b.accepted.program b.accepted.cert.jitter b.position.at is.kept.rules.typed (well_formed b.accepted b.position.at is.kept)
      is.kept.holds

  input_comes : InputDue b.position → GoesOn b
  input_comes (x, rest, first, now) =
      let P = b.position in
      let fits = is.inputs 0 x (subst (λ l. At l 0 x) (sym first) refl) in
      let happens = can.input x.topic fits.topic x.value fits.is fits.outside fits.size fits.typed in (
        InputAt P.at.time x.topic x.value,
        record { at = happens.0; inputs = inputs_after (Input x.topic x.value) P.inputs; fired = P.fired },
        record {
          event = Input x.topic x.value;
          stated = (rest, first ∙ ap (λ y. y ∷ rest) (at_its_time x P.at.time now));
          step = happens.2;
          recorded = happens.1;
          records = happens.3;
          tells = refl;
          inputs = refl;
          fired = refl;
        },
        input_silent b.plan P.at.time x.topic x.value,
      )

  decision_is_made : (m : ℕ) → m < length b.accepted.program.modules → is_left_dm b.position.at m ≡ true → GoesOn b
  decision_is_made m there left =
      let P = b.position in
      let p = b.accepted.program in
      let a = at_below p.modules m there in
      let happens = can.decide m a.0 a.1 left (keeps_settled p b.accepted.cert.jitter b.accepted.cert is.kept.rules is.kept.certified m a.0 a.1
      (point_of P.at a.0.plant)) in (
        DecideAt P.at.time m (mode_of happens.0 m),
        record { at = happens.0; inputs = P.inputs; fired = P.fired },
        record {
          event = Decide m;
          stated = tt;
          step = happens.2;
          recorded = happens.1;
          records = happens.3;
          tells = (mode_of happens.0 m, happens.3, refl);
          inputs = refl;
          fired = refl;
        },
        decision_silent b.plan P.at.time m (mode_of happens.0 m),
      )

  coded_fires : (n : ℕ) (node : NodeInfo) (v : _) → At b.accepted.program.nodes n node → node.body ≡ Some v → is_left b.position.at n ≡ true → GoesOn b
  coded_fires n node v at body left =
      let P = b.position in
      let p = b.accepted.program in
      let happens = can.code n node v.items at (v, body, refl) left in
      let draft = happens.3.fired.draft in (
        FireAt P.at.time n (in_slots draft) (is_enabled p P.at n),
        record { at = happens.0; inputs = P.inputs; fired = fired_after (Code n) P.fired },
        record {
          event = Code n;
          stated = tt;
          step = happens.2;
          recorded = happens.1;
          records = happens.3;
          tells = (draft, is_enabled p P.at n, happens.3.recorded, refl);
          inputs = refl;
          fired = refl;
        },
        firing_silent b.plan P.at.time n (in_slots draft) (is_enabled p P.at n)
            (λ guest crew. absurd (let none = is.fits.crewed n node (plans.Guest guest) at crew in let e = sym body ∙ none in cc)),
      )

  -- with a draft as it is stated, which is none for a guest
  external_fires :
      (n : ℕ) (node : NodeInfo) (crew : plans.Crew) (draft : List (Option ℤ)) → At b.accepted.program.nodes n node → At b.plan.crews n crew → node.body ≡ None
      → length draft ≡ length node.writes.items
      → IsStatedDraft (draft_of b.accepted.program node crew (fired_of b.position n)) draft
      → ((guest : ℕ) → crew ≡ plans.Guest guest → in_slots draft ≡ replicate 8 None) → is_left b.position.at n ≡ true → GoesOn b
  external_fires n node crew draft at at_c body size stated silent left =
      let P = b.position in
      let p = b.accepted.program in
      let happens = can.guest n node draft at body size left in (
        FireAt P.at.time n (in_slots draft) (is_enabled p P.at n),
        record { at = happens.0; inputs = P.inputs; fired = fired_after (Guest n draft) P.fired },
        record {
          event = Guest n draft;
          stated = (node, crew, at, at_c, stated);
          step = happens.2;
          recorded = happens.1;
          records = happens.3;
          tells = (draft, is_enabled p P.at n, happens.3, refl);
          inputs = refl;
          fired = refl;
        },
        firing_silent b.plan P.at.time n (in_slots draft) (is_enabled p P.at n)
            (λ guest crew'. silent guest (at_same b.plan.crews n crew (plans.Guest guest) at_c crew')),
      )

  crew_fires : (n : ℕ) (node : NodeInfo) (crew : plans.Crew) → At b.accepted.program.nodes n node → At b.plan.crews n crew → FitsCrew node crew
      → node.body ≡ None → is_left b.position.at n ≡ true → GoesOn b
  crew_fires n node plans.Coded at at_c fits body left = absurd (let e = sym body ∙ fits.1.1 in cc)
  crew_fires n node (plans.Script drafts) at at_c fits body left =
      external_fires n node (plans.Script drafts) _ at at_c body (draft_size b.accepted.program node (plans.Script drafts) (fired_of b.position n) _ fits refl)
      refl (λ guest e. cc) left
  crew_fires n node (plans.Wild spread seed stream) at at_c fits body left =
      external_fires n node (plans.Wild spread seed stream) _ at at_c body
      (draft_size b.accepted.program node (plans.Wild spread seed stream) (fired_of b.position n) _ fits refl) refl (λ guest e. cc) left
  crew_fires n node (plans.Guest i) at at_c fits body left =
      let few = (is.kept.rules.nodes n node at).writes in
      external_fires n node (plans.Guest i) (replicate (length node.writes.items) None) at at_c body (length-replicate (length node.writes.items) None) tt
      (λ guest e. nothing_in_slots (length node.writes.items) few) left

  node_fires : (n : ℕ) → n < length b.accepted.program.nodes → is_left b.position.at n ≡ true → GoesOn b
  node_fires n there left = by_body (at_below b.accepted.program.nodes n there)
    where
      by_node : (node : NodeInfo) → At b.accepted.program.nodes n node → (body : _) → node.body ≡ body → GoesOn b
      by_node node at None body =
          (let crew = crew_is b.accepted.program is.guests b.plan is.fits n node at in crew_fires n node crew.0 at crew.1 crew.2 body left)
      by_node node at (Some v) body = coded_fires n node v at body left

      by_body : (node : NodeInfo) × At b.accepted.program.nodes n node → GoesOn b
      by_body (node, at) = by_node node at node.body refl

  plants_tick : NoInputDue b.position → MayTick b.accepted.program b.accepted.cert.jitter b.position.at → b.position.at.time < b.plan.horizon → GoesOn b
  plants_tick none may before =
      let P = b.position in
      let p = b.accepted.program in
      let noise = stated_noise p b.plan P.at.time in
      let happens = can.tick noise may (stated_length p is.guests b.plan is.fits P.at.time) (stated_within p is.guests b.plan is.fits is.kept.rules P.at.time)
      in (
        TickAt P.at.time (joined noise) (joined happens.0.points),
        record { at = happens.0; inputs = P.inputs; fired = P.fired },
        record {
          event = Tick noise;
          stated = (before, none, refl);
          step = happens.2;
          recorded = happens.1;
          records = happens.3;
          tells = refl;
          inputs = refl;
          fired = refl;
        },
        tick_silent b.plan P.at.time (joined noise) (joined happens.0.points),
      )

  -- nothing is left, and no input is due: the end, or a tick
  settled_goes : NoInputDue b.position → ((n : ℕ) → is_left b.position.at n ≡ false) → ((m : ℕ) → is_left_dm b.position.at m ≡ false)
      → IsEnd b.accepted.program b.plan b.position ⊎ GoesOn b
  settled_goes none nodes modules =
      ⊎_elim
      (λ before. inr (plants_tick none (record {
        nodes = λ n node d at left last. absurd (false≢true (sym (nodes n) ∙ left));
        modules = λ m a d at left last. absurd (false≢true (sym (modules m) ∙ left));
      }) before))
      (λ past.
      let end : b.position.at.time ≡ b.plan.horizon = omega (arith, past, is.in_time) in
      inl (record { time = end; inputs = no_input_left b is end none; nothing = record { nodes = λ n node at. nodes n; modules = λ m a at. modules m } }))
      (cases_lt b.position.at.time b.plan.horizon)

  quiet_goes : NoInputDue b.position → IsEnd b.accepted.program b.plan b.position ⊎ GoesOn b
  quiet_goes none =
      ⊎_elim
      (λ node. inr (node_fires node.0 (omega (arith, node.1, is.kept.holds.sizes.left)) node.2))
      (λ nodes. ⊎_elim
      (λ decider. inr (decision_is_made decider.0 (omega (arith, decider.1, is.kept.holds.sizes.left_dm)) decider.2))
      (λ modules. settled_goes none nodes modules)
      (some_flag b.position.at.left_dm))
      (some_flag b.position.at.left)

  -- the next input is due, or none is
  due_cases : (inputs : List StatedInput) → b.position.inputs ≡ inputs → InputDue b.position ⊎ NoInputDue b.position
  due_cases [] empty = inr (no_input_due b is (λ (x, rest, first, now). let e = sym empty ∙ first in cc))
  due_cases (x ∷ rest) first =
      ⊎_elim
      (λ now. inl (x, rest, first, now))
      (λ not. inr (no_input_due b is (λ (y, others, also, now).
      let e = sym first ∙ also in
      let same : x ≡ y = cc in
      not (ap (λ i. i.at) same ∙ now))))
      (cases_eq x.at b.position.at.time)

  pub goes_on : IsEnd b.accepted.program b.plan b.position ⊎ GoesOn b
  goes_on = ⊎_elim (λ due. inr (input_comes due)) (λ none. quiet_goes none) (due_cases b.position.inputs refl)
