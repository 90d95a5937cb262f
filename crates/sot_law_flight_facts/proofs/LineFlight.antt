-- A flight of the running example.
use Rattle.std.proofs.Common.{◌≡◌, ℕ, ℤ, pos, negsuc, ◌⊎◌, ⊎_elim, ◌↔◌, true, false, refl, sym, ap, ◌∙◌, subst, Ok, Some, None, Option, List, [], ◌∷◌, arith}
use Rattle.std.specs.Prelude.{slice_index_or, ◌%◌, ◌<◌}
use Rattle.std.proofs.lemmas.Bool.{false≢true}
use Rattle.std.proofs.lemmas.Int.{ints}
use Rattle.std.proofs.lemmas.Option.{none-some, same_Some}
use Rattle.std.specs.Global.{Global}
use Rattle.sot_lang.specs.Line.{line, fast, slow, nav, pos_plant}
use Rattle.sot_lang.specs.Ticks.{next_state, joined}
use Rattle.sot_lang.specs.Ranges.{bounds}
use Rattle.sot_box.specs.Boxes.{IsWithin}
use Rattle.sot_lists.specs.Places.{At}
use Rattle.sot_lists.proofs.ShortLists.{at_one, at_two}
use Rattle.sot_calendar.specs.Due.{IsDue, IsDueCount}
use Rattle.sot_code.specs.Recorded.{in_slots}
use Rattle.sot_world.specs.declared.mode.Mode.TheVariants.{Ac}
use Rattle.sot_world.specs.Configurations.{Configuration, is_left, is_left_dm, point_of, commands, seen_points}
use Rattle.sot_world.specs.Steps.{Event, Step, Input, Code, Guest, Decide, Tick}
use Rattle.sot_world.specs.Outcomes.{Recorded, Records, NodeFired, ModuleDecided, PlantsTicked}
use Rattle.sot_world.specs.HistoryEntry.{Logged, FireAt, TickAt}
use Rattle.sot_world.specs.Examples.{at_opening, decided, drafted, settled, ticked}
use Rattle.sot_world.proofs.LineSteps as line_step
use Rattle.sot_flight.specs.Plans.{Plan, Script}
use Rattle.sot_flight.specs.Stated.{stated_noise, draft_of}
use Rattle.sot_board.specs.Flown.{Position, fired_of, IsStated, IsStatedDraft, Tells, Flies, IsStart, FlownBy}
use Rattle.sot_law_flight_facts.specs.Examples.{line_flight, instant_flight, decides, drafts, steers, ticks}
use Rattle.sot_law_flight_facts.proofs.Firings.{whole}

-- the plant at 0 + 2 - 1
low_tick : Configuration
low_tick = record ticked { points = (pos 1 ∷ []) ∷ [] }

no_one : ◌≡◌ {A = ℕ} 1 0 → ⊥
no_one e = omega (arith, e)

-- where a flight of the example stands, with these firings behind it
standing : Configuration → List ℕ → Position
standing C fired = record { at = C; inputs = []; fired = fired }

module _ (g : Global) where
  ticks_low : Step (line g) 0 settled (Tick ((negsuc 0 ∷ []) ∷ [])) low_tick
  unfolding next_state low_tick
  ticks_low = record {
    may = line_step.none_left g settled refl refl;
    each = refl;
    bounded =
        at_one (λ k plant. IsWithin (bounds plant) (slice_index_or ((negsuc 0 ∷ []) ∷ []) k [])) (pos_plant g) (omega (arith, ints), omega (arith, ints), tt);
    moves =
        at_one (λ k plant. next_state plant (point_of settled k) (commands plant settled) (joined (seen_points plant settled))
        (slice_index_or ((negsuc 0 ∷ []) ∷ []) k []) ≡ Ok (point_of low_tick k)) (pos_plant g) refl;
    time = refl;
    left = at_two (λ n node. (is_left low_tick n ≡ true) ↔ ((is_left settled n ≡ true) ⊎ IsDue node.period node.offset 1)) (fast g) (slow g)
        ((λ e. absurd (false≢true e)), (λ o. ⊎_elim (λ e. e) (λ d. absurd (no_one d.1)) o))
        ((λ e. absurd (false≢true e)), (λ o. ⊎_elim (λ e. e) (λ d. absurd (no_one d.1)) o));
    left_dm =
        at_one (λ m a. (is_left_dm low_tick m ≡ true) ↔ ((is_left_dm settled m ≡ true) ⊎ IsDue a.period a.offset 1)) (nav g)
        ((λ e. absurd (false≢true e)), (λ o. ⊎_elim (λ e. e) (λ d. absurd (no_one d.1)) o));
    sizes = record { left = refl; left_dm = refl; modes = refl; scalars = refl; locals = refl; points = refl };
    rest = refl;
  }

  -- the events before the tick, in a flight with any horizon
  module _ (h e k : ℕ) where
    flight : Plan
    flight = record line_flight { horizon = h; events = e; numbers = k }

    flies_decision : Flies (line g) 0 flight (standing at_opening (0 ∷ 0 ∷ [])) decides (standing decided (0 ∷ 0 ∷ []))
    unfolding standing flight
    flies_decision =
        record {
          event = Decide 0;
          stated = tt;
          step = line_step.decides g;
          recorded = ModuleDecided Ac;
          records = refl;
          tells = (Ac, refl, refl);
          inputs = refl;
          fired = refl;
        }

    flies_draft : Flies (line g) 0 flight (standing decided (0 ∷ 0 ∷ [])) (drafts (pos 2) true) (standing drafted (1 ∷ 0 ∷ []))
    unfolding standing flight
    flies_draft =
        record {
          event = Guest 0 (Some (pos 2) ∷ []);
          stated = (fast g, _, refl, refl, refl);
          step = line_step.takes_2 g;
          recorded = NodeFired (Some (pos 2) ∷ []) true;
          records = refl;
          tells = (Some (pos 2) ∷ [], true, refl, refl);
          inputs = refl;
          fired = refl;
        }

    flies_idle : Flies (line g) 0 flight (standing drafted (1 ∷ 0 ∷ [])) (steers false) (standing settled (1 ∷ 1 ∷ []))
    unfolding standing flight
    flies_idle =
        record {
          event = Code 1;
          stated = tt;
          step = line_step.idle g;
          recorded = NodeFired (Some (pos 0) ∷ []) false;
          records = line_step.idle_recorded g;
          tells = (Some (pos 0) ∷ [], false, refl, refl);
          inputs = refl;
          fired = refl;
        }

    starts : IsStart (line g) flight (standing at_opening (0 ∷ 0 ∷ []))
    unfolding standing flight
    starts = record { opening = line_step.opens g; inputs = refl; fired = refl }

  flies_tick : Flies (line g) 0 line_flight (standing settled (1 ∷ 1 ∷ [])) (ticks (negsuc 0) (pos 1)) (standing low_tick (1 ∷ 1 ∷ []))
  unfolding standing low_tick
  flies_tick =
      record {
        event = Tick ((negsuc 0 ∷ []) ∷ []);
        stated = (omega arith, (λ i x at. absurd (none-some x at)), refl);
        step = ticks_low;
        recorded = PlantsTicked;
        records = refl;
        tells = refl;
        inputs = refl;
        fired = refl;
      }

  pub flown : FlownBy (line g) 0 line_flight (decides ∷ drafts (pos 2) true ∷ steers false ∷ ticks (negsuc 0) (pos 1) ∷ [])
  unfolding standing flight low_tick
  flown = (
    standing low_tick (1 ∷ 1 ∷ []),
    (standing at_opening (0 ∷ 0 ∷ []), starts 1 4 2, (_, flies_decision 1 4 2, (_, flies_draft 1 4 2, (_, flies_idle 1 4 2, (_, flies_tick, refl))))),
    record {
      time = refl;
      inputs = refl;
      nothing = record {
        nodes = at_two (λ n node. is_left low_tick n ≡ false) (fast g) (slow g) refl refl;
        modules = at_one (λ m a. is_left_dm low_tick m ≡ false) (nav g) refl;
      };
    },
  )

  pub at_once : FlownBy (line g) 0 instant_flight (decides ∷ drafts (pos 2) true ∷ steers false ∷ [])
  unfolding standing flight
  at_once = (
    standing settled (1 ∷ 1 ∷ []),
    (standing at_opening (0 ∷ 0 ∷ []), starts 0 3 0, (_, flies_decision 0 3 0, (_, flies_draft 0 3 0, (_, flies_idle 0 3 0, refl)))),
    record {
      time = refl;
      inputs = refl;
      nothing = record {
        nodes = at_two (λ n node. is_left settled n ≡ false) (fast g) (slow g) refl refl;
        modules = at_one (λ m a. is_left_dm settled m ≡ false) (nav g) refl;
      };
    },
  )

  -- both nodes and the module are due at 0
  none_due : (period : ℕ) → 0 % period ≡ 0 → IsDueCount period 0 0 0 → ⊥
  none_due period rest counts = ⊎_elim (λ due. (let e : ◌≡◌ {A = ℕ} 0 1 = due.1 in omega (arith, e))) (λ no'. no'.0 (omega arith, rest)) counts

  pub safe_node_left : FlownBy (line g) 0 instant_flight (decides ∷ drafts (pos 2) true ∷ []) → ⊥
  safe_node_left flown =
      none_due 2 refl ((whole (line g) 0 instant_flight (decides ∷ drafts (pos 2) true ∷ []) flown).0 1 (slow g) refl (omega arith) (omega arith))

  pub advanced_node_left : FlownBy (line g) 0 instant_flight (decides ∷ steers false ∷ []) → ⊥
  advanced_node_left flown =
      none_due 4 refl ((whole (line g) 0 instant_flight (decides ∷ steers false ∷ []) flown).0 0 (fast g) refl (omega arith) (omega arith))

  pub decision_left : FlownBy (line g) 0 instant_flight (drafts (pos 2) false ∷ steers true ∷ []) → ⊥
  decision_left flown =
      none_due 4 refl ((whole (line g) 0 instant_flight (drafts (pos 2) false ∷ steers true ∷ []) flown).1 0 (nav g) refl (omega arith) (omega arith))

  -- an entry of a tick tells the stated disturbances, before the horizon
  tick_told : (f : Plan) (P R : Position) (e : Event) (r : Recorded) (t : ℕ) (w s : List ℤ) → IsStated (line g) f P e → Tells P.at e r R.at (TickAt t w s)
      → (P.at.time < f.horizon) × (w ≡ joined (stated_noise (line g) f P.at.time))
  tick_told f P R (Input topic value) r t w s stated is = absurd cc
  tick_told f P R (Code k) r t w s stated (draft, enabled, was, is) = absurd cc
  tick_told f P R (Guest k d) r t w s stated (draft, enabled, was, is) = absurd cc
  tick_told f P R (Decide m) r t w s stated (mode, was, is) = absurd cc
  tick_told f P R (Tick noise) r t w s (before, none, stated) is = (let told : w ≡ joined noise = cc in (before, told ∙ ap joined stated))

  pub other_disturbance : FlownBy (line g) 0 line_flight (decides ∷ drafts (pos 2) true ∷ steers false ∷ ticks (pos 1) (pos 3) ∷ []) → ⊥
  other_disturbance (Q, (P, start, (after_decision, decision, (after_draft, draft_flown, (after_steering, steering, (after_tick, tick_flown, same))))), ended) =
      let told = tick_told line_flight after_steering after_tick tick_flown.event tick_flown.recorded 0 (pos 1 ∷ []) (pos 3 ∷ []) tick_flown.stated
      tick_flown.tells in
      let e : pos 1 ∷ [] ≡ negsuc 0 ∷ [] = told.1 in
      cc

  pub tick_after_the_end : FlownBy (line g) 0 instant_flight (decides ∷ drafts (pos 2) true ∷ steers false ∷ ticks (negsuc 0) (pos 1) ∷ []) → ⊥
  tick_after_the_end (Q, (P, start, (after_decision, decision, (after_draft, draft_flown, (after_steering, steering, (after_tick, tick_flown, same))))), ended)
      =
      let told = tick_told instant_flight after_steering after_tick tick_flown.event tick_flown.recorded 0 (negsuc 0 ∷ []) (pos 1 ∷ []) tick_flown.stated
      tick_flown.tells in
      omega (arith, told.0)

  -- an entry of a firing of `fast` tells the stated draft
  draft_told : (P R : Position) (e : Event) (r : Recorded) (slots : List (Option ℤ)) → IsStated (line g) line_flight P e → Step (line g) 0 P.at e R.at
      → Records (line g) P.at e R.at r → Tells P.at e r R.at (FireAt 0 0 slots true) → slots ≡ in_slots (Some (pos 2) ∷ [])
  draft_told P R (Input topic value) r slots stated step records is = absurd cc
  draft_told P R (Code k) r slots stated step records (draft, enabled, was, is) =
      let first : k ≡ 0 = cc in
      let same = same_Some (fast g) step.node (subst (λ i. At (line g).nodes i step.node) first step.is) in
      absurd (none-some step.coded.0 (ap (λ x. x.body) same ∙ step.coded.1))
  draft_told P R (Guest k d) r slots (node, crew, at_node, at_crew, stated) step records (draft, enabled, was, is) =
      let first : k ≡ 0 = cc in
      let script = same_Some (Script ((Some (pos 2) ∷ []) ∷ [])) crew (subst (λ i. At line_flight.crews i crew) first at_crew) in
      let two : d ≡ Some (pos 2) ∷ [] = subst (λ c. IsStatedDraft (draft_of (line g) node c (fired_of P k)) d) (sym script) stated in
      let drafted : draft ≡ d = cc in
      let told : slots ≡ in_slots draft = cc in
      told ∙ ap in_slots (drafted ∙ two)
  draft_told P R (Decide m) r slots stated step records (mode, was, is) = absurd cc
  draft_told P R (Tick noise) r slots stated step records is = absurd cc

  pub other_draft : FlownBy (line g) 0 line_flight (decides ∷ drafts (pos 1) true ∷ steers false ∷ ticks (negsuc 0) (pos 0) ∷ []) → ⊥
  other_draft (Q, (P, start, (after_decision, decision, (after_draft, draft_flown, rest))), ended) =
      let told = draft_told after_decision after_draft draft_flown.event draft_flown.recorded (in_slots (Some (pos 1) ∷ [])) draft_flown.stated draft_flown.step
      draft_flown.records draft_flown.tells in
      let e : pos 1 ≡ pos 2 = one_number (ap (λ xs. slice_index_or xs 0 None) told) in
      cc
    where
      one_number : ◌≡◌ {A = Option ℤ} (Some (pos 1)) (Some (pos 2)) → pos 1 ≡ pos 2
      one_number e = cc

  -- an entry of no tick takes no time
  time_stays : (P R : Position) (e : Event) (r : Recorded) (x : Logged) → ((t : ℕ) (w s : List ℤ) → x ≡ TickAt t w s → ⊥) → Step (line g) 0 P.at e R.at
      → Tells P.at e r R.at x → R.at.time ≡ P.at.time
  time_stays P R (Input topic value) r x no_tick step is = ap (λ (C : Configuration). C.time) step.rest
  time_stays P R (Code k) r x no_tick step is = step.fires.time
  time_stays P R (Guest k d) r x no_tick step is = step.fires.time
  time_stays P R (Decide m) r x no_tick step is = ap (λ (C : Configuration). C.time) step.rest
  time_stays P R (Tick noise) r x no_tick step is = absurd (no_tick _ _ _ is)

  pub no_tick : FlownBy (line g) 0 line_flight (decides ∷ drafts (pos 2) true ∷ steers false ∷ []) → ⊥
  no_tick (Q, (P, start, (after_decision, decision, (after_draft, draft_flown, (after_steering, steering, same)))), ended) =
      let first = time_stays P after_decision decision.event decision.recorded decides (λ t w s e. cc) decision.step decision.tells in
      let second = time_stays after_decision after_draft draft_flown.event draft_flown.recorded (drafts (pos 2) true) (λ t w s e. cc) draft_flown.step
      draft_flown.tells in
      let third = time_stays after_draft after_steering steering.event steering.recorded (steers false) (λ t w s e. cc) steering.step steering.tells in
      let last : after_steering.at.time ≡ Q.at.time = ap (λ (x : Position). x.at.time) same in
      let end : ◌≡◌ {A = ℕ} Q.at.time 1 = ended.time in
      omega (arith, first, second, third, last, end, start.opening.time)
