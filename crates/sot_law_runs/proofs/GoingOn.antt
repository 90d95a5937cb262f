-- Something happens wherever the invariant holds, and time goes on.
use Rattle.std.proofs.Common.{◌≡◌, ℕ, ◌+◌, ℤ, true, ◌⊎◌, inl, inr, ⊎_elim, List, [], Option, None, Some, length, replicate, refl, sym, ap, ◌∙◌, arith}
use Rattle.std.proofs.lemmas.Bool.{cases_Bool, cases_eq, false≢true}
use Rattle.std.proofs.lemmas.List.{length-replicate}
use Rattle.sot_lists.specs.Places.{At}
use Rattle.sot_lists.proofs.Places.{at_below}
use Rattle.sot_box.specs.Boxes.{IsWithin}
use Rattle.sot_box.proofs.Ranges.{lows_within}
use Rattle.sot_lang.specs.declared.tables.NodeInfo.{NodeInfo}
use Rattle.sot_lang.specs.declared.tables.ModuleInfo.{ModuleInfo}
use Rattle.sot_lang.specs.Tables.{Tables}
use Rattle.sot_lang.specs.Ranges.{bounds}
use Rattle.sot_lang.specs.TableRules.{MeetsTableRules}
use Rattle.sot_calendar.specs.Due.{IsDeadline, IsLastDue, IsStillDue}
use Rattle.sot_calendar.proofs.Clock.{last_same}
use Rattle.sot_tube.specs.WellFormed.{IsWellFormed}
use Rattle.sot_world.specs.Configurations.{Configuration, is_left, is_left_dm}
use Rattle.sot_world.specs.Steps.{Code, Guest, Decide, Tick, MayTick}
use Rattle.sot_world.specs.Invariant.{KeepsInvariant}
use Rattle.sot_world.specs.Progress.{Happens, CanGoOn}
use Rattle.sot_world.proofs.Progress.{something_can_happen, list_of}
use Rattle.sot_law_runs.specs.GoingOn.{AreDisturbances, HoldsNode, HoldsDecision, IsNoDeadEnd, GoesOn, SomethingAlwaysHappens}
use Rattle.sot_law_runs.proofs.Lists.{some_or_all, set_below, ordered_map}

-- what is left has its deadline now or later
deadline_or_later : (jitter period offset t : ℕ) → IsStillDue jitter period offset t
    → IsDeadline jitter period offset t ⊎ ((d : ℕ) → IsLastDue period offset t d → d + jitter ≡ t → ⊥)
deadline_or_later jitter period offset t h =
    ⊎_elim
    (λ e. inl (h.0, h.1, e))
    (λ ne. inr (λ d last e. ne (ap (λ x. x + jitter) (last_same period offset t h.0 d h.1 last) ∙ e)))
    (cases_eq (h.0 + jitter) t)

module _ (p : Tables) (j : ℕ) (rules : MeetsTableRules p) (well : IsWellFormed p j) where
  -- the low ends of the bounds
  pub lowest : (noise : List (List ℤ)) × AreDisturbances p noise
  lowest =
      let low = list_of [] p.plants (λ k plant w. IsWithin (bounds plant) w)
      (λ k plant at. (
        _,
        lows_within (bounds plant) (ordered_map _ plant.noise.items
            (λ i info at_i. ((rules.plants k plant at).noise_ranges i info at_i).1.0)),
      )) in
      (low.0, record { each = low.1; bounded = low.2 })

  module _ (C : Configuration) (h : KeepsInvariant p j C) where
    can : CanGoOn p j C
    can = something_can_happen p j C rules.typed well h

    node_case : (n : ℕ) (node : NodeInfo) → At p.nodes n node
        → HoldsNode p j C n ⊎ ((d : ℕ) → is_left C n ≡ true → IsLastDue node.period node.offset C.time d → d + j ≡ C.time → ⊥)
    node_case n node at =
        ⊎_elim
        (λ left. ⊎_elim
        (λ deadline. inl (record { node = node; is = at; left = left; deadline = deadline }))
        (λ later. inr (λ d is. later d))
        (deadline_or_later j node.period node.offset C.time (h.due n node at left)))
        (λ rest. inr (λ d is last e. false≢true (sym rest ∙ is)))
        (cases_Bool (is_left C n))

    decision_case : (m : ℕ) (a : ModuleInfo) → At p.modules m a
        → HoldsDecision p j C m ⊎ ((d : ℕ) → is_left_dm C m ≡ true → IsLastDue a.period a.offset C.time d → d + j ≡ C.time → ⊥)
    decision_case m a at =
        ⊎_elim
        (λ left. ⊎_elim
        (λ deadline. inl (record { module_info = a; is = at; left = left; deadline = deadline }))
        (λ later. inr (λ d is. later d))
        (deadline_or_later j a.period a.offset C.time (h.due_dm m a at left)))
        (λ rest. inr (λ d is last e. false≢true (sym rest ∙ is)))
        (cases_Bool (is_left_dm C m))

    pub ticks : MayTick p j C → (noise : List (List ℤ)) → AreDisturbances p noise → Happens p j C (Tick noise)
    ticks may noise are = can.tick noise may are.each are.bounded

    held_or_ticks : ((noise : List (List ℤ)) → AreDisturbances p noise → Happens p j C (Tick noise))
        ⊎ (((n : ℕ) × HoldsNode p j C n) ⊎ ((m : ℕ) × HoldsDecision p j C m))
    held_or_ticks =
        ⊎_elim
        (λ held. inr (inl (held.0, held.3)))
        (λ no_node. ⊎_elim
        (λ held. inr (inr (held.0, held.3)))
        (λ no_module. inl (ticks (record {
          nodes = λ n node d at is last e. no_node n node at d is last e;
          modules = λ m a d at is last e. no_module m a at d is last e;
        })))
        (some_or_all p.modules (λ m a. HoldsDecision p j C m) (λ m a. (d : ℕ) → is_left_dm C m ≡ true → IsLastDue a.period a.offset C.time d → d + j ≡ C.time
        → ⊥) decision_case))
        (some_or_all p.nodes (λ n node. HoldsNode p j C n) (λ n node. (d : ℕ) → is_left C n ≡ true → IsLastDue node.period node.offset C.time d → d + j ≡ C.time
        → ⊥) node_case)

    body_case : (node : NodeInfo) → (node.body ≡ None) ⊎ ((v : _) × (node.body ≡ Some v))
    body_case node = body_of node.body refl
      where
        body_of : (b : _) → node.body ≡ b → (node.body ≡ None) ⊎ ((v : _) × (node.body ≡ Some v))
        body_of None e = inl e
        body_of (Some v) e = inr (v, e)

    fires : (n : ℕ) → is_left C n ≡ true → Happens p j C (Code n) ⊎ ((draft : List (Option ℤ)) × Happens p j C (Guest n draft))
    fires n left =
        let lt = set_below C.left n left in
        let node = at_below p.nodes n (omega (arith, lt, h.sizes.left)) in
        ⊎_elim
        (λ none. inr (
          replicate (length node.0.writes.items) None,
          can.guest n node.0 (replicate (length node.0.writes.items) None) node.1 none (length-replicate (length node.0.writes.items) None) left,
        ))
        (λ some. inl (can.code n node.0 some.0.items node.1 (some.0, some.1, refl) left))
        (body_case node.0)

    decides : (m : ℕ) → is_left_dm C m ≡ true → (Happens p j C (Decide m) → ⊥) → ⊥
    decides m left no' =
        let lt = set_below C.left_dm m left in
        let a = at_below p.modules m (omega (arith, lt, h.sizes.left_dm)) in
        no' (can.decide m a.0 a.1 left (inr (λ keeps. no' (can.decide m a.0 a.1 left (inl keeps)))))

    no_dead_end : IsNoDeadEnd p j C
    no_dead_end no' =
        ⊎_elim
        (λ (tick : (noise : List (List ℤ)) → AreDisturbances p noise → Happens p j C (Tick noise)). no' (Tick lowest.0) (tick lowest.0 lowest.1))
        (λ held. ⊎_elim
        (λ (node : (n : ℕ) × HoldsNode p j C n). ⊎_elim (λ code. no' (Code node.0) code) (λ guest. no' (Guest node.0 guest.0) guest.1)
        (fires node.0 node.1.left))
        (λ (decision : (m : ℕ) × HoldsDecision p j C m). decides decision.0 decision.1.left (λ happens. no' (Decide decision.0) happens))
        held)
        held_or_ticks

    pub goes_on : GoesOn p j C
    goes_on = record { disturbances = lowest; tick = held_or_ticks; node = fires; decision = decides; no_dead_end = no_dead_end }

pub something_always_happens : SomethingAlwaysHappens
something_always_happens p j C rules well h = goes_on p j rules well C h
