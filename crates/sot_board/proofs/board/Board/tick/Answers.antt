use Rattle.std.proofs.Common.{◌<◌, ◌∷◌, ◌++◌, [], length, refl, sym, ap, ap₂, ◌∙◌, subst, arith}
use Rattle.std.specs.Vec.{with_items}
use Rattle.std.proofs.lemmas.List.{with_items_is}
use Rattle.sot_lang.specs.Ticks.{joined}
use Rattle.sot_world.specs.Events.{noise_count, IsInBounds}
use Rattle.sot_world.specs.HistoryEntry.{Logged, TickAt}
use Rattle.sot_world.specs.Steps.{Tick}
use Rattle.sot_world.specs.Changes.{ArePoints}
use Rattle.sot_flight.specs.Fits.{FitsFlight}
use Rattle.sot_flight.specs.Stated.{stated_noise}
use Rattle.sot_board.specs.BoardView.{position, standing}
use Rattle.sot_board.specs.Counts.{state_count}
use Rattle.sot_board.specs.Calls.{MayTickNow, Logs}
use Rattle.sot_board.proofs.Events.{tick_flies}
use Rattle.sot_board.proofs.Boards.{has_points, has_numbers, has_room, stands, logs, not_counted}
use Rattle.sot_board.proofs.BoardTicks.{noise_now, noise_many, noise_inside, tick_as}
use Rattle.sot_board.proofs.board.Board.tick.Goals as goal

pub disturb-requires-clause-fits : goal.disturb-requires-clause-fits
disturb-requires-clause-fits c =
    let b = c.self.inside in
    let p = b.world.accepted.program in
    let is = c.self.invariant in
    let w = stated_noise p b.flight.now b.world.at.time in
    (is.has.standing.guests, subst (λ t. FitsFlight t is.has.standing.guests b.flight.now) (sym c.typed-p.ensures) is.has.standing.fits)

pub disturb-requires-clause-size : goal.disturb-requires-clause-size
disturb-requires-clause-size c =
    let b = c.self.inside in
    let p = b.world.accepted.program in
    let is = c.self.invariant in
    let w = stated_noise p b.flight.now b.world.at.time in
    ap length c.deref_mut.ensures.value ∙ is.noise ∙ sym (noise_many b is)
    ∙ ap length (sym (noise_now _ _ b.flight.now _ _ c.typed-p.ensures c.time-time.ensures.value))

pub tick-requires-clause-noise : goal.tick-requires-clause-noise
tick-requires-clause-noise c =
    let b = c.self.inside in
    let p = b.world.accepted.program in
    let is = c.self.invariant in
    let w = stated_noise p b.flight.now b.world.at.time in
    let noise = with_items_is b.noise c.disturb.new.noise (omega (arith, c.disturb.auto.noise, c.deref_mut.ensures.len)) ∙ c.disturb.ensures
    ∙ noise_now _ _ b.flight.now _ _ c.typed-p.ensures c.time-time.ensures.value in
    let now = c.deref.ensures.value ∙ noise in
    ap length now ∙ noise_many b is

pub tick-requires-clause-bounded : goal.tick-requires-clause-bounded
tick-requires-clause-bounded c =
    let b = c.self.inside in
    let p = b.world.accepted.program in
    let is = c.self.invariant in
    let w = stated_noise p b.flight.now b.world.at.time in
    let noise = with_items_is b.noise c.disturb.new.noise (omega (arith, c.disturb.auto.noise, c.deref_mut.ensures.len)) ∙ c.disturb.ensures
    ∙ noise_now _ _ b.flight.now _ _ c.typed-p.ensures c.time-time.ensures.value in
    let now = c.deref.ensures.value ∙ noise in
    subst (IsInBounds p.plants) (sym now) (noise_inside b is)

pub tick-requires-clause-may : goal.tick-requires-clause-may
tick-requires-clause-may c = (subst (λ s. MayTickNow s.accepted.program s.accepted.cert.jitter s.position) (sym c.self.view_is) c.requires.may).0

pub tick-requires-clause-time : goal.tick-requires-clause-time
tick-requires-clause-time c =
    let b = c.self.inside in
    let p = b.world.accepted.program in
    let is = c.self.invariant in
    let w = stated_noise p b.flight.now b.world.at.time in
    let soon = subst (λ s. s.position.at.time < s.plan.horizon) (sym c.self.view_is) c.requires.time in
    omega (arith, soon, is.has.standing.fits.horizon)

pub put_states-requires-clause-plants : goal.put_states-requires-clause-plants
put_states-requires-clause-plants c =
    let b = c.self.inside in
    let p = b.world.accepted.program in
    let is = c.self.invariant in
    let w = stated_noise p b.flight.now b.world.at.time in
    omega (
      arith,
      c.len.ensures,
      ap (λ t. length t.plants) (c.p.view_is ∙ c.typed-p.ensures),
      ap (λ a. length a.program.plants) c.tick.ensures.accepted,
      c.p.inside.plants.ok.0,
    )

pub put_states-requires-clause-points : goal.put_states-requires-clause-points
put_states-requires-clause-points c =
    let b = c.self.inside in
    let p = b.world.accepted.program in
    let is = c.self.invariant in
    let w = stated_noise p b.flight.now b.world.at.time in
    let noise = with_items_is b.noise c.disturb.new.noise (omega (arith, c.disturb.auto.noise, c.deref_mut.ensures.len)) ∙ c.disturb.ensures
    ∙ noise_now _ _ b.flight.now _ _ c.typed-p.ensures c.time-time.ensures.value in
    let now = c.deref.ensures.value ∙ noise in
    let may = subst (λ s. MayTickNow s.accepted.program s.accepted.cert.jitter s.position) (sym c.self.view_is) c.requires.may in
    let soon = subst (λ s. s.position.at.time < s.plan.horizon) (sym c.self.view_is) c.requires.time in
    let step = tick_as b is c.tick.new.self.at c.deref.result.now now c.tick.ensures.step in
    let flies = tick_flies p b.world.accepted.cert.jitter b.flight.now (position b) c.tick.new.self.at w (soon, may.1, refl) step in
    subst (λ a. ArePoints a.program c.tick.new.self.at.points) (sym c.tick.ensures.accepted) (has_points b is _ _ flies)

pub put_states-requires-clause-room : goal.put_states-requires-clause-room
put_states-requires-clause-room c =
    let b = c.self.inside in
    let p = b.world.accepted.program in
    let is = c.self.invariant in
    let w = stated_noise p b.flight.now b.world.at.time in
    ap length c.deref_mut-2.ensures.value ∙ is.states ∙ ap (λ a. state_count a.program.plants) (sym c.tick.ensures.accepted)

pub push-requires-clause-entry : goal.push-requires-clause-entry
push-requires-clause-entry c =
    let b = c.self.inside in
    let p = b.world.accepted.program in
    let is = c.self.invariant in
    let w = stated_noise p b.flight.now b.world.at.time in
    let noise = with_items_is b.noise c.disturb.new.noise (omega (arith, c.disturb.auto.noise, c.deref_mut.ensures.len)) ∙ c.disturb.ensures
    ∙ noise_now _ _ b.flight.now _ _ c.typed-p.ensures c.time-time.ensures.value in
    let now = c.deref.ensures.value ∙ noise in
    let may = subst (λ s. MayTickNow s.accepted.program s.accepted.cert.jitter s.position) (sym c.self.view_is) c.requires.may in
    let soon = subst (λ s. s.position.at.time < s.plan.horizon) (sym c.self.view_is) c.requires.time in
    let step = tick_as b is c.tick.new.self.at c.deref.result.now now c.tick.ensures.step in
    let flies = tick_flies p b.world.accepted.cert.jitter b.flight.now (position b) c.tick.new.self.at w (soon, may.1, refl) step in
    has_room b is _ _ flies

pub push-requires-clause-numbers : goal.push-requires-clause-numbers
push-requires-clause-numbers c =
    let b = c.self.inside in
    let p = b.world.accepted.program in
    let is = c.self.invariant in
    let w = stated_noise p b.flight.now b.world.at.time in
    let noise = with_items_is b.noise c.disturb.new.noise (omega (arith, c.disturb.auto.noise, c.deref_mut.ensures.len)) ∙ c.disturb.ensures
    ∙ noise_now _ _ b.flight.now _ _ c.typed-p.ensures c.time-time.ensures.value in
    let now = c.deref.ensures.value ∙ noise in
    let may = subst (λ s. MayTickNow s.accepted.program s.accepted.cert.jitter s.position) (sym c.self.view_is) c.requires.may in
    let soon = subst (λ s. s.position.at.time < s.plan.horizon) (sym c.self.view_is) c.requires.time in
    let step = tick_as b is c.tick.new.self.at c.deref.result.now now c.tick.ensures.step in
    let flies = tick_flies p b.world.accepted.cert.jitter b.flight.now (position b) c.tick.new.self.at w (soon, may.1, refl) step in
    let states = with_items_is b.states c.put_states.new.states (omega (arith, c.put_states.auto.states, c.deref_mut-2.ensures.len)) ∙ c.put_states.ensures in
    let noise_2 = c.deref-2.ensures.value ∙ noise in
    let states_3 = c.deref-3.ensures.value ∙ states in
    let most = has_numbers b is _ _ flies in
    omega (arith, most, ap length noise_2, ap length states_3)

pub invariant_of-self : goal.invariant_of-self
invariant_of-self c =
    let b = c.self.inside in
    let p = b.world.accepted.program in
    let is = c.self.invariant in
    let w = stated_noise p b.flight.now b.world.at.time in
    let noise = with_items_is b.noise c.disturb.new.noise (omega (arith, c.disturb.auto.noise, c.deref_mut.ensures.len)) ∙ c.disturb.ensures
    ∙ noise_now _ _ b.flight.now _ _ c.typed-p.ensures c.time-time.ensures.value in
    let now = c.deref.ensures.value ∙ noise in
    let may = subst (λ s. MayTickNow s.accepted.program s.accepted.cert.jitter s.position) (sym c.self.view_is) c.requires.may in
    let soon = subst (λ s. s.position.at.time < s.plan.horizon) (sym c.self.view_is) c.requires.time in
    let step = tick_as b is c.tick.new.self.at c.deref.result.now now c.tick.ensures.step in
    let flies = tick_flies p b.world.accepted.cert.jitter b.flight.now (position b) c.tick.new.self.at w (soon, may.1, refl) step in
    let states = with_items_is b.states c.put_states.new.states (omega (arith, c.put_states.auto.states, c.deref_mut-2.ensures.len)) ∙ c.put_states.ensures in
    let noise_2 = c.deref-2.ensures.value ∙ noise in
    let states_3 = c.deref-3.ensures.value ∙ states in
    let entries = c.push.ensures.appended ∙ ap (λ t. b.history.entries ++ TickAt t c.deref-2.result.now c.deref-3.result.now ∷ []) c.time-time.ensures.value
    ∙ ap₂ (λ x y. b.history.entries ++ TickAt b.world.at.time x y ∷ []) noise_2 states_3 in
    record {
      has =
          stands b is (TickAt b.world.at.time (joined w) (joined c.tick.new.self.at.points)) _ flies c.tick.new.self.accepted c.push.new.self.entries
          b.versions.items c.push.new.self.entries_left c.push.new.self.numbers_left c.tick.ensures.accepted entries
          (not_counted p (TickAt b.world.at.time (joined w) (joined c.tick.new.self.at.points)) b.versions.items (λ k. refl)) c.push.ensures.entries_left
          (omega (arith, c.push.ensures.numbers_left, ap length noise_2, ap length states_3));
      next = is.next;
      noise = ap length noise ∙ noise_many b is ∙ ap (λ a. noise_count a.program.plants) (sym c.tick.ensures.accepted);
      states =
          omega (
            arith,
            ap length (with_items_is b.states c.put_states.new.states (omega (arith, c.put_states.auto.states, c.deref_mut-2.ensures.len))),
            c.put_states.auto.states,
            ap length c.deref_mut-2.ensures.value,
            is.states,
            ap (λ a. state_count a.program.plants) c.tick.ensures.accepted,
          );
    }

pub returns : goal.returns
returns c =
    let b = c.self.inside in
    let p = b.world.accepted.program in
    let is = c.self.invariant in
    let w = stated_noise p b.flight.now b.world.at.time in
    let noise = with_items_is b.noise c.disturb.new.noise (omega (arith, c.disturb.auto.noise, c.deref_mut.ensures.len)) ∙ c.disturb.ensures
    ∙ noise_now _ _ b.flight.now _ _ c.typed-p.ensures c.time-time.ensures.value in
    let now = c.deref.ensures.value ∙ noise in
    let may = subst (λ s. MayTickNow s.accepted.program s.accepted.cert.jitter s.position) (sym c.self.view_is) c.requires.may in
    let soon = subst (λ s. s.position.at.time < s.plan.horizon) (sym c.self.view_is) c.requires.time in
    let step = tick_as b is c.tick.new.self.at c.deref.result.now now c.tick.ensures.step in
    let flies = tick_flies p b.world.accepted.cert.jitter b.flight.now (position b) c.tick.new.self.at w (soon, may.1, refl) step in
    let states = with_items_is b.states c.put_states.new.states (omega (arith, c.put_states.auto.states, c.deref_mut-2.ensures.len)) ∙ c.put_states.ensures in
    let noise_2 = c.deref-2.ensures.value ∙ noise in
    let states_3 = c.deref-3.ensures.value ∙ states in
    let entries = c.push.ensures.appended ∙ ap (λ t. b.history.entries ++ TickAt t c.deref-2.result.now c.deref-3.result.now ∷ []) c.time-time.ensures.value
    ∙ ap₂ (λ x y. b.history.entries ++ TickAt b.world.at.time x y ∷ []) noise_2 states_3 in
    let new = standing (record b {
      world = c.tick.new.self;
      history = c.push.new.self;
      noise = with_items b.noise c.disturb.new.noise;
      states = with_items b.states c.put_states.new.states;
    }) in
    subst (λ s. (entry : Logged) × Logs s new (Tick (stated_noise s.accepted.program s.plan s.position.at.time)) entry) c.self.view_is (
      TickAt b.world.at.time (joined w) (joined c.tick.new.self.at.points),
      logs b is (TickAt b.world.at.time (joined w) (joined c.tick.new.self.at.points)) _ flies c.tick.new.self.accepted c.push.new.self.entries
          c.tick.ensures.accepted entries,
    )
