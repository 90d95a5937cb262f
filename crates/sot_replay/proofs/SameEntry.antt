-- Of one event one entry tells.
use Rattle.std.proofs.Common.{◌≡◌, ◌∙◌, ℕ, ℤ, Bool, List, Option, sym, ap, ap₂, subst}
use Rattle.sot_lang.specs.Tables.{Tables}
use Rattle.sot_lang.specs.Ticks.{joined}
use Rattle.sot_code.specs.Recorded.{in_slots}
use Rattle.sot_world.specs.declared.mode.Mode.{Mode}
use Rattle.sot_world.specs.Configurations.{Configuration}
use Rattle.sot_world.specs.Steps.{Event, Input, Code, Guest, Decide, Tick, Step}
use Rattle.sot_world.specs.Outcomes.{Recorded, NodeFired, ModuleDecided, Records}
use Rattle.sot_world.specs.HistoryEntry.{Logged, FireAt, DecideAt, TickAt}
use Rattle.sot_world.proofs.Unique.{steps_are_unique}
use Rattle.sot_flight.specs.Plans.{Plan}
use Rattle.sot_board.specs.Flown.{Position, Tells, Flies}

fired_same : (t n : ℕ) (d d' : List (Option ℤ)) (on on' : Bool) (r r' : Recorded) → r ≡ r' → r ≡ NodeFired d on → r' ≡ NodeFired d' on'
    → FireAt t n (in_slots d) on ≡ FireAt t n (in_slots d') on'
fired_same t n d d' on on' r r' same was was' =
    let both : NodeFired d on ≡ NodeFired d' on' = sym was ∙ same ∙ was' in
    let draft : d ≡ d' = cc in
    let enabled : on ≡ on' = cc in
    ap₂ (λ x y. FireAt t n (in_slots x) y) draft enabled

decided_same : (t m : ℕ) (mode mode' : Mode) (r r' : Recorded) → r ≡ r' → r ≡ ModuleDecided mode → r' ≡ ModuleDecided mode'
    → DecideAt t m mode ≡ DecideAt t m mode'
decided_same t m mode mode' r r' same was was' =
    let both : ModuleDecided mode ≡ ModuleDecided mode' = sym was ∙ same ∙ was' in
    cc

told_same :
    (C : Configuration) (ev : Event) (r r' : Recorded) (D D' : Configuration) (e e' : Logged) → r ≡ r' → D ≡ D' → Tells C ev r D e → Tells C ev r' D' e'
    → e ≡ e'
told_same C (Input topic value) r r' D D' e e' same_r same_D a b = a ∙ sym b
told_same C (Code n) r r' D D' e e' same_r same_D (d, on, was, is) (d', on', was', is') = is ∙ fired_same C.time n d d' on on' r r' same_r was was' ∙ sym is'
told_same C (Guest n given) r r' D D' e e' same_r same_D (d, on, was, is) (d', on', was', is') =
    is ∙ fired_same C.time n d d' on on' r r' same_r was was' ∙ sym is'
told_same C (Decide m) r r' D D' e e' same_r same_D (mode, was, is) (mode', was', is') = is ∙ decided_same C.time m mode mode' r r' same_r was was' ∙ sym is'
told_same C (Tick noise) r r' D D' e e' same_r same_D a b = a ∙ ap (λ (x : Configuration). TickAt C.time (joined noise) (joined x.points)) same_D ∙ sym b

module _ (p : Tables) (j : ℕ) (f : Plan) (P : Position) where
  -- two entries with which a flight goes on by the same event are one entry
  pub entry_same : (e e' : Logged) (Q Q' : Position) (a : Flies p j f P e Q) (b : Flies p j f P e' Q') → a.event ≡ b.event → e ≡ e'
  entry_same e e' Q Q' a b same =
      let step = subst (λ x. Step p j P.at x Q'.at) (sym same) b.step in
      let records = subst (λ x. Records p P.at x Q'.at b.recorded) (sym same) b.records in
      let tells = subst (λ x. Tells P.at x b.recorded Q'.at e') (sym same) b.tells in
      let one = steps_are_unique p j P.at a.event Q.at Q'.at a.recorded b.recorded a.step a.records step records in
      told_same P.at a.event a.recorded b.recorded Q.at Q'.at e e' one.1 one.0 a.tells tells
