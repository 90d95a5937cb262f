-- A flight of the relay, which is flown so, and not without its input.
use Rattle.std.proofs.Common.{◌≡◌, ℤ, pos, true, false, Bool, refl, sym, ap, ◌∙◌, List, [], ◌∷◌, Some, Option, arith, ◌↔◌}
use Rattle.std.proofs.lemmas.Option.{none-some}
use Rattle.std.specs.Global.{Global}
use Rattle.sot_lists.proofs.ShortLists.{at_one}
use Rattle.sot_lang.specs.Bodies.{execution}
use Rattle.sot_calendar.specs.Due.{IsDue}
use Rattle.sot_world.specs.Configurations.{Configuration, is_left, IsOpening}
use Rattle.sot_world.specs.Steps.{Event, Input, Code, Guest, Decide, Tick}
use Rattle.sot_world.specs.Outcomes.{Recorded, InputTaken, NodeFired}
use Rattle.sot_world.specs.HistoryEntry.{FireAt}
use Rattle.sot_world.specs.Examples.{relay, relaying, copy, copy_acts}
use Rattle.sot_world.proofs.RelaySteps.{input_5, copy_5}
use Rattle.sot_board.specs.Flown.{Position, Tells, inputs_after, FlownBy}
use Rattle.sot_board.specs.Examples.{relay_flight, relay_history}

module _ (g : Global) where
  opens : IsOpening (relay g) [] (relaying (pos 0) (pos 0))
  opens = record {
    time = refl;
    left =
        at_one (λ n node. (is_left (relaying (pos 0) (pos 0)) n ≡ true) ↔ IsDue node.period node.offset 0) (copy g) ((λ e. (omega arith, refl)), (λ d. refl));
    left_dm = λ m a at. absurd (none-some a at);
    modes = refl;
    scalars = refl;
    locals = refl;
    points = refl;
    sizes = record { left = refl; left_dm = refl; modes = refl; scalars = refl; locals = refl; points = refl };
    widths = λ k plant at. absurd (none-some plant at);
  }

  at_start : Position
  at_start = record { at = relaying (pos 0) (pos 0); inputs = relay_flight.inputs; fired = 0 ∷ [] }

  copied : Configuration
  copied = record (relaying (pos 5) (pos 5)) { left = false ∷ [] }

  pub flown : FlownBy (relay g) 0 relay_flight relay_history
  unfolding at_start copied execution
  flown = (
    record { at = copied; inputs = []; fired = 1 ∷ [] },
    (
      at_start,
      record { opening = opens; inputs = refl; fired = refl },
      (
        record { at = relaying (pos 5) (pos 0); inputs = []; fired = 0 ∷ [] },
        record {
          event = Input 0 (pos 5 ∷ []);
          stated = ([], refl);
          step = input_5 g;
          recorded = InputTaken;
          records = refl;
          tells = refl;
          inputs = refl;
          fired = refl;
        },
        (
          record { at = copied; inputs = []; fired = 1 ∷ [] },
          record {
            event = Code 0;
            stated = tt;
            step = copy_5 g;
            recorded = NodeFired (Some (pos 5) ∷ []) true;
            records =
                record {
                  node = copy g;
                  is = refl;
                  acts = copy_acts g;
                  coded = (_, refl, refl);
                  fired = record { locals = []; draft = Some (pos 5) ∷ [] };
                  runs = refl;
                  recorded = refl;
                };
            tells = (Some (pos 5) ∷ [], true, refl, refl);
            inputs = refl;
            fired = refl;
          },
          refl,
        ),
      ),
    ),
    record {
      time = refl;
      inputs = refl;
      nothing = record {
        nodes = at_one (λ n node. is_left copied n ≡ false) (copy g) refl;
        modules = λ m a at. absurd (none-some a at);
      };
    },
  )

  -- a firing leaves the inputs that are still to come
  inputs_stay : (P Q : Position) (e : Event) (r : Recorded) (slots : List (Option ℤ)) (enabled : Bool) → Tells P.at e r Q.at (FireAt 0 0 slots enabled)
      → inputs_after e P.inputs ≡ P.inputs
  inputs_stay P Q (Input topic value) r slots enabled told = cc
  inputs_stay P Q (Code n) r slots enabled told = refl
  inputs_stay P Q (Guest n draft) r slots enabled told = refl
  inputs_stay P Q (Decide m) r slots enabled told = refl
  inputs_stay P Q (Tick noise) r slots enabled told = refl

  pub not_without : (slots : List (Option ℤ)) (enabled : Bool) → FlownBy (relay g) 0 relay_flight (FireAt 0 0 slots enabled ∷ []) → ⊥
  not_without slots enabled (Q, (P, start, (R, flies, last)), ended) =
      let stay = inputs_stay P R flies.event flies.recorded slots enabled flies.tells in
      let all : relay_flight.inputs ≡ [] = sym start.inputs ∙ sym stay ∙ sym flies.inputs ∙ ap (λ S. S.inputs) last ∙ ended.inputs in
      cc
