-- The events of a board's calls, as a flight goes on by them.
use Rattle.std.proofs.Common.{◌≡◌, ℕ, suc, ℤ, Option, List, ◌∷◌, refl, sym, ap, subst}
use Rattle.std.specs.Prelude.{slice_set}
use Rattle.sot_lang.specs.Tables.{Tables}
use Rattle.sot_lang.specs.Ticks.{joined}
use Rattle.sot_tube.specs.Admitted.{Admitted}
use Rattle.sot_world.specs.Configurations.{Configuration, mode_of}
use Rattle.sot_world.specs.declared.mode.Mode.{Mode}
use Rattle.sot_world.specs.Steps.{Input, Code, Guest, Decide, Tick, Inputs, CodeFires, GuestFires, Decides, Ticks, is_enabled}
use Rattle.sot_world.specs.HistoryEntry.{Logged, InputAt, FireAt, DecideAt, TickAt}
use Rattle.sot_world.specs.Outcomes.{Recorded, InputTaken, NodeFired, ModuleDecided, PlantsTicked, RecordsCode}
use Rattle.sot_world.specs.declared.outcome.Firing.{Firing}
use Rattle.sot_world.specs.StepOutcomes.{IsFiring}
use Rattle.sot_flight.specs.Plans.{StatedInput, Plan}
use Rattle.sot_board.specs.Flown.{Position, fired_of, IsStated, Flies, inputs_after}
use Rattle.sot_board.specs.Standing.{HasStanding}

module _ (p : Tables) (j : ℕ) (f : Plan) (P : Position) (D : Configuration) where
  abbrev pub input_flies : (topic : ℕ) (value : List ℤ) (rest : List StatedInput) → P.inputs ≡ record { at = P.at.time; topic = topic; value = value } ∷ rest
      → Inputs p topic value P.at D → Flies p j f P (InputAt P.at.time topic value) (record { at = D; inputs = rest; fired = P.fired })
  input_flies topic value rest is step = record {
    event = Input topic value;
    stated = (rest, is);
    step = step;
    recorded = InputTaken;
    records = refl;
    tells = refl;
    inputs = sym (ap (inputs_after (Input topic value)) is);
    fired = refl;
  }

  abbrev pub decide_flies : (m : ℕ) (mode : Mode) → Decides p j m P.at D → mode ≡ mode_of D m
      → Flies p j f P (DecideAt P.at.time m mode) (record { at = D; inputs = P.inputs; fired = P.fired })
  decide_flies m mode step is = record {
    event = Decide m;
    stated = tt;
    step = step;
    recorded = ModuleDecided (mode_of D m);
    records = refl;
    tells = (mode_of D m, refl, ap (DecideAt P.at.time m) is);
    inputs = refl;
    fired = refl;
  }

  -- a coded node fires
  abbrev pub code_flies : (n : ℕ) (firing : Firing) (fired : List ℕ) → fired ≡ slice_set P.fired n (suc (fired_of P n)) → CodeFires p n P.at D
      → (r : Recorded) × RecordsCode p n P.at r × IsFiring firing r
      → Flies p j f P (FireAt P.at.time n firing.draft firing.enabled) (record { at = D; inputs = P.inputs; fired = fired })
  code_flies n firing fired counted step (r, records, (draft, recorded, slots)) = record {
    event = Code n;
    stated = tt;
    step = step;
    recorded = r;
    records = records;
    tells = (draft, firing.enabled, recorded, ap (λ d. FireAt P.at.time n d firing.enabled) slots);
    inputs = refl;
    fired = counted;
  }

  -- an external node fires with a draft
  abbrev pub guest_flies : (n : ℕ) (draft : List (Option ℤ)) (firing : Firing) (fired : List ℕ) → fired ≡ slice_set P.fired n (suc (fired_of P n))
      → IsStated p f P (Guest n draft) → GuestFires p n draft P.at D
      → IsFiring firing (NodeFired draft (is_enabled p P.at n))
      → Flies p j f P (FireAt P.at.time n firing.draft firing.enabled) (record { at = D; inputs = P.inputs; fired = fired })
  guest_flies n draft firing fired counted stated step (own, recorded, slots) = record {
    event = Guest n draft;
    stated = stated;
    step = step;
    recorded = NodeFired draft (is_enabled p P.at n);
    records = refl;
    tells = (own, firing.enabled, recorded, ap (λ d. FireAt P.at.time n d firing.enabled) slots);
    inputs = refl;
    fired = counted;
  }

  abbrev pub tick_flies : (noise : List (List ℤ)) → IsStated p f P (Tick noise) → Ticks p j noise P.at D
      → Flies p j f P (TickAt P.at.time (joined noise) (joined D.points)) (record { at = D; inputs = P.inputs; fired = P.fired })
  tick_flies noise stated step = record {
    event = Tick noise;
    stated = stated;
    step = step;
    recorded = PlantsTicked;
    records = refl;
    tells = refl;
    inputs = refl;
    fired = refl;
  }

-- a board that stands in the same place
pub stands_along :
    (a b : Admitted) (f : Plan) (es fs : List Logged) (P Q : Position) (versions : List ℕ) (entries_left numbers_left : ℕ) → b ≡ a → fs ≡ es → Q ≡ P
    → HasStanding (record { accepted = a; plan = f; entries = es; position = P }) versions entries_left numbers_left
    → HasStanding (record { accepted = b; plan = f; entries = fs; position = Q }) versions entries_left numbers_left
stands_along a b f es fs P Q versions entries_left numbers_left same_a same_es same_P has =
    subst (λ x. HasStanding (record { accepted = x; plan = f; entries = fs; position = Q }) versions entries_left numbers_left) (sym same_a)
    (subst (λ x. HasStanding (record { accepted = a; plan = f; entries = x; position = Q }) versions entries_left numbers_left) (sym same_es)
    (subst (λ x. HasStanding (record { accepted = a; plan = f; entries = es; position = x }) versions entries_left numbers_left) (sym same_P) has))
