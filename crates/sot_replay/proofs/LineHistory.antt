-- The flight of the running example is flown, and how it goes on where it stands.
use Rattle.std.proofs.Common.{◌≡◌, ℕ, pos, true, false, refl, sym, ap, subst, Some, None, List, [], ◌∷◌, arith}
use Rattle.std.specs.Prelude.{slice_index_or}
use Rattle.std.proofs.lemmas.Option.{none-some, same_Some}
use Rattle.std.specs.Global.{Global}
use Rattle.sot_lists.specs.Places.{At}
use Rattle.sot_lists.proofs.ShortLists.{at_one, at_two}
use Rattle.sot_lang.specs.Line.{line, fast, slow, nav}
use Rattle.sot_world.specs.declared.mode.Mode.TheVariants.{Ac}
use Rattle.sot_world.specs.Configurations.{Configuration, is_left, is_left_dm}
use Rattle.sot_world.specs.Steps.{Code, Guest, Decide, Tick, Step}
use Rattle.sot_world.specs.Outcomes.{NodeFired, ModuleDecided, PlantsTicked}
use Rattle.sot_world.specs.Calendar.{NothingLeft}
use Rattle.sot_world.specs.HistoryEntry.{Logged}
use Rattle.sot_world.specs.Examples.{at_opening, decided, drafted, settled, ticked}
use Rattle.sot_world.proofs.LineSteps as line_step
use Rattle.sot_flight.specs.Plans.{Coded, Script, Guest as ByGuest}
use Rattle.sot_flight.specs.Stated.{draft_of}
use Rattle.sot_board.specs.Flown.{Flies, IsStated, IsStatedDraft, FlownBy, fired_of}
use Rattle.sot_replay.specs.GoesOn.{AreHandedOver}
use Rattle.sot_replay.specs.LineExamples.{line_flight, decision, publication, idling, move, standing, LineTrace}

-- no guest fires in this flight
pub none_handed : (entries : List Logged) → AreHandedOver line_flight entries
none_handed entries i time node index draft enabled at crew =
    absurd (at_two (λ n c. c ≡ ByGuest index → ⊥) (Script ((Some (pos 2) ∷ []) ∷ [])) Coded (λ e. absurd cc) (λ e. absurd cc) node (ByGuest index) crew refl)

module _ (g : Global) where
  pub flies_decision : Flies (line g) 0 line_flight (standing at_opening (0 ∷ 0 ∷ [])) decision (standing decided (0 ∷ 0 ∷ []))
  flies_decision =
      record {
        event = Decide 0;
        stated = tt;
        step = line_step.decides g;
        recorded = ModuleDecided Ac;
        records = refl;
        tells = (Ac, refl, refl);
        inputs = refl;
        fired = refl;
      }

  pub flies_draft : Flies (line g) 0 line_flight (standing decided (0 ∷ 0 ∷ [])) publication (standing drafted (1 ∷ 0 ∷ []))
  flies_draft =
      record {
        event = Guest 0 (Some (pos 2) ∷ []);
        stated = (fast g, _, refl, refl, refl);
        step = line_step.takes_2 g;
        recorded = NodeFired (Some (pos 2) ∷ []) true;
        records = refl;
        tells = (Some (pos 2) ∷ [], true, refl, refl);
        inputs = refl;
        fired = refl;
      }

  pub flies_idle : Flies (line g) 0 line_flight (standing drafted (1 ∷ 0 ∷ [])) idling (standing settled (1 ∷ 1 ∷ []))
  flies_idle =
      record {
        event = Code 1;
        stated = tt;
        step = line_step.idle g;
        recorded = NodeFired (Some (pos 0) ∷ []) false;
        records = line_step.idle_recorded g;
        tells = (Some (pos 0) ∷ [], false, refl, refl);
        inputs = refl;
        fired = refl;
      }

  pub flies_tick : Flies (line g) 0 line_flight (standing settled (1 ∷ 1 ∷ [])) move (standing ticked (1 ∷ 1 ∷ []))
  flies_tick =
      record {
        event = Tick ((pos 1 ∷ []) ∷ []);
        stated = (omega arith, (λ i x at. absurd (none-some x at)), refl);
        step = line_step.ticks g;
        recorded = PlantsTicked;
        records = refl;
        tells = refl;
        inputs = refl;
        fired = refl;
      }

  -- of which events these tell
  pub decision_event : flies_decision.event ≡ Decide 0
  unfolding flies_decision
  decision_event = refl

  pub draft_event : flies_draft.event ≡ Guest 0 (Some (pos 2) ∷ [])
  unfolding flies_draft
  draft_event = refl

  pub idle_event : flies_idle.event ≡ Code 1
  unfolding flies_idle
  idle_event = refl

  pub tick_event : flies_tick.event ≡ Tick ((pos 1 ∷ []) ∷ [])
  unfolding flies_tick
  tick_event = refl

  -- nothing is left
  pub nothing : (C : Configuration) → C.left ≡ false ∷ false ∷ [] → C.left_dm ≡ false ∷ [] → NothingLeft (line g) C
  nothing C l m = record {
    nodes = at_two (λ n node. is_left C n ≡ false) (fast g) (slow g) (ap (λ x. slice_index_or x 0 false) l) (ap (λ x. slice_index_or x 1 false) l);
    modules = at_one (λ k a. is_left_dm C k ≡ false) (nav g) (ap (λ x. slice_index_or x 0 false) m);
  }

  pub flown : FlownBy (line g) 0 line_flight (decision ∷ publication ∷ idling ∷ move ∷ [])
  flown = (
    standing ticked (1 ∷ 1 ∷ []),
    (
      standing at_opening (0 ∷ 0 ∷ []),
      record { opening = line_step.opens g; inputs = refl; fired = refl },
      (_, flies_decision, (_, flies_draft, (_, flies_idle, (_, flies_tick, refl)))),
    ),
    record { time = refl; inputs = refl; nothing = nothing ticked refl refl },
  )

  pub line_trace : LineTrace g
  line_trace = ((flown, none_handed (decision ∷ publication ∷ idling ∷ move ∷ [])), refl)

  -- the only event of each kind
  pub only_decision : (C D : Configuration) (m : ℕ) → Step (line g) 0 C (Decide m) D → Decide m ≡ Decide 0
  only_decision C D m step = at_one (λ k a. Decide k ≡ Decide 0) (nav g) refl m step.module_info step.is

  pub only_code : (C D : Configuration) (n : ℕ) → Step (line g) 0 C (Code n) D → n ≡ 1
  only_code C D n step =
      at_two (λ k node. (v : _) → node.body ≡ Some v → k ≡ 1) (fast g) (slow g) (λ v e. absurd (none-some v e)) (λ v e. refl) n step.node step.is step.coded.0
      step.coded.1

  pub only_guest : (C D : Configuration) (n : ℕ) (d : _) → Step (line g) 0 C (Guest n d) D → n ≡ 0
  only_guest C D n d step =
      at_two (λ k node. node.body ≡ None → k ≡ 0) (fast g) (slow g) (λ e. refl) (λ e. absurd (none-some _ (sym e))) n step.node step.is step.external

  pub only_draft : (C D : Configuration) (fired : List ℕ) (n : ℕ) (d : _) → IsStated (line g) line_flight (standing C fired) (Guest n d)
      → Step (line g) 0 C (Guest n d) D → Guest n d ≡ Guest 0 (Some (pos 2) ∷ [])
  only_draft C D fired n d (node, crew, at_node, at_crew, stated) step =
      let first = only_guest C D n d step in
      let script = same_Some (Script ((Some (pos 2) ∷ []) ∷ [])) crew (subst (λ i. At line_flight.crews i crew) first at_crew) in
      let two : d ≡ Some (pos 2) ∷ [] = subst (λ c. IsStatedDraft (draft_of (line g) node c (fired_of (standing C fired) n)) d) (sym script) stated in
      cc
