-- A history of a flight is one of tables that look the same.
use Rattle.std.proofs.Common.{◌≡◌, ◌↔◌, ℕ, List, [], ◌∷◌, map, length, true, refl, sym, ap, ◌∙◌, subst}
use Rattle.sot_lang.specs.declared.tables.LocalInfo.{LocalInfo}
use Rattle.sot_lang.specs.declared.tables.ScalarInfo.{ScalarInfo}
use Rattle.sot_lang.specs.declared.tables.ModuleInfo.{ModuleInfo}
use Rattle.sot_lang.specs.Tables.{Tables}
use Rattle.sot_calendar.specs.Due.{IsDue}
use Rattle.sot_world.specs.declared.mode.Mode.TheVariants.{Sc}
use Rattle.sot_world.specs.Configurations.{Configuration, is_left, point_of, IsOpening}
use Rattle.sot_world.specs.Steps.{Event, Input, Code, Guest, Decide, Tick}
use Rattle.sot_world.specs.HistoryEntry.{Logged, InputAt, FireAt, DecideAt, TickAt}
use Rattle.sot_flight.specs.Plans.{Plan}
use Rattle.sot_board.specs.Flown.{Position, fired_of, IsStatedDraft, IsStated, Flies, Leads, IsStart, IsEnd}
use Rattle.sot_ordered_board.specs.Order.{HaveDecided, HasTurn, IsNext, LeadsInOrder}
use Rattle.sot_typing.specs.Resolved.{PlantTable, NodeTable, node_seen, tables_seen}
use Rattle.sot_law_equal_tables.proofs.Seen.{scalars_same, modules_same, plants_seen_same, nodes_seen_same, module_back, plant_back, node_back}
use Rattle.sot_law_equal_flights.specs.Laws.{HistoriesAlikeSoFar, HistoriesAlike, OrdersAlike}
use Rattle.sot_law_equal_flights.proofs.Parts.{node_count, sized_same}
use Rattle.sot_law_equal_flights.proofs.Stated.{noises_same, draft_same}
use Rattle.sot_law_equal_flights.proofs.Steps.{node_there, step_same, records_same}

-- what is read of each item as it looks
read_seen : {A B C : Type 0} (seen : A → B) (part : B → C) (xs : List A) → map (λ x. part (seen x)) xs ≡ map part (map seen xs)
read_seen seen part [] = refl
read_seen seen part (x ∷ xs) = ap (λ l. part (seen x) ∷ l) (read_seen seen part xs)

module _ (t u : Tables) (same : tables_seen t ≡ tables_seen u) where
  -- a list that is read of each node as it looks
  of_nodes : {C : Type 0} (part : NodeTable → C) → map (λ x. part (node_seen x)) t.nodes ≡ map (λ x. part (node_seen x)) u.nodes
  of_nodes part = read_seen node_seen part t.nodes ∙ ap (map part) (nodes_seen_same t u same) ∙ sym (read_seen node_seen part u.nodes)

  opening_same : (start : List (List _)) (C : Configuration) → IsOpening t start C → IsOpening u start C
  opening_same start C opening = record {
    time = opening.time;
    left = λ n y at.
        let x = node_back t u same n y at in
        subst (λ (p : NodeTable). (is_left C n ≡ true) ↔ IsDue p.period p.offset 0) x.2 (opening.left n x.0 x.1);
    left_dm = λ m a at. opening.left_dm m a (module_back t u same m a at);
    modes = opening.modes ∙ ap (map (λ (m : ModuleInfo). Sc)) (modules_same t u same);
    scalars = opening.scalars ∙ ap (map (λ (i : ScalarInfo). i.init)) (scalars_same t u same);
    locals = opening.locals ∙ of_nodes (λ (n : NodeTable). map (λ (l : LocalInfo). l.init) n.locals);
    points = opening.points;
    sizes = sized_same t u same C opening.sizes;
    widths = λ k y at.
        let x = plant_back t u same k y at in
        subst (λ (p : PlantTable). length (point_of C k) ≡ length p.states) x.2 (opening.widths k x.0 x.1);
  }

  start_same : (f : Plan) (P : Position) → IsStart t f P → IsStart u f P
  start_same f P start = record {
    opening = opening_same f.start P.at start.opening;
    inputs = start.inputs;
    fired = start.fired ∙ of_nodes (λ (n : NodeTable). 0);
  }

  end_same : (f : Plan) (Q : Position) → IsEnd t f Q → IsEnd u f Q
  end_same f Q end = record {
    time = end.time;
    inputs = end.inputs;
    nothing = record {
      nodes = λ n y at. (let x = node_back t u same n y at in end.nothing.nodes n x.0 x.1);
      modules = λ m a at. end.nothing.modules m a (module_back t u same m a at);
    };
  }

  module _ (jitter : ℕ) (f : Plan) where
    stated_same : (P : Position) (e : Event) → IsStated t f P e → IsStated u f P e
    stated_same P (Input topic value) stated = stated
    stated_same P (Code n) stated = stated
    stated_same P (Guest n draft) (node, crew, at, flown, stated) =
        let x = node_there t u same jitter P.at n node at in
        (x.0, crew, x.1, flown, subst (λ o. IsStatedDraft o draft) (draft_same t u same node x.0 (sym x.2) crew (fired_of P n)) stated)
    stated_same P (Decide m) stated = stated
    stated_same P (Tick noise) (before, none, is) = (before, none, is ∙ noises_same t.plants u.plants (plants_seen_same t u same) f.sways P.at.time)

    flies_same : (P : Position) (entry : Logged) (Q : Position) → Flies t jitter f P entry Q → Flies u jitter f P entry Q
    flies_same P entry Q flies = record {
      event = flies.event;
      stated = stated_same P flies.event flies.stated;
      step = step_same t u same jitter P.at flies.event Q.at flies.step;
      recorded = flies.recorded;
      records = records_same t u same jitter P.at flies.event Q.at flies.recorded flies.records;
      tells = flies.tells;
      inputs = flies.inputs;
      fired = flies.fired;
    }

    leads_same : (P : Position) (entries : List Logged) (Q : Position) → Leads t jitter f P entries Q → Leads u jitter f P entries Q
    leads_same P [] Q leads = leads
    leads_same P (entry ∷ entries) Q (R, flies, leads) = (R, flies_same P entry R flies, leads_same R entries Q leads)

    turn_same : (P : Position) (n : ℕ) → HasTurn t f P n → HasTurn u f P n
    turn_same P n turn = record {
      inputs = turn.inputs;
      decided = subst (HaveDecided P) (ap length (modules_same t u same)) turn.decided;
      fired = turn.fired;
    }

    next_same : (P : Position) (entry : Logged) → IsNext t f P entry → IsNext u f P entry
    next_same P (InputAt time topic value) next = next
    next_same P (DecideAt time m mode) next = next
    next_same P (FireAt time n draft enabled) next = λ own. turn_same P n (next own)
    next_same P (TickAt time noise states) next = subst (HasTurn u f P) (node_count t u same) (turn_same P (length t.nodes) next)

    ordered_same : (P : Position) (entries : List Logged) (Q : Position) → LeadsInOrder t jitter f P entries Q → LeadsInOrder u jitter f P entries Q
    ordered_same P [] Q leads = leads
    ordered_same P (entry ∷ entries) Q (next, (R, flies, leads)) =
        (next_same P entry next, (R, flies_same P entry R flies, ordered_same R entries Q leads))

pub so_far : HistoriesAlikeSoFar
so_far t u jitter f entries Q same (P, start, leads) = (P, start_same t u same f P start, leads_same t u same jitter f P entries Q leads)

pub whole : HistoriesAlike
whole t u jitter f entries same (Q, flown, end) = (Q, so_far t u jitter f entries Q same flown, end_same t u same f Q end)

pub ordered : OrdersAlike
ordered t u jitter f entries same (Q, (P, start, leads), end) =
    (Q, (P, start_same t u same f P start, ordered_same t u same jitter f P entries Q leads), end_same t u same f Q end)
