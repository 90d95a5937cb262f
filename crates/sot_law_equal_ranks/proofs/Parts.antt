-- The parts of a module's recovery look the same in tables that do, and its cells land in the same boxes.
use Rattle.std.proofs.Common.{◌≡◌, ℕ, ◌+◌, ◌≤◌, List, Some, sym, ap, ◌∙◌, subst}
use Rattle.std.proofs.lemmas.Option.{same_Some}
use Rattle.sot_lists.specs.Places.{At}
use Rattle.sot_lists.proofs.Places.{at_same}
use Rattle.sot_box.specs.Sides.{Side}
use Rattle.sot_lang.specs.declared.act.Act.{Act}
use Rattle.sot_lang.specs.declared.cert.Cells.{Cells}
use Rattle.sot_lang.specs.declared.cert.Cert.{Cert}
use Rattle.sot_lang.specs.declared.tables.NodeInfo.{NodeInfo}
use Rattle.sot_lang.specs.declared.tables.ModuleInfo.{ModuleInfo}
use Rattle.sot_lang.specs.Tables.{Tables}
use Rattle.sot_lang.specs.TableRules.{IsCoded}
use Rattle.sot_lang.specs.SafeRegions.{AreHulls, joined_boxes}
use Rattle.sot_iv.specs.declared.drafted.Drafted.{Drafted}
use Rattle.sot_iv.specs.BodyIntervals.{Intervals}
use Rattle.sot_tube.specs.Tubes.{TubeInside}
use Rattle.sot_tube.specs.Certified.{HasCells, DraftsFrom, command_intervals}
use Rattle.sot_typing.specs.Formulas.{deeds_view}
use Rattle.sot_typing.specs.Resolved.{plant_seen, node_seen}
use Rattle.sot_law_runs.specs.TubeBoxes.{IsBoxAfter}
use Rattle.sot_law_equal_tables.specs.UnplacedTables.{unplaced_deeds, unplaced_plant_table, unplaced_node_table, unplaced_tables}
use Rattle.sot_law_equal_tables.proofs.Seen.{modules_same, plant_back, node_back}
use Rattle.sot_law_equal_tables.proofs.Nodes.{coded_alike}
use Rattle.sot_law_equal_tables.proofs.Plants.{along, tube_alike}
use Rattle.sot_law_equal_tables.proofs.PlacelessCells as placeless
use Rattle.sot_law_runs.specs.Holds.{Guarded}
use Rattle.sot_law_runs.specs.Ranks.{StaysSafer, IsLanding}
use Rattle.sot_law_equal_ranks.specs.Laws.{LookTheSame}
use Rattle.sot_law_equal_ranks.proofs.Tubes.{box_after_alike}

-- tables that look the same, seen from the other side
pub turned : (t u : Tables) (c d : Cert) → LookTheSame t u c d → LookTheSame u t d c
turned t u c d s = record { tables = sym s.tables; jitter = sym s.jitter; cells = sym s.cells }

-- two accounts of one module, by tables that look the same
pub record Alike {t u : Tables} {c d : Cert} {m : ℕ} (g : Guarded t c m) (h : Guarded u d m) : Type 0 where
  pub info : g.info ≡ h.info
  pub plant : plant_seen g.plant ≡ plant_seen h.plant
  pub sc : node_seen g.sc ≡ node_seen h.sc
  pub acts : deeds_view g.acts ≡ deeds_view h.acts
  pub cells : g.cells ≡ h.cells

pub back : {t u : Tables} {c d : Cert} {m : ℕ} (g : Guarded t c m) (h : Guarded u d m) → Alike g h → Alike h g
back g h a = record { info = sym a.info; plant = sym a.plant; sc = sym a.sc; acts = sym a.acts; cells = sym a.cells }

-- a coded node has one body
one_body : (n : NodeInfo) (us acts : List Act) → IsCoded n us → IsCoded n acts → us ≡ acts
one_body n us acts a b = sym a.2 ∙ ap (λ v. v.items) (same_Some a.0 b.0 (sym a.1 ∙ b.1)) ∙ b.2

-- a certificate has one entry for a module
one_entry : (c : Cert) (m : ℕ) (x y : Cells) → HasCells c m x → HasCells c m y → x ≡ y
one_entry c m x y a b = same_Some x y (same_Some (Some x) (Some y) (sym a ∙ b))

pub alike : (t u : Tables) (c d : Cert) (m : ℕ) (g : Guarded t c m) (h : Guarded u d m) → LookTheSame t u c d → Alike g h
alike t u c d m g h s =
    let there = subst (λ (ms : List ModuleInfo). At ms m g.info) (modules_same t u s.tables) g.info_is in
    let info : g.info ≡ h.info = at_same u.modules m g.info h.info there h.info_is in
    let x = plant_back t u s.tables h.info.plant h.plant h.plant_is in
    let plant : g.plant ≡ x.0 = at_same t.plants h.info.plant g.plant x.0 (subst (λ a. At t.plants a.plant g.plant) info g.plant_is) x.1 in
    let v = node_back t u s.tables h.info.sc h.sc h.sc_is in
    let sc : g.sc ≡ v.0 = at_same t.nodes h.info.sc g.sc v.0 (subst (λ a. At t.nodes a.sc g.sc) info g.sc_is) v.1 in
    let nodes : node_seen g.sc ≡ node_seen h.sc = ap node_seen sc ∙ v.2 in
    let us = coded_alike g.sc h.sc h.acts nodes h.coded in
    record {
      info = info;
      plant = ap plant_seen plant ∙ x.2;
      sc = nodes;
      acts = ap deeds_view (one_body g.sc g.acts us.0 g.coded us.1) ∙ us.2;
      cells = one_entry d m g.cells h.cells (subst (λ es. At es m (Some g.cells)) s.cells g.cells_are) h.cells_are;
    }

module _ {t u : Tables} {c d : Cert} {m : ℕ} (g : Guarded t c m) (h : Guarded u d m) (s : LookTheSame t u c d) (a : Alike g h) (cell : List Side) where
  drafts_alike : (fired : Intervals) → DraftsFrom t g.info g.sc g.acts cell fired → DraftsFrom u h.info h.sc h.acts cell fired
  drafts_alike fired drafts =
      subst (λ (i : ModuleInfo). DraftsFrom u i h.sc h.acts cell fired) a.info
      (placeless.drafts_alike t u (ap unplaced_tables s.tables) g.plant h.plant (ap unplaced_plant_table a.plant) g.info c.jitter cell
      g.sc h.sc (ap unplaced_node_table a.sc) g.acts h.acts (ap unplaced_deeds a.acts) fired drafts)

  commands_alike : (draft : List Drafted) → command_intervals t g.plant g.sc draft ≡ command_intervals u h.plant h.sc draft
  commands_alike draft =
      placeless.commands_alike t u (ap unplaced_tables s.tables) g.plant h.plant (ap unplaced_plant_table a.plant) g.info c.jitter cell
      g.sc h.sc (ap unplaced_node_table a.sc) g.acts h.acts (ap unplaced_deeds a.acts) draft

  pub landing_alike : (box : List Side) → IsLanding g cell box → IsLanding h cell box
  landing_alike box l = record {
    fired = l.fired;
    drafts = drafts_alike l.fired l.drafts;
    hulls = l.hulls;
    are = along (λ i. AreHulls (modules_same t u s.tables i) (a.plant i).sees l.hulls) l.are;
    tick = l.tick;
    least = along (λ i. (a.sc i).period ≤ l.tick + s.jitter i) l.least;
    most = along (λ i. l.tick ≤ (a.sc i).period + s.jitter i) l.most;
    is =
        along (λ i. IsBoxAfter h.plant (commands_alike l.fired.draft i) (joined_boxes l.hulls) cell l.tick box)
        (along (box_after_alike g.plant h.plant a.plant (command_intervals t g.plant g.sc l.fired.draft) (joined_boxes l.hulls) cell l.tick box) l.is);
  }

  pub stays_alike : StaysSafer g cell → StaysSafer h cell
  stays_alike x =
      let held = command_intervals t g.plant g.sc x.fired.draft in
      let there = tube_alike t u s.tables g.plant h.plant a.plant held g.info.safer.boxes cell (g.sc.period + c.jitter) x.stays in
      record {
        fired = x.fired;
        drafts = drafts_alike x.fired x.drafts;
        stays = along (λ i. TubeInside u h.plant (commands_alike x.fired.draft i) (a.info i).safer.boxes cell ((a.sc i).period + s.jitter i)) there;
      }
