-- Worked refusals, as statements that functions without a body prove.
use Rattle.std.specs.Prelude.{pos, negsuc, true, false, List, [], ◌∷◌, Some, None}
use Rattle.std.proofs.Common.{refl}
use Rattle.std.specs.Global.{Global}
use Rattle.sot_syntax_tree.specs.declared.operator.Op.TheVariants.{Div}
use Rattle.sot_lang.specs.declared.term.Term.TheVariants.{Number, Place, Binary'}
use Rattle.sot_lang.specs.declared.act.Act.TheVariants.{Publish}
use Rattle.sot_lang.specs.declared.act.Act.{Act}
use Rattle.sot_lang.specs.declared.trap.TrapKind.TheVariants.{ZeroDivisor}
use Rattle.sot_lang.specs.declared.tables.Slot.TheVariants.{Scalar}
use Rattle.sot_lang.specs.declared.tables.NodeInfo.{NodeInfo}
use Rattle.sot_lang.specs.declared.tables.PlantInfo.{PlantInfo}
use Rattle.sot_lang.specs.declared.cert.Cert.{Cert}
use Rattle.sot_lang.specs.Tables.{Tables}
use Rattle.sot_lang.specs.Line.{line, line_cert, line_cells, cmd, cmd_number, fast, slow, nav}
use Rattle.sot_lang.specs.Line.{pos_plant, slow_acts, vec, boxed, somewhere}
use Rattle.sot_tube.specs.WellFormed.{IsWellFormed}
use Rattle.sot_tube.specs.Refusals.{Periods, Outputs, EmptyRegion, ClosedGap, ClosedTrap}
use Rattle.sot_tube.specs.Refusals.{ClosedLeaves, ReachGap, ReachLeaves, ReachTrap, SharedNode}
use Rattle.sot_tube.specs.Refusals.{SharedOutput, SharedPlant, ForeignInput, CodeMayTrap, NoCells}
use Rattle.sot_tube.specs.Composition.{NoForeignInput}
use Rattle.sot_tube.specs.Verdict.{shared_plant, foreign_input, composition, boxes, shape, code}
use Rattle.sot_tube.specs.Verdict.{closed_cover, closed_cell, reach_cover, reach_cell, verdict}
use Rattle.sot_tube.specs.Examples.{segment, at_x, nav_with, line_with, line_body, line_nodes}
use Rattle.sot_tube.specs.Examples.{cells_with, cert_with, divider}

module _ (g : Global) where
  -- a safer region and a reach cell that are one too wide on either side: the tube leaves at tick 8
  abbrev pub WideReachIsRefused : Type 0
  WideReachIsRefused =
      (verdict (line_with g (segment (negsuc 16) (pos 17) ∷ [])) 0
      (cert_with g (cells_with g (line_cells g).closed.boxes
      (segment (negsuc 16) (pos 17) ∷ [])))).Refuses
      (ReachLeaves 0 0 8 (segment (negsuc 40) (pos 41)) (at_x (negsuc 40)))

  -- the whole safe region as the one closed cell: the safe node is undecided there
  abbrev pub OneClosedCellIsRefused : Type 0
  OneClosedCellIsRefused =
      (verdict (line g) 0 (cert_with g (cells_with g (segment (negsuc 39) (pos 40) ∷ [])
      (segment (negsuc 9) (pos 10) ∷ [])))).Refuses
      (ClosedLeaves 0 0 1 (segment (negsuc 42) (pos 43)) (at_x (negsuc 42)))

  -- cells that leave a point of a region out: the middle closed cell is missing, or the reach cell
  -- ends at 9
  abbrev pub GapsAreRefused : Type 0
  GapsAreRefused =
      (closed_cover 0 (nav g) (cells_with g
      (segment (negsuc 39) (negsuc 10) ∷ segment (pos 11) (pos 40) ∷ []) [])).Refuses
      (ClosedGap 0 (at_x (negsuc 9)))
      × (reach_cover 0 (nav g) (cells_with g [] (segment (negsuc 9) (pos 9) ∷ []))).Refuses
      (ReachGap 0 (at_x (pos 10)))

  -- a node with a longer period than its module's; of two such nodes the advanced one is named
  abbrev pub slow_5 : NodeInfo
  slow_5 = record (slow g) { period = 5 }

  abbrev pub fast_5 : NodeInfo
  fast_5 = record (fast g) { period = 5 }

  abbrev pub LongPeriodsAreRefused : Type 0
  LongPeriodsAreRefused =
      (shape (line_nodes g (fast g) slow_5) (line_cert g) 0 (nav g)).Refuses (Periods 0 1)
      × (shape (line_nodes g fast_5 slow_5) (line_cert g) 0 (nav g)).Refuses (Periods 0 0)

  -- a further topic, which the advanced node alone writes, or the safe node alone
  abbrev pub fast_alt : NodeInfo
  fast_alt = record (fast g) { writes = vec g (0 ∷ 1 ∷ []) refl }

  abbrev pub slow_alt : NodeInfo
  slow_alt = record (slow g) { writes = vec g (0 ∷ 1 ∷ []) refl }

  abbrev pub two_topics : NodeInfo → NodeInfo → Tables
  two_topics ac sc = record (line g) {
    topics = cmd g ∷ record (cmd g) { first = 1 } ∷ [];
    scalars = cmd_number g ∷ record (cmd_number g) { topic = 1 } ∷ [];
    nodes = ac ∷ sc ∷ [];
  }

  abbrev pub OtherOutputsAreRefused : Type 0
  OtherOutputsAreRefused =
      (shape (two_topics fast_alt (slow g)) (line_cert g) 0 (nav g)).Refuses (Outputs 0 1)
      × (shape (two_topics (fast g) slow_alt) (line_cert g) 0 (nav g)).Refuses (Outputs 0 1)
      × (shape (two_topics fast_alt slow_5) (line_cert g) 0 (nav g)).Refuses (Periods 0 1)

  -- no box of the safer region, and no entry of the certificate, which comes first
  abbrev pub no_entry : Cert
  no_entry = record { jitter = 0; modules = vec g (None ∷ []) refl }

  abbrev pub EmptyRegionsAreRefused : Type 0
  EmptyRegionsAreRefused =
      (shape (line_with g []) (line_cert g) 0 (nav_with g [])).Refuses (EmptyRegion 0 true)
      × (shape (line_with g []) no_entry 0 (nav_with g [])).Refuses (NoCells 0)
      × (boxes 0 (record (nav_with g [])
      { safe = record { width = 1; boxes = []; settled = false } })).Refuses (EmptyRegion 0 false)

  -- two modules with the same nodes and plant: the least node and the two modules are named; then
  -- the plant, where the nodes differ
  abbrev pub twins : Tables
  twins = record (line g) { modules = nav g ∷ nav g ∷ [] }

  abbrev pub SharedNodesAreRefused : Type 0
  SharedNodesAreRefused =
      (composition twins).Refuses (SharedNode 0 0 1)
      × (shared_plant twins).Refuses (SharedPlant 0 0 1)

  -- a third node writes the module's topic: the two partners may both write it, the first of them
  -- and the third may not
  abbrev pub third_writer : Tables
  third_writer = record (line g) { nodes = fast g ∷ slow g ∷ fast g ∷ [] }

  abbrev pub SharedOutputsAreRefused : Type 0
  SharedOutputsAreRefused = (composition third_writer).Refuses (SharedOutput 0 0 2)

  -- a plant with an input that the safe node does not write
  abbrev pub two_inputs : PlantInfo
  two_inputs = record (pos_plant g) { inputs = vec g (0 ∷ 1 ∷ []) refl }

  abbrev pub foreign : Tables
  foreign = record (two_topics (fast g) (slow g)) { plants = two_inputs ∷ [] }

  abbrev pub ForeignInputsAreRefused : Type 0
  ForeignInputsAreRefused = (foreign_input foreign 0 (nav g)).Refuses (ForeignInput 0 1)

  -- a node that divides by what it reads, anywhere from 0 to 5
  abbrev pub calc_acts : List Act
  calc_acts =
      Publish 0 (Binary' Div (boxed g) (Number (pos 10)) (boxed g) (Place 0) somewhere) somewhere ∷
      []

  abbrev pub calc : NodeInfo
  calc = record (slow g) { reads = vec g (Scalar 1 ∷ []) refl; body = Some (vec g calc_acts refl) }

  abbrev pub divide : Tables
  divide = record {
    topics = cmd g ∷ record (cmd g) { first = 1 } ∷ [];
    scalars = cmd_number g ∷ record (cmd_number g) { topic = 1; lo = pos 0; hi = pos 5 } ∷ [];
    plants = [];
    nodes = calc ∷ [];
    modules = [];
  }

  abbrev pub TrapsAreRefused : Type 0
  TrapsAreRefused =
      (code divide 0 calc).Refuses (CodeMayTrap 0 somewhere ZeroDivisor (pos 0) (pos 5))

  -- the safe node of one module is the advanced node of another
  abbrev pub crossed : Tables
  crossed =
      record (line g) {
        nodes = fast g ∷ slow g ∷ slow g ∷ [];
        modules = nav g ∷ record (nav g) { ac = 1; sc = 2 } ∷ [];
      }

  abbrev pub CrossedNodesAreRefused : Type 0
  CrossedNodesAreRefused = (composition crossed).Refuses (SharedNode 1 0 1)

  -- two modules of the plant with nodes of their own, which write one topic, or a topic each:
  -- outputs come before plants, and plants before inputs
  abbrev pub rivals : NodeInfo → NodeInfo → Tables
  rivals ac sc =
      record (two_topics (fast g) (slow g)) {
        nodes = fast g ∷ slow g ∷ ac ∷ sc ∷ [];
        modules = nav g ∷ record (nav g) { ac = 2; sc = 3 } ∷ [];
      }

  abbrev pub other_fast : NodeInfo
  other_fast = record (fast g) { writes = vec g (1 ∷ []) refl }

  abbrev pub other_slow : NodeInfo
  other_slow = record (slow g) { writes = vec g (1 ∷ []) refl }

  abbrev pub RivalsAreRefusedInOrder : Type 0
  RivalsAreRefusedInOrder =
      (composition (rivals (fast g) (slow g))).Refuses (SharedOutput 0 0 2)
      × (composition (rivals other_fast other_slow)).Refuses (SharedPlant 0 0 1)

  -- a topic that the plant does not take is no foreign input
  abbrev pub OtherTopicsAreNoInputs : Type 0
  OtherTopicsAreNoInputs = NoForeignInput (two_topics (fast g) (slow g)) (nav g)

  -- modules that share a node are refused for it before any other fault; an empty region before a
  -- node that may trap, and that before a cell
  abbrev pub dividing : Act
  dividing =
      Publish 0 (Binary' Div (boxed g) (Number (pos 10)) (boxed g) (Place 0) somewhere) somewhere

  abbrev pub VerdictsAreInOrder : Type 0
  VerdictsAreInOrder =
      (verdict twins 0 no_entry).Refuses (SharedNode 0 0 1)
      × (verdict (line_body g [] (Some (vec g (dividing ∷ []) refl))) 0
      (cert_with g (cells_with g [] []))).Refuses (EmptyRegion 0 true)
      × (verdict (line_body g (segment (negsuc 9) (pos 10) ∷ [])
      (Some (vec g (dividing ∷ []) refl))) 0 (cert_with g (cells_with g [] []))).Refuses
      (CodeMayTrap 1 somewhere ZeroDivisor (negsuc 39) (pos 40))

  -- a cell from which a plant's step may trap
  abbrev pub TrapsOfCellsAreRefused : Type 0
  TrapsOfCellsAreRefused =
      (closed_cell (line g) 0 0 (nav g) (divider g) (slow g) (slow_acts g) 2
      (segment (negsuc 9) (pos 10))).Refuses (ClosedTrap 0 2 0 somewhere)
      × (reach_cell (line g) 0 0 (nav g) (divider g) 3 (segment (negsuc 9) (pos 10))).Refuses
      (ReachTrap 0 3 0 somewhere)

  -- well formed point by point asks for short periods and equal outputs too, of which safety makes
  -- no use
  abbrev pub ShapeIsWellFormed : Type 0
  ShapeIsWellFormed =
      (IsWellFormed (line_nodes g fast_5 (slow g)) 0 → ⊥)
      × (IsWellFormed (line_nodes g (fast g) slow_5) 0 → ⊥)
      × (IsWellFormed (two_topics fast_alt (slow g)) 0 → ⊥)
      × (IsWellFormed (two_topics (fast g) slow_alt) 0 → ⊥)
