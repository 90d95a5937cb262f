-- Configurations of the running example and of two small programs beside it, for the worked steps.
use Rattle.std.specs.Prelude.{ℕ, ℤ, pos, negsuc, true, false, Some, None, List, [], ◌∷◌}
use Rattle.std.proofs.Common.{refl}
use Rattle.std.specs.Global.{Global}
use Rattle.sot_syntax_tree.specs.declared.operator.Op.TheVariants.{Add, Div}
use Rattle.sot_lang.specs.declared.term.Term.TheVariants.{Number, Place, Binary'}
use Rattle.sot_lang.specs.declared.act.Act.{Act}
use Rattle.sot_lang.specs.declared.act.Act.TheVariants.{Assign, Publish}
use Rattle.sot_lang.specs.declared.tables.Slot.TheVariants.{Scalar}
use Rattle.sot_lang.specs.declared.tables.TopicInfo.{TopicInfo}
use Rattle.sot_lang.specs.declared.tables.ScalarInfo.{ScalarInfo}
use Rattle.sot_lang.specs.declared.tables.NodeInfo.{NodeInfo}
use Rattle.sot_lang.specs.Tables.{Tables}
use Rattle.sot_lang.specs.Line.{line, fast, slow, nav, pos_plant, side, vec, boxed, somewhere}
use Rattle.sot_lang.specs.declared.tables.PlantInfo.{PlantInfo}
use Rattle.sot_box.specs.BoxList.{BoxList}
use Rattle.sot_world.specs.Steps.{Event, Code, Guest, Decide, Tick}
use Rattle.sot_world.specs.Configurations.{Configuration, Mode, Ac, Sc}

-- the opening of the running example at 0
abbrev pub at_opening : Configuration
at_opening = record {
  time = 0;
  left = true ∷ true ∷ [];
  left_dm = true ∷ [];
  modes = Sc ∷ [];
  scalars = pos 0 ∷ [];
  locals = [] ∷ [] ∷ [];
  points = (pos 0 ∷ []) ∷ [];
}

-- the module has decided for its advanced node
abbrev pub decided : Configuration
decided = record at_opening { left_dm = false ∷ []; modes = Ac ∷ [] }

-- the advanced node has fired, and what it drafted was refused
abbrev pub refused : Configuration
refused = record decided { left = false ∷ true ∷ [] }

-- the advanced node has fired, and its 2 was published
abbrev pub drafted : Configuration
drafted = record decided { left = false ∷ true ∷ []; scalars = pos 2 ∷ [] }

-- the safe node, which is disabled, has fired too: nothing is left
abbrev pub settled : Configuration
settled = record drafted { left = false ∷ false ∷ [] }

-- all plants have ticked, with the disturbance 1: 0 + 2 + 1
abbrev pub ticked : Configuration
ticked = record settled { time = 1; points = (pos 3 ∷ []) ∷ [] }

-- before and after the tick from time 1 to time 2, when the safe node is due again
abbrev pub second : Configuration
second = record ticked { time = 2; left = false ∷ true ∷ []; points = (pos 4 ∷ []) ∷ [] }

-- a decision is left at a time, in a mode and with the plant at a point
abbrev pub deciding : ℕ → Mode → ℤ → Configuration
deciding t mode x =
    record at_opening {
      time = t;
      left = false ∷ false ∷ [];
      modes = mode ∷ [];
      scalars = pos 2 ∷ [];
      points = (x ∷ []) ∷ [];
    }

-- a run: the module decides, the advanced node drafts 2, the safe node fires, and the plant ticks
-- with the disturbance 1
abbrev pub line_events : List Event
line_events = Decide 0 ∷ Guest 0 (Some (pos 2) ∷ []) ∷ Code 1 ∷ Tick ((pos 1 ∷ []) ∷ []) ∷ []

abbrev pub line_configurations : List Configuration
line_configurations = decided ∷ drafted ∷ settled ∷ ticked ∷ []

-- in mode Sc with the plant at 20, both nodes are left
abbrev pub braking : Configuration
braking = record at_opening { time = 12; left_dm = false ∷ []; points = (pos 20 ∷ []) ∷ [] }

module _ (g : Global) where
  -- the running example with a safe node that counts its firings in a local n and publishes it: n =
  -- n + 1; publish cmd = n
  abbrev pub count_acts : List Act
  count_acts =
      Assign 0 (Binary' Add (boxed g) (Place 1) (boxed g) (Number (pos 1)) somewhere) somewhere ∷
      Publish 0 (Place 1) somewhere ∷ []

  abbrev pub counter : NodeInfo
  counter = record (slow g) {
    locals =
        vec g (record {
          name = 110 ∷ [];
          scale = 0;
          truth = false;
          lo = pos 0;
          hi = pos 9;
          init = pos 0;
        } ∷ []) refl;
    body = Some (vec g count_acts refl);
  }

  abbrev pub counting : Tables
  counting = record (line g) { nodes = fast g ∷ counter ∷ [] }

  -- a relay: environment topic e: int[0..9] = 0; topic m: int[0..9] = 0; node copy period 6 offset
  -- 0 { reads e; writes m; do { publish m = e; } }
  abbrev pub e_topic : TopicInfo
  e_topic = record { name = 101 ∷ []; outside = true; first = 0; count = 1 }

  abbrev pub m_topic : TopicInfo
  m_topic = record { name = 109 ∷ []; outside = false; first = 1; count = 1 }

  abbrev pub digit : ℕ → ScalarInfo
  digit topic =
      record {
        topic = topic;
        field = None;
        scale = 0;
        truth = false;
        lo = pos 0;
        hi = pos 9;
        init = pos 0;
      }

  abbrev pub copy_acts : List Act
  copy_acts = Publish 0 (Place 0) somewhere ∷ []

  abbrev pub copy : NodeInfo
  copy = record {
    name = 99 ∷ 111 ∷ 112 ∷ 121 ∷ [];
    period = 6;
    offset = 0;
    reads = vec g (Scalar 0 ∷ []) refl;
    writes = vec g (1 ∷ []) refl;
    locals = vec g [] refl;
    body = Some (vec g copy_acts refl);
  }

  abbrev pub relay : Tables
  relay =
      record {
        topics = e_topic ∷ m_topic ∷ [];
        scalars = digit 0 ∷ digit 1 ∷ [];
        plants = [];
        nodes = copy ∷ [];
        modules = [];
      }

-- the two numbers of the relay, with its node left to fire
abbrev pub relaying : ℤ → ℤ → Configuration
relaying e m =
    record {
      time = 0;
      left = true ∷ [];
      left_dm = [];
      modes = [];
      scalars = e ∷ m ∷ [];
      locals = [] ∷ [];
      points = [];
    }

-- the counting node's local, in mode Ac, in which the counting node is disabled
abbrev pub idle_counter : ℤ → Configuration
idle_counter n = record decided { left = false ∷ true ∷ []; locals = [] ∷ (n ∷ []) ∷ [] }

-- programs that are not safe
module _ (g : Global) where
  abbrev pub segments : ℤ → ℤ → BoxList
  segments lo hi = record { width = 1; boxes = (side lo hi ∷ []) ∷ []; settled = false }

  -- the running example with the safe region [-5..5], smaller than its safer one
  abbrev pub narrow : Tables
  narrow = record (line g) { modules = record (nav g) { safe = segments (negsuc 4) (pos 5) } ∷ [] }

  -- with the point 0 alone as its regions, and nothing due at 0: one tick leaves it
  abbrev pub drifting : Tables
  drifting = record (line g) {
    nodes = record (fast g) { offset = 2 } ∷ record (slow g) { offset = 1 } ∷ [];
    modules =
        record (nav g) {
          offset = 1;
          safe = segments (pos 0) (pos 0);
          safer = segments (pos 0) (pos 0);
        } ∷ [];
  }

  -- with a plant whose tick divides by its state
  abbrev pub divided_plant : PlantInfo
  divided_plant =
      record (pos_plant g) {
        next = vec g
            (Binary' Div (boxed g) (Number (pos 10)) (boxed g) (Place 0) somewhere ∷ []) refl;
      }

  abbrev pub dividing : Tables
  dividing = record (line g) { plants = divided_plant ∷ [] }

  -- the relay with a node that publishes m = e + 9
  abbrev pub far_acts : List Act
  far_acts =
      Publish 0 (Binary' Add (boxed g) (Place 0) (boxed g) (Number (pos 9)) somewhere) somewhere ∷
      []

  abbrev pub far_copy : NodeInfo
  far_copy = record (copy g) { body = Some (vec g far_acts refl) }

  abbrev pub far_relay : Tables
  far_relay = record (relay g) { nodes = far_copy ∷ [] }

-- the opening at a point
abbrev pub opening_at : ℤ → Configuration
opening_at x = record at_opening { points = (x ∷ []) ∷ [] }

-- the drifting vehicle with nothing left, before and after a tick with the disturbance 1
abbrev pub drift_0 : Configuration
drift_0 = record at_opening { left = false ∷ false ∷ []; left_dm = false ∷ [] }

abbrev pub drift_1 : Configuration
drift_1 =
    record drift_0 {
      time = 1;
      left = false ∷ true ∷ [];
      left_dm = true ∷ [];
      points = (pos 1 ∷ []) ∷ [];
    }

-- two modules whose plants see each other and move to where the other one is, with the disturbance
-- added, beside an environment topic of two numbers
module _ (g : Global) where
  abbrev pub pair_topic : TopicInfo
  pair_topic = record { name = 112 ∷ []; outside = true; first = 0; count = 2 }

  abbrev pub swapping : ℕ → PlantInfo
  swapping other = record (pos_plant g) {
    inputs = vec g [] refl;
    sees = vec g (other ∷ []) refl;
    next = vec g (Binary' Add (boxed g) (Place 1) (boxed g) (Place 2) somewhere ∷ []) refl;
  }

  abbrev pub twins : Tables
  twins = record {
    topics = pair_topic ∷ [];
    scalars = digit g 0 ∷ digit g 0 ∷ [];
    plants = swapping 1 ∷ swapping 0 ∷ [];
    nodes = [];
    modules = nav g ∷ record (nav g) { plant = 1 } ∷ [];
  }

-- the first plant at 20, outside the safer region, and the second one at 3, inside it
abbrev pub twins_at : ℕ → Configuration
twins_at t =
    record {
      time = t;
      left = [];
      left_dm = true ∷ true ∷ [];
      modes = Sc ∷ Sc ∷ [];
      scalars = pos 0 ∷ pos 0 ∷ [];
      locals = [];
      points = (pos 20 ∷ []) ∷ (pos 3 ∷ []) ∷ [];
    }

-- the two plants where no decision is left
abbrev pub twins_idle : ℕ → Configuration
twins_idle t = record (twins_at t) { left_dm = false ∷ false ∷ [] }
