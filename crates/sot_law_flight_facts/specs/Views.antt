-- Views of the relay's node, which reads topic 0 and writes topic 1, and the boards that they are
-- asked of.
use Rattle.std.specs.Prelude.{ℕ, ℤ, pos, List, [], ◌∷◌, replicate}
use Rattle.std.proofs.Common.{refl, lit≤}
use Rattle.std.specs.Global.{Global}
use Rattle.sot_lang.specs.Line.{vec}
use Rattle.sot_world.specs.HistoryEntry.{Logged, InputAt, TickAt}
use Rattle.sot_world.specs.Examples.{relay, relaying}
use Rattle.sot_board.specs.declared.view.View.{View}
use Rattle.sot_board.specs.Examples.{relay_flight, copies}
use Rattle.sot_board.specs.Flown.{Position}
use Rattle.sot_board.specs.Standing.{Standing}
use Rattle.sot_board.specs.Views.{IsView}
use Rattle.sot_board.specs.Commits.{IsCurrent}

-- where the relay stands at a time with these two numbers
abbrev pub standing : ℕ → ℤ → ℤ → Position
standing t e m = record { at = record (relaying e m) { time = t }; inputs = []; fired = 0 ∷ [] }

-- the board there, with these entries behind it
abbrev pub board : Global → List Logged → Position → Standing
board g entries P =
    record {
      accepted = record {
        program = relay g;
        cert =
            record { jitter = 0; modules = vec g [] refl };
      };
      plan = relay_flight;
      entries = entries;
      position = P;
    }

abbrev pub input : ℤ → Logged
input z = InputAt 0 0 (z ∷ [])

-- the view from before any entry
abbrev pub first_view : View
first_view =
    record {
      node = 0;
      time = 0;
      entries = 0;
      count = 1;
      numbers = replicate 64 (pos 0);
      versions =
          replicate 64 0;
      locals = [];
      few = lit≤ tt;
      numbers_there = refl;
      versions_there = refl;
    }

-- the view from before any entry is one of the relay's node
abbrev pub FirstViewIsThere : Global → Type 0
FirstViewIsThere g = IsView (relay g) [] (standing 0 (pos 0) (pos 0)) 0 first_view

-- a view from before the input of 5 is not current after it
abbrev pub InputEndsView : Global → Type 0
InputEndsView g =
    (v : View) → IsView (relay g) [] (standing 0 (pos 0) (pos 0)) 0 v
    → IsCurrent (board g (input (pos 5) ∷ []) (standing 0 (pos 5) (pos 0))) v → ⊥

-- a view from after the input of 5 is current
abbrev pub LaterViewIsCurrent : Global → Type 0
LaterViewIsCurrent g =
    (v : View) → IsView (relay g) (input (pos 5) ∷ []) (standing 0 (pos 5) (pos 0)) 0 v
    → IsCurrent (board g (input (pos 5) ∷ []) (standing 0 (pos 5) (pos 0))) v

-- a view from after the input of 5 is current also once a topic was written that the node does not
-- read
abbrev pub OtherTopicsLeaveView : Global → Type 0
OtherTopicsLeaveView g =
    (v : View) → IsView (relay g) (input (pos 5) ∷ []) (standing 0 (pos 5) (pos 0)) 0 v
    → IsCurrent (board g (input (pos 5) ∷ copies (pos 5) ∷ []) (standing 0 (pos 5) (pos 5))) v

-- a view is not current at a later time
abbrev pub TimeEndsView : Global → Type 0
TimeEndsView g =
    (v : View) → IsView (relay g) [] (standing 0 (pos 0) (pos 0)) 0 v
    → IsCurrent (board g (TickAt 0 [] [] ∷ []) (standing 1 (pos 0) (pos 0))) v → ⊥

-- a topic that was changed to 5 and back to 0 has the same number and another version
abbrev pub ChangedBackEndsView : Global → Type 0
ChangedBackEndsView g =
    (v : View) → IsView (relay g) [] (standing 0 (pos 0) (pos 0)) 0 v
    → IsCurrent (board g (input (pos 5) ∷ input (pos 0) ∷ []) (standing 0 (pos 0) (pos 0))) v → ⊥
