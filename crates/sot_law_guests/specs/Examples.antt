-- A flight with a guest, and lists of drafts, worked out by hand.
use Rattle.std.specs.Prelude.{ℕ, zero, suc, ℤ, pos, ◌≡◌, ◌⊎◌, ◌↔◌, true, false, Option, Some, None}
use Rattle.std.specs.Prelude.{List, [], ◌∷◌, ◌++◌, take}
use Rattle.std.proofs.Common.{refl}
use Rattle.std.specs.Global.{Global}
use Rattle.sot_lang.specs.declared.tables.NodeInfo.{NodeInfo}
use Rattle.sot_lang.specs.Tables.{Tables}
use Rattle.sot_lang.specs.Line.{vec}
use Rattle.sot_code.specs.Recorded.{in_slots}
use Rattle.sot_tube.specs.Admitted.{Admitted}
use Rattle.sot_world.specs.Examples.{relay, copy}
use Rattle.sot_world.specs.HistoryEntry.{Logged, InputAt, FireAt, TickAt}
use Rattle.sot_flight.specs.Plans.{StatedInput, Plan, Guest}
use Rattle.sot_fly_worker.specs.Askings.{Asking}
use Rattle.sot_fly_worker.specs.Answers.{FitsFiring, HasAnswered}
use Rattle.sot_workers.specs.declared.lists.NodeList.{NodeList}
use Rattle.sot_workers.specs.Lists.{AreLists}
use Rattle.sot_workers.specs.Asked.{EachAnswered, EachUnnamedStays}
use Rattle.sot_law_guests.specs.Sights.{WereSeenInTime}

module _ (g : Global) where
  -- the relay, which reads the environment's number and writes one of its own, with a node that is
  -- external and due at each time
  abbrev pub asked_copy : NodeInfo
  asked_copy = record (copy g) { period = 1; body = None }

  abbrev pub asked_relay : Tables
  asked_relay = record (relay g) { nodes = asked_copy ∷ [] }

  -- with a certificate without jitter
  abbrev pub admitted_relay : Admitted
  admitted_relay =
      record { program = asked_relay; cert = record { jitter = 0; modules = vec g [] refl } }

-- a number of the environment
abbrev pub comes : ℕ → ℤ → StatedInput
comes time z = record { at = time; topic = 0; value = z ∷ [] }

-- one tick; the numbers 5 and 7 come at 0, and 8 at 1; the guest number 1 flies the node
abbrev pub asked_flight : Plan
asked_flight = record {
  horizon = 1;
  start = [];
  inputs = comes 0 (pos 5) ∷ comes 0 (pos 7) ∷ comes 1 (pos 8) ∷ [];
  sways = [];
  crews = Guest 1 ∷ [];
  events = 6;
  numbers = 3;
}

-- the number is drafted, and nothing in the slots past it
abbrev pub drafted : ℤ → List (Option ℤ)
drafted z = in_slots (Some z ∷ [])

-- the node fires with 1 while it reads 0, reads 5 and 7 while it is not left to fire, and after the
-- tick 7 and 8, and then fires with 2
abbrev pub asked_history : List Logged
asked_history =
    FireAt 0 0 (drafted (pos 1)) true ∷ InputAt 0 0 (pos 5 ∷ []) ∷ InputAt 0 0 (pos 7 ∷ []) ∷ TickAt
    0 [] [] ∷ InputAt 1 0 (pos 8 ∷ []) ∷ FireAt 1 0 (drafted (pos 2)) true ∷ []

-- an asking saw this number, and gives this draft in its first slot, whatever stands in those past
-- it
abbrev pub SawAndGave : Asking → ℤ → ℤ → Type 0
SawAndGave one saw gave = (one.values ≡ saw ∷ []) × (in_slots (take 1 one.draft) ≡ drafted gave)

-- for the first firing an asking that saw 0 and gives 1, for the second one that saw 7 or 8 and
-- gives 2, and for a third one none
abbrev pub FitsByHand : ℕ → Asking → Type 0
FitsByHand zero one = SawAndGave one (pos 0) (pos 1)
FitsByHand (suc zero) one = SawAndGave one (pos 7) (pos 2) ⊎ SawAndGave one (pos 8) (pos 2)
FitsByHand (suc (suc k)) one = ⊥

-- these fit, and no others
abbrev pub FitAsStated : Global → Type 0
FitAsStated g =
    (k : ℕ) (one : Asking) → FitsFiring (asked_relay g) 0 asked_flight 0 asked_history k one
    ↔ FitsByHand k one

-- what was there in time for the first firing, and for the second one
abbrev pub SeenByHand : ℕ → List ℤ → Type 0
SeenByHand zero values = values ≡ pos 0 ∷ []
SeenByHand (suc zero) values = (values ≡ pos 7 ∷ []) ⊎ (values ≡ pos 8 ∷ [])
SeenByHand (suc (suc k)) values = ⊥

-- these numbers were seen in time, and no others: not 5, which came and went while the node was not
-- left, and not what was there for the firing before
abbrev pub SeenAsStated : Global → Type 0
SeenAsStated g =
    (k : ℕ) (values : List ℤ) → WereSeenInTime (asked_relay g) 0 asked_flight 0 (asked_copy g)
    asked_history k values ↔ SeenByHand k values

-- a list that was told has grown by two askings, of which the first fits the first firing and the
-- other one the second
abbrev pub AnswersByHand : Option (List Asking) → List Asking → Type 0
AnswersByHand before after =
    (first : List Asking) × (one : Asking) × (other : Asking) × (before ≡ Some first)
    × (after ≡ first ++ (one ∷ other ∷ [])) × FitsByHand 0 one × FitsByHand 1 other

-- such a list has answered, and no other
abbrev pub AnswerAsStated : Global → Type 0
AnswerAsStated g =
    (before : Option (List Asking)) (after : List Asking)
    → HasAnswered (asked_relay g) 0 asked_flight 0 asked_history before after
    ↔ AnswersByHand before after

-- of two guests of which the flight names the second one, it is said of that one alone, and only
-- where it tells its list afterwards; here a guest is what it tells
abbrev pub EachAsStated : Global → Type 0
EachAsStated g =
    ((other was now : Option (List Asking)) (after : List Asking)
    → EachAnswered (λ guest. guest) (admitted_relay g) asked_flight asked_history (other ∷ was ∷ [])
    (now ∷ Some after ∷ []) ↔ AnswersByHand was after)
    × ((other was now : Option (List Asking))
    → EachAnswered (λ guest. guest) (admitted_relay g) asked_flight asked_history (other ∷ was ∷ [])
    (now ∷ None ∷ []))

-- of two guests of which the flight names the second one, the first one is as it was
abbrev pub UnnamedAsStated : Type 0
UnnamedAsStated =
    (other was new now : ℕ) → EachUnnamedStays asked_flight (other ∷ was ∷ []) (new ∷ now ∷ [])
    ↔ (new ≡ other)

-- two nodes fire: 0 with 2 and with 1, and 1, which is disabled, with 0
abbrev pub two_nodes : List Logged
two_nodes =
    FireAt 0 0 (drafted (pos 2)) true ∷ FireAt 0 1 (drafted (pos 0)) false ∷ TickAt 0 [] [] ∷ FireAt
    1 0 (drafted (pos 1)) true ∷ []

-- two lists with the numbers of these nodes, and their drafts in order
abbrev pub ListsByHand : List NodeList → Type 0
ListsByHand lists =
    (zeroth : NodeList) × (first : NodeList) × (lists ≡ zeroth ∷ first ∷ []) × (zeroth.node ≡ 0)
    × (zeroth.drafts.items ≡ drafted (pos 2) ∷ drafted (pos 1) ∷ []) × (first.node ≡ 1)
    × (first.drafts.items ≡ drafted (pos 0) ∷ [])

-- are the lists of these nodes, and no others are
abbrev pub ListsAsStated : Type 0
ListsAsStated = (lists : List NodeList) → AreLists 2 lists two_nodes ↔ ListsByHand lists
