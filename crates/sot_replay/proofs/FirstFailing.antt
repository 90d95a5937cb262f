-- Which test fails first.
use Rattle.std.proofs.Common.{◌≡◌, ℕ, ◌<◌, ◌≤◌, inl, inr, List, refl, arith}
use Rattle.sot_lang.specs.Tables.{Tables}
use Rattle.sot_world.specs.declared.outcome.Why.{Why}
use Rattle.sot_world.specs.declared.outcome.Why.TheVariants as whys
use Rattle.sot_world.specs.HistoryEntry.{Logged}
use Rattle.sot_flight.specs.Plans.{Plan}
use Rattle.sot_board.specs.Flown.{Position}
use Rattle.sot_trace_lines.specs.Spelled.{Spelled, spelled_time, IsSpelled}
use Rattle.sot_replay.specs.declared.fail.LineKind.{LineKind}
use Rattle.sot_replay.specs.declared.fail.LineKind.TheVariants.{NotALine, WrongTime, NotDue, AlreadyFired, NodesLeft, OutsideType, InputsLeft, TooFar, Differs}
use Rattle.sot_replay.specs.declared.fail.LineKind.TheVariants.{Ended, Missing}
use Rattle.sot_replay.specs.Tests.{order_of, WorldRefuses, LeavesInputs, IsTooFar, IsGiven, Fails, IsFirstFailing}
use Rattle.sot_replay.specs.Judges.{kind_of}

-- a line that spells nothing
pub not_a_line : (p : Tables) (j : ℕ) (f : Plan) (es : List Logged) (P : Position) (line : List ℕ) → ((s : Spelled) → IsSpelled p line s → ⊥)
    → IsFirstFailing p j f es P line NotALine
not_a_line p j f es P line none = inl (refl, none)

module _ (p : Tables) (j : ℕ) (f : Plan) (es : List Logged) (P : Position) (line : List ℕ) (s : Spelled) (spelled : IsSpelled p line s) where
  -- the tests before the one of this order do not fail
  none_before :
      (n : ℕ) → n ≤ 5 → (1 < n → spelled_time s ≡ P.at.time) → (2 < n → (why : Why) → WorldRefuses p j P.at s why → ⊥) → (3 < n → LeavesInputs P s → ⊥)
      → (4 < n → IsTooFar f P s → ⊥)
      → (k : LineKind) → order_of k < n → Fails k p j f es P s line → ⊥
  none_before n five time world inputs far NotALine lt fails = fails
  none_before n five time world inputs far WrongTime lt fails = fails (time lt)
  none_before n five time world inputs far NotDue lt fails = world lt whys.NotDue fails
  none_before n five time world inputs far AlreadyFired lt fails = world lt whys.AlreadyFired fails
  none_before n five time world inputs far NodesLeft lt fails = world lt whys.NodesLeft fails
  none_before n five time world inputs far OutsideType lt fails = world lt whys.OutsideType fails
  none_before n five time world inputs far InputsLeft lt fails = inputs lt fails
  none_before n five time world inputs far TooFar lt fails = far lt fails
  none_before n five time world inputs far Differs lt fails = absurd (omega arith)
  none_before n five time world inputs far Ended lt fails = fails
  none_before n five time world inputs far Missing lt fails = fails

  pub wrong_time : (spelled_time s ≡ P.at.time → ⊥) → IsFirstFailing p j f es P line WrongTime
  wrong_time not = inr (
    s,
    record {
      spelled = spelled;
      fails = not;
      first =
          none_before 1 (omega arith) (λ lt. absurd (omega (arith, lt))) (λ lt. absurd (omega (arith, lt))) (λ lt. absurd (omega (arith, lt)))
          (λ lt. absurd (omega (arith, lt)));
    },
  )

  module _ (time : spelled_time s ≡ P.at.time) where
    -- before the world is asked
    before_world : (k : LineKind) → order_of k < 2 → Fails k p j f es P s line → ⊥
    before_world =
        none_before 2 (omega arith) (λ lt. time) (λ lt. absurd (omega (arith, lt))) (λ lt. absurd (omega (arith, lt))) (λ lt. absurd (omega (arith, lt)))

    pub refused : (why : Why) → WorldRefuses p j P.at s why → IsFirstFailing p j f es P line (kind_of why)
    refused whys.NotDue fails = inr (s, record { spelled = spelled; fails = fails; first = before_world })
    refused whys.AlreadyFired fails = inr (s, record { spelled = spelled; fails = fails; first = before_world })
    refused whys.NodesLeft fails = inr (s, record { spelled = spelled; fails = fails; first = before_world })
    refused whys.OutsideType fails = inr (s, record { spelled = spelled; fails = fails; first = before_world })

    module _ (world : (why : Why) → WorldRefuses p j P.at s why → ⊥) where
      pub inputs_left : LeavesInputs P s → IsFirstFailing p j f es P line InputsLeft
      inputs_left fails = inr (
        s,
        record {
          spelled = spelled;
          fails = fails;
          first = none_before 3 (omega arith) (λ lt. time) (λ lt. world) (λ lt. absurd (omega (arith, lt))) (λ lt. absurd (omega (arith, lt)));
        },
      )

      module _ (inputs : LeavesInputs P s → ⊥) where
        pub too_far : IsTooFar f P s → IsFirstFailing p j f es P line TooFar
        too_far fails = inr (
          s,
          record {
            spelled = spelled;
            fails = fails;
            first = none_before 4 (omega arith) (λ lt. time) (λ lt. world) (λ lt. inputs) (λ lt. absurd (omega (arith, lt)));
          },
        )

        pub differs : (IsTooFar f P s → ⊥) → (IsGiven p j f es P s line → ⊥) → IsFirstFailing p j f es P line Differs
        differs far fails = inr (
          s,
          record {
            spelled = spelled;
            fails = fails;
            first = none_before 5 (omega arith) (λ lt. time) (λ lt. world) (λ lt. inputs) (λ lt. far);
          },
        )
