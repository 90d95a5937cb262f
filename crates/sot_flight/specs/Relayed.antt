-- A flight to which another board sends further inputs.
use Rattle.std.specs.Prelude.{ℕ, suc, ◌+◌, ◌≤◌, ◌≡◌, nat_le, true, if◌then◌else◌, ℤ}
use Rattle.std.specs.Prelude.{Option, None, Some, List, [], ◌∷◌, length}
use Rattle.sot_lists.specs.Places.{At}
use Rattle.sot_box.specs.Sides.{IsIn}
use Rattle.sot_lang.specs.declared.tables.TopicInfo.{TopicInfo}
use Rattle.sot_lang.specs.Tables.{Tables}
use Rattle.sot_lang.specs.Ranges.{range_of}
use Rattle.sot_flight.specs.declared.sent.Sent.{Sent}
use Rattle.sot_flight.specs.Plans.{StatedInput, Plan}

-- what was sent: its time, and a number for each scalar of a topic
pub record Send : Type 0 where
  pub at : ℕ
  pub value : List ℤ

-- the numbers of a draft, in the order of its slots
abbrev pub drafted : List (Option ℤ) → List ℤ
drafted [] = []
drafted (None ∷ slots) = drafted slots
drafted (Some z ∷ slots) = z ∷ drafted slots

abbrev pub send_of : Sent → Send
send_of s = record { at = s.at; value = drafted s.value }

-- an input is put behind all inputs that come at its time or before
abbrev pub put_in : StatedInput → List StatedInput → List StatedInput
put_in x [] = x ∷ []
put_in x (y ∷ ys) = if nat_le y.at x.at then y ∷ put_in x ys else x ∷ y ∷ ys

-- a send comes on the topic so many ticks later
abbrev pub sent_input : ℕ → ℕ → Send → StatedInput
sent_input topic delay s = record { at = s.at + delay; topic = topic; value = s.value }

-- the given inputs and these sends, each in turn behind what comes at its time or before
abbrev pub with_sends : ℕ → ℕ → List Send → List StatedInput → List StatedInput
with_sends topic delay [] given = given
with_sends topic delay (s ∷ sends) given =
    with_sends topic delay sends (put_in (sent_input topic delay s) given)

abbrev pub send_numbers : List Send → ℕ
send_numbers [] = 0
send_numbers (s ∷ sends) = length s.value + send_numbers sends

-- the flight to which these sends come too
abbrev pub relayed : ℕ → ℕ → List Send → Plan → Plan
relayed topic delay sends f = record f {
  inputs = with_sends topic delay sends f.inputs;
  events = f.events + length sends;
  numbers = f.numbers + send_numbers sends;
}

-- what may be sent to a flight: on an environment topic, a number in its range for each scalar, in
-- order of time, by the horizon, and within the limits of a flight
pub record MayRelay (p : Tables) (f : Plan) (topic delay : ℕ) (sends : List Send) : Type 0 where
  pub info : TopicInfo
  pub is : At p.topics topic info
  pub outside : info.outside ≡ true
  pub sizes : (i : ℕ) (s : Send) → At sends i s → length s.value ≡ info.count
  pub typed : (i k : ℕ) (s : Send) (z : ℤ) → At sends i s → At s.value k z
      → IsIn (range_of p.scalars (info.first + k)) z
  pub ordered : (i : ℕ) (s t : Send) → At sends i s → At sends (suc i) t → s.at ≤ t.at
  pub in_time : (i : ℕ) (s : Send) → At sends i s → s.at + delay ≤ f.horizon
  pub few_events : f.events + length sends ≤ 200000
  pub few_numbers : f.numbers + send_numbers sends ≤ 1000000
