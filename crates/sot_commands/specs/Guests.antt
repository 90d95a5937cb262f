-- What becomes of the guests that are handed in.
use Rattle.std.specs.Prelude.{◌≡◌, ◌≢◌, ℕ, ◌⊎◌, List, [], ◌++◌, Option, None, Some, vec_len}
use Rattle.std.specs.Global.{Vec}
use Rattle.std.specs.Io.KnownBytes.{Appends}
use Rattle.sot_lists.specs.Places.{At}
use Rattle.sot_sections.specs.declared.mission.Need.TheVariants as needs
use Rattle.sot_lang.specs.Tables.{Tables}
use Rattle.sot_world.specs.HistoryEntry.{Logged}
use Rattle.sot_flight.specs.Plans.{Plan, Guest}
use Rattle.sot_board.specs.Flown.{FlownBy}
use Rattle.sot_fly_worker.specs.Askings.{Asking}
use Rattle.sot_fly_worker.specs.Answers.{Answered}
use Rattle.sot_trace.specs.Lines.{header}
use Rattle.sot_trace.specs.Traces.{trace_text}
use Rattle.sot_report.specs.Missions.{Mission}
use Rattle.sot_workers.specs.Asked.{EachUnnamedStays}
use Rattle.sot_commands.specs.Answers.{SpellsFor}
use Rattle.sot_commands.specs.WatchTexts.{holds_text, fails_text}

-- a list of askings that is told afterwards was told before, and has grown at its end
abbrev pub TellsOn : Option (List Asking) → Option (List Asking) → Type 0
TellsOn before None = Unit {0}
TellsOn before (Some after) =
    (first more : List Asking) × (before ≡ Some first) × (after ≡ first ++ more)

-- what is written behind a trace: nothing by `fly`, and by `watch` one of two lines
abbrev pub IsNothing : List ℕ → Type 0
IsNothing behind = behind ≡ []

abbrev pub SaysHolds : List ℕ → Type 0
SaysHolds behind = (moments : ℕ) × (behind ≡ holds_text moments)

abbrev pub SaysFails : List ℕ → Type 0
SaysFails behind = (time : ℕ) × (behind ≡ fails_text time)

-- a text that does not begin as a trace does
abbrev pub IsNoTrace : List ℕ → Type 0
IsNoTrace text = (rest : List ℕ) → text ≡ header ++ rest → ⊥

-- a text that does not begin as a trace does was written
abbrev pub WroteNoTrace : Option (List ℕ) → Option (List ℕ) → Type 0
WroteNoTrace held held_after =
    (text : List ℕ) × Appends held held_after text × IsNoTrace text

module _ {C : Type 0} where
  -- whatever flight the bytes spell for so many guests, each guest that no node of it names is the
  -- same
  abbrev pub UnnamedStay : ℕ → List ℕ → List C → List C → Type 0
  UnnamedStay guests bytes before after =
      (m : Mission) (f : Plan) → SpellsFor needs.Fly guests bytes m → m.flight ≡ Some f
      → EachUnnamedStays f before after

module _ {C : Type 0} (asked : C → Option (List Asking)) where
  -- each guest that tells its list tells it on
  abbrev pub GuestsGoOn : List C → List C → Type 0
  GuestsGoOn before after =
      (i : ℕ) (was now : C) → At before i was → At after i now → TellsOn (asked was) (asked now)

  -- the guests flew this flight, and this text is the trace of its history: each guest that the
  -- flight names, where it still tells its list, was asked once a firing of its node, in the
  -- history's order, and each asking fits its firing; the others are as they were
  pub record GuestsFlew (t : Tables) (jitter : ℕ) (f : Plan) (text : List ℕ) (before after : List C)
      : Type 0 where
    pub history : List Logged
    pub flown : FlownBy t jitter f history
    pub text_is : text ≡ trace_text t f.start history
    pub answered : (n i : ℕ) (was now : C) → At f.crews n (Guest i) → At before i was
        → At after i now → Answered t jitter f n history (asked was) (asked now)
    pub unnamed : EachUnnamedStays f before after

  -- the bytes spell a mission with a flight for so many guests, and these flew it
  pub record Flew (guests : ℕ) (bytes text : List ℕ) (before after : List C) : Type 0 where
    pub mission : Mission
    pub spelled : SpellsFor needs.Fly guests bytes mission
    pub plan : Plan
    pub flight : mission.flight ≡ Some plan
    pub flew : GuestsFlew mission.tables mission.cert.jitter plan text before after

  -- the guests flew the flight of a mission, and what was written is its trace with this behind it
  abbrev pub FlewAndWrote : ℕ → (List ℕ → Type 0) → (List ℕ → Type 0) → Option (List ℕ)
      → Option (List ℕ) → List C → List C → Type 0
  FlewAndWrote guests IsMission IsBehind held held_after before after =
      (bytes : List ℕ) × (text : List ℕ) × (behind : List ℕ) × IsMission bytes × IsBehind behind
      × Appends held held_after (text ++ behind) × Flew guests bytes text before after

  -- What has become of the guests where a call ends with this status. `Flies` says whether a flight
  -- was asked for, `Watches` whether one that a formula watches, and `IsMission` of which bytes.
  pub record GuestsEnd (Flies Watches : Type 0) (IsMission : List ℕ → Type 0)
      (held held_after : Option (List ℕ)) (before after : Vec C) (status : ℕ) : Type 0 where
    -- there are as many as before, and where one told the list of its askings, the one in its place
    -- tells it on
    pub count : vec_len after ≡ vec_len before
    pub go_on : GuestsGoOn before.items after.items
    -- without a flight none was asked
    pub stay : ¬ Flies → ¬ Watches → after ≡ before
    -- nor at another status than 0, unless the trace was flown and not written, or memory ran out;
    -- or the formula that watches the flight fails
    pub unasked : status ≢ 0 → status ≢ 5 → status ≢ 6
        → (after ≡ before) ⊎ ((status ≡ 1) × Watches)
    -- whatever the status, those that the flight does not name were not asked
    pub unnamed : (after ≡ before) ⊎ ((bytes : List ℕ) × IsMission bytes
        × UnnamedStay (vec_len before) bytes before.items after.items)
    -- what was flown was asked of the guests, and it is the trace of this flight that was written
    pub flew : status ≡ 0 → Flies → FlewAndWrote (vec_len before) IsMission IsNothing held
        held_after before.items after.items
    -- and with the verdict behind it, where the formula that watched it holds
    pub watched : status ≡ 0 → Watches → FlewAndWrote (vec_len before) IsMission SaysHolds held
        held_after before.items after.items
    -- or fails; where the flight was not flown, no trace was written
    pub failed : status ≡ 1 → Watches
        → ((after ≡ before) × WroteNoTrace held held_after)
        ⊎ FlewAndWrote (vec_len before) IsMission SaysFails held held_after before.items after.items
