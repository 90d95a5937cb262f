-- What a robot says behind the line `%observed`, line by line, and what it is answered.
use Rattle.std.specs.Prelude.{◌≡◌, ℕ, true, List, [], ◌∷◌, ◌++◌}
use Rattle.sot_trace.specs.Traces.{text_of}
use Rattle.sot_tube.specs.Admitted.{Admitted}
use Rattle.sot_world.specs.Headline.{IsSafeNow}
use Rattle.sot_guard.specs.declared.turn.SessionEvent.TheVariants.{Instant}
use Rattle.sot_guard.specs.Resuming.{AreHeldSafe}
use Rattle.sot_guard.specs.Beginning.{IsOpeningAt}
use Rattle.sot_guard.specs.Hearing.{NoDrafts, jitter_of}
use Rattle.sot_guard_protocol.specs.Openings.{Starting, HasAll, TakesStart}
use Rattle.sot_guard_protocol.specs.Talks.{Talking, tables_of}
use Rattle.sot_guard_protocol.specs.TalkLaws.{HearsLine, IsTrustedSince}

-- no plant of an accepted program was observed yet
abbrev pub unopened : Admitted → Starting
unopened acc = record { accepted = acc; starts = [] }

-- lines say where plants are observed first, one after another
abbrev pub Starts : Starting → List (List ℕ) → Starting → Type 0
Starts a [] b = b ≡ a
Starts a (line ∷ lines) b = (c : Starting) × TakesStart a line c × Starts c lines b

-- a talk begins at this time about plants that were all observed, each held safe by the first
-- commands until the safe node of its module fires
pub record Begins (time : ℕ) (a : Starting) (t : Talking) : Type 0 where
  pub all : HasAll a
  pub opening : IsOpeningAt a.accepted.program time a.starts t.hearing.guarding.at
  pub held : AreHeldSafe a.accepted.program a.accepted.cert.jitter t.hearing.guarding.at
  pub trusted : t.hearing.guarding.trusted ≡ true
  pub accepted : t.hearing.guarding.accepted ≡ a.accepted
  pub turn : t.hearing.turn ≡ Instant
  pub seen : t.hearing.seen ≡ true
  pub no_drafts : NoDrafts t.hearing
  pub no_events : t.events ≡ 0

-- lines are heard, one after another, and this text is what they are answered with
abbrev pub Answers : Talking → List (List ℕ) → Talking → List ℕ → Type 0
Answers t [] u text = (u ≡ t) × (text ≡ [])
Answers t (line ∷ lines) u text =
    (b : Talking) × (h : HearsLine t line b) × (more : List ℕ) × Answers b lines u more
    × (text ≡ text_of h.answer ++ more)

-- the models are trusted since the first line, or since a `resume` that was answered `resumed`; all
-- that happened since is an observed run; and each plant is observed inside its modules' safe
-- regions
pub record IsSafe (t : Talking) (lines : List (List ℕ)) (u : Talking) : Type 0 where
  pub since : Talking
  pub trusted : IsTrustedSince t lines since u
  pub inside : IsSafeNow (tables_of t) (jitter_of t.hearing) u.hearing.guarding.at

-- whatever is said, that holds at each moment at which the models are trusted
abbrev pub StaysSafe : Talking → Type 0
StaysSafe t =
    (lines : List (List ℕ)) (u : Talking) (text : List ℕ) → Answers t lines u text
    → u.hearing.guarding.trusted ≡ true → IsSafe t lines u
