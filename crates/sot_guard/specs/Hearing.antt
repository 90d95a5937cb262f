-- What contracts see of a session, what each thing that it hears changes, and why one is not taken.
use Rattle.std.specs.Prelude.{ℕ, ℤ, ◌<◌, ◌≤◌, Bool, true, false, List, Option, None, ◌≡◌}
use Rattle.std.specs.Prelude.{replicate, slice_index_or, slice_set, MatchOption, length}
use Rattle.sot_lists.specs.Places.{At}
use Rattle.sot_lang.specs.declared.tables.TopicInfo.{TopicInfo}
use Rattle.sot_lang.specs.declared.tables.NodeInfo.{NodeInfo}
use Rattle.sot_lang.specs.Tables.{Tables}
use Rattle.sot_world.specs.Configurations.{Configuration, is_left}
use Rattle.sot_world.specs.Steps.{Inputs}
use Rattle.sot_world.specs.Events.{IsTypedInput}
use Rattle.sot_world.specs.Changes.{ArePoints}
use Rattle.sot_world.specs.Calendar.{NothingLeft}
use Rattle.sot_guard.specs.declared.outside.Outside.{Outside}
use Rattle.sot_guard.specs.declared.told.Told.{Told}
use Rattle.sot_guard.specs.Guarding.{Guarding, last_time}
use Rattle.sot_guard.specs.Changes.{MovesTo, GoesOn, Withdraws, Distrusts, AsksSafeNodes}
use Rattle.sot_guard.specs.Resuming.{RegainsTrust, StaysUnsafe}
use Rattle.sot_guard.specs.Instants.{AreTold, AreInOrder}
use Rattle.sot_guard.specs.declared.turn.SessionEvent.{SessionEvent}
use Rattle.sot_guard.specs.declared.turn.SessionEvent.TheVariants.{Instant, Tick}
use Rattle.sot_guard.specs.declared.misheard.Misheard.{Misheard}
use Rattle.sot_guard.specs.declared.misheard.Misheard.TheVariants.{OutOfTurn, TooFar}
use Rattle.sot_guard.specs.declared.misheard.Misheard.TheVariants.{NotALine, NotDue}
use Rattle.sot_guard.specs.declared.misheard.Misheard.TheVariants.{AlreadyDrafted}
use Rattle.sot_guard.specs.declared.misheard.Misheard.TheVariants.{OutsideType, NotSeen}

-- a guard, what it hears next, whether all plants were observed at its time, for each node what it
-- has drafted in this instant, and whether it has, and what was told of the last instant
pub record Hearing : Type 0 where
  pub guarding : Guarding
  pub turn : SessionEvent
  pub seen : Bool
  pub drafts : List (List (Option ℤ))
  pub drafted : List Bool
  pub told : List Told

abbrev pub program_of : Hearing → Tables
program_of h = h.guarding.accepted.program

abbrev pub jitter_of : Hearing → ℕ
jitter_of h = h.guarding.accepted.cert.jitter

abbrev pub has_drafted : Hearing → ℕ → Bool
has_drafted h n = slice_index_or h.drafted n false

-- the same session with its guard in another configuration
abbrev pub guard_at : Guarding → Configuration → Guarding
guard_at g C = record g { at = C }

abbrev pub hearing_at : Hearing → Configuration → Hearing
hearing_at h C = record h { guarding = guard_at h.guarding C }

-- there is a draft for each node, and nothing is left once an instant was gone through
pub record IsHearing (h : Hearing) : Type 0 where
  pub drafts : length h.drafts ≡ length (program_of h).nodes
  pub drafted : length h.drafted ≡ length (program_of h).nodes
  pub settled : h.turn ≡ Tick → NothingLeft (program_of h) h.guarding.at

-- no node has drafted
pub record NoDrafts (h : Hearing) : Type 0 where
  pub drafts : (n : ℕ) → slice_index_or h.drafts n (replicate 8 None) ≡ replicate 8 None
  pub drafted : (n : ℕ) → has_drafted h n ≡ false

-- a topic is one of the environment, and a value has a number for each of its scalars
abbrev pub IsInputOf : Tables → ℕ → List ℤ → Type 0
IsInputOf p topic value =
    (info : TopicInfo) × At p.topics topic info × (info.outside ≡ true)
    × (length value ≡ info.count)

-- a node is external
abbrev pub IsExternal : Tables → ℕ → Type 0
IsExternal p n = (info : NodeInfo) × At p.nodes n info × (info.body ≡ None)

-- an input comes in an instant: it is one of the semantics
pub record TakesInput (h : Hearing) (topic : ℕ) (value : List ℤ) (k : Hearing) : Type 0 where
  pub turn : h.turn ≡ Instant
  pub step : Inputs (program_of h) topic value h.guarding.at k.guarding.at
  pub rest : k ≡ hearing_at h k.guarding.at

-- an external node that is left, and has not drafted in this instant, drafts
pub record TakesDraft (h : Hearing) (n : ℕ) (draft : List (Option ℤ)) (k : Hearing) : Type 0 where
  pub turn : h.turn ≡ Instant
  pub external : IsExternal (program_of h) n
  pub left : is_left h.guarding.at n ≡ true
  pub first : has_drafted h n ≡ false
  pub rest : k ≡ record h {
    drafts = slice_set h.drafts n draft;
    drafted = slice_set h.drafted n true;
  }

-- all that is left in the instant happens with what was drafted, and is told; the plants are next
pub record GoesThrough (h k : Hearing) : Type 0 where
  pub turn : h.turn ≡ Instant
  pub next : k.turn ≡ Tick
  pub happened : AreTold h.guarding.trusted (program_of h) (jitter_of h) h.drafts h.guarding.at
      k.told k.guarding.at
  pub order : AreInOrder (program_of h) k.told
  pub settled : NothingLeft (program_of h) k.guarding.at
  pub time : k.guarding.at.time ≡ h.guarding.at.time
  pub points : k.guarding.at.points ≡ h.guarding.at.points
  pub accepted : k.guarding.accepted ≡ h.guarding.accepted
  pub trusted : k.guarding.trusted ≡ h.guarding.trusted
  pub seen : k.seen ≡ h.seen
  pub no_drafts : NoDrafts k

-- after a tick the plants are at these points, and the first one outside its model is told; where
-- one is, the safe nodes are asked at once
pub record TakesTick (h : Hearing) (points : List (List ℤ)) (outside : Option Outside) (k : Hearing)
    : Type 0 where
  pub turn : h.turn ≡ Tick
  pub time : h.guarding.at.time < last_time
  pub points_are : ArePoints (program_of h) points
  pub moved : Guarding
  pub moves : MovesTo (program_of h) points h.guarding.at moved.at
  pub judged : MatchOption outside (GoesOn h.guarding moved)
      (λ o. Withdraws h.guarding moved points o)
  pub asked : MatchOption outside (k.guarding ≡ moved) (λ o. AsksSafeNodes moved k.guarding)
  pub accepted : k.guarding.accepted ≡ h.guarding.accepted
  pub rest : k ≡ record h { guarding = k.guarding; turn = Instant; seen = true }

-- a guard trusts its models no more, and asks the safe nodes at once
pub record FallsBack (old new : Guarding) : Type 0 where
  pub between : Guarding
  pub distrusts : Distrusts old between
  pub asks : AsksSafeNodes between new

-- the models are trusted no more
pub record IsWithdrawn (h k : Hearing) : Type 0 where
  pub falls : FallsBack h.guarding k.guarding
  pub rest : k ≡ record h { guarding = k.guarding }

-- a tick passes after which no plant is observed: each is taken where it was observed last, and the
-- models are trusted no more
pub record PassesUnseen (h k : Hearing) : Type 0 where
  pub turn : h.turn ≡ Tick
  pub time : h.guarding.at.time < last_time
  pub moved : Guarding
  pub moves : MovesTo (program_of h) h.guarding.at.points h.guarding.at moved.at
  pub falls : FallsBack moved k.guarding
  pub accepted : k.guarding.accepted ≡ h.guarding.accepted
  pub rest : k ≡ record h { guarding = k.guarding; turn = Instant; seen = false }

-- in an instant in which all plants were observed, the models are trusted again
pub record Resumes (h k : Hearing) : Type 0 where
  pub turn : h.turn ≡ Instant
  pub seen : h.seen ≡ true
  pub regains : RegainsTrust h.guarding k.guarding
  pub rest : k ≡ record h { guarding = k.guarding }

-- .. or module m keeps them from being
pub record MayNotResume (h : Hearing) (m : ℕ) : Type 0 where
  pub turn : h.turn ≡ Instant
  pub trusted : h.guarding.trusted ≡ false
  pub seen : h.seen ≡ true
  pub unsafe : StaysUnsafe h.guarding m

-- why an input is not taken
abbrev pub RefusesInput : Hearing → ℕ → List ℤ → Misheard → Type 0
RefusesInput h topic value OutOfTurn = h.turn ≡ Tick
RefusesInput h topic value TooFar = ⊥
RefusesInput h topic value NotALine =
    (h.turn ≡ Instant) × (IsInputOf (program_of h) topic value → ⊥)
RefusesInput h topic value NotDue = ⊥
RefusesInput h topic value AlreadyDrafted = ⊥
RefusesInput h topic value OutsideType =
    (h.turn ≡ Instant) × IsInputOf (program_of h) topic value
    × (IsTypedInput (program_of h) topic value → ⊥)
RefusesInput h topic value NotSeen = ⊥

-- why a draft is not
abbrev pub RefusesDraft : Hearing → ℕ → Misheard → Type 0
RefusesDraft h n OutOfTurn = h.turn ≡ Tick
RefusesDraft h n TooFar = ⊥
RefusesDraft h n NotALine = (h.turn ≡ Instant) × (IsExternal (program_of h) n → ⊥)
RefusesDraft h n NotDue =
    (h.turn ≡ Instant) × IsExternal (program_of h) n × (is_left h.guarding.at n ≡ false)
RefusesDraft h n AlreadyDrafted =
    (h.turn ≡ Instant) × IsExternal (program_of h) n × (is_left h.guarding.at n ≡ true)
    × (has_drafted h n ≡ true)
RefusesDraft h n OutsideType = ⊥
RefusesDraft h n NotSeen = ⊥

-- why an instant is not gone through
abbrev pub RefusesGo : Hearing → Misheard → Type 0
RefusesGo h OutOfTurn = h.turn ≡ Tick
RefusesGo h TooFar = ⊥
RefusesGo h NotALine = ⊥
RefusesGo h NotDue = ⊥
RefusesGo h AlreadyDrafted = ⊥
RefusesGo h OutsideType = ⊥
RefusesGo h NotSeen = ⊥

-- why the points after a tick are not taken
abbrev pub RefusesTick : Hearing → List (List ℤ) → Misheard → Type 0
RefusesTick h points OutOfTurn = h.turn ≡ Instant
RefusesTick h points TooFar = (h.turn ≡ Tick) × (last_time ≤ h.guarding.at.time)
RefusesTick h points NotALine =
    (h.turn ≡ Tick) × (h.guarding.at.time < last_time) × (ArePoints (program_of h) points → ⊥)
RefusesTick h points NotDue = ⊥
RefusesTick h points AlreadyDrafted = ⊥
RefusesTick h points OutsideType = ⊥
RefusesTick h points NotSeen = ⊥

-- why the models are not tried to be trusted again
abbrev pub RefusesResume : Hearing → Misheard → Type 0
RefusesResume h OutOfTurn = h.turn ≡ Tick
RefusesResume h TooFar = ⊥
RefusesResume h NotALine = ⊥
RefusesResume h NotDue = (h.turn ≡ Instant) × (h.guarding.trusted ≡ true)
RefusesResume h AlreadyDrafted = ⊥
RefusesResume h OutsideType = ⊥
RefusesResume h NotSeen =
    (h.turn ≡ Instant) × (h.guarding.trusted ≡ false) × (h.seen ≡ false)
