-- What a guard answers is decided by its program, where plants were observed, and what was said.
use Rattle.std.specs.Prelude.{ℕ, ℤ, true, List, [], ◌∷◌, ◌++◌, ◌≡◌}
use Rattle.sot_lists.specs.Places.{At}
use Rattle.sot_lang.specs.Tables.{Tables}
use Rattle.sot_lang.specs.TableRules.{MeetsTableRules}
use Rattle.sot_tube.specs.Admitted.{Admitted}
use Rattle.sot_trace.specs.Words.{AreWords}
use Rattle.sot_guard.specs.declared.misheard.Misheard.{Misheard}
use Rattle.sot_guard.specs.Guarding.{IsGuarding}
use Rattle.sot_guard.specs.Beginning.{IsOpeningAt}
use Rattle.sot_guard.specs.declared.turn.SessionEvent.TheVariants.{Instant}
use Rattle.sot_guard.specs.Hearing.{Hearing, IsHearing, NoDrafts}
use Rattle.sot_guard_lines.specs.Sayings.{Saying, StartSaid, InputSaid, DraftSaid, GoSaid, TickSaid}
use Rattle.sot_guard_lines.specs.Sayings.{ResumeSaid, IsSaid}
use Rattle.sot_guard_protocol.specs.Openings.{Starting, TakesStart, IsNoStart}
use Rattle.sot_guard_protocol.specs.Talks.{Talking, tables_of, HasLarge, HasLargeSlot}
use Rattle.sot_guard_protocol.specs.TalkLaws.{HearsLine}

-- what the types of a session and of its guard keep of every talk
pub record IsKept (t : Talking) : Type 0 where
  pub session : IsHearing t.hearing
  pub guard : IsGuarding t.hearing.guarding.accepted t.hearing.guarding.trusted
      t.hearing.guarding.at

-- two sessions are one but for what was told of their last instants, which no answer looks at again
pub record AreOneSession (h k : Hearing) : Type 0 where
  pub guarding : h.guarding ≡ k.guarding
  pub turn : h.turn ≡ k.turn
  pub seen : h.seen ≡ k.seen
  pub drafts : h.drafts ≡ k.drafts
  pub drafted : h.drafted ≡ k.drafted

abbrev pub AreOneTalk : Talking → Talking → Type 0
AreOneTalk t u = AreOneSession t.hearing u.hearing × (t.events ≡ u.events)

-- a talk as it begins about an accepted program, with its plants observed at this time and at these
-- points
pub record IsBegun (accepted : Admitted) (time : ℕ) (start : List (List ℤ)) (t : Talking)
    : Type 0 where
  pub opening : IsOpeningAt accepted.program time start t.hearing.guarding.at
  pub trusted : t.hearing.guarding.trusted ≡ true
  pub accepted_is : t.hearing.guarding.accepted ≡ accepted
  pub turn : t.hearing.turn ≡ Instant
  pub seen : t.hearing.seen ≡ true
  pub no_drafts : NoDrafts t.hearing
  pub no_events : t.events ≡ 0

-- it is one
abbrev pub TalksBeginOnce : Type 0
TalksBeginOnce =
    (accepted : Admitted) (time : ℕ) (start : List (List ℤ)) (t u : Talking) → IsKept t
    → IsKept u → IsBegun accepted time start t → IsBegun accepted time start u
    → AreOneTalk t u

-- no number of what is said has more than 64 bits
abbrev pub HasSmallNumbers : Saying → Type 0
HasSmallNumbers (StartSaid plant point) = HasLarge point → ⊥
HasSmallNumbers (InputSaid topic value) = HasLarge value → ⊥
HasSmallNumbers (DraftSaid node slots) = HasLargeSlot slots → ⊥
HasSmallNumbers GoSaid = Unit {0}
HasSmallNumbers ResumeSaid = Unit {0}
HasSmallNumbers (TickSaid states) = HasLarge states → ⊥

-- .. of whatever a line says, and of each of these lines
abbrev pub IsSmallLine : Tables → List ℕ → Type 0
IsSmallLine p line = (s : Saying) → IsSaid p line s → HasSmallNumbers s

abbrev pub AreSmallLines : Tables → List (List ℕ) → Type 0
AreSmallLines p lines = (i : ℕ) (line : List ℕ) → At lines i line → IsSmallLine p line

-- lines are heard, one after another, each talk keeps what the types keep, and these are the lines
-- of all answers
abbrev pub AreAnswered : Talking → List (List ℕ) → Talking → List (List ℕ) → Type 0
AreAnswered t [] u answers = (u ≡ t) × (answers ≡ [])
AreAnswered t (line ∷ lines) u answers =
    (b : Talking) × (h : HearsLine t line b) × IsKept b
    × ((more : List (List ℕ)) × AreAnswered b lines u more × (answers ≡ h.answer ++ more))

-- two talks that are one, and hear the same lines, answer the same lines, and are one afterwards
abbrev pub LinesAreAnsweredOnce : Type 0
LinesAreAnsweredOnce =
    (t t' u u' : Talking) (lines answers others : List (List ℕ)) → AreWords (tables_of t)
    → IsKept t → AreOneTalk t t' → AreSmallLines (tables_of t) lines
    → AreAnswered t lines u answers → AreAnswered t' lines u' others
    → AreOneTalk u u' × (answers ≡ others)

-- before a talk, what a line says of where the next plant is observed is kept in one way; a line
-- that is not taken has one cause, and is not taken in any way
pub record HearsStartsOnce (a : Starting) (line : List ℕ) : Type 0 where
  pub taken : (b c : Starting) → TakesStart a line b → TakesStart a line c → b ≡ c
  pub cause : (v w : Misheard) → IsNoStart a line v → IsNoStart a line w → v ≡ w
  pub either : IsSmallLine a.accepted.program line → (b : Starting) (why : Misheard)
      → TakesStart a line b → IsNoStart a line why → ⊥

abbrev pub StartsAreHeardOnce : Type 0
StartsAreHeardOnce =
    (a : Starting) (line : List ℕ) → MeetsTableRules a.accepted.program
    → AreWords a.accepted.program → HearsStartsOnce a line
