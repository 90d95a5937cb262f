-- What contracts see of a talk, what each line of the robot changes in it and is answered with, and
-- why a line is not taken.
use Rattle.std.specs.Prelude.{ℕ, ◌+◌, ◌-◌, ◌^◌, ◌≤◌, ◌≡◌, ◌⊎◌, ℤ, Bool, List, [], ◌∷◌}
use Rattle.std.specs.Prelude.{Option, None, Some, Result, codes}
use Rattle.std.specs.Prelude.{MatchResult, MatchOption, map, min, length}
use Rattle.std.specs.Option.{option_map}
use Rattle.sot_lists.specs.Places.{Has}
use Rattle.sot_lang.specs.Tables.{Tables}
use Rattle.sot_code.specs.Recorded.{in_slots}
use Rattle.sot_world.specs.HistoryEntry.{InputAt}
use Rattle.sot_trace.specs.Lines.{line_of}
use Rattle.sot_trace.specs.Traces.{text_of}
use Rattle.sot_trace_lines.specs.Bits.{Has64Bits}
use Rattle.sot_summary.specs.Outside.{points_in}
use Rattle.sot_guard.specs.declared.outside.Outside.{Outside}
use Rattle.sot_guard.specs.declared.turn.SessionEvent.{SessionEvent}
use Rattle.sot_guard.specs.declared.turn.SessionEvent.TheVariants.{Instant, Tick}
use Rattle.sot_guard.specs.declared.misheard.Misheard.{Misheard}
use Rattle.sot_guard.specs.declared.misheard.Misheard.TheVariants.{OutOfTurn, NotALine}
use Rattle.sot_guard.specs.declared.misheard.Misheard.TheVariants.{OutsideType}
use Rattle.sot_guard.specs.Hearing.{Hearing, program_of, TakesInput, TakesDraft}
use Rattle.sot_guard.specs.Hearing.{GoesThrough, TakesTick, RefusesInput, RefusesDraft}
use Rattle.sot_guard.specs.Hearing.{RefusesGo, RefusesTick, IsWithdrawn, PassesUnseen}
use Rattle.sot_guard.specs.Hearing.{Resumes, MayNotResume, RefusesResume}
use Rattle.sot_guard.specs.Guarding.{last_time}
use Rattle.sot_guard_lines.specs.Sayings.{Saying, StartSaid, InputSaid, DraftSaid, GoSaid, TickSaid}
use Rattle.sot_guard_lines.specs.Sayings.{ResumeSaid, IsSaid}
use Rattle.sot_guard_protocol.specs.declared.heard.Heard.{Heard}
use Rattle.sot_guard_protocol.specs.declared.heard.Heard.TheVariants as heard
use Rattle.sot_guard_protocol.specs.declared.aside.Aside.{Aside}
use Rattle.sot_guard_protocol.specs.Asides.{aside_of}
use Rattle.sot_guard_protocol.specs.Answers.{instant_lines, outside_lines, ignored_line, blind_line}
use Rattle.sot_guard_protocol.specs.Answers.{resume_line}

-- a session, and how many events there were so far: inputs, decisions, firings and ticks
pub record Talking : Type 0 where
  pub hearing : Hearing
  pub events : ℕ

-- the program, the time and the numbers of all scalars
abbrev pub tables_of : Talking → Tables
tables_of t = program_of t.hearing

abbrev pub time_of : Talking → ℕ
time_of t = t.hearing.guarding.at.time

abbrev pub scalars_of : Talking → List ℤ
scalars_of t = t.hearing.guarding.at.scalars

-- so many events more, as far as a count has 64 bits
abbrev pub counted : ℕ → ℕ → ℕ
counted n more = min (n + more) (2 ^ 64 - 1)

-- the draft of some slots, without their marks
abbrev pub draft_of : List (Option (Bool × ℤ)) → List (Option ℤ)
draft_of slots = in_slots (map (option_map (λ slot. slot.1)) slots)

-- the models are trusted again; or they are not, since of this module, the first one, the plant
-- would not be held safe, and nothing changes
abbrev pub AnswersResume : Hearing → Option ℕ → Hearing → Type 0
AnswersResume h m k = MatchOption m (Resumes h k) (λ m. (k ≡ h) × MayNotResume h m)

-- what is said is taken: what that changes, and the lines that it is answered with
abbrev pub Takes : Talking → Saying → Heard → List (List ℕ) → Talking → Type 0
Takes t (StartSaid plant point) h lines u = ⊥
Takes t (InputSaid topic value) h lines u =
    (h ≡ heard.Input) × TakesInput t.hearing topic value u.hearing
    × (u.events ≡ counted t.events 1)
    × (lines ≡ line_of (tables_of u) (InputAt (time_of u) topic value) ∷ [])
Takes t (DraftSaid node slots) h lines u =
    (h ≡ heard.Draft) × TakesDraft t.hearing node (draft_of slots) u.hearing
    × (u.events ≡ t.events) × (lines ≡ [])
Takes t GoSaid h lines u =
    (h ≡ heard.Go) × GoesThrough t.hearing u.hearing
    × (u.events ≡ counted t.events (length u.hearing.told))
    × (lines ≡ instant_lines (tables_of u) (time_of u) (scalars_of u) u.hearing.told)
Takes t ResumeSaid h lines u =
    (m : Option ℕ) × (h ≡ heard.Resume) × AnswersResume t.hearing m u.hearing
    × (u.events ≡ t.events) × (lines ≡ resume_line (tables_of u) (time_of u) m ∷ [])
Takes t (TickSaid states) h lines u =
    (outside : Option Outside) × (h ≡ heard.Tick)
    × TakesTick t.hearing (points_in (tables_of t).plants states) outside u.hearing
    × (u.events ≡ counted t.events 1)
    × (lines ≡ outside_lines (tables_of u) (time_of u) outside)

-- some number has more than 64 bits
abbrev pub HasLarge : List ℤ → Type 0
HasLarge zs = (z : ℤ) × Has zs z × (Has64Bits z → ⊥)

abbrev pub HasLargeSlot : List (Option (Bool × ℤ)) → Type 0
HasLargeSlot slots = (slot : Bool × ℤ) × Has slots (Some slot) × (Has64Bits slot.1 → ⊥)

-- a number of more than 64 bits comes in its turn
abbrev pub IsTooLarge : Hearing → SessionEvent → Misheard → Type 0
IsTooLarge h turn why = (why ≡ OutsideType) × (h.turn ≡ turn)

-- why a line with such a number is not taken, which may come in this turn
abbrev pub RefusesLarge : Hearing → SessionEvent → Misheard → Type 0
RefusesLarge h turn why =
    IsTooLarge h turn why ⊎ ((why ≡ OutOfTurn) × (h.turn ≡ turn → ⊥))

-- what is said is not taken
abbrev pub Refuses : Hearing → Saying → Misheard → Type 0
Refuses h (StartSaid plant point) why = why ≡ OutOfTurn
Refuses h (InputSaid topic value) why =
    RefusesInput h topic value why ⊎ (IsTooLarge h Instant why × HasLarge value)
Refuses h (DraftSaid node slots) why =
    RefusesDraft h node why ⊎ (IsTooLarge h Instant why × HasLargeSlot slots)
Refuses h GoSaid why = RefusesGo h why
Refuses h ResumeSaid why = RefusesResume h why
Refuses h (TickSaid states) why =
    RefusesTick h (points_in (program_of h).plants states) why
    ⊎ (IsTooLarge h Tick why × HasLarge states)

-- what is said is taken, and answered; or it is not, and nothing changes, and nothing is put
abbrev pub Answers : Talking → Saying → Talking → (List ℕ → Type 0) → Result Heard Misheard → Type 0
Answers t s u puts result = MatchResult result
    (λ h. (lines : List (List ℕ)) × Takes t s h lines u × puts (text_of lines))
    (λ why. (u ≡ t) × Refuses t.hearing s why × puts [])

-- a line says nothing, or what it says is not taken
abbrev pub Mishears : Talking → List ℕ → Misheard → Type 0
Mishears t line why =
    ((why ≡ NotALine) × ((s : Saying) → IsSaid (tables_of t) line s → ⊥))
    ⊎ ((s : Saying) × IsSaid (tables_of t) line s × Refuses t.hearing s why)

-- a line is taken
pub record TakesLine (t : Talking) (line : List ℕ) (h : Heard) (answer : List (List ℕ))
    (u : Talking) : Type 0 where
  pub saying : Saying
  pub said : IsSaid (tables_of t) line saying
  pub takes : Takes t saying h answer u

-- a draft, an input or a resume is not taken: nothing changes, and that is told
pub record Ignores (t : Talking) (line : List ℕ) (h : Heard) (answer : List (List ℕ))
    (u : Talking) : Type 0 where
  pub aside : Aside
  pub is : aside_of line ≡ Some aside
  pub why : Misheard
  pub misheard : Mishears t line why
  pub heard_is : h ≡ heard.Ignored
  pub same : u ≡ t
  pub answered : answer ≡ ignored_line (tables_of t) (time_of t) aside line why ∷ []

-- the plants are lost from sight: a tick passes unseen where one was to come; and in an instant the
-- models are trusted no more
abbrev pub LosesSight : Talking → Talking → Type 0
LosesSight t k =
    (PassesUnseen t.hearing k.hearing × (k.events ≡ counted t.events 1))
    ⊎ ((t.hearing.turn ≡ Instant) × IsWithdrawn t.hearing k.hearing × (k.events ≡ t.events))

-- where the line says `go`, the instant is gone through all the same
abbrev pub GoesOnBlind : Talking → List ℕ → List (List ℕ) → Talking → Type 0
GoesOnBlind k line more u =
    ((line ≡ codes "go") × GoesThrough k.hearing u.hearing
    × (u.events ≡ counted k.events (length u.hearing.told))
    × (more ≡ instant_lines (tables_of u) (time_of u) (scalars_of u) u.hearing.told))
    ⊎ ((line ≡ codes "go" → ⊥) × (u ≡ k) × (more ≡ []))

-- another line is not taken: the plants are lost from sight, and that is told
pub record GoesBlind (t : Talking) (line : List ℕ) (h : Heard) (answer : List (List ℕ))
    (u : Talking) : Type 0 where
  pub none : aside_of line ≡ None
  pub why : Misheard
  pub misheard : Mishears t line why
  pub heard_is : h ≡ heard.Blind
  pub unseeing : Talking
  pub loses : LosesSight t unseeing
  pub more : List (List ℕ)
  pub goes_on : GoesOnBlind unseeing line more u
  pub answered : answer ≡ blind_line (time_of unseeing) why ∷ more

-- what a line changes, and the lines that it is answered with
abbrev pub HearsSo : Talking → List ℕ → Heard → List (List ℕ) → Talking → Type 0
HearsSo t line h answer u =
    TakesLine t line h answer u ⊎ Ignores t line h answer u ⊎ GoesBlind t line h answer u

-- a line is heard, and its answer is put
abbrev pub Hears : Talking → List ℕ → Heard → Talking → (List ℕ → Type 0) → Type 0
Hears t line h u puts =
    (answer : List (List ℕ)) × HearsSo t line h answer u × puts (text_of answer)

-- nothing is said any more: the last instant was gone through
abbrev pub IsOver : Talking → Type 0
IsOver t = (t.hearing.turn ≡ Tick) × (last_time ≤ time_of t)
