-- What is heard in the next line, and in all lines.
use Rattle.std.specs.Prelude.{◌≡◌, ℕ, suc, ◌+◌, ◌-◌, ◌^◌, ◌<◌, ◌⊎◌, Bool, true, false, List, []}
use Rattle.std.specs.Prelude.{◌∷◌, Option, Some, None, Result, Ok, Err, length, take, drop}
use Rattle.std.specs.Io.KnownBytes.{Appends, IsAtEnd}
use Rattle.sot_ports.specs.Faults.{Rose}
use Rattle.sot_trace.specs.Traces.{text_of}
use Rattle.sot_trace_lines.specs.LentLines.{lent_lines}
use Rattle.sot_guard.specs.declared.misheard.Misheard.{Misheard}
use Rattle.sot_guard.specs.declared.misheard.Misheard.TheVariants.{NotALine}
use Rattle.sot_guard_protocol.specs.Openings.{Starting, HasAll, TakesStart, IsNoStart}
use Rattle.sot_guard_protocol.specs.Talks.{Talking, IsOver}
use Rattle.sot_guard_protocol.specs.TalkLaws.{HearsLine}
use Rattle.sot_guard_input.specs.declared.ear.Ear.{Ear}
use Rattle.sot_guard_input.specs.Reading.{Reads, IsSettled, IsLine, ends_line}
use Rattle.sot_guard_program.specs.declared.halt.Stop.{Stop}
use Rattle.sot_guard_program.specs.declared.halt.Stop.TheVariants as stops
use Rattle.sot_guard_program.specs.declared.halt.Halt.{Halt}
use Rattle.sot_guard_program.specs.Conversations.{Starts, Answers}
use Rattle.sot_guard_program.specs.Moments.{Ears, Mouth, Passes, Utters}
use Rattle.sot_guard_program.specs.Says.{IsAtEnds, IsLong, NoFault}

-- the bytes of one line
abbrev pub IsOneLine : List ℕ → List ℕ → Type 0
IsOneLine passed line = lent_lines passed ≡ line ∷ []

-- the length of the next line; or there is none any more
abbrev pub IsNextLine : Option ℕ → Option (List ℕ) → Ear → Type 0
IsNextLine (Some len) left e = IsLine len left e
IsNextLine None left e = (e.ended ≡ true) × (e.buffer ≡ []) × IsAtEnd left

-- why there is no line: it is too long, or the source has failed
abbrev pub IsNoLine : Stop → Ears → Ears → Type 0
IsNoLine (stops.Misheard why) a b = (why ≡ NotALine) × IsLong b × (b.faults ≡ a.faults)
IsNoLine stops.Missing a b = ⊥
IsNoLine stops.Source a b = Rose a.faults b.faults
IsNoLine stops.Sink a b = ⊥

-- the line that was passed is at fault, so that this holds; or the next one is too long
abbrev pub Misses : (List ℕ → Misheard → Type 0) → Ears → Ears → Misheard → Type 0
Misses Faults a b why =
    ((passed line : List ℕ) × Passes a b passed × IsOneLine passed line × Faults line why)
    ⊎ (Passes a b [] × (why ≡ NotALine) × IsLong b)

-- the source has failed, and nothing was passed
abbrev pub FailsToRead : Ears → Ears → Type 0
FailsToRead a b = Reads a.left b.left a.waiting b.waiting [] × Rose a.faults b.faults

-- the sink has failed, and has taken a front of a text that is not all of it
abbrev pub CutsOff : Mouth → Mouth → List ℕ → Type 0
CutsOff x y text =
    Rose x.faults y.faults
    × ((n : ℕ) × (n < length text) × Appends x.held y.held (take n text))

-- a line says where the next plant is observed; or it does not, and why
abbrev pub TakesFirst : Starting → List ℕ → Starting → Result (Unit {0}) Stop → Type 0
TakesFirst a line b (Ok ok) = TakesStart a line b
TakesFirst a line b (Err (stops.Misheard why)) = (b ≡ a) × IsNoStart a line why
TakesFirst a line b (Err stops.Missing) = ⊥
TakesFirst a line b (Err stops.Source) = ⊥
TakesFirst a line b (Err stops.Sink) = ⊥

-- the line of the first so many bytes that wait says where the next plant is observed; or it does
-- not, and why
pub record PassesFirst (a b : Starting) (len : ℕ) (e f : Ear) (result : Result (Unit {0}) Stop)
    : Type 0 where
  pub line : List ℕ
  pub is : IsOneLine (take len e.buffer) line
  pub takes : TakesFirst a line b result
  pub waiting : f.buffer ≡ drop len e.buffer
  pub ended : f.ended ≡ e.ended

-- the next line says where the next plant is observed
pub record HearsFirst (a b : Starting) (e f : Ears) : Type 0 where
  pub passed : List ℕ
  pub line : List ℕ
  pub passes : Passes e f passed
  pub is : IsOneLine passed line
  pub takes : TakesStart a line b
  pub whole : f.ended ≡ false → ends_line passed ≡ true
  pub settled : IsSettled f.left f.waiting f.ended

-- the next line does not say where the next plant is observed, and why
abbrev pub StopsFirst : Starting → Ears → Ears → Stop → Type 0
StopsFirst a e f (stops.Misheard why) = Misses (IsNoStart a) e f why
StopsFirst a e f stops.Missing = Passes e f [] × IsAtEnds f
StopsFirst a e f stops.Source = FailsToRead e f
StopsFirst a e f stops.Sink = ⊥

abbrev pub AnswersFirst : Starting → Starting → Ears → Ears → Result (Unit {0}) Stop → Type 0
AnswersFirst a b e f (Ok ok) = HearsFirst a b e f
AnswersFirst a b e f (Err stop) = StopsFirst a e f stop

-- lines say where plants are observed first
pub record HearsFirsts (a b : Starting) (e f : Ears) : Type 0 where
  pub passed : List ℕ
  pub passes : Passes e f passed
  pub starts : Starts a (lent_lines passed) b
  pub whole : (f.ended ≡ true) ⊎ (ends_line passed ≡ true)
  pub settled : IsSettled f.left f.waiting f.ended

-- lines say where plants are observed first, up to one that does not
pub record HaltsFirsts (a : Starting) (e f : Ears) (halt : Halt) : Type 0 where
  pub passed : List ℕ
  pub middle : Ears
  pub last : Starting
  pub passes : Passes e middle passed
  pub starts : Starts a (lent_lines passed) last
  pub whole : (halt.stop ≡ stops.Missing) ⊎ (ends_line passed ≡ true)
  pub stops : StopsFirst last middle f halt.stop
  pub line : halt.line ≡ suc (length (lent_lines passed))

abbrev pub AnswersFirsts : Starting → Starting → Ears → Ears → Result (Unit {0}) Halt → Type 0
AnswersFirsts a b e f (Ok ok) = HearsFirsts a b e f × HasAll b
AnswersFirsts a b e f (Err halt) = HaltsFirsts a e f halt

-- a line is heard, and answered; or the sink has failed in its answer
abbrev pub AnswersLine : Talking → List ℕ → Talking → Mouth → Mouth → Result (Unit {0}) Stop
    → Type 0
AnswersLine t line u x y (Ok ok) =
    (h : HearsLine t line u) × Utters x y (text_of h.answer)
AnswersLine t line u x y (Err (stops.Misheard why)) = ⊥
AnswersLine t line u x y (Err stops.Missing) = ⊥
AnswersLine t line u x y (Err stops.Source) = ⊥
AnswersLine t line u x y (Err stops.Sink) =
    (h : HearsLine t line u) × CutsOff x y (text_of h.answer)

-- the line of the first so many bytes that wait is heard, and answered; or the sink has failed
pub record PassesTaken (t u : Talking) (len : ℕ) (e f : Ear) (x y : Mouth)
    (result : Result (Unit {0}) Stop) : Type 0 where
  pub line : List ℕ
  pub is : IsOneLine (take len e.buffer) line
  pub answers : AnswersLine t line u x y result
  pub waiting : f.buffer ≡ drop len e.buffer
  pub ended : f.ended ≡ e.ended

-- a line is heard, and answered
pub record HearsOne (t u : Talking) (e f : Ears) (x y : Mouth) : Type 0 where
  pub passed : List ℕ
  pub line : List ℕ
  pub passes : Passes e f passed
  pub is : IsOneLine passed line
  pub hears : HearsLine t line u
  pub utters : Utters x y (text_of hears.answer)

-- the next line is heard, and there may be one behind it
pub record HearsNext (t u : Talking) (e f : Ears) (x y : Mouth) : Type 0 where
  pub one : HearsOne t u e f x y
  pub whole : ends_line one.passed ≡ true
  pub open_ : f.ended ≡ false

-- the last line is heard, or there is none
abbrev pub HearsLast : Talking → Talking → Ears → Ears → Mouth → Mouth → Type 0
HearsLast t u e f x y =
    IsAtEnds f × (HearsOne t u e f x y ⊎ ((u ≡ t) × Passes e f [] × (y ≡ x)))

-- the next line is too long, or not answered, and why
abbrev pub StopsNext : Talking → Ears → Ears → Mouth → Mouth → Stop → Type 0
StopsNext t e f x y (stops.Misheard why) = Misses NoFault e f why × Utters x y []
StopsNext t e f x y stops.Missing = ⊥
StopsNext t e f x y stops.Source = FailsToRead e f × (y ≡ x)
StopsNext t e f x y stops.Sink =
    (passed line : List ℕ) × (u : Talking) × Passes e f passed × IsOneLine passed line
    × ((h : HearsLine t line u) × CutsOff x y (text_of h.answer))

abbrev pub AnswersNext : Talking → Talking → Ears → Ears → Mouth → Mouth → Result Bool Stop
    → Type 0
AnswersNext t u e f x y (Ok true) = HearsNext t u e f x y
AnswersNext t u e f x y (Ok false) = HearsLast t u e f x y
AnswersNext t u e f x y (Err stop) = StopsNext t e f x y stop

-- lines are heard and answered, until the talk is over
pub record HearsAll (t u : Talking) (first : ℕ) (e f : Ears) (x y : Mouth) : Type 0 where
  pub passed : List ℕ
  pub text : List ℕ
  pub passes : Passes e f passed
  pub utters : Utters x y text
  pub answers : Answers t (lent_lines passed) u text
  pub over : IsOver u ⊎ IsAtEnds f ⊎ (first + length (lent_lines passed) ≡ 2 ^ 64 - 1)

-- lines are heard and answered, up to one that is not heard, or not answered
pub record HaltsAll (t : Talking) (first : ℕ) (e f : Ears) (x y : Mouth) (halt : Halt) : Type 0
  where
    pub passed : List ℕ
    pub text : List ℕ
    pub middle : Ears
    pub mouth : Mouth
    pub last : Talking
    pub passes : Passes e middle passed
    pub utters : Utters x mouth text
    pub answers : Answers t (lent_lines passed) last text
    pub whole : ends_line passed ≡ true
    pub stops : StopsNext last middle f mouth y halt.stop
    pub line : halt.line ≡ first + length (lent_lines passed)

abbrev pub AnswersAll : Talking → Talking → ℕ → Ears → Ears → Mouth → Mouth
    → Result (Unit {0}) Halt → Type 0
AnswersAll t u first e f x y (Ok ok) = HearsAll t u first e f x y
AnswersAll t u first e f x y (Err halt) = HaltsAll t first e f x y halt
