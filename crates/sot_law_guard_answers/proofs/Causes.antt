-- Why a line is not taken has one answer, and what is taken has none.
use Rattle.std.proofs.Common.{◌≡◌, ◌∙◌, ◌<◌, ◌≤◌, ℕ, ℤ, Bool, true, false, inl, inr, List, Option, None, Some, sym, refl, arith}
use Rattle.std.specs.Prelude.{◌⊎◌}
use Rattle.std.proofs.lemmas.Bool.{false≢true}
use Rattle.sot_world.specs.Configurations.{is_left}
use Rattle.sot_world.specs.Changes.{ArePoints}
use Rattle.sot_world.specs.Events.{IsTypedInput}
use Rattle.sot_summary.specs.Outside.{points_in}
use Rattle.sot_guard.specs.declared.turn.SessionEvent.{SessionEvent}
use Rattle.sot_guard.specs.declared.turn.SessionEvent.TheVariants.{Instant, Tick}
use Rattle.sot_guard.specs.declared.misheard.Misheard.{Misheard}
use Rattle.sot_guard.specs.declared.misheard.Misheard.TheVariants.{OutOfTurn, TooFar, NotALine, NotDue, AlreadyDrafted, OutsideType, NotSeen}
use Rattle.sot_guard.specs.Guarding.{last_time}
use Rattle.sot_guard.specs.Hearing.{Hearing, program_of, has_drafted, IsInputOf, IsExternal}
use Rattle.sot_guard.specs.declared.outside.Outside.{Outside}
use Rattle.sot_guard.specs.declared.told.Told.{Told}
use Rattle.sot_guard.specs.Hearing.{TakesInput, TakesDraft, TakesTick}
use Rattle.sot_guard.specs.Hearing.{RefusesInput, RefusesDraft, RefusesGo, RefusesTick, RefusesResume}
use Rattle.sot_guard_lines.specs.Sayings.{Saying, StartSaid, InputSaid, DraftSaid, GoSaid, TickSaid, ResumeSaid}
use Rattle.sot_guard_protocol.specs.declared.heard.Heard.{Heard}
use Rattle.sot_guard_protocol.specs.Talks.{Talking, tables_of, draft_of, Takes, Refuses, AnswersResume}
use Rattle.sot_law_guard_answers.specs.Answers.{HasSmallNumbers}

pub turns_differ : (turn : SessionEvent) → turn ≡ Instant → turn ≡ Tick → ⊥
turns_differ turn a b = (let e = sym a ∙ b in cc)

flags_differ : (b : Bool) → b ≡ true → b ≡ false → ⊥
flags_differ b on off = false≢true (sym off ∙ on)

-- the causes of each kind of line, and what each of them asks for
abbrev InputCause : Hearing → ℕ → List ℤ → Misheard → Type 0
InputCause h topic value why =
    ((why ≡ OutOfTurn) × (h.turn ≡ Tick)) ⊎ ((why ≡ NotALine) × (h.turn ≡ Instant) × (IsInputOf (program_of h) topic value → ⊥))
    ⊎ ((why ≡ OutsideType) × (h.turn ≡ Instant) × IsInputOf (program_of h) topic value × (IsTypedInput (program_of h) topic value → ⊥))

input_cause : (h : Hearing) (topic : ℕ) (value : List ℤ) (why : Misheard) → RefusesInput h topic value why → InputCause h topic value why
input_cause h topic value OutOfTurn r = inl (refl, r)
input_cause h topic value TooFar r = absurd r
input_cause h topic value NotALine r = inr (inl (refl, r.0, r.1))
input_cause h topic value NotDue r = absurd r
input_cause h topic value AlreadyDrafted r = absurd r
input_cause h topic value OutsideType r = inr (inr (refl, r.0, r.1, r.2))
input_cause h topic value NotSeen r = absurd r

abbrev DraftCause : Hearing → ℕ → Misheard → Type 0
DraftCause h n why =
    ((why ≡ OutOfTurn) × (h.turn ≡ Tick)) ⊎ ((why ≡ NotALine) × (h.turn ≡ Instant) × (IsExternal (program_of h) n → ⊥))
    ⊎ ((why ≡ NotDue) × (h.turn ≡ Instant) × IsExternal (program_of h) n × (is_left h.guarding.at n ≡ false))
    ⊎ ((why ≡ AlreadyDrafted) × (h.turn ≡ Instant) × IsExternal (program_of h) n × (is_left h.guarding.at n ≡ true) × (has_drafted h n ≡ true))

draft_cause : (h : Hearing) (n : ℕ) (why : Misheard) → RefusesDraft h n why → DraftCause h n why
draft_cause h n OutOfTurn r = inl (refl, r)
draft_cause h n TooFar r = absurd r
draft_cause h n NotALine r = inr (inl (refl, r.0, r.1))
draft_cause h n NotDue r = inr (inr (inl (refl, r.0, r.1, r.2)))
draft_cause h n AlreadyDrafted r = inr (inr (inr (refl, r.0, r.1, r.2, r.3)))
draft_cause h n OutsideType r = absurd r
draft_cause h n NotSeen r = absurd r

go_cause : (h : Hearing) (why : Misheard) → RefusesGo h why → (why ≡ OutOfTurn) × (h.turn ≡ Tick)
go_cause h OutOfTurn r = (refl, r)
go_cause h TooFar r = absurd r
go_cause h NotALine r = absurd r
go_cause h NotDue r = absurd r
go_cause h AlreadyDrafted r = absurd r
go_cause h OutsideType r = absurd r
go_cause h NotSeen r = absurd r

abbrev TickCause : Hearing → List (List ℤ) → Misheard → Type 0
TickCause h points why =
    ((why ≡ OutOfTurn) × (h.turn ≡ Instant)) ⊎ ((why ≡ TooFar) × (h.turn ≡ Tick) × (last_time ≤ h.guarding.at.time))
    ⊎ ((why ≡ NotALine) × (h.turn ≡ Tick) × (h.guarding.at.time < last_time) × (ArePoints (program_of h) points → ⊥))

tick_cause : (h : Hearing) (points : List (List ℤ)) (why : Misheard) → RefusesTick h points why → TickCause h points why
tick_cause h points OutOfTurn r = inl (refl, r)
tick_cause h points TooFar r = inr (inl (refl, r.0, r.1))
tick_cause h points NotALine r = inr (inr (refl, r.0, r.1, r.2))
tick_cause h points NotDue r = absurd r
tick_cause h points AlreadyDrafted r = absurd r
tick_cause h points OutsideType r = absurd r
tick_cause h points NotSeen r = absurd r

abbrev ResumeCause : Hearing → Misheard → Type 0
ResumeCause h why =
    ((why ≡ OutOfTurn) × (h.turn ≡ Tick)) ⊎ ((why ≡ NotDue) × (h.turn ≡ Instant) × (h.guarding.trusted ≡ true))
    ⊎ ((why ≡ NotSeen) × (h.turn ≡ Instant) × (h.guarding.trusted ≡ false) × (h.seen ≡ false))

resume_cause : (h : Hearing) (why : Misheard) → RefusesResume h why → ResumeCause h why
resume_cause h OutOfTurn r = inl (refl, r)
resume_cause h TooFar r = absurd r
resume_cause h NotALine r = absurd r
resume_cause h NotDue r = inr (inl (refl, r.0, r.1))
resume_cause h AlreadyDrafted r = absurd r
resume_cause h OutsideType r = absurd r
resume_cause h NotSeen r = inr (inr (refl, r.0, r.1, r.2))

-- two of them are one
input_once : (h : Hearing) (topic : ℕ) (value : List ℤ) (v w : Misheard) → InputCause h topic value v → InputCause h topic value w → v ≡ w
input_once h topic value v w (inl a) (inl b) = a.0 ∙ sym b.0
input_once h topic value v w (inl a) (inr (inl b)) = absurd (turns_differ h.turn b.1 a.1)
input_once h topic value v w (inl a) (inr (inr b)) = absurd (turns_differ h.turn b.1 a.1)
input_once h topic value v w (inr (inl a)) (inl b) = absurd (turns_differ h.turn a.1 b.1)
input_once h topic value v w (inr (inl a)) (inr (inl b)) = a.0 ∙ sym b.0
input_once h topic value v w (inr (inl a)) (inr (inr b)) = absurd (a.2 b.2)
input_once h topic value v w (inr (inr a)) (inl b) = absurd (turns_differ h.turn a.1 b.1)
input_once h topic value v w (inr (inr a)) (inr (inl b)) = absurd (b.2 a.2)
input_once h topic value v w (inr (inr a)) (inr (inr b)) = a.0 ∙ sym b.0

draft_once : (h : Hearing) (n : ℕ) (v w : Misheard) → DraftCause h n v → DraftCause h n w → v ≡ w
draft_once h n v w (inl a) (inl b) = a.0 ∙ sym b.0
draft_once h n v w (inl a) (inr (inl b)) = absurd (turns_differ h.turn b.1 a.1)
draft_once h n v w (inl a) (inr (inr (inl b))) = absurd (turns_differ h.turn b.1 a.1)
draft_once h n v w (inl a) (inr (inr (inr b))) = absurd (turns_differ h.turn b.1 a.1)
draft_once h n v w (inr (inl a)) (inl b) = absurd (turns_differ h.turn a.1 b.1)
draft_once h n v w (inr (inl a)) (inr (inl b)) = a.0 ∙ sym b.0
draft_once h n v w (inr (inl a)) (inr (inr (inl b))) = absurd (a.2 b.2)
draft_once h n v w (inr (inl a)) (inr (inr (inr b))) = absurd (a.2 b.2)
draft_once h n v w (inr (inr (inl a))) (inl b) = absurd (turns_differ h.turn a.1 b.1)
draft_once h n v w (inr (inr (inl a))) (inr (inl b)) = absurd (b.2 a.2)
draft_once h n v w (inr (inr (inl a))) (inr (inr (inl b))) = a.0 ∙ sym b.0
draft_once h n v w (inr (inr (inl a))) (inr (inr (inr b))) = absurd (flags_differ (is_left h.guarding.at n) b.3 a.3)
draft_once h n v w (inr (inr (inr a))) (inl b) = absurd (turns_differ h.turn a.1 b.1)
draft_once h n v w (inr (inr (inr a))) (inr (inl b)) = absurd (b.2 a.2)
draft_once h n v w (inr (inr (inr a))) (inr (inr (inl b))) = absurd (flags_differ (is_left h.guarding.at n) a.3 b.3)
draft_once h n v w (inr (inr (inr a))) (inr (inr (inr b))) = a.0 ∙ sym b.0

tick_once : (h : Hearing) (points : List (List ℤ)) (v w : Misheard) → TickCause h points v → TickCause h points w → v ≡ w
tick_once h points v w (inl a) (inl b) = a.0 ∙ sym b.0
tick_once h points v w (inl a) (inr (inl b)) = absurd (turns_differ h.turn a.1 b.1)
tick_once h points v w (inl a) (inr (inr b)) = absurd (turns_differ h.turn a.1 b.1)
tick_once h points v w (inr (inl a)) (inl b) = absurd (turns_differ h.turn b.1 a.1)
tick_once h points v w (inr (inl a)) (inr (inl b)) = a.0 ∙ sym b.0
tick_once h points v w (inr (inl a)) (inr (inr b)) = (let late = a.2 in let soon = b.2 in absurd (omega (arith, late, soon)))
tick_once h points v w (inr (inr a)) (inl b) = absurd (turns_differ h.turn b.1 a.1)
tick_once h points v w (inr (inr a)) (inr (inl b)) = (let soon = a.2 in let late = b.2 in absurd (omega (arith, late, soon)))
tick_once h points v w (inr (inr a)) (inr (inr b)) = a.0 ∙ sym b.0

resume_once : (h : Hearing) (v w : Misheard) → ResumeCause h v → ResumeCause h w → v ≡ w
resume_once h v w (inl a) (inl b) = a.0 ∙ sym b.0
resume_once h v w (inl a) (inr (inl b)) = absurd (turns_differ h.turn b.1 a.1)
resume_once h v w (inl a) (inr (inr b)) = absurd (turns_differ h.turn b.1 a.1)
resume_once h v w (inr (inl a)) (inl b) = absurd (turns_differ h.turn a.1 b.1)
resume_once h v w (inr (inl a)) (inr (inl b)) = a.0 ∙ sym b.0
resume_once h v w (inr (inl a)) (inr (inr b)) = absurd (flags_differ h.guarding.trusted a.2 b.2)
resume_once h v w (inr (inr a)) (inl b) = absurd (turns_differ h.turn a.1 b.1)
resume_once h v w (inr (inr a)) (inr (inl b)) = absurd (flags_differ h.guarding.trusted b.2 a.2)
resume_once h v w (inr (inr a)) (inr (inr b)) = a.0 ∙ sym b.0

-- the cause of a line, by what it says
abbrev pub Cause : Hearing → Saying → Misheard → Type 0
Cause h (StartSaid plant point) why = why ≡ OutOfTurn
Cause h (InputSaid topic value) why = InputCause h topic value why
Cause h (DraftSaid node slots) why = DraftCause h node why
Cause h GoSaid why = (why ≡ OutOfTurn) × (h.turn ≡ Tick)
Cause h ResumeSaid why = ResumeCause h why
Cause h (TickSaid states) why = TickCause h (points_in (program_of h).plants states) why

pub cause_of : (h : Hearing) (s : Saying) (why : Misheard) → HasSmallNumbers s → Refuses h s why → Cause h s why
cause_of h (StartSaid plant point) why small r = r
cause_of h (InputSaid topic value) why small (inl r) = input_cause h topic value why r
cause_of h (InputSaid topic value) why small (inr (large, has)) = absurd (small has)
cause_of h (DraftSaid node slots) why small (inl r) = draft_cause h node why r
cause_of h (DraftSaid node slots) why small (inr (large, has)) = absurd (small has)
cause_of h GoSaid why small r = go_cause h why r
cause_of h ResumeSaid why small r = resume_cause h why r
cause_of h (TickSaid states) why small (inl r) = tick_cause h (points_in (program_of h).plants states) why r
cause_of h (TickSaid states) why small (inr (large, has)) = absurd (small has)

pub cause_once : (h : Hearing) (s : Saying) (v w : Misheard) → Cause h s v → Cause h s w → v ≡ w
cause_once h (StartSaid plant point) v w a b = a ∙ sym b
cause_once h (InputSaid topic value) v w a b = input_once h topic value v w a b
cause_once h (DraftSaid node slots) v w a b = draft_once h node v w a b
cause_once h GoSaid v w a b = a.0 ∙ sym b.0
cause_once h ResumeSaid v w a b = resume_once h v w a b
cause_once h (TickSaid states) v w a b = tick_once h (points_in (program_of h).plants states) v w a b

-- what is taken has no cause not to be
input_taken : (h k : Hearing) (topic : ℕ) (value : List ℤ) (why : Misheard) → TakesInput h topic value k → InputCause h topic value why → ⊥
input_taken h k topic value why t (inl a) = turns_differ h.turn t.turn a.1
input_taken h k topic value why t (inr (inl a)) = a.2 (t.step.info, t.step.is, t.step.outside, t.step.size)
input_taken h k topic value why t (inr (inr a)) = a.3 (t.step.info, t.step.is, t.step.typed)

draft_taken : (h k : Hearing) (n : ℕ) (draft : List (Option ℤ)) (why : Misheard) → TakesDraft h n draft k → DraftCause h n why → ⊥
draft_taken h k n draft why t (inl a) = turns_differ h.turn t.turn a.1
draft_taken h k n draft why t (inr (inl a)) = a.2 t.external
draft_taken h k n draft why t (inr (inr (inl a))) = flags_differ (is_left h.guarding.at n) t.left a.3
draft_taken h k n draft why t (inr (inr (inr a))) = flags_differ (has_drafted h n) a.4 t.first

tick_taken : (h k : Hearing) (points : List (List ℤ)) (o : Option Outside) (why : Misheard) → TakesTick h points o k → TickCause h points why → ⊥
tick_taken h k points o why t (inl a) = turns_differ h.turn a.1 t.turn
tick_taken h k points o why t (inr (inl a)) = (let late = a.2 in let soon = t.time in omega (arith, late, soon))
tick_taken h k points o why t (inr (inr a)) = a.3 t.points_are

resume_taken : (h k : Hearing) (m : Option ℕ) (why : Misheard) → AnswersResume h m k → ResumeCause h why → ⊥
resume_taken h k None why t (inl a) = turns_differ h.turn t.turn a.1
resume_taken h k None why t (inr (inl a)) = flags_differ h.guarding.trusted a.2 t.regains.was
resume_taken h k None why t (inr (inr a)) = flags_differ h.seen t.seen a.3
resume_taken h k (Some m) why t (inl a) = turns_differ h.turn t.1.turn a.1
resume_taken h k (Some m) why t (inr (inl a)) = flags_differ h.guarding.trusted a.2 t.1.trusted
resume_taken h k (Some m) why t (inr (inr a)) = flags_differ h.seen t.1.seen a.3

pub taken_no_cause : (t u : Talking) (s : Saying) (h : Heard) (answer : List (List ℕ)) (why : Misheard) → Takes t s h answer u → Cause t.hearing s why → ⊥
taken_no_cause t u (StartSaid plant point) h answer why takes cause = takes
taken_no_cause t u (InputSaid topic value) h answer why takes cause = input_taken t.hearing u.hearing topic value why takes.1 cause
taken_no_cause t u (DraftSaid node slots) h answer why takes cause = draft_taken t.hearing u.hearing node (draft_of slots) why takes.1 cause
taken_no_cause t u GoSaid h answer why takes cause = turns_differ t.hearing.turn takes.1.turn cause.1
taken_no_cause t u ResumeSaid h answer why takes cause = resume_taken t.hearing u.hearing takes.0 why takes.2 cause
taken_no_cause t u (TickSaid states) h answer why takes cause =
    tick_taken t.hearing u.hearing (points_in (tables_of t).plants states) takes.0 why takes.2 cause

-- the cause by a session of which something else is told
pub cause_retold : (h : Hearing) (x : List Told) (s : Saying) (why : Misheard) → Cause (record h { told = x }) s why → Cause h s why
cause_retold h x (StartSaid plant point) why cause = cause
cause_retold h x (InputSaid topic value) why cause = cause
cause_retold h x (DraftSaid node slots) why cause = cause
cause_retold h x GoSaid why cause = cause
cause_retold h x ResumeSaid why cause = cause
cause_retold h x (TickSaid states) why cause = cause
