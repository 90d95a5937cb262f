-- What the functions below `soter` promise it.
use Rattle.std.specs.Prelude.{◌≡◌, ◌≢◌, ℕ, ◌+◌, ◌≤◌, ◌⊎◌, List, ◌++◌, Option, Result, Ok, Err}
use Rattle.std.specs.Prelude.{None, Some, length, vec_len, String}
use Rattle.std.proofs.Common.{Global}
use Rattle.std.specs.Global.{Vec}
use Rattle.std.specs.declared.alloc.AllocError.{AllocError}
use Rattle.sot_fly_worker.specs.Askings.{Asking}
use Rattle.sot_ports.specs.Whole.{ReadsCount}
use Rattle.sot_lang.specs.Tables.{Tables}
use Rattle.sot_lang.specs.declared.cert.Cert.{Cert}
use Rattle.sot_tube.specs.Refusals.{Refusal}
use Rattle.sot_tube.specs.Certified.{IsWellCertified}
use Rattle.sot_tube.specs.Verdict.{verdict}
use Rattle.sot_world.specs.Headline.{EveryRunIsSafe}
use Rattle.sot_world.specs.HistoryEntry.{Logged}
use Rattle.sot_flight.specs.Plans.{Plan}
use Rattle.sot_trace.specs.Traces.{trace_text}
use Rattle.sot_summary.specs.Summaries.{summary_of}
use Rattle.sot_summary.specs.SummaryText.{summary_text}
use Rattle.sot_report.specs.AcceptedTexts.{accepted_text}
use Rattle.sot_report.specs.RefusalTexts.{refusal_text}
use Rattle.sot_report.specs.FaultTexts.{type_text}
use Rattle.sot_report.specs.Missions.{Resolves}
use Rattle.sot_recovery_text.specs.Recovery.{AllRecover, SomeNever}
use Rattle.sot_rules.specs.declared.fault.TypeFault.{TypeFault}
use Rattle.sot_rules.specs.First.{IsFirstFault}
use Rattle.sot_syntax_tree.specs.Trees.{Program}
use Rattle.sot_parser.specs.Programs.{Spells}
use Rattle.sot_certified_text.specs.ReadAgain.{IsCertificateOf, written}
use Rattle.sot_formula.specs.Formulas.{Formula}
use Rattle.sot_formula.specs.Answers.{Refuses}
use Rattle.sot_formula.specs.declared.fail.MonitorFail.{MonitorFail}
use Rattle.sot_formula.specs.declared.fail.MonitorFail.TheVariants as monitor_fails
use Rattle.sot_monitor.specs.Tracked.{Tracked}
use Rattle.sot_monitor.specs.Tracking.{IsNewOf}
use Rattle.sot_cli.specs.Texts.{input_limit, long_text}
use Rattle.sot_cli.specs.Steps.{SilentWhere}
use Rattle.sot_commands.specs.Watched.{IsFormula, HasMeaning, TellsHolds, TellsFails}
use Rattle.sot_commands.specs.WatchTexts.{formula_text}
use Rattle.sot_commands.specs.Texts.{usage_text}
use Rattle.sot_commands.specs.Answers.{IsOutsideOf, IsLegal, IsIllegal, IsCertifiedText}
use Rattle.sot_commands.specs.Answers.{IsNotCertified, SpellsAccepted, Replies}
use Rattle.sot_commands.specs.declared.telling.Telling.{Telling}
use Rattle.sot_commands.specs.declared.telling.Telling.TheVariants.{Trace, Summary, Verdict}
use Rattle.sot_commands.specs.declared.words.Command.{Command}
use Rattle.sot_commands.specs.Words.{Reads, Flies, Asks, AsksReader, AsksFlight, AsksNone}
use Rattle.sot_commands.specs.Ends.{Takes}
use Rattle.sot_commands.specs.Orders.{Orders, CommandOrder, IsOrdered, IsToldOf, IsFailedOf}
use Rattle.sot_commands.specs.Orders.{IsVerdict}
use Rattle.sot_commands.specs.Guests.{GuestsGoOn, IsNothing, SaysHolds, SaysFails, IsNoTrace}
use Rattle.sot_cli.specs.declared.answer.Answer.{Answer}
use Rattle.sot_commands.specs.declared.reply.Reply.{Reply}
use Rattle.sot_commands.specs.declared.reply.Reply.TheVariants.{Said, Flight}

-- what is said of a program's tables with a certificate
abbrev pub Judges : Tables → Cert → ℕ → List ℕ → Type 0
Judges t cert status text =
    ((status ≡ 0) × IsWellCertified t cert.jitter cert × EveryRunIsSafe t cert.jitter
    × (text ≡ accepted_text t cert))
    ⊎ ((status ≡ 1) × ((r : Refusal) × (verdict t cert.jitter cert).Refuses r
    × (text ≡ refusal_text t r)))

-- the trace of a history, or its summary where that is what is told
abbrev pub trace_or_summary : Telling → Tables → Plan → List Logged → List ℕ
trace_or_summary Trace t f history = trace_text t f.start history
trace_or_summary Summary t f history = summary_text (summary_of t f history)
trace_or_summary (Verdict formula) t f history = trace_text t f.start history

-- a monitor is a new one of the formula that watches the flight
abbrev pub Watches : Telling → Tables → Tracked → Type 0
Watches Trace t monitor = ⊥
Watches Summary t monitor = ⊥
Watches (Verdict formula) t monitor = IsNewOf t formula.now monitor

-- what is told of a history that a formula watched
abbrev pub TellsVerdict : Telling → Tables → Plan → List Logged → ℕ → List ℕ → Type 0
TellsVerdict Trace t f history status text = ⊥
TellsVerdict Summary t f history status text = ⊥
TellsVerdict (Verdict formula) t f history status text =
    (x : Formula) × IsFormula t formula.now x
    × (((status ≡ 0) × TellsHolds t f x history text)
    ⊎ ((status ≡ 1) × TellsFails t f x history text))

-- there is a monitor where a formula watches the flight, and none else
abbrev pub IsMonitorFor : Telling → Tables → Option Tracked → Type 0
IsMonitorFor telling t None = IsVerdict telling → ⊥
IsMonitorFor telling t (Some monitor) = Watches telling t monitor

-- the formula that watches the flight, if one does, has a meaning for the program
abbrev pub MeansFor : Telling → Tables → Type 0
MeansFor Trace t = Unit {0}
MeansFor Summary t = Unit {0}
MeansFor (Verdict formula) t = HasMeaning t formula.now

-- a formula was to watch the flight, and this is why it does not
abbrev pub FailsFor : Telling → Tables → MonitorFail → Type 0
FailsFor Trace t fail = ⊥
FailsFor Summary t fail = ⊥
FailsFor (Verdict formula) t fail = Refuses t formula.now fail

-- what is told of a history, with the verdict where a formula watched it
abbrev pub Tells : Telling → Tables → Plan → List Logged → ℕ → List ℕ → Type 0
Tells telling t f history status text =
    ((IsVerdict telling → ⊥) × (status ≡ 0) × (text ≡ trace_or_summary telling t f history))
    ⊎ TellsVerdict telling t f history status text

-- what is said of an accepted program's flight
abbrev pub JudgesFlight : Telling → Tables → ℕ → Plan → ℕ → List ℕ → Type 0
JudgesFlight telling t jitter f status text =
    ((status ≡ 0) × IsToldOf telling t jitter f text)
    ⊎ ((status ≡ 1) × (IsOutsideOf t f text ⊎ IsFailedOf telling t jitter f text))

-- what is said of a program's tables with a certificate and a flight
abbrev pub JudgesFlown : Telling → Tables → Cert → Plan → ℕ → List ℕ → Type 0
JudgesFlown telling t cert f status text =
    (IsWellCertified t cert.jitter cert × EveryRunIsSafe t cert.jitter
    × JudgesFlight telling t cert.jitter f status text)
    ⊎ ((status ≡ 1) × ((r : Refusal) × (verdict t cert.jitter cert).Refuses r
    × (text ≡ refusal_text t r)))

-- what is said of a program's tables with a certificate, a flight and a formula that may watch it:
-- status 3, where the formula has no meaning for the program
abbrev pub JudgesWatched : Telling → Tables → Cert → Plan → ℕ → List ℕ → Type 0
JudgesWatched telling t cert f status text =
    ((MeansFor telling t) × JudgesFlown telling t cert f status text)
    ⊎ ((status ≡ 3) × ((fail : MonitorFail) × (fail ≢ monitor_fails.Memory)
    × FailsFor telling t fail × (text ≡ formula_text fail)))

-- what is said of the lines of a trace of an accepted program's flight
abbrev pub JudgesLines : Tables → ℕ → Plan → List (List ℕ) → ℕ → List ℕ → Type 0
JudgesLines t jitter f lines status text =
    ((status ≡ 0) × IsLegal t jitter f lines text)
    ⊎ ((status ≡ 1) × (IsOutsideOf t f text ⊎ IsIllegal t jitter f lines text))

-- what is said of a program's tables with a certificate, a flight and the lines of a trace
abbrev pub JudgesReplayed : Tables → Cert → Plan → List (List ℕ) → ℕ → List ℕ → Type 0
JudgesReplayed t cert f lines status text =
    (IsWellCertified t cert.jitter cert × EveryRunIsSafe t cert.jitter
    × JudgesLines t cert.jitter f lines status text)
    ⊎ ((status ≡ 1) × ((r : Refusal) × (verdict t cert.jitter cert).Refuses r
    × (text ≡ refusal_text t r)))

-- what is said of the recovery of an accepted program's modules
abbrev pub SaysRecovery : Tables → Cert → ℕ → List ℕ → Type 0
SaysRecovery t cert status text =
    ((status ≡ 0) × AllRecover t cert text) ⊎ ((status ≡ 1) × SomeNever t cert text)

-- what is said of it of a program's tables with a certificate
abbrev pub JudgesRecovery : Tables → Cert → ℕ → List ℕ → Type 0
JudgesRecovery t cert status text =
    (IsWellCertified t cert.jitter cert × EveryRunIsSafe t cert.jitter
    × SaysRecovery t cert status text)
    ⊎ ((status ≡ 1) × ((r : Refusal) × (verdict t cert.jitter cert).Refuses r
    × (text ≡ refusal_text t r)))

-- some text spells a program
abbrev pub IsSpelled : Program → Type 0
IsSpelled p = (bytes : List ℕ) × Spells bytes 0 p

-- a text is that of some program with a certificate that is made for it
abbrev pub IsWritten : List ℕ → Type 0
IsWritten text =
    (bytes : List ℕ) × (p : Program) × (t : Tables) × (cert : Cert) × IsCertificateOf bytes p t cert
    × (text ≡ written p t cert)

-- what is said of a program with its tables: a certificate that is read back, or none and why
abbrev pub CertifiesTables : Program → Tables → ℕ → List ℕ → Type 0
CertifiesTables p t status text =
    ((status ≡ 0) × IsCertifiedText p t text × SpellsAccepted text)
    ⊎ ((status ≡ 1) × IsNotCertified t text)

-- what is said of a program
abbrev pub CertifiesTree : Program → ℕ → List ℕ → Type 0
CertifiesTree p status text =
    ((t : Tables) × Resolves p t × CertifiesTables p t status text)
    ⊎ ((status ≡ 3) × ((f : TypeFault) × IsFirstFault p f × (text ≡ type_text f)))

-- what is said by any command: of what it takes, or of too much
abbrev pub CommandAnswer : ℕ → Command → Option (List ℕ) → Option (List ℕ) → ℕ → List ℕ → Type 0
CommandAnswer guests command left left_after status text =
    ((bytes : List ℕ) × Takes command left left_after bytes × (length bytes ≤ input_limit)
    × Replies guests command bytes status text)
    ⊎ (Reads command × (status ≡ 7) × ReadsCount left left_after (input_limit + 1)
    × (text ≡ long_text))

-- an answer as a reply
abbrev pub as_reply : Result Answer AllocError → Result Reply AllocError
as_reply (Ok answer) = Ok (Said answer)
as_reply (Err fail) = Err fail

-- what a command comes to: what is said of the text that it works on, where it does not fly, or the
-- flight that it orders
abbrev pub IsReply : ℕ → Command → List ℕ → Reply → Type 0
IsReply guests command bytes (Said answer) =
    Replies guests command bytes answer.status answer.text.items × (¬ (Flies command))
IsReply guests command bytes (Flight order) =
    Orders command bytes order.telling order.text.items × (length order.text.items ≤ input_limit)

-- what a command comes to by what it takes of a source; of one that flies it may be said that
-- there is too much
abbrev pub CommandReply : ℕ → Command → Option (List ℕ) → Option (List ℕ) → Reply → Type 0
CommandReply guests command left left_after (Said answer) =
    CommandAnswer guests command left left_after answer.status answer.text.items
    × (Flies command → answer.status ≡ 7)
CommandReply guests command left left_after (Flight order) =
    CommandOrder command left left_after order × (length order.text.items ≤ input_limit)

-- what is said at the words
abbrev pub WordAnswer : ℕ → List (String Global) → Option (List ℕ) → Option (List ℕ) → ℕ → List ℕ
    → Type 0
WordAnswer guests words left left_after status text =
    ((command : Command) × Asks words command
    × CommandAnswer guests command left left_after status text)
    ⊎ (AsksNone words × (status ≡ 2) × (text ≡ usage_text))

-- what the words come to
abbrev pub WordReply : ℕ → List (String Global) → Option (List ℕ) → Option (List ℕ) → Reply → Type 0
WordReply guests words left left_after (Said answer) =
    WordAnswer guests words left left_after answer.status answer.text.items
    × (AsksFlight words → answer.status ≡ 7)
WordReply guests words left left_after (Flight order) =
    IsOrdered words left left_after order × (length order.text.items ≤ input_limit)

-- why nothing is said: memory, with no fault of the source, or a source that failed
abbrev pub Silence : List (String Global) → ℕ → ℕ → ℕ → Type 0
Silence words faults faults_after status =
    SilentWhere (AsksReader words) faults faults_after status

-- what stands behind the trace of a flight that was flown, by the status
abbrev pub IsBehind : Telling → ℕ → List ℕ → Type 0
IsBehind Trace status behind = (status ≡ 0) × IsNothing behind
IsBehind Summary status behind = ⊥
IsBehind (Verdict formula) status behind =
    ((status ≡ 0) × SaysHolds behind) ⊎ ((status ≡ 1) × SaysFails behind)

-- a text is a trace of which this holds, with what stands behind it
abbrev pub FlewAndTold : Telling → ℕ → List ℕ → (List ℕ → Type 0) → Type 0
FlewAndTold telling status said Fly =
    (text : List ℕ) × (behind : List ℕ) × IsBehind telling status behind × (said ≡ text ++ behind)
    × Fly text

-- What became of the guests of a flight, whatever is answered: there are as many, each goes on, and
-- `Stay` says who stays as it was.
pub record GuestsStand {C : Type 0} (asked : C → Option (List Asking)) (Stay : Type 0)
    (before after : Vec C) : Type 0 where
  pub count : vec_len after ≡ vec_len before
  pub go_on : GuestsGoOn asked before.items after.items
  pub stay : Stay

-- What became of the guests by what is said, with its status: none was asked but for a flight that
-- was flown, without which no trace is told. `Fly` says what those did whose trace is told.
pub record GuestsDid {C : Type 0} (telling : Telling) (status : ℕ) (said : List ℕ)
    (Fly : List ℕ → Type 0) (before after : Vec C) : Type 0 where
  pub unasked : status ≢ 0
      → ((after ≡ before) × IsNoTrace said) ⊎ FlewAndTold telling status said Fly
  pub flew : status ≡ 0 → telling ≢ Summary → FlewAndTold telling status said Fly

-- What was put, and the answer's text behind it, are in all a text of which this holds, with the
-- answer's status. Where memory ran out nothing was put.
abbrev pub SaysInAll : {O : Type 0} → (O → O → List ℕ → Type 0) → O → O
    → Result Answer AllocError → (ℕ → List ℕ → Type 0) → Type 0
SaysInAll puts before after (Ok answer) Holds =
    (front : List ℕ) × puts before after front × Holds answer.status (front ++ answer.text.items)
SaysInAll puts before after (Err fail) Holds = after ≡ before
