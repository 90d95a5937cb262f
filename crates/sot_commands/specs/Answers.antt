-- What is said of a text, by the command that is asked.
use Rattle.std.specs.Prelude.{◌≡◌, ◌≢◌, ℕ, ◌⊎◌, List, [], Some, Ok, Err, length}
use Rattle.sot_sections.specs.declared.mission.Need.{Need}
use Rattle.sot_sections.specs.declared.mission.Need.TheVariants as needs
use Rattle.sot_syntax_tree.specs.Trees.{Program}
use Rattle.sot_parser.specs.Programs.{Spells}
use Rattle.sot_text.specs.Ahead.{ahead_from}
use Rattle.sot_parser.specs.declared.syntax.Syntax.{Syntax}
use Rattle.sot_law_fault_place.specs.Places.{IsFaultOf}
use Rattle.sot_print.specs.Canonical.{canonical}
use Rattle.sot_tube.specs.Certified.{IsWellCertified}
use Rattle.sot_tube.specs.Verdict.{verdict}
use Rattle.sot_tube.specs.Refusals.{Refusal}
use Rattle.sot_world.specs.Headline.{EveryRunIsSafe}
use Rattle.sot_world.specs.HistoryEntry.{Logged}
use Rattle.sot_world.specs.Opens.{StartInside}
use Rattle.sot_flight.specs.Plans.{Plan}
use Rattle.sot_ordered_board.specs.Order.{FliesInOrder}
use Rattle.sot_trace.specs.Traces.{trace_text}
use Rattle.sot_summary.specs.Summaries.{summary_of}
use Rattle.sot_summary.specs.SummaryText.{summary_text}
use Rattle.sot_trace_lines.specs.LentLines.{lent_lines}
use Rattle.sot_replay.specs.GoesOn as goes_on
use Rattle.sot_replay.specs.Replays.{IsRefusedAt}
use Rattle.sot_replay.specs.declared.fail.LineKind.{LineKind}
use Rattle.sot_formula.specs.declared.fail.MonitorFail.{MonitorFail}
use Rattle.sot_formula.specs.declared.fail.MonitorFail.TheVariants as monitor_fails
use Rattle.sot_formula.specs.Answers.{Refuses}
use Rattle.sot_commands.specs.ReplayTexts.{legal_text, refused_line_text}
use Rattle.sot_commands.specs.WatchTexts.{formula_text}
use Rattle.sot_commands.specs.Watched.{HasMeaning, TellsHolds, TellsFails, IsWatchedBy}
use Rattle.sot_lang.specs.Tables.{Tables}
use Rattle.sot_lang.specs.declared.cert.Cert.{Cert}
use Rattle.sot_lang.specs.CertRules.{FitsTables}
use Rattle.sot_rules.specs.First.{IsFirstFault}
use Rattle.sot_law_print_parse.specs.Unplaced.{AreSame}
use Rattle.sot_certify.specs.declared.fail.CertifyFail.{CertifyFail}
use Rattle.sot_certify.specs.declared.fail.CertifyFail.TheVariants.{Memory}
use Rattle.sot_certify.specs.Certifying.{Certifies}
use Rattle.sot_certified_text.specs.CertText.{certificate_line}
use Rattle.sot_certified_text.specs.Missions.{mission_text}
use Rattle.sot_certified_text.specs.FailTexts.{fail_text}
use Rattle.sot_maker.specs.Missions.{mission_text as made_text}
use Rattle.sot_recovery_text.specs.Recovery.{AllRecover, SomeNever}
use Rattle.sot_report.specs.declared.fault.Fault.{Fault}
use Rattle.sot_report.specs.declared.fault.Fault.TheVariants as faults
use Rattle.sot_report.specs.Missions.{Mission, SpellsMission, SpellsNone, Resolves, HasFault}
use Rattle.sot_report.specs.FaultTexts.{fault_text, syntax_text}
use Rattle.sot_report.specs.RefusalTexts.{refusal_text}
use Rattle.sot_report.specs.AcceptedTexts.{accepted_text}
use Rattle.sot_cli.specs.Starts.{IsOutsideLine}
use Rattle.sot_commands.specs.declared.words.Command.{Command}
use Rattle.sot_commands.specs.declared.words.Command.TheVariants.{Check, Fly, Replay, Format}
use Rattle.sot_commands.specs.declared.words.Command.TheVariants.{Recover, Watch, Certify}
use Rattle.sot_commands.specs.declared.words.Command.TheVariants.{Make, Soak}

-- a mission is accepted: all fifteen conditions of a certificate hold of its program, its
-- certificate and the certificate's jitter
abbrev pub IsAccepted : Mission → Type 0
IsAccepted m = IsWellCertified m.tables m.cert.jitter m.cert

-- every run of a mission's program, with firings up to the certificate's jitter late, from plants
-- in their safer regions keeps every module's plant inside its safe region in every configuration,
-- and traps no coded node and no tick that may come
abbrev pub IsSafeInEveryRun : Mission → Type 0
IsSafeInEveryRun m = EveryRunIsSafe m.tables m.cert.jitter

-- a checker refuses a mission for this condition, the first that fails, with this evidence
abbrev pub IsRefusedFor : Mission → Refusal → Type 0
IsRefusedFor m r = (verdict m.tables m.cert.jitter m.cert).Refuses r

-- a flight's trace: every plant starts in its module's safer region, and the text is that of a
-- history of the flight, a run of the program from that start with the flight's inputs,
-- disturbances and stated drafts, which is flown in order
abbrev pub IsTraceOf : Tables → ℕ → Plan → List ℕ → Type 0
IsTraceOf t jitter f text =
    StartInside t f.start (length t.modules)
    × ((history : List Logged) × FliesInOrder t jitter f history
    × (text ≡ trace_text t f.start history))

-- a flight's summary: every plant starts in its module's safer region, and the text is the line of
-- what is counted of a history of the flight, flown in order
abbrev pub IsSummaryOf : Tables → ℕ → Plan → List ℕ → Type 0
IsSummaryOf t jitter f text =
    StartInside t f.start (length t.modules)
    × ((history : List Logged) × FliesInOrder t jitter f history
    × (text ≡ summary_text (summary_of t f history)))

-- a flight's start is refused: the plant of this module, the first one, starts outside the module's
-- safer region, and this is said
abbrev pub IsOutsideOf : Tables → Plan → List ℕ → Type 0
IsOutsideOf t f text = IsOutsideLine t f.start text

-- lines are legal: every plant starts in its module's safer region, the lines are the trace of a
-- history of the flight, and its events are counted
abbrev pub IsLegal : Tables → ℕ → Plan → List (List ℕ) → List ℕ → Type 0
IsLegal t jitter f lines text =
    StartInside t f.start (length t.modules)
    × ((history : List Logged) × goes_on.IsTraceOf t jitter f lines history
    × (text ≡ legal_text (length history)))

-- lines are not: every plant starts in its module's safer region, and this line is the first with
-- which no trace of the flight goes on, by this test
abbrev pub IsIllegal : Tables → ℕ → Plan → List (List ℕ) → List ℕ → Type 0
IsIllegal t jitter f lines text =
    StartInside t f.start (length t.modules)
    × ((number : ℕ) × (kind : LineKind) × IsRefusedAt t jitter f lines number kind
    × (text ≡ refused_line_text number kind))

-- a mission's flight and the lines of its trace
abbrev pub HasLines : Mission → Plan → List (List ℕ) → Type 0
HasLines m f lines =
    (m.flight ≡ Some f) × ((trace : List ℕ) × (m.trace ≡ Some trace) × (lines ≡ lent_lines trace))

-- a mission is refused by the checker, and this is said
abbrev pub IsRefused : Mission → List ℕ → Type 0
IsRefused m text = (r : Refusal) × IsRefusedFor m r × (text ≡ refusal_text m.tables r)

-- the bytes spell this mission, with all that the command needs, where so many guests are handed in
abbrev pub SpellsFor : Need → ℕ → List ℕ → Mission → Type 0
SpellsFor need guests bytes m = SpellsMission need guests bytes m

-- the bytes spell a mission with a flight, it is accepted, every run of it is safe, and this is
-- said of its flight
abbrev pub FliesWith : (Tables → ℕ → Plan → List ℕ → Type 0) → ℕ → List ℕ → List ℕ → Type 0
FliesWith Says guests bytes text =
    (m : Mission) × SpellsFor needs.Fly guests bytes m × IsAccepted m × IsSafeInEveryRun m
    × ((f : Plan) × (m.flight ≡ Some f) × Says m.tables m.cert.jitter f text)

-- the checker refuses a mission, and this is said; or it is accepted, a plant starts outside its
-- module's safer region, and this is said
abbrev pub IsStopped : Mission → List ℕ → Type 0
IsStopped m text =
    IsRefused m text ⊎ (IsAccepted m
    × ((f : Plan) × (m.flight ≡ Some f) × IsOutsideOf m.tables f text))

-- the bytes spell a mission with a flight that is not flown, and this is said
abbrev pub DoesNotFly : ℕ → List ℕ → List ℕ → Type 0
DoesNotFly guests bytes text =
    (m : Mission) × SpellsFor needs.Fly guests bytes m × IsStopped m text

-- the bytes spell a mission with a flight that is not flown, a formula has a meaning for its
-- program, and this is said
abbrev pub DoesNotFlyWatched : List ℕ → ℕ → List ℕ → List ℕ → Type 0
DoesNotFlyWatched formula guests bytes text =
    (m : Mission) × SpellsFor needs.Fly guests bytes m × HasMeaning m.tables formula
    × IsStopped m text

-- the bytes spell a mission with a flight, the formula has no meaning for its program, and this is
-- why
abbrev pub HasFormulaFault : List ℕ → ℕ → List ℕ → List ℕ → Type 0
HasFormulaFault formula guests bytes text =
    (m : Mission) × SpellsFor needs.Fly guests bytes m
    × ((fail : MonitorFail) × (fail ≢ monitor_fails.Memory) × Refuses m.tables formula fail
    × (text ≡ formula_text fail))

-- a mission's flight is flown and watched: it is accepted, the formula has a meaning for its
-- program, and every plant starts in its module's safer region. Whether the formula holds, its
-- history decides
abbrev pub IsFlownWatched : List ℕ → ℕ → List ℕ → Type 0
IsFlownWatched formula guests bytes =
    (m : Mission) × SpellsFor needs.Fly guests bytes m × HasMeaning m.tables formula × IsAccepted m
    × ((f : Plan) × (m.flight ≡ Some f) × StartInside m.tables f.start (length m.tables.modules))

-- a certificate is made for the tables of a program, and the text is the program's canonical text
-- with this certificate
abbrev pub IsCertifiedText : Program → Tables → List ℕ → Type 0
IsCertifiedText p t text =
    (cert : Cert) × Certifies t (Ok cert) × FitsTables t cert
    × (text ≡ mission_text (canonical p) (certificate_line t cert))

-- halving gives no certificate for the tables of a program, and this is why
abbrev pub IsNotCertified : Tables → List ℕ → Type 0
IsNotCertified t text =
    (fail : CertifyFail) × (fail ≢ Memory) × Certifies t (Err fail) × (text ≡ fail_text t fail)

-- a text spells a mission that is accepted, and every run of it is safe
abbrev pub SpellsAccepted : List ℕ → Type 0
SpellsAccepted text =
    (m : Mission) × SpellsFor needs.Check 0 text m × IsAccepted m × IsSafeInEveryRun m

-- a text spells a mission that is accepted, every run of it is safe, and its program is this one,
-- but for where its parts stand
abbrev pub SpellsAcceptedOf : Program → List ℕ → Type 0
SpellsAcceptedOf p text =
    (m : Mission) × SpellsFor needs.Check 0 text m × AreSame p m.program × IsAccepted m
    × IsSafeInEveryRun m

-- the first fault of a program's text: of syntax, else of typing
abbrev pub HasProgramFault : List ℕ → Fault → Type 0
HasProgramFault bytes (faults.Section fault) = ⊥
HasProgramFault bytes (faults.Syntax fault) =
    SpellsNone bytes × IsFaultOf bytes (ahead_from bytes 0) fault
HasProgramFault bytes (faults.Typing fault) =
    (p : Program) × Spells bytes 0 p × IsFirstFault p fault
HasProgramFault bytes (faults.Cert fault) = ⊥
HasProgramFault bytes (faults.Flight fault) = ⊥

-- status 0. `check`: the bytes spell a mission that is accepted, every run of it is safe, and its
-- counts are said. `fly`: the bytes spell a mission with a flight, it is accepted, every run of it
-- is safe, and the text is the trace of that flight. `replay`: they spell one with a flight and a
-- trace, it is accepted, every run of it is safe, and the trace is legal. `recover`: they spell one
-- that is accepted, every run of it is safe, and within how many holds each of its modules recovers
-- is said. `watch`: as `fly`, and the formula holds at every moment of that flight, which is said
-- behind the trace. `format`: the bytes spell a program, and this is its canonical text. `certify`:
-- they spell a program that breaks no rule of typing, the text is its canonical text with the
-- certificate that is made for it, this text spells a mission of the same program that is accepted,
-- and every run of it is safe. `make`: the text is the mission that is made from its two numbers.
-- `soak`: this mission has a flight, it is accepted, every run of it is safe, and the text is the
-- summary of that flight
abbrev pub Accepts : ℕ → Command → List ℕ → List ℕ → Type 0
Accepts guests Check bytes text =
    (m : Mission) × SpellsFor needs.Check 0 bytes m × IsAccepted m × IsSafeInEveryRun m
    × (text ≡ accepted_text m.tables m.cert)
Accepts guests Fly bytes text = FliesWith IsTraceOf guests bytes text
Accepts guests Replay bytes text =
    (m : Mission) × SpellsFor needs.Replay guests bytes m × IsAccepted m × IsSafeInEveryRun m
    × ((f : Plan) × (lines : List (List ℕ)) × HasLines m f lines
    × IsLegal m.tables m.cert.jitter f lines text)
Accepts guests Recover bytes text =
    (m : Mission) × SpellsFor needs.Check 0 bytes m × IsAccepted m × IsSafeInEveryRun m
    × AllRecover m.tables m.cert text
Accepts guests (Watch formula) bytes text =
    FliesWith (IsWatchedBy TellsHolds formula.now) guests bytes text
Accepts guests Format bytes text = (p : Program) × Spells bytes 0 p × (text ≡ canonical p)
Accepts guests Certify bytes text =
    (p : Program) × (t : Tables) × Spells bytes 0 p × Resolves p t × IsCertifiedText p t text
    × SpellsAcceptedOf p text
Accepts guests (Make n seed) bytes text = text ≡ made_text n seed
Accepts guests (Soak n seed) bytes text = FliesWith IsSummaryOf 0 (made_text n seed) text

-- status 1. The bytes spell a mission that the checker refuses, and this is said; or, for `fly`, it
-- is accepted, a plant starts outside its module's safer region, and this is said. `replay`: the
-- same, or its trace is refused at a line, and this is said. `recover`: the mission is refused; or
-- it is accepted, and some module has no rank: each such one is said with its point, and behind them
-- within how many holds each of the others recovers. `watch`: as
-- `fly`, of a formula that has a meaning for the program; or the mission is flown, and the first
-- moment at which the formula fails is said behind the trace. `certify`:
-- they spell a program that breaks no rule of typing and has no certificate, and this is why.
-- `make` never ends so. `soak`: as `fly`, of the mission that is made
abbrev pub Refutes : ℕ → Command → List ℕ → List ℕ → Type 0
Refutes guests Check bytes text = (m : Mission) × SpellsFor needs.Check 0 bytes m × IsRefused m text
Refutes guests Fly bytes text = DoesNotFly guests bytes text
Refutes guests Replay bytes text =
    (m : Mission) × SpellsFor needs.Replay guests bytes m
    × (IsRefused m text ⊎ (IsAccepted m
    × ((f : Plan) × (lines : List (List ℕ)) × HasLines m f lines
    × (IsOutsideOf m.tables f text ⊎ IsIllegal m.tables m.cert.jitter f lines text))))
Refutes guests Recover bytes text =
    (m : Mission) × SpellsFor needs.Check 0 bytes m
    × (IsRefused m text ⊎ (IsAccepted m × SomeNever m.tables m.cert text))
Refutes guests (Watch formula) bytes text =
    FliesWith (IsWatchedBy TellsFails formula.now) guests bytes text
    ⊎ DoesNotFlyWatched formula.now guests bytes text
Refutes guests Format bytes text = ⊥
Refutes guests Certify bytes text =
    (p : Program) × (t : Tables) × Spells bytes 0 p × Resolves p t × IsNotCertified t text
Refutes guests (Make n seed) bytes text = ⊥
Refutes guests (Soak n seed) bytes text = DoesNotFly 0 (made_text n seed) text

-- status 3. `check`, `fly`, `replay` and `recover`: the first fault of the bytes is said. `watch`:
-- the same, or they have none, and the formula's fault is said. `format`:
-- the bytes spell no program, and this is the place from which the grammar does not go on, and why.
-- `certify`: the first fault of the program's text is said. `make` never ends so. `soak`: the first
-- fault of the text that is made is said
abbrev pub Rejects : ℕ → Command → List ℕ → List ℕ → Type 0
Rejects guests Check bytes text =
    (f : Fault) × HasFault needs.Check 0 bytes f × (text ≡ fault_text f)
Rejects guests Fly bytes text =
    (f : Fault) × HasFault needs.Fly guests bytes f × (text ≡ fault_text f)
Rejects guests Replay bytes text =
    (f : Fault) × HasFault needs.Replay guests bytes f × (text ≡ fault_text f)
Rejects guests Recover bytes text =
    (f : Fault) × HasFault needs.Check 0 bytes f × (text ≡ fault_text f)
Rejects guests (Watch formula) bytes text =
    ((f : Fault) × HasFault needs.Fly guests bytes f × (text ≡ fault_text f))
    ⊎ HasFormulaFault formula.now guests bytes text
Rejects guests Format bytes text =
    (fault : Syntax) × SpellsNone bytes × IsFaultOf bytes (ahead_from bytes 0) fault
    × (text ≡ syntax_text fault)
Rejects guests Certify bytes text = (f : Fault) × HasProgramFault bytes f × (text ≡ fault_text f)
Rejects guests (Make n seed) bytes text = ⊥
Rejects guests (Soak n seed) bytes text =
    (f : Fault) × HasFault needs.Fly 0 (made_text n seed) f × (text ≡ fault_text f)

-- the command answers these bytes with this status and this text, where so many guests are handed
-- in; but for `fly`, `watch` and `replay`, which read a flight, their number says nothing
abbrev pub Replies : ℕ → Command → List ℕ → ℕ → List ℕ → Type 0
Replies guests command bytes status text =
    ((status ≡ 0) × Accepts guests command bytes text)
    ⊎ ((status ≡ 1) × Refutes guests command bytes text)
    ⊎ ((status ≡ 3) × Rejects guests command bytes text)

-- the bytes that a command works on, where a source has these: all of them, and none for `make` and
-- `soak`
abbrev pub given_to : Command → List ℕ → List ℕ
given_to Check bytes = bytes
given_to Fly bytes = bytes
given_to Replay bytes = bytes
given_to Recover bytes = bytes
given_to (Watch formula) bytes = bytes
given_to Format bytes = bytes
given_to Certify bytes = bytes
given_to (Make n seed) bytes = []
given_to (Soak n seed) bytes = []
