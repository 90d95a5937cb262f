-- What is said of a trace that is replayed.
use Rattle.std.proofs.Common.{◌≡◌, ◌∙◌, sym, ap, subst, refl, ℕ, suc, ◌≤◌, Bool, true, false, List, [], ◌∷◌, ◌++◌, Option, None, Some, length, Result, Ok, Err}
use Rattle.std.proofs.Common.{inl, inr, arith}
use Rattle.std.specs.Prelude.{IfOk, if◌then◌else◌, ◌==◌}
use Rattle.std.specs.List.{flat_map}
use Rattle.std.proofs.lemmas.List.{length-append}
use Rattle.std.proofs.lemmas.Option.{same_Some}
use Rattle.std.specs.declared.alloc.AllocError.{AllocError}
use Rattle.sot_sections.specs.declared.mission.Need.{Need}
use Rattle.sot_sections.specs.declared.mission.Need.TheVariants as needs
use Rattle.sot_sections.specs.Sections.{Section, Parts, division, fault_behind, body_of, needed, place, title}
use Rattle.sot_text.specs.LineEnds.{lines}
use Rattle.sot_sections.proofs.SectionLaws.{sections_are_the_text}
use Rattle.sot_lang.specs.Tables.{Tables}
use Rattle.sot_lang.specs.declared.cert.Cert.{Cert}
use Rattle.sot_typing.specs.Resolved.{tables_seen}
use Rattle.sot_tube.specs.Refusals.{Refusal}
use Rattle.sot_tube.specs.Certified.{IsWellCertified}
use Rattle.sot_tube.specs.Verdict.{verdict}
use Rattle.sot_world.specs.Headline.{EveryRunIsSafe}
use Rattle.sot_world.specs.HistoryEntry.{Logged}
use Rattle.sot_world.specs.Opens.{StartInside}
use Rattle.sot_flight.specs.Plans.{Plan}
use Rattle.sot_trace.specs.Words.{AreWords}
use Rattle.sot_trace_lines.specs.LentLines.{lent_lines}
use Rattle.sot_replay.specs.GoesOn.{IsTraceOf}
use Rattle.sot_replay.specs.Replays.{IsRefusedAt}
use Rattle.sot_replay.specs.declared.fail.LineKind.{LineKind}
use Rattle.sot_law_trace_unique.proofs.Named.{names}
use Rattle.sot_law_trace_unique.proofs.Looks.{trace_lines_same}
use Rattle.sot_law_equal_flights.proofs.Histories.{whole}
use Rattle.sot_report.specs.declared.fault.Fault.{Fault}
use Rattle.sot_report.specs.Missions.{Mission, SaysFlight, HasFault}
use Rattle.sot_report.specs.FaultTexts.{fault_text}
use Rattle.sot_report.specs.RefusalTexts.{refusal_text}
use Rattle.sot_cli.specs.declared.answer.Answer.{Answer}
use Rattle.sot_commands.specs.declared.words.Command.TheVariants.{Replay}
use Rattle.sot_commands.specs.ReplayTexts.{legal_text, refused_line_text}
use Rattle.sot_commands.specs.Answers.{IsOutsideOf, SpellsFor, Replies}
use Rattle.sot_commands.specs.Steps.{JudgesLines, JudgesReplayed}
use Rattle.sot_commands.proofs.Flown.{found_of, says_none}

-- the trace of a history is that of one of tables that look the same
pub traced_alike : (t u : Tables) (jitter : ℕ) (f : Plan) (ls : List (List ℕ)) (history : List Logged) → tables_seen t ≡ tables_seen u
    → IsTraceOf t jitter f ls history → IsTraceOf u jitter f ls history
traced_alike t u jitter f ls history same ((flown, handed), is) =
    ((whole t u jitter f history same flown, handed), is ∙ trace_lines_same t u same f.start history)

-- what is said of lines
pub legal_result : (r : Result Answer AllocError) (t : Tables) (jitter : ℕ) (f : Plan) (ls : List (List ℕ)) (history : List Logged) (events : ℕ)
    → StartInside t f.start (length t.modules)
    → IsTraceOf t jitter f ls history → length history ≡ events → IfOk r (λ a. a.status ≡ 0) → IfOk r (λ a. a.text.items ≡ legal_text events)
    → IfOk r (λ a. JudgesLines t jitter f ls a.status a.text.items)
legal_result (Ok a) t jitter f ls history events inside traced count status text = inl (status, (inside, (history, traced, text ∙ ap legal_text (sym count))))
legal_result (Err e) t jitter f ls history events inside traced count status text = tt

pub illegal_result : (r : Result Answer AllocError) (t : Tables) (jitter : ℕ) (f : Plan) (ls : List (List ℕ)) (number : ℕ) (kind : LineKind)
    → StartInside t f.start (length t.modules)
    → IsRefusedAt t jitter f ls number kind → IfOk r (λ a. a.status ≡ 1) → IfOk r (λ a. a.text.items ≡ refused_line_text number kind)
    → IfOk r (λ a. JudgesLines t jitter f ls a.status a.text.items)
illegal_result (Ok a) t jitter f ls number kind inside refused status text = inr (status, inr (inside, (number, kind, refused, text)))
illegal_result (Err e) t jitter f ls number kind inside refused status text = tt

pub unstarted_result : (r : Result Answer AllocError) (t : Tables) (jitter : ℕ) (f : Plan) (ls : List (List ℕ)) → IfOk r (λ a. a.status ≡ 1)
    → IfOk r (λ a. IsOutsideOf t f a.text.items)
    → IfOk r (λ a. JudgesLines t jitter f ls a.status a.text.items)
unstarted_result (Ok a) t jitter f ls status text = inr (status, inl text)
unstarted_result (Err e) t jitter f ls status text = tt

-- what is said of an accepted program's lines is said of the program with its certificate, and so is a refusal
pub lines_result : (r : Result Answer AllocError) (t : Tables) (c : Cert) (f : Plan) (ls : List (List ℕ)) → IsWellCertified t c.jitter c
    → EveryRunIsSafe t c.jitter
    → IfOk r (λ a. JudgesLines t c.jitter f ls a.status a.text.items) → IfOk r (λ a. JudgesReplayed t c f ls a.status a.text.items)
lines_result (Ok a) t c f ls certified safe judges = inl (certified, safe, judges)
lines_result (Err e) t c f ls certified safe judges = tt

pub unreplayed_result : (r : Result Answer AllocError) (t : Tables) (c : Cert) (f : Plan) (ls : List (List ℕ)) (v : Refusal) → (verdict t c.jitter c).Refuses v
    → IfOk r (λ a. a.status ≡ 1) → IfOk r (λ a. a.text.items ≡ refusal_text t v)
    → IfOk r (λ a. JudgesReplayed t c f ls a.status a.text.items)
unreplayed_result (Ok a) t c f ls v refuses status text = inr (status, (v, refuses, text))
unreplayed_result (Err e) t c f ls v refuses status text = tt

-- and what is said of these is said of the mission
replayed : (guests : ℕ) (bytes text : List ℕ) (status : ℕ) (m : Mission) (f : Plan) (trace : List ℕ) → SpellsFor needs.Replay guests bytes m → m.flight ≡ Some f
    → m.trace ≡ Some trace
    → JudgesReplayed m.tables m.cert f (lent_lines trace) status text → Replies guests Replay bytes status text
replayed guests bytes text status m f trace spells is has (inl (certified, safe, inl (zero, legal))) =
    inl (zero, (m, spells, certified, safe, (f, lent_lines trace, (is, (trace, has, refl)), legal)))
replayed guests bytes text status m f trace spells is has (inl (certified, safe, inr (one, said))) =
    inr (inl (one, (m, spells, inr (certified, (f, lent_lines trace, (is, (trace, has, refl)), said)))))
replayed guests bytes text status m f trace spells is has (inr (one, refused)) = inr (inl (one, (m, spells, inl refused)))

pub replayed_result : (guests : ℕ) (r : Result Answer AllocError) (bytes : List ℕ) (m : Mission) (f : Plan) (trace : List ℕ)
    → SpellsFor needs.Replay guests bytes m → m.flight ≡ Some f → m.trace ≡ Some trace
    → IfOk r (λ a. JudgesReplayed m.tables m.cert f (lent_lines trace) a.status a.text.items) → IfOk r (λ a. Replies guests Replay bytes a.status a.text.items)
replayed_result guests (Ok a) bytes m f trace spells is has judges = replayed guests bytes a.text.items a.status m f trace spells is has judges
replayed_result guests (Err e) bytes m f trace spells is has judges = tt

pub unspelled_result : (guests : ℕ) (r : Result Answer AllocError) (bytes : List ℕ) (fault : Fault) → HasFault needs.Replay guests bytes fault
    → IfOk r (λ a. a.status ≡ 3) → IfOk r (λ a. a.text.items ≡ fault_text fault)
    → IfOk r (λ a. Replies guests Replay bytes a.status a.text.items)
unspelled_result guests (Ok a) bytes fault has status text = inr (inr (status, (fault, has, text)))
unspelled_result guests (Err e) bytes fault has status text = tt

-- the names of a mission's tables are words
pub mission_words : (need : Need) (guests : ℕ) (bytes : List ℕ) (m : Mission) → SpellsFor need guests bytes m → AreWords m.tables
mission_words need guests bytes m x = names x.parts.program 0 m.program m.tables x.spelled x.resolved

-- a section is no longer than all sections
body_within : (k : ℕ) (ss : List Section) (t : List ℕ) → body_of k ss ≡ Some t → length t ≤ length (flat_map (λ (s : Section). s.mark ++ s.body) ss)
body_within k [] t e = absurd cc
body_within k (s ∷ ss) t e = pick (place (title s.mark) == k) (body_within k ss t) e
  where
    pick : (b : Bool) → (body_of k ss ≡ Some t → length t ≤ length (flat_map (λ (s : Section). s.mark ++ s.body) ss))
        → (if b then Some s.body else body_of k ss) ≡ Some t
        → length t ≤ length ((s.mark ++ s.body) ++ flat_map (λ (s : Section). s.mark ++ s.body) ss)
    pick true below is =
        (let same = ap length (same_Some s.body t is) in omega
        (arith, same, length-append s.mark s.body, length-append (s.mark ++ s.body) (flat_map (λ (s : Section). s.mark ++ s.body) ss)))
    pick false below is = (let there = below is in omega (arith, there, length-append (s.mark ++ s.body) (flat_map (λ (s : Section). s.mark ++ s.body) ss)))

-- what is needed to replay has a flight and a trace, which are those of the sections
needed_both : (front : List ℕ) (c f t : Option (List ℕ)) (parts : Parts) → needed needs.Replay front c f t ≡ Some parts
    → ((x : List ℕ) × (parts.flight ≡ Some x)) × ((y : List ℕ) × (parts.trace ≡ Some y) × (t ≡ Some y))
needed_both front None f t parts e = absurd cc
needed_both front (Some c) None t parts e = absurd cc
needed_both front (Some c) (Some f) None parts e = absurd cc
needed_both front (Some c) (Some f) (Some t) parts e =
    let same : ◌≡◌ {A = Parts} (record { program = front; cert = c; flight = Some f; trace = Some t }) parts = cc in
    ((f, sym (ap (λ (p : Parts). p.flight) same)), (t, sym (ap (λ (p : Parts). p.trace) same), refl))

module _ (guests : ℕ) (bytes : List ℕ) (m : Mission) (x : SpellsFor needs.Replay guests bytes m) where
  both : ((f : List ℕ) × (x.parts.flight ≡ Some f)) × ((y : List ℕ) × (x.parts.trace ≡ Some y) × (body_of 3 (division 1 (lines bytes)).sections ≡ Some y))
  both =
      needed_both (division 1 (lines bytes)).front (body_of 1 (division 1 (lines bytes)).sections) (body_of 2 (division 1 (lines bytes)).sections)
      (body_of 3 (division 1 (lines bytes)).sections) x.parts
      (found_of (fault_behind 0 (division 1 (lines bytes)).sections) (suc (length (lines bytes)))
      (needed needs.Replay (division 1 (lines bytes)).front (body_of 1 (division 1 (lines bytes)).sections) (body_of 2 (division 1 (lines bytes)).sections)
      (body_of 3 (division 1 (lines bytes)).sections)) x.parts x.divided)

  pub replayed_flight_there : m.flight ≡ None → ⊥
  replayed_flight_there none =
      let section = says_none m.tables guests x.parts.flight (subst (SaysFlight m.tables guests x.parts.flight) none x.flown) in
      let e : Some both.0.0 ≡ None = sym both.0.1 ∙ section in
      absurd cc

  pub trace_there : m.trace ≡ None → ⊥
  trace_there none = (let e : Some both.1.0 ≡ None = sym both.1.1 ∙ sym x.traced ∙ none in absurd cc)

  pub trace_within : (trace : List ℕ) → m.trace ≡ Some trace → length trace ≤ length bytes
  trace_within trace has =
      let same = same_Some both.1.0 trace (sym both.1.1 ∙ sym x.traced ∙ has) in
      let below = body_within 3 (division 1 (lines bytes)).sections both.1.0 both.1.2 in
      let text = ap length (sections_are_the_text bytes) in
      omega (
        arith,
        ap length same,
        below,
        text,
        length-append (division 1 (lines bytes)).front
            (flat_map (λ (s : Section). s.mark ++ s.body) (division 1 (lines bytes)).sections),
      )
