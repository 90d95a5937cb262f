-- A text decides one status.
use Rattle.std.proofs.Common.{◌≡◌, ℕ, List, [], Option, None, Some, length, Result, Ok, inl, inr, refl, sym, ap, ◌∙◌, subst, arith, Global}
use Rattle.std.proofs.Common.{◌<◌, ◌≤◌}
use Rattle.std.specs.Prelude.{◌⊎◌, ◌≢◌, String, slice_index_or}
use Rattle.std.proofs.lemmas.Option.{same_Some, slice_get_within}
use Rattle.sot_lists.specs.Places.{At}
use Rattle.sot_box.specs.Regions.{IsInRegion}
use Rattle.sot_sections.specs.declared.mission.Need.{Need}
use Rattle.sot_sections.specs.declared.mission.Need.TheVariants as needs
use Rattle.sot_sections.specs.Sections.{Parts}
use Rattle.sot_syntax_tree.specs.Trees.{Program}
use Rattle.sot_lang.specs.Tables.{Tables}
use Rattle.sot_parser.specs.Programs.{Spells}
use Rattle.sot_parser.proofs.ProgramTexts.{spells_unique}
use Rattle.sot_rules.specs.First.{IsFaultless}
use Rattle.sot_typing.specs.Resolved.{tables_seen}
use Rattle.sot_cert.specs.CertFormat.{Contents}
use Rattle.sot_json.specs.declared.fault.JsonFault.{JsonFault}
use Rattle.sot_flight.specs.Plans.{Plan}
use Rattle.sot_world.specs.HistoryEntry.{Logged}
use Rattle.sot_trace_lines.specs.LentLines.{lent_lines}
use Rattle.sot_replay.specs.GoesOn as goes_on
use Rattle.sot_replay.specs.Replays.{IsRefusedAt}
use Rattle.sot_replay.specs.declared.fail.LineKind.{LineKind}
use Rattle.sot_replay.proofs.OneAnswer.{traces_are_not_refused}
use Rattle.sot_cli.specs.Texts.{input_limit}
use Rattle.sot_commands.proofs.Replayed.{traced_alike}
use Rattle.sot_tube.specs.Certified.{IsWellCertified}
use Rattle.sot_tube.specs.Refusals.{Refusal}
use Rattle.sot_tube.proofs.Acceptance.{certified_passes}
use Rattle.sot_tube.proofs.VerdictExact.{verdict_exact}
use Rattle.sot_law_equal_tables.proofs.Certified.{certified_alike}
use Rattle.sot_law_equal_tables.proofs.Seen.{modules_same}
use Rattle.sot_law_equal_tables.proofs.Flights.{flights_alike}
use Rattle.sot_law_equal_verdicts.proofs.Certify.{certify_alike}
use Rattle.sot_recovery_text.proofs.Alike.{told_once}
use Rattle.sot_world.specs.Opens.{StartInside, IsFirstOutside}
use Rattle.sot_report.specs.declared.fault.Fault.{Fault}
use Rattle.sot_report.specs.declared.fault.Fault.TheVariants as faults
use Rattle.sot_maker.specs.Missions.{mission_text as made_text}
use Rattle.sot_report.specs.Missions.{Mission, Resolves, HasParts, SaysFlight, FaultsFlight, HasFault}
use Rattle.sot_commands.specs.declared.words.Command.{Command}
use Rattle.sot_commands.specs.declared.words.Command.TheVariants.{Check, Fly, Replay, Recover, Watch, Format, Certify, Make, Soak}
use Rattle.sot_commands.specs.Words.{Reads, Asks}
use Rattle.sot_commands.specs.Answers.{IsAccepted, IsRefusedFor, SpellsFor, IsTraceOf, IsSummaryOf, FliesWith, IsStopped, DoesNotFly, HasLines}
use Rattle.sot_commands.specs.Answers.{HasProgramFault, IsFlownWatched, Accepts, Refutes, Rejects, Replies, given_to}
use Rattle.sot_commands.specs.Watched.{IsWatchedBy, TellsHolds}
use Rattle.sot_commands.specs.Ends.{Decides, FliesWatched}
use Rattle.sot_commands.proofs.FormulasAlike.{meaning_or_fault}
use Rattle.sot_commands.proofs.OneCommand.{plain, same_command}
use Rattle.sot_commands.proofs.SameMissions.{same_parts, same_program, same_seen, same_said, same_flown, sections, seen, said, look_same}
use Rattle.sot_commands.proofs.OneWatch.{holds_or_fails}

-- a text has no fault of one of two tables that look the same where it says a flight of the other
flown_faulty : (guests : ℕ) (t u : Tables) (section : Option (List ℕ)) (a : Option Plan) (fault : JsonFault) → tables_seen t ≡ tables_seen u
    → SaysFlight t guests section a → FaultsFlight u guests section fault → ⊥
flown_faulty guests t u None a fault seen x y = y
flown_faulty guests t u (Some section) None fault seen x y = x
flown_faulty guests t u (Some section) (Some f) fault seen x y = (let e = sym x.0 ∙ flights_alike t u guests section seen ∙ y in absurd cc)

module _ (need : Need) (guests : ℕ) (bytes : List ℕ) (m n : Mission) (x : SpellsFor need guests bytes m) (y : SpellsFor need guests bytes n) where
  -- a mission that is accepted is not refused
  pub accepted_refused : (r : Refusal) → IsAccepted m → IsRefusedFor n r → ⊥
  accepted_refused r certified refuses =
      let jitter : m.cert.jitter ≡ n.cert.jitter = ap (λ (c : Contents). c.jitter) (said need guests bytes m n x y) in
      let cells = ap (λ (c : Contents). c.modules) (said need guests bytes m n x y) in
      let other = certified_alike m.tables n.tables m.cert.jitter m.cert n.cert (seen need guests bytes m n x y) cells certified in
      let here = subst (λ j. IsWellCertified n.tables j n.cert) jitter other in
      (verdict_exact n.tables n.cert.jitter n.cert).exclusive r refuses (certified_passes n.tables n.cert.jitter n.cert here)

  -- where all plants of a flight start inside, none starts outside
  inside_outside : (f g : Plan) → m.flight ≡ Some f → n.flight ≡ Some g → StartInside m.tables f.start (length m.tables.modules)
      → (k : ℕ) → IsFirstOutside n.tables g.start k → ⊥
  inside_outside f g is is' inside k first =
      let flights : f ≡ g = same_flown guests m.tables n.tables x.parts.flight f g m.flight n.flight (seen need guests bytes m n x y) is is' x.flown
      (subst (λ (q : Parts). SaysFlight n.tables guests q.flight n.flight) (sym (sections need guests bytes m n x y)) y.flown) in
      let here = subst (λ ms. At ms k first.info) (sym (modules_same m.tables n.tables (seen need guests bytes m n x y))) first.is in
      first.outside (subst (λ (h : Plan). IsInRegion first.info.safer.boxes (slice_index_or h.start first.info.plant [])) flights
      (inside k first.info (slice_get_within m.tables.modules k first.info here) here))

-- the trace of a history, by one of a mission's tables, is that by each
pub traced_moved : (guests : ℕ) (bytes : List ℕ) (m n : Mission) → SpellsFor needs.Replay guests bytes m → SpellsFor needs.Replay guests bytes n
    → (f g : Plan) (lines lines' : List (List ℕ)) → HasLines m f lines → HasLines n g lines'
    → (history : List Logged) → goes_on.IsTraceOf m.tables m.cert.jitter f lines history → goes_on.IsTraceOf n.tables n.cert.jitter g lines' history
traced_moved guests bytes m n x y f g lines lines' (is, (trace, has, are)) (is', (trace', has', are')) history traced =
    let same_seen = seen needs.Replay guests bytes m n x y in
    let parts = sections needs.Replay guests bytes m n x y in
    let flights : f ≡ g = same_flown guests m.tables n.tables x.parts.flight f g m.flight n.flight same_seen is is' x.flown
    (subst (λ (q : Parts). SaysFlight n.tables guests q.flight n.flight) (sym parts) y.flown) in
    let jitter : m.cert.jitter ≡ n.cert.jitter = ap (λ (c : Contents). c.jitter) (said needs.Replay guests bytes m n x y) in
    let traces : trace ≡ trace' = same_Some trace trace' (sym has ∙ x.traced ∙ ap (λ (q : Parts). q.trace) parts ∙ sym y.traced ∙ has') in
    let here = are ∙ ap lent_lines traces ∙ sym are' in
    let other = traced_alike m.tables n.tables m.cert.jitter f lines history same_seen traced in
    subst (λ (ls : List (List ℕ)). goes_on.IsTraceOf n.tables n.cert.jitter g ls history) here
    (subst (λ (h : Plan). goes_on.IsTraceOf n.tables n.cert.jitter h lines history) flights
    (subst (λ j. goes_on.IsTraceOf n.tables j f lines history) jitter other))

-- lines that are the trace of a history are not refused
traced_refused : (guests : ℕ) (bytes : List ℕ) (m n : Mission) → SpellsFor needs.Replay guests bytes m → SpellsFor needs.Replay guests bytes n
    → (f g : Plan) (lines lines' : List (List ℕ)) → HasLines m f lines → HasLines n g lines'
    → (history : List Logged) → goes_on.IsTraceOf m.tables m.cert.jitter f lines history → (number : ℕ) (kind : LineKind)
    → IsRefusedAt n.tables n.cert.jitter g lines' number kind → ⊥
traced_refused guests bytes m n x y f g lines lines' has has' history traced number kind refused =
    traces_are_not_refused n.tables n.cert.jitter g lines' history number kind (traced_moved guests bytes m n x y f g lines lines' has has' history traced)
    refused

-- bytes that spell a mission have no fault
pub spelled_faulty : (need : Need) (guests : ℕ) (bytes : List ℕ) (m : Mission) (f : Fault) → SpellsFor need guests bytes m → HasFault need guests bytes f → ⊥
spelled_faulty need guests bytes m (faults.Section f) x split = (let e = sym x.divided ∙ split in absurd cc)
spelled_faulty need guests bytes m (faults.Syntax f) x (parts, has, none, is) =
    none m.program (subst (λ (q : Parts). Spells q.program 0 m.program) (same_parts need bytes x.parts parts x.divided has) x.spelled)
spelled_faulty need guests bytes m (faults.Typing f) x (parts, has, (p, spells, first)) =
    let same : m.program ≡ p = same_program x.parts parts m.program p (same_parts need bytes x.parts parts x.divided has) x.spelled spells in
    subst (λ (q : Program). IsFaultless q) same x.resolved.faultless f.at f.kind first.fails
spelled_faulty need guests bytes m (faults.Cert f) x (parts, has, (p, t, (spells, resolves), fails)) =
    let here = same_parts need bytes x.parts parts x.divided has in
    let same : m.program ≡ p = same_program x.parts parts m.program p here x.spelled spells in
    let e = sym x.certified ∙ same_said x.parts parts m.tables t here (same_seen m.program p m.tables t same x.resolved resolves) ∙ fails in
    absurd cc
spelled_faulty need guests bytes m (faults.Flight f) x (parts, has, (p, t, (spells, resolves), says, fails)) =
    let here = same_parts need bytes x.parts parts x.divided has in
    let same : m.program ≡ p = same_program x.parts parts m.program p here x.spelled spells in
    flown_faulty guests m.tables t parts.flight m.flight f (same_seen m.program p m.tables t same x.resolved resolves)
    (subst (λ (q : Parts). SaysFlight m.tables guests q.flight m.flight) here x.flown) fails

-- a program's text that breaks no rule of typing has no fault
program_faulty : (bytes : List ℕ) (p : Program) (t : Tables) (f : Fault) → Spells bytes 0 p → Resolves p t → HasProgramFault bytes f → ⊥
program_faulty bytes p t (faults.Section f) spells resolves has = has
program_faulty bytes p t (faults.Syntax f) spells resolves has = has.0 p spells
program_faulty bytes p t (faults.Typing f) spells resolves (q, spells', first) =
    subst (λ (x : Program). IsFaultless x) (spells_unique bytes 0 p q spells spells') resolves.faultless f.at f.kind first.fails
program_faulty bytes p t (faults.Cert f) spells resolves has = has
program_faulty bytes p t (faults.Flight f) spells resolves has = has

-- what flies does not fail to, whatever is told of it
abbrev StartsInside : (Tables → ℕ → Plan → List ℕ → Type 0) → Type 0
StartsInside Says = (t : Tables) (jitter : ℕ) (f : Plan) (text : List ℕ) → Says t jitter f text → StartInside t f.start (length t.modules)

pub flown_or_stopped : (Says : Tables → ℕ → Plan → List ℕ → Type 0) → StartsInside Says → (guests : ℕ) (bytes text text' : List ℕ) (n : Mission)
    → SpellsFor needs.Fly guests bytes n → FliesWith Says guests bytes text → IsStopped n text' → ⊥
flown_or_stopped Says starts guests bytes text text' n spells' (m, spells, certified, safe, flown) (inl (r, refuses, says')) =
    accepted_refused needs.Fly guests bytes m n spells spells' r certified refuses
flown_or_stopped Says starts guests bytes text text' n spells' (m, spells, certified, safe, (f, is, says)) (inr (certified', (g, is', (k, first, says')))) =
    inside_outside needs.Fly guests bytes m n spells spells' f g is is' (starts m.tables m.cert.jitter f text says) k first

flies_once : (Says : Tables → ℕ → Plan → List ℕ → Type 0) → StartsInside Says → (guests : ℕ) (bytes text text' : List ℕ) → FliesWith Says guests bytes text
    → DoesNotFly guests bytes text' → ⊥
flies_once Says starts guests bytes text text' flies (n, spells', stopped) = flown_or_stopped Says starts guests bytes text text' n spells' flies stopped

-- a watched flight that is flown with guests, whatever its history comes to
abbrev Watching : ℕ → Command → List ℕ → Type 0
Watching guests Check bytes = ⊥
Watching guests Fly bytes = ⊥
Watching guests Replay bytes = ⊥
Watching guests Recover bytes = ⊥
Watching guests (Watch formula) bytes = (guests ≢ 0) × IsFlownWatched formula.now guests bytes
Watching guests Format bytes = ⊥
Watching guests Certify bytes = ⊥
Watching guests (Make n seed) bytes = ⊥
Watching guests (Soak n seed) bytes = ⊥

-- what is accepted is neither refused, but for a watched flight, nor rejected, and what is refused is not rejected
not_refuted : (guests : ℕ) (c : Command) (bytes text text' : List ℕ) → Accepts guests c bytes text → Refutes guests c bytes text' → Watching guests c bytes
not_refuted guests Check bytes text text' (m, spells, certified, safe, says) (n, spells', (r, refuses, says')) =
    accepted_refused needs.Check 0 bytes m n spells spells' r certified refuses
not_refuted guests Fly bytes text text' a r = flies_once IsTraceOf (λ t jitter f x says. says.0) guests bytes text text' a r
not_refuted guests Replay bytes text text' (m, spells, certified, safe, legal) (n, spells', inl (r, refuses, says')) =
    accepted_refused needs.Replay guests bytes m n spells spells' r certified refuses
not_refuted guests Replay bytes text text' (m, spells, certified, safe, (f, lines, (is, has), (inside, legal)))
    (n, spells', inr (certified', (g, lines', (is', has'), inl (k, first, says')))) =
    inside_outside needs.Replay guests bytes m n spells spells' f g is is' inside k first
not_refuted guests Replay bytes text text' (m, spells, certified, safe, (f, lines, has, (inside, (history, traced, says))))
    (n, spells', inr (certified', (g, lines', has', inr (inside', (number, kind, refused, says'))))) =
    traced_refused guests bytes m n spells spells' f g lines lines' has has' history traced number kind refused
not_refuted guests Recover bytes text text' (m, spells, certified, safe, says) (n, spells', inl (r, refuses, says')) =
    accepted_refused needs.Check 0 bytes m n spells spells' r certified refuses
not_refuted guests Recover bytes text text' (m, spells, certified, safe, says) (n, spells', inr (certified', says')) =
    (told_once m.tables n.tables m.cert n.cert text text' (look_same needs.Check 0 bytes m n spells spells')).2 says says'
not_refuted guests (Watch formula) bytes text text' (m, spells, certified, safe, (f, is, (inside, (x, history, means, flown, tells))))
    (inl (n, spells', certified', safe', (g, is', fails))) = (
      λ nobody. holds_or_fails guests nobody bytes m n spells spells' f g is is' formula.now text text' (inside, (x, history, means, flown, tells)) fails,
      (m, spells, (x, means), certified, (f, is, inside)),
    )
not_refuted guests (Watch formula) bytes text text' flies (inr (n, spells', means, stopped)) =
    absurd (flown_or_stopped (IsWatchedBy TellsHolds formula.now) (λ t jitter f x says. says.0) guests bytes text text' n spells' flies stopped)
not_refuted guests Format bytes text text' a r = r
not_refuted guests Certify bytes text text' (p, t, spells, resolves, (cert, made, fits, says), accepted)
    (q, u, spells', resolves', (fail, enough, fails, says')) =
    certify_alike t u cert fail (same_seen p q t u (spells_unique bytes 0 p q spells spells') resolves resolves') enough made fails
not_refuted guests (Make n seed) bytes text text' a r = r
not_refuted guests (Soak n seed) bytes text text' a r = flies_once IsSummaryOf (λ t jitter f x says. says.0) 0 (made_text n seed) text text' a r

not_rejected : (guests : ℕ) (c : Command) (bytes text text' : List ℕ) → Accepts guests c bytes text → Rejects guests c bytes text' → ⊥
not_rejected guests Check bytes text text' (m, spells, certified, safe, says) (f, has, says') = spelled_faulty needs.Check 0 bytes m f spells has
not_rejected guests Fly bytes text text' (m, spells, certified, safe, flown) (f, has, says') = spelled_faulty needs.Fly guests bytes m f spells has
not_rejected guests Replay bytes text text' (m, spells, certified, safe, legal) (f, has, says') = spelled_faulty needs.Replay guests bytes m f spells has
not_rejected guests Recover bytes text text' (m, spells, certified, safe, says) (f, has, says') = spelled_faulty needs.Check 0 bytes m f spells has
not_rejected guests (Watch formula) bytes text text' (m, spells, certified, safe, flown) (inl (f, has, says')) =
    spelled_faulty needs.Fly guests bytes m f spells has
not_rejected guests (Watch formula) bytes text text' (m, spells, certified, safe, (f, is, (inside, (x, history, means, flown, tells))))
    (inr (n, spells', (fail, enough, refuses, says'))) =
    meaning_or_fault m.tables n.tables (seen needs.Fly guests bytes m n spells spells') spells.resolved.rules formula.now fail enough (x, means) refuses
not_rejected guests Format bytes text text' a r = r.1 a.0 a.1
not_rejected guests Certify bytes text text' (p, t, spells, resolves, has, accepted) (f, fault, says) = program_faulty bytes p t f spells resolves fault
not_rejected guests (Make n seed) bytes text text' a r = r
not_rejected guests (Soak n seed) bytes text text' (m, spells, certified, safe, flown) (f, has, says') =
    spelled_faulty needs.Fly 0 (made_text n seed) m f spells has

refuted_not_rejected : (guests : ℕ) (c : Command) (bytes text text' : List ℕ) → Refutes guests c bytes text → Rejects guests c bytes text' → ⊥
refuted_not_rejected guests Check bytes text text' (m, spells, refused) (f, has, says') = spelled_faulty needs.Check 0 bytes m f spells has
refuted_not_rejected guests Fly bytes text text' (m, spells, refused) (f, has, says') = spelled_faulty needs.Fly guests bytes m f spells has
refuted_not_rejected guests Replay bytes text text' (m, spells, refused) (f, has, says') = spelled_faulty needs.Replay guests bytes m f spells has
refuted_not_rejected guests Recover bytes text text' (m, spells, refused) (f, has, says') = spelled_faulty needs.Check 0 bytes m f spells has
refuted_not_rejected guests (Watch formula) bytes text text' (inl (m, spells, certified, safe, flown)) (inl (f, has, says')) =
    spelled_faulty needs.Fly guests bytes m f spells has
refuted_not_rejected guests (Watch formula) bytes text text' (inr (m, spells, means, stopped)) (inl (f, has, says')) =
    spelled_faulty needs.Fly guests bytes m f spells has
refuted_not_rejected guests (Watch formula) bytes text text' (inl (m, spells, certified, safe, (f, is, (inside, (x, history, means, flown, tells)))))
    (inr (n, spells', (fail, enough, refuses, says'))) =
    meaning_or_fault m.tables n.tables (seen needs.Fly guests bytes m n spells spells') spells.resolved.rules formula.now fail enough (x, means) refuses
refuted_not_rejected guests (Watch formula) bytes text text' (inr (m, spells, means, stopped)) (inr (n, spells', (fail, enough, refuses, says'))) =
    meaning_or_fault m.tables n.tables (seen needs.Fly guests bytes m n spells spells') spells.resolved.rules formula.now fail enough means refuses
refuted_not_rejected guests Format bytes text text' a r = a
refuted_not_rejected guests Certify bytes text text' (p, t, spells, resolves, has) (f, fault, says) = program_faulty bytes p t f spells resolves fault
refuted_not_rejected guests (Make n seed) bytes text text' a r = r
refuted_not_rejected guests (Soak n seed) bytes text text' (m, spells, refused) (f, has, says') = spelled_faulty needs.Fly 0 (made_text n seed) m f spells has

-- of a watched flight that is flown with guests, 0 or 1 is the status, and one command else has one
abbrev AreOne : ℕ → ℕ → Type 0 → Type 0
AreOne s t Flown = (s ≡ t) ⊎ ((s ≤ 1) × (t ≤ 1) × Flown)

replies_once : (guests : ℕ) (c : Command) (bytes text text' : List ℕ) (s t : ℕ) → Replies guests c bytes s text → Replies guests c bytes t text'
    → AreOne s t (Watching guests c bytes)
replies_once guests c bytes text text' s t (inl (is, a)) (inl (is', b)) = inl (is ∙ sym is')
replies_once guests c bytes text text' s t (inl (is, a)) (inr (inl (is', b))) =
    inr (omega (arith, is), omega (arith, is'), not_refuted guests c bytes text text' a b)
replies_once guests c bytes text text' s t (inl (is, a)) (inr (inr (is', b))) = absurd (not_rejected guests c bytes text text' a b)
replies_once guests c bytes text text' s t (inr (inl (is, a))) (inl (is', b)) =
    inr (omega (arith, is), omega (arith, is'), not_refuted guests c bytes text' text b a)
replies_once guests c bytes text text' s t (inr (inl (is, a))) (inr (inl (is', b))) = inl (is ∙ sym is')
replies_once guests c bytes text text' s t (inr (inl (is, a))) (inr (inr (is', b))) = absurd (refuted_not_rejected guests c bytes text text' a b)
replies_once guests c bytes text text' s t (inr (inr (is, a))) (inl (is', b)) = absurd (not_rejected guests c bytes text' text b a)
replies_once guests c bytes text text' s t (inr (inr (is, a))) (inr (inl (is', b))) = absurd (refuted_not_rejected guests c bytes text' text b a)
replies_once guests c bytes text text' s t (inr (inr (is, a))) (inr (inr (is', b))) = inl (is ∙ sym is')

-- what is replied does not turn on where the text of a formula lies
abbrev Replying : ℕ → Command → List ℕ → ℕ → List ℕ → Type 0
Replying guests c bytes t text = Replies guests c (given_to c bytes) t text

replied_plain : (guests : ℕ) (c : Command) (bytes : List ℕ) (t : ℕ) (text : List ℕ) → Replying guests c bytes t text → Replying guests (plain c) bytes t text
replied_plain guests Check bytes t text x = x
replied_plain guests Fly bytes t text x = x
replied_plain guests Replay bytes t text x = x
replied_plain guests Recover bytes t text x = x
replied_plain guests (Watch formula) bytes t text x = x
replied_plain guests Format bytes t text x = x
replied_plain guests Certify bytes t text x = x
replied_plain guests (Make n seed) bytes t text x = x
replied_plain guests (Soak n seed) bytes t text x = x

plain_replied : (guests : ℕ) (c : Command) (bytes : List ℕ) (t : ℕ) (text : List ℕ) → Replying guests (plain c) bytes t text → Replying guests c bytes t text
plain_replied guests Check bytes t text x = x
plain_replied guests Fly bytes t text x = x
plain_replied guests Replay bytes t text x = x
plain_replied guests Recover bytes t text x = x
plain_replied guests (Watch formula) bytes t text x = x
plain_replied guests Format bytes t text x = x
plain_replied guests Certify bytes t text x = x
plain_replied guests (Make n seed) bytes t text x = x
plain_replied guests (Soak n seed) bytes t text x = x

given_plain : (c : Command) (bytes : List ℕ) → given_to c bytes ≡ given_to (plain c) bytes
given_plain Check bytes = refl
given_plain Fly bytes = refl
given_plain Replay bytes = refl
given_plain Recover bytes = refl
given_plain (Watch formula) bytes = refl
given_plain Format bytes = refl
given_plain Certify bytes = refl
given_plain (Make n seed) bytes = refl
given_plain (Soak n seed) bytes = refl

-- words that ask for such a flight ask for it
words_watch : (guests : ℕ) (words : List (String Global)) (c : Command) (bytes : List ℕ) → Asks words c → length (given_to c bytes) ≤ input_limit
    → Watching guests c (given_to c bytes) → FliesWatched guests words bytes
words_watch guests words Check bytes asks short flown = absurd flown
words_watch guests words Fly bytes asks short flown = absurd flown
words_watch guests words Replay bytes asks short flown = absurd flown
words_watch guests words Recover bytes asks short flown = absurd flown
words_watch guests words (Watch formula) bytes asks short (some, flown) = (some, (formula, asks, short, flown))
words_watch guests words Format bytes asks short flown = absurd flown
words_watch guests words Certify bytes asks short flown = absurd flown
words_watch guests words (Make n seed) bytes asks short flown = absurd flown
words_watch guests words (Soak n seed) bytes asks short flown = absurd flown

-- a command that reads works on all bytes
given_reader : (c : Command) (bytes : List ℕ) → Reads c → given_to c bytes ≡ bytes
given_reader Check bytes reads = refl
given_reader Fly bytes reads = refl
given_reader Replay bytes reads = refl
given_reader Recover bytes reads = refl
given_reader (Watch formula) bytes reads = refl
given_reader Format bytes reads = refl
given_reader Certify bytes reads = refl
given_reader (Make n seed) bytes reads = absurd reads
given_reader (Soak n seed) bytes reads = absurd reads

-- so words that ask for one have no short input where the bytes are too many
never_both : (words : List (String Global)) (bytes : List ℕ) (c d : Command) → Asks words c → Reads d → Asks words d → length (given_to c bytes) ≤ 16777216
    → 16777216 < length bytes → ⊥
never_both words bytes c d asks reads asks' short long =
    let alike : given_to (plain c) bytes ≡ given_to (plain d) bytes = ap (λ (x : Command). given_to x bytes) (same_command words c d asks asks') in
    let same : given_to c bytes ≡ bytes = given_plain c bytes ∙ alike ∙ sym (given_plain d bytes) ∙ given_reader d bytes reads in
    let size = ap length same in
    omega (arith, short, long, size)

-- words and bytes decide one status, but for a watched flight that is flown with guests
watched_or_one : (guests : ℕ) (words : List (String Global)) (c : Command) (bytes : List ℕ) (s t : ℕ) → Asks words c
    → length (given_to c bytes) ≤ input_limit → AreOne s t (Watching guests c (given_to c bytes)) → AreOne s t (FliesWatched guests words bytes)
watched_or_one guests words c bytes s t asks short (inl same) = inl same
watched_or_one guests words c bytes s t asks short (inr (a, b, flown)) = inr (a, b, words_watch guests words c bytes asks short flown)

pub decides_once : (guests : ℕ) (words : List (String Global)) (bytes : List ℕ) (s t : ℕ) → Decides guests words bytes s → Decides guests words bytes t
    → (s ≡ t) ⊎ ((s ≤ 1) × (t ≤ 1) × FliesWatched guests words bytes)
decides_once guests words bytes s t (inl (is, other)) (inl (is', other')) = inl (is ∙ sym is')
decides_once guests words bytes s t (inl (is, other)) (inr (inl (is', (d, reads, asks), long))) = absurd (other d asks)
decides_once guests words bytes s t (inl (is, other)) (inr (inr (c, asks, short, replies))) = absurd (other c asks)
decides_once guests words bytes s t (inr (inl (is, (d, reads, asks), long))) (inl (is', other)) = absurd (other d asks)
decides_once guests words bytes s t (inr (inl (is, asks, long))) (inr (inl (is', asks', long'))) = inl (is ∙ sym is')
decides_once guests words bytes s t (inr (inl (is, (d, reads, asks), long))) (inr (inr (c, asks', short, replies))) =
    absurd (never_both words bytes c d asks' reads asks short long)
decides_once guests words bytes s t (inr (inr (c, asks, short, replies))) (inl (is', other)) = absurd (other c asks)
decides_once guests words bytes s t (inr (inr (c, asks, short, replies))) (inr (inl (is', (d, reads, asks'), long))) =
    absurd (never_both words bytes c d asks reads asks' short long)
decides_once guests words bytes s t (inr (inr (c, asks, short, (text, replies)))) (inr (inr (d, asks', short', (text', replies')))) =
    let there = plain_replied guests c bytes t text' (subst (λ (x : Command). Replying guests x bytes t text') (same_command words d c asks' asks)
    (replied_plain guests d bytes t text' replies')) in
    watched_or_one guests words c bytes s t asks short (replies_once guests c (given_to c bytes) text text' s t replies there)
