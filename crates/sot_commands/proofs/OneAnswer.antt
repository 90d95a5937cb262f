-- What is said of bytes is said in one way.
use Rattle.std.proofs.Common.{◌≡◌, ℕ, ◌<◌, ℤ, List, [], Some, length, inl, inr, ⊎_elim, refl, sym, ap, ap₂, ◌∙◌, subst, arith}
use Rattle.std.specs.Prelude.{slice_index_or}
use Rattle.std.proofs.lemmas.Bool.{cases_lt}
use Rattle.sot_lists.specs.Places.{At}
use Rattle.sot_lists.proofs.Places.{at_same}
use Rattle.sot_sections.specs.declared.mission.Need.{Need}
use Rattle.sot_sections.specs.declared.mission.Need.TheVariants as needs
use Rattle.sot_sections.specs.Sections.{Parts}
use Rattle.sot_parser.proofs.ProgramTexts.{spells_unique}
use Rattle.sot_print.specs.Canonical.{canonical}
use Rattle.sot_lang.specs.Tables.{Tables}
use Rattle.sot_lang.specs.declared.tables.ModuleInfo.{ModuleInfo}
use Rattle.sot_typing.specs.Resolved.{tables_seen}
use Rattle.sot_law_equal_tables.proofs.Seen.{modules_same}
use Rattle.sot_cert.specs.CertFormat.{Contents}
use Rattle.sot_flight.specs.Plans.{Plan}
use Rattle.sot_tube.proofs.VerdictExact.{verdict_exact}
use Rattle.sot_law_equal_verdicts.proofs.Refusals.{refusals_alike}
use Rattle.sot_law_equal_verdicts.proofs.Certify.{fails_alike}
use Rattle.sot_law_equal_verdicts.proofs.Entries.{entries_alike}
use Rattle.sot_world.specs.HistoryEntry.{Logged}
use Rattle.sot_world.specs.Opens.{IsFirstOutside}
use Rattle.sot_replay.proofs.OneAnswer.{refused_once, traced_once}
use Rattle.sot_certified_text.specs.Missions.{mission_text}
use Rattle.sot_report.specs.Missions.{Mission, SaysFlight}
use Rattle.sot_report.specs.RefusalTexts.{refusal_text, start_text}
use Rattle.sot_certified_text.specs.FailTexts.{fail_text}
use Rattle.sot_maker.specs.Missions.{mission_text as made_text}
use Rattle.sot_commands.specs.declared.words.Command.TheVariants.{Check, Fly, Replay, Recover, Watch, Format, Certify, Make, Soak}
use Rattle.sot_commands.specs.ReplayTexts.{legal_text, refused_line_text}
use Rattle.sot_commands.specs.Answers.{IsRefused, IsOutsideOf, SpellsFor, DoesNotFly}
use Rattle.sot_commands.specs.Watched.{IsWatchedBy, TellsFails}
use Rattle.sot_commands.specs.Laws.{AcceptedOnce, RefusedOnce, LinesRefusedOnce, UnflownToldOnce}
use Rattle.sot_commands.proofs.SameMissions.{same_seen, same_flown, sections, seen, said, look_same}
use Rattle.sot_commands.proofs.Unique.{accepted_refused, flown_or_stopped, traced_moved}
use Rattle.sot_commands.proofs.OneWatch.{holds_once, fails_once}
use Rattle.sot_commands.proofs.InOrder.{same_plan, one_history}
use Rattle.sot_commands.proofs.SameSummaries.{summary_same}
use Rattle.sot_summary.specs.Summaries.{summary_of}
use Rattle.sot_summary.specs.SummaryText.{summary_text}
use Rattle.sot_trace.specs.Traces.{trace_text}
use Rattle.sot_law_trace_unique.proofs.Looks.{text_same}
use Rattle.sot_recovery_text.proofs.Alike.{told_once}
use Rattle.sot_commands.proofs.Replayed.{mission_words}
use Rattle.sot_commands.proofs.OneText.{refusal_text_same, start_text_same, fail_text_same, certificate_line_same, accepted_text_same}

-- two missions that one text spells
module _ (need : Need) (guests : ℕ) (bytes : List ℕ) (m n : Mission) (x : SpellsFor need guests bytes m) (y : SpellsFor need guests bytes n) where
  looks : tables_seen m.tables ≡ tables_seen n.tables
  looks = seen need guests bytes m n x y

  entries_same : m.cert.modules.items ≡ n.cert.modules.items
  entries_same = ap (λ (c : Contents). c.modules) (said need guests bytes m n x y)

  jitter_same : m.cert.jitter ≡ n.cert.jitter
  jitter_same = ap (λ (c : Contents). c.jitter) (said need guests bytes m n x y)

  -- are refused for one condition, with one text
  refused_text : (text other : List ℕ) → IsRefused m text → IsRefused n other → text ≡ other
  refused_text text other (r, refuses, is) (s, refuses', is') =
      let here = refusals_alike m.tables n.tables m.cert n.cert r looks jitter_same entries_same refuses in
      let one : r ≡ s = (verdict_exact n.tables n.cert.jitter n.cert).unique r s here refuses' in
      is ∙ refusal_text_same m.tables n.tables looks r ∙ ap (refusal_text n.tables) one ∙ sym is'

  -- have one flight
  pub flight_same : (f g : Plan) → m.flight ≡ Some f → n.flight ≡ Some g → f ≡ g
  flight_same f g is is' =
      same_flown guests m.tables n.tables x.parts.flight f g m.flight n.flight looks is is' x.flown
      (subst (λ (q : Parts). SaysFlight n.tables guests q.flight n.flight) (sym (sections need guests bytes m n x y)) y.flown)

-- one module is the first that starts outside
first_outside : (t : Tables) (start : List (List ℤ)) (k l : ℕ) → IsFirstOutside t start k → IsFirstOutside t start l → k < l → ⊥
first_outside t start k l a b less = a.outside (b.before k a.info less a.is)

same_outside : (t : Tables) (start : List (List ℤ)) (k l : ℕ) → IsFirstOutside t start k → IsFirstOutside t start l → k ≡ l
same_outside t start k l a b =
    ⊎_elim
    (λ less. absurd (first_outside t start k l a b less))
    (λ le. ⊎_elim (λ more. absurd (first_outside t start l k b a more)) (λ ge. omega (arith, le, ge)) (cases_lt l k))
    (cases_lt k l)

module _ (need : Need) (guests : ℕ) (bytes : List ℕ) (m n : Mission) (x : SpellsFor need guests bytes m) (y : SpellsFor need guests bytes n) (f g : Plan)
    (is : m.flight ≡ Some f) (is' : n.flight ≡ Some g) where
  -- the first module that starts outside, by the other tables
  outside_moved : (k : ℕ) → IsFirstOutside m.tables f.start k → IsFirstOutside n.tables g.start k
  outside_moved k first =
      let modules = modules_same m.tables n.tables (looks need guests bytes m n x y) in
      subst (λ (h : Plan). IsFirstOutside n.tables h.start k) (flight_same need guests bytes m n x y f g is is')
      (record {
        info = first.info;
        is = subst (λ (ms : List ModuleInfo). At ms k first.info) modules first.is;
        outside = first.outside;
        before = λ l a less at. first.before l a less (subst (λ (ms : List ModuleInfo). At ms l a) (sym modules) at);
      })

  -- is told with one text
  outside_text : (text other : List ℕ) → IsOutsideOf m.tables f text → IsOutsideOf n.tables g other → text ≡ other
  outside_text text other (k, first, told) (l, second, told') =
      let one : k ≡ l = same_outside n.tables g.start k l (outside_moved k first) second in
      let infos : first.info ≡ second.info =
      at_same n.tables.modules l first.info second.info (subst (λ j. At n.tables.modules j first.info) one
      (subst (λ (ms : List ModuleInfo). At ms k first.info) (modules_same m.tables n.tables (looks need guests bytes m n x y)) first.is)) second.is
      in
      let flights = flight_same need guests bytes m n x y f g is is' in
      told
      ∙ start_text_same m.tables n.tables (looks need guests bytes m n x y) k (slice_index_or f.start first.info.plant [])
      ∙ (λ i. start_text n.tables (one i) (slice_index_or (flights i).start (infos i).plant []))
      ∙ sym told'

-- a mission that does not fly is told so with one text
unflown_text : (guests : ℕ) (bytes text other : List ℕ) → DoesNotFly guests bytes text → DoesNotFly guests bytes other → text ≡ other
unflown_text guests bytes text other (m, x, inl refused) (n, y, inl refused') = refused_text needs.Fly guests bytes m n x y text other refused refused'
unflown_text guests bytes text other (m, x, inl (r, refuses, says)) (n, y, inr (certified, outside)) =
    absurd (accepted_refused needs.Fly guests bytes n m y x r certified refuses)
unflown_text guests bytes text other (m, x, inr (certified, outside)) (n, y, inl (r, refuses, says)) =
    absurd (accepted_refused needs.Fly guests bytes m n x y r certified refuses)
unflown_text guests bytes text other (m, x, inr (certified, (f, is, outside))) (n, y, inr (certified', (g, is', outside'))) =
    outside_text needs.Fly guests bytes m n x y f g is is' text other outside outside'

-- of a watched mission that is not flown nothing else is said
pub unflown_told_once : UnflownToldOnce
unflown_told_once guests formula bytes text other (inl flies) (n, y, means, stopped) =
    absurd (flown_or_stopped (IsWatchedBy TellsFails formula.now) (λ t jitter f x says. says.0) guests bytes text other n y flies stopped)
unflown_told_once guests formula bytes text other (inr (m, x, means, stopped)) (n, y, means', stopped') =
    unflown_text guests bytes text other (m, x, stopped) (n, y, stopped')

pub refuted_once : RefusedOnce
refuted_once guests Check bytes text other way (m, x, refused) (n, y, refused') = refused_text needs.Check 0 bytes m n x y text other refused refused'
refuted_once guests Fly bytes text other way a b = unflown_text guests bytes text other a b
refuted_once guests Replay bytes text other way a b = absurd way
refuted_once guests Recover bytes text other way (m, x, inl refused) (n, y, inl refused') =
    refused_text needs.Check 0 bytes m n x y text other refused refused'
refuted_once guests Recover bytes text other way (m, x, inl (r, refuses, says)) (n, y, inr (certified, never)) =
    absurd (accepted_refused needs.Check 0 bytes n m y x r certified refuses)
refuted_once guests Recover bytes text other way (m, x, inr (certified, never)) (n, y, inl (r, refuses, says)) =
    absurd (accepted_refused needs.Check 0 bytes m n x y r certified refuses)
refuted_once guests Recover bytes text other way (m, x, inr (certified, never)) (n, y, inr (certified', never')) =
    (told_once m.tables n.tables m.cert n.cert text other (look_same needs.Check 0 bytes m n x y)).1 never never'
refuted_once guests (Watch formula) bytes text other nobody (inl (m, x, certified, safe, (f, is, fails))) (inl (n, y, certified', safe', (g, is', fails'))) =
    fails_once guests nobody bytes m n x y f g is is' formula.now text other fails fails'
refuted_once guests (Watch formula) bytes text other nobody (inr stopped) (inl flies) =
    sym (unflown_told_once guests formula bytes other text (inl flies) stopped)
refuted_once guests (Watch formula) bytes text other nobody fails (inr stopped) = unflown_told_once guests formula bytes text other fails stopped
refuted_once guests Format bytes text other way a b = absurd a
refuted_once guests Certify bytes text other way (p, t, spells, resolves, (fail, enough, fails, says))
    (q, u, spells', resolves', (fail', enough', fails', says')) =
    let looks = same_seen p q t u (spells_unique bytes 0 p q spells spells') resolves resolves' in
    says ∙ fail_text_same t u looks fail ∙ ap (fail_text u) (fails_alike t u fail fail' looks enough enough' fails fails') ∙ sym says'
refuted_once guests (Make n seed) bytes text other way a b = absurd a
refuted_once guests (Soak n seed) bytes text other way a b = unflown_text 0 (made_text n seed) text other a b

pub lines_refused_once : LinesRefusedOnce
lines_refused_once guests bytes m f lines text other x (inside, (number, kind, refused, says)) (inside', (number', kind', refused', says')) =
    let one = refused_once m.tables m.cert.jitter f lines number number' kind kind' x.resolved.rules (mission_words needs.Replay guests bytes m x) refused
    refused' in
    says ∙ ap₂ refused_line_text one.0 one.1 ∙ sym says'

pub accepted_once : AcceptedOnce
accepted_once guests Check bytes text other one (m, x, certified, safe, says) (n, y, certified', safe', says') =
    says ∙ accepted_text_same m.tables n.tables (looks needs.Check 0 bytes m n x y) m.cert n.cert (entries_same needs.Check 0 bytes m n x y) ∙ sym says'
accepted_once guests Fly bytes text other one (m, x, certified, safe, (f, is, (inside, (h, order, says))))
    (n, y, certified', safe', (g, is', (inside', (h', order', says')))) =
    let history = one_history guests one bytes m n x y f g is is' h h' order order' in
    let plan = same_plan guests one bytes m n x y f g is is' in
    says ∙ text_same m.tables n.tables (looks needs.Fly guests bytes m n x y) f.start h
    ∙ (λ i. trace_text n.tables (plan i).start (history i)) ∙ sym says'
accepted_once guests Replay bytes text other one (m, x, certified, safe, (f, lines, has, (inside, (history, traced, says))))
    (n, y, certified', safe', (g, lines', has', (inside', (history', traced', says')))) =
    let there = traced_moved guests bytes m n x y f g lines lines' has has' history traced in
    let same : history ≡ history' = traced_once n.tables n.cert.jitter g lines' history history' y.resolved.rules (mission_words needs.Replay guests bytes n y)
    there traced' in
    says ∙ ap (λ (h : List Logged). legal_text (length h)) same ∙ sym says'
accepted_once guests Recover bytes text other one (m, x, certified, safe, says) (n, y, certified', safe', says') =
    (told_once m.tables n.tables m.cert n.cert text other (look_same needs.Check 0 bytes m n x y)).0 says says'
accepted_once guests (Watch formula) bytes text other one (m, x, certified, safe, (f, is, holds)) (n, y, certified', safe', (g, is', holds')) =
    holds_once guests one bytes m n x y f g is is' formula.now text other holds holds'
accepted_once guests Format bytes text other one (p, spells, says) (q, spells', says') =
    says ∙ ap canonical (spells_unique bytes 0 p q spells spells') ∙ sym says'
accepted_once guests Certify bytes text other one (p, t, spells, resolves, (c, made, fits, says), accepted)
    (q, u, spells', resolves', (d, made', fits', says'), accepted') =
    let programs : p ≡ q = spells_unique bytes 0 p q spells spells' in
    let looks = same_seen p q t u programs resolves resolves' in
    let lines = certificate_line_same t u looks c d (entries_alike t u c d looks fits fits' made made').1 in
    says ∙ (λ i. mission_text (canonical (programs i)) (lines i)) ∙ sym says'
accepted_once guests (Make n seed) bytes text other one says says' = says ∙ sym says'
accepted_once guests (Soak k seed) bytes text other one (m, x, certified, safe, (f, is, (inside, (h, order, says))))
    (n, y, certified', safe', (g, is', (inside', (h', order', says')))) =
    let made = made_text k seed in
    let history = one_history 0 refl made m n x y f g is is' h h' order order' in
    let plan = same_plan 0 refl made m n x y f g is is' in
    says ∙ ap summary_text (summary_same m.tables n.tables (looks needs.Fly 0 made m n x y) f h)
    ∙ (λ i. summary_text (summary_of n.tables (plan i) (history i))) ∙ sym says'
