-- What is said, from what was found.
use Rattle.std.proofs.Common.{◌≡◌, ◌∙◌, ℕ, ◌<◌, ◌≤◌, ℤ, List, Result, Ok, Err, Bool, false, inl, inr, length, refl, ap, subst, arith}
use Rattle.std.specs.Prelude.{IfOk, IsTrue, ◌↔◌}
use Rattle.std.proofs.lemmas.Option.{slice_get_within}
use Rattle.std.specs.declared.alloc.AllocError.{AllocError}
use Rattle.sot_lists.specs.Places.{At}
use Rattle.sot_lists.proofs.Places.{at_below}
use Rattle.sot_sections.specs.declared.mission.Need.TheVariants as needs
use Rattle.sot_syntax_tree.specs.Trees.{Program}
use Rattle.sot_parser.specs.Programs.{Spells}
use Rattle.sot_parser.specs.declared.syntax.Syntax.{Syntax}
use Rattle.sot_parser.specs.ParseAnswers.{fault_at}
use Rattle.sot_law_fault_place.proofs.ExactPlaces.{fault_is_placed}
use Rattle.sot_rules.specs.declared.fault.TypeFault.{TypeFault}
use Rattle.sot_rules.specs.First.{IsFirstFault}
use Rattle.sot_lang.specs.declared.cert.Cert.{Cert}
use Rattle.sot_lang.specs.declared.tables.ModuleInfo.{ModuleInfo}
use Rattle.sot_lang.specs.Tables.{Tables}
use Rattle.sot_tube.specs.Refusals.{Refusal}
use Rattle.sot_tube.specs.Verdict.{verdict}
use Rattle.sot_report.specs.declared.fault.Fault.TheVariants as faults
use Rattle.sot_report.specs.Missions.{Mission, SpellsNone, Resolves, SpellsMission}
use Rattle.sot_report.specs.FaultTexts.{type_text, syntax_text}
use Rattle.sot_report.specs.RefusalTexts.{refusal_text}
use Rattle.sot_certified_text.specs.ReadAgain.{IsCertificateFor, written_with_jitter}
use Rattle.sot_regions_rewrite.specs.declared.modules.ModuleRegions.{ModuleRegions}
use Rattle.sot_regions_rewrite.specs.OtherRegions.{with_regions}
use Rattle.sot_regions.specs.declared.found.RegionsFail.TheVariants as causes
use Rattle.sot_regions_program.specs.Lines.{refusal_line}
use Rattle.sot_regions_program.specs.declared.refusal.RegionsRefusal.{RegionsRefusal}
use Rattle.sot_regions_program.specs.declared.refusal.RegionsRefusal.TheVariants.{Jitter, SafeNone}
use Rattle.sot_regions_program.specs.declared.refusal.RegionsRefusal.TheVariants.{TooMany, SaferNone, SafeNoneBeside}
use Rattle.sot_cli.specs.declared.answer.Answer.{Answer}
use Rattle.sot_regions_program.specs.AsAsked.{IsLate, as_asked, IsSearched}
use Rattle.sot_regions_program.specs.Findings.{AreFirstFound, AreFound}
use Rattle.sot_regions_program.specs.Shown.{verdict_of_some}
use Rattle.sot_regions_program.specs.Answers.{StayInside, SpellsSafe, IsAloneAt, NamesModule, Answers, Replies}
use Rattle.sot_regions_program.specs.Steps.{AnswersNone, AnswersFound, AnswersSearched, AnswersAtLast, AnswersTree, TellsModule, TellsFail}
use Rattle.sot_regions_program.proofs.Spelled.{spells_safe}

-- what is said of the text of a program: `r` is what the call answers
pub typed_result : (r : Result Answer AllocError) (jitter : ℕ) (bytes : List ℕ) (p : Program) → Spells bytes 0 p
    → IfOk r (λ a. AnswersTree p jitter a.status a.text.items)
    → IfOk r (λ a. Replies jitter bytes a.status a.text.items)
typed_result (Ok a) jitter bytes p spells (inl (t, resolves, answers)) = inl (p, t, (spells, resolves), answers)
typed_result (Ok a) jitter bytes p spells (inr (is, (fault, first, says))) = inr (is, (faults.Typing fault, (p, spells, first), says))
typed_result (Err e) jitter bytes p spells said = tt

pub misspelled_result : (r : Result Answer AllocError) (jitter : ℕ) (bytes : List ℕ) (fault : Syntax) → SpellsNone bytes → fault ≡ fault_at bytes 0
    → IfOk r (λ a. a.status ≡ 3) → IfOk r (λ a. a.text.items ≡ syntax_text fault)
    → IfOk r (λ a. Replies jitter bytes a.status a.text.items)
misspelled_result (Ok a) jitter bytes fault none place status text = inr (status, (faults.Syntax fault, (none, fault_is_placed bytes 0 fault none place), text))
misspelled_result (Err e) jitter bytes fault none place status text = tt

-- of a program's tree
pub tables_result : (r : Result Answer AllocError) (p : Program) (t : Tables) (jitter : ℕ) → Resolves p t
    → IfOk r (λ a. Answers p t jitter a.status a.text.items)
    → IfOk r (λ a. AnswersTree p jitter a.status a.text.items)
tables_result (Ok a) p t jitter resolves said = inl (t, resolves, said)
tables_result (Err e) p t jitter resolves said = tt

pub mistyped_result : (r : Result Answer AllocError) (p : Program) (jitter : ℕ) (fault : TypeFault) → IsFirstFault p fault → IfOk r (λ a. a.status ≡ 3)
    → IfOk r (λ a. a.text.items ≡ type_text fault)
    → IfOk r (λ a. AnswersTree p jitter a.status a.text.items)
mistyped_result (Ok a) p jitter fault first status text = inr (status, (fault, first, text))
mistyped_result (Err e) p jitter fault first status text = tt

-- of its tables
pub late_result : (r : Result Answer AllocError) (p : Program) (t : Tables) (jitter : ℕ) → IsLate t jitter → IfOk r (λ a. a.status ≡ 1)
    → IfOk r (λ a. a.text.items ≡ refusal_line t (Jitter jitter))
    → IfOk r (λ a. Answers p t jitter a.status a.text.items)
late_result (Ok a) p t jitter late status text = inl (status, late, text)
late_result (Err e) p t jitter late status text = tt

pub refused_result : (r : Result Answer AllocError) (p : Program) (t : Tables) (jitter : ℕ) (refusal : Refusal) → ¬ (IsLate t jitter)
    → (as_asked t).Refuses refusal
    → IfOk r (λ a. a.status ≡ 1) → IfOk r (λ a. a.text.items ≡ refusal_text t refusal)
    → IfOk r (λ a. Answers p t jitter a.status a.text.items)
refused_result (Ok a) p t jitter refusal in_time refuses status text = inr (inl (status, in_time, (refusal, refuses, text)))
refused_result (Err e) p t jitter refusal in_time refuses status text = tt

searched_answer : (p : Program) (t : Tables) (jitter status : ℕ) (text : List ℕ) → IsSearched t jitter → AnswersAtLast p t jitter status text
    → Answers p t jitter status text
searched_answer p t jitter status text searched (inl (inl (is, inl none), fails)) = inr (inr (inl (is, searched, fails is, none)))
searched_answer p t jitter status text searched (inl (inl (is, inr refused), fails)) = inr (inr (inr (inl (is, searched, fails is, refused))))
searched_answer p t jitter status text searched (inl (inr (inl (is, refused)), fails)) =
    inr (inr (inr (inr (inl (is, searched, fails is, refused)))))
searched_answer p t jitter status text searched (inl (inr (inr (is, found)), fails)) = inr (inr (inr (inr (inr (is, searched, inl found)))))
searched_answer p t jitter status text searched (inr (is, given)) = inr (inr (inr (inr (inr (is, searched, inr given)))))

pub searched_result : (r : Result Answer AllocError) (p : Program) (t : Tables) (jitter : ℕ) → IsSearched t jitter
    → IfOk r (λ a. AnswersAtLast p t jitter a.status a.text.items)
    → IfOk r (λ a. Answers p t jitter a.status a.text.items)
searched_result (Ok a) p t jitter searched said = searched_answer p t jitter a.status a.text.items searched said
searched_result (Err e) p t jitter searched said = tt

-- of what was searched
pub found_result : (r : Result Answer AllocError) (p : Program) (t : Tables) (jitter : ℕ) → IfOk r (λ a. AnswersFound p t jitter a.status a.text.items)
    → IfOk r (λ a. AnswersSearched p t jitter a.status a.text.items)
found_result (Ok a) p t jitter said = inr said
found_result (Err e) p t jitter said = tt

pub missed_result : (r : Result Answer AllocError) (p : Program) (t : Tables) (jitter : ℕ) → IfOk r (λ a. AnswersNone p t jitter a.status a.text.items)
    → IfOk r (λ a. AnswersSearched p t jitter a.status a.text.items)
missed_result (Ok a) p t jitter said = inl said
missed_result (Err e) p t jitter said = tt

-- of a module of which none was found
pub none_result : (r : Result Answer AllocError) (p : Program) (t : Tables) (jitter : ℕ) (refusal : RegionsRefusal) → NamesModule p t jitter refusal
    → IfOk r (λ a. a.status ≡ 1) → IfOk r (λ a. a.text.items ≡ refusal_line t refusal)
    → IfOk r (λ a. AnswersNone p t jitter a.status a.text.items)
none_result (Ok a) p t jitter refusal names status text = (status, inl (refusal, names, text))
none_result (Err e) p t jitter refusal names status text = tt

pub before_result : (r : Result Answer AllocError) (p : Program) (t u : Tables) (jitter m : ℕ) (regions : List ModuleRegions) (cert : Cert)
    (refusal : Refusal) → AreFirstFound t regions m → Resolves (with_regions regions p) u → cert.jitter ≡ jitter
    → (verdict_of_some u cert.jitter cert).Refuses refusal
    → IfOk r (λ a. a.status ≡ 1) → IfOk r (λ a. a.text.items ≡ refusal_text u refusal)
    → IfOk r (λ a. AnswersNone p t jitter a.status a.text.items)
before_result (Ok a) p t u jitter m regions cert refusal found resolves is refuses status text =
    (status, inr (m, regions, u, cert, found, resolves, is, (refusal, refuses, text)))
before_result (Err e) p t u jitter m regions cert refusal found resolves is refuses status text = tt

-- of what was found
pub unaccepted_result : (r : Result Answer AllocError) (p : Program) (t u : Tables) (jitter : ℕ) (regions : List ModuleRegions) (cert : Cert)
    (refusal : Refusal) → AreFound t regions → Resolves (with_regions regions p) u → cert.jitter ≡ jitter → (verdict u cert.jitter cert).Refuses refusal
    → IfOk r (λ a. a.status ≡ 1) → IfOk r (λ a. a.text.items ≡ refusal_text u refusal)
    → IfOk r (λ a. AnswersFound p t jitter a.status a.text.items)
unaccepted_result (Ok a) p t u jitter regions cert refusal found resolves is refuses status text =
    inl (status, (regions, u, cert, found, resolves, is, (refusal, refuses, text)))
unaccepted_result (Err e) p t u jitter regions cert refusal found resolves is refuses status text = tt

pub mission_result : (r : Result Answer AllocError) (p q : Program) (t u : Tables) (regions : List ModuleRegions) (cert : Cert) → q ≡ with_regions regions p
    → AreFound t regions → StayInside t u
    → IsCertificateFor q u cert → IfOk r (λ a. a.status ≡ 0) → IfOk r (λ a. a.text.items ≡ written_with_jitter q u cert)
    → IfOk r (λ a. (m : Mission) × SpellsMission needs.Check 0 a.text.items m)
    → IfOk r (λ a. AnswersFound p t cert.jitter a.status a.text.items)
mission_result (Ok a) p q t u regions cert same found inside has status text spelled =
    inr (
      status,
      record {
        regions = regions;
        found = found;
        tables = u;
        cert = cert;
        text_is = text ∙ ap (λ (x : Program). written_with_jitter x u cert) same;
        spelled = subst (λ (x : Program). SpellsSafe x t cert.jitter a.text.items) same (spells_safe q t u cert a.text.items has inside text spelled);
      },
    )
mission_result (Err e) p q t u regions cert same found inside has status text spelled = tt

-- a line of a module that is there names it
pub tells_module : (t : Tables) (m : ℕ) → m < length t.modules → (m ≡ m) × ((a : ModuleInfo) × At t.modules m a)
tells_module t m less = (refl, at_below t.modules m less)

-- what is known where nothing is left of the safe region of one that no other plant concerns, and of one that others do
pub tells_grain : (t : Tables) (jitter m : ℕ) (grain : List ℤ) → m < length t.modules → IsAloneAt t m → TellsFail t jitter m (causes.SafeNone grain)
    → TellsModule t jitter m (SafeNone m grain)
tells_grain t jitter m grain less alone tells =
    let a = at_below t.modules m less in
    (refl, alone, (a.0, a.1, tells grain a.0 refl a.1 (alone a.0 a.1)))

pub tells_beside : (t : Tables) (jitter m : ℕ) (grain : List ℤ) → m < length t.modules → ¬ (IsAloneAt t m)
    → TellsModule t jitter m (SafeNoneBeside m grain)
tells_beside t jitter m grain less beside = (refl, beside, at_below t.modules m less)

-- a jitter that was found below all periods
pub in_time_of : (late : Bool) (t : Tables) (jitter : ℕ) → IsTrue late ↔ IsLate t jitter → late ≡ false → ¬ (IsLate t jitter)
in_time_of late t jitter is early has = (let yes = is.1 has in absurd cc)

-- there are at least as many modules as come before one that is named
pub told_few : (t : Tables) (jitter m : ℕ) (r : RegionsRefusal) → TellsModule t jitter m r → m ≤ length t.modules
told_few t jitter m (Jitter j) tells = absurd tells
told_few t jitter m (SafeNone n grain) (is, alone, (a, at, more)) = (let less = slice_get_within t.modules m a at in omega (arith, less))
told_few t jitter m (SafeNoneBeside n grain) (is, beside, (a, at)) = (let less = slice_get_within t.modules m a at in omega (arith, less))
told_few t jitter m (TooMany n) (is, (a, at)) = (let less = slice_get_within t.modules m a at in omega (arith, less))
told_few t jitter m (SaferNone n) (is, (a, at)) = (let less = slice_get_within t.modules m a at in omega (arith, less))

-- no module comes before the first one
pub none_before : (n m : ℕ) → n ≡ 0 → n ≡ m → 0 < m → ⊥
none_before n m empty counted less = absurd (omega arith)
