-- Words and bytes decide the status, where regions are not searched, where there are none, and where halving makes cells.
use Rattle.std.proofs.Common.{◌≡◌, ◌∙◌, ℕ, ◌<◌, ◌≤◌, ◌⊎◌, List, [], ◌∷◌, Option, None, Some, Ok, inl, inr, length, refl, sym, ap, subst, arith, Global}
use Rattle.std.specs.Prelude.{String, IfSome}
use Rattle.std.specs.Fmt.{decimal}
use Rattle.std.proofs.lemmas.Fmt.{decimal_injective}
use Rattle.std.proofs.lemmas.List.{length-append}
use Rattle.sot_syntax_tree.specs.Trees.{Program}
use Rattle.sot_parser.proofs.ProgramTexts.{spells_unique}
use Rattle.sot_rules.specs.First.{IsFaultless}
use Rattle.sot_lists.specs.Places.{At}
use Rattle.sot_lang.specs.declared.tables.ModuleInfo.{ModuleInfo}
use Rattle.sot_lang.specs.Tables.{Tables}
use Rattle.sot_lang.specs.TableRules.{MeetsTableRules}
use Rattle.sot_lang.specs.declared.cert.Cert.{Cert}
use Rattle.sot_typing.specs.Resolved.{NodeTable, ProgramTables, tables_seen, tables_of}
use Rattle.sot_tube.specs.Checks.{and_then, for_each, IsExact}
use Rattle.sot_tube.specs.Verdict.{composition, periods, outputs, boxes, code}
use Rattle.sot_tube.proofs.Exact.{and_then_exact, for_each_exact}
use Rattle.sot_tube.proofs.VerdictExact.{composition_exact, periods_exact, outputs_exact, boxes_exact, code_exact}
use Rattle.sot_law_equal_tables.proofs.Seen.{node_back, module_back}
use Rattle.sot_law_equal_verdicts.proofs.Carried.{Carried, both_carried}
use Rattle.sot_law_equal_verdicts.proofs.Answers.{answers_alike}
use Rattle.sot_certify.specs.Certifying.{Certifies}
use Rattle.sot_law_equal_verdicts.proofs.Conditions.{periods_carried, outputs_carried, modules_carried, nodes_carried, composition_carried}
use Rattle.sot_report.specs.declared.fault.Fault.{Fault}
use Rattle.sot_report.specs.declared.fault.Fault.TheVariants as faults
use Rattle.sot_tube.specs.Certified.{IsWellCertified}
use Rattle.sot_law_regions_rewrite.specs.WithoutRegions.{AreSameButForRegions}
use Rattle.sot_law_regions_rewrite.proofs.Names.{nothing_else}
use Rattle.sot_regions_rewrite.specs.OtherRegions.{with_regions}
use Rattle.sot_regions_program.specs.Words.{Asks}
use Rattle.sot_cli.specs.Texts.{input_limit}
use Rattle.sot_regions_program.specs.AsAsked.{IsLate, frame_as_asked, as_asked, IsSearched}
use Rattle.sot_compose.specs.declared.looked.LookedAt.TheVariants.{SafeAlone}
use Rattle.sot_compose.specs.Frames.{seen_with}
use Rattle.sot_regions_program.specs.Answers.{HasOtherRegions, IsMissionOf, IsMissionAsGiven, SpellsTyped, SpellsSafe, Answers, AnswersTyped}
use Rattle.sot_regions_program.specs.Answers.{HasProgramFault, Replies}
use Rattle.sot_regions_program.specs.Ends.{IsNotSearched, LacksRegion, HasGivenMission, Decides, AskSearch}
use Rattle.sot_regions_program.specs.Steps.{WordAnswer}
use Rattle.sot_regions_program.proofs.NoRegions.{module_there}

heads : {A : Type 0} (x y : A) (xs ys : List A) → x ∷ xs ≡ y ∷ ys → (x ≡ y) × (xs ≡ ys)
heads x y xs ys e = (cc, cc)

-- words ask for one jitter
asks_once : (words : List (String Global)) (j k : ℕ) → Asks words j → Asks words k → j ≡ k
asks_once words j k (inl (none, is)) (inl (none', is')) = is ∙ sym is'
asks_once words j k (inl (none, is)) (inr (one, low)) = (let both = sym none ∙ one in absurd cc)
asks_once words j k (inr (one, low)) (inl (none, is)) = (let both = sym none ∙ one in absurd cc)
asks_once words j k (inr (one, low)) (inr (one', low')) =
    decimal_injective j k (omega (arith, low)) (omega (arith, low')) (heads (decimal j) (decimal k) [] [] (sym one ∙ one')).0

-- a program that breaks no rule of typing has no fault
typed_faulty : (bytes : List ℕ) (p : Program) (t : Tables) (f : Fault) → SpellsTyped bytes p t → HasProgramFault bytes f → ⊥
typed_faulty bytes p t (faults.Section f) typed has = has
typed_faulty bytes p t (faults.Syntax f) typed has = has.0 p typed.0
typed_faulty bytes p t (faults.Typing f) typed (q, spells, first) =
    subst (λ (x : Program). IsFaultless x) (spells_unique bytes 0 p q typed.0 spells) typed.1.faultless f.at f.kind first.fails
typed_faulty bytes p t (faults.Cert f) typed has = has
typed_faulty bytes p t (faults.Flight f) typed has = has

-- two tables of one text look the same
one_look : (bytes : List ℕ) (p q : Program) (t u : Tables) → SpellsTyped bytes p t → SpellsTyped bytes q u → tables_seen t ≡ tables_seen u
one_look bytes p q t u a b = a.1.tables ∙ ap tables_of (spells_unique bytes 0 p q a.0 b.0) ∙ sym b.1.tables

module _ (t u : Tables) (same : tables_seen t ≡ tables_seen u) where
  late_moved : (jitter : ℕ) → IsLate t jitter → IsLate u jitter
  late_moved jitter (inl (n, node, at, le)) =
      let y = node_back u t (sym same) n node at in
      inl (n, y.0, y.1, subst (λ (d : ℕ). d ≤ jitter) (ap (λ (s : NodeTable). s.period) (sym y.2)) le)
  late_moved jitter (inr (m, a, at, le)) = inr (m, a, module_back u t (sym same) m a at, le)

  frame_carried : (m : ℕ) (a : ModuleInfo) → Carried (frame_as_asked t m a) (frame_as_asked u m a)
  frame_carried m a =
      both_carried (and_then (periods t m a) (outputs t m a)) (boxes m (seen_with SafeAlone a)) (and_then (periods u m a) (outputs u m a))
      (boxes m (seen_with SafeAlone a))
      (both_carried (periods t m a) (outputs t m a) (periods u m a) (outputs u m a) (periods_carried t u same m a) (outputs_carried t u same m a))
      (record { passes = λ p. p; refuses = λ r h. h })

  asked_carried : Carried (as_asked t) (as_asked u)
  asked_carried =
      both_carried (composition t) (and_then (for_each t.modules (frame_as_asked t)) (for_each t.nodes (code t)))
      (composition u) (and_then (for_each u.modules (frame_as_asked u)) (for_each u.nodes (code u)))
      (composition_carried t u same)
      (both_carried (for_each t.modules (frame_as_asked t)) (for_each t.nodes (code t)) (for_each u.modules (frame_as_asked u)) (for_each u.nodes (code u))
      (modules_carried t u same (frame_as_asked t) (frame_as_asked u) frame_carried)
      (nodes_carried t u same))

frame_exact : (t : Tables) (m : ℕ) (a : ModuleInfo) → IsExact (frame_as_asked t m a)
frame_exact t m a =
    and_then_exact (and_then (periods t m a) (outputs t m a)) (boxes m (seen_with SafeAlone a))
    (and_then_exact (periods t m a) (outputs t m a) (periods_exact t m a) (outputs_exact t m a)) (boxes_exact m (seen_with SafeAlone a))

asked_exact : (t : Tables) → IsExact (as_asked t)
asked_exact t =
    and_then_exact (composition t) (and_then (for_each t.modules (frame_as_asked t)) (for_each t.nodes (code t))) (composition_exact t)
    (and_then_exact (for_each t.modules (frame_as_asked t)) (for_each t.nodes (code t)) (for_each_exact t.modules (frame_as_asked t) (frame_exact t))
    (for_each_exact t.nodes (code t) (code_exact t)))

-- regions are searched, or not
not_both : (t u : Tables) (jitter : ℕ) → tables_seen t ≡ tables_seen u → IsNotSearched t jitter → IsSearched u jitter → ⊥
not_both t u jitter same (inl late) (in_time, passes) = in_time (late_moved t u same jitter late)
not_both t u jitter same (inr (r, refuses)) (in_time, passes) = (asked_exact u).exclusive r ((asked_carried t u same).refuses r refuses) passes

low_of : (p : Program) (t : Tables) (jitter status : ℕ) (text : List ℕ) → Answers p t jitter status text → status ≤ 1
low_of p t jitter status text (inl x) = (let is = x.0 in omega (arith, is))
low_of p t jitter status text (inr (inl x)) = (let is = x.0 in omega (arith, is))
low_of p t jitter status text (inr (inr (inl x))) = (let is = x.0 in omega (arith, is))
low_of p t jitter status text (inr (inr (inr (inl x)))) = (let is = x.0 in omega (arith, is))
low_of p t jitter status text (inr (inr (inr (inr (inl x))))) = (let is = x.0 in omega (arith, is))
low_of p t jitter status text (inr (inr (inr (inr (inr x))))) = (let is = x.0 in omega (arith, is))

-- a mission of a program shows that each of its modules has a region
safe_one : (bytes : List ℕ) (p q changed : Program) (t u : Tables) (j k : ℕ) (text : List ℕ) → j ≡ k → SpellsTyped bytes p t → SpellsTyped bytes q u
    → LacksRegion p t k → AreSameButForRegions q changed → SpellsSafe changed u j text → ⊥
safe_one bytes p q changed t u j k text same typed typed' (m, a, at, none) but safe =
    let mission = safe.mission in
    let one : q ≡ p = spells_unique bytes 0 q p typed'.0 typed.0 in
    let has : HasOtherRegions p mission.program =
    record {
      changed = changed;
      regions = subst (λ (x : Program). AreSameButForRegions x changed) one but;
      places = safe.program;
    }
    in
    let modules : t.modules ≡ u.modules = ap (λ (s : ProgramTables). s.modules) (one_look bytes p q t u typed typed') in
    let b = module_there p mission.program t mission.tables has typed.1.tables safe.spelled.resolved.tables m a at in
    none mission.program mission.tables mission.cert a b.0 has safe.spelled.resolved at b.1
    (safe.inside m a b.0 (subst (λ (l : List ModuleInfo). At l m a) modules at) b.1)
    (subst (λ (n : ℕ). IsWellCertified mission.tables n mission.cert) same safe.accepted)

found_one : (bytes : List ℕ) (p q : Program) (t u : Tables) (j k : ℕ) (text : List ℕ) → j ≡ k → SpellsTyped bytes p t → SpellsTyped bytes q u
    → LacksRegion p t k → IsMissionOf q u j text ⊎ IsMissionAsGiven q u j text → ⊥
found_one bytes p q t u j k text same typed typed' lacks (inl found) =
    safe_one bytes p q (with_regions found.regions q) t u j k text same typed typed' lacks (nothing_else found.regions q) found.spelled
found_one bytes p q t u j k text same typed typed' lacks (inr given) =
    safe_one bytes p q q t u j k text same typed typed' lacks refl given.spelled

-- no period is 0
never_late : (t : Tables) → MeetsTableRules t → ¬ (IsLate t 0)
never_late t rules (inl (n, node, at, le)) = (let less = rules.typed.node_times n node at in absurd (omega (arith, less, le)))
never_late t rules (inr (m, a, at, le)) = (let less = rules.typed.module_times m a at in absurd (omega (arith, less, le)))

-- where a certificate is made for the given regions, no condition fails as asked
asked_passes : (t : Tables) (cert : Cert) → Certifies t (Ok cert) → (as_asked t).Passes
asked_passes t cert made =
    let all = made.0 in
    (all.0, ((λ m a at. (let one = all.1.0 m a at in (one.0, (one.1.0, one.1.0)))), all.1.1))

-- and the status is 0
given_one : (bytes : List ℕ) (j status : ℕ) (text : List ℕ) → j ≡ 0 → AnswersTyped status j bytes text → (p : Program) (t : Tables)
    → SpellsTyped bytes p t → HasGivenMission t → status ≡ 0
given_one bytes j status text zero (q, u, typed', answers) p t typed (cert, made) = by answers
  where
    there : Certifies u (Ok cert)
    there = answers_alike t u (Ok cert) (one_look bytes p q t u typed typed') made

    by : Answers q u j status text → status ≡ 0
    by (inl (is, late, says)) = absurd (never_late u typed'.1.rules (subst (λ (n : ℕ). IsLate u n) zero late))
    by (inr (inl (is, early, (r, refuses, says)))) = absurd ((asked_exact u).exclusive r refuses (asked_passes u cert there))
    by (inr (inr (inl (is, searched, fails, more)))) = absurd (fails zero cert there)
    by (inr (inr (inr (inl (is, searched, fails, more))))) = absurd (fails zero cert there)
    by (inr (inr (inr (inr (inl (is, searched, fails, more)))))) = absurd (fails zero cert there)
    by (inr (inr (inr (inr (inr x))))) = x.0

-- what is answered to bytes, and what decides
typed_one : (bytes : List ℕ) (j k status : ℕ) (text : List ℕ) → j ≡ k → AnswersTyped status j bytes text → (p : Program) (t : Tables) → SpellsTyped bytes p t
    → IsNotSearched t k ⊎ LacksRegion p t k → status ≡ 1
typed_one bytes j k status text same (q, u, typed', answers) p t typed cause = by answers cause
  where
    unsearched : IsNotSearched t k → IsSearched u j → ⊥
    unsearched not searched =
        not_both t u k (one_look bytes p q t u typed typed') not (subst (λ (n : ℕ). IsSearched u n) same searched)

    by : Answers q u j status text → IsNotSearched t k ⊎ LacksRegion p t k → status ≡ 1
    by (inl x) cause = x.0
    by (inr (inl x)) cause = x.0
    by (inr (inr (inl x))) cause = x.0
    by (inr (inr (inr (inl x)))) cause = x.0
    by (inr (inr (inr (inr (inl x))))) cause = x.0
    by (inr (inr (inr (inr (inr x))))) (inl not) = absurd (unsearched not x.1)
    by (inr (inr (inr (inr (inr x))))) (inr lacks) = absurd (found_one bytes p q t u j k text same typed typed' lacks x.2)

-- the cause of a status, in what is answered at the words
abbrev Cause : List (String Global) → List ℕ → ℕ → Type 0
Cause words bytes status =
    ((status ≡ 2) × ((jitter : ℕ) → ¬ (Asks words jitter)))
    ⊎ ((status ≡ 7) × ((jitter : ℕ) × Asks words jitter) × (input_limit < length bytes))
    ⊎ ((jitter : ℕ) × Asks words jitter × (length bytes ≤ input_limit) × ((text : List ℕ) × Replies jitter bytes status text))

cause_of : (words : List (String Global)) (left after : Option (List ℕ)) (status : ℕ) (text : List ℕ) → WordAnswer words left after status text
    → IfSome left (λ bytes. Cause words bytes status)
cause_of words None after status text answer = tt
cause_of words (Some xs) after status text (inr (other, is, text_is)) = inl (is, other)
cause_of words (Some xs) after status text (inl (jitter, asks, inl (bytes, all, short, replies))) =
    let is = sym all.0 in
    inr (inr (
      jitter,
      asks,
      subst (λ (b : List ℕ). length b ≤ input_limit) is short,
      (text, subst (λ (b : List ℕ). Replies jitter b status text) is replies),
    ))
cause_of words (Some xs) None status text (inl (jitter, asks, inr (is, (bytes, len, taken), text_is))) = absurd taken
cause_of words (Some xs) (Some ys) status text (inl (jitter, asks, inr (is, (bytes, len, taken), text_is))) =
    let whole = ap length taken in
    inr (inl (is, (jitter, asks), omega (arith, whole, length-append bytes ys)))

module _ (words : List (String Global)) (bytes : List ℕ) where
  one_status : (status s : ℕ) → Cause words bytes status → Decides words bytes s → status ≡ s
  one_status status s (inl (is, none)) (inl (is', none')) = is ∙ sym is'
  one_status status s (inl (is, none)) (inr (inl (is', (j, asks), long))) = absurd (none j asks)
  one_status status s (inl (is, none)) (inr (inr (inl (is', (j, asks), short, fault)))) = absurd (none j asks)
  one_status status s (inl (is, none)) (inr (inr (inr (inl (is', (j, asks, short, typed)))))) = absurd (none j asks)
  one_status status s (inl (is, none)) (inr (inr (inr (inr (is', asks, short, given))))) = absurd (none 0 asks)
  one_status status s (inr (inl (is, (j, asks), long))) (inl (is', none)) = absurd (none j asks)
  one_status status s (inr (inl (is, asks, long))) (inr (inl (is', asks', long'))) = is ∙ sym is'
  one_status status s (inr (inl (is, asks, long))) (inr (inr (inl (is', asks', short, fault)))) = absurd (omega (arith, long, short))
  one_status status s (inr (inl (is, asks, long))) (inr (inr (inr (inl (is', (j, asks', short, typed)))))) = absurd (omega (arith, long, short))
  one_status status s (inr (inl (is, asks, long))) (inr (inr (inr (inr (is', asks', short, given))))) = absurd (omega (arith, long, short))
  one_status status s (inr (inr (j, asks, short, more))) (inl (is', none)) = absurd (none j asks)
  one_status status s (inr (inr (j, asks, short, more))) (inr (inl (is', asks', long))) = absurd (omega (arith, long, short))
  one_status status s (inr (inr (j, asks, short, (text, inl (p, t, typed, answers))))) (inr (inr (inl (is', asks', short', (f, has))))) =
      absurd (typed_faulty bytes p t f typed has)
  one_status status s (inr (inr (j, asks, short, (text, inr (is, more))))) (inr (inr (inl (is', asks', short', fault)))) = is ∙ sym is'
  one_status status s (inr (inr (j, asks, short, (text, inl answers)))) (inr (inr (inr (inl (is', (k, asks', short', (p, t, typed, cause))))))) =
      typed_one bytes j k status text (asks_once words j k asks asks') answers p t typed cause ∙ sym is'
  one_status status s (inr (inr (j, asks, short, (text, inr (is, (f, has, says)))))) (inr (inr (inr (inl (is', (k, asks', short', (p, t, typed, cause))))))) =
      absurd (typed_faulty bytes p t f typed has)
  one_status status s (inr (inr (j, asks, short, (text, inl answers)))) (inr (inr (inr (inr (is', asks', short', (p, t, typed, given)))))) =
      given_one bytes j status text (asks_once words j 0 asks asks') answers p t typed given ∙ sym is'
  one_status status s (inr (inr (j, asks, short, (text, inr (is, (f, has, says)))))) (inr (inr (inr (inr (is', asks', short', (p, t, typed, given)))))) =
      absurd (typed_faulty bytes p t f typed has)

  low_status : (status : ℕ) → Cause words bytes status → AskSearch words bytes → status ≤ 1
  low_status status (inl (is, none)) (k, asks, short, typed) = absurd (none k asks)
  low_status status (inr (inl (is, asks, long))) (k, asks', short, typed) = absurd (omega (arith, long, short))
  low_status status (inr (inr (j, asks, short, (text, inl (p, t, typed, answers))))) (k, asks', short', more) = low_of p t j status text answers
  low_status status (inr (inr (j, asks, short, (text, inr (is, (f, has, says)))))) (k, asks', short', (p, t, typed, searched)) =
      absurd (typed_faulty bytes p t f typed has)

decided_by : (words : List (String Global)) (left : Option (List ℕ)) (status : ℕ) → IfSome left (λ bytes. Cause words bytes status)
    → IfSome left (λ bytes. (s : ℕ) → Decides words bytes s → status ≡ s)
decided_by words None status cause = tt
decided_by words (Some bytes) status cause = λ s decides. one_status words bytes status s cause decides

searched_by : (words : List (String Global)) (left : Option (List ℕ)) (status : ℕ) → IfSome left (λ bytes. Cause words bytes status)
    → IfSome left (λ bytes. AskSearch words bytes → status ≤ 1)
searched_by words None status cause = tt
searched_by words (Some bytes) status cause = λ asks. low_status words bytes status cause asks

pub only : (words : List (String Global)) (left after : Option (List ℕ)) (status : ℕ) (text : List ℕ) → WordAnswer words left after status text
    → IfSome left (λ bytes. (s : ℕ) → Decides words bytes s → status ≡ s)
only words left after status text answer = decided_by words left status (cause_of words left after status text answer)

pub low : (words : List (String Global)) (left after : Option (List ℕ)) (status : ℕ) (text : List ℕ) → WordAnswer words left after status text
    → IfSome left (λ bytes. AskSearch words bytes → status ≤ 1)
low words left after status text answer = searched_by words left status (cause_of words left after status text answer)
