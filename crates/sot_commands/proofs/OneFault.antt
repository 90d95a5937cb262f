-- The first fault of bytes is one, but for faults of nesting.
use Rattle.std.proofs.Common.{◌≡◌, ◌⊎◌, ℕ, ◌<◌, ◌≤◌, List, Option, Some, None, Err, inl, inr, codes, refl, sym, ap, ◌∙◌, subst, arith}
use Rattle.std.specs.Prelude.{if◌then◌else◌, ◌==◌}
use Rattle.sot_text.specs.Place.{rank}
use Rattle.sot_sections.specs.declared.mission.Need.{Need}
use Rattle.sot_sections.specs.declared.mission.Need.TheVariants as needs
use Rattle.sot_sections.specs.declared.mission.SectionFault.{SectionFault}
use Rattle.sot_sections.specs.Sections.{Parts, split_of}
use Rattle.sot_text.specs.Ahead.{Ahead, ahead_from}
use Rattle.sot_syntax_tree.specs.Trees.{Program}
use Rattle.sot_parser.specs.Programs.{Spells}
use Rattle.sot_parser.specs.declared.syntax.Syntax.{Syntax}
use Rattle.sot_parser.specs.declared.syntax.Syntax.TheVariants.{Lex, Token, Deep}
use Rattle.sot_parser.proofs.ProgramTexts.{spells_unique}
use Rattle.sot_law_fault_place.specs.Places.{IsFaultOf}
use Rattle.sot_law_fault_place.proofs.OnePlace.{exact_places_are_one}
use Rattle.sot_rules.specs.declared.fault.TypeFault.{TypeFault}
use Rattle.sot_rules.specs.declared.fault.TypeKind.{TypeKind}
use Rattle.sot_rules.specs.declared.fault.TypeKind.TheVariants.{Unknown, Twice, ScaleDiffers, KindDiffers, RangeEmpty, InitOutside, ReadsAndWrites, TooMany}
use Rattle.sot_rules.specs.declared.fault.TypeKind.TheVariants.{RangeWide, NoModule, PeriodOutside, NextMissing}
use Rattle.sot_rules.specs.First.{number_of, IsFirstFault, IsFaultless}
use Rattle.sot_lang.specs.Tables.{Tables}
use Rattle.sot_typing.specs.Resolved.{tables_seen}
use Rattle.sot_law_equal_tables.proofs.Flights.{flights_alike}
use Rattle.sot_json.specs.declared.fault.JsonFault.{JsonFault}
use Rattle.sot_cert.specs.CertFormat.{cert_of}
use Rattle.sot_maker.specs.Missions.{mission_text as made_text}
use Rattle.sot_report.specs.declared.fault.Fault.{Fault}
use Rattle.sot_report.specs.declared.fault.Fault.TheVariants as faults
use Rattle.sot_report.specs.Missions.{HasParts, SpellsNone, SpellsTables, FaultsFlight, HasFault}
use Rattle.sot_report.specs.FaultTexts.{fault_text, syntax_text, type_text, json_text}
use Rattle.sot_commands.specs.declared.words.Command.TheVariants.{Check, Fly, Replay, Recover, Watch, Format, Certify, Make, Soak}
use Rattle.sot_commands.specs.Answers.{HasProgramFault}
use Rattle.sot_commands.specs.Laws.{SaysDeep, TellOneRule, RejectedOnce}
use Rattle.sot_commands.specs.WatchTexts.{formula_text}
use Rattle.sot_commands.proofs.FormulasAlike.{one_formula_fault}
use Rattle.sot_commands.proofs.SameMissions.{same_parts, same_program, same_seen, same_said, seen}
use Rattle.sot_commands.proofs.Unique.{spelled_faulty}

-- two texts that tell one fault, as far as one is told
abbrev SayOne : List ℕ → List ℕ → Type 0
SayOne text other = (text ≡ other) ⊎ TellOneRule text other ⊎ SaysDeep text ⊎ SaysDeep other

said_so : (text other x y : List ℕ) → text ≡ x → other ≡ y → SayOne x y → SayOne text other
said_so text other x y is is' one = subst (λ a. SayOne a other) (sym is) (subst (λ b. SayOne x b) (sym is') one)

-- a rule is told by its number
rule_of : ℕ → TypeKind
rule_of n =
    if n == 1 then Unknown
    else if n == 2 then Twice
    else if n == 3 then ScaleDiffers
    else if n == 4 then KindDiffers
    else if n == 5 then RangeEmpty
    else if n == 6 then InitOutside
    else if n == 7 then ReadsAndWrites
    else if n == 8 then TooMany
    else if n == 9 then RangeWide
    else if n == 10 then NoModule
    else if n == 11 then PeriodOutside
    else NextMissing

rule_back : (k : TypeKind) → rule_of (number_of k) ≡ k
unfolding rule_of
rule_back Unknown = refl
rule_back Twice = refl
rule_back ScaleDiffers = refl
rule_back KindDiffers = refl
rule_back RangeEmpty = refl
rule_back InitOutside = refl
rule_back ReadsAndWrites = refl
rule_back TooMany = refl
rule_back RangeWide = refl
rule_back NoModule = refl
rule_back PeriodOutside = refl
rule_back NextMissing = refl

same_rule : (k l : TypeKind) → number_of k ≡ number_of l → k ≡ l
same_rule k l e = sym (rule_back k) ∙ ap rule_of e ∙ rule_back l

typing_once : (p : Program) (f g : TypeFault) → IsFirstFault p f → IsFirstFault p g → SayOne (type_text f) (type_text g)
typing_once p f g a b = by (a.first g b.fails) (b.first f a.fails)
  where
    by : (rank f.at < rank g.at) ⊎ ((rank f.at ≡ rank g.at) × (number_of f.kind ≤ number_of g.kind))
        → (rank g.at < rank f.at) ⊎ ((rank g.at ≡ rank f.at) × (number_of g.kind ≤ number_of f.kind)) → SayOne (type_text f) (type_text g)
    by (inl less) (inl more) = absurd (omega (arith, less, more))
    by (inl less) (inr (same, le)) = absurd (omega (arith, less, same))
    by (inr (same, le)) (inl more) = absurd (omega (arith, more, same))
    by (inr (same, le)) (inr (same', ge)) = inr (inl (f, g, same, same_rule f.kind g.kind (omega (arith, le, ge)), refl, refl))

syntax_once : (bytes : List ℕ) (ahead : Ahead) (f g : Syntax) → IsFaultOf bytes ahead f → IsFaultOf bytes ahead g → SayOne (syntax_text f) (syntax_text g)
syntax_once bytes ahead (Deep at) g a b = inr (inr (inl (at, refl)))
syntax_once bytes ahead (Lex f) (Deep at) a b = inr (inr (inr (at, refl)))
syntax_once bytes ahead (Token f) (Deep at) a b = inr (inr (inr (at, refl)))
syntax_once bytes ahead (Lex f) (Lex g) a b = inl (ap syntax_text (exact_places_are_one bytes ahead (Lex f) (Lex g) a b tt tt))
syntax_once bytes ahead (Lex f) (Token g) a b = inl (ap syntax_text (exact_places_are_one bytes ahead (Lex f) (Token g) a b tt tt))
syntax_once bytes ahead (Token f) (Lex g) a b = inl (ap syntax_text (exact_places_are_one bytes ahead (Token f) (Lex g) a b tt tt))
syntax_once bytes ahead (Token f) (Token g) a b = inl (ap syntax_text (exact_places_are_one bytes ahead (Token f) (Token g) a b tt tt))

-- what is read before a fault has none
module _ (need : Need) (guests : ℕ) (bytes : List ℕ) where
  parts_or_fault : (s : SectionFault) (parts : Parts) → split_of bytes need ≡ Err s → HasParts need bytes parts → ⊥
  parts_or_fault s parts e has = (let both = sym e ∙ has in absurd cc)

  none_or_program : (a b : Parts) (p : Program) → HasParts need bytes a → HasParts need bytes b → SpellsNone a.program → Spells b.program 0 p → ⊥
  none_or_program a b p has has' none spells = none p (subst (λ (q : Parts). Spells q.program 0 p) (same_parts need bytes b a has' has) spells)

  typing_or_tables : (a b : Parts) (p q : Program) (t : Tables) (f : TypeFault) → HasParts need bytes a → HasParts need bytes b → Spells a.program 0 p
      → IsFirstFault p f → SpellsTables b q t → ⊥
  typing_or_tables a b p q t f has has' spells first (spells', resolves) =
      let same : q ≡ p = same_program b a q p (same_parts need bytes b a has' has) spells' spells in
      subst (λ (x : Program). IsFaultless x) same resolves.faultless f.at f.kind first.fails

  said_alike : (a b : Parts) (p q : Program) (t u : Tables) → HasParts need bytes a → HasParts need bytes b → SpellsTables a p t → SpellsTables b q u
      → cert_of t a.cert ≡ cert_of u b.cert
  said_alike a b p q t u has has' (spells, resolves) (spells', resolves') =
      let here = same_parts need bytes a b has has' in
      same_said a b t u here (same_seen p q t u (same_program a b p q here spells spells') resolves resolves')

  flown_alike : (a b : Parts) (p q : Program) (t u : Tables) (f g : JsonFault) → HasParts need bytes a → HasParts need bytes b → SpellsTables a p t
      → SpellsTables b q u
      → FaultsFlight t guests a.flight f → FaultsFlight u guests b.flight g → f ≡ g
  flown_alike a b p q t u f g has has' (spells, resolves) (spells', resolves') fails fails' =
      let here = same_parts need bytes a b has has' in
      let looks = same_seen p q t u (same_program a b p q here spells spells') resolves resolves' in
      by a.flight f g looks fails (subst (λ (q : Parts). FaultsFlight u guests q.flight g) (sym here) fails')
    where
      by : (section : Option (List ℕ)) (f g : JsonFault) → tables_seen t ≡ tables_seen u → FaultsFlight t guests section f → FaultsFlight u guests section g
          → f ≡ g
      by None f g looks x y = absurd x
      by (Some section) f g looks x y = (let both = sym x ∙ flights_alike t u guests section looks ∙ y in cc)

  fault_once : (f g : Fault) → HasFault need guests bytes f → HasFault need guests bytes g → SayOne (fault_text f) (fault_text g)
  fault_once (faults.Section f) (faults.Section g) e e' = (let both = sym e ∙ e' in let one : f ≡ g = cc in inl (ap (λ x. fault_text (faults.Section x)) one))
  fault_once (faults.Section f) (faults.Syntax g) e (b, has', none', is') = absurd (parts_or_fault f b e has')
  fault_once (faults.Section f) (faults.Typing g) e (b, has', more) = absurd (parts_or_fault f b e has')
  fault_once (faults.Section f) (faults.Cert g) e (b, has', more) = absurd (parts_or_fault f b e has')
  fault_once (faults.Section f) (faults.Flight g) e (b, has', more) = absurd (parts_or_fault f b e has')
  fault_once (faults.Syntax f) (faults.Section g) (a, has, none, is) e = absurd (parts_or_fault g a e has)
  fault_once (faults.Typing f) (faults.Section g) (a, has, more) e = absurd (parts_or_fault g a e has)
  fault_once (faults.Cert f) (faults.Section g) (a, has, more) e = absurd (parts_or_fault g a e has)
  fault_once (faults.Flight f) (faults.Section g) (a, has, more) e = absurd (parts_or_fault g a e has)
  fault_once (faults.Syntax f) (faults.Syntax g) (a, has, none, is) (b, has', none', is') =
      syntax_once a.program (ahead_from a.program 0) f g is (subst (λ (q : Parts). IsFaultOf q.program (ahead_from q.program 0) g)
      (same_parts need bytes b a has' has) is')
  fault_once (faults.Syntax f) (faults.Typing g) (a, has, none, is) (b, has', (q, spells', first')) = absurd (none_or_program a b q has has' none spells')
  fault_once (faults.Syntax f) (faults.Cert g) (a, has, none, is) (b, has', (q, u, (spells', resolves'), fails')) =
      absurd (none_or_program a b q has has' none spells')
  fault_once (faults.Syntax f) (faults.Flight g) (a, has, none, is) (b, has', (q, u, (spells', resolves'), says', fails')) =
      absurd (none_or_program a b q has has' none spells')
  fault_once (faults.Typing f) (faults.Syntax g) (a, has, (p, spells, first)) (b, has', none', is') = absurd (none_or_program b a p has' has none' spells)
  fault_once (faults.Cert f) (faults.Syntax g) (a, has, (p, t, (spells, resolves), fails)) (b, has', none', is') =
      absurd (none_or_program b a p has' has none' spells)
  fault_once (faults.Flight f) (faults.Syntax g) (a, has, (p, t, (spells, resolves), says, fails)) (b, has', none', is') =
      absurd (none_or_program b a p has' has none' spells)
  fault_once (faults.Typing f) (faults.Typing g) (a, has, (p, spells, first)) (b, has', (q, spells', first')) =
      let same : q ≡ p = same_program b a q p (same_parts need bytes b a has' has) spells' spells in
      typing_once p f g first (subst (λ x. IsFirstFault x g) same first')
  fault_once (faults.Typing f) (faults.Cert g) (a, has, (p, spells, first)) (b, has', (q, u, there, fails')) =
      absurd (typing_or_tables a b p q u f has has' spells first there)
  fault_once (faults.Typing f) (faults.Flight g) (a, has, (p, spells, first)) (b, has', (q, u, there, says', fails')) =
      absurd (typing_or_tables a b p q u f has has' spells first there)
  fault_once (faults.Cert f) (faults.Typing g) (a, has, (p, t, there, fails)) (b, has', (q, spells', first')) =
      absurd (typing_or_tables b a q p t g has' has spells' first' there)
  fault_once (faults.Flight f) (faults.Typing g) (a, has, (p, t, there, says, fails)) (b, has', (q, spells', first')) =
      absurd (typing_or_tables b a q p t g has' has spells' first' there)
  fault_once (faults.Cert f) (faults.Cert g) (a, has, (p, t, there, fails)) (b, has', (q, u, there', fails')) =
      let both = sym fails ∙ said_alike a b p q t u has has' there there' ∙ fails' in
      let one : f ≡ g = cc in
      inl (ap (json_text (codes "certificate")) one)
  fault_once (faults.Cert f) (faults.Flight g) (a, has, (p, t, there, fails)) (b, has', (q, u, there', (c, says'), fails')) =
      (let both = sym fails ∙ said_alike a b p q t u has has' there there' ∙ says' in absurd cc)
  fault_once (faults.Flight f) (faults.Cert g) (a, has, (p, t, there, (c, says), fails)) (b, has', (q, u, there', fails')) =
      (let both = sym fails' ∙ said_alike b a q p u t has' has there' there ∙ says in absurd cc)
  fault_once (faults.Flight f) (faults.Flight g) (a, has, (p, t, there, says, fails)) (b, has', (q, u, there', says', fails')) =
      inl (ap (json_text (codes "flight")) (flown_alike a b p q t u f g has has' there there' fails fails'))

program_once : (bytes : List ℕ) (f g : Fault) → HasProgramFault bytes f → HasProgramFault bytes g → SayOne (fault_text f) (fault_text g)
program_once bytes (faults.Syntax f) (faults.Syntax g) (none, is) (none', is') = syntax_once bytes (ahead_from bytes 0) f g is is'
program_once bytes (faults.Syntax f) (faults.Typing g) (none, is) (q, spells', first') = absurd (none q spells')
program_once bytes (faults.Typing f) (faults.Syntax g) (p, spells, first) (none', is') = absurd (none' p spells)
program_once bytes (faults.Typing f) (faults.Typing g) (p, spells, first) (q, spells', first') =
    typing_once p f g first (subst (λ x. IsFirstFault x g) (spells_unique bytes 0 q p spells' spells) first')
program_once bytes (faults.Section f) g a b = absurd a
program_once bytes (faults.Cert f) g a b = absurd a
program_once bytes (faults.Flight f) g a b = absurd a
program_once bytes (faults.Syntax f) (faults.Section g) a b = absurd b
program_once bytes (faults.Syntax f) (faults.Cert g) a b = absurd b
program_once bytes (faults.Syntax f) (faults.Flight g) a b = absurd b
program_once bytes (faults.Typing f) (faults.Section g) a b = absurd b
program_once bytes (faults.Typing f) (faults.Cert g) a b = absurd b
program_once bytes (faults.Typing f) (faults.Flight g) a b = absurd b

pub rejected_once : RejectedOnce
rejected_once guests Check bytes text other (f, has, is) (g, has', is') =
    said_so text other (fault_text f) (fault_text g) is is' (fault_once needs.Check 0 bytes f g has has')
rejected_once guests Fly bytes text other (f, has, is) (g, has', is') =
    said_so text other (fault_text f) (fault_text g) is is' (fault_once needs.Fly guests bytes f g has has')
rejected_once guests Replay bytes text other (f, has, is) (g, has', is') =
    said_so text other (fault_text f) (fault_text g) is is' (fault_once needs.Replay guests bytes f g has has')
rejected_once guests Recover bytes text other (f, has, is) (g, has', is') =
    said_so text other (fault_text f) (fault_text g) is is' (fault_once needs.Check 0 bytes f g has has')
rejected_once guests (Watch formula) bytes text other (inl (f, has, is)) (inl (g, has', is')) =
    said_so text other (fault_text f) (fault_text g) is is' (fault_once needs.Fly guests bytes f g has has')
rejected_once guests (Watch formula) bytes text other (inl (f, has, is)) (inr (n, spells, fault)) =
    absurd (spelled_faulty needs.Fly guests bytes n f spells has)
rejected_once guests (Watch formula) bytes text other (inr (m, spells, fault)) (inl (g, has', is')) =
    absurd (spelled_faulty needs.Fly guests bytes m g spells has')
rejected_once guests (Watch formula) bytes text other (inr (m, spells, (fail, enough, refuses, is))) (inr (n, spells', (fail', enough', refuses', is'))) =
    let looks = seen needs.Fly guests bytes m n spells spells' in
    let one = one_formula_fault m.tables n.tables looks spells.resolved.rules formula.now fail fail' enough enough' refuses refuses' in
    inl (is ∙ ap formula_text one ∙ sym is')
rejected_once guests Format bytes text other (f, none, has, is) (g, none', has', is') =
    said_so text other (syntax_text f) (syntax_text g) is is' (syntax_once bytes (ahead_from bytes 0) f g has has')
rejected_once guests Certify bytes text other (f, has, is) (g, has', is') =
    said_so text other (fault_text f) (fault_text g) is is' (program_once bytes f g has has')
rejected_once guests (Make n seed) bytes text other a b = absurd a
rejected_once guests (Soak n seed) bytes text other (f, has, is) (g, has', is') =
    said_so text other (fault_text f) (fault_text g) is is' (fault_once needs.Fly 0 (made_text n seed) f g has has')
