-- Lines are answered in one way.
use Rattle.std.proofs.Common.{◌≡◌, ◌∙◌, ℕ, suc, inl, inr, List, [], ◌∷◌, ◌++◌, Option, None, Some, length, refl, sym, ap, ap₂, subst}
use Rattle.std.proofs.lemmas.Option.{none-some, same_Some}
use Rattle.sot_lang.specs.Tables.{Tables}
use Rattle.sot_lang.specs.TableRules.{MeetsTableRules}
use Rattle.sot_tube.specs.Admitted.{Admitted}
use Rattle.sot_world.specs.HistoryEntry.{InputAt}
use Rattle.sot_trace.specs.Words.{AreWords}
use Rattle.sot_trace.specs.Lines.{line_of}
use Rattle.sot_summary.specs.Outside.{points_in}
use Rattle.sot_guard.specs.declared.outside.Outside.{Outside}
use Rattle.sot_guard.specs.declared.misheard.Misheard.{Misheard}
use Rattle.sot_guard.specs.declared.told.Told.{Told}
use Rattle.sot_guard.specs.Guarding.{Guarding}
use Rattle.sot_guard.specs.Hearing.{Hearing, program_of}
use Rattle.sot_guard_lines.specs.Sayings.{Saying, StartSaid, InputSaid, DraftSaid, GoSaid, TickSaid, ResumeSaid, IsSaid}
use Rattle.sot_guard_lines.proofs.Sayings.{said_once}
use Rattle.sot_guard_protocol.specs.declared.heard.Heard.{Heard}
use Rattle.sot_guard_protocol.specs.declared.aside.Aside.{Aside}
use Rattle.sot_guard_protocol.specs.Answers.{instant_lines, outside_lines, resume_line, ignored_line, blind_line}
use Rattle.sot_guard_protocol.specs.Talks.{Talking, tables_of, time_of, counted, draft_of, AnswersResume}
use Rattle.sot_guard_protocol.specs.Talks.{Takes, Mishears, LosesSight, GoesOnBlind, GoesBlind, HearsSo}
use Rattle.sot_guard_protocol.specs.TalkLaws.{HearsLine}
use Rattle.sot_law_guard_answers.specs.Answers.{IsKept, AreOneSession, AreOneTalk, IsSmallLine, AreSmallLines}
use Rattle.sot_law_guard_answers.specs.Answers.{LinesAreAnsweredOnce}
use Rattle.sot_law_guard_answers.proofs.Parts.{IsLong, long, but_told}
use Rattle.sot_law_guard_answers.proofs.Sessions.{retold, one_with_itself, input_once, draft_once, resumed_once, go_once, ticked_once}
use Rattle.sot_law_guard_answers.proofs.Sessions.{blind_tick_once, blind_instant_once, long_before}
use Rattle.sot_law_guard_answers.proofs.Moves.{falls_accepted}
use Rattle.sot_law_guard_answers.proofs.Resumes.{unsafe_once, regains_or_not}
use Rattle.sot_law_guard_answers.proofs.Causes.{turns_differ, Cause, cause_of, cause_once, taken_no_cause, cause_retold}

-- the same talk with something else told of its last instant
abbrev retold_talk : Talking → List Told → Talking
retold_talk t x = record t { hearing = retold t.hearing x }

same_talk : (t u : Talking) → AreOneTalk t u → u ≡ retold_talk t u.hearing.told
same_talk t u one = λ i. record { hearing = but_told t.hearing u.hearing one.0 i; events = sym one.1 i }

-- what two talks that are one have in common
program_same : (t u : Talking) → AreOneTalk t u → tables_of t ≡ tables_of u
program_same t u one = ap (λ (g : Guarding). g.accepted.program) one.0.guarding

module _ (t : Talking) (x : List Told) (u v : Talking) (kept : IsKept u) (kept' : IsKept v) where
  -- the models are trusted again, or a module keeps them from being
  resume_once : (m n : Option ℕ) → AnswersResume t.hearing m u.hearing → AnswersResume (retold t.hearing x) n v.hearing
      → (m ≡ n) × AreOneSession u.hearing v.hearing
  resume_once None None a b = (refl, resumed_once t.hearing x u.hearing v.hearing a b)
  resume_once None (Some n) a b = absurd (regains_or_not t.hearing.guarding u.hearing.guarding n a.regains b.1.unsafe)
  resume_once (Some m) None a b = absurd (regains_or_not t.hearing.guarding v.hearing.guarding m b.regains a.1.unsafe)
  resume_once (Some m) (Some n) a b = (
    ap Some (unsafe_once t.hearing.guarding m n a.1.unsafe b.1.unsafe),
    subst (λ (k : Hearing). AreOneSession k v.hearing) (sym a.0)
        (subst (λ (k : Hearing). AreOneSession t.hearing k) (sym b.0) (one_with_itself t.hearing x)),
  )

  -- what is said is taken and answered
  takes_once : (s : Saying) (h h' : Heard) (answer other : List (List ℕ)) → Takes t s h answer u → Takes (retold_talk t x) s h' other v
      → AreOneTalk u v × (answer ≡ other)
  takes_once (StartSaid plant point) h h' answer other a b = absurd a
  takes_once (InputSaid topic value) h h' answer other a b =
      let one = input_once t.hearing x u.hearing v.hearing topic value a.1 b.1 in (
        (one, a.2 ∙ sym b.2),
        a.3 ∙ ap (λ (g : Guarding). line_of g.accepted.program (InputAt g.at.time topic value) ∷ []) one.guarding ∙ sym b.3,
      )
  takes_once (DraftSaid node slots) h h' answer other a b =
      ((draft_once t.hearing x u.hearing v.hearing node (draft_of slots) a.1 b.1, a.2 ∙ sym b.2), a.3 ∙ sym b.3)
  takes_once GoSaid h h' answer other a b =
      let one = go_once t.hearing x u.hearing v.hearing kept.session kept'.session a.1 b.1 in (
        (one.0, a.2 ∙ ap (λ (l : List Told). counted t.events (length l)) one.1 ∙ sym b.2),
        a.3 ∙ ap₂ (λ (g : Guarding) (l : List Told). instant_lines g.accepted.program g.at.time g.at.scalars l) one.0.guarding one.1 ∙ sym b.3,
      )
  takes_once ResumeSaid h h' answer other a b =
      let one = resume_once a.0 b.0 a.2 b.2 in (
        (one.1, a.3 ∙ sym b.3),
        a.4 ∙ ap₂ (λ (g : Guarding) (m : Option ℕ). resume_line g.accepted.program g.at.time m ∷ []) one.1.guarding one.0 ∙ sym b.4,
      )
  takes_once (TickSaid states) h h' answer other a b =
      let one = ticked_once t.hearing x u.hearing v.hearing kept.guard.sizes kept'.guard.sizes (points_in (tables_of t).plants states) a.0 b.0 a.2 b.2 in (
        (one.1, a.3 ∙ sym b.3),
        a.4 ∙ ap₂ (λ (g : Guarding) (o : Option Outside). outside_lines g.accepted.program g.at.time o) one.1.guarding one.0 ∙ sym b.4,
      )

  -- the plants are lost from sight
  loses_once : (k l : Talking) → IsLong (tables_of t) k.hearing.guarding.at → IsLong (tables_of t) l.hearing.guarding.at → LosesSight t k
      → LosesSight (retold_talk t x) l → AreOneTalk k l
  loses_once k l many many' (inl a) (inl b) =
      (blind_tick_once t.hearing x k.hearing l.hearing many many' a.0 b.0, a.1 ∙ sym b.1)
  loses_once k l many many' (inl a) (inr b) = absurd (turns_differ t.hearing.turn b.0 a.0.turn)
  loses_once k l many many' (inr a) (inl b) = absurd (turns_differ t.hearing.turn a.0 b.0.turn)
  loses_once k l many many' (inr a) (inr b) =
      (blind_instant_once t.hearing x k.hearing l.hearing many many' a.1 b.1, a.2 ∙ sym b.2)

-- what a talk has accepted stays
loses_accepted : (t k : Talking) → LosesSight t k → k.hearing.guarding.accepted ≡ t.hearing.guarding.accepted
loses_accepted t k (inl a) = a.0.accepted
loses_accepted t k (inr a) = falls_accepted t.hearing.guarding k.hearing.guarding a.1.falls

-- the talk between is as long as the program
long_between : (t k u : Talking) (line : List ℕ) (more : List (List ℕ)) → LosesSight t k → IsKept u → GoesOnBlind k line more u
    → IsLong (tables_of t) k.hearing.guarding.at
long_between t k u line more loses kept (inl goes) =
    let same = ap (λ (a : Admitted). a.program) (goes.1.accepted ∙ loses_accepted t k loses) in
    long_before (tables_of t) k.hearing u.hearing same goes.1 kept.guard.sizes
long_between t k u line more loses kept (inr stays) =
    let here = subst (λ (y : Talking). IsKept y) stays.1 kept in
    long (tables_of t) (tables_of k) k.hearing.guarding.at (ap (λ (a : Admitted). a.program) (loses_accepted t k loses)) here.guard.sizes

-- and goes on from there
goes_on_once : (k : Talking) (x : List Told) (line : List ℕ) (more others : List (List ℕ)) (u v : Talking) → IsKept u → IsKept v → GoesOnBlind k line more u
    → GoesOnBlind (retold_talk k x) line others v → AreOneTalk u v × (more ≡ others)
goes_on_once k x line more others u v kept kept' (inl a) (inl b) =
    let one = go_once k.hearing x u.hearing v.hearing kept.session kept'.session a.1 b.1 in (
      (one.0, a.2 ∙ ap (λ (l : List Told). counted k.events (length l)) one.1 ∙ sym b.2),
      a.3 ∙ ap₂ (λ (g : Guarding) (l : List Told). instant_lines g.accepted.program g.at.time g.at.scalars l) one.0.guarding one.1 ∙ sym b.3,
    )
goes_on_once k x line more others u v kept kept' (inl a) (inr b) = absurd (b.0 a.0)
goes_on_once k x line more others u v kept kept' (inr a) (inl b) = absurd (a.0 b.0)
goes_on_once k x line more others u v kept kept' (inr a) (inr b) = (
  subst (λ (y : Talking). AreOneTalk y v) (sym a.1)
      (subst (λ (y : Talking). AreOneTalk k y) (sym b.1) (one_with_itself k.hearing x, refl)),
  a.2 ∙ sym b.2,
)

module _ (t : Talking) (x : List Told) (line : List ℕ) (rules : MeetsTableRules (tables_of t)) (words : AreWords (tables_of t))
    (small : IsSmallLine (tables_of t) line) where
  -- one thing is said
  one_saying : (s r : Saying) → IsSaid (tables_of t) line s → IsSaid (tables_of t) line r → s ≡ r
  one_saying s r = said_once (tables_of t) line s r rules words

  -- a line that is not taken has one cause
  misheard_once : (v w : Misheard) → Mishears t line v → Mishears (retold_talk t x) line w → v ≡ w
  misheard_once v w (inl a) (inl b) = a.0 ∙ sym b.0
  misheard_once v w (inl a) (inr (s, said, refuses)) = absurd (a.1 s said)
  misheard_once v w (inr (s, said, refuses)) (inl b) = absurd (b.1 s said)
  misheard_once v w (inr (s, said, refuses)) (inr (r, said', refuses')) =
      let same = one_saying s r said said' in
      let there = cause_retold t.hearing x r w (cause_of (retold t.hearing x) r w (small r said') refuses') in
      cause_once t.hearing r v w (subst (λ (y : Saying). Cause t.hearing y v) same (cause_of t.hearing s v (small s said) refuses)) there

  -- and is not taken
  taken_misheard : (s : Saying) (u : Talking) (h : Heard) (answer : List (List ℕ)) (why : Misheard) → IsSaid (tables_of t) line s → Takes t s h answer u
      → Mishears (retold_talk t x) line why → ⊥
  taken_misheard s u h answer why said takes (inl none) = none.1 s said
  taken_misheard s u h answer why said takes (inr (r, said', refuses)) =
      let there = cause_retold t.hearing x r why (cause_of (retold t.hearing x) r why (small r said') refuses) in
      taken_no_cause t u s h answer why takes (subst (λ (y : Saying). Cause t.hearing y why) (sym (one_saying s r said said')) there)

  misheard_taken : (s : Saying) (u : Talking) (h : Heard) (answer : List (List ℕ)) (why : Misheard) → IsSaid (tables_of t) line s
      → Takes (retold_talk t x) s h answer u → Mishears t line why → ⊥
  misheard_taken s u h answer why said takes (inl none) = none.1 s said
  misheard_taken s u h answer why said takes (inr (r, said', refuses)) =
      let here = cause_of t.hearing r why (small r said') refuses in
      let moved = subst (λ (y : Saying). Cause t.hearing y why) (sym (one_saying s r said said')) here in
      taken_no_cause (retold_talk t x) u s h answer why takes (back s moved)
    where
      back : (y : Saying) → Cause t.hearing y why → Cause (retold t.hearing x) y why
      back y = cause_retold (retold t.hearing x) t.hearing.told y why

  module _ (u v : Talking) (kept : IsKept u) (kept' : IsKept v) where
    both_blind : (h h' : Heard) (answer other : List (List ℕ)) → GoesBlind t line h answer u → GoesBlind (retold_talk t x) line h' other v
        → AreOneTalk u v × (answer ≡ other)
    both_blind h h' answer other a b =
        let many = long_between t a.unseeing u line a.more a.loses kept a.goes_on in
        let many' = long_between (retold_talk t x) b.unseeing v line b.more b.loses kept' b.goes_on in
        let between = loses_once t x u v kept kept' a.unseeing b.unseeing many many' a.loses b.loses in
        let moved = subst (λ (k : Talking). GoesOnBlind k line b.more v) (same_talk a.unseeing b.unseeing between) b.goes_on in
        let on = goes_on_once a.unseeing b.unseeing.hearing.told line a.more b.more u v kept kept' a.goes_on moved in
        let why = misheard_once a.why b.why a.misheard b.misheard in (
          on.0,
          a.answered ∙ ap₂ (λ (l : List ℕ) (ls : List (List ℕ)). l ∷ ls)
              (ap₂ blind_line (ap (λ (g : Guarding). g.at.time) between.0.guarding) why) on.1 ∙ sym b.answered,
        )

    so_once : (h h' : Heard) (answer other : List (List ℕ)) → HearsSo t line h answer u → HearsSo (retold_talk t x) line h' other v
        → AreOneTalk u v × (answer ≡ other)
    so_once h h' answer other (inl a) (inl b) =
        takes_once t x u v kept kept' b.saying h h' answer other
        (subst (λ (s : Saying). Takes t s h answer u) (one_saying a.saying b.saying a.said b.said) a.takes) b.takes
    so_once h h' answer other (inl a) (inr (inl b)) = absurd (taken_misheard a.saying u h answer b.why a.said a.takes b.misheard)
    so_once h h' answer other (inl a) (inr (inr b)) = absurd (taken_misheard a.saying u h answer b.why a.said a.takes b.misheard)
    so_once h h' answer other (inr (inl a)) (inl b) = absurd (misheard_taken b.saying v h' other a.why b.said b.takes a.misheard)
    so_once h h' answer other (inr (inr a)) (inl b) = absurd (misheard_taken b.saying v h' other a.why b.said b.takes a.misheard)
    so_once h h' answer other (inr (inl a)) (inr (inl b)) = (
      subst (λ (y : Talking). AreOneTalk y v) (sym a.same)
          (subst (λ (y : Talking). AreOneTalk t y) (sym b.same) (one_with_itself t.hearing x, refl)),
      a.answered
          ∙ ap₂ (λ (y : Aside) (why : Misheard). ignored_line (tables_of t) (time_of t) y line why ∷ [])
          (same_Some a.aside b.aside (sym a.is ∙ b.is)) (misheard_once a.why b.why a.misheard b.misheard) ∙ sym b.answered,
    )
    so_once h h' answer other (inr (inl a)) (inr (inr b)) = absurd (none-some a.aside (sym b.none ∙ a.is))
    so_once h h' answer other (inr (inr a)) (inr (inl b)) = absurd (none-some b.aside (sym a.none ∙ b.is))
    so_once h h' answer other (inr (inr a)) (inr (inr b)) = both_blind h h' answer other a b

-- a line is heard and answered
line_once : (t t' : Talking) (line : List ℕ) (u v : Talking) → MeetsTableRules (tables_of t) → AreWords (tables_of t) → IsSmallLine (tables_of t) line
    → AreOneTalk t t' → IsKept u → IsKept v → (a : HearsLine t line u) (b : HearsLine t' line v) → AreOneTalk u v × (a.answer ≡ b.answer)
line_once t t' line u v rules words small one kept kept' a b =
    so_once t t'.hearing.told line rules words small u v kept kept' a.heard b.heard a.answer b.answer a.so
    (subst (λ (y : Talking). HearsSo y line b.heard b.answer v) (same_talk t t' one) b.so)

-- the program of a talk stays
hears_program : (t u : Talking) (line : List ℕ) → HearsLine t line u → tables_of u ≡ tables_of t
hears_program t u line h = so_program t u line h.heard h.answer h.so
  where
    takes_program : (t u : Talking) (s : Saying) (h : Heard) (answer : List (List ℕ)) → Takes t s h answer u → tables_of u ≡ tables_of t
    takes_program t u (StartSaid plant point) h answer a = absurd a
    takes_program t u (InputSaid topic value) h answer a = ap (λ (y : Hearing). program_of y) a.1.rest
    takes_program t u (DraftSaid node slots) h answer a = ap (λ (y : Hearing). program_of y) a.1.rest
    takes_program t u GoSaid h answer a = ap (λ (y : Admitted). y.program) a.1.accepted
    takes_program t u ResumeSaid h answer (None, is, resumes, events, lines) = ap (λ (y : Admitted). y.program) resumes.regains.accepted
    takes_program t u ResumeSaid h answer (Some m, is, (same, may), events, lines) = ap (λ (y : Hearing). program_of y) same
    takes_program t u (TickSaid states) h answer a = ap (λ (y : Admitted). y.program) a.2.accepted

    on_program : (t k u : Talking) (line : List ℕ) (more : List (List ℕ)) → LosesSight t k → GoesOnBlind k line more u → tables_of u ≡ tables_of t
    on_program t k u line more loses (inl goes) = ap (λ (y : Admitted). y.program) (goes.1.accepted ∙ loses_accepted t k loses)
    on_program t k u line more loses (inr stays) =
        ap (λ (y : Talking). tables_of y) stays.1 ∙ ap (λ (y : Admitted). y.program) (loses_accepted t k loses)

    so_program : (t u : Talking) (line : List ℕ) (h : Heard) (answer : List (List ℕ)) → HearsSo t line h answer u → tables_of u ≡ tables_of t
    so_program t u line h answer (inl a) = takes_program t u a.saying h answer a.takes
    so_program t u line h answer (inr (inl a)) = ap (λ (y : Talking). tables_of y) a.same
    so_program t u line h answer (inr (inr a)) = on_program t a.unseeing u line a.more a.loses a.goes_on

-- so are lines, one after another
pub answered_once : LinesAreAnsweredOnce
answered_once t t' u u' [] answers others words kept one small (same, none) (same', none') = (
  subst (λ (y : Talking). AreOneTalk y u') (sym same) (subst (λ (y : Talking). AreOneTalk t y) (sym same') one),
  none ∙ sym none',
)
answered_once t t' u u' (line ∷ lines) answers others words kept one small (b, h, kept_b, (more, rest, is)) (c, g, kept_c, (more', rest', is')) =
    let step = line_once t t' line b c kept.guard.rules words (small 0 line refl) one kept_b kept_c h g in
    let program = sym (hears_program t b line h) in
    let words_b = subst (λ (p : Tables). AreWords p) program words in
    let small_b : AreSmallLines (tables_of b) lines = λ i l at. subst (λ (p : Tables). IsSmallLine p l) program (small (suc i) l at) in
    let later = answered_once b c u u' lines more more' words_b kept_b step.0 small_b rest rest' in
    (later.0, is ∙ ap₂ (λ (x y : List (List ℕ)). x ++ y) step.1 later.1 ∙ sym is')
