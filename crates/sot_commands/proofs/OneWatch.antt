-- Without guests a watched flight comes to one end, with one text.
use Rattle.std.proofs.Common.{◌≡◌, ◌∙◌, ◌<◌, ℕ, ◌+◌, List, ◌++◌, Some, ⊎_elim, refl, sym, ap, ap₂, subst}
use Rattle.std.proofs.lemmas.Bool.{cases_order}
use Rattle.sot_sections.specs.declared.mission.Need.TheVariants as needs
use Rattle.sot_lang.specs.Tables.{Tables}
use Rattle.sot_world.specs.HistoryEntry.{Logged}
use Rattle.sot_flight.specs.Plans.{Plan}
use Rattle.sot_ordered_board.specs.Order.{FliesInOrder}
use Rattle.sot_trace.specs.Traces.{trace_text}
use Rattle.sot_law_trace_unique.proofs.Looks.{text_same}
use Rattle.sot_formula.specs.Formulas.{Formula}
use Rattle.sot_monitor.specs.Holding.{Moment, Holds, FirstFails}
use Rattle.sot_monitor.specs.Moments.{moments_told}
use Rattle.sot_report.specs.Missions.{Mission}
use Rattle.sot_commands.specs.Answers.{SpellsFor}
use Rattle.sot_commands.specs.Watched.{IsFormula, IsWatchedBy, TellsHolds, TellsFails}
use Rattle.sot_commands.specs.WatchTexts.{holds_text, fails_text}
use Rattle.sot_commands.proofs.FormulasAlike.{one_meaning}
use Rattle.sot_commands.proofs.SameMissions.{seen}
use Rattle.sot_commands.proofs.SameMoments.{moments_same}
use Rattle.sot_commands.proofs.InOrder.{same_plan, one_history}

-- a formula first fails at one moment
fails_before : (Ms : List Moment) (x : Formula) (t v : ℕ) → FirstFails Ms x t → FirstFails Ms x v → t < v → ⊥
fails_before Ms x t v a b lt = a.fails (b.before t lt)

one_moment : (Ms : List Moment) (x : Formula) (t v : ℕ) → FirstFails Ms x t → FirstFails Ms x v → t ≡ v
one_moment Ms x t v a b =
    ⊎_elim (λ e. e)
    (λ other. ⊎_elim (λ lt. absurd (fails_before Ms x t v a b lt)) (λ gt. absurd (fails_before Ms x v t b a gt)) other)
    (cases_order t v)

module _ (guests : ℕ) (nobody : guests ≡ 0) (bytes : List ℕ) (m n : Mission) (x : SpellsFor needs.Fly guests bytes m) (y : SpellsFor needs.Fly guests bytes n)
    (f g : Plan) (is : m.flight ≡ Some f) (is' : n.flight ≡ Some g) where
  -- one formula is watched, over the same moments
  same_formula : (formula : List ℕ) (z w : Formula) → IsFormula m.tables formula z → IsFormula n.tables formula w → z ≡ w
  same_formula formula z w means means' =
      one_meaning m.tables n.tables (seen needs.Fly guests bytes m n x y) y.resolved.rules formula z w means means'

  module _ (h h' : List Logged) (order : FliesInOrder m.tables m.cert.jitter f h) (order' : FliesInOrder n.tables n.cert.jitter g h') where
    plans : f ≡ g
    plans = same_plan guests nobody bytes m n x y f g is is'

    histories : h ≡ h'
    histories = one_history guests nobody bytes m n x y f g is is' h h' order order'

    same_moments : moments_told m.tables f.start h ≡ moments_told n.tables g.start h'
    same_moments =
        moments_same m.tables n.tables (seen needs.Fly guests bytes m n x y) f.start h
        ∙ ap₂ (λ (q : Plan) (l : List Logged). moments_told n.tables q.start l) plans histories

    same_trace : trace_text m.tables f.start h ≡ trace_text n.tables g.start h'
    same_trace =
        text_same m.tables n.tables (seen needs.Fly guests bytes m n x y) f.start h
        ∙ ap₂ (λ (q : Plan) (l : List Logged). trace_text n.tables q.start l) plans histories

  pub holds_or_fails : (formula text other : List ℕ) → IsWatchedBy TellsHolds formula m.tables m.cert.jitter f text
      → IsWatchedBy TellsFails formula n.tables n.cert.jitter g other → ⊥
  holds_or_fails formula text other (inside, (z, h, means, order, (always, says))) (inside', (w, h', means', order', (time, first, says'))) =
      let formulas = same_formula formula z w means means' in
      let moments = same_moments h h' order order' in
      let there = subst (λ (Ms : List Moment). FirstFails Ms w time) (sym moments) first in
      let here = subst (λ (v : Formula). FirstFails (moments_told m.tables f.start h) v time) (sym formulas) there in
      here.fails (always time here.there)

  pub holds_once : (formula text other : List ℕ) → IsWatchedBy TellsHolds formula m.tables m.cert.jitter f text
      → IsWatchedBy TellsHolds formula n.tables n.cert.jitter g other → text ≡ other
  holds_once formula text other (inside, (z, h, means, order, (always, says))) (inside', (w, h', means', order', (always', says'))) =
      says ∙ ap₂ (λ (l : List ℕ) (q : Plan). l ++ holds_text (q.horizon + 1)) (same_trace h h' order order') (plans h h' order order') ∙ sym says'

  pub fails_once : (formula text other : List ℕ) → IsWatchedBy TellsFails formula m.tables m.cert.jitter f text
      → IsWatchedBy TellsFails formula n.tables n.cert.jitter g other → text ≡ other
  fails_once formula text other (inside, (z, h, means, order, (time, first, says))) (inside', (w, h', means', order', (time', first', says'))) =
      let formulas = same_formula formula z w means means' in
      let moments = same_moments h h' order order' in
      let moved = subst (λ (v : Formula). FirstFails (moments_told n.tables g.start h') v time) formulas
      (subst (λ (Ms : List Moment). FirstFails Ms z time) moments first) in
      let times = one_moment (moments_told n.tables g.start h') w time time' moved first' in
      says ∙ ap₂ (λ (l : List ℕ) (v : ℕ). l ++ fails_text v) (same_trace h h' order order') times ∙ sym says'
