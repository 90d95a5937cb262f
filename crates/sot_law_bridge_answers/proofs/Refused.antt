-- Two missions are refused with one text.
use Rattle.std.proofs.Common.{◌≡◌, ◌∙◌, ℕ, List, inl, inr, sym, ap, subst}
use Rattle.sot_bridge.specs.MissionHalves.{MissionHalves}
use Rattle.sot_bridge.specs.declared.answer.Which.TheVariants.{A, B}
use Rattle.sot_bridge.specs.Answers.{Side, SpellsSide, Starts, IsAccepted, IsRefused, IsOutside, RefusesOne, of_a, of_b}
use Rattle.sot_bridge.proofs.Alike.{alike, accepted_refused, inside_outside}
use Rattle.sot_law_bridge_answers.proofs.Near.{one_division}
use Rattle.sot_law_bridge_answers.specs.Laws.{RefusedOnce, RefusesLikeFly}
use Rattle.sot_law_bridge_answers.proofs.Halves.{stopped_alone, stopped_once}

-- what is accepted is not refused, and what starts inside does not start outside
module _ (half : List ℕ) (s t : Side) (spells : SpellsSide half s) (spells' : SpellsSide half t) where
  not_refused : (line : List ℕ) → IsAccepted s → IsRefused t line → ⊥
  not_refused line certified (r, refuses, is) = accepted_refused s t (alike half s t spells spells') certified r refuses

  not_outside : (line : List ℕ) → Starts s → IsOutside t line → ⊥
  not_outside line starts (m, first, is) = inside_outside s t (alike half s t spells spells') starts m first

module _ (half half' : List ℕ) (a b c d : Side) (sa : SpellsSide half a) (sb : SpellsSide half' b) (sc : SpellsSide half c) (sd : SpellsSide half' d) where
  one : (text other : List ℕ) → RefusesOne a b text → RefusesOne c d other → text ≡ other
  one text other (inl (x, r, is)) (inl (y, r', is')) = is ∙ ap of_a (stopped_once half a c x y sa sc (inl r) (inl r')) ∙ sym is'
  one text other (inl (x, r, is)) (inr (inl (ok, more))) = absurd (not_refused half c a sc sa x ok r)
  one text other (inl (x, r, is)) (inr (inr (inl (ok, ok', more)))) = absurd (not_refused half c a sc sa x ok r)
  one text other (inl (x, r, is)) (inr (inr (inr (ok, ok', starts, more)))) = absurd (not_refused half c a sc sa x ok r)
  one text other (inr (inl (ok, more))) (inl (y, r, is)) = absurd (not_refused half a c sa sc y ok r)
  one text other (inr (inr (inl (ok, ok', more)))) (inl (y, r, is)) = absurd (not_refused half a c sa sc y ok r)
  one text other (inr (inr (inr (ok, ok', starts, more)))) (inl (y, r, is)) = absurd (not_refused half a c sa sc y ok r)
  one text other (inr (inl (ok, (x, r, is)))) (inr (inl (ok', (y, r', is')))) =
      is ∙ ap of_b (stopped_once half' b d x y sb sd (inl r) (inl r')) ∙ sym is'
  one text other (inr (inl (ok, (x, r, is)))) (inr (inr (inl (also, ok', more)))) = absurd (not_refused half' d b sd sb x ok' r)
  one text other (inr (inl (ok, (x, r, is)))) (inr (inr (inr (also, ok', starts, more)))) = absurd (not_refused half' d b sd sb x ok' r)
  one text other (inr (inr (inl (also, ok, more)))) (inr (inl (ok', (y, r, is)))) = absurd (not_refused half' b d sb sd y ok r)
  one text other (inr (inr (inr (also, ok, starts, more)))) (inr (inl (ok', (y, r, is)))) = absurd (not_refused half' b d sb sd y ok r)
  one text other (inr (inr (inl (ok, also, (x, o, is))))) (inr (inr (inl (ok', also', (y, o', is'))))) =
      is ∙ ap of_a (stopped_once half a c x y sa sc (inr (ok, o)) (inr (ok', o'))) ∙ sym is'
  one text other (inr (inr (inl (ok, also, (x, o, is))))) (inr (inr (inr (ok', also', starts, more)))) = absurd (not_outside half c a sc sa x starts o)
  one text other (inr (inr (inr (ok, also, starts, more)))) (inr (inr (inl (ok', also', (y, o, is))))) = absurd (not_outside half a c sa sc y starts o)
  one text other (inr (inr (inr (also, ok, starts, (x, o, is))))) (inr (inr (inr (also', ok', starts', (y, o', is'))))) =
      is ∙ ap of_b (stopped_once half' b d x y sb sd (inr (ok, o)) (inr (ok', o'))) ∙ sym is'

pub refused_once : RefusedOnce
refused_once from to delay bytes text other (a, b, k, l, (g, e, sa, sb), joins, refuses) (c, d, k', l', (h, f, sc, sd), joins', refuses') =
    let same = one_division bytes g h e f in
    one h.a h.b a b c d (subst (λ (x : MissionHalves). SpellsSide x.a a) same sa) (subst (λ (x : MissionHalves). SpellsSide x.b b) same sb) sc sd text other
    refuses refuses'

pub refuses_like_fly : RefusesLikeFly
refuses_like_fly from to delay bytes text (a, b, k, l, (g, e, sa, sb), joins, inl (x, r, is)) =
    (g, A, x, e, is, stopped_alone g.a a x sa (inl r))
refuses_like_fly from to delay bytes text (a, b, k, l, (g, e, sa, sb), joins, inr (inl (ok, (x, r, is)))) =
    (g, B, x, e, is, stopped_alone g.b b x sb (inl r))
refuses_like_fly from to delay bytes text (a, b, k, l, (g, e, sa, sb), joins, inr (inr (inl (ok, also, (x, o, is))))) =
    (g, A, x, e, is, stopped_alone g.a a x sa (inr (ok, o)))
refuses_like_fly from to delay bytes text (a, b, k, l, (g, e, sa, sb), joins, inr (inr (inr (also, ok, starts, (x, o, is))))) =
    (g, B, x, e, is, stopped_alone g.b b x sb (inr (ok, o)))
