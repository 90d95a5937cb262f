-- Why two missions are not taken is told with one text.
use Rattle.std.proofs.Common.{◌≡◌, ◌∙◌, ℕ, List, ◌++◌, inl, inr, refl, sym, ap, subst}
use Rattle.std.specs.Prelude.{◌⊎◌}
use Rattle.sot_sections.specs.declared.mission.Need.TheVariants as needs
use Rattle.sot_report.specs.Missions.{HasFault}
use Rattle.sot_report.specs.FaultTexts.{fault_text}
use Rattle.sot_commands.specs.declared.words.Command.TheVariants.{Fly}
use Rattle.sot_commands.specs.Laws.{SaysDeep, TellOneRule}
use Rattle.sot_commands.specs.Answers as soter
use Rattle.sot_commands.proofs.OneFault as one_fault
use Rattle.sot_bridge.specs.MissionHalves.{MissionHalves}
use Rattle.sot_bridge.specs.declared.answer.Which.{Which}
use Rattle.sot_bridge.specs.declared.answer.Which.TheVariants.{A, B}
use Rattle.sot_bridge.specs.Texts.{kind_text}
use Rattle.sot_bridge.specs.Answers.{SpellsSide, word_of}
use Rattle.sot_bridge.proofs.Alike.{alike, rules_of, side_faulty}
use Rattle.sot_law_bridge_answers.proofs.Near.{one_division}
use Rattle.sot_law_bridge_answers.specs.Laws.{TellOneMission, RejectedOnce}
use Rattle.sot_law_bridge_answers.proofs.Apart.{apart_moved, apart_once}

-- behind one word
behind : (which : Which) (x y text other : List ℕ) → text ≡ word_of which ++ x → other ≡ word_of which ++ y
    → (x ≡ y) ⊎ TellOneRule x y ⊎ SaysDeep x ⊎ SaysDeep y → (text ≡ other) ⊎ TellOneMission text other
behind which x y text other is is' (inl same) = inl (is ∙ ap (λ (z : List ℕ). word_of which ++ z) same ∙ sym is')
behind which x y text other is is' (inr tell) = inr (which, x, y, is, is', tell)

pub rejected_once : RejectedOnce
rejected_once from to delay bytes text other (inl (none, is)) (inl (none', is')) = inl (is ∙ sym is')
rejected_once from to delay bytes text other (inl (none, is)) (inr (inl (h, e, more))) = (let both = sym none ∙ e in absurd cc)
rejected_once from to delay bytes text other (inl (none, is)) (inr (inr (c, d, (h, e, sc, sd), apart))) = (let both = sym none ∙ e in absurd cc)
rejected_once from to delay bytes text other (inr (inl (g, e, more))) (inl (none, is)) = (let both = sym none ∙ e in absurd cc)
rejected_once from to delay bytes text other (inr (inr (a, b, (g, e, sa, sb), apart))) (inl (none, is)) = (let both = sym none ∙ e in absurd cc)
rejected_once from to delay bytes text other (inr (inl (g, e, inl (f, has, is)))) (inr (inl (h, e', inl (f', has', is')))) =
    let there : soter.Rejects 0 Fly g.a (fault_text f') =
    (f', subst (λ (x : MissionHalves). HasFault needs.Fly 0 x.a f') (one_division bytes h g e' e) has', refl) in
    behind A (fault_text f) (fault_text f') text other is is' (one_fault.rejected_once 0 Fly g.a (fault_text f) (fault_text f') (f, has, refl) there)
rejected_once from to delay bytes text other (inr (inl (g, e, inl (f, has, is)))) (inr (inl (h, e', inr (c, sc, more)))) =
    absurd (side_faulty g.a c f (subst (λ (x : MissionHalves). SpellsSide x.a c) (one_division bytes h g e' e) sc) has)
rejected_once from to delay bytes text other (inr (inl (g, e, inl (f, has, is)))) (inr (inr (c, d, (h, e', sc, sd), more))) =
    absurd (side_faulty g.a c f (subst (λ (x : MissionHalves). SpellsSide x.a c) (one_division bytes h g e' e) sc) has)
rejected_once from to delay bytes text other (inr (inl (g, e, inr (a, sa, more)))) (inr (inl (h, e', inl (f, has, is)))) =
    absurd (side_faulty h.a a f (subst (λ (x : MissionHalves). SpellsSide x.a a) (one_division bytes g h e e') sa) has)
rejected_once from to delay bytes text other (inr (inr (a, b, (g, e, sa, sb), more))) (inr (inl (h, e', inl (f, has, is)))) =
    absurd (side_faulty h.a a f (subst (λ (x : MissionHalves). SpellsSide x.a a) (one_division bytes g h e e') sa) has)
rejected_once from to delay bytes text other (inr (inl (g, e, inr (a, sa, (f, has, is))))) (inr (inl (h, e', inr (c, sc, (f', has', is'))))) =
    let there : soter.Rejects 0 Fly g.b (fault_text f') =
    (f', subst (λ (x : MissionHalves). HasFault needs.Fly 0 x.b f') (one_division bytes h g e' e) has', refl) in
    behind B (fault_text f) (fault_text f') text other is is' (one_fault.rejected_once 0 Fly g.b (fault_text f) (fault_text f') (f, has, refl) there)
rejected_once from to delay bytes text other (inr (inl (g, e, inr (a, sa, (f, has, is))))) (inr (inr (c, d, (h, e', sc, sd), more))) =
    absurd (side_faulty g.b d f (subst (λ (x : MissionHalves). SpellsSide x.b d) (one_division bytes h g e' e) sd) has)
rejected_once from to delay bytes text other (inr (inr (a, b, (g, e, sa, sb), more))) (inr (inl (h, e', inr (c, sc, (f, has, is))))) =
    absurd (side_faulty h.b b f (subst (λ (x : MissionHalves). SpellsSide x.b b) (one_division bytes g h e e') sb) has)
rejected_once from to delay bytes text other (inr (inr (a, b, (g, e, sa, sb), (f, apart, is)))) (inr (inr (c, d, (h, e', sc, sd), (f', apart', is')))) =
    let same = one_division bytes g h e e' in
    let like_a = alike h.a a c (subst (λ (x : MissionHalves). SpellsSide x.a a) same sa) sc in
    let like_b = alike h.b b d (subst (λ (x : MissionHalves). SpellsSide x.b b) same sb) sd in
    let moved = apart_moved a c b d like_a like_b from to delay f apart in
    let one = apart_once c d (rules_of h.a c sc) (rules_of h.b d sd) from to delay f f' moved apart' in
    inl (is ∙ ap kind_text one ∙ sym is')
