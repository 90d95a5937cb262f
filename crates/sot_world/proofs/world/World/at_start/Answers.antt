use Rattle.std.proofs.Common.{ap, ◌∙◌, subst, map, length}
use Rattle.std.specs.Prelude.{◌==◌}
use Rattle.sot_lang.specs.TableRules.{MeetsTableRules}
use Rattle.sot_world.specs.Configurations.{Sc}
use Rattle.sot_world.specs.Roles.{AreRoles}
use Rattle.sot_world.specs.Schedules.{first}
use Rattle.sot_world.proofs.Starting.{opens_so, starts_safer, opens_kept}
use Rattle.sot_world.proofs.Schedules.{all_first}
use Rattle.sot_world.proofs.world.World.at_start.Goals as goal

pub invariant_of-result : goal.invariant_of-result
invariant_of-result c =
    let tables = c.p.view_is ∙ c.typed-p.ensures.program in
    let l = c.in_ok-left.ensures ∙ ap (map (λ k. k.offset == 0)) (c.deref.ensures.value ∙ ap (λ t. t.nodes) tables) in
    let d = c.in_ok-left_dm.ensures ∙ ap (map (λ k. k.offset == 0)) (c.deref-2.ensures.value ∙ ap (λ t. t.modules) tables) in
    let m = c.in_ok-modes.ensures ∙ ap (map (λ m. Sc)) (c.deref-3.ensures.value ∙ ap (λ t. t.modules) tables) in
    let s = c.in_ok-scalars.ensures ∙ ap (map (λ i. i.init)) (c.deref-4.ensures.value ∙ ap (λ t. t.scalars) tables) in
    let k = c.in_ok-locals.ensures ∙ ap (map (λ n. map (λ l. l.init) n.locals.items)) (c.deref-5.ensures.value ∙ ap (λ t. t.nodes) tables) in
    let opening = opens_so c.args.acc.now.program c.args.start.now _ _ _ _ _ _ c.requires.starts l d m s k c.in_ok-points.ensures.items in
    let rules = subst MeetsTableRules tables c.p.invariant in
    let safer = starts_safer c.args.acc.now.program c.args.start.now _ c.in_ok-points.ensures.items c.requires.inside in
    record {
      kept = opens_kept c.args.acc.now c.args.start.now _ rules c.typed-p.ensures.certified opening safer;
      roles = subst (λ t. AreRoles t c.in_ok-roles.roles.items) c.typed-p.ensures.program c.in_ok-roles.ensures;
      next = ap length c.in_ok-next.ensures.items ∙ c.requires.starts.each;
      answers = c.in_ok-answers.ensures;
      nodes =
          all_first (λ x. x.period) (λ x. x.offset) _ _ (c.in_ok-node_schedules.ensures
          ∙ ap (map (λ x. first x.period x.offset)) (c.deref-6.ensures.value ∙ ap (λ t. t.nodes) tables)) rules.typed.node_times;
      decisions =
          all_first (λ x. x.period) (λ x. x.offset) _ _ (c.in_ok-decision_schedules.ensures
          ∙ ap (map (λ x. first x.period x.offset)) (c.deref-7.ensures.value ∙ ap (λ t. t.modules) tables)) rules.typed.module_times;
    }

pub returns-clause-opening : goal.returns-clause-opening
returns-clause-opening c =
    let tables = c.p.view_is ∙ c.typed-p.ensures.program in
    let l = c.in_ok-left.ensures ∙ ap (map (λ k. k.offset == 0)) (c.deref.ensures.value ∙ ap (λ t. t.nodes) tables) in
    let d = c.in_ok-left_dm.ensures ∙ ap (map (λ k. k.offset == 0)) (c.deref-2.ensures.value ∙ ap (λ t. t.modules) tables) in
    let m = c.in_ok-modes.ensures ∙ ap (map (λ m. Sc)) (c.deref-3.ensures.value ∙ ap (λ t. t.modules) tables) in
    let s = c.in_ok-scalars.ensures ∙ ap (map (λ i. i.init)) (c.deref-4.ensures.value ∙ ap (λ t. t.scalars) tables) in
    let k = c.in_ok-locals.ensures ∙ ap (map (λ n. map (λ l. l.init) n.locals.items)) (c.deref-5.ensures.value ∙ ap (λ t. t.nodes) tables) in
    let opening = opens_so c.args.acc.now.program c.args.start.now _ _ _ _ _ _ c.requires.starts l d m s k c.in_ok-points.ensures.items in
    opening

pub returns-clause-safer : goal.returns-clause-safer
returns-clause-safer c = starts_safer c.args.acc.now.program c.args.start.now _ c.in_ok-points.ensures.items c.requires.inside
