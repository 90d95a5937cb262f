use Rattle.std.proofs.Common.{arith, sym, ap, ◌∙◌, subst, ◌+◌, length}
use Rattle.std.proofs.lemmas.Option.{same_Some, slice_get_within}
use Rattle.sot_lists.proofs.Places.{read_at}
use Rattle.sot_box.specs.Sides.{IsIn}
use Rattle.sot_lang.specs.Ranges.{range_of}
use Rattle.sot_lang.specs.TableRules.{MeetsTableRules}
use Rattle.sot_lang.proofs.Topics.{topic_inside}
use Rattle.sot_guard.proofs.hear.is_typed.Goals as goal

pub is_in_type-requires : goal.is_in_type-requires
is_in_type-requires c =
    let at = read_at _ _ c.args.topic _ (ap (λ t. t.topics) c.p.view_is) (slice_get_within _ _ _ c.requires.1) c.index-info.ensures in
    let rules = subst MeetsTableRules c.p.view_is c.p.invariant in
    let inside = topic_inside _ rules c.args.topic _ at in
    let info = same_Some c.requires.0 c.index-info.result.now (sym c.requires.1 ∙ at) in
    let count = c.requires.3 ∙ ap (λ x. x.count) info in
    let size = ap length (c.deref.ensures.value ∙ ap (λ t. t.scalars) c.p.view_is) in
    omega (arith, inside, count, size)

pub returns : goal.returns
returns c =
    let at = read_at _ _ c.args.topic _ (ap (λ t. t.topics) c.p.view_is) (slice_get_within _ _ _ c.requires.1) c.index-info.ensures in
    let scalars = c.deref.ensures.value ∙ ap (λ t. t.scalars) c.p.view_is in (
      (λ t. (
        c.index-info.result.now,
        at,
        λ i z at_i. subst (λ l. IsIn (range_of l (c.index-info.result.now.first + i)) z) scalars (c.is_in_type.ensures.0 t i z at_i),
      )),
      (λ t.
          let info = same_Some t.0 c.index-info.result.now (sym t.1 ∙ at) in
          c.is_in_type.ensures.1 (λ i z at_i.
          subst (λ l. IsIn (range_of l (c.index-info.result.now.first + i)) z) (sym scalars)
          (subst (λ x. IsIn (range_of c.args.p.now.scalars (x.first + i)) z) info (t.2 i z at_i)))),
    )
