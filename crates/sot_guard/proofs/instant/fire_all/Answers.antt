use Rattle.std.proofs.Common.{rules, ◌+◌, ◌≤◌, ◌<◌, [], refl, sym, ap, ◌∙◌, subst, arith, length}
use Rattle.std.specs.Prelude.{vec_len, vec_capacity}
use Rattle.sot_lists.proofs.Places.{read_or}
use Rattle.sot_guard.specs.Guarding.{Guarding}
use Rattle.sot_guard.proofs.Instants.{none_fired, fired_along, fired_more, fired_none}
use Rattle.sot_guard.proofs.instant.fire_all.Goals.{then-left, else-left}
use Rattle.sot_guard.proofs.instant.fire_all.Goals as goal

pub loop-node-init : goal.loop-node-init
loop-node-init c = record {
  fired = none_fired c.args.guard.now c.args.drafts.now c.args.told.now.items;
  accepted = refl;
  trusted = refl;
  len = omega arith;
  room = omega arith;
  count = search rules;
}

pub loop-node-preserved : goal.loop-node-preserved
loop-node-preserved c =
    let start = c.args.guard.now in
    let first = c.args.told.now in
    let drafts = c.args.drafts.now in
    let old = c.loop-node.guard in
    let told = c.loop-node.told in
    let n = c.loop-node.node in
    let inv = c.loop-node.invariant in
    elim c.if-left.branch [
      | then-left w ↦
          let new = w.fire-firing.new.guard in
          let did = w.fire-firing.ensures in
          let more = w.add.ensures in
          let lt : n < length drafts = omega (arith, c.loop-node-test.true, inv.count, c.requires.drafts) in
          record {
            fired =
                fired_along start new _ drafts first.items w.add.new.told.items _ (n + 1) w.guard-is (ap (λ v. v.items) w.told-is)
                (fired_more start old new first.items told.items w.add.new.told.items inv.accepted inv.trusted drafts n _ w.fire-firing.result
                inv.fired did.fires (read_or drafts n _ [] lt w.index-drafts-node.is) more.items);
            accepted = ap (λ (b : Guarding). b.accepted) w.guard-is ∙ did.accepted ∙ inv.accepted;
            trusted = ap (λ (b : Guarding). b.trusted) w.guard-is ∙ did.trusted ∙ inv.trusted;
            len = subst (λ v. vec_len v ≤ vec_len first + (n + 1)) (sym w.told-is) (omega (arith, more.len, inv.len));
            room = subst (λ v. vec_capacity first ≤ vec_capacity v) (sym w.told-is) (omega (arith, more.room, inv.room));
            count = inv.count;
          }
      | else-left w ↦
          record {
            fired =
                fired_along start old _ drafts first.items told.items _ (n + 1) w.guard-is (ap (λ v. v.items) w.told-is)
                (fired_none start old drafts first.items told.items n inv.fired (sym c.left.ensures ∙ w.if-left.false));
            accepted = ap (λ (b : Guarding). b.accepted) w.guard-is ∙ inv.accepted;
            trusted = ap (λ (b : Guarding). b.trusted) w.guard-is ∙ inv.trusted;
            len = subst (λ v. vec_len v ≤ vec_len first + (n + 1)) (sym w.told-is) (omega (arith, inv.len));
            room = subst (λ v. vec_capacity first ≤ vec_capacity v) (sym w.told-is) inv.room;
            count = inv.count;
          }
    ]
