use Rattle.std.proofs.Common.{rules, ◌+◌, ◌≤◌, refl, sym, ap, ◌∙◌, subst, arith}
use Rattle.std.specs.Prelude.{vec_len, vec_capacity}
use Rattle.sot_guard.specs.Guarding.{Guarding}
use Rattle.sot_guard.proofs.Instants.{none_decided, decided_along, decided_more, decided_none}
use Rattle.sot_guard.proofs.instant.decide_all.Goals.{then-left_dm, else-left_dm}
use Rattle.sot_guard.proofs.instant.decide_all.Goals as goal

pub loop-module-init : goal.loop-module-init
loop-module-init c = record {
  decided = none_decided c.args.guard.now c.args.told.now.items;
  accepted = refl;
  trusted = refl;
  len = omega arith;
  room = omega arith;
  count = search rules;
}

pub loop-module-preserved : goal.loop-module-preserved
loop-module-preserved c =
    let start = c.args.guard.now in
    let first = c.args.told.now in
    let old = c.loop-module.guard in
    let told = c.loop-module.told in
    let m = c.loop-module.«module» in
    let inv = c.loop-module.invariant in
    elim c.if-left_dm.branch [
      | then-left_dm w ↦
          let new = w.decide-mode.new.self in
          let did = w.decide-mode.ensures in
          let more = w.add.ensures in
          record {
            decided =
                decided_along start new _ first.items w.add.new.told.items _ (m + 1) w.guard-is (ap (λ v. v.items) w.told-is)
                (decided_more start old new first.items told.items w.add.new.told.items inv.accepted inv.trusted m w.decide-mode.result
                inv.decided did.step did.mode more.items);
            accepted = ap (λ (b : Guarding). b.accepted) w.guard-is ∙ did.accepted ∙ inv.accepted;
            trusted = ap (λ (b : Guarding). b.trusted) w.guard-is ∙ did.trusted ∙ inv.trusted;
            len = subst (λ v. vec_len v ≤ vec_len first + (m + 1)) (sym w.told-is) (omega (arith, more.len, inv.len));
            room = subst (λ v. vec_capacity first ≤ vec_capacity v) (sym w.told-is) (omega (arith, more.room, inv.room));
            count = inv.count;
          }
      | else-left_dm w ↦
          record {
            decided =
                decided_along start old _ first.items told.items _ (m + 1) w.guard-is (ap (λ v. v.items) w.told-is)
                (decided_none start old first.items told.items m inv.decided (sym c.left_dm.ensures ∙ w.if-left_dm.false));
            accepted = ap (λ (b : Guarding). b.accepted) w.guard-is ∙ inv.accepted;
            trusted = ap (λ (b : Guarding). b.trusted) w.guard-is ∙ inv.trusted;
            len = subst (λ v. vec_len v ≤ vec_len first + (m + 1)) (sym w.told-is) (omega (arith, inv.len));
            room = subst (λ v. vec_capacity first ≤ vec_capacity v) (sym w.told-is) inv.room;
            count = inv.count;
          }
    ]
