use Rattle.std.proofs.Common.{◌≡◌, ◌∙◌, ◌+◌, ◌-◌, ℕ, ◌<◌, List, length, sym, ap, subst, arith}
use Rattle.std.specs.Vec.{with_items}
use Rattle.std.proofs.lemmas.List.{with_items_is}
use Rattle.sot_lists.specs.Places.{At}
use Rattle.sot_lists.proofs.Places.{read_or}
use Rattle.sot_formula.specs.declared.what.What.{What}
use Rattle.sot_monitor.specs.Standing.{StepsOn, last_of}
use Rattle.sot_monitor.specs.Tracked.{Tracked}
use Rattle.sot_monitor.proofs.Stands.{stands_on, holds_on, moved_steps, eq_yes, eq_is}
use Rattle.sot_monitor.proofs.monitor.Monitor.step.Goals as goal

pub step-requires-clause-there : goal.step-requires-clause-there
step-requires-clause-there g c = λ k w q at looks.
    let whats = c.deref.ensures.value ∙ ap (λ (m : Tracked). m.whats) c.self.view_is in
    c.requires.there k w q (subst (λ (ws : List What). At ws k w) whats at) looks

pub returns-clause-stands : goal.returns-clause-stands
returns-clause-stands g c = λ x Ms old.
    let m : Tracked = c.args.self.now in
    let n : Tracked = record {
      whats = c.self.inside.whats.items;
      lasts =
          (with_items c.self.inside.lasts c.step.new.lasts).items;
      added = c.self.inside.added + 1;
    } in
    let s = g.L.Looks.moment c.args.now.now in
    let put = with_items_is c.self.inside.lasts c.step.new.lasts (omega (arith, c.step.auto.lasts, c.deref_mut.ensures.len)) in
    let steps = subst (λ (l : List ℕ). StepsOn m.whats m.lasts l m.added s) (sym put)
    (moved_steps c.deref.result.now m.whats c.deref_mut.result.now m.lasts c.step.new.lasts c.self.inside.added m.added s
    (c.deref.ensures.value ∙ ap (λ (t : Tracked). t.whats) c.self.view_is) (c.deref_mut.ensures.value ∙ ap (λ (t : Tracked). t.lasts) c.self.view_is)
    (ap (λ (t : Tracked). t.added) c.self.view_is) c.step.ensures.stands) in
    stands_on m n s (ap (λ (t : Tracked). t.whats) c.self.view_is) (ap (λ (t : Tracked). t.added + 1) c.self.view_is) steps x Ms old

pub returns-clause-holds : goal.returns-clause-holds
returns-clause-holds g c = λ x Ms old.
    let m : Tracked = c.args.self.now in
    let n : Tracked = record {
      whats = c.self.inside.whats.items;
      lasts =
          (with_items c.self.inside.lasts c.step.new.lasts).items;
      added = c.self.inside.added + 1;
    } in
    let s = g.L.Looks.moment c.args.now.now in
    let put = with_items_is c.self.inside.lasts c.step.new.lasts (omega (arith, c.step.auto.lasts, c.deref_mut.ensures.len)) in
    let whats = ap (λ (t : Tracked). t.whats) c.self.view_is in
    let steps = subst (λ (l : List ℕ). StepsOn m.whats m.lasts l m.added s) (sym put)
    (moved_steps c.deref.result.now m.whats c.deref_mut.result.now m.lasts c.step.new.lasts c.self.inside.added m.added s
    (c.deref.ensures.value ∙ whats) (c.deref_mut.ensures.value ∙ ap (λ (t : Tracked). t.lasts) c.self.view_is)
    (ap (λ (t : Tracked). t.added) c.self.view_is) c.step.ensures.stands) in
    let iff = holds_on m n s whats (ap (λ (t : Tracked). t.added + 1) c.self.view_is) steps x Ms old in
    let count = ap length whats in
    let len : c.len.result ≡ length m.whats = omega (arith, c.len.ensures, c.self.inside.lasts.ok.0, c.self.invariant.sizes, count) in
    let parts = ap length (c.deref.ensures.value ∙ whats) in
    let room : c.len.result - 1 < length n.lasts =
    (let same = ap length put in let size = c.step.ensures.size in let some = c.self.invariant.some in omega (arith, len, size, parts, some, count, same)) in
    let value : c.index.result.now ≡ last_of n.lasts (c.len.result - 1) = read_or n.lasts (c.len.result - 1) c.index.result.now 0 room c.index.ensures in
    let last : c.index.result.now ≡ last_of n.lasts (length m.whats - 1) = value ∙ ap (λ k. last_of n.lasts (k - 1)) len in
    (λ e. iff.0 (sym last ∙ eq_yes c.index.result.now (c.self.inside.added + 1) e), λ h. eq_is c.index.result.now (c.self.inside.added + 1) (last ∙ iff.1 h))
