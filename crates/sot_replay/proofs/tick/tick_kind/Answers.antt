use Rattle.std.proofs.Common.{◌≡◌, ◌∙◌, ℤ, Bool, List, Option, inl, inr, length, refl, sym, ap, subst}
use Rattle.std.proofs.lemmas.Bool.{both_ways}
use Rattle.sot_lang.specs.declared.tables.PlantInfo.{PlantInfo}
use Rattle.sot_lang.specs.Tables.{Tables}
use Rattle.sot_world.specs.Events.{noise_count, IsInBounds}
use Rattle.sot_trace_lines.specs.Shown.{Holds}
use Rattle.sot_replay.specs.Judges.{ReadsTick}
use Rattle.sot_replay.proofs.tick.tick_kind.Goals as goal

pub are_possible-requires : goal.are_possible-requires
are_possible-requires c =
    let p = c.args.p.now in
    let list = c.read_whole.new.desk.numbers.items in
    let whole = c.in-Some.whole in
    let (t, noise, states, spelled, holds) = subst (λ (o : Option Bool). ReadsTick p c.args.line.now list o) c.in-Some.is c.in_ok-whole.ensures in
    let plants : c.deref.result.now ≡ p.plants = c.deref.ensures.value ∙ ap (λ (q : Tables). q.plants) c.p.view_is in
    let size = subst (λ (ks : List PlantInfo). length noise ≡ noise_count ks) (sym plants) spelled.0.0 in
    let held = subst (λ (l : List ℤ). Holds whole l noise) (sym c.deref-2.ensures.value) holds in
    (noise, size, held)

pub returns-then-are_possible : goal.returns-then-are_possible
returns-then-are_possible c =
    let p = c.args.p.now in
    let list = c.read_whole.new.desk.numbers.items in
    let whole = c.in-Some.whole in
    let (t, noise, states, spelled, holds) = subst (λ (o : Option Bool). ReadsTick p c.args.line.now list o) c.in-Some.is c.in_ok-whole.ensures in
    let plants : c.deref.result.now ≡ p.plants = c.deref.ensures.value ∙ ap (λ (q : Tables). q.plants) c.p.view_is in
    let size = subst (λ (ks : List PlantInfo). length noise ≡ noise_count ks) (sym plants) spelled.0.0 in
    let held = subst (λ (l : List ℤ). Holds whole l noise) (sym c.deref-2.ensures.value) holds in
    let inside = subst (λ (ks : List PlantInfo). IsInBounds ks noise) plants ((c.are_possible.ensures noise size held).0 c.if-are_possible.true) in
    inr (inr (refl, t, noise, states, spelled, inside))

pub returns-else-are_possible : goal.returns-else-are_possible
returns-else-are_possible c =
    let p = c.args.p.now in
    let list = c.read_whole.new.desk.numbers.items in
    let whole = c.in-Some.whole in
    let (t, noise, states, spelled, holds) = subst (λ (o : Option Bool). ReadsTick p c.args.line.now list o) c.in-Some.is c.in_ok-whole.ensures in
    let plants : c.deref.result.now ≡ p.plants = c.deref.ensures.value ∙ ap (λ (q : Tables). q.plants) c.p.view_is in
    let size = subst (λ (ks : List PlantInfo). length noise ≡ noise_count ks) (sym plants) spelled.0.0 in
    let held = subst (λ (l : List ℤ). Holds whole l noise) (sym c.deref-2.ensures.value) holds in
    inr (inl (
      refl,
      t,
      noise,
      states,
      spelled,
      λ inside. both_ways c.are_possible.result c.if-are_possible.false
          ((c.are_possible.ensures noise size held).1 (subst (λ (ks : List PlantInfo). IsInBounds ks noise) (sym plants) inside)),
    ))
