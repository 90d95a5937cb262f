use Rattle.std.proofs.Common.{◌∙◌, length, sym, ap, ap₂, subst, arith}
use Rattle.std.specs.Option.{option_map_or}
use Rattle.std.proofs.lemmas.List.{with_items_is}
use Rattle.std.proofs.lemmas.Option.{slice_get_within}
use Rattle.sot_lists.proofs.Places.{at_same, read_at}
use Rattle.sot_lang.specs.declared.tables.TopicInfo.{TopicInfo}
use Rattle.sot_lang.specs.Tables.{Tables}
use Rattle.sot_lang.specs.TableRules.{MeetsTableRules}
use Rattle.sot_lang.proofs.Topics.{topic_inside}
use Rattle.sot_world.specs.Histories.{entry_of}
use Rattle.sot_world.specs.HistoryEntry.{InputAt}
use Rattle.sot_world.specs.Steps.{write_at}
use Rattle.sot_trace.specs.Fitting.{FitsEntry}
use Rattle.sot_history_state.specs.Scenes.{Scene, after}
use Rattle.sot_history_state.proofs.Scenes.{same_scene}
use Rattle.sot_history_state.proofs.scene.Scene.follow.Goals as goal

pub write-requires : goal.write-requires
write-requires c =
    let p = c.args.p.now in
    let rules = subst MeetsTableRules c.p.view_is c.p.invariant in
    let fits : FitsEntry p (InputAt c.in-Input.time c.in-Input.topic c.in-Input.value.now) = subst
    (λ (e : _). FitsEntry p (entry_of e)) c.in-Input.is c.requires.entry in
    let below = slice_get_within p.topics c.in-Input.topic fits.0 fits.1 in
    let at = read_at _ _ c.in-Input.topic _ (ap (λ (t : Tables). t.topics) c.p.view_is) below c.index.ensures in
    let same = at_same p.topics c.in-Input.topic c.index.result.now fits.0 at fits.1 in
    let inside = topic_inside p rules c.in-Input.topic c.index.result.now at in
    let count = ap (λ (x : TopicInfo). x.count) same in
    let scalars = ap length (c.deref_mut.ensures.value ∙ ap (λ (s : Scene). s.scalars) c.self.view_is) in
    omega (arith, inside, count, fits.2, scalars, c.requires.scene.scalars)

pub returns-in-Input : goal.returns-in-Input
returns-in-Input c =
    let p = c.args.p.now in
    let fits : FitsEntry p (InputAt c.in-Input.time c.in-Input.topic c.in-Input.value.now) = subst
    (λ (e : _). FitsEntry p (entry_of e)) c.in-Input.is c.requires.entry in
    let below = slice_get_within p.topics c.in-Input.topic fits.0 fits.1 in
    let at = read_at _ _ c.in-Input.topic _ (ap (λ (t : Tables). t.topics) c.p.view_is) below c.index.ensures in
    let first = ap (λ o. option_map_or (λ (x : TopicInfo). x.first) o 0) at in
    let scalars = c.deref_mut.ensures.value ∙ ap (λ (s : Scene). s.scalars) c.self.view_is in
    let put = with_items_is c.self.inside.scalars c.write.new.scalars (omega (arith, c.write.auto.scalars, c.deref_mut.ensures.len)) in
    same_scene _ (after p (InputAt c.in-Input.time c.in-Input.topic c.in-Input.value.now) c.args.self.now) (ap (λ (s : Scene). s.modes) c.self.view_is)
    (put ∙ c.write.ensures ∙ ap₂ (λ k xs. write_at k c.in-Input.value.now xs) (sym first) scalars) (ap (λ (s : Scene). s.points) c.self.view_is)
    ∙ ap (λ e. after p (entry_of e) c.args.self.now) (sym c.in-Input.is)
