use Rattle.std.proofs.Common.{◌∙◌, ◌+◌, ◌≤◌, List, ◌++◌, length, drop, map, sym, ap, subst, arith}
use Rattle.std.proofs.lemmas.List.{drop_all, append-nil}
use Rattle.sot_world.specs.HistoryEntry.{Logged}
use Rattle.sot_world.specs.Histories.{entry_of}
use Rattle.sot_flight.specs.declared.sent.Sent.{Sent}
use Rattle.sot_flight.specs.Relayed.{Send, send_of}
use Rattle.sot_history_state.specs.Scenes.{Scene, IsSceneOf}
use Rattle.sot_history_state.proofs.Sizes.{keep_sizes}
use Rattle.sot_bridge.specs.SendLaws.{sent_by, sends_from, sends_of}
use Rattle.sot_bridge.proofs.Sending.{sends_step, sent_more}
use Rattle.sot_bridge.proofs.history.sends.Goals as goal

pub loop-i-init : goal.loop-i-init
loop-i-init c =
    let p = c.args.p.now in
    let es = c.args.history.now.entries in
    record {
      told =
          ap (λ (l : List Sent). map send_of l ++ sends_from p c.args.topic c.in_ok-scene.scene.scalars es) c.new-found.ensures.items
          ∙ ap (λ (s : Scene). sends_from p c.args.topic s.scalars es) c.in_ok-scene.ensures;
      sized = subst (IsSceneOf p) (sym c.in_ok-scene.ensures) ((keep_sizes p).0 c.args.start.now c.requires.starts);
    }

pub add_sent-requires-clause-scene : goal.add_sent-requires-clause-scene
add_sent-requires-clause-scene c =
    let p = c.args.p.now in
    let e : Logged = entry_of c.entry-entry.result in
    let fits = c.requires.fits c.loop-i.i e c.entry-entry.ensures in
    subst (IsSceneOf p) (sym c.follow.ensures) ((keep_sizes p).1 e c.loop-i.scene fits c.loop-i.invariant.sized)

pub loop-i-preserved : goal.loop-i-preserved
loop-i-preserved c =
    let p = c.args.p.now in
    let topic = c.args.topic in
    let es = c.args.history.now.entries in
    let i = c.loop-i.i in
    let s = c.loop-i.scene in
    let k = c.loop-i.invariant in
    let e : Logged = entry_of c.entry-entry.result in
    let at = c.entry-entry.ensures in
    let fits = c.requires.fits i e at in
    let now : Scene = c.follow.new.self in
    let step = sends_step p topic es i e s at ∙
    ap (λ (t : Scene). sent_by p topic e t.scalars ++ sends_from p topic t.scalars (drop (i + 1) es)) (sym c.follow.ensures) in
    record {
      told =
          ap (λ (l : List Send). l ++ sends_from p topic now.scalars (drop (i + 1) es)) c.in_ok-add_sent.ensures
          ∙ sent_more (map send_of c.loop-i.found.items) (sent_by p topic e now.scalars) (sends_from p topic now.scalars (drop (i + 1) es))
          (sends_from p topic s.scalars (drop i es)) (sends_of p topic es) step k.told;
      sized = subst (IsSceneOf p) (sym c.follow.ensures) ((keep_sizes p).1 e s fits k.sized);
    }

pub returns : goal.returns
returns c =
    let p = c.args.p.now in
    let es = c.args.history.now.entries in
    let k = c.loop-i.invariant in
    let past : length es ≤ c.loop-i.i = omega (arith, c.loop-i-test.false, c.len-i-end.ensures) in
    sym (append-nil (map send_of c.loop-i.found.items))
    ∙ ap (λ (xs : List Logged). map send_of c.loop-i.found.items ++ sends_from p c.args.topic c.loop-i.scene.scalars xs) (sym (drop_all c.loop-i.i es past))
    ∙ k.told
