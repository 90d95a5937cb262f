use Rattle.std.proofs.Common.{◌∙◌, ◌+◌, ◌≤◌, List, [], ◌∷◌, ◌++◌, length, drop, map, refl, sym, ap, subst, arith, append_assoc}
use Rattle.std.proofs.lemmas.List.{drop_all}
use Rattle.sot_lang.specs.Tables.{Tables}
use Rattle.sot_world.specs.HistoryEntry.{Logged}
use Rattle.sot_world.specs.Histories.{entry_of}
use Rattle.sot_world.specs.Opens.{AreStarts}
use Rattle.sot_trace.specs.Fitting.{FitsEntry}
use Rattle.sot_trace.specs.Lines.{ticks_in}
use Rattle.sot_trace.proofs.Laying.{count_more}
use Rattle.sot_history_state.specs.Scenes.{Scene, after, moments, IsSceneOf}
use Rattle.sot_history_state.proofs.Sizes.{keep_sizes}
use Rattle.sot_monitor.specs.Holding.{Moment, AlwaysHolds}
use Rattle.sot_monitor.specs.Moments.{number_in, moments_told}
use Rattle.sot_monitor.specs.Seen.{seen_before}
use Rattle.sot_monitor.proofs.Adding.{from_entry, none_fails, same_verdict}
use Rattle.sot_monitor.proofs.over.watch.Goals as goal

pub loop-i-init : goal.loop-i-init
loop-i-init c =
    let p = c.typed-p.result.now in
    let starts = subst (λ (t : Tables). AreStarts t c.args.start.now) (sym c.typed-p.ensures.program) c.requires.starts in
    record {
      seen = [];
      told = ap (λ (s : Scene). map number_in (moments p s c.args.history.now.entries)) (sym c.in_ok-scene.ensures);
      stands = λ x new. (new, none_fails x);
      sized = subst (IsSceneOf p) (sym c.in_ok-scene.ensures) ((keep_sizes p).0 c.args.start.now starts);
      whats = refl;
      added = omega (arith, c.requires.new);
    }

pub loop-i-preserved : goal.loop-i-preserved
loop-i-preserved c =
    let p = c.typed-p.result.now in
    let es = c.args.history.now.entries in
    let i = c.loop-i.i in
    let s = c.loop-i.scene in
    let k = c.loop-i.invariant in
    let e : Logged = entry_of c.entry-entry.result in
    let at = c.entry-entry.ensures in
    let fits = subst (λ (t : Tables). FitsEntry t e) (sym c.typed-p.ensures.program) (c.requires.fits i e at) in
    let more = count_more ticks_in es i e at in
    let rest = map number_in (moments p (after p e s) (drop (i + 1) es)) in
    record {
      seen = k.seen ++ seen_before s e;
      told = k.told ∙ ap (λ (Ms : List Moment). k.seen ++ Ms) (from_entry p s es i e at) ∙ sym (append_assoc k.seen (seen_before s e) rest)
          ∙ ap (λ (t : Scene). (k.seen ++ seen_before s e) ++ map number_in (moments p t (drop (i + 1) es))) (sym c.follow.ensures);
      stands = λ x new.
          (let old = k.stands x new in (c.holds_before.ensures.stands x k.seen old.0, c.if-not-holds_before.ensures.verdict x k.seen rest old.0 old.1));
      sized = subst (IsSceneOf p) (sym c.follow.ensures) ((keep_sizes p).1 e s fits k.sized);
      whats = c.holds_before.ensures.kept ∙ k.whats;
      added = omega (arith, more, c.holds_before.ensures.added, k.added);
    }

pub returns-then-not-holds_before : goal.returns-then-not-holds_before
returns-then-not-holds_before c =
    let p = c.typed-p.result.now in
    let es = c.args.history.now.entries in
    let i = c.loop-i.i in
    let s = c.loop-i.scene in
    let k = c.loop-i.invariant in
    let e : Logged = entry_of c.entry-entry.result in
    let rest = map number_in (moments p (after p e s) (drop (i + 1) es)) in
    let told = ap (λ (t : Tables). moments_told t c.args.start.now es) (sym c.typed-p.ensures.program)
    ∙ k.told ∙ ap (λ (Ms : List Moment). k.seen ++ Ms) (from_entry p s es i e c.entry-entry.ensures) in
    record {
      verdict = λ x new.
          (let old = k.stands x new in
          same_verdict _ (k.seen ++ (seen_before s e ++ rest)) x c.added-moment.result (length k.seen) told (c.added-moment.ensures ∙ old.0.added)
          (c.if-not-holds_before.ensures.verdict x k.seen rest old.0 old.1));
    }

pub returns-then-holds_now : goal.returns-then-holds_now
returns-then-holds_now c =
    let p = c.typed-p.result.now in
    let es = c.args.history.now.entries in
    let s = c.loop-i.scene in
    let k = c.loop-i.invariant in
    let past : length es ≤ c.loop-i.i = omega (arith, c.loop-i-test.false, c.len-i-end.ensures) in
    let told = ap (λ (t : Tables). moments_told t c.args.start.now es) (sym c.typed-p.ensures.program)
    ∙ k.told ∙ ap (λ (xs : List Logged). k.seen ++ map number_in (moments p s xs)) (drop_all c.loop-i.i es past) in
    record {
      verdict = λ x new.
          (let old = k.stands x new in
          subst (λ (Ms : List Moment). AlwaysHolds Ms x) (sym told) (c.if-holds_now.ensures.verdict x k.seen [] old.0 old.1));
    }

pub returns : goal.returns
returns c =
    let p = c.typed-p.result.now in
    let es = c.args.history.now.entries in
    let s = c.loop-i.scene in
    let k = c.loop-i.invariant in
    let past : length es ≤ c.loop-i.i = omega (arith, c.loop-i-test.false, c.len-i-end.ensures) in
    let told = ap (λ (t : Tables). moments_told t c.args.start.now es) (sym c.typed-p.ensures.program)
    ∙ k.told ∙ ap (λ (xs : List Logged). k.seen ++ map number_in (moments p s xs)) (drop_all c.loop-i.i es past) in
    record {
      verdict = λ x new.
          (let old = k.stands x new in
          same_verdict _ (k.seen ++ number_in s ∷ []) x c.added-moment-2.result (length k.seen) told (c.added-moment-2.ensures ∙ old.0.added)
          (c.if-holds_now.ensures.verdict x k.seen [] old.0 old.1));
    }
