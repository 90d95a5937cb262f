use Rattle.std.proofs.Common.{ℕ, ℤ, List, [], refl, sym, ap, ◌∙◌, subst, length, inr, ◌≡◌, IfOk, arith}
use Rattle.std.proofs.lemmas.Option.{slice_get_within}
use Rattle.sot_lists.specs.Places.{At}
use Rattle.sot_lang.specs.Tables.{Tables}
use Rattle.sot_lang.specs.TableRules.{MeetsTableRules}
use Rattle.sot_tube.specs.Certified.{IsWellCertified}
use Rattle.sot_guard.specs.declared.begin_fail.BeginFail.{BeginFail}
use Rattle.sot_guard.specs.Beginning.{IfNotHeld, IsStartUnsafe}
use Rattle.sot_guard_program.specs.Moments.{ears, mouth, Ended}
use Rattle.sot_guard_program.specs.Says.{SaysBegun}
use Rattle.sot_guard_program.specs.Tellings.{IsStartLine}
use Rattle.sot_guard_program.specs.Beginning.{SaysFrom, SaysOpened}
use Rattle.sot_guard_program.proofs.Passing.{passes_nil}
use Rattle.sot_guard_program.proofs.Begun.{begun}
use Rattle.sot_guard_program.proofs.Judged.{answered}
use Rattle.sot_guard_program.proofs.Results.{silent, unheld_result}
use Rattle.sot_guard_program.proofs.talking.begin.Goals as goal

pub returns-in-Err : goal.returns-in-Err
returns-in-Err g c = silent (SaysFrom c.args.ear.now.ended (SaysOpened c.args.time c.args.opening)) _ _ (inr (inr (refl, (refl, refl))), λ _. refl)

pub returns-in-Ok-begin : goal.returns-in-Ok-begin
returns-in-Ok-begin g c =
    let a = c.args.opening in
    let t = c.in-Ok-begin.talk in
    let ended = c.args.ear.now.ended in
    let e = ears (g.S.Source.left c.args.source.now) (g.S.Source.faults c.args.source.now) c.args.ear.now in
    let f = ears (g.S.Source.left c.begin_talk.new.source) (g.S.Source.faults c.begin_talk.new.source) c.begin_talk.new.ear in
    let x = mouth (g.K.Sink.held c.args.sink.now) (g.K.Sink.faults c.args.sink.now) in
    let y = mouth (g.K.Sink.held c.begin_talk.new.sink) (g.K.Sink.faults c.begin_talk.new.sink) in
    let status = c.begin_talk.result.0 in
    let as_program = sym c.requires.program in
    let rules = subst (λ (p : Tables). MeetsTableRules p) as_program c.requires.rules in
    let certified = subst (λ (p : Tables). IsWellCertified p a.accepted.cert.jitter a.accepted.cert) as_program c.requires.certified in
    let begins = c.in-Ok-begin.ensures in
    let count : c.len.result ≡ length a.starts = omega (arith, c.len.ensures, c.in-Ok.ensures.len, ap length c.starts.ensures) in
    begun c.args.time a t ended e f x y status rules certified
    (record {
      all = c.requires.all;
      opening = begins.opening;
      held = begins.held;
      trusted = begins.trusted;
      accepted = begins.accepted;
      turn = begins.turn;
      seen = begins.seen;
      no_drafts = begins.no_drafts;
      no_events = begins.no_events;
    })
    (subst (λ (n : ℕ). Ended (SaysFrom ended (SaysBegun t n)) e f x y status) count c.begin_talk.ensures)

pub unheld-requires-clause-there : goal.unheld-requires-clause-there
unheld-requires-clause-there g c =
    let m = c.in-Err-NotHeldSafe.module in
    let a = c.args.opening in
    let unsafe = subst (λ (f : BeginFail). IfNotHeld f (λ n. IsStartUnsafe a.accepted.program a.accepted.cert.jitter c.args.time a.starts n))
    c.in-Err-NotHeldSafe.field-0-is c.in-Err-NotHeldSafe.ensures.not_held in
    let first = unsafe.2.unheld in
    slice_get_within c.args.p.now.modules m first.module_info
    (subst (λ (p : Tables). At p.modules m first.module_info) c.requires.program first.is)

pub returns-in-Err-NotHeldSafe : goal.returns-in-Err-NotHeldSafe
returns-in-Err-NotHeldSafe g c =
    let a = c.args.opening in
    let ended = c.args.ear.now.ended in
    let e = ears (g.S.Source.left c.args.source.now) (g.S.Source.faults c.args.source.now) c.args.ear.now in
    let x = mouth (g.K.Sink.held c.args.sink.now) (g.K.Sink.faults c.args.sink.now) in
    let y = mouth (g.K.Sink.held c.tell.new.sink) (g.K.Sink.faults c.tell.new.sink) in
    let r = c.unheld.result in
    let unsafe = subst (λ (f : BeginFail). IfNotHeld f (λ n. IsStartUnsafe a.accepted.program a.accepted.cert.jitter c.args.time a.starts n))
    c.in-Err-NotHeldSafe.field-0-is c.in-Err-NotHeldSafe.ensures.not_held in
    let m = c.in-Err-NotHeldSafe.module in
    let starts = c.deref.ensures.value ∙ c.in-Ok.ensures.items ∙ c.starts.ensures in
    let line = subst (λ (p : Tables). IfOk r (λ n. IsStartLine p a.starts m n.text.items)) (sym c.requires.program)
    (subst (λ (s : List (List ℤ)). IfOk r (λ n. IsStartLine c.args.p.now s m n.text.items)) starts c.unheld.ensures.text) in
    answered e e x y c.tell.result.0 (SaysFrom ended (SaysOpened c.args.time a)) [] r (passes_nil e)
    (unheld_result c.args.time r a ended e m unsafe c.unheld.ensures.status line)
    (inr (inr (refl, (refl, refl))), λ _. refl) c.tell.ensures

pub returns : goal.returns
returns g c = silent (SaysFrom c.args.ear.now.ended (SaysOpened c.args.time c.args.opening)) _ _ (inr (inr (refl, (refl, refl))), λ _. refl)
