use Rattle.std.proofs.Common.{◌≡◌, ℕ, List, ◌++◌, length, ap, ◌∙◌, subst, arith}
use Rattle.sot_lang.specs.Tables.{Tables}
use Rattle.sot_recovery_text.specs.Steps.{TellsSoFar}
use Rattle.sot_recovery_text.proofs.More.{so_far_none, so_far_more, told}
use Rattle.sot_recovery_text.proofs.lines.put_recovery.Goals as goal

pub loop-module-init : goal.loop-module-init
loop-module-init c = so_far_none c.args.acc.now.program c.args.acc.now.cert _ _ c.requires.empty c.new-within.ensures.items

pub loop-module-preserved : goal.loop-module-preserved
loop-module-preserved c =
    so_far_more c.args.acc.now.program c.args.acc.now.cert c.loop-module.«module» _ _ _ _ c.loop-module.invariant c.in_ok-put_outcome.ensures

pub returns : goal.returns
returns c =
    let p = c.args.acc.now.program in
    let d = c.args.acc.now.cert in
    let never = c.loop-module.text.items in
    let within = c.loop-module.within.items in
    let count : c.behind-acc.inside.modules.len ≡ length p.modules = c.behind-acc.inside.modules.ok.0
    ∙ ap (λ (t : Tables). length t.modules) (c.behind-acc.view_is ∙ c.typed.ensures.program) in
    let end : c.loop-module.«module» ≡ length p.modules =
    omega (arith, c.loop-module-test.false, c.loop-module.auto.module-end, c.len-module-end.ensures, count) in
    told p d c.is_empty-all.result never within c.extend_from_slice.new.self.items c.loop-module.text.len
    (subst (λ k. TellsSoFar p d k never within) end c.loop-module.invariant)
    (c.in_ok-extend_from_slice.ensures.items ∙ ap (λ (l : List ℕ). never ++ l) c.as_slice.ensures.value) c.is_empty-all.ensures c.loop-module.text.ok.0
