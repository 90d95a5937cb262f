use Rattle.std.proofs.Common.{◌∙◌, ap, ◌-◌, ◌^◌, min, sym}
use Rattle.std.specs.Prelude.{nat_le}
use Rattle.std.specs.Option.{option_map_or}
use Rattle.sot_workers.specs.Threads.{statements}
use Rattle.sot_workers.proofs.Weights.{long_cut}
use Rattle.sot_workers.proofs.rule.has_long_body.Goals as goal

pub returns-in-Some : goal.returns-in-Some
returns-in-Some c =
    let is = c.statements.ensures ∙ ap (λ us. min (statements us) (2 ^ 32 - 1)) c.deref.ensures.value in
    long_cut (statements c.in-Some.acts.items) c.statements.result is ∙ ap (λ o. option_map_or (λ v. nat_le 1000 (statements v.items)) o _) (sym c.in-Some.is)
