-- Of `is_past`: its promise.
use Rattle.std.proofs.Common.{◌≡◌, ◌∙◌, Bool, true, false, not, subst, sym, refl}
use Rattle.sot_rules.specs.Faults.{least, when}
use Rattle.sot_rules.proofs.Least.{stays}
use Rattle.sot_rules.proofs.fault.is_past.Goals as goal

not_is : (b : Bool) → not b ≡ true → b ≡ false
not_is true e = cc
not_is false e = refl

pub returns-in-Some : goal.returns-in-Some
returns-in-Some c e fails =
    subst (λ z. least z (when fails c.args.at c.args.kind) ≡ z) (sym c.in-Some.is)
    (stays c.in-Some.f c.args.at c.args.kind fails (sym c.is_earlier.ensures ∙ not_is c.is_earlier.result e))
