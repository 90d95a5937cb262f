-- What is answered for tables that look the same is one answer, but for want of memory.
use Rattle.std.proofs.Common.{◌≡◌, Ok, Err, refl, sym, ap, ◌∙◌}
use Rattle.std.specs.Prelude.{◌≢◌}
use Rattle.sot_tube.specs.Refusals.{Refusal, Periods, Outputs, EmptyRegion, ClosedGap, ClosedTrap, ClosedLeaves, ReachGap, ReachLeaves, ReachTrap, SharedNode}
use Rattle.sot_tube.specs.Refusals.{SharedOutput, SharedPlant, ForeignInput, CodeMayTrap, NoCells}
use Rattle.sot_rta.specs.declared.refusal.Refusal.{Refusal as CodeRefusal}
use Rattle.sot_rta.specs.declared.refusal.Refusal.TheVariants as codes
use Rattle.sot_rta.specs.Refused.{refusal_view}
use Rattle.sot_law_equal_tables.proofs.Seen.{module_back}
use Rattle.sot_certify.specs.declared.fail.CertifyFail.{CertifyFail}
use Rattle.sot_certify.specs.declared.fail.CertifyFail.TheVariants.{Refused, Point, TooMany, Memory}
use Rattle.sot_certify.specs.Laws.{SameFail, IsMemory}
use Rattle.sot_certify.proofs.Exact.{answers_are_one}
use Rattle.sot_law_equal_verdicts.specs.Laws.{CertifyAlike, FailsAlike, CellsAlike}
use Rattle.sot_law_equal_verdicts.proofs.Answers.{answers_alike}

-- the refusal that looks so
abbrev refusal_of : Refusal → CodeRefusal
refusal_of (Periods m n) = codes.Periods m n
refusal_of (Outputs m t) = codes.Outputs m t
refusal_of (EmptyRegion m s) = codes.EmptyRegion m s
refusal_of (ClosedGap m s) = codes.ClosedGap m s
refusal_of (ClosedTrap m i tick at) = codes.ClosedTrap m i tick at
refusal_of (ClosedLeaves m i tick area s) = codes.ClosedLeaves m i tick area s
refusal_of (ReachGap m s) = codes.ReachGap m s
refusal_of (ReachLeaves m i tick area s) = codes.ReachLeaves m i tick area s
refusal_of (ReachTrap m i tick at) = codes.ReachTrap m i tick at
refusal_of (SharedNode n a b) = codes.SharedNode n a b
refusal_of (SharedOutput t a b) = codes.SharedOutput t a b
refusal_of (SharedPlant k a b) = codes.SharedPlant k a b
refusal_of (ForeignInput m t) = codes.ForeignInput m t
refusal_of (CodeMayTrap n at kind lo hi) = codes.CodeMayTrap n at kind lo hi
refusal_of (NoCells m) = codes.NoCells m

seen_back : (r : CodeRefusal) → refusal_of (refusal_view r) ≡ r
seen_back (codes.Periods m n) = refl
seen_back (codes.Outputs m t) = refl
seen_back (codes.EmptyRegion m s) = refl
seen_back (codes.ClosedGap m s) = refl
seen_back (codes.ClosedTrap m i tick at) = refl
seen_back (codes.ClosedLeaves m i tick area s) = refl
seen_back (codes.ReachGap m s) = refl
seen_back (codes.ReachLeaves m i tick area s) = refl
seen_back (codes.ReachTrap m i tick at) = refl
seen_back (codes.SharedNode n a b) = refl
seen_back (codes.SharedOutput t a b) = refl
seen_back (codes.SharedPlant k a b) = refl
seen_back (codes.ForeignInput m t) = refl
seen_back (codes.CodeMayTrap n at kind lo hi) = refl
seen_back (codes.NoCells m) = refl

-- refusals that look the same are one
one_refusal : (r r' : CodeRefusal) → refusal_view r ≡ refusal_view r' → r ≡ r'
one_refusal r r' e = sym (seen_back r) ∙ ap refusal_of e ∙ seen_back r'

-- two failures that are one but for want of memory are one, where neither is that
one_fail : (f g : CertifyFail) → f ≢ Memory → g ≢ Memory → SameFail f g → f ≡ g
one_fail (Refused r) (Refused r') none none' e = ap (λ x. Refused x) (one_refusal r r' e)
one_fail (Refused r) (Point m reach s) none none' e = absurd e
one_fail (Refused r) (TooMany m reach) none none' e = absurd e
one_fail (Refused r) Memory none none' e = absurd (none' refl)
one_fail (Point m reach s) (Refused r) none none' e = absurd e
one_fail (Point m reach s) (Point m' reach' s') none none' e = λ i. Point (e.0 i) (e.1 i) (e.2 i)
one_fail (Point m reach s) (TooMany m' reach') none none' e = absurd e
one_fail (Point m reach s) Memory none none' e = absurd (none' refl)
one_fail (TooMany m reach) (Refused r) none none' e = absurd e
one_fail (TooMany m reach) (Point m' reach' s) none none' e = absurd e
one_fail (TooMany m reach) (TooMany m' reach') none none' e = λ i. TooMany (e.0 i) (e.1 i)
one_fail (TooMany m reach) Memory none none' e = absurd (none' refl)
one_fail Memory g none none' e = absurd (none refl)

not_memory : (f : CertifyFail) → f ≢ Memory → IsMemory f → ⊥
not_memory (Refused r) none is = is
not_memory (Point m reach s) none is = is
not_memory (TooMany m reach) none is = is
not_memory Memory none is = none refl

pub certify_alike : CertifyAlike
certify_alike t u cert fail same none made fails = not_memory fail none (answers_are_one u (Ok cert) (Err fail) (answers_alike t u (Ok cert) same made) fails)

pub fails_alike : FailsAlike
fails_alike t u f g same none none' h k = one_fail f g none none' (answers_are_one u (Err f) (Err g) (answers_alike t u (Err f) same h) k)

pub cells_alike : CellsAlike
cells_alike t u c d m a x y same h k at = answers_are_one u (Ok c) (Ok d) (answers_alike t u (Ok c) same h) k m a x y (module_back u t (sym same) m a at)
