use Rattle.std.proofs.Common.{◌≡◌, ℕ, refl, ap, arith}
use Rattle.sot_typing.specs.Formulas.{Formula, place, binary, rescaled, Deed, assigned, published}
use Rattle.sot_law_equal_tables.proofs.facts.forgetting_is_as_stated.Goals as goal

-- the place that is read first, the scale that is wanted, and the target
abbrev first_read : Formula → ℕ
first_read (binary op (place k) b at) = k
first_read _ = 7

abbrev wanted : Formula → ℕ
wanted (rescaled a from to at) = to
wanted _ = 7

abbrev target : Deed → ℕ
target (assigned k a at) = k
target (published k a at) = 7
target _ = 8

pub returns-clause-places : goal.returns-clause-places
returns-clause-places c = λ at w. (refl, refl)

pub returns-clause-operands : goal.returns-clause-operands
returns-clause-operands c = λ at. (
  λ e. cc,
  λ e. (let bad : 0 ≡ 1 = ap first_read e in omega arith),
  λ e. (let bad : 0 ≡ 7 = ap first_read e in omega arith),
  λ e. (let bad : 2 ≡ 3 = ap wanted e in omega arith),
)

pub returns-clause-targets : goal.returns-clause-targets
returns-clause-targets c = λ at. (λ e. (let bad : 2 ≡ 3 = ap target e in omega arith), λ e. (let bad : 2 ≡ 7 = ap target e in omega arith))
