use Rattle.std.proofs.Common.{◌≡◌, pos, neg_ℤ, unsigned_abs, true, false, refl, ap, arith}
use Rattle.sot_law_print_parse.proofs.Apart.{same_mantissas, same_scales, name_byte, same_signs}
use Rattle.sot_law_print_parse.proofs.facts.sameness_is_as_stated.Goals as goal

signs_differ : false ≡ true → ⊥
signs_differ e = cc

pub returns-clause-places : goal.returns-clause-places
returns-clause-places c = λ a b. refl

pub returns-clause-words : goal.returns-clause-words
returns-clause-words c = (
  λ e. (let bad : 120 ≡ 121 = ap name_byte e in omega arith),
  λ e. (let bad : 5 ≡ 6 = ap unsigned_abs (same_mantissas (pos 5) (pos 6) 0 0 e) in omega arith),
  λ e. signs_differ (same_signs (pos 5) (neg_ℤ (pos 5)) (same_mantissas (pos 5) (neg_ℤ (pos 5)) 0 0 e)),
  λ e. (let bad : 0 ≡ 1 = same_scales (pos 5) (pos 50) 0 1 e in omega arith),
  λ e. (let bad : 0 ≡ 1 = same_scales (pos 5) (pos 5) 0 1 e in omega arith),
  λ e. cc,
)

pub returns-clause-declarations : goal.returns-clause-declarations
returns-clause-declarations c =
    (λ e. (let bad : 120 ≡ 121 = ap name_byte e in omega arith), λ e. cc, λ e. cc, λ e. (let bad : 0 ≡ 120 = ap name_byte e in omega arith))

pub returns-clause-branches : goal.returns-clause-branches
returns-clause-branches c = (λ e. cc, λ e. cc, λ e. cc)

pub returns-clause-empty_else : goal.returns-clause-empty_else
returns-clause-empty_else c = λ word opening closing. refl
