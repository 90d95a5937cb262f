-- Sums of sizes that pass a limit, by the room that is left.
use Rattle.std.proofs.Common.{◌≡◌, ◌∙◌, ℕ, ◌+◌, ◌-◌, ◌<◌, ◌≤◌, nat_lt, nat_le, Bool, true, false, ◌&&◌, List, [], ◌∷◌, ◌++◌, length, get_or, drop, Option, refl}
use Rattle.std.proofs.Common.{sym, ap, arith}
use Rattle.sot_syntax_tree.specs.declared.tree.Ident.{Ident}
use Rattle.sot_rules.specs.declared.fault.TypeFault.{TypeFault}
use Rattle.sot_rules.specs.declared.fault.TypeKind.TheVariants.{TooMany}
use Rattle.sot_rules.specs.Faults.{least, when, passes}
use Rattle.sot_rules.proofs.Least.{least_append}
use Rattle.sot_rules.proofs.Loops.{rest_is}

-- whether a sum passes the limit now
abbrev now_past : ℕ → ℕ → ℕ → Bool
now_past limit sum size = nat_le sum limit && nat_lt limit (sum + size)

is_past : (limit sum : ℕ) (b : Bool) → limit < sum → (nat_le sum limit && b) ≡ false
is_past limit sum b lt = let e : nat_le sum limit ≡ false = grind arith in ap (λ z. z && b) e

module _ (size : Ident → ℕ) (limit : ℕ) where
  -- once past the limit the rule has failed
  pub past_all : (sum : ℕ) (names : List Ident) → limit < sum → passes size limit sum names ≡ []
  past_all sum [] lt = refl
  past_all sum (i ∷ more) lt =
      ap (λ b. when b i.at TooMany ++ passes size limit (sum + size i) more) (is_past limit sum (nat_lt limit (sum + size i)) lt)
      ∙ past_all (sum + size i) more (omega arith)

  module _ (names : List Ident) (k : ℕ) (i : Ident) (n room : ℕ) (lt : k < length names) (e : i ≡ get_or names k i) (sized : n ≡ size i) (within : room ≤ limit)
    where
      left : passes size limit (limit - room) (drop k names) ≡ when (now_past limit (limit - room) n) i.at TooMany
          ++ passes size limit (limit - room + n) (drop (k + 1) names)
      left =
          ap (passes size limit (limit - room)) (rest_is names k i lt e)
          ∙ ap (λ z. when (now_past limit (limit - room) z) i.at TooMany ++ passes size limit (limit - room + z) (drop (k + 1) names)) (sym sized)

      -- the sum is within the limit with a size that has room
      pub fits : (a c : Option TypeFault) → n ≤ room → least a (passes size limit (limit - room) (drop k names)) ≡ c
          → least a (passes size limit (limit - (room - n)) (drop (k + 1) names)) ≡ c
      fits a c le inv =
          let sums : limit - (room - n) ≡ limit - room + n = omega arith in
          let not_past : now_past limit (limit - room) n ≡ false = none_passes limit room n within le in
          ap (λ s. least a (passes size limit s (drop (k + 1) names))) sums
          ∙ sym (ap (least a) (left ∙ ap (λ d. when d i.at TooMany ++ passes size limit (limit - room + n) (drop (k + 1) names)) not_past))
          ∙ inv
        where
          none_passes : (limit room n : ℕ) → room ≤ limit → n ≤ room → (nat_le (limit - room) limit && nat_lt limit (limit - room + n)) ≡ false
          none_passes limit room n within le =
              let f : nat_lt limit (limit - room + n) ≡ false = grind arith in let t : nat_le (limit - room) limit ≡ true = grind arith in cc

      -- the sum passes the limit with a size that has no room
      pub overflows : (a b c : Option TypeFault) → room < n → least a (passes size limit (limit - room) (drop k names)) ≡ c
          → b ≡ least a (when true i.at TooMany)
          → b ≡ c
      overflows a b c lt2 inv noted =
          let past : now_past limit (limit - room) n ≡ true = passes_now limit room n within lt2 in
          noted
          ∙ sym (ap (least a) (left ∙ ap (λ d. when d i.at TooMany ++ passes size limit (limit - room + n) (drop (k + 1) names)) past
          ∙ ap (λ z. when true i.at TooMany ++ z) (past_all (limit - room + n) (drop (k + 1) names) (omega arith))))
          ∙ inv
        where
          passes_now : (limit room n : ℕ) → room ≤ limit → room < n → (nat_le (limit - room) limit && nat_lt limit (limit - room + n)) ≡ true
          passes_now limit room n within lt =
              let f : nat_lt limit (limit - room + n) ≡ true = grind arith in let t : nat_le (limit - room) limit ≡ true = grind arith in cc

-- a name that would not have the first fault, before others that would not
pub past_rest : (names : List Ident) (k : ℕ) (i : Ident) (first : Option TypeFault) → k < length names → i ≡ get_or names k i
    → ((fails : Bool) → least first (when fails i.at TooMany) ≡ first)
    → ((size : Ident → ℕ) (limit sum : ℕ) → least first (passes size limit sum (drop (k + 1) names)) ≡ first) → (size : Ident → ℕ) (limit sum : ℕ)
    → least first (passes size limit sum (drop k names)) ≡ first
past_rest names k i first lt e here rest size limit sum =
    ap (λ is. least first (passes size limit sum is)) (rest_is names k i lt e)
    ∙ least_append first (when (now_past limit sum (size i)) i.at TooMany) (passes size limit (sum + size i) (drop (k + 1) names))
    ∙ ap (λ z. least z (passes size limit (sum + size i) (drop (k + 1) names))) (here (now_past limit sum (size i)))
    ∙ rest size limit (sum + size i)
