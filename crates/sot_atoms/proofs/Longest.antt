-- The longest stretch of a block.
use Rattle.std.proofs.Common.{◌≡◌, ℕ, ◌+◌, ◌-◌, ◌<◌, ◌≤◌, ◌⊎◌, ⊎_elim, List, length, subst, arith}
use Rattle.std.proofs.lemmas.Option.{slice_get_within}
use Rattle.sot_lists.specs.Places.{At}
use Rattle.sot_lists.proofs.Places.{at_same}
use Rattle.sot_atoms.specs.declared.block.Stretch.{Stretch}
use Rattle.sot_atoms.specs.Blocks.{IsLongest}

abbrev steps : Stretch → ℕ
steps r = r.to - r.from

-- the longest of the first n stretches, of equal ones the first
pub record IsLongestOf (block : List Stretch) (n axis : ℕ) : Type 0 where
  pub before : axis < n
  pub longest : (k : ℕ) (r s : Stretch) → k < n → At block k r → At block axis s
      → (r.to - r.from ≤ s.to - s.from) × (k < axis → r.to - r.from < s.to - s.from)

pub longest_first : (block : List Stretch) → IsLongestOf block 1 0
longest_first block = record {
  before = omega arith;
  longest = λ k r s lt ar as'.
      let e : k ≡ 0 = omega arith in
      let same : r ≡ s = at_same block 0 r s (subst (λ n. At block n r) e ar) as' in
      (subst (λ (q : Stretch). r.to - r.from ≤ q.to - q.from) same (omega arith), λ no'. absurd (omega arith));
}

module _ (block : List Stretch) (n axis : ℕ) (old new : Stretch) (far : IsLongestOf block n axis) (at_old : At block axis old) (at_new : At block n new) where
  last : (k : ℕ) → k < n + 1 → (k < n) ⊎ (k ≡ n)
  last k lt = grind arith

  pub longest_taken : steps old < steps new → IsLongestOf block (n + 1) n
  longest_taken more = record {
    before = omega arith;
    longest = λ k r s lt ar as'.
        let same : new ≡ s = at_same block n new s at_new as' in
        ⊎_elim
        (λ (lower : k < n). let h = (far.longest k r old lower ar at_old).0 in
        subst (λ (q : Stretch). (r.to - r.from ≤ q.to - q.from) × (k < n → r.to - r.from < q.to - q.from)) same (omega arith, λ _. omega arith))
        (λ (e : k ≡ n). let here : r ≡ s = at_same block n r s (subst (λ m. At block m r) e ar) as' in
        (subst (λ (q : Stretch). r.to - r.from ≤ q.to - q.from) here (omega arith), λ no'. absurd (omega arith)))
        (last k lt);
  }

  pub longest_kept : steps new ≤ steps old → IsLongestOf block (n + 1) axis
  longest_kept less = record {
    before = (let b = far.before in omega arith);
    longest = λ k r s lt ar as'.
        ⊎_elim
        (λ (lower : k < n). far.longest k r s lower ar as')
        (λ (e : k ≡ n). let b = far.before in
        let here : new ≡ r = at_same block n new r at_new (subst (λ m. At block m r) e ar) in
        let there : old ≡ s = at_same block axis old s at_old as' in (
          subst (λ (q : Stretch). q.to - q.from ≤ s.to - s.from) here (subst (λ (q : Stretch). new.to - new.from ≤ q.to - q.from) there less),
          λ no'. absurd (omega arith),
        ))
        (last k lt);
  }

pub longest_all : (block : List Stretch) (axis n : ℕ) (s : Stretch) → length block ≡ 4 → 4 ≤ n → IsLongestOf block n axis → At block axis s
    → IsLongest block axis s
longest_all block axis n s four all far at = (at, λ k r ar. far.longest k r s (let w = slice_get_within block k r ar in omega arith) ar at)

-- where the longest stretch has one place, each one has
pub all_single : (block : List Stretch) (axis : ℕ) (s : Stretch) → IsLongest block axis s → s.to ≤ s.from → (k : ℕ) (r : Stretch) → At block k r → r.to ≤ r.from
all_single block axis s longest single k r at = (let h = (longest.1 k r at).0 in omega arith)
