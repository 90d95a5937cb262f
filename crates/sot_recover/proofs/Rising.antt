-- Numbers that rise, and one more behind them.
use Rattle.std.proofs.Common.{◌≡◌, ℕ, zero, suc, ◌+◌, ◌≤◌, ◌<◌, List, [], ◌∷◌, ◌++◌, refl, arith}
use Rattle.sot_lists.specs.Places.{Has}
use Rattle.sot_recover.specs.Meeting.{RiseFrom}
use Rattle.sot_recover.specs.Blocks.{RiseBelow}

rise_end : (n : ℕ) (xs : List ℕ) (i : ℕ) → RiseFrom n xs → ((k : ℕ) → Has xs k → k < i) → n ≤ i → RiseFrom n (xs ++ i ∷ [])
rise_end n [] i rise below le = (le, tt)
rise_end n (x ∷ xs) i rise below le =
    let lt : x < i = below x (0, refl) in
    (rise.0, rise_end (suc x) xs i rise.1 (λ k h. below k (suc h.0, h.1)) (omega (arith, lt)))

has_end : (xs : List ℕ) (i k : ℕ) → ((n : ℕ) → Has xs n → n < i) → Has (xs ++ i ∷ []) k → k < i + 1
has_end [] i k below (zero, at) = (let e : i ≡ k = cc in omega (arith, e))
has_end [] i k below (suc n, at) = cc
has_end (x ∷ xs) i k below (zero, at) = (let e : x ≡ k = cc in let lt = below x (0, refl) in omega (arith, e, lt))
has_end (x ∷ xs) i k below (suc n, at) = has_end xs i k (λ m h. below m (suc h.0, h.1)) (n, at)

pub rise_more : (xs : List ℕ) (i : ℕ) → RiseBelow i xs → RiseBelow (i + 1) (xs ++ i ∷ [])
rise_more xs i rise = (rise_end 0 xs i rise.0 rise.1 (omega arith), λ k h. has_end xs i k rise.1 h)

pub rise_up : (m n : ℕ) (xs : List ℕ) → m ≤ n → RiseBelow m xs → RiseBelow n xs
rise_up m n xs le rise = (rise.0, λ k h. (let lt : k < m = rise.1 k h in omega (arith, lt, le)))
