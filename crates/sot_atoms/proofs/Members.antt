-- Which atoms a set has, and how it changes.
use Rattle.std.proofs.Common.{◌≡◌, ◌≢◌, ℕ, ◌+◌, ◌*◌, ◌<◌, ◌≤◌, ◌⊎◌, ⊎_elim, List, [], ◌∷◌}
use Rattle.std.proofs.Common.{Bool, false, IsTrue, ◌↔◌, length, slice_index, replicate, refl, sym, ap₂, ◌∙◌, subst, arith}
use Rattle.std.proofs.Math.ListN.{get_or-eq_default}
use Rattle.std.proofs.lemmas.List.{get_or-replicate, length-replicate}
use Rattle.std.proofs.lemmas.Nat.{same_from_place}
use Rattle.sot_atoms.specs.declared.axis.Axis.{Axis}
use Rattle.sot_atoms.specs.declared.block.Stretch.{Stretch}
use Rattle.sot_atoms.specs.Blocks.{IsInBlock, FitsAxes, number_from}
use Rattle.sot_atoms.specs.Rows.{Lacks, Fills}
use Rattle.sot_atoms.specs.Sets.{IsAtom, SetFits, AllMembers, StayOutside, IsPut, IsTaken}

-- a list of noughts has nothing else
abbrev pub noughts : ℕ → List ℕ
noughts n = replicate n 0

pub zeros : (n k : ℕ) (set : List ℕ) → set ≡ noughts n → slice_index set k ≡ 0
zeros n k set is = subst (λ (xs : List ℕ). slice_index xs k ≡ 0) (sym is) (⊎_elim (λ (lt : k < n). get_or-replicate n k 0 0 lt)
    (λ (le : n ≤ k). get_or-eq_default (noughts n) 0 (let l : length (noughts n) ≡ n = length-replicate n 0 in omega arith)) cases)
  where
    cases : (k < n) ⊎ (n ≤ k)
    cases = grind arith

pub small_zeros : (n : ℕ) (set : List ℕ) → set ≡ noughts n → (k : ℕ) → slice_index set k < 2
small_zeros n set is k = (let z = zeros n k set is in omega arith)

-- bytes below 2 stay so
pub small_filled : (byte : ℕ) (old new : List ℕ) (axes : List Axis) (block : List Stretch) → byte < 2 → ((k : ℕ) → slice_index old k < 2)
    → Fills byte old new axes block 0 → (k : ℕ) → slice_index new k < 2
small_filled byte old new axes block small was f k =
    ⊎_elim (λ same. subst (λ n. n < 2) (sym same) (was k)) (λ is. subst (λ n. n < 2) (sym is) small) (f.either k)

module _ (axes : List Axis) (set : List ℕ) (block : List Stretch) where
  pub all_from_lacks : (b : Bool) → ((k : ℕ) → slice_index set k < 2) → (IsTrue b ↔ Lacks 0 set axes block 0) → IsTrue b ↔ AllMembers axes set block
  all_from_lacks b small t = (
    λ is at inside. one (number_from 0 axes at) (t.0 is at inside),
    λ all. t.1 (λ at inside e. let m = all at inside in absurd (omega arith)),
  )
    where
      one : (k : ℕ) → slice_index set k ≢ 0 → slice_index set k ≡ 1
      one k ne = (let s = small k in omega (arith, ne))

  -- where a set does not fit, nothing is said
  pub fails_unfit : (r : Bool) (P : Type 0) → (IsTrue r ↔ SetFits axes set block) → r ≡ false → SetFits axes set block → P
  fails_unfit r P t no' fit = absurd (let yes' = t.1 fit in cc)

-- an atom has its number alone
number_same : (xs : List Axis) (m n : ℕ) (a b : List ℕ) → IsAtom xs a → IsAtom xs b → number_from m xs a ≡ number_from n xs b → (m ≡ n) × (a ≡ b)
number_same [] m n [] [] ia ib e = (e, refl)
number_same (x ∷ xs) m n (c ∷ a) (d ∷ b) ia ib e =
    let rest = number_same xs (m * x.size + c) (n * x.size + d) a b ia.1 ib.1 e in
    let first = same_from_place m c n d x.size ia.0 ib.0 rest.0 in
    (first.0, ap₂ (λ z zs. z ∷ zs) first.1 rest.1)
number_same [] m n (c ∷ a) b ia ib e = absurd ia
number_same [] m n [] (d ∷ b) ia ib e = absurd ib
number_same (x ∷ xs) m n [] b ia ib e = absurd ia
number_same (x ∷ xs) m n (c ∷ a) [] ia ib e = absurd ib

-- what is in a block is an atom
block_atom : (xs : List Axis) (rs : List Stretch) (a : List ℕ) → FitsAxes xs rs → IsInBlock rs a → IsAtom xs a
block_atom [] [] [] fits inside = tt
block_atom (x ∷ xs) (r ∷ rs) (c ∷ a) fits inside = (omega (arith, inside.1, fits.1), block_atom xs rs a fits.2 inside.2)
block_atom [] [] (c ∷ a) fits inside = absurd inside
block_atom (x ∷ xs) (r ∷ rs) [] fits inside = absurd inside
block_atom [] (r ∷ rs) a fits inside = absurd fits
block_atom (x ∷ xs) [] a fits inside = absurd fits

module _ (axes : List Axis) (old new : List ℕ) (block : List Stretch) (fits : FitsAxes axes block) where
  stay : (byte : ℕ) → Fills byte old new axes block 0 → StayOutside axes old new block
  stay byte f at atom out =
      let same = f.outside (number_from 0 axes at) (λ other inside e. out (subst (λ a. IsInBlock block a)
      (number_same axes 0 0 other at (block_atom axes block other fits inside) atom e).1 inside)) in
      (λ m. sym same ∙ m, λ m. same ∙ m)

  pub put_by : Fills 1 old new axes block 0 → IsPut axes old new block
  put_by f = record { inside = f.inside; outside = stay 1 f }

  pub taken_by : Fills 0 old new axes block 0 → IsTaken axes old new block
  taken_by f = record {
    inside = λ at inside m. let z = f.inside at inside in absurd (omega arith);
    outside = stay 0 f;
  }
