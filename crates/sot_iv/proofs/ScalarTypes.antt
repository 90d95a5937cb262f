-- The types of some scalars, one more at a time.
use Rattle.std.proofs.Common.{◌≡◌, ℕ, suc, ◌+◌, ◌<◌, ℤ, List, [], ◌∷◌, ◌++◌, map, take, length, get_or, arith, refl, sym, ap, ◌∙◌, w64, SFits, to_z, of_z}
use Rattle.std.proofs.lemmas.Int.{to_z-of_z}
use Rattle.std.proofs.lemmas.List.{append_assoc, map-append}
use Rattle.std.proofs.Math.Seq.{take-suc}
use Rattle.sot_box.specs.Sides.{Side}
use Rattle.sot_lists.specs.Places.{At}
use Rattle.sot_lang.specs.declared.tables.ScalarInfo.{ScalarInfo}
use Rattle.sot_lang.specs.Ranges.{range_of}
use Rattle.sot_lang.proofs.Owners.{range_at}

-- an interval of words is the interval of their numbers
pub word_side : (lo hi : ℤ) → SFits w64 lo → SFits w64 hi
    → (let s : Side = record { lo = to_z w64 (of_z w64 lo); hi = to_z w64 (of_z w64 hi) } in s) ≡ record { lo = lo; hi = hi }
word_side lo hi a b = rw (to_z-of_z w64 lo a, to_z-of_z w64 hi b) refl

-- one scalar further
pub types_more : (infos : List ScalarInfo) (scalars : List ℕ) (i : ℕ) (info : ScalarInfo) (front sides new : List Side) → i < length scalars
    → At infos (get_or scalars i 0) info
    → sides ≡ front ++ map (range_of infos) (take i scalars) → new ≡ sides ++ record { lo = info.lo; hi = info.hi } ∷ []
    → new ≡ front ++ map (range_of infos) (take (i + 1) scalars)
types_more infos scalars i info front sides new lt at before is =
    let up : suc i ≡ i + 1 = omega arith in
    is
    ∙ ap (λ s. sides ++ s ∷ []) (sym (range_at infos (get_or scalars i 0) info at))
    ∙ ap (λ l. l ++ range_of infos (get_or scalars i 0) ∷ []) before
    ∙ append_assoc front (map (range_of infos) (take i scalars)) (range_of infos (get_or scalars i 0) ∷ [])
    ∙ ap (λ l. front ++ l)
    (sym (map-append (range_of infos) (take i scalars) (get_or scalars i 0 ∷ []))
    ∙ ap (map (range_of infos)) (sym (take-suc scalars i 0 lt))
    ∙ ap (λ n. map (range_of infos) (take n scalars)) up)
