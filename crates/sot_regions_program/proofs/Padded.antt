-- Lists of cells with none behind them.
use Rattle.std.proofs.Common.{◌≡◌, ℕ, ◌+◌, ◌⊎◌, inl, inr, List, [], ◌∷◌, ◌++◌, length, Option, None, Some, refl, sym, ap, subst, arith}
use Rattle.std.proofs.lemmas.List.{length-append}
use Rattle.std.proofs.lemmas.Option.{none-some}
use Rattle.sot_lists.specs.Places.{At}
use Rattle.sot_lists.proofs.Places.{at_front}
use Rattle.sot_lang.specs.declared.cert.Cells.{Cells}
use Rattle.sot_regions_program.specs.Steps.{ArePadded}
use Rattle.sot_regions_program.proofs.Boxes.{last_or}

pub none_behind : (cells : List (Option Cells)) → ArePadded cells cells (length cells)
none_behind cells = record { count_is = refl; has = λ m c at. at; own = λ m c at. at }

-- one none more
pub one_behind : (cells all after : List (Option Cells)) (k : ℕ) → ArePadded cells all k → after ≡ all ++ None ∷ [] → ArePadded cells after (k + 1)
one_behind cells all after k padded is =
    let counted = padded.count_is in
    let longer = ap length is in
    record {
      count_is = omega (arith, counted, longer, length-append all (None ∷ []));
      has = λ m c at. subst (λ (os : List (Option Cells)). At os m (Some c)) (sym is) (at_front all (None ∷ []) m (Some c) (padded.has m c at));
      own = λ m c at. by m c (last_or all None m (Some c) (subst (λ (os : List (Option Cells)). At os m (Some c)) is at));
    }
  where
    by : (m : ℕ) (c : Cells) → At all m (Some c) ⊎ ((m ≡ length all) × (None ≡ Some c)) → At cells m (Some c)
    by m c (inl before) = padded.own m c before
    by m c (inr (last, same)) = absurd (none-some c same)
