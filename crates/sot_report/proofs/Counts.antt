-- The cells of a certificate are few.
use Rattle.std.proofs.Common.{◌≡◌, ℕ, suc, ◌+◌, ◌*◌, ◌<◌, ◌≤◌, Option, None, Some, List, [], ◌∷◌, length, drop, drop-cons, add-one, get_or, refl, sym, ap, ap₂}
use Rattle.std.proofs.Common.{◌∙◌, arith}
use Rattle.std.proofs.lemmas.Option.{slice_get_within}
use Rattle.sot_lists.proofs.Places.{at_below}
use Rattle.sot_lang.specs.declared.cert.Cells.{Cells}
use Rattle.sot_lang.specs.declared.cert.Cert.{Cert}
use Rattle.sot_lang.specs.Tables.{Tables}
use Rattle.sot_lang.specs.CertRules.{FitsTables}
use Rattle.sot_report.specs.AcceptedTexts.{entry_count, cell_count}
use Rattle.sot_report.specs.Counts.{AreFew}

-- the entries of a certificate that fits have at most 8,192 cells each
pub fits_few : (p : Tables) (cert : Cert) → FitsTables p cert → AreFew cert.modules.items
fits_few p cert fits m None at = omega arith
fits_few p cert fits m (Some cells) at =
    let there = at_below p.modules m (omega (arith, slice_get_within cert.modules.items m (Some cells) at, fits.entries)) in
    let closed = (fits.closed m there.0 cells there.1 at).boxes in
    let reach = (fits.reach m there.0 cells there.1 at).boxes in
    omega (arith, closed, reach)

few_rest : (x : Option Cells) (xs : List (Option Cells)) → AreFew (x ∷ xs) → AreFew xs
few_rest x xs few m y at = few (suc m) y at

-- together they have at most so many each
pub few_cells : (xs : List (Option Cells)) → AreFew xs → cell_count xs ≤ 8192 * length xs
few_cells [] few = omega arith
few_cells (x ∷ xs) few = (let here = few 0 x refl in let rest = few_cells xs (few_rest x xs few) in omega (arith, here, rest))

-- one more entry does not make too many
pub few_so_far : (xs : List (Option Cells)) (i count : ℕ) (x : Option Cells) → AreFew xs → length xs ≤ 100 → i < length xs → x ≡ get_or xs i x
    → count + cell_count (drop i xs) ≡ cell_count xs
    → count + entry_count x ≤ 819200
few_so_far xs i count x few short lt is counted =
    let next : drop i xs ≡ x ∷ drop (i + 1) xs = drop-cons xs i x lt ∙ ap₂ (λ y n. y ∷ drop n xs) (sym is) (sym (add-one i)) in
    omega (arith, counted, short, few_cells xs few, ap cell_count next)
