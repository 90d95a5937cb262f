-- What stands behind values that were read.
use Rattle.std.proofs.Common.{◌≡◌, ℕ, ◌+◌, ◌<◌, ◌≤◌, ◌⊎◌, ⊎_elim, ℤ, List, [], length, Ok, ap, arith}
use Rattle.std.specs.Prelude.{◌==◌}
use Rattle.std.proofs.lemmas.Bool.{eqb-true}
use Rattle.serde_json.specs.Data.{Data, Members}
use Rattle.serde_json.specs.Events.{items_len}
use Rattle.serde_json.specs.Find.{as_array}
use Rattle.sot_json.specs.declared.fault.JsonKind.TheVariants.{WrongShape, Width}
use Rattle.sot_json.specs.Says.{or, unless}
use Rattle.sot_json.specs.Json.{at}
use Rattle.sot_cert.specs.CertFormat.{number}
use Rattle.sot_json.proofs.Binds.{bind_ok, unless_ok}
use Rattle.sot_cert.proofs.Sides.{each_len}
use Rattle.sot_cert.proofs.Fits.{at_ok}
use Rattle.sot_flight.specs.ListForms.{numbers}

pub numbers_len : (width : ℕ) (d : Data) (xs : List ℤ) → numbers width d ≡ Ok xs → length xs ≡ width
unfolding numbers
numbers_len width d xs h =
    let ds = bind_ok (or WrongShape (as_array d)) _ xs h in
    let ok = bind_ok (unless Width (items_len ds.0 == width)) _ xs ds.2 in
    let n : items_len ds.0 ≡ width = eqb-true _ _ (unless_ok Width _ _ ok.1) in
    let l : length xs ≡ length {A = ℤ} [] + items_len ds.0 = each_len number [] ds.0 xs ok.2 in
    omega (arith, l, n)

-- as many numbers as a point may have make one
pub point_there : (name : List ℕ) (width : ℕ) (ms : Members) (xs ys : List ℤ) → at name (numbers width) ms ≡ Ok xs → ys ≡ xs → 1 ≤ width → width ≤ 4
    → (length ys ≡ 0) ⊎ (4 < length ys) → ⊥
point_there name width ms xs ys h same some few no_point =
    let d = at_ok name (numbers width) ms xs h in
    let size = numbers_len width d.0 xs d.1 in
    ⊎_elim (λ none. absurd (omega (arith, size, none, ap length same))) (λ many. absurd (omega (arith, size, many, ap length same))) no_point
