-- What was read of a part, and what the value that holds it says.
use Rattle.std.proofs.Common.{◌≡◌, ℕ, List, Result, Ok, Err, Option, Some, None, refl, sym, ap, ◌∙◌}
use Rattle.serde_json.specs.Data.{Data}
use Rattle.sot_json.specs.declared.fault.JsonFail.{JsonFail}
use Rattle.sot_json.specs.declared.fault.JsonFail.TheVariants as fails
use Rattle.sot_json.specs.declared.fault.JsonKind.TheVariants.{Missing}
use Rattle.sot_json.specs.Says.{Says, ◌>>=◌, or, under, part}
use Rattle.sot_json.specs.Answers.{Fails, Gives, IsUnder, IsHere}
use Rattle.sot_json.specs.Parts.{IsPart}

pub under_fails : {A : Type 0} (e r : JsonFail) (name : List ℕ) (says : Says A) → IsUnder name e r → Fails e says → Fails r (part name says)
under_fails e fails.Memory name says below h = tt
under_fails (fails.Fault g) (fails.Fault k) name says below h = rw h (ap Err (sym below))
under_fails fails.Memory (fails.Fault k) name says below h = absurd below

pub part_gives : {X Y : Type 0} (see : X → Y) (name : List ℕ) (r s : Result X JsonFail) (says : Says Y) → IsPart name r s → Gives see r says
    → Gives see s (part name says)
part_gives see name (Ok x) s says is h = rw (is, h) refl
part_gives see name (Err e) (Ok y) says is h = absurd is
part_gives see name (Err e) (Err r) says is h = under_fails e r name says is h

-- no value stands under that name
pub lacks : (e r : JsonFail) (name : List ℕ) (o : Option Data) → o ≡ None → IsUnder name e r → IsHere Missing e → Fails r (part name (or Missing o))
lacks e fails.Memory name o is below h = tt
lacks (fails.Fault g) (fails.Fault k) name o is below h = rw is (ap Err (ap (under name) (sym h) ∙ sym below))
lacks fails.Memory (fails.Fault k) name o is below h = absurd below

pub lacking : {A : Type 0} (r : JsonFail) (name : List ℕ) (f : Data → Says A) (o : Option Data) → Fails r (part name (or Missing o))
    → Fails r (part name (or Missing o >>= f))
lacking fails.Memory name f o h = tt
lacking (fails.Fault k) name f None h = cc
lacking (fails.Fault k) name f (Some d) h = cc

-- the value d stands there, and was read
pub found_there : {X Y : Type 0} (see : X → Y) (name : List ℕ) (f : Data → Says Y) (o : Option Data) (d : Data) (r s : Result X JsonFail)
    → part name (or Missing o) ≡ Ok d → IsPart name r s → Gives see r (f d) → Gives see s (part name (or Missing o >>= f))
found_there see name f None d r s is p h = cc
found_there see name f (Some e) d r s is p h =
    let same : e ≡ d = cc in
    rw same (part_gives see name r s (f d) p h)
